-- lists beside each other, and lists with one more at the end
use Rattle.std.proofs.Common.{◌≡◌, ℕ, zero, suc, Option, Some, List, [], ◌∷◌, ◌++◌, length, map, slice_get, ap, ◌∙◌, subst, arith, inl, inr}
use Rattle.std.specs.Prelude.{All}
use Rattle.std.proofs.lemmas.List.{map-append}
use Rattle.std.proofs.lemmas.List.Elements.{All-push}
use Rattle.std.proofs.lemmas.Option.{slice_get_cases, slice_get_within}

pub same_some : {X : Type 0} (x y : X) → ◌≡◌ {A = Option X} (Some x) (Some y) → x ≡ y
same_some x y e = cc

-- in a list as long as another something stands where something stands there
pub was : {X Y : Type 0} (xs : List X) (ys : List Y) (i : ℕ) (y : Y) → length ys ≡ length xs → slice_get ys i ≡ Some y → (x : X) × (slice_get xs i ≡ Some x)
was xs ys i y long at = elim (slice_get_cases xs i).1 [
  | inl (x, within, there, read) ↦ (x, there)
  | inr (past, none) ↦ absurd (omega (arith, slice_get_within ys i y at, long, past))
]

-- what holds at each place, and of one more behind the last, holds at each place
pub at_last : {X : Type 0} (P : ℕ → X → Type 0) (xs : List X) (x : X) → ((i : ℕ) (y : X) → slice_get xs i ≡ Some y → P i y) → P (length xs) x → (i : ℕ) (y : X) → slice_get (xs ++ x ∷ []) i ≡ Some y → P i y
at_last P [] x each last zero y at = let e : x ≡ y = cc in subst (P 0) e last
at_last P [] x each last (suc i) y at = absurd (cc)
at_last P (z ∷ zs) x each last zero y at = each 0 y at
at_last P (z ∷ zs) x each last (suc i) y at = at_last (λ k w. P (suc k) w) zs x (λ k w e. each (suc k) w e) last i y at

pub map_push : {X Y : Type 0} (f : X → Y) (xs ys : List X) (x : X) → ys ≡ xs ++ x ∷ [] → map f ys ≡ map f xs ++ f x ∷ []
map_push f xs ys x e = ap (map f) e ∙ map-append f xs (x ∷ [])

-- one more, of which the same holds
pub all_more : {X : Type 0} (xs : List X) (x : X) (P : X → Type 0) → All P xs → P x → All P (xs ++ x ∷ [])
all_more xs x P each last = All-push P xs x each last
