-- lists and their places
use Rattle.std.proofs.Common.{◌≡◌, ◌≢◌, ℕ, zero, suc, ◌<◌, Some, List, [], ◌∷◌, ◌++◌, length, map, reverse, take, drop, slice_get, refl, sym, ap, ◌∙◌, arith}
use Rattle.std.specs.Prelude.{OnErr, Result, Ok, Err}
use Rattle.std.proofs.lemmas.Option.{same_Some, slice_get_within}
use Rattle.std.proofs.lemmas.List.{length_push, map-append, reverse-append}

module _ {X : Type 0} where
  -- an element of a list that one was pushed to
  pub get_front : (xs : List X) (x : X) (i : ℕ) → i < length xs → slice_get (xs ++ x ∷ []) i ≡ slice_get xs i
  get_front [] x i within = absurd (omega (arith, within))
  get_front (y ∷ ys) x zero within = refl
  get_front (y ∷ ys) x (suc i) within = let w : i < length ys = omega arith in get_front ys x i w

  pub get_last : (xs : List X) (x : X) → slice_get (xs ++ x ∷ []) (length xs) ≡ Some x
  get_last [] x = refl
  get_last (y ∷ ys) x = get_last ys x

  pub at_front : (xs : List X) (x y : X) (i : ℕ) → i ≢ length xs → slice_get (xs ++ x ∷ []) i ≡ Some y → slice_get xs i ≡ Some y
  at_front xs x y i other at =
      let within : i < length (xs ++ x ∷ []) = slice_get_within (xs ++ x ∷ []) i y at in
      let low : i < length xs = omega (arith, within, length_push xs x, other) in
      sym (get_front xs x i low) ∙ at

  pub at_last : (xs : List X) (x y : X) (i : ℕ) → i ≡ length xs → slice_get (xs ++ x ∷ []) i ≡ Some y → y ≡ x
  at_last xs x y i same at = sym (same_Some x y (sym (get_last xs x) ∙ sym (ap (slice_get (xs ++ x ∷ [])) same) ∙ at))

  -- the element that was taken off the end
  pub popped_at : (all rest : List X) (x : X) (n : ℕ) → all ≡ rest ++ x ∷ [] → n ≡ length rest → slice_get all n ≡ Some x
  popped_at all rest x n parts is = ap (λ (zs : List X). slice_get zs n) parts ∙ ap (slice_get (rest ++ x ∷ [])) is ∙ get_last rest x

  pub rest_at : (all rest : List X) (x y : X) (n : ℕ) → all ≡ rest ++ x ∷ [] → slice_get rest n ≡ Some y → slice_get all n ≡ Some y
  rest_at all rest x y n parts at = ap (λ (zs : List X). slice_get zs n) parts ∙ get_front rest x n (slice_get_within rest n y at) ∙ at

  -- an element in its place
  pub there : (xs : List X) (i : ℕ) → i < length xs → (x : X) × (slice_get xs i ≡ Some x)
  there [] i within = absurd (omega (arith, within))
  there (x ∷ xs) zero within = (x, refl)
  there (x ∷ xs) (suc i) within = let w : i < length xs = omega arith in there xs i w

  pub same_at : (xs : List X) (i : ℕ) (x y : X) → slice_get xs i ≡ Some x → slice_get xs i ≡ Some y → y ≡ x
  same_at xs i x y at_x at_y = same_Some y x (sym at_y ∙ at_x)

  -- the next element of a list that is gone through
  pub taken_one : (all rest : List X) (n : ℕ) (x : X) → x ∷ rest ≡ drop n all → take (suc n) all ≡ take n all ++ x ∷ []
  taken_one [] rest zero x left = absurd (cc)
  taken_one [] rest (suc n) x left = absurd (cc)
  taken_one (y ∷ all) rest zero x left = let same : y ≡ x = (cc) in ap (λ (z : X). z ∷ []) same
  taken_one (y ∷ all) rest (suc n) x left = ap (λ (zs : List X). y ∷ zs) (taken_one all rest n x left)

  pub left_one : (all rest : List X) (n : ℕ) (x : X) → x ∷ rest ≡ drop n all → rest ≡ drop (suc n) all
  left_one [] rest zero x left = absurd (cc)
  left_one [] rest (suc n) x left = absurd (cc)
  left_one (y ∷ all) rest zero x left = (cc)
  left_one (y ∷ all) rest (suc n) x left = left_one all rest n x left

  pub at_next : (all rest : List X) (n : ℕ) (x : X) → x ∷ rest ≡ drop n all → slice_get all n ≡ Some x
  at_next [] rest zero x left = absurd (cc)
  at_next [] rest (suc n) x left = absurd (cc)
  at_next (y ∷ all) rest zero x left = let same : y ≡ x = (cc) in ap Some same
  at_next (y ∷ all) rest (suc n) x left = at_next all rest n x left

  pub taken_length : (all rest : List X) (n : ℕ) (x : X) → x ∷ rest ≡ drop n all → length (take n all) ≡ n
  taken_length [] rest zero x left = refl
  taken_length [] rest (suc n) x left = absurd (cc)
  taken_length (y ∷ all) rest zero x left = refl
  taken_length (y ∷ all) rest (suc n) x left = ap suc (taken_length all rest n x left)

  pub all_taken : (all : List X) (n : ℕ) → [] ≡ drop n all → take n all ≡ all
  all_taken [] zero none = refl
  all_taken [] (suc n) none = refl
  all_taken (y ∷ all) zero none = absurd (cc)
  all_taken (y ∷ all) (suc n) none = ap (λ (zs : List X). y ∷ zs) (all_taken all n none)

-- the next of a list whose rest is kept the other way round
pub next_of : {X : Type 0} (all stack rest : List X) (n : ℕ) (x : X) → reverse stack ≡ drop n all → stack ≡ rest ++ x ∷ [] → x ∷ reverse rest ≡ drop n all
next_of all stack rest n x left parts = sym (reverse-append rest (x ∷ [])) ∙ ap reverse (sym parts) ∙ left

-- what a list shows of its first elements, and of one more
pub shown_one : {X Y : Type 0} (all rest : List X) (n : ℕ) (x : X) → x ∷ rest ≡ drop n all → (f : X → Y) → map f (take (suc n) all) ≡ map f (take n all) ++ f x ∷ []
shown_one all rest n x left f = ap (map f) (taken_one all rest n x left) ∙ map-append f (take n all) (x ∷ [])

-- what two lists show alike, place for place
pub same_maps : {X Y : Type 0} (f : X → Y) (xs ys : List X) → length ys ≡ length xs
    → ((i : ℕ) (x y : X) → slice_get xs i ≡ Some x → slice_get ys i ≡ Some y → f y ≡ f x) → map f ys ≡ map f xs
same_maps f [] [] long each = refl
same_maps f [] (y ∷ ys) long each = absurd (omega (arith, long))
same_maps f (x ∷ xs) [] long each = absurd (omega (arith, long))
same_maps {X} {Y} f (x ∷ xs) (y ∷ ys) long each =
    let less : length ys ≡ length xs = omega arith in
    ap (λ (z : Y). z ∷ map f ys) (each zero x y refl refl) ∙ ap (λ (zs : List Y). f x ∷ zs) (same_maps f xs ys less (λ i. each (suc i)))

-- what holds anyway holds of a refusal
pub on_err : {T E : Type 0} (r : Result T E) (P : Type 0) → P → OnErr r P
on_err (Ok x) P holds = tt
on_err (Err e) P holds = holds
