-- what stands at a place of a list
use Rattle.std.proofs.Common.{◌≡◌, ◌≢◌, ℕ, zero, suc, ◌<◌, List, [], ◌∷◌, ◌++◌, length, set, Option, Some, refl, sym, ap, ◌∙◌, inl, inr, ⊎_elim, arith}
use Rattle.std.specs.Prelude.{◌⊎◌, slice_get}

module _ {X : Type 0} where
  -- what stands in a list that grew by one stood there, or is the new one
  pub get_push : (xs : List X) (x y : X) (q : ℕ) → slice_get (xs ++ x ∷ []) q ≡ Some y → (slice_get xs q ≡ Some y) ⊎ ((q ≡ length xs) × (y ≡ x))
  get_push [] x y zero e = let is : x ≡ y = cc in inr (refl, sym is)
  get_push [] x y (suc q) e = absurd (cc)
  get_push (z ∷ xs) x y zero e = inl e
  get_push (z ∷ xs) x y (suc q) e = ⊎_elim (λ old. inl old) (λ (t : (q ≡ length xs) × (y ≡ x)). inr (ap suc t.0, t.1)) (get_push xs x y q e)

  -- what stands in a list of which one place was written was written there, or stood there before
  pub get_set : (xs : List X) (i : ℕ) (v y : X) (q : ℕ) → slice_get (set xs i v) q ≡ Some y → ((q ≡ i) × (y ≡ v)) ⊎ ((q ≢ i) × (slice_get xs q ≡ Some y))
  get_set [] i v y q e = absurd (cc)
  get_set (x ∷ xs) zero v y zero e = let is : v ≡ y = cc in inl (refl, sym is)
  get_set (x ∷ xs) zero v y (suc q) e = inr (λ n. omega (arith, n), e)
  get_set (x ∷ xs) (suc i) v y zero e = inr (λ n. omega (arith, n), e)
  get_set (x ∷ xs) (suc i) v y (suc q) e = ⊎_elim
      (λ (t : (q ≡ i) × (y ≡ v)). inl (ap suc t.0, t.1))
      (λ (t : (q ≢ i) × (slice_get xs q ≡ Some y)). inr (λ n. t.0 (omega (arith, n)), t.1))
      (get_set xs i v y q e)

  pub get_low : (xs : List X) (q : ℕ) (x : X) → slice_get xs q ≡ Some x → q < length xs
  get_low [] q x e = absurd (cc)
  get_low (y ∷ xs) zero x e = omega arith
  get_low (y ∷ xs) (suc q) x e = let low = get_low xs q x e in omega (arith, low)

  pub get_some : (xs : List X) (q : ℕ) → q < length xs → (x : X) × (slice_get xs q ≡ Some x)
  get_some [] q low = absurd (omega (arith, low))
  get_some (x ∷ xs) zero low = (x, refl)
  get_some (x ∷ xs) (suc q) low = get_some xs q (omega (arith, low))

  -- one place has one thing
  pub one : (a b : X) (o : Option X) → o ≡ Some a → o ≡ Some b → a ≡ b
  one a b o e f = let both : Some a ≡ Some b = sym e ∙ f in cc
