-- lists in which an element is found by a test
use Rattle.std.proofs.Common.{◌≡◌, ℕ, ◌+◌, ◌*◌, ◌≤◌, Bool, true, false, not, cond, Option, Some, None, List, [], ◌∷◌, ◌++◌, length, filter, find, sum_by, option_map, option_to_list, refl, sym, ap, ◌∙◌, subst, ⊎_elim, mul-add, arith}
use Rattle.std.proofs.lemmas.Bool.{cases_Bool, cond-true, cond-false}
use Rattle.std.proofs.lemmas.List.Sums.{sum_by-cons, sum_by-append}
use Rattle.std.specs.List.{position_or_len, AllByRecursion}
use Rattle.std.specs.Option.{option_map_or}
use Rattle.queue_model.specs.Keyed.{alter, Apart}

module _ {X : Type 0} where
  -- What is found

  -- the first element passes
  pub find-here : (p : X → Bool) (x : X) (xs : List X) → p x ≡ true → find p (x ∷ xs) ≡ Some x
  find-here p x xs hit = cond-true (p x) (Some x) (find p xs) hit

  -- the first element does not pass
  pub find-past : (p : X → Bool) (x : X) (xs : List X) → p x ≡ false → find p (x ∷ xs) ≡ find p xs
  find-past p x xs miss = cond-false (p x) (Some x) (find p xs) miss

  -- what is found passes
  pub find_passes : (p : X → Bool) (xs : List X) (y : X) → find p xs ≡ Some y → p y ≡ true
  find_passes p [] y e = absurd (cc)
  find_passes p (x ∷ xs) y e = ⊎_elim
      (λ (hit : p x ≡ true). let same : Some x ≡ Some y = sym (find-here p x xs hit) ∙ e in let t : x ≡ y = cc in ap p (sym t) ∙ hit)
      (λ (miss : p x ≡ false). find_passes p xs y (sym (find-past p x xs miss) ∙ e))
      (cases_Bool (p x))

  -- where nothing is found the first element does not pass
  pub find_none-head : (p : X → Bool) (x : X) (xs : List X) → find p (x ∷ xs) ≡ None → p x ≡ false
  find_none-head p x xs e = ⊎_elim
      (λ (hit : p x ≡ true). let bad : Some x ≡ None = sym (find-here p x xs hit) ∙ e in absurd (cc))
      (λ (miss : p x ≡ false). miss)
      (cases_Bool (p x))

  -- nor anything behind it
  pub find_none-tail : (p : X → Bool) (x : X) (xs : List X) → find p (x ∷ xs) ≡ None → find p xs ≡ None
  find_none-tail p x xs e = sym (find-past p x xs (find_none-head p x xs e)) ∙ e

  -- nothing is found where no element passes
  pub find_none-cons : (p : X → Bool) (x : X) (xs : List X) → p x ≡ false → find p xs ≡ None → find p (x ∷ xs) ≡ None
  find_none-cons p x xs miss e = find-past p x xs miss ∙ e

  -- a test that only passes what another passes finds nothing where the other finds nothing
  pub find_none-weaker : (p q : X → Bool) (xs : List X) → ((z : X) → q z ≡ false → p z ≡ false) → find q xs ≡ None → find p xs ≡ None
  find_none-weaker p q [] weaker e = refl
  find_none-weaker p q (x ∷ xs) weaker e =
      find_none-cons p x xs (weaker x (find_none-head q x xs e)) (find_none-weaker p q xs weaker (find_none-tail q x xs e))

  -- what is found in the front is found in the whole
  pub find-append : (p : X → Bool) (xs ys : List X) (y : X) → find p xs ≡ Some y → find p (xs ++ ys) ≡ Some y
  find-append p [] ys y e = absurd (cc)
  find-append p (x ∷ xs) ys y e = ⊎_elim
      (λ (hit : p x ≡ true). find-here p x (xs ++ ys) hit ∙ sym (find-here p x xs hit) ∙ e)
      (λ (miss : p x ≡ false). find-past p x (xs ++ ys) miss ∙ find-append p xs ys y (sym (find-past p x xs miss) ∙ e))
      (cases_Bool (p x))

  -- a new element at the end is found where none passed before
  pub find-push : (p : X → Bool) (xs : List X) (y : X) → find p xs ≡ None → p y ≡ true → find p (xs ++ y ∷ []) ≡ Some y
  find-push p [] y e passes = find-here p y [] passes
  find-push p (x ∷ xs) y e passes =
      find-past p x (xs ++ y ∷ []) (find_none-head p x xs e) ∙ find-push p xs y (find_none-tail p x xs e) passes

  -- a new element at the end that does not pass changes nothing
  pub find-push_other : (p : X → Bool) (xs : List X) (y : X) → p y ≡ false → find p (xs ++ y ∷ []) ≡ find p xs
  find-push_other p [] y fails = find-past p y [] fails
  find-push_other p (x ∷ xs) y fails = ap (λ (o : Option X). cond (p x) (Some x) o) (find-push_other p xs y fails)

  -- what is found, and passes another test, is found among what passes that test
  pub find-filter : (p t : X → Bool) (xs : List X) (y : X) → find p xs ≡ Some y → t y ≡ true → find p (filter t xs) ≡ Some y
  find-filter p t [] y e passes = absurd (cc)
  find-filter p t (x ∷ xs) y e passes = ⊎_elim
      (λ (hit : p x ≡ true).
      let same : Some x ≡ Some y = sym (find-here p x xs hit) ∙ e in
      let s : x ≡ y = cc in
      ap (find p) (cond-true (t x) (x ∷ filter t xs) (filter t xs) (ap t s ∙ passes)) ∙ find-here p x (filter t xs) hit ∙ same)
      (λ (miss : p x ≡ false).
      let rest : find p (filter t xs) ≡ Some y = find-filter p t xs y (sym (find-past p x xs miss) ∙ e) passes in
      elim (t x) as (λ b. find p (cond b (x ∷ filter t xs) (filter t xs)) ≡ Some y) [ true ↦ find-past p x (filter t xs) miss ∙ rest | false ↦ rest ])
      (cases_Bool (p x))

  -- nothing is found among fewer elements
  pub find_none-filter : (p t : X → Bool) (xs : List X) → find p xs ≡ None → find p (filter t xs) ≡ None
  find_none-filter p t [] e = refl
  find_none-filter p t (x ∷ xs) e =
      let rest : find p (filter t xs) ≡ None = find_none-filter p t xs (find_none-tail p x xs e) in
      elim (t x) as (λ b. find p (cond b (x ∷ filter t xs) (filter t xs)) ≡ None) [ true ↦ find_none-cons p x (filter t xs) (find_none-head p x xs e) rest | false ↦ rest ]

  -- what passes is found where only what fails is left out
  pub find-filter_other : (p t : X → Bool) (xs : List X) → ((x : X) → p x ≡ true → t x ≡ true) → find p (filter t xs) ≡ find p xs
  find-filter_other p t [] stays = refl
  find-filter_other p t (x ∷ xs) stays = ⊎_elim
      (λ (hit : p x ≡ true).
      ap (find p) (cond-true (t x) (x ∷ filter t xs) (filter t xs) (stays x hit)) ∙ find-here p x (filter t xs) hit ∙ sym (find-here p x xs hit))
      (λ (miss : p x ≡ false).
      let rest : find p (filter t xs) ≡ find p xs = find-filter_other p t xs stays in
      elim (t x) as (λ b. find p (cond b (x ∷ filter t xs) (filter t xs)) ≡ find p (x ∷ xs)) [
        | true ↦ find-past p x (filter t xs) miss ∙ rest ∙ sym (find-past p x xs miss)
        | false ↦ rest ∙ sym (find-past p x xs miss)
      ])
      (cases_Bool (p x))

  -- nothing is found where what passes is left out
  pub find-filter_not : (p : X → Bool) (xs : List X) → find p (filter (λ x. not (p x)) xs) ≡ None
  find-filter_not p [] = refl
  find-filter_not p (x ∷ xs) = ⊎_elim
      (λ (hit : p x ≡ true). ap (λ (b : Bool). find p (cond (not b) (x ∷ filter (λ z. not (p z)) xs) (filter (λ z. not (p z)) xs))) hit ∙ find-filter_not p xs)
      (λ (miss : p x ≡ false).
      ap (λ (b : Bool). find p (cond (not b) (x ∷ filter (λ z. not (p z)) xs) (filter (λ z. not (p z)) xs))) miss
      ∙ find-past p x (filter (λ z. not (p z)) xs) miss ∙ find-filter_not p xs)
      (cases_Bool (p x))

  -- What a change leaves

  -- the first element is the one that is changed
  pub alter-here : (p : X → Bool) (f : Option X → Option X) (x : X) (xs : List X) → p x ≡ true → alter p f (x ∷ xs) ≡ option_to_list (f (Some x)) ++ xs
  alter-here p f x xs hit = cond-true (p x) (option_to_list (f (Some x)) ++ xs) (x ∷ alter p f xs) hit

  -- the first element stays
  pub alter-past : (p : X → Bool) (f : Option X → Option X) (x : X) (xs : List X) → p x ≡ false → alter p f (x ∷ xs) ≡ x ∷ alter p f xs
  alter-past p f x xs miss = cond-false (p x) (option_to_list (f (Some x)) ++ xs) (x ∷ alter p f xs) miss

  -- where nothing is found what a change makes stands at the end
  pub alter-push : (p : X → Bool) (f : Option X → Option X) (xs : List X) (y : X) → find p xs ≡ None → f None ≡ Some y → alter p f xs ≡ xs ++ y ∷ []
  alter-push p f [] y none e = ap (λ (o : Option X). option_to_list o) e
  alter-push p f (x ∷ xs) y none e = alter-past p f x xs (find_none-head p x xs none) ∙ ap (λ (l : List X). x ∷ l) (alter-push p f xs y (find_none-tail p x xs none) e)

  -- and nothing changes where it makes nothing
  pub alter-none : (p : X → Bool) (f : Option X → Option X) (xs : List X) → find p xs ≡ None → f None ≡ None → alter p f xs ≡ xs
  alter-none p f [] none e = ap (λ (o : Option X). option_to_list o) e
  alter-none p f (x ∷ xs) none e = alter-past p f x xs (find_none-head p x xs none) ∙ ap (λ (l : List X). x ∷ l) (alter-none p f xs (find_none-tail p x xs none) e)

  -- what fails at the front is passed
  find-option : (q : X → Bool) (o : Option X) (xs : List X) → ((y : X) → o ≡ Some y → q y ≡ false) → find q (option_to_list o ++ xs) ≡ find q xs
  find-option q None xs fails = refl
  find-option q (Some y) xs fails = find-past q y xs (fails y refl)

  -- or alone finds nothing
  find-option_alone : (q : X → Bool) (o : Option X) → ((y : X) → o ≡ Some y → q y ≡ false) → find q (option_to_list o) ≡ None
  find-option_alone q None fails = refl
  find-option_alone q (Some y) fails = find-past q y [] (fails y refl)

  -- what a change makes is found by the same test, if it passes
  pub find-alter : (p : X → Bool) (f : Option X → Option X) (xs : List X) (y : X) → f (find p xs) ≡ Some y → p y ≡ true → find p (alter p f xs) ≡ Some y
  find-alter p f [] y e passes = ap (λ (o : Option X). find p (option_to_list o)) e ∙ find-here p y [] passes
  find-alter p f (x ∷ xs) y e passes = ⊎_elim
      (λ (hit : p x ≡ true).
      ap (find p) (alter-here p f x xs hit) ∙ ap (λ (o : Option X). find p (option_to_list o ++ xs)) (ap f (sym (find-here p x xs hit)) ∙ e) ∙ find-here p y xs passes)
      (λ (miss : p x ≡ false).
      ap (find p) (alter-past p f x xs miss) ∙ find-past p x (alter p f xs) miss ∙ find-alter p f xs y (ap f (sym (find-past p x xs miss)) ∙ e) passes)
      (cases_Bool (p x))

  -- what a change takes out is found no more, if no two elements that pass are apart
  pub find-alter_gone : (same : X → X → Bool) (p : X → Bool) (f : Option X → Option X) (xs : List X) → ((x z : X) → p x ≡ true → same x z ≡ false → p z ≡ false) → Apart same xs → f (find p xs) ≡ None → find p (alter p f xs) ≡ None
  find-alter_gone same p f [] tells apart e = ap (λ (o : Option X). find p (option_to_list o)) e
  find-alter_gone same p f (x ∷ xs) tells apart e = ⊎_elim
      (λ (hit : p x ≡ true).
      ap (find p) (alter-here p f x xs hit) ∙ ap (λ (o : Option X). find p (option_to_list o ++ xs)) (ap f (sym (find-here p x xs hit)) ∙ e)
      ∙ find_none-weaker p (same x) xs (λ z. tells x z hit) apart.0)
      (λ (miss : p x ≡ false).
      ap (find p) (alter-past p f x xs miss) ∙ find-past p x (alter p f xs) miss ∙ find-alter_gone same p f xs tells apart.1 (ap f (sym (find-past p x xs miss)) ∙ e))
      (cases_Bool (p x))

  -- a test that passes neither what is changed nor what it becomes finds what it found
  pub find-alter_other : (p q : X → Bool) (f : Option X → Option X) (xs : List X) → ((x : X) → p x ≡ true → q x ≡ false) → ((y : X) → f (find p xs) ≡ Some y → q y ≡ false) → find q (alter p f xs) ≡ find q xs
  find-alter_other p q f [] other fails = find-option_alone q (f None) fails
  find-alter_other p q f (x ∷ xs) other fails = ⊎_elim
      (λ (hit : p x ≡ true).
      ap (find q) (alter-here p f x xs hit) ∙ find-option q (f (Some x)) xs (λ y e. fails y (ap f (find-here p x xs hit) ∙ e)) ∙ sym (find-past q x xs (other x hit)))
      (λ (miss : p x ≡ false).
      ap (find q) (alter-past p f x xs miss) ∙ ap (λ (o : Option X). cond (q x) (Some x) o) (find-alter_other p q f xs other (λ y e. fails y (ap f (find-past p x xs miss) ∙ e))))
      (cases_Bool (p x))

  -- a test that finds nothing, and does not pass what the change makes, finds nothing afterwards
  pub find_none-alter : (p q : X → Bool) (f : Option X → Option X) (xs : List X) → find q xs ≡ None → ((y : X) → f (find p xs) ≡ Some y → q y ≡ false) → find q (alter p f xs) ≡ None
  find_none-alter p q f [] none fails = find-option_alone q (f None) fails
  find_none-alter p q f (x ∷ xs) none fails = ⊎_elim
      (λ (hit : p x ≡ true).
      ap (find q) (alter-here p f x xs hit) ∙ find-option q (f (Some x)) xs (λ y e. fails y (ap f (find-here p x xs hit) ∙ e)) ∙ find_none-tail q x xs none)
      (λ (miss : p x ≡ false).
      ap (find q) (alter-past p f x xs miss)
      ∙ find_none-cons q x (alter p f xs) (find_none-head q x xs none) (find_none-alter p q f xs (find_none-tail q x xs none) (λ y e. fails y (ap f (find-past p x xs miss) ∙ e))))
      (cases_Bool (p x))

  -- Sums

  -- the sum over what is there
  sum-option : (w : X → ℕ) (o : Option X) → sum_by w (option_to_list o) ≡ option_map_or w o 0
  sum-option w None = refl
  sum-option w (Some x) = omega (arith, sum_by-cons w x [])

  -- a change adds what it makes to a sum, and takes away what it found; no element needs to be apart
  pub sum-alter : (w : X → ℕ) (p : X → Bool) (f : Option X → Option X) (xs : List X) → sum_by w (alter p f xs) + option_map_or w (find p xs) 0 ≡ sum_by w xs + option_map_or w (f (find p xs)) 0
  sum-alter w p f [] = omega (arith, sum-option w (f None))
  sum-alter w p f (x ∷ xs) =
      elim (p x) as (λ b. sum_by w (cond b (option_to_list (f (Some x)) ++ xs) (x ∷ alter p f xs)) + option_map_or w (cond b (Some x) (find p xs)) 0 ≡ sum_by w (x ∷ xs) + option_map_or w (f (cond b (Some x) (find p xs))) 0) [
        | true ↦ omega (arith, sum_by-append w (option_to_list (f (Some x))) xs, sum-option w (f (Some x)), sum_by-cons w x xs)
        | false ↦ omega (arith, sum_by-cons w x (alter p f xs), sum_by-cons w x xs, sum-alter w p f xs)
      ]

  -- a sum is at most so many times another if each of its terms is
  pub sum_by-le-times : (f g : X → ℕ) (m : ℕ) (xs : List X) → AllByRecursion (λ x. f x ≤ m * g x) xs → sum_by f xs ≤ m * sum_by g xs
  sum_by-le-times f g m [] each = omega arith
  sum_by-le-times f g m (x ∷ xs) each =
      let rest : sum_by f xs ≤ m * sum_by g xs = sum_by-le-times f g m xs each.1 in
      omega (arith, sum_by-cons f x xs, ap (λ (n : ℕ). m * n) (sum_by-cons g x xs), mul-add m (g x) (sum_by g xs), each.0)

  -- What holds of each element

  -- what holds of each element holds of what is found
  pub all-find : (P : X → Type 0) (p : X → Bool) (xs : List X) (y : X) → AllByRecursion P xs → find p xs ≡ Some y → P y
  all-find P p [] y each e = absurd (cc)
  all-find P p (x ∷ xs) y each e = ⊎_elim
      (λ (hit : p x ≡ true). let same : Some x ≡ Some y = sym (find-here p x xs hit) ∙ e in let s : x ≡ y = cc in subst P s each.0)
      (λ (miss : p x ≡ false). all-find P p xs y each.1 (sym (find-past p x xs miss) ∙ e))
      (cases_Bool (p x))

  -- what holds of what is there and of the rest holds of all
  all-option : (P : X → Type 0) (o : Option X) (xs : List X) → ((y : X) → o ≡ Some y → P y) → AllByRecursion P xs → AllByRecursion P (option_to_list o ++ xs)
  all-option P None xs made each = each
  all-option P (Some y) xs made each = (made y refl, each)

  -- and of it alone
  all-option_alone : (P : X → Type 0) (o : Option X) → ((y : X) → o ≡ Some y → P y) → AllByRecursion P (option_to_list o)
  all-option_alone P None made = tt
  all-option_alone P (Some y) made = (made y refl, tt)

  -- what holds of each element and of what a change makes holds of each element afterwards
  pub all-alter : (P : X → Type 0) (p : X → Bool) (f : Option X → Option X) (xs : List X) → AllByRecursion P xs → ((y : X) → f (find p xs) ≡ Some y → P y) → AllByRecursion P (alter p f xs)
  all-alter P p f [] each made = all-option_alone P (f None) made
  all-alter P p f (x ∷ xs) each made = ⊎_elim
      (λ (hit : p x ≡ true). subst (AllByRecursion P) (sym (alter-here p f x xs hit)) (all-option P (f (Some x)) xs (λ y e. made y (ap f (find-here p x xs hit) ∙ e)) each.1))
      (λ (miss : p x ≡ false). subst (AllByRecursion P) (sym (alter-past p f x xs miss)) (each.0, all-alter P p f xs each.1 (λ y e. made y (ap f (find-past p x xs miss) ∙ e))))
      (cases_Bool (p x))

  -- and of one more at the end
  pub all-push : (P : X → Type 0) (xs : List X) (y : X) → AllByRecursion P xs → P y → AllByRecursion P (xs ++ y ∷ [])
  all-push P [] y each here = (here, tt)
  all-push P (x ∷ xs) y each here = (each.0, all-push P xs y each.1 here)

  -- and of fewer
  pub all-filter : (P : X → Type 0) (t : X → Bool) (xs : List X) → AllByRecursion P xs → AllByRecursion P (filter t xs)
  all-filter P t [] each = tt
  all-filter P t (x ∷ xs) each =
      let rest : AllByRecursion P (filter t xs) = all-filter P t xs each.1 in
      elim (t x) as (λ b. AllByRecursion P (cond b (x ∷ filter t xs) (filter t xs))) [ true ↦ (each.0, rest) | false ↦ rest ]

  -- what follows from it holds too
  pub all-weaker : (P Q : X → Type 0) (xs : List X) → ((x : X) → P x → Q x) → AllByRecursion P xs → AllByRecursion Q xs
  all-weaker P Q [] weaker each = tt
  all-weaker P Q (x ∷ xs) weaker each = (weaker x each.0, all-weaker P Q xs weaker each.1)

  -- Elements that are apart

  -- one element is apart
  apart-option_alone : (same : X → X → Bool) (o : Option X) → Apart same (option_to_list o)
  apart-option_alone same None = tt
  apart-option_alone same (Some y) = (refl, tt)

  -- one in front that finds none of the rest is apart from them
  apart-option : (same : X → X → Bool) (o : Option X) (xs : List X) → ((y : X) → o ≡ Some y → find (same y) xs ≡ None) → Apart same xs → Apart same (option_to_list o ++ xs)
  apart-option same None xs none apart = apart
  apart-option same (Some y) xs none apart = (none y refl, apart)

  -- a change that makes what its own test passes leaves the elements apart
  pub apart-alter : (same : X → X → Bool) (p : X → Bool) (f : Option X → Option X) (xs : List X)
      → ((x y : X) → p x ≡ false → p y ≡ true → same x y ≡ false)
      → ((x y z : X) → p x ≡ true → p y ≡ true → same x z ≡ false → same y z ≡ false)
      → ((y : X) → f (find p xs) ≡ Some y → p y ≡ true)
      → Apart same xs → Apart same (alter p f xs)
  apart-alter same p f [] splits joins passes apart = apart-option_alone same (f None)
  apart-alter same p f (x ∷ xs) splits joins passes apart = ⊎_elim
      (λ (hit : p x ≡ true).
      subst (Apart same) (sym (alter-here p f x xs hit))
      (apart-option same (f (Some x)) xs (λ y e. find_none-weaker (same y) (same x) xs (λ z. joins x y z hit (passes y (ap f (find-here p x xs hit) ∙ e))) apart.0) apart.1))
      (λ (miss : p x ≡ false).
      let still : (y : X) → f (find p xs) ≡ Some y → p y ≡ true = λ y e. passes y (ap f (find-past p x xs miss) ∙ e) in
      subst (Apart same) (sym (alter-past p f x xs miss))
      (find_none-alter p (same x) f xs apart.0 (λ y e. splits x y miss (still y e)), apart-alter same p f xs splits joins still apart.1))
      (cases_Bool (p x))

  -- a new element at the end is apart from the others where its test found nothing
  pub apart-push : (same : X → X → Bool) (p : X → Bool) (xs : List X) (y : X) → ((z : X) → p z ≡ false → same z y ≡ false) → find p xs ≡ None → Apart same xs → Apart same (xs ++ y ∷ [])
  apart-push same p [] y splits none apart = (refl, tt)
  apart-push same p (x ∷ xs) y splits none apart =
      (find-push_other (same x) xs y (splits x (find_none-head p x xs none)) ∙ apart.0, apart-push same p xs y splits (find_none-tail p x xs none) apart.1)

  -- fewer elements are still apart
  pub apart-filter : (same : X → X → Bool) (t : X → Bool) (xs : List X) → Apart same xs → Apart same (filter t xs)
  apart-filter same t [] apart = tt
  apart-filter same t (x ∷ xs) apart =
      let rest : Apart same (filter t xs) = apart-filter same t xs apart.1 in
      elim (t x) as (λ b. Apart same (cond b (x ∷ filter t xs) (filter t xs))) [ true ↦ (find_none-filter (same x) t xs apart.0, rest) | false ↦ rest ]

  -- Places

  -- the first element passes
  pub position-here : (p : X → Bool) (x : X) (xs : List X) → p x ≡ true → position_or_len p (x ∷ xs) ≡ 0
  position-here p x xs hit = ap (λ (b : Bool). cond (not b) (1 + position_or_len p xs) 0) hit

  -- the first element does not pass
  pub position-past : (p : X → Bool) (x : X) (xs : List X) → p x ≡ false → position_or_len p (x ∷ xs) ≡ 1 + position_or_len p xs
  position-past p x xs miss = ap (λ (b : Bool). cond (not b) (1 + position_or_len p xs) 0) miss

  -- what is found in the front keeps its place
  pub position-append : (p : X → Bool) (xs ys : List X) (y : X) → find p xs ≡ Some y → position_or_len p (xs ++ ys) ≡ position_or_len p xs
  position-append p [] ys y e = absurd (cc)
  position-append p (x ∷ xs) ys y e = ⊎_elim
      (λ (hit : p x ≡ true). position-here p x (xs ++ ys) hit ∙ sym (position-here p x xs hit))
      (λ (miss : p x ≡ false).
      position-past p x (xs ++ ys) miss ∙ ap (λ (n : ℕ). 1 + n) (position-append p xs ys y (sym (find-past p x xs miss) ∙ e)) ∙ sym (position-past p x xs miss))
      (cases_Bool (p x))

  -- a new element at the end has the last place where none passed before
  pub position-push : (p : X → Bool) (xs : List X) (y : X) → find p xs ≡ None → p y ≡ true → position_or_len p (xs ++ y ∷ []) ≡ length xs
  position-push p [] y e passes = position-here p y [] passes
  position-push p (x ∷ xs) y e passes =
      let rest : position_or_len p (xs ++ y ∷ []) ≡ length xs = position-push p xs y (find_none-tail p x xs e) passes in
      omega (arith, position-past p x (xs ++ y ∷ []) (find_none-head p x xs e))

  -- what stands at one place is one element
  pub position-same : (p q : X → Bool) (xs : List X) (y z : X) → find p xs ≡ Some y → find q xs ≡ Some z → position_or_len p xs ≡ position_or_len q xs → y ≡ z
  position-same p q [] y z e f same = absurd (cc)
  position-same p q (x ∷ xs) y z e f same = ⊎_elim
      (λ (hit : p x ≡ true). ⊎_elim
      (λ (also : q x ≡ true).
      let a : Some x ≡ Some y = sym (find-here p x xs hit) ∙ e in
      let b : Some x ≡ Some z = sym (find-here q x xs also) ∙ f in
      cc)
      (λ (miss : q x ≡ false). absurd (omega (arith, position-here p x xs hit, position-past q x xs miss)))
      (cases_Bool (q x)))
      (λ (miss : p x ≡ false). ⊎_elim
      (λ (hit : q x ≡ true). absurd (omega (arith, position-past p x xs miss, position-here q x xs hit)))
      (λ (nor : q x ≡ false).
      position-same p q xs y z (sym (find-past p x xs miss) ∙ e) (sym (find-past q x xs nor) ∙ f) (omega (arith, position-past p x xs miss, position-past q x xs nor)))
      (cases_Bool (q x)))
      (cases_Bool (p x))

  -- a change that no test sees leaves each place as it is
  pub position-alter : (p q : X → Bool) (g : X → X) (xs : List X) → ((x : X) → q (g x) ≡ q x) → position_or_len q (alter p (option_map g) xs) ≡ position_or_len q xs
  position-alter p q g [] blind = refl
  position-alter p q g (x ∷ xs) blind =
      elim (p x) as (λ b. position_or_len q (cond b (g x ∷ xs) (x ∷ alter p (option_map g) xs)) ≡ position_or_len q (x ∷ xs)) [
        | true ↦ ap (λ (b : Bool). cond (not b) (1 + position_or_len q xs) 0) (blind x)
        | false ↦ ap (λ (n : ℕ). cond (not (q x)) (1 + n) 0) (position-alter p q g xs blind)
      ]

  -- the same among what passes another test
  pub position-filter_alter : (p q t : X → Bool) (g : X → X) (xs : List X) → ((x : X) → q (g x) ≡ q x) → ((x : X) → t (g x) ≡ t x) → position_or_len q (filter t (alter p (option_map g) xs)) ≡ position_or_len q (filter t xs)
  position-filter_alter p q t g [] blind kept = refl
  position-filter_alter p q t g (x ∷ xs) blind kept =
      let rest : position_or_len q (filter t (alter p (option_map g) xs)) ≡ position_or_len q (filter t xs) = position-filter_alter p q t g xs blind kept in
      elim (p x) as (λ b. position_or_len q (filter t (cond b (g x ∷ xs) (x ∷ alter p (option_map g) xs))) ≡ position_or_len q (filter t (x ∷ xs))) [
        | true ↦
            ap (λ (b : Bool). position_or_len q (cond b (g x ∷ filter t xs) (filter t xs))) (kept x)
            ∙ elim (t x) as (λ b. position_or_len q (cond b (g x ∷ filter t xs) (filter t xs)) ≡ position_or_len q (cond b (x ∷ filter t xs) (filter t xs))) [
              | true ↦ ap (λ (b : Bool). cond (not b) (1 + position_or_len q (filter t xs)) 0) (blind x)
              | false ↦ refl
            ]
        | false ↦
            elim (t x) as (λ b. position_or_len q (cond b (x ∷ filter t (alter p (option_map g) xs)) (filter t (alter p (option_map g) xs))) ≡ position_or_len q (cond b (x ∷ filter t xs) (filter t xs))) [
              | true ↦ ap (λ (n : ℕ). cond (not (q x)) (1 + n) 0) rest
              | false ↦ rest
            ]
      ]
