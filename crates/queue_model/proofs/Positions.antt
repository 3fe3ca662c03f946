-- what `alter` and `find` do, by the index of the first element that passes
use Rattle.std.proofs.Common.{◌≡◌, ℕ, zero, suc, ◌<◌, Bool, true, false, cond, List, [], ◌∷◌, ◌++◌, length, get_or, set, refl, sym, ap, ◌∙◌, arith, Option, Some, None}
use Rattle.std.specs.List.{find, position, position_or_len, remove}
use Rattle.std.specs.Option.{option_to_list}
use Rattle.std.proofs.lemmas.List.Quantifiers.{position-Some}
use Rattle.std.proofs.lemmas.List.Folds.{find_at}
use Rattle.std.proofs.lemmas.Option.{slice_get_past}
use Rattle.std.proofs.lemmas.Bool.{ltb-false}
use Rattle.std.proofs.lemmas.List.{append-nil, set-get_or}
use Rattle.queue_model.specs.Keyed.{alter}

-- the element at i is the first one that passes
pub record IsFirstAt {X : Type 0} (p : X → Bool) (xs : List X) (i : ℕ) (d : X) : Type 0 where
  pub inside : i < length xs
  pub passes : p (get_or xs i d) ≡ true
  pub before : (k : ℕ) → k < i → p (get_or xs k d) ≡ false

pub first_at : {X : Type 0} (p : X → Bool) (xs : List X) (i : ℕ) (d : X) → position p xs ≡ Some i → IsFirstAt p xs i d
first_at p xs i d e = let w = position-Some p xs i d e in record { inside = w.0; passes = w.1; before = w.2 }

tail_first : {X : Type 0} (p : X → Bool) (x : X) (xs : List X) (i : ℕ) (d : X) → IsFirstAt p (x ∷ xs) (suc i) d → IsFirstAt p xs i d
tail_first p x xs i d h = record { inside = omega (arith, h.inside); passes = h.passes; before = λ k l. h.before (suc k) (omega arith) }

pub find_first : {X : Type 0} (p : X → Bool) (xs : List X) (i : ℕ) (d : X) → IsFirstAt p xs i d → find p xs ≡ Some (get_or xs i d)
find_first p [] i d h = absurd (omega (arith, h.inside))
find_first p (x ∷ xs) zero d h = ap (λ b. cond b (Some x) (find p xs)) h.passes
find_first p (x ∷ xs) (suc i) d h = ap (λ b. cond b (Some x) (find p xs)) (h.before 0 (omega arith)) ∙ find_first p xs i d (tail_first p x xs i d h)

-- the change at the first that passes gives a value: it is written there
pub alter_set : {X : Type 0} (p : X → Bool) (f : Option X → Option X) (xs : List X) (i : ℕ) (d y : X) → IsFirstAt p xs i d → f (Some (get_or xs i d)) ≡ Some y → alter p f xs ≡ set xs i y
alter_set p f [] i d y h e = absurd (omega (arith, h.inside))
alter_set p f (x ∷ xs) zero d y h e = ap (λ b. cond b (option_to_list (f (Some x)) ++ xs) (x ∷ alter p f xs)) h.passes ∙ ap (λ o. option_to_list o ++ xs) e
alter_set p f (x ∷ xs) (suc i) d y h e =
    ap (λ b. cond b (option_to_list (f (Some x)) ++ xs) (x ∷ alter p f xs)) (h.before 0 (omega arith)) ∙ ap (λ ys. x ∷ ys) (alter_set p f xs i d y (tail_first p x xs i d h) e)

-- it gives none: the element is taken out
pub alter_remove : {X : Type 0} (p : X → Bool) (f : Option X → Option X) (xs : List X) (i : ℕ) (d : X) → IsFirstAt p xs i d → f (Some (get_or xs i d)) ≡ None → alter p f xs ≡ remove xs i
alter_remove p f [] i d h e = absurd (omega (arith, h.inside))
alter_remove p f (x ∷ xs) zero d h e = ap (λ b. cond b (option_to_list (f (Some x)) ++ xs) (x ∷ alter p f xs)) h.passes ∙ ap (λ o. option_to_list o ++ xs) e
alter_remove p f (x ∷ xs) (suc i) d h e =
    ap (λ b. cond b (option_to_list (f (Some x)) ++ xs) (x ∷ alter p f xs)) (h.before 0 (omega arith)) ∙ ap (λ ys. x ∷ ys) (alter_remove p f xs i d (tail_first p x xs i d h) e)

-- none passes: what the change gives for nothing stands at the end
pub alter_none : {X : Type 0} (p : X → Bool) (f : Option X → Option X) (xs : List X) → find p xs ≡ None → alter p f xs ≡ xs ++ option_to_list (f None)
alter_none p f [] e = refl
alter_none p f (x ∷ xs) e = by_test (p x) refl (alter_none p f xs)
  where
    by_test : (b : Bool) → p x ≡ b → (find p xs ≡ None → alter p f xs ≡ xs ++ option_to_list (f None)) → alter p f (x ∷ xs) ≡ (x ∷ xs) ++ option_to_list (f None)
    by_test true t rest = absurd (let s : Some x ≡ None = sym (ap (λ b. cond b (Some x) (find p xs)) t) ∙ e in cc)
    by_test false t rest =
        ap (λ b. cond b (option_to_list (f (Some x)) ++ xs) (x ∷ alter p f xs)) t
        ∙ ap (λ ys. x ∷ ys) (rest (sym (ap (λ b. cond b (Some x) (find p xs)) t) ∙ e))

cond_none : {A : Type 0} (b : Bool) (x : A) → cond b (Some x) None ≡ None → b ≡ false
cond_none true x e = absurd (cc)
cond_none false x e = refl

pub find_none : {X : Type 0} (p : X → Bool) (xs : List X) → position p xs ≡ None → find p xs ≡ None
find_none p xs e = find_at p xs ∙ slice_get_past xs (position_or_len p xs) (ltb-false _ _ (cond_none _ _ e))

-- The same from the answer r of a search for the index

pub written_is_alter : {X : Type 0} (p : X → Bool) (f : Option X → Option X) (xs : List X) (r : Option ℕ) (i : ℕ) (d y : X) → r ≡ position p xs → r ≡ Some i → f (Some (get_or xs i d)) ≡ Some y → set xs i y ≡ alter p f xs
written_is_alter p f xs r i d y e s h = sym (alter_set p f xs i d y (first_at p xs i d (sym e ∙ s)) h)

pub removed_is_alter : {X : Type 0} (p : X → Bool) (f : Option X → Option X) (xs : List X) (r : Option ℕ) (i : ℕ) (d : X) → r ≡ position p xs → r ≡ Some i → f (Some (get_or xs i d)) ≡ None → remove xs i ≡ alter p f xs
removed_is_alter p f xs r i d e s h = sym (alter_remove p f xs i d (first_at p xs i d (sym e ∙ s)) h)

pub kept_is_alter : {X : Type 0} (p : X → Bool) (f : Option X → Option X) (xs : List X) (r : Option ℕ) (i : ℕ) (d : X) → r ≡ position p xs → r ≡ Some i → f (Some (get_or xs i d)) ≡ Some (get_or xs i d) → xs ≡ alter p f xs
kept_is_alter p f xs r i d e s h =
    sym (alter_set p f xs i d (get_or xs i d) (first_at p xs i d (sym e ∙ s)) h ∙ set-get_or xs i d)

pub pushed_is_alter : {X : Type 0} (p : X → Bool) (f : Option X → Option X) (xs : List X) (r : Option ℕ) (y : X) → r ≡ position p xs → r ≡ None → f None ≡ Some y → xs ++ y ∷ [] ≡ alter p f xs
pushed_is_alter p f xs r y e s h = sym (alter_none p f xs (find_none p xs (sym e ∙ s)) ∙ ap (λ o. xs ++ option_to_list o) h)

pub same_is_alter : {X : Type 0} (p : X → Bool) (f : Option X → Option X) (xs : List X) (r : Option ℕ) → r ≡ position p xs → r ≡ None → f None ≡ None → xs ≡ alter p f xs
same_is_alter p f xs r e s h = sym (alter_none p f xs (find_none p xs (sym e ∙ s)) ∙ ap (λ o. xs ++ option_to_list o) h ∙ append-nil xs)

-- what a search by test found is the element at the index
pub found_is_at : {X : Type 0} (p : X → Bool) (xs : List X) (r : Option ℕ) (i : ℕ) (d : X) → r ≡ position p xs → r ≡ Some i → find p xs ≡ Some (get_or xs i d)
found_is_at p xs r i d e s = find_first p xs i d (first_at p xs i d (sym e ∙ s))
