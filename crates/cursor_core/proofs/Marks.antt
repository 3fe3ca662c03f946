-- marks, looks and takes
use Rattle.std.proofs.Common.{◌≡◌, ℕ, ◌+◌, ◌≤◌, ◌==◌, ◌&&◌, Bool, true, false, cond, List, [], ◌∷◌, ◌++◌, length, filter, refl, sym, ap, ◌∙◌, ⊎_elim, arith}
use Rattle.std.proofs.lemmas.Bool.{cases_Bool, cond-true, cond-false}
use mathlib.Core.List.{IsPrefix}
use Rattle.queue_model.specs.declared.deeds.Act.{Act}
use Rattle.queue_model.specs.declared.deeds.Act.TheVariants.{Acq, Lock, Unlock, Steal, Rel, Deq, Del, Reserve, GiveBack, Enq, Bell, Take}
use Rattle.queue_model.specs.declared.deeds.Deed.{Deed}
use Rattle.queue_model.specs.declared.queues.Queue.{Queue}
use Rattle.acts_core.specs.Owed.{last_from, marks, mark, Looked, takes, takes_any, taken, taken_any}
use Rattle.queue_model.proofs.Prefixes.{prefix_trans}

module _ {X : Type 0} where
  -- two lists in a row
  pub last_from-append : (p : X → Bool) (n m : ℕ) (xs ys : List X) → last_from p n m (xs ++ ys) ≡ last_from p (n + length xs) (last_from p n m xs) ys
  last_from-append p n m [] ys = ap (λ (k : ℕ). last_from p k m ys) (omega arith)
  last_from-append p n m (x ∷ xs) ys =
      last_from-append p (n + 1) (cond (p x) (n + 1) m) xs ys
      ∙ ap (λ (k : ℕ). last_from p k (last_from p (n + 1) (cond (p x) (n + 1) m) xs) ys) (omega arith)

  -- it is within the list
  pub last_from-bound : (p : X → Bool) (n m : ℕ) (xs : List X) → m ≤ n → last_from p n m xs ≤ n + length xs
  last_from-bound p n m [] low = omega (arith, low)
  last_from-bound p n m (x ∷ xs) low =
      let next : cond (p x) (n + 1) m ≤ n + 1 = elim (p x) as (λ b. cond b (n + 1) m ≤ n + 1) [ true ↦ omega arith | false ↦ omega (arith, low) ] in
      let t = last_from-bound p (n + 1) (cond (p x) (n + 1) m) xs next in
      omega (arith, t)

  -- one more element that does not pass
  pub last_from-miss : (p : X → Bool) (xs : List X) (x : X) → p x ≡ false → last_from p 0 0 (xs ++ x ∷ []) ≡ last_from p 0 0 xs
  last_from-miss p xs x miss =
      last_from-append p 0 0 xs (x ∷ []) ∙ cond-false (p x) (0 + length xs + 1) (last_from p 0 0 xs) miss

  -- where nothing passes nothing is left, of a list of one more
  pub filter_none-head : (p : X → Bool) (x : X) (xs : List X) → filter p (x ∷ xs) ≡ [] → p x ≡ false
  filter_none-head p x xs e = ⊎_elim
      (λ (hit : p x ≡ true). let bad : x ∷ filter p xs ≡ [] = sym (cond-true (p x) (x ∷ filter p xs) (filter p xs) hit) ∙ e in absurd (cc))
      (λ (miss : p x ≡ false). miss)
      (cases_Bool (p x))

  pub filter_none-tail : (p : X → Bool) (x : X) (xs : List X) → filter p (x ∷ xs) ≡ [] → filter p xs ≡ []
  filter_none-tail p x xs e = sym (cond-false (p x) (x ∷ filter p xs) (filter p xs) (filter_none-head p x xs e)) ∙ e

  pub filter_none-cons : (p : X → Bool) (x : X) (xs : List X) → p x ≡ false → filter p xs ≡ [] → filter p (x ∷ xs) ≡ []
  filter_none-cons p x xs miss e = cond-false (p x) (x ∷ filter p xs) (filter p xs) miss ∙ e

-- a mark is within the history
pub mark_within : (c e : ℕ) (ds : List Deed) → mark c e ds ≤ length ds
mark_within c e ds = let t = last_from-bound (λ (d : Deed). marks c e d.act) 0 0 ds (omega arith) in omega (arith, t)

-- one more deed that does not mark
pub mark_miss : (c e : ℕ) (ds : List Deed) (d : Deed) → marks c e d.act ≡ false → mark c e (ds ++ d ∷ []) ≡ mark c e ds
mark_miss c e ds d miss = last_from-miss (λ (x : Deed). marks c e x.act) ds d miss

-- what was looked at is so in each longer history
pub looked_more : (o : Queue) (c e n : ℕ) (ds es : List Deed) → IsPrefix ds es → Looked o c e n ds → Looked o c e n es
looked_more o c e n ds es p l = record { at = l.at; prefix = prefix_trans l.at ds es l.prefix p; long = l.long; busy = l.busy }

-- since an earlier length too
pub looked_since : (o : Queue) (c e n m : ℕ) (ds : List Deed) → m ≤ n → Looked o c e n ds → Looked o c e m ds
looked_since o c e n m ds low l = record { at = l.at; prefix = l.prefix; long = omega (arith, low, l.long); busy = l.busy }

-- a take of one bell is a take
pub takes_less : (c l : ℕ) (a : Act) → takes_any c a ≡ false → takes c l a ≡ false
takes_less c l (Acq r) e = refl
takes_less c l (Lock r) e = refl
takes_less c l (Unlock r n) e = refl
takes_less c l (Steal r) e = refl
takes_less c l (Rel r n) e = refl
takes_less c l (Deq r) e = refl
takes_less c l (Del r) e = refl
takes_less c l (Reserve size) e = refl
takes_less c l (GiveBack size) e = refl
takes_less c l (Enq r slip content origin n) e = refl
takes_less c l (Bell r d) e = refl
takes_less c l (Take d m) e = ap (λ (b : Bool). b && (m == l)) e

-- who takes no bell takes none at one list
pub untaken_less : (c l : ℕ) (ds : List Deed) → taken_any c ds ≡ [] → taken c l ds ≡ []
untaken_less c l [] e = refl
untaken_less c l (d ∷ ds) e =
    filter_none-cons (λ (x : Deed). takes c l x.act) d ds
    (takes_less c l d.act (filter_none-head (λ (x : Deed). takes_any c x.act) d ds e))
    (untaken_less c l ds (filter_none-tail (λ (x : Deed). takes_any c x.act) d ds e))
