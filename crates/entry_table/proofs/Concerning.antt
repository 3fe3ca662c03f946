-- deeds that concern a pass
use Rattle.std.proofs.Common.{◌≡◌, ◌≢◌, ℕ, Bool, true, false, eqb, List, [], ◌∷◌, filter, refl, sym, ap, ◌∙◌, subst, ⊎_elim, inl, inr, eq-eqb, ne_eqb}
use Rattle.std.proofs.lemmas.Bool.{cases_eq, cases_Bool, cond-true, cond-false}
use Rattle.queue_model.specs.declared.deeds.Act.{Act}
use Rattle.queue_model.specs.declared.deeds.Act.TheVariants as acts
use Rattle.queue_model.specs.declared.deeds.Deed.{Deed}
use Rattle.queue_model.specs.History.{own, is_by}
use Rattle.entry_table.specs.Views.{Has, is_in, takes_of, is_take_of, takes_bell, takes_one, concerns, concerning}

pub has_in : (k : ℕ) (xs : List ℕ) → Has k xs → is_in k xs ≡ true
has_in k [] has = absurd has
has_in k (x ∷ xs) has = ⊎_elim
    (λ (e : x ≡ k). cond-true (eqb x k) true (is_in k xs) (eq-eqb x k e))
    (λ (ne : x ≢ k). cond-false (eqb x k) true (is_in k xs) (ne_eqb x k ne) ∙ has_in k xs (⊎_elim (λ (e : x ≡ k). absurd (ne e)) (λ (t : Has k xs). t) has))
    (cases_eq x k)

pub in_has : (k : ℕ) (xs : List ℕ) → is_in k xs ≡ true → Has k xs
in_has k [] e = let bad : false ≡ true = e in absurd (cc)
in_has k (x ∷ xs) e = ⊎_elim
    (λ (hit : x ≡ k). inl hit)
    (λ (ne : x ≢ k). inr (in_has k xs (sym (cond-false (eqb x k) true (is_in k xs) (ne_eqb x k ne)) ∙ e)))
    (cases_eq x k)

-- the rest of a list whose part by a test is empty
none_head : (p : Deed → Bool) (d : Deed) (ds : List Deed) → filter p (d ∷ ds) ≡ [] → p d ≡ false
none_head p d ds e = ⊎_elim
    (λ (hit : p d ≡ true). let bad : d ∷ filter p ds ≡ [] = sym (cond-true (p d) (d ∷ filter p ds) (filter p ds) hit) ∙ e in absurd (cc))
    (λ (miss : p d ≡ false). miss)
    (cases_Bool (p d))

none_tail : (p : Deed → Bool) (d : Deed) (ds : List Deed) → filter p (d ∷ ds) ≡ [] → filter p ds ≡ []
none_tail p d ds e = sym (cond-false (p d) (d ∷ filter p ds) (filter p ds) (none_head p d ds e)) ∙ e

-- a Take of one of the consumers is a Take of that one
take_one : (cs : List ℕ) (a : Act) → ((c : ℕ) → Has c cs → takes_bell c a ≡ false) → takes_one cs a ≡ false
take_one cs (acts.Take d l) none = ⊎_elim
    (λ (e : is_in d cs ≡ true). let bad : false ≡ true = sym (none d (in_has d cs e)) ∙ eq-eqb d d refl in absurd (cc))
    (λ (e : is_in d cs ≡ false). e)
    (cases_Bool (is_in d cs))
take_one cs (acts.Acq r) none = refl
take_one cs (acts.Lock r) none = refl
take_one cs (acts.Unlock r n) none = refl
take_one cs (acts.Steal r) none = refl
take_one cs (acts.Rel r n) none = refl
take_one cs (acts.Deq r) none = refl
take_one cs (acts.Del r) none = refl
take_one cs (acts.Reserve size) none = refl
take_one cs (acts.GiveBack size) none = refl
take_one cs (acts.Enq r slip content origin n) none = refl
take_one cs (acts.Bell r c) none = refl

-- where none of the callers did anything, and no bell of the consumers was taken, nothing concerns the pass
pub none_concern : (callers consumers : List ℕ) (ds : List Deed) → ((k : ℕ) → Has k callers → own k ds ≡ []) → ((c : ℕ) → Has c consumers → takes_of c ds ≡ []) → concerning callers consumers ds ≡ []
none_concern callers consumers [] mine takes = refl
none_concern callers consumers (d ∷ ds) mine takes =
    let not_by : is_in d.caller callers ≡ false = ⊎_elim
    (λ (e : is_in d.caller callers ≡ true). let bad : false ≡ true = sym (none_head (is_by d.caller) d ds (mine d.caller (in_has d.caller callers e))) ∙ eq-eqb d.caller d.caller refl in absurd (cc))
    (λ (e : is_in d.caller callers ≡ false). e)
    (cases_Bool (is_in d.caller callers)) in
    let no_take : takes_one consumers d.act ≡ false = take_one consumers d.act (λ c has. none_head (is_take_of c) d ds (takes c has)) in
    let out : concerns callers consumers d ≡ false = cond-false (is_in d.caller callers) true (takes_one consumers d.act) not_by ∙ no_take in
    cond-false (concerns callers consumers d) (d ∷ concerning callers consumers ds) (concerning callers consumers ds) out
    ∙ none_concern callers consumers ds (λ k has. none_tail (is_by k) d ds (mine k has)) (λ c has. none_tail (is_take_of c) d ds (takes c has))

-- deeds that nobody but one of its callers did all concern the pass
pub all_concern : (callers consumers : List ℕ) (h : ℕ) (ds : List Deed) → is_in h callers ≡ true → ((k : ℕ) → h ≢ k → own k ds ≡ []) → concerning callers consumers ds ≡ ds
all_concern callers consumers h [] has others = refl
all_concern callers consumers h (d ∷ ds) has others =
    let by : h ≡ d.caller = ⊎_elim
    (λ (e : h ≡ d.caller). e)
    (λ (ne : h ≢ d.caller). let bad : false ≡ true = sym (none_head (is_by d.caller) d ds (others d.caller ne)) ∙ eq-eqb d.caller d.caller refl in absurd (cc))
    (cases_eq h d.caller) in
    let hit : concerns callers consumers d ≡ true = cond-true (is_in d.caller callers) true (takes_one consumers d.act) (subst (λ (k : ℕ). is_in k callers ≡ true) by has) in
    cond-true (concerns callers consumers d) (d ∷ concerning callers consumers ds) (concerning callers consumers ds) hit
    ∙ ap (λ (l : List Deed). d ∷ l) (all_concern callers consumers h ds has (λ k ne. none_tail (is_by k) d ds (others k ne)))
