-- live entries, queue by queue
use Rattle.std.proofs.Common.{◌≡◌, ◌≢◌, ℕ, ◌+◌, Bool, true, false, cond, List, [], ◌∷◌, ◌++◌, append_assoc, append-nil, length, length-append, reverse, set, Some, None, refl, sym, ap, ◌∙◌, subst, ⊎_elim, arith, eq-eqb, ne_eqb}
use Rattle.std.specs.Prelude.{slice_get, OnOk, Result, Ok, Err, Vec}
use Rattle.std.specs.declared.alloc.Global.{Global}
use Rattle.std.proofs.lemmas.List.{length-set, reverse-append}
use Rattle.defs_read.specs.Defined.{Defined}
use Rattle.recover_core.specs.declared.kept.Kept.{Kept}
use Rattle.resume_core.specs.Live.{is_number, is_of, live_in, number_of}
use Rattle.resume_core.specs.Steps.{AreDealt}
use Rattle.resume_core.proofs.Places.{get_push, get_set}

-- no entries yet, in so many lists
pub record NoneYet (n : ℕ) (lists : List (Vec Kept Global)) : Type 0 where
  pub as_many : length lists ≡ n
  pub none : (q : ℕ) (list : Vec Kept Global) → slice_get lists q ≡ Some list → list.items ≡ []

pub none_begins : NoneYet 0 []
none_begins = record { as_many = refl; none = λ q list e. absurd (cc) }

pub none_more : (n : ℕ) (lists : List (Vec Kept Global)) (list : Vec Kept Global) → list.items ≡ [] → NoneYet n lists → NoneYet (n + 1) (lists ++ list ∷ [])
none_more n lists list empty y = record { as_many = let a = y.as_many in grind (arith, length-append); none = none } where
  none : (q : ℕ) (v : Vec Kept Global) → slice_get (lists ++ list ∷ []) q ≡ Some v → v.items ≡ []
  none q v e = ⊎_elim (λ old. y.none q v old) (λ (t : (q ≡ length lists) × (v ≡ list)). ap (λ (z : Vec Kept Global). z.items) t.1 ∙ empty) (get_push lists list v q e)

pub none_dealt : (defs : List Defined) (lists : List (Vec Kept Global)) → NoneYet (length defs) lists → AreDealt defs [] lists
none_dealt defs lists y = record { as_many = y.as_many; each = λ q list e. ap reverse (y.none q list e) }

-- An entry more

reverse_push : {X : Type 0} (xs : List X) (x : X) → reverse (xs ++ x ∷ []) ≡ x ∷ reverse xs
reverse_push xs x = reverse-append xs (x ∷ [])

-- the entry is of the queue with its number, and of no other
pub is_there : (defs : List Defined) (k : Kept) (q : ℕ) → number_of defs k ≡ Some q → is_of defs q k ≡ true
is_there defs k q e = ap (is_number q) e ∙ eq-eqb q q refl

not_there : (defs : List Defined) (k : Kept) (q p : ℕ) → number_of defs k ≡ Some q → p ≢ q → is_of defs p k ≡ false
not_there defs k q p e ne = ap (is_number p) e ∙ ne_eqb q p (λ same. ne (sym same))

nowhere : (defs : List Defined) (k : Kept) (p : ℕ) → number_of defs k ≡ None → is_of defs p k ≡ false
nowhere defs k p e = ap (is_number p) e

pub dealt_more : (defs : List Defined) (ks : List Kept) (k : Kept) (lists : List (Vec Kept Global)) (q : ℕ) (old new : Vec Kept Global)
    → number_of defs k ≡ Some q → slice_get lists q ≡ Some old → new.items ≡ old.items ++ k ∷ [] → AreDealt defs ks lists → AreDealt defs (k ∷ ks) (set lists q new)
dealt_more defs ks k lists q old new number here pushed d = record { as_many = length-set lists q new ∙ d.as_many; each = each } where
  each : (p : ℕ) (list : Vec Kept Global) → slice_get (set lists q new) p ≡ Some list → reverse list.items ≡ live_in defs p (k ∷ ks)
  each p list e = ⊎_elim
      (λ (t : (p ≡ q) × (list ≡ new)).
      subst (λ (r : ℕ). reverse list.items ≡ live_in defs r (k ∷ ks)) (sym t.0)
      (ap (λ (z : Vec Kept Global). reverse z.items) t.1 ∙ ap reverse pushed ∙ reverse_push old.items k ∙ ap (λ (xs : List Kept). k ∷ xs) (d.each q old here)
      ∙ sym (ap (λ (b : Bool). cond b (k ∷ live_in defs q ks) (live_in defs q ks)) (is_there defs k q number))))
      (λ (t : (p ≢ q) × (slice_get lists p ≡ Some list)).
      d.each p list t.1 ∙ sym (ap (λ (b : Bool). cond b (k ∷ live_in defs p ks) (live_in defs p ks)) (not_there defs k q p number t.0)))
      (get_set lists q new list p e)

pub dealt_dropped : (defs : List Defined) (ks : List Kept) (k : Kept) (lists : List (Vec Kept Global)) → number_of defs k ≡ None → AreDealt defs ks lists → AreDealt defs (k ∷ ks) lists
dealt_dropped defs ks k lists number d = record {
  as_many = d.as_many;
  each = λ p list e. d.each p list e ∙ sym (ap (λ (b : Bool). cond b (k ∷ live_in defs p ks) (live_in defs p ks)) (nowhere defs k p number));
}

-- Of all entries those behind the rest were dealt.
pub record Deals (defs : List Defined) (all rest : List Kept) (lists : List (Vec Kept Global)) : Type 0 where
  pub done : List Kept
  pub parts : all ≡ rest ++ done
  pub dealt : AreDealt defs done lists

pub deals_begin : (defs : List Defined) (all : List Kept) (lists : List (Vec Kept Global)) → AreDealt defs [] lists → Deals defs all all lists
deals_begin defs all lists d = record { done = []; parts = sym (append-nil all); dealt = d }

pub deals_more : (defs : List Defined) (all rest rest' : List Kept) (k : Kept) (lists lists' : List (Vec Kept Global)) → rest ≡ rest' ++ k ∷ []
    → ((ks : List Kept) → AreDealt defs ks lists → AreDealt defs (k ∷ ks) lists') → Deals defs all rest lists → Deals defs all rest' lists'
deals_more defs all rest rest' k lists lists' popped step d = record {
  done = k ∷ d.done;
  parts = d.parts ∙ ap (λ (xs : List Kept). xs ++ d.done) popped ∙ append_assoc rest' (k ∷ []) d.done;
  dealt = step d.done d.dealt;
}

pub deals_end : (defs : List Defined) (all rest : List Kept) (lists : List (Vec Kept Global)) → rest ≡ [] → Deals defs all rest lists → AreDealt defs all lists
deals_end defs all rest lists none d = subst (λ (ks : List Kept). AreDealt defs ks lists) (sym (d.parts ∙ ap (λ (xs : List Kept). xs ++ d.done) none)) d.dealt

pub on_ok : {A E P Q : Type 0} (r : Result A E) → OnOk r P → (P → Q) → OnOk r Q
on_ok (Ok a) p f = f p
on_ok (Err e) p f = tt
