-- the steps of a table's pass, as the contracts of every queue see them
use Rattle.std.proofs.Common.{◌≡◌, ◌≢◌, ℕ, ◌≤◌, Bool, true, false, cond, eqb, List, [], ◌∷◌, ◌++◌, filter, length, refl, sym, ap, ◌∙◌, subst, ⊎_elim, append-nil, eq-eqb, ne_eqb, eqb-true}
use Rattle.std.proofs.lemmas.Bool.{cases_eq, cases_Bool, cond-true, cond-false}
use mathlib.Core.HLevel.{⊥_prop}
use mathlib.Core.List.{Mem, mem-cons, not-mem-nil}
use mathlib.Core.Logic.Or
use Rattle.queue_model.specs.declared.deeds.Act.{Act}
use Rattle.queue_model.specs.declared.deeds.Act.TheVariants as acts
use Rattle.queue_model.specs.declared.deeds.Deed.{Deed}
use Rattle.queue_model.specs.declared.queues.Queue.{Queue}
use Rattle.queue_model.specs.declared.steps.Tried.{Tried}
use Rattle.queue_model.specs.History.{Legal, own, is_by, deed, deeds_of}
use Rattle.queue_model.specs.Sound.{IsOpening}
use Rattle.queue_model.proofs.Histories.{own-append}
use Rattle.acts_core.specs.Asked.{IsSightOf}
use Rattle.acts_core.specs.Owed.{takes_any, taken_any}
use Rattle.acts_core.specs.Sight.{Sight, known}
use Rattle.acts_core.specs.Steps.{Stepped, SameRights}
use Rattle.acts_core.proofs.Stepping.{taken-append}
use Rattle.entry_table.specs.declared.entries.Entries.{Entries}
use Rattle.entry_table.specs.declared.pass.Pass.{Pass}
use Rattle.entry_table.specs.declared.view.Shape.{Shape}
use Rattle.entry_table.specs.Passes.{Kept, Did, view, opening, seen, shown, allowance, share, callers, consumers}
use Rattle.entry_table.specs.Sights.{sight, build_of, Serves}
use Rattle.entry_table.specs.Views.{is_in, rest_of, takes_one, concerns, concerning}
use Rattle.entry_table.proofs.Counting.{few_rows}

-- Members

absent : (k : ℕ) (xs : List ℕ) → is_in k xs ≡ false → Mem k xs → ⊥
absent k [] e m = not-mem-nil m
absent k (x ∷ xs) e m = ⊎_elim
    (λ (hit : x ≡ k). let bad : true ≡ false = sym (cond-true (eqb x k) true (is_in k xs) (eq-eqb x k hit)) ∙ e in absurd (cc))
    (λ (other : x ≢ k).
    let rest : is_in k xs ≡ false = sym (cond-false (eqb x k) true (is_in k xs) (ne_eqb x k other)) ∙ e in
    Or.elim ⊥_prop (mem-cons.0 m) (λ same. other (sym same)) (λ tail. absent k xs rest tail))
    (cases_eq x k)

pub mem_in : (k : ℕ) (xs : List ℕ) → Mem k xs → is_in k xs ≡ true
mem_in k xs m = ⊎_elim (λ (yes : is_in k xs ≡ true). yes) (λ (none : is_in k xs ≡ false). absurd (absent k xs none m)) (cases_Bool (is_in k xs))

-- What concerns a pass

-- of a part that has all that passes the same passes
filter-within : (p q : Deed → Bool) → ((d : Deed) → p d ≡ true → q d ≡ true) → (ds : List Deed) → filter p (filter q ds) ≡ filter p ds
filter-within p q within [] = refl
filter-within p q within (d ∷ ds) = ⊎_elim
    (λ (hit : p d ≡ true).
    ap (filter p) (cond-true (q d) (d ∷ filter q ds) (filter q ds) (within d hit))
    ∙ cond-true (p d) (d ∷ filter p (filter q ds)) (filter p (filter q ds)) hit
    ∙ ap (λ (l : List Deed). d ∷ l) (filter-within p q within ds)
    ∙ sym (cond-true (p d) (d ∷ filter p ds) (filter p ds) hit))
    (λ (miss : p d ≡ false).
    ⊎_elim
    (λ (in_q : q d ≡ true).
    ap (filter p) (cond-true (q d) (d ∷ filter q ds) (filter q ds) in_q)
    ∙ cond-false (p d) (d ∷ filter p (filter q ds)) (filter p (filter q ds)) miss)
    (λ (not_q : q d ≡ false). ap (filter p) (cond-false (q d) (d ∷ filter q ds) (filter q ds) not_q))
    (cases_Bool (q d))
    ∙ filter-within p q within ds
    ∙ sym (cond-false (p d) (d ∷ filter p ds) (filter p ds) miss))
    (cases_Bool (p d))

-- a take of one of the consumers
take_concerns : (cs : List ℕ) (c : ℕ) (a : Act) → is_in c cs ≡ true → takes_any c a ≡ true → takes_one cs a ≡ true
take_concerns cs c (acts.Take d l) has hit = subst (λ (n : ℕ). is_in n cs ≡ true) (sym (eqb-true d c hit)) has
take_concerns cs c (acts.Acq r) has hit = absurd (cc)
take_concerns cs c (acts.Lock r) has hit = absurd (cc)
take_concerns cs c (acts.Unlock r n) has hit = absurd (cc)
take_concerns cs c (acts.Steal r) has hit = absurd (cc)
take_concerns cs c (acts.Rel r n) has hit = absurd (cc)
take_concerns cs c (acts.Deq r) has hit = absurd (cc)
take_concerns cs c (acts.Del r) has hit = absurd (cc)
take_concerns cs c (acts.Reserve size) has hit = absurd (cc)
take_concerns cs c (acts.GiveBack size) has hit = absurd (cc)
take_concerns cs c (acts.Enq r slip content origin n) has hit = absurd (cc)
take_concerns cs c (acts.Bell r d) has hit = absurd (cc)

concerns_take : (callers cs : List ℕ) (c : ℕ) (d : Deed) → is_in c cs ≡ true → takes_any c d.act ≡ true → concerns callers cs d ≡ true
concerns_take callers cs c d has hit = elim (is_in d.caller callers) as (λ b. cond b true (takes_one cs d.act) ≡ true) [ true ↦ refl | false ↦ take_concerns cs c d.act has hit ]

concerns_own : (callers cs : List ℕ) (k : ℕ) (d : Deed) → is_in k callers ≡ true → is_by k d ≡ true → concerns callers cs d ≡ true
concerns_own callers cs k d has hit =
    cond-true (is_in d.caller callers) true (takes_one cs d.act) (subst (λ (n : ℕ). is_in n callers ≡ true) (sym (eqb-true d.caller k hit)) has)

-- the takes of a pass's consumer are those of its own caller
pub takes_more : (callers cs : List ℕ) (c : ℕ) (s0 s1 ds : List Deed) → Mem c cs → concerning callers cs s1 ≡ concerning callers cs s0 ++ ds → taken_any c s1 ≡ taken_any c s0 ++ taken_any c ds
takes_more callers cs c s0 s1 ds mine more =
    let p : Deed → Bool = λ d. takes_any c d.act in
    let within : (all : List Deed) → taken_any c (concerning callers cs all) ≡ taken_any c all =
    λ all. filter-within p (concerns callers cs) (λ d hit. concerns_take callers cs c d (mem_in c cs mine) hit) all
    in
    sym (within s1) ∙ ap (taken_any c) more ∙ taken-append c (concerning callers cs s0) ds ∙ ap (λ (l : List Deed). l ++ taken_any c ds) (within s0)

own_none : (h k : ℕ) (acts : List Act) → k ≢ h → own k (deeds_of h acts) ≡ []
own_none h k [] other = refl
own_none h k (a ∷ acts) other =
    cond-false (is_by k (deed h a)) (deed h a ∷ own k (deeds_of h acts)) (own k (deeds_of h acts)) (ne_eqb h k (λ e. other (sym e))) ∙ own_none h k acts other

-- another caller that the pass speaks for did nothing
pub others_stay : (callers cs : List ℕ) (h k : ℕ) (s0 s1 : List Deed) (acts : List Act) → is_in k callers ≡ true → k ≢ h → concerning callers cs s1 ≡ concerning callers cs s0 ++ deeds_of h acts → own k s1 ≡ own k s0
others_stay callers cs h k s0 s1 acts has other more =
    let within : (all : List Deed) → own k (concerning callers cs all) ≡ own k all =
    λ all. filter-within (is_by k) (concerns callers cs) (λ d hit. concerns_own callers cs k d has hit) all
    in
    sym (within s1) ∙ ap (own k) more ∙ own-append k (concerning callers cs s0) (deeds_of h acts)
    ∙ ap (λ (l : List Deed). own k (concerning callers cs s0) ++ l) (own_none h k acts other) ∙ append-nil (own k (concerning callers cs s0)) ∙ within s0

-- Passes

rest_in : (ks : List ℕ) (k : ℕ) → Mem k (rest_of ks) → is_in k ks ≡ true
rest_in [] k m = absurd (not-mem-nil m)
rest_in (x ∷ ks) k m = elim (eqb x k) as (λ b. cond b true (is_in k ks) ≡ true) [ true ↦ refl | false ↦ mem_in k ks m ]

-- what a pass shows is what it showed, but for what it has seen and was shown, and for its rights
same_sight : (old new : Pass) (added : List Tried) → Kept old new → shown new ≡ shown old ++ added → sight new ≡ record (sight old) { seen = seen new; shown = shown old ++ added; allowance = allowance new; share = share new }
same_sight old new added k e =
    let base : Sight = record (sight new) { shown = shown old ++ added } in
    ap (λ (l : List Tried). record (sight new) { shown = l }) e
    ∙ ap (λ (o : Queue). record base { opening = o }) k.opening
    ∙ ap (λ (n : ℕ). record base { opening = opening old; caller = n }) k.caller
    ∙ ap (λ (cs : List ℕ). record base { opening = opening old; caller = old.caller; consumers = cs }) k.consumers
    ∙ ap (λ (ks : List ℕ). record base { opening = opening old; caller = old.caller; consumers = consumers old; ended = rest_of ks }) k.callers
    ∙ ap (λ (n : ℕ). record base { opening = opening old; caller = old.caller; consumers = consumers old; ended = rest_of (callers old); made = n }) k.made

-- The acts that a pass did, as steps of the pass.
pub stepped : (old new : Pass) (acts : List Act) (added : List Tried) → Kept old new → Did old new acts → shown new ≡ shown old ++ added → Stepped (sight old) (sight new) acts added
stepped old new acts added k d e = record {
  grows = d.prefix;
  legal = d.legal;
  own_acts = d.own_more;
  takes = λ c mine. takes_more (callers old) (consumers old) c (seen old) (seen new) (deeds_of old.caller acts) mine d.concern_more;
  ended = λ c gone other. others_stay (callers old) (consumers old) old.caller c (seen old) (seen new) acts (rest_in (callers old) c gone) other d.concern_more;
  rest = same_sight old new added k e;
}

pub same_rights : (old new : Pass) → allowance new ≡ allowance old → share new ≡ share old → SameRights (sight old) (sight new)
same_rights old new a s = record { allowance = a; share = s }

-- a table serves a pass that it served
pub serves_on : {C : Type 0} (e : Entries C) (old new : Pass) (acts : List Act) → Serves e old → Kept old new → Did old new acts → Serves e new
serves_on e old new acts s k d = record {
  pass = record { table = k.table ∙ s.pass.table; shape = k.shape ∙ s.pass.shape };
  opening = subst IsOpening (sym k.opening) s.opening;
  legal = subst (λ (o : Queue). Legal o (seen new)) (sym k.opening) d.legal;
}

-- what holds of each pass
pub is_sight : {C : Type 0} (e : Entries C) (p : Pass) → Serves e p → IsSightOf (build_of e) (sight p)
is_sight e p s = record {
  opening = s.opening;
  rows = subst (λ (n : ℕ). length (known (sight p)).rows ≤ n) (ap (λ (x : Shape). x.rows) s.pass.shape) (few_rows (view p).shape (known (sight p)) p.within);
  caller = p.low;
}
