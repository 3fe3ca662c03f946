-- bells that a release rings
use Rattle.std.proofs.Common.{◌≡◌, ℕ, zero, suc, ◌+◌, ◌==◌, true, false, cond, Some, List, [], ◌∷◌, ◌++◌, refl, sym, ap, ◌∙◌, subst, arith, append_assoc}
use Rattle.std.specs.Int.{bit_at}
use Rattle.std.proofs.lemmas.Bool.{cond-true, cond-false}
use Rattle.queue_model.specs.declared.deeds.Act.{Act}
use Rattle.queue_model.specs.declared.deeds.Act.TheVariants as acts
use Rattle.queue_model.specs.declared.queues.Queue.{Queue}
use Rattle.queue_model.specs.declared.rows.Row.{Row}
use Rattle.queue_model.specs.declared.rows.Slip.{Slip}
use Rattle.queue_model.specs.declared.steps.DraftWord.TheVariants as drafts
use Rattle.queue_model.specs.declared.steps.Step.TheVariants as steps
use Rattle.queue_model.specs.declared.steps.Tried.{Tried}
use Rattle.queue_model.specs.declared.steps.WordName.TheVariants as names
use Rattle.queue_model.specs.History.{after, Legal, deeds_of}
use Rattle.queue_model.specs.State.{row_at}
use Rattle.acts_core.specs.Calls.{CallRelease, IsReleased, rings_up}
use Rattle.acts_core.specs.Load.{Load}
use Rattle.acts_core.specs.Meaning.{Called}
use Rattle.acts_core.specs.Moments.{HasMask}
use Rattle.acts_core.specs.Steps.{Stepped}
use Rattle.acts_core.proofs.Chaining.{deeds_append}
use Rattle.acts_core.proofs.Stepping.{called_by, stepped_trans}
use Rattle.entry_table.specs.declared.entries.Entries.{Entries}
use Rattle.entry_table.specs.declared.pass.Pass.{Pass}
use Rattle.entry_table.specs.Bells.{RingsBell}
use Rattle.entry_table.specs.Passes.{Kept, KeepsRights, Did, IsPassOf, view, opening, seen, state, callers, consumers, shown}
use Rattle.entry_table.specs.Plays.{Steps, Shows}
use Rattle.entry_table.specs.Sights.{build_of, sight}
use Rattle.entry_table.proofs.Joining.{steps_trans}
use Rattle.entry_table.proofs.Later.{opening_consumers}
use Rattle.entry_table.proofs.Sighting.{stepped}
use Rattle.entry_calls.specs.Appends.{Ran}
use Rattle.entry_calls.specs.Changed.{Keeps, Changed}
use Rattle.entry_calls.proofs.Changes.{row_goods}
use Rattle.entry_calls.proofs.Replying.{keeps_trans}
use Rattle.entry_calls.proofs.Running.{ran_none, steps_back}

-- one consumer more
pub rings_more : (r mask c n : ℕ) → rings_up r mask c (suc n) ≡ rings_up r mask c n ++ rings_up r mask (c + n) 1
rings_more r mask c zero = ap (λ (k : ℕ). rings_up r mask k 1) (let e : c ≡ c + 0 = omega arith in e)
rings_more r mask c (suc n) =
    let rest = rings_more r mask (c + 1) n in
    let here : rings_up r mask (c + 1 + n) 1 ≡ rings_up r mask (c + suc n) 1 = ap (λ (k : ℕ). rings_up r mask k 1) (let e : c + 1 + n ≡ c + suc n = omega arith in e) in
    elim (bit_at mask c == 1) as (λ b. cond b (acts.Bell r c ∷ rings_up r mask (c + 1) (suc n)) (rings_up r mask (c + 1) (suc n)) ≡ cond b (acts.Bell r c ∷ rings_up r mask (c + 1) n) (rings_up r mask (c + 1) n) ++ rings_up r mask (c + suc n) 1)
    [ true ↦ ap (λ (l : List Act). acts.Bell r c ∷ l) (rest ∙ ap (λ (l : List Act). rings_up r mask (c + 1) n ++ l) here) | false ↦ rest ∙ ap (λ (l : List Act). rings_up r mask (c + 1) n ++ l) here ]

-- from the first on
pub rings_next : (r mask n : ℕ) → rings_up r mask 0 (n + 1) ≡ rings_up r mask 0 n ++ rings_up r mask n 1
rings_next r mask n =
    ap (rings_up r mask 0) (let e : n + 1 ≡ suc n = omega arith in e) ∙ rings_more r mask 0 n
    ∙ ap (λ (k : ℕ). rings_up r mask 0 n ++ rings_up r mask k 1) (let e : 0 + n ≡ n = omega arith in e)

-- acts, and then others
pub ran_both : (a b c : Pass) (xs ys : List Act) → Ran a b xs → Ran b c ys → Ran a c (xs ++ ys)
ran_both a b c xs ys p q = record {
  keeps = keeps_trans a b c p.keeps q.keeps;
  did = subst (Steps (opening a) a.caller (callers a) (consumers a) (seen a) (seen c)) (sym (deeds_append a.caller xs ys))
      (steps_trans (opening a) a.caller (callers a) (consumers a) (seen a) (seen b) (seen c) (deeds_of a.caller xs) (deeds_of a.caller ys) p.did (steps_back a b c (λ h. deeds_of h ys) p.keeps.kept q.did));
  added = p.added ++ q.added;
  shown_is = q.shown_is ∙ ap (λ (l : List Tried). l ++ q.added) p.shown_is ∙ append_assoc (shown a) p.added q.added;
}

-- a bell was rung
pub ran_rung : (old new : Pass) (c r mask : ℕ) → (bit_at mask c == 1) ≡ true → Kept old new → KeepsRights old new → Did old new (acts.Bell r c ∷ []) → RingsBell old.caller (view old) (view new) c r → Ran old new (rings_up r mask c 1)
ran_rung old new c r mask hit k rights d rings = subst (Ran old new) (sym (cond-true (bit_at mask c == 1) (acts.Bell r c ∷ []) [] hit)) (record {
  keeps = record { kept = k; allowance = rights.0; share = rights.1 };
  did = d;
  added = _;
  shown_is = rings.shown_is;
})

-- or it was not
pub ran_silent : (p : Pass) (c r mask : ℕ) → (bit_at mask c == 1) ≡ false → Legal (opening p) (seen p) → Ran p p (rings_up r mask c 1)
ran_silent p c r mask miss legal = subst (Ran p p) (sym (cond-false (bit_at mask c == 1) (acts.Bell r c ∷ []) [] miss)) (ran_none p legal)

-- the mask that was shown is that of the row
pub mask_looked : (old new : Pass) (row n : ℕ) → Kept old new → Did old new [] → (x : Row) × (row_at (state old) row ≡ Some x) → Shows (steps.Load (names.Draft row drafts.Mask)) n (state new) → HasMask (state old) row n
mask_looked old new row n k d there shows =
    let y = row_goods old new row there.0 k.opening d.prefix there.1 in
    (there.0, there.1, ap (λ (s : Slip). s.mask) (sym y.2.slip) ∙ sym (sym shows.2 ∙ (shows.1.drafted row y.0 y.1).mask))

-- a row that is available again, and then the rings
module _ {C : Type 0} (e : Entries C) (old mid new : Pass) (row mask : ℕ) (pass : IsPassOf e old) (keeps : Keeps old mid) where
  pub rung_releases : (l : Load) (x : Row) (added : List Tried) → Changed old mid (acts.Rel row l.count) row x added → HasMask (state mid) row mask → Ran mid new (rings_up row mask 0 e.shape.consumers)
      → Called (build_of e) (sight old) (sight new) (CallRelease row l) (IsReleased mask)
  rung_releases l x added c m ran =
      let rings : List Act = rings_up row mask 0 e.shape.consumers in
      let both = keeps_trans old mid new keeps ran.keeps in
      let one = stepped old mid (acts.Rel row l.count ∷ []) added keeps.kept c.did c.shown_is in
      let two = stepped mid new rings ran.added ran.keeps.kept ran.did ran.shown_is in
      let all = stepped_trans (sight old) (sight mid) (sight new) (acts.Rel row l.count ∷ []) rings added ran.added one two in
      let later = row_goods mid new row m.0 ran.keeps.kept.opening ran.did.prefix m.1 in
      let masked : HasMask (after (opening old) (seen new)) row mask = (later.0, subst (λ (o : Queue). row_at (after o (seen new)) row ≡ Some later.0) both.kept.opening later.1, ap (λ (s : Slip). s.mask) later.2.slip ∙ m.2) in
      called_by (build_of e) (sight old) (sight new) (CallRelease row l) (IsReleased mask) (added ++ ran.added) refl
      (subst (λ (n : ℕ). Stepped (sight old) (sight new) (acts.Rel row l.count ∷ rings_up row mask 0 n) (added ++ ran.added)) (sym (opening_consumers e old pass)) all) masked tt both.allowance both.share
