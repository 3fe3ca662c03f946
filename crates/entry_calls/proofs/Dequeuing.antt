-- a row that is dequeued, and what is given back for it
use Rattle.std.proofs.Common.{◌≡◌, ℕ, ◌+◌, ◌-◌, ◌*◌, ◌≤◌, List, [], ◌∷◌, ◌++◌, Some, None, refl, sym, ap, ◌∙◌, subst, arith}
use mathlib.Core.List.{IsPrefix}
use Rattle.queue_model.specs.declared.deeds.Act.TheVariants as acts
use Rattle.queue_model.specs.declared.deeds.Deed.{Deed}
use Rattle.queue_model.specs.declared.queues.Queue.{Queue}
use Rattle.queue_model.specs.declared.queues.Reservation.{Reservation}
use Rattle.queue_model.specs.declared.rows.Row.{Row}
use Rattle.queue_model.specs.declared.rows.RowState.TheVariants.{Locked}
use Rattle.queue_model.specs.declared.rows.Slip.{Slip}
use Rattle.queue_model.specs.declared.steps.Change.TheVariants.{Deq}
use Rattle.queue_model.specs.declared.steps.DraftWord.TheVariants as drafts
use Rattle.queue_model.specs.declared.steps.Step.TheVariants as steps
use Rattle.queue_model.specs.declared.steps.Tried.{Tried}
use Rattle.queue_model.specs.declared.steps.WordName.TheVariants as names
use Rattle.queue_model.specs.History.{after, Legal, deed}
use Rattle.queue_model.specs.Sound.{IsOpening}
use Rattle.queue_model.specs.State.{row_at, IsIn, size_at, reserved_by}
use Rattle.queue_model.specs.Table.{CanGive, acted, with_more, most_bytes}
use Rattle.queue_model.proofs.Depths.{size_found}
use Rattle.queue_model.proofs.Histories.{after-append}
use Rattle.queue_model.proofs.Owns.{lock_stays, own_dequeue_reserves}
use Rattle.queue_model.proofs.Prefixes.{prefix_trans, legal_prefix}
use Rattle.queue_model.proofs.Stable.{row_stays}
use Rattle.acts_core.specs.Calls.{CallDequeue, IsFreed}
use Rattle.acts_core.specs.Meaning.{Called}
use Rattle.acts_core.specs.Moments.{HasSize}
use Rattle.acts_core.proofs.Reserving.{reserved_small}
use Rattle.acts_core.proofs.Stepping.{called_by, stepped_trans}
use Rattle.entry_table.specs.declared.entries.Entries.{Entries}
use Rattle.entry_table.specs.declared.pass.Pass.{Pass}
use Rattle.entry_table.specs.Passes.{Kept, Did, view, opening, seen, shown, allowance, share}
use Rattle.entry_table.specs.Plays.{Shows, DidChange}
use Rattle.entry_table.specs.Sights.{build_of, sight}
use Rattle.entry_table.specs.Views.{entry}
use Rattle.entry_table.proofs.Sighting.{stepped}
use Rattle.entry_calls.proofs.Changes.{one_change, row_goods, change_entry}

-- what the caller holds it holds after a step without an act
pub held_later : (old new : Pass) (row : ℕ) → Kept old new → Did old new [] → IsIn (after (opening old) (seen old)) row (Locked old.caller) → IsIn (after (opening new) (seen new)) row (Locked new.caller)
held_later old new row kept did held =
    let still : IsIn (after (opening old) (seen new)) row (Locked old.caller) = lock_stays (opening old) (seen old) (seen new) old.caller row [] did.prefix did.legal did.own_more tt held in
    subst (λ (z : Queue × ℕ). IsIn (after z.0 (seen new)) row (Locked z.1)) (λ i. (sym kept.opening i, sym kept.caller i)) still

-- the size word of a row
size_shown : (q : Queue) (row n : ℕ) (x : Row) → row_at q row ≡ Some x → Shows (steps.Load (names.Draft row drafts.Size)) n q → n ≡ x.slip.size
size_shown q row n x found shows = sym shows.2 ∙ (shows.1.drafted row x found).size

-- one more entry can be given
more_give : (v : Reservation) (size : ℕ) → v.bytes ≤ most_bytes * v.entries → CanGive (with_more v size) size
more_give v size small = record {
  entry = omega arith;
  bytes = omega arith;
  rest = (let e : v.entries + 1 - 1 ≡ v.entries = omega arith in rw e (omega (arith, small)));
}

-- the size that was shown is that of the row when it is dequeued
size_then : (old mid : Pass) (row n : ℕ) (x : Row) (moment : List Deed) → Kept old mid → Did old mid [] → IsIn (after (opening old) (seen old)) row (Locked old.caller) → Shows (steps.Load (names.Draft row drafts.Size)) n (after (opening mid) (seen mid)) → IsPrefix (seen mid) moment
    → row_at (after (opening mid) moment) row ≡ Some x → n ≡ x.slip.size
size_then old mid row n x moment kept did held shows p found =
    let y = row_goods old mid row held.0 kept.opening did.prefix held.1 in
    let z = row_stays (after (opening mid) (seen mid)) p.0 row y.0 y.1 in
    let later : after (after (opening mid) (seen mid)) p.0 ≡ after (opening mid) moment = sym (after-append (opening mid) (seen mid) p.0) ∙ ap (after (opening mid)) p.1 in
    let both : Some z.0 ≡ Some x = sym (subst (λ (q : Queue). row_at q row ≡ Some z.0) later z.1) ∙ found in
    let one : z.0 ≡ x = cc in
    size_shown (after (opening mid) (seen mid)) row n y.0 y.1 shows ∙ ap (λ (s : Slip). s.size) (sym z.2.slip) ∙ ap (λ (r : Row). r.slip.size) one

-- what the caller may give back after it dequeued the row
pub can_give : (old mid new : Pass) (row n : ℕ) → IsOpening (opening old) → Kept old mid → Did old mid [] → IsIn (after (opening old) (seen old)) row (Locked old.caller) → Shows (steps.Load (names.Draft row drafts.Size)) n (after (opening mid) (seen mid)) → Kept mid new
    → (x : Row) → DidChange (view mid) (view new) row Deq (Locked mid.caller) None (acts.Deq row) x → CanGive (reserved_by (after (opening new) (seen new)) new.caller) n
can_give old mid new row n begun kept did held shows kept' x d =
    let O : Queue = opening mid in
    let h : ℕ = mid.caller in
    let c = one_change mid new row Deq (Locked mid.caller) None (acts.Deq row) x d in
    let m : List Deed = c.moment in
    let q : Queue = after O m in
    let legal : Legal O (seen new) = c.did.legal in
    let was : Legal O m = legal_prefix O m (seen new) (prefix_trans m (m ++ deed h (acts.Deq row) ∷ []) (seen new) (deed h (acts.Deq row) ∷ [], refl) c.before.early) legal in
    let is : seen new ≡ m ++ deed h (acts.Deq row) ∷ [] = c.last in
    let now : after O (seen new) ≡ acted q h (acts.Deq row) = ap (after O) is ∙ after-append O m (deed h (acts.Deq row) ∷ []) in
    let size : size_at q row ≡ n = size_found q row x c.found ∙ sym (size_then old mid row n x m kept did held shows c.before.later c.found) in
    let small = reserved_small O h m (subst IsOpening (sym kept.opening) begun) was in
    let mine : reserved_by (after O (seen new)) h ≡ with_more (reserved_by q h) n = ap (λ (z : Queue). reserved_by z h) now ∙ own_dequeue_reserves q h row ∙ ap (with_more (reserved_by q h)) size in
    subst (λ (z : Queue × ℕ). CanGive (reserved_by (after z.0 (seen new)) z.1) n) (λ i. (sym kept'.opening i, sym kept'.caller i))
    (subst (λ (v : Reservation). CanGive v n) (sym mine) (more_give (reserved_by q h) n small))

module _ {C : Type 0} (e : Entries C) (old mid new last : Pass) (row n : ℕ) (kept : Kept old mid) (room : allowance mid ≡ allowance old) (rows : share mid ≡ share old) (did : Did old mid []) (held : IsIn (after (opening old) (seen old)) row (Locked old.caller)) where
  pub dequeues : Shows (steps.Load (names.Draft row drafts.Size)) n (after (opening mid) (seen mid)) → shown mid ≡ shown old ++ entry (steps.Load (names.Draft row drafts.Size)) n n (seen mid) ∷ []
      → Kept mid new → allowance new ≡ allowance mid → share new ≡ share mid → (x : Row) → DidChange (view mid) (view new) row Deq (Locked mid.caller) None (acts.Deq row) x
      → Kept new last → allowance last ≡ allowance new + 1 → share last ≡ share new → Did new last (acts.GiveBack n ∷ []) → (t : Tried) → shown last ≡ shown new ++ t ∷ []
      → Called (build_of e) (sight old) (sight last) (CallDequeue row) (IsFreed n)
  dequeues shows is kept' room' rows' x d kept'' room'' rows'' did'' t is'' =
      let c = one_change mid new row Deq (Locked mid.caller) None (acts.Deq row) x d in
      let look : Tried = entry (steps.Load (names.Draft row drafts.Size)) n n (seen mid) in
      let change : Tried = change_entry mid row Deq (Locked mid.caller) (seen new) in
      let one = stepped old mid [] (look ∷ []) kept did is in
      let two = stepped mid new (acts.Deq row ∷ []) (change ∷ []) kept' c.did c.shown_is in
      let three = stepped new last (acts.GiveBack n ∷ []) (t ∷ []) kept'' did'' is'' in
      let most = stepped_trans (sight old) (sight mid) (sight new) [] (acts.Deq row ∷ []) (look ∷ []) (change ∷ []) one two in
      let all = stepped_trans (sight old) (sight new) (sight last) (acts.Deq row ∷ []) (acts.GiveBack n ∷ []) (look ∷ change ∷ []) (t ∷ []) most three in
      let y = row_goods old mid row held.0 kept.opening did.prefix held.1 in
      let z = row_goods old last row held.0 (kept''.opening ∙ kept'.opening ∙ kept.opening) all.grows held.1 in
      let size : z.0.slip.size ≡ n = ap (λ (s : Slip). s.size) z.2.slip ∙ ap (λ (s : Slip). s.size) (sym y.2.slip) ∙ sym (size_shown (after (opening mid) (seen mid)) row n y.0 y.1 shows) in
      let sized : HasSize (after (opening old) (seen last)) row n = (z.0, subst (λ (o : Queue). row_at (after o (seen last)) row ≡ Some z.0) (kept''.opening ∙ kept'.opening ∙ kept.opening) z.1, size) in
      called_by (build_of e) (sight old) (sight last) (CallDequeue row) (IsFreed n) (look ∷ change ∷ t ∷ []) refl all sized tt (room'' ∙ ap (λ (k : ℕ). k + 1) (room' ∙ room)) (rows'' ∙ rows' ∙ rows)
