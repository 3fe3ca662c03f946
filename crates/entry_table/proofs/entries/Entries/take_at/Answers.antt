use Rattle.std.proofs.Common.{◌≢◌, ◌∙◌, sym, ap, subst, inr, List, ℕ}
use Rattle.queue_model.specs.declared.rows.RowState.{RowState}
use Rattle.queue_model.specs.declared.rows.RowState.TheVariants.{Locked}
use Rattle.queue_model.specs.declared.queues.Queue.{Queue}
use Rattle.queue_model.specs.History.{after}
use Rattle.queue_model.specs.State.{IsIn}
use Rattle.entry_table.specs.declared.view.View.{View}
use Rattle.entry_table.specs.Views.{caller_of}
use Rattle.queue_model.specs.Packing.{pack_state}
use Rattle.entry_table.specs.Plays.{ShowsState}
use Rattle.entry_table.proofs.Exchanging.{taken_mine, shown_state, after_done, after_shown}
use Rattle.entry_table.proofs.entries.Entries.take_at.Goals as goal

pub take_out-requires-clause-mine : goal.take_out-requires-clause-mine
take_out-requires-clause-mine g c =
    let v = c.args.seat.now.me.0 in let u = c.take_word-found.new.seat.me.0 in
    let x = c.take_word-found.ensures.told.0 (c.if-found-state_word.true ∙ c.state_word.ensures) in
    let is = x.4.view in
    inr (subst (λ (z : Queue × List ℕ). IsIn (after z.0 u.seen) c.args.row (Locked (caller_of z.1))) (λ i. (sym (ap (λ (z : View). z.opening) is) i, sym (ap (λ (z : View). z.callers) is) i))
    (taken_mine v u c.args.row c.args.change c.args.from _ x.1 c.requires.fits.0 x.4))

pub returns-else-found-state_word-clause-answer : goal.returns-else-found-state_word-clause-answer
returns-else-found-state_word-clause-answer g c =
    let v = c.args.seat.now.me.0 in let w = c.take_word-found.new.seat.me.0 in
    let miss : c.take_word-found.result ≢ pack_state c.args.from = λ e. c.if-found-state_word.false (e ∙ sym c.state_word.ensures) in
    let x = c.take_word-found.ensures.told.1 miss in
    let s = shown_state v w c.args.row c.take_word-found.result c.args.change c.args.from c.requires.known.1.0 c.requires.known.1.1 miss x.1 x.2 x.3 in
    subst (λ (z : RowState). ShowsState v w c.args.row c.args.change c.args.from z) (sym (c.state_of.ensures s.0 s.1)) s.2

pub returns-then-found-state_word-clause-after : goal.returns-then-found-state_word-clause-after
returns-then-found-state_word-clause-after g c =
    let x = c.take_word-found.ensures.told.0 (c.if-found-state_word.true ∙ c.state_word.ensures) in
    after_done c.args.seat.now.me.0 c.take_word-found.new.seat.me.0 _ c.args.row c.args.change c.args.from _ c.requires.idle.1 x.4 c.take_out.ensures.told

pub returns-else-found-state_word-clause-after : goal.returns-else-found-state_word-clause-after
returns-else-found-state_word-clause-after g c = after_shown c.args.seat.now.me.0 c.take_word-found.new.seat.me.0 c.args.row c.args.change c.args.from _ (returns-else-found-state_word-clause-answer g c)
