use Rattle.std.proofs.Common.{◌≡◌, sym, ap, ◌∙◌, subst}
use Rattle.atomic_table.specs.declared.badge.Badge.{Badge}
use Rattle.queue_model.specs.State.{reserved_by}
use Rattle.queue_model.specs.Table.{CanGive}
use Rattle.entry_table.specs.declared.view.View.{View}
use Rattle.entry_table.specs.Views.{view_in, state_in}
use Rattle.entry_table.specs.Passes.{state}
use Rattle.entry_table.proofs.Giving.{give_small}
use Rattle.entry_table.proofs.entries.Entries.give_back.Goals as goal

pub give_back_at-requires-clause-small : goal.give_back_at-requires-clause-small
give_back_at-requires-clause-small g c = give_small (state c.args.pass.now) c.args.pass.now.caller c.args.size c.args.pass.now.within.sound c.requires.reserved

pub give_back_at-requires-clause-reserved : goal.give_back_at-requires-clause-reserved
give_back_at-requires-clause-reserved g c =
    let before : c.into_seat-seat.result.me.0 ≡ view_in c.args.pass.now.badge.views = ap view_in (sym c.into_seat-seat.ensures.2) ∙ ap (λ (b : Badge View). view_in b.views) c.replace.ensures.value in
    subst (λ (z : View). CanGive (reserved_by (state_in z) c.args.pass.now.caller) c.args.size) (sym before) c.requires.reserved
