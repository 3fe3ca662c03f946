use Rattle.std.proofs.Common.{arith, ◌≡◌, sym, ap, ◌∙◌, subst}
use Rattle.atomic_table.specs.declared.badge.Badge.{Badge}
use Rattle.entry_table.specs.declared.view.Shape.{Shape}
use Rattle.entry_table.specs.declared.view.View.{View}
use Rattle.entry_table.specs.Helps.{HelpableTo}
use Rattle.entry_table.specs.Views.{view_in, state_in}
use Rattle.entry_table.specs.Passes.{view, state}
use Rattle.entry_table.proofs.Tailing.{node_small, target_small, help_known, help_list}
use Rattle.entry_table.proofs.entries.Entries.help_tail.Goals as goal

pub help_at-found-requires-clause-list : goal.help_at-found-requires-clause-list
help_at-found-requires-clause-list g c =
    let p = c.args.pass.now in
    let low = help_list (state p) c.args.list c.args.from c.args.to c.requires.helpable in
    let lists = p.within.lists in
    let same = ap (λ (s : Shape). s.lists) c.requires.table.shape in omega (arith, low, lists, same)

pub help_at-found-requires-clause-small : goal.help_at-found-requires-clause-small
help_at-found-requires-clause-small g c =
    let p = c.args.pass.now in
    let rows = c.args.self.now.rows in
    let same = ap (λ (s : Shape). s.rows) c.requires.table.shape in
    let a = node_small (view p).shape (state p) c.args.from p.within (help_known (state p) c.args.list c.args.from c.args.to c.requires.helpable) in
    let b = target_small (view p).shape (state p) c.args.list c.args.from c.args.to p.within c.requires.helpable in (omega (arith, a, rows, same), omega (arith, b, rows, same))

pub help_at-found-requires-clause-helpable : goal.help_at-found-requires-clause-helpable
help_at-found-requires-clause-helpable g c =
    let before : c.into_seat-seat.result.me.0 ≡ view_in c.args.pass.now.badge.views = ap view_in (sym c.into_seat-seat.ensures.2) ∙ ap (λ (b : Badge View). view_in b.views) c.replace.ensures.value in
    subst (λ (z : View). HelpableTo (state_in z) c.args.list c.args.from c.args.to) (sym before) c.requires.helpable
