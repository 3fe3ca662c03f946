use Rattle.std.proofs.Common.{arith, ◌-◌, refl, ap, ◌∙◌}
use Rattle.entry_table.specs.declared.view.Shape.{Shape}
use Rattle.entry_table.specs.Passes.{view, shown, state}
use Rattle.entry_table.specs.Tries.{tries}
use Rattle.entry_table.proofs.Trying.{tries_other}
use Rattle.entry_table.proofs.Following.{place_low}
use Rattle.entry_calls.proofs.Changes.{row_later}
use Rattle.entry_calls.proofs.Running.{reach_some, stop_row}
use Rattle.entry_calls.proofs.Turning.{place_shown}
use Rattle.entry_calls.proofs.appends.place_behind.Goals as goal

pub overflow_add-result : goal.overflow_add-result
overflow_add-result g c =
    let old = c.args.pass.now in let new = c.look.new.pass in
    let row = stop_row (state old) c.args.slip.now.list c.args.stop c.if-stop-eq0.false c.requires.stop in
    let y = row_later old new (c.args.stop - 1) c.look.ensures.kept c.look.ensures.did (row.0, row.1) in
    let word = place_shown (state new) (c.args.stop - 1) c.look.result y.0 y.1 c.look.ensures.shows in
    let low = place_low (view new).shape (state new) (c.args.stop - 1) y.0 new.within y.1 in
    let same = ap (λ (s : Shape). s.rows) (c.look.ensures.kept.shape ∙ c.requires.serves.pass.shape) in
    let rows = c.args.entries.now.rows in omega (arith, word, low, same, rows)

pub returns-clause-tries : goal.returns-clause-tries
returns-clause-tries g c = ap tries c.look.ensures.shown ∙ tries_other (shown c.args.pass.now) _ refl

pub returns-clause-place : goal.returns-clause-place
returns-clause-place g c =
    let old = c.args.pass.now in let new = c.look.new.pass in
    let row = stop_row (state old) c.args.slip.now.list c.args.stop c.if-stop-eq0.false c.requires.stop in
    let y = row_later old new (c.args.stop - 1) c.look.ensures.kept c.look.ensures.did (row.0, row.1) in
    let word = place_shown (state new) (c.args.stop - 1) c.look.result y.0 y.1 c.look.ensures.shows in
    let far = reach_some (state new) c.args.stop c.if-stop-eq0.false in omega (arith, word, far)
