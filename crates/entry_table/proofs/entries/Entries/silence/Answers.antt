use Rattle.std.proofs.Common.{◌≡◌, ◌<◌, ◌≤◌, IfSome, ℕ, arith, sym, ap, subst}
use Rattle.queue_model.specs.Table.{most_entries}
use Rattle.entry_table.specs.declared.view.Shape.{Shape}
use Rattle.entry_table.specs.Views.{caller_of, state_in}
use Rattle.queue_model.specs.State.{place_at}
use Rattle.entry_table.proofs.Belled.{bell_taken_is, there_taken, low_taken}
use Rattle.entry_table.proofs.entries.Entries.silence.Goals as goal

pub returns-clause-takes : goal.returns-clause-takes
returns-clause-takes g c =
    let same = ap (λ (s : Shape). s.rows) c.requires.shape in let rows = c.args.self.now.rows in
    bell_taken_is c.args.caller _ _ c.args.consumer c.args.list _ (ap caller_of c.requires.caller) (omega (arith, same, rows)) c.silence_at-found.ensures.told.1 _ c.bell_row.ensures

pub returns-clause-there : goal.returns-clause-there
returns-clause-there g c =
    let same = ap (λ (s : Shape). s.rows) c.requires.shape in let rows = c.args.self.now.rows in
    there_taken _ _ _ _ c.args.consumer c.args.list _ (omega (arith, same, rows)) c.silence_at-found.ensures.told.1 _ c.bell_row.ensures

pub returns-clause-low : goal.returns-clause-low
returns-clause-low g c =
    let same = ap (λ (s : Shape). s.rows) c.requires.shape in let rows = c.args.self.now.rows in
    subst (λ (s : Shape). IfSome c.bell_row.result (λ row. (row < s.rows) × (place_at (state_in c.silence_at-found.new.seat.me.0) row < s.rows))) c.requires.shape
    (low_taken _ _ _ _ c.args.consumer c.args.list _ (omega (arith, same, rows)) c.silence_at-found.ensures.told.1 _ c.bell_row.ensures)
