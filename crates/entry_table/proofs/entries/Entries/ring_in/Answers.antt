use Rattle.std.proofs.Common.{arith, ap}
use Rattle.queue_model.proofs.SoundSteps.{list_found, row_fits}
use Rattle.entry_table.specs.declared.view.Shape.{Shape}
use Rattle.entry_table.specs.Passes.{state, view}
use Rattle.entry_table.proofs.Following.{place_low}
use Rattle.entry_table.proofs.entries.Entries.ring_in.Goals as goal

pub ring_at-requires-clause-low : goal.ring_at-requires-clause-low
ring_at-requires-clause-low g c =
    let p = c.args.pass.now in
    let x = c.requires.known in
    let shape = c.requires.table.shape in
    let lists = ap (λ (s : Shape). s.lists) shape in
    let rows = ap (λ (s : Shape). s.rows) shape in
    let fits = row_fits (state p) c.args.row x.0 p.within.sound x.1 in
    let list = list_found (state p) c.args.row x.0 x.1 in
    let place = place_low (view p).shape (state p) c.args.row x.0 p.within x.1 in
    let low = p.within.low c.args.row x.0 x.1 in
    let within = p.within.lists in
    (omega (arith, c.requires.list, list, fits.list, within, lists), omega (arith, c.requires.place, place, rows), omega (arith, low, rows))
