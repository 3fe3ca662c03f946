use Rattle.std.proofs.Common.{arith, ap}
use Rattle.queue_model.proofs.SoundSteps.{row_fits}
use Rattle.entry_table.specs.declared.view.Shape.{Shape}
use Rattle.entry_table.specs.Passes.{state}
use Rattle.entry_table.proofs.entries.Entries.mark.Goals as goal

pub mark_at-requires-clause-list : goal.mark_at-requires-clause-list
mark_at-requires-clause-list g c =
    let p = c.args.pass.now in
    let t = c.requires.place in
    let fits = row_fits (state p) t.0 t.1.0 p.within.sound t.1.1 in
    let low = fits.list in let list = t.1.2 in let lists = p.within.lists in
    let same = ap (λ (s : Shape). s.lists) c.requires.table.shape in omega (arith, low, list, lists, same)
