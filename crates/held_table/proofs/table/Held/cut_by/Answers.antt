use Rattle.held_table.proofs.Parting.{cuts}
use Rattle.held_table.proofs.table.Held.cut_by.Goals as goal

pub cut-requires-clause-cuts : goal.cut-requires-clause-cuts
cut-requires-clause-cuts g c = let k = c.requires.callers in cuts g.Q.BareCore.keeps c.args.seat.now.me.0 c.args.consumers.now c.args.amount c.args.drawn k.0 k.1 k.2 c.requires.has c.requires.enough.0 c.requires.enough.1
