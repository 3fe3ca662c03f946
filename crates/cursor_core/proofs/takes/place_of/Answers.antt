use Rattle.entry_table.proofs.Later.{known_later}
use Rattle.cursor_core.proofs.Acquiring.{knows_place}
use Rattle.cursor_core.proofs.takes.place_of.Goals as goal

pub returns-clause-knows : goal.returns-clause-knows
returns-clause-knows g c =
    let k = c.look.ensures in
    let there = known_later c.args.pass.now c.look.new.pass c.args.row k.kept k.did c.requires.known in
    knows_place c.args.pass.now c.look.new.pass c.args.row c.look.result there.0 k.kept k.rights.0 k.rights.1 k.did k.shows k.shown there.1
