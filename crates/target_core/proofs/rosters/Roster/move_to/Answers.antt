use Rattle.std.proofs.Common.{◌<◌, arith, length}
use Rattle.target_core.proofs.Places.{taken_out, moved_in}
use Rattle.target_core.proofs.rosters.Roster.move_to.Goals as goal

pub returns-clause-here : goal.returns-clause-here
returns-clause-here g c = taken_out _ _ _ _ c.take.ensures.after

pub returns-clause-there : goal.returns-clause-there
returns-clause-there g c =
    let within : c.args.consumer < length c.args.self.now.slots = omega (arith, c.args.self.now.places, c.requires.number) in
    moved_in _ c.args.self.now.slots _ _ c.index-self-consumer.result _ within c.take.ensures.value
