use Rattle.std.proofs.Common.{◌<◌, arith, length}
use Rattle.target_core.proofs.Places.{prepares_roster}
use Rattle.target_core.proofs.rosters.Roster.prepare.Goals as goal

pub returns : goal.returns
returns g c =
    let within : c.args.consumer < length c.args.self.now.slots = omega (arith, c.args.self.now.places, c.requires) in
    prepares_roster _ _ _ _ _ c.index-self-consumer.result _ within c.prepare_slot.ensures
