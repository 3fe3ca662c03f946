use Rattle.std.proofs.Common.{◌<◌, arith, length}
use Rattle.target_core.proofs.Places.{hands_roster}
use Rattle.target_core.proofs.rosters.Roster.hand.Goals as goal

pub returns : goal.returns
returns g c =
    let within : c.args.delivery.consumer < length c.args.self.now.slots = omega (arith, c.args.self.now.places, c.requires.number) in
    hands_roster _ _ _ _ c.index-self-delivery.result _ within c.hand_slot.ensures
