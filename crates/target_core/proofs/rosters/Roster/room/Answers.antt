use Rattle.std.proofs.Common.{◌<◌, arith, length}
use Rattle.target_core.proofs.Places.{room_at, within_at}
use Rattle.target_core.proofs.rosters.Roster.room.Goals as goal

pub returns : goal.returns
returns g c =
    let within : c.args.consumer < length c.args.self.now.slots = omega (arith, c.args.self.now.places, c.requires) in
    record {
      within = within_at _ _ _ c.index-self-consumer.result within c.room_of.ensures.within;
      room = room_at _ _ _ c.index-self-consumer.result _ within c.room_of.ensures.room;
    }
