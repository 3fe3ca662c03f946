use Rattle.std.proofs.Common.{◌≡◌, ◌≤◌, length, arith, vec_capacity}
use Rattle.target_core.proofs.Lists.{none_placed, placed}
use Rattle.target_core.proofs.rosters.Roster.of.Goals as goal

pub loop-i-init : goal.loop-i-init
loop-i-init g c =
    let room : 64 ≤ vec_capacity c.args.targets = omega (arith, c.args.targets.ok, c.requires) in
    (none_placed _ _ _ c.no_targets-slots.ensures.places, c.requires, room, c.no_targets-slots.ensures.places)

pub returns : goal.returns
returns g c =
    let few : length c.loop-i.spare.items ≡ c.loop-i.i = omega (arith, c.loop-i.spare.ok, c.loop-i.invariant.1) in
    placed _ _ _ _ _ c.loop-i-test.false few c.loop-i.invariant.0
