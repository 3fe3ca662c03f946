use Rattle.std.proofs.Common.{◌≤◌, length, arith}
use Rattle.target_core.proofs.Lists.{put_all_back}
use Rattle.target_core.proofs.rosters.Roster.finish.Goals as goal

pub returns : goal.returns
returns g c =
    let past : length c.loop-i.slots ≤ c.loop-i.i = omega (arith, c.loop-i.invariant.3, c.loop-i-test.false) in
    put_all_back _ _ c.loop-i.slots c.args.self.slots c.loop-i.i past c.loop-i.invariant.0
