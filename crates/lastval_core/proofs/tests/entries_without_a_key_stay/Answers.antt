use Rattle.std.proofs.Common.{◌≢◌, arith}
use Rattle.lastval_core.proofs.tests.entries_without_a_key_stay.Goals as goal

pub back-requires-clause-held : goal.back-requires-clause-held
back-requires-clause-held g c κs =
    let putter : 9 ≢ 7 = omega arith in
    let after_two = c.put-2.ensures.others 7 _ _ putter c.in-Some.ensures.held in
    c.put-3.ensures.others 7 _ _ putter after_two
