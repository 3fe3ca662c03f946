use Rattle.std.proofs.Common.{◌≢◌, arith}
use Rattle.lastval_core.proofs.tests.a_later_entry_takes_the_place_of_one_of_its_key.Goals as goal

pub back-requires-clause-held : goal.back-requires-clause-held
back-requires-clause-held g c κs =
    let putter : 9 ≢ 7 = omega arith in
    let taker : 1 ≢ 7 = omega arith in
    let after_two = c.put-2.ensures.others 7 _ _ putter c.in-Some.ensures.held in
    let after_three = c.put-3.ensures.others 7 _ _ putter after_two in
    c.taken.ensures.others 7 _ _ taker after_three
