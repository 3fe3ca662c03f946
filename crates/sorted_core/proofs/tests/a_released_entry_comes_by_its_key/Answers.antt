use Rattle.std.proofs.Common.{◌≢◌, arith}
use Rattle.sorted_core.proofs.tests.a_released_entry_comes_by_its_key.Goals as goal

pub back-requires-clause-held : goal.back-requires-clause-held
back-requires-clause-held g c κs =
    let apart : 1 ≢ 7 = omega arith in
    c.taken.ensures.others 7 _ _ apart c.in-Some.ensures.held
