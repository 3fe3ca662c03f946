use Rattle.std.proofs.Common.{arith}
use Rattle.entry_calls.proofs.stress_tests.four_threads_lose_and_double_nothing.Goals as goal

pub left-requires-clause-every : goal.left-requires-clause-every
left-requires-clause-every g c k less =
    let made = c.in_ok-table.ensures.made in
    let h1 = c.hired-one.ensures.made in
    let h2 = c.hired-two.ensures.made in
    let h3 = c.hired-three.ensures.made in
    let h4 = c.hired-four.ensures.made in
    let d1 = c.dismiss-one.ensures.boss.2 in
    let d2 = c.dismiss-two.ensures.boss.2 in
    let d3 = c.dismiss-three.ensures.boss.2 in
    let d4 = c.dismiss-four.ensures.boss.2 in
    c.dismiss-four.ensures.every k (omega (arith, less, made, h1, h2, h3, h4, d1, d2, d3, d4))
