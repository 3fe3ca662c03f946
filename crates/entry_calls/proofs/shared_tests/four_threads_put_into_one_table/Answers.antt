use Rattle.std.proofs.Common.{arith}
use Rattle.entry_calls.proofs.shared_tests.four_threads_put_into_one_table.Goals as goal

pub left-requires-clause-every : goal.left-requires-clause-every
left-requires-clause-every g c k less =
    let made = c.in_ok-table.ensures.made in
    let h1 = c.hired-one.ensures.made in
    let h2 = c.hired-two.ensures.made in
    let h3 = c.hired-three.ensures.made in
    let h4 = c.hired-four.ensures.made in
    let d1 = c.dismiss.ensures.boss.2 in
    let d2 = c.dismiss-2.ensures.boss.2 in
    let d3 = c.dismiss-3.ensures.boss.2 in
    let d4 = c.dismiss-4.ensures.boss.2 in
    c.dismiss-4.ensures.every k (omega (arith, less, made, h1, h2, h3, h4, d1, d2, d3, d4))
