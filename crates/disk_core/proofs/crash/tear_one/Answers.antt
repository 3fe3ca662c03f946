use Rattle.std.proofs.Common.{◌≤◌, length, arith}
use Rattle.disk_core.proofs.Crashes.{torn_front, torn_behind}
use Rattle.disk_core.proofs.crash.tear_one.Goals as goal

pub returns-then-way : goal.returns-then-way
returns-then-way c =
    let few : length c.as_slice.result.now ≤ length c.args.bytes.now = omega (arith, c.in_ok-part.ensures, c.as_slice.ensures.len) in
    torn_front _ _ _ _ _ (omega arith) few c.in_ok-put.ensures

pub returns : goal.returns
returns c =
    let few : length c.as_slice.result.now ≤ length c.args.bytes.now = omega (arith, c.in_ok-part.ensures, c.as_slice.ensures.len) in
    torn_behind _ _ _ _ _ _ _ (omega arith) few c.in_ok-put.ensures c.in_ok-put_behind.ensures
