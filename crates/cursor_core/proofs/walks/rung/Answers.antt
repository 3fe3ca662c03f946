use Rattle.std.proofs.Common.{◌∙◌, arith}
use Rattle.queue_model.proofs.Prefixes.{prefix_trans}
use Rattle.entry_table.specs.Passes.{opening, seen}
use Rattle.cursor_core.proofs.AtPass.{stop_known, at_none, at_head, at_later, at_before}
use Rattle.cursor_core.proofs.walks.rung.Goals as goal

pub place_of-bell-requires-clause-known : goal.place_of-bell-requires-clause-known
place_of-bell-requires-clause-known g c = let there = c.in-Some.ensures.there in (there.0, there.1)

pub place_of-reached-requires-clause-known : goal.place_of-reached-requires-clause-known
place_of-reached-requires-clause-known g c =
    let old = c.args.pass.now in
    let a = c.take_bell.new.pass in
    let b = c.place_of-bell.new.pass in
    let k = c.in-Some.ensures in
    let one = c.place_of-bell.ensures in
    stop_known (opening old) b (seen old) c.args.list c.args.stop (one.kept.opening ∙ k.kept.opening) (prefix_trans (seen old) (seen a) (seen b) k.did.prefix one.knows.goes.steps.grows) c.if-stop-gt0.true c.requires.good.stop

pub returns-then-bell-reached-clause-rung : goal.returns-then-bell-reached-clause-rung
returns-then-bell-reached-clause-rung g c =
    let k = c.in-Some.ensures in
    let one = c.place_of-bell.ensures in
    let two = c.place_of-reached.ensures in
    at_before c.args.pass.now c.take_bell.new.pass c.place_of-bell.new.pass c.place_of-reached.new.pass c.args.consumer c.args.list c.args.stop c.in-Some.row c.place_of-bell.result c.place_of-reached.result
    c.requires.quiet c.requires.consumer k.kept k.rights k.did k.takes one.kept one.knows two.kept two.knows c.if-stop-gt0.true c.requires.good c.if-bell-reached.true

pub returns-else-bell-reached-clause-rung : goal.returns-else-bell-reached-clause-rung
returns-else-bell-reached-clause-rung g c =
    let k = c.in-Some.ensures in
    let one = c.place_of-bell.ensures in
    let two = c.place_of-reached.ensures in
    at_later c.args.pass.now c.take_bell.new.pass c.place_of-bell.new.pass c.place_of-reached.new.pass c.args.consumer c.args.list c.args.stop c.in-Some.row c.place_of-bell.result c.place_of-reached.result
    c.requires.quiet c.requires.consumer k.kept k.rights k.did k.takes one.kept one.knows two.kept two.knows c.if-stop-gt0.true c.requires.good c.if-bell-reached.false

pub returns-in_default-clause-rung : goal.returns-in_default-clause-rung
returns-in_default-clause-rung g c =
    let k = c.in_default.ensures in
    at_none c.args.pass.now c.take_bell.new.pass c.args.consumer c.args.list c.args.stop c.requires.consumer k.kept k.rights k.did k.takes c.requires.good

pub returns-else-stop-gt0-clause-rung : goal.returns-else-stop-gt0-clause-rung
returns-else-stop-gt0-clause-rung g c =
    let k = c.in-Some.ensures in
    at_head c.args.pass.now c.take_bell.new.pass c.args.consumer c.args.list c.args.stop _ c.requires.consumer k.kept k.rights k.did k.takes (omega (arith, c.if-stop-gt0.false)) c.requires.good
