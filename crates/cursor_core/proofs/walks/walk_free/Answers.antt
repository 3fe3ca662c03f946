use Rattle.std.proofs.Common.{arith}
use Rattle.entry_table.proofs.Later.{kept_trans, pass_of}
use Rattle.scavenge_core.proofs.Stepping.{row_low}
use Rattle.cursor_core.proofs.AtPass.{faced_known, free_got, free_stop, free_faces, free_smaller}
use Rattle.cursor_core.proofs.walks.walk_free.Goals as goal

pub rows-init : goal.rows-init
rows-init g c =
    let k = c.first-next.ensures in record {
      table = pass_of c.args.entries.now c.args.pass.now c.first-next.new.pass c.requires.table k.kept;
      kept = k.kept;
      faces = k.faces;
    }

pub take_free-requires-clause-known : goal.take_free-requires-clause-known
take_free-requires-clause-known g c =
    let i = c.rows.invariant in
    let there = faced_known c.args.pass.now c.rows.pass c.args.consumer c.args.list c.args.stop.now c.rows.stop c.in-Some.row c.rows.next i.kept i.faces c.in-Some.is in
    (there.0, there.1)

pub returns-in-Some-take_free-clause-walks : goal.returns-in-Some-take_free-clause-walks
returns-in-Some-take_free-clause-walks g c =
    let i = c.rows.invariant in
    free_got c.args.pass.now c.rows.pass c.take_free.new.pass c.args.consumer c.args.list c.args.stop.now c.rows.stop c.in-Some.row (g.C.Freight.goods c.in-Some-take_free.cargo) c.rows.next c.requires.consumer i.kept i.faces c.in-Some.is c.in-Some-take_free.ensures.tries

pub step_behind-next-requires-clause-stop : goal.step_behind-next-requires-clause-stop
step_behind-next-requires-clause-stop g c =
    let i = c.rows.invariant in
    free_stop c.args.pass.now c.rows.pass c.take_free.new.pass c.args.consumer c.args.list c.args.stop.now c.rows.stop c.in-Some.row c.rows.next c.requires.consumer i.kept c.take_free.ensures.kept i.faces c.in-Some.is c.in_default-take_free.ensures.tries

pub rows-smaller : goal.rows-smaller
rows-smaller g c =
    let i = c.rows.invariant in
    free_smaller c.args.pass.now c.rows.pass c.take_free.new.pass c.args.consumer c.args.list c.args.stop.now c.rows.stop c.in-Some.row c.rows.next c.requires.consumer i.kept c.take_free.ensures.kept i.faces c.in-Some.is c.in_default-take_free.ensures.tries
    c.args.entries.now c.step_behind-next.new.pass c.step_behind-next.result i.table c.step_behind-next.ensures.kept c.step_behind-next.ensures.steps

pub rows-preserved : goal.rows-preserved
rows-preserved g c =
    let i = c.rows.invariant in
    let mid = c.take_free.new.pass in
    let last = c.step_behind-next.new.pass in
    let both = kept_trans c.rows.pass mid last c.take_free.ensures.kept c.step_behind-next.ensures.kept in
    record {
      table = pass_of c.args.entries.now c.rows.pass last i.table both;
      kept = kept_trans c.args.pass.now c.rows.pass last i.kept both;
      faces = free_faces c.args.pass.now c.rows.pass mid c.args.consumer c.args.list c.args.stop.now c.rows.stop c.in-Some.row c.rows.next c.requires.consumer i.kept c.take_free.ensures.kept i.faces c.in-Some.is c.in_default-take_free.ensures.tries last c.step_behind-next.result c.step_behind-next.ensures.steps;
    }

pub overflow_add-stop : goal.overflow_add-stop
overflow_add-stop g c =
    let i = c.rows.invariant in
    let e = c.args.entries.now in
    let low = (row_low e c.rows.pass c.args.list c.in-Some.row i.table (faced_known c.args.pass.now c.rows.pass c.args.consumer c.args.list c.args.stop.now c.rows.stop c.in-Some.row c.rows.next i.kept i.faces c.in-Some.is)).0 in
    let rows = e.rows in record { fits = omega (arith, low, rows) }

pub overflow_add-stop-in-Some : goal.overflow_add-stop-in-Some
overflow_add-stop-in-Some g c =
    let i = c.rows.invariant in
    let e = c.args.entries.now in
    let low = (row_low e c.rows.pass c.args.list c.in-Some.row i.table (faced_known c.args.pass.now c.rows.pass c.args.consumer c.args.list c.args.stop.now c.rows.stop c.in-Some.row c.rows.next i.kept i.faces c.in-Some.is)).0 in
    let rows = e.rows in record { fits = omega (arith, low, rows) }
