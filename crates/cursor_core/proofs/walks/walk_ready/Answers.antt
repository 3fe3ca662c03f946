use Rattle.std.proofs.Common.{◌≡◌, ◌+◌, ℕ, suc, subst, arith}
use Rattle.acts_core.specs.Walks.{Ready, IsStop}
use Rattle.entry_table.specs.Passes.{state}
use Rattle.entry_table.specs.Sights.{sight}
use Rattle.entry_table.proofs.Later.{kept_trans, pass_of}
use Rattle.cursor_core.proofs.Getting.{got_ready}
use Rattle.cursor_core.proofs.Runs.{run_first, run_on, run_smaller, row_tried, row_faced}
use Rattle.scavenge_core.proofs.Stepping.{row_low}
use Rattle.cursor_core.proofs.walks.walk_ready.Goals as goal

pub rows-init : goal.rows-init
rows-init g c =
    let k = c.step_behind-next.ensures in
    record {
      table = pass_of c.args.entries.now c.args.pass.now c.step_behind-next.new.pass c.requires.table k.kept;
      kept = k.kept;
      faces = run_first c.args.pass.now c.step_behind-next.new.pass Ready c.args.list c.step_behind-next.result k.steps;
    }

pub returns-in-Some-take_ready-clause-walks : goal.returns-in-Some-take_ready-clause-walks
returns-in-Some-take_ready-clause-walks g c = got_ready (sight c.args.pass.now) (sight c.rows.pass) (sight c.take_ready.new.pass) c.args.list c.in-Some.row (g.C.Freight.goods c.in-Some-take_ready.cargo) c.rows.next c.rows.invariant.faces c.in-Some.is c.in-Some-take_ready.ensures.takes

pub overflow_add-row : goal.overflow_add-row
overflow_add-row g c =
    let e = c.args.entries.now in
    let low = (row_low e c.rows.pass c.args.list c.in-Some.row c.rows.invariant.table (row_faced (sight c.args.pass.now) c.rows.pass Ready c.args.list c.in-Some.row c.rows.next c.rows.invariant.faces c.in-Some.is)).0 in
    let rows = e.rows in record { fits = omega (arith, low, rows) }

pub step_behind-next-requires-in-Some-clause-stop : goal.step_behind-next-requires-in-Some-clause-stop
step_behind-next-requires-in-Some-clause-stop g c =
    let e : suc c.in-Some.row ≡ c.in-Some.row + 1 = omega arith in
    subst (λ (n : ℕ). IsStop (state c.take_ready.new.pass) c.args.list n) e
    (row_tried (sight c.args.pass.now) c.rows.pass c.take_ready.new.pass Ready c.args.list c.in-Some.row c.rows.next c.rows.invariant.faces c.in-Some.is c.in_default-take_ready.ensures.takes.misses)

pub rows-smaller : goal.rows-smaller
rows-smaller g c =
    let e = c.args.entries.now in
    let low = (row_low e c.rows.pass c.args.list c.in-Some.row c.rows.invariant.table (row_faced (sight c.args.pass.now) c.rows.pass Ready c.args.list c.in-Some.row c.rows.next c.rows.invariant.faces c.in-Some.is)).1 in
    run_smaller e.shape.rows (sight c.args.pass.now) c.rows.pass c.take_ready.new.pass c.step_behind-next-in-Some.new.pass Ready c.args.list c.in-Some.row c.rows.next c.step_behind-next-in-Some.result
    c.rows.invariant.faces c.in-Some.is c.in_default-take_ready.ensures.takes.misses c.step_behind-next-in-Some.ensures.steps low

pub rows-preserved : goal.rows-preserved
rows-preserved g c =
    let e = c.args.entries.now in
    let now = c.rows.pass in
    let mid = c.take_ready.new.pass in
    let last = c.step_behind-next-in-Some.new.pass in
    let second = c.step_behind-next-in-Some.ensures in
    let both = kept_trans now mid last c.take_ready.ensures.kept second.kept in
    record {
      table = pass_of e now last c.rows.invariant.table both;
      kept = kept_trans c.args.pass.now now last c.rows.invariant.kept both;
      faces = run_on (sight c.args.pass.now) now mid last Ready c.args.list c.in-Some.row c.rows.next c.step_behind-next-in-Some.result c.rows.invariant.faces c.in-Some.is c.in_default-take_ready.ensures.takes.misses second.steps;
    }
