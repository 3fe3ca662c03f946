use Rattle.std.proofs.Common.{◌≡◌, ◌+◌, ◌-◌, ◌<◌, ℕ, suc, subst, arith}
use Rattle.acts_core.specs.Walks.{IsStop, reach}
use Rattle.entry_table.specs.Passes.{state}
use Rattle.entry_table.proofs.Later.{kept_trans, pass_of}
use Rattle.scavenge_core.specs.Scavenges.{Scavenging}
use Rattle.scavenge_core.proofs.Stepping.{row_low}
use Rattle.scavenge_core.proofs.Visiting.{begins, reaches_of, ends_over, links_turn, stop_turn, mark_turn, less_turn, scavenged_end}
use Rattle.scavenge_core.proofs.scavenges.scavenge.Goals as goal

pub rows-init : goal.rows-init
rows-init g c =
    let k = c.look-mark.ensures in record {
      table = pass_of c.args.entries.now c.args.pass.now c.look-mark.new.pass c.requires.table k.kept;
      kept = k.kept;
      stop = tt;
      links = begins c.args.pass.now c.look-mark.new.pass c.args.list c.look-mark.result k.kept k.rights k.did k.shown;
    }

pub returns-in_default-clause-scavenged : goal.returns-in_default-clause-scavenged
returns-in_default-clause-scavenged g c =
    scavenged_end c.args.pass.now c.rows.pass c.step_behind.new.pass c.args.list c.look-mark.result c.rows.stop c.rows.invariant.stop c.rows.invariant.links
    (ends_over c.rows.pass c.step_behind.new.pass c.args.list c.rows.stop c.step_behind.result c.step_behind.ensures.steps c.in_default.is)

pub overflow_add-stop : goal.overflow_add-stop
overflow_add-stop g c =
    let t = reaches_of c.rows.pass c.step_behind.new.pass c.args.list c.rows.stop c.in-Some.row c.step_behind.result c.step_behind.ensures.steps c.in-Some.is in
    let e = c.args.entries.now in
    let low = (row_low e c.step_behind.new.pass c.args.list c.in-Some.row (pass_of e c.rows.pass c.step_behind.new.pass c.rows.invariant.table c.step_behind.ensures.kept) t.names.there).0 in
    let rows = e.rows in record { fits = omega (arith, low, rows) }

pub look-requires-clause-word : goal.look-requires-clause-word
look-requires-clause-word g c =
    let t = reaches_of c.rows.pass c.step_behind.new.pass c.args.list c.rows.stop c.in-Some.row c.step_behind.result c.step_behind.ensures.steps c.in-Some.is in
    let e = c.args.entries.now in
    (row_low e c.step_behind.new.pass c.args.list c.in-Some.row (pass_of e c.rows.pass c.step_behind.new.pass c.rows.invariant.table c.step_behind.ensures.kept) t.names.there).0

pub returns-then-look-mark-clause-scavenged : goal.returns-then-look-mark-clause-scavenged
returns-then-look-mark-clause-scavenged g c =
    mark_turn c.args.entries.now c.args.pass.now c.rows.pass c.step_behind.new.pass c.look.new.pass c.args.list c.look-mark.result c.rows.stop c.in-Some.row c.look.result c.rows.invariant.table c.rows.invariant.stop c.rows.invariant.links c.step_behind.ensures.kept (reaches_of c.rows.pass c.step_behind.new.pass c.args.list c.rows.stop c.in-Some.row c.step_behind.result c.step_behind.ensures.steps c.in-Some.is) c.look.ensures.kept c.look.ensures.rights c.look.ensures.did c.look.ensures.shows c.look.ensures.shown c.if-look-mark.true

pub rows-smaller : goal.rows-smaller
rows-smaller g c =
    let next : suc c.in-Some.row ≡ c.in-Some.row + 1 = omega arith in
    subst (λ (i : ℕ). c.args.entries.now.shape.rows - reach (state c.look.new.pass) i < c.args.entries.now.shape.rows - reach (state c.rows.pass) c.rows.stop) next
    (less_turn c.args.entries.now c.args.pass.now c.rows.pass c.step_behind.new.pass c.look.new.pass c.args.list c.look-mark.result c.rows.stop c.in-Some.row c.look.result c.rows.invariant.table c.rows.invariant.stop c.rows.invariant.links c.step_behind.ensures.kept (reaches_of c.rows.pass c.step_behind.new.pass c.args.list c.rows.stop c.in-Some.row c.step_behind.result c.step_behind.ensures.steps c.in-Some.is) c.look.ensures.kept c.look.ensures.rights c.look.ensures.did c.look.ensures.shows c.look.ensures.shown)

pub rows-preserved : goal.rows-preserved
rows-preserved g c =
    let next : suc c.in-Some.row ≡ c.in-Some.row + 1 = omega arith in
    let all = kept_trans c.rows.pass c.step_behind.new.pass c.look.new.pass c.step_behind.ensures.kept c.look.ensures.kept in record {
      table = pass_of c.args.entries.now c.rows.pass c.look.new.pass c.rows.invariant.table all;
      kept = kept_trans c.args.pass.now c.rows.pass c.look.new.pass c.rows.invariant.kept all;
      stop = subst (λ (i : ℕ). IsStop (state c.look.new.pass) c.args.list i) next (stop_turn c.args.entries.now c.args.pass.now c.rows.pass c.step_behind.new.pass c.look.new.pass c.args.list c.look-mark.result c.rows.stop c.in-Some.row c.look.result c.rows.invariant.table c.rows.invariant.stop c.rows.invariant.links c.step_behind.ensures.kept (reaches_of c.rows.pass c.step_behind.new.pass c.args.list c.rows.stop c.in-Some.row c.step_behind.result c.step_behind.ensures.steps c.in-Some.is) c.look.ensures.kept c.look.ensures.rights c.look.ensures.did c.look.ensures.shows c.look.ensures.shown);
      links = subst (λ (i : ℕ). Scavenging c.args.pass.now c.look.new.pass c.args.list c.look-mark.result i) next (links_turn c.args.entries.now c.args.pass.now c.rows.pass c.step_behind.new.pass c.look.new.pass c.args.list c.look-mark.result c.rows.stop c.in-Some.row c.look.result c.rows.invariant.table c.rows.invariant.stop c.rows.invariant.links c.step_behind.ensures.kept (reaches_of c.rows.pass c.step_behind.new.pass c.args.list c.rows.stop c.in-Some.row c.step_behind.result c.step_behind.ensures.steps c.in-Some.is) c.look.ensures.kept c.look.ensures.rights c.look.ensures.did c.look.ensures.shows c.look.ensures.shown);
    }
