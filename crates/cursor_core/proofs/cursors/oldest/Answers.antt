use Rattle.std.proofs.Common.{◌≡◌, refl, arith}
use Rattle.acts_core.specs.Walks.{Ready}
use Rattle.acts_core.proofs.Walking.{done_none}
use Rattle.entry_table.specs.Passes.{opening}
use Rattle.entry_table.specs.Sights.{build_of, sight}
use Rattle.entry_table.proofs.Later.{kept_same, kept_trans, pass_of, opening_lists}
use Rattle.cursor_core.proofs.Calling.{more_done, oldest_answers, oldest_ends}
use Rattle.cursor_core.proofs.cursors.oldest.Goals as goal

pub loop-list-init : goal.loop-list-init
loop-list-init g c = record {
  table = c.requires.serves.pass;
  kept = kept_same c.args.pass.now;
  done = done_none (sight c.args.pass.now) Ready 0 c.requires.serves.legal;
}

pub returns-in-Some-clause-called : goal.returns-in-Some-clause-called
returns-in-Some-clause-called g c =
    oldest_answers (build_of c.args.entries.now) c.loop-list.list c.in-Some.row (g.C.Freight.goods c.in-Some.cargo) (sight c.args.pass.now) (sight c.loop-list.pass) (sight c.walk_ready.new.pass) refl c.loop-list.invariant.done c.in-Some.ensures.walks

pub loop-list-preserved : goal.loop-list-preserved
loop-list-preserved g c = record {
  table = pass_of c.args.entries.now c.loop-list.pass c.walk_ready.new.pass c.loop-list.invariant.table c.walk_ready.ensures.kept;
  kept = kept_trans c.args.pass.now c.loop-list.pass c.walk_ready.new.pass c.loop-list.invariant.kept c.walk_ready.ensures.kept;
  done = more_done (sight c.args.pass.now) (sight c.loop-list.pass) (sight c.walk_ready.new.pass) Ready c.loop-list.list c.loop-list.invariant.done c.in_default.ensures.walks;
}

pub returns-clause-called : goal.returns-clause-called
returns-clause-called g c =
    let all = opening_lists c.args.entries.now c.args.pass.now c.requires.serves.pass in
    let end : c.loop-list.list ≡ (opening c.args.pass.now).lists = omega (arith, all, c.lists-list-end.ensures, c.loop-list-test.false, c.loop-list.auto.list-end) in
    oldest_ends (build_of c.args.entries.now) c.loop-list.list (sight c.args.pass.now) (sight c.loop-list.pass) refl end c.loop-list.invariant.done
