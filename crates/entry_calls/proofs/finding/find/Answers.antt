use Rattle.std.proofs.Common.{◌≡◌, refl, sym, ◌∙◌, arith}
use Rattle.acts_core.specs.Walks.{Named}
use Rattle.acts_core.proofs.Coming.{none_done, less_left}
use Rattle.entry_table.specs.Passes.{opening}
use Rattle.entry_table.specs.Sights.{build_of, sight}
use Rattle.entry_table.proofs.Later.{kept_same, kept_trans, pass_of, opening_lists}
use Rattle.entry_calls.proofs.Naming.{finds_some, finds_none}
use Rattle.entry_calls.proofs.finding.find.Goals as goal

pub lists-init : goal.lists-init
lists-init g c =
    let all : c.lists-list.result ≡ (opening c.args.pass.now).lists = c.lists-list.ensures ∙ sym (opening_lists c.args.entries.now c.args.pass.now c.requires.serves.pass) in
    record {
      table = c.requires.serves.pass;
      kept = kept_same c.args.pass.now;
      few = omega (arith, all);
      done = none_done (sight c.args.pass.now) (Named c.args.id) c.lists-list.result c.requires.serves.legal all;
    }

pub find_in-requires-clause-list : goal.find_in-requires-clause-list
find_in-requires-clause-list g c =
    let all = opening_lists c.args.entries.now c.args.pass.now c.requires.serves.pass in
    omega (arith, all, c.lists.invariant.few, c.lists-test.true)

pub returns-in-Some-clause-called : goal.returns-in-Some-clause-called
returns-in-Some-clause-called g c =
    finds_some (build_of c.args.entries.now) c.args.id c.lists.list c.in-Some.row (sight c.args.pass.now) (sight c.lists.pass) (sight c.find_in.new.pass) refl c.lists-test.true c.lists.invariant.done c.in-Some.ensures.finds

pub lists-preserved : goal.lists-preserved
lists-preserved g c =
    let few = c.lists.invariant.few in
    record {
      table = pass_of c.args.entries.now c.lists.pass c.find_in.new.pass c.lists.invariant.table c.find_in.ensures.kept;
      kept = kept_trans c.args.pass.now c.lists.pass c.find_in.new.pass c.lists.invariant.kept c.find_in.ensures.kept;
      few = omega (arith, few);
      done = less_left (sight c.args.pass.now) (sight c.lists.pass) (sight c.find_in.new.pass) (Named c.args.id) c.lists.list (opening c.args.pass.now).lists c.lists-test.true few c.lists.invariant.done c.in_default.ensures.finds;
    }

pub returns-clause-called : goal.returns-clause-called
returns-clause-called g c =
    finds_none (build_of c.args.entries.now) c.args.id c.lists.list (sight c.args.pass.now) (sight c.lists.pass) refl c.lists-test.false c.lists.invariant.done
