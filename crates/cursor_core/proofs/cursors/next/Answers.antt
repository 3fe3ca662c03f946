use Rattle.std.proofs.Common.{◌≡◌, ◌≤◌, ◌-◌, ℕ, length, slice_set, refl, sym, ap, ◌∙◌, subst, arith}
use mathlib.Core.List.{Mem}
use Rattle.queue_model.specs.declared.queues.Queue.{Queue}
use Rattle.entry_table.specs.Passes.{consumers, opening, seen}
use Rattle.entry_table.specs.Sights.{sight}
use Rattle.entry_table.proofs.Later.{kept_same, kept_trans, pass_of, opening_lists}
use Rattle.cursor_core.specs.Listing.{Done}
use Rattle.cursor_core.specs.Truths.{TrueOf}
use Rattle.cursor_core.proofs.AtPass.{lists_few, list_good, got_of, end_of}
use Rattle.cursor_core.proofs.Listing.{done_start, loop_end, loop_called, loop_true, loop_walked, end_called, end_true, end_walked}
use Rattle.cursor_core.proofs.cursors.next.Goals as goal

pub lists-init : goal.lists-init
lists-init g c =
    let old = c.args.pass.now in
    let k = c.args.cursor.now in
    let all : c.lists-list.result ≡ (opening old).lists = c.lists-list.ensures ∙ sym (opening_lists c.args.entries.now old c.requires.serves.pass) in
    record {
      table = c.requires.serves.pass;
      kept = kept_same old;
      same = refl;
      done =
          subst (λ (n : ℕ). Done (opening old) (sight old) (sight old) k.consumer n k.stops k.stops) (sym all)
          (done_start (opening old) (sight old) k.consumer k.stops refl c.requires.serves.legal c.requires.truth);
    }

pub bounds-cursor-list : goal.bounds-cursor-list
bounds-cursor-list g c =
    let few = lists_few c.args.entries.now c.args.pass.now c.requires.serves.pass in
    let low = c.lists.invariant.done.low in
    omega (arith, few, low, c.lists-test.true)

pub walk_free-got-requires-clause-list : goal.walk_free-got-requires-clause-list
walk_free-got-requires-clause-list g c =
    let all = opening_lists c.args.entries.now c.args.pass.now c.requires.serves.pass in
    let low = c.lists.invariant.done.low in
    omega (arith, all, low, c.lists-test.true)

pub walk_free-got-requires-clause-consumer : goal.walk_free-got-requires-clause-consumer
walk_free-got-requires-clause-consumer g c =
    let i = c.lists.invariant in
    subst (λ (n : ℕ). Mem n (consumers c.lists.pass)) (sym i.same) (subst (Mem c.args.cursor.now.consumer) (sym i.kept.consumers) c.requires.consumer)

pub walk_free-got-requires-clause-quiet : goal.walk_free-got-requires-clause-quiet
walk_free-got-requires-clause-quiet g c = ap (λ (o : Queue). o.bells) c.lists.invariant.kept.opening ∙ c.requires.serves.opening.bells

pub walk_free-got-requires-clause-good : goal.walk_free-got-requires-clause-good
walk_free-got-requires-clause-good g c =
    let i = c.lists.invariant in
    list_good c.args.pass.now c.lists.pass c.lists.list c.args.cursor.now c.lists.cursor i.kept i.same c.lists-test.true i.done

pub bounds-cursor-list-in-lists : goal.bounds-cursor-list-in-lists
bounds-cursor-list-in-lists g c =
    let few = lists_few c.args.entries.now c.args.pass.now c.requires.serves.pass in
    let low = c.lists.invariant.done.low in
    omega (arith, few, low, c.lists-test.true)

pub returns-in-Some-clause-called : goal.returns-in-Some-clause-called
returns-in-Some-clause-called g c =
    let i = c.lists.invariant in
    let few = lists_few c.args.entries.now c.args.pass.now c.requires.serves.pass in
    let low = i.done.low in
    let places = c.lists.cursor.places in
    let long : c.lists.list ≤ length c.lists.cursor.stops = omega (arith, few, low, places) in
    loop_called c.args.entries.now.shape.rows (sight c.args.pass.now) (sight c.lists.pass) (sight c.walk_free-got.new.pass) c.lists.list c.walk_free-got.new.stop c.in-Some.row c.args.cursor.now c.lists.cursor.stops (g.C.Freight.goods c.in-Some.cargo)
    c.requires.consumer long c.lists-test.true i.done (got_of c.args.pass.now c.lists.pass c.walk_free-got.new.pass c.args.cursor.now c.lists.cursor _ _ _ _ _ i.kept i.same c.in-Some.ensures.walks)

pub returns-in-Some-clause-truth : goal.returns-in-Some-clause-truth
returns-in-Some-clause-truth g c =
    let i = c.lists.invariant in
    let few = lists_few c.args.entries.now c.args.pass.now c.requires.serves.pass in
    let low = i.done.low in
    let places = c.lists.cursor.places in
    let new = c.walk_free-got.new.pass in
    let long : c.lists.list ≤ length c.lists.cursor.stops = omega (arith, few, low, places) in
    let back = c.in-Some.ensures.kept.opening ∙ i.kept.opening in
    let stops = slice_set c.lists.cursor.stops (c.lists.list - 1) c.walk_free-got.new.stop in
    subst (λ (o : Queue). TrueOf o c.lists.cursor.consumer stops (seen new)) (sym back)
    (subst (λ (h : ℕ). TrueOf (opening c.args.pass.now) h stops (seen new)) (sym i.same)
    (loop_true c.args.entries.now.shape.rows (sight c.args.pass.now) (sight c.lists.pass) (sight new) c.lists.list c.walk_free-got.new.stop c.in-Some.row c.args.cursor.now c.lists.cursor.stops (g.C.Freight.goods c.in-Some.cargo)
    c.requires.consumer long c.lists-test.true i.done (got_of c.args.pass.now c.lists.pass new c.args.cursor.now c.lists.cursor _ _ _ _ _ i.kept i.same c.in-Some.ensures.walks)))

pub returns-in-Some-clause-walks : goal.returns-in-Some-clause-walks
returns-in-Some-clause-walks g c =
    let i = c.lists.invariant in
    let few = lists_few c.args.entries.now c.args.pass.now c.requires.serves.pass in
    let low = i.done.low in
    let places = c.lists.cursor.places in
    let long : c.lists.list ≤ length c.lists.cursor.stops = omega (arith, few, low, places) in
    loop_walked c.args.entries.now.shape.rows (sight c.args.pass.now) (sight c.lists.pass) (sight c.walk_free-got.new.pass) c.lists.list c.walk_free-got.new.stop c.in-Some.row c.args.cursor.now c.lists.cursor.stops (g.C.Freight.goods c.in-Some.cargo)
    c.requires.consumer long c.lists-test.true i.done (got_of c.args.pass.now c.lists.pass c.walk_free-got.new.pass c.args.cursor.now c.lists.cursor _ _ _ _ _ i.kept i.same c.in-Some.ensures.walks) _ refl

pub lists-preserved : goal.lists-preserved
lists-preserved g c =
    let i = c.lists.invariant in
    let few = lists_few c.args.entries.now c.args.pass.now c.requires.serves.pass in
    let low = i.done.low in
    let places = c.lists.cursor.places in
    let long : c.lists.list ≤ length c.lists.cursor.stops = omega (arith, few, low, places) in
    let new = c.walk_free-got.new.pass in
    record {
      table = pass_of c.args.entries.now c.lists.pass new i.table c.in_default.ensures.kept;
      kept = kept_trans c.args.pass.now c.lists.pass new i.kept c.in_default.ensures.kept;
      same = i.same;
      done =
          loop_end (opening c.args.pass.now) (sight c.args.pass.now) (sight c.lists.pass) (sight new) c.args.cursor.now.consumer c.lists.list c.walk_free-got.new.stop c.args.cursor.now.stops c.lists.cursor.stops
          c.requires.consumer long c.lists-test.true i.done (end_of c.args.pass.now c.lists.pass new c.args.cursor.now c.lists.cursor _ _ _ i.kept i.same c.in_default.ensures.walks);
    }

pub returns-clause-called : goal.returns-clause-called
returns-clause-called g c =
    end_called c.args.entries.now.shape.rows (sight c.args.pass.now) (sight c.lists.pass) c.lists.list c.args.cursor.now c.lists.cursor.stops c.lists-test.false c.lists.invariant.done

pub returns-clause-truth : goal.returns-clause-truth
returns-clause-truth g c =
    let i = c.lists.invariant in
    subst (λ (o : Queue). TrueOf o c.lists.cursor.consumer c.lists.cursor.stops (seen c.lists.pass)) (sym i.kept.opening)
    (subst (λ (h : ℕ). TrueOf (opening c.args.pass.now) h c.lists.cursor.stops (seen c.lists.pass)) (sym i.same)
    (end_true c.args.entries.now.shape.rows (sight c.args.pass.now) (sight c.lists.pass) c.lists.list c.args.cursor.now c.lists.cursor.stops c.lists-test.false i.done))

pub returns-clause-walks : goal.returns-clause-walks
returns-clause-walks g c =
    end_walked c.args.entries.now.shape.rows (sight c.args.pass.now) (sight c.lists.pass) c.lists.list c.args.cursor.now c.lists.cursor.stops c.lists-test.false c.lists.invariant.done c.lists.cursor refl
