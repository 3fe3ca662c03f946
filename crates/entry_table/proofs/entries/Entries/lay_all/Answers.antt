use Rattle.std.proofs.Common.{◌≡◌, ◌≤◌, ◌∙◌, length, reverse, take, drop, ◌++◌, refl, sym, ap, subst, arith}
use Rattle.entry_table.specs.declared.view.Shape.{Shape}
use Rattle.entry_table.specs.declared.view.View.{View}
use Rattle.entry_table.specs.Passes.{view}
use Rattle.entry_table.proofs.Ends.{Going, going_begins, going_next, can_lay, lay_more, turned_items, zero_at, zeros}
use Rattle.entry_table.proofs.entries.Entries.lay_all.Goals as goal

pub entries-init : goal.entries-init
entries-init g c =
    let e = c.args.self.now in
    let turned = turned_items c.args.start.items c.reverse.new.self c.args.start.len (sym c.args.start.ok.0) (c.reverse.ensures.after ∙ ap reverse c.as_mut_slice.ensures.value) in
    record {
      table = c.requires.table;
      caller = c.requires.caller;
      going = subst (λ (v : View). Going g.C.Freight.goods c.args.start.items v zeros zeros (take c.args.start.len (c.reverse.new.self ++ drop (length c.reverse.new.self) c.args.start.items))) (sym c.requires.view) (going_begins g.C.Freight.goods e.shape c.args.start.items _ zeros zeros refl refl zero_at zero_at turned c.requires.start);
    }

pub lay-row-requires-clause-can : goal.lay-row-requires-clause-can
lay-row-requires-clause-can g c =
    let e = c.args.self.now in
    let i = c.entries.invariant in
    let v = view c.entries.pass in
    let n = going_next g.C.Freight.goods c.args.start.items v c.entries.stops c.entries.places c.entries.rest.items c.pop.new.self.items c.in-Some.slip c.in-Some.cargo c.in-Some.ensures.items i.going in
    let shape : v.shape ≡ e.shape = i.table.shape in
    let rows : v.shape.rows ≡ e.shape.rows = ap (λ (s : Shape). s.rows) shape in
    let small = e.rows in
    let few : length c.args.start.items ≤ e.shape.rows = let r = c.requires.room in let ok = c.args.start.ok in omega (arith, r, ok) in
    let less = n.less in
    can_lay g.C.Freight.goods n.done v c.entries.stops c.entries.places c.in-Some.slip c.in-Some.cargo n.laying c.entries.pass.within (omega (arith, rows, small)) (omega (arith, rows, less, few)) n.may

pub overflow_add-places : goal.overflow_add-places
overflow_add-places g c =
    let e = c.args.self.now in
    let i = c.entries.invariant in
    let v = view c.entries.pass in
    let n = going_next g.C.Freight.goods c.args.start.items v c.entries.stops c.entries.places c.entries.rest.items c.pop.new.self.items c.in-Some.slip c.in-Some.cargo c.in-Some.ensures.items i.going in
    let small = e.rows in
    let few : length c.args.start.items ≤ e.shape.rows = let r = c.requires.room in let ok = c.args.start.ok in omega (arith, r, ok) in
    let less = n.less in
    let least = n.laying.few c.in-Some.slip.list n.may.fits.list in
    omega (arith, least, less, few, small)

pub entries-preserved : goal.entries-preserved
entries-preserved g c =
    let e = c.args.self.now in
    let i = c.entries.invariant in
    let v = view c.entries.pass in
    let w = view c.lay-row.new.pass in
    let n = going_next g.C.Freight.goods c.args.start.items v c.entries.stops c.entries.places c.entries.rest.items c.pop.new.self.items c.in-Some.slip c.in-Some.cargo c.in-Some.ensures.items i.going in
    let shape : v.shape ≡ e.shape = i.table.shape in
    let rows : v.shape.rows ≡ e.shape.rows = ap (λ (s : Shape). s.rows) shape in
    let lists : v.shape.lists ≡ e.shape.lists = ap (λ (s : Shape). s.lists) shape in
    let small = e.rows in
    let few_lists = e.lists in
    let few : length c.args.start.items ≤ e.shape.rows = let r = c.requires.room in let ok = c.args.start.ok in omega (arith, r, ok) in
    let less = n.less in
    let d = c.lay-row.ensures.laid in
    record {
      table = c.lay-row.ensures.table;
      caller = c.lay-row.ensures.caller;
      going = n.rest w _ _ (ap (λ (z : View). z.shape) d.view)
          (lay_more g.C.Freight.goods n.done v w c.entries.stops c.entries.places c.in-Some.slip c.in-Some.cargo c.lay-row.result n.laying c.entries.pass.within (omega (arith, lists, few_lists)) (omega (arith, rows, small)) (omega (arith, rows, less, few)) n.may.fits.list d);
    }
