use Rattle.std.proofs.Common.{◌≡◌, ◌∙◌, refl, sym, ap, subst, arith}
use Rattle.queue_model.specs.declared.queues.Queue.{Queue}
use Rattle.queue_model.specs.Sound.{IsOpening}
use Rattle.entry_table.specs.declared.view.Shape.{Shape}
use Rattle.entry_table.specs.declared.view.View.{View}
use Rattle.entry_table.specs.Rule.{below}
use Rattle.entry_table.specs.Passes.{view}
use Rattle.entry_table.specs.Starting.{AreStarted}
use Rattle.entry_table.proofs.Ends.{laid_opens}
use Rattle.entry_table.proofs.entries.Entries.opened.Goals as goal

pub returns : goal.returns
returns g c =
    let e = c.args.self in
    let goods = g.C.Freight.goods in
    let start = c.args.start.items in
    let p = c.lay_all.new.pass in
    let v = view p in
    let b = c.lay_all.ensures.laid in
    let is = c.open.ensures.view in
    let shape : v.shape ≡ e.shape = c.lay_all.ensures.table.shape in
    let rows : v.shape.rows ≡ e.shape.rows = ap (λ (s : Shape). s.rows) shape in
    let small = e.rows in
    let opening = ap (λ (z : View). z.opening) is in
    let allowance = ap (λ (z : View). z.allowance) is in
    let share = ap (λ (z : View). z.share) is in
    let allowed = b.allowed in
    let shared = b.shared in record {
      pass = c.open.ensures.table;
      rows_is = refl;
      lists_is = refl;
      consumers_is = refl;
      caller = c.open.ensures.caller ∙ c.lay_all.ensures.caller;
      opened = subst IsOpening (sym opening) (laid_opens goods start v b p.within (omega (arith, rows, small)));
      started = subst (λ (q : Queue). AreStarted goods start q.rows) (sym opening) b.rows;
      seen_is = ap (λ (z : View). z.seen) is;
      shown_is = ap (λ (z : View). z.shown) is;
      callers_is = ap (λ (z : View). z.callers) is ∙ b.caller;
      made = ap (λ (z : View). z.made) is ∙ b.made;
      served = ap (λ (z : View). z.consumers) is ∙ (b.served ∙ ap (λ (s : Shape). below s.consumers) shape);
      allowed = omega (arith, allowance, allowed);
      shared = omega (arith, share, shared, rows);
    }
