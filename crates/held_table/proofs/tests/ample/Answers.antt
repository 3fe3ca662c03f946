use Rattle.std.proofs.Common.{◌≡◌, ◌<◌, ℕ, List, ◌∷◌, sym, ap, ◌∙◌, subst, arith}
use mathlib.Core.List.{Mem, mem-cons_self}
use Rattle.acts_core.specs.Sight.{Sight}
use Rattle.held_table.proofs.Narrowing.{masks_of, opens_narrow}
use Rattle.held_table.proofs.tests.ample.Goals as goal

pub make-requires-2-clause-opening : goal.make-requires-2-clause-opening
make-requires-2-clause-opening g c =
    let made = c.in_ok-core.ensures in
    let a = c.entry.ensures.mask in
    let b = c.entry-2.ensures.mask in
    let d = c.entry-3.ensures.mask in
    let e = c.entry-4.ensures.mask in
    opens_narrow 1 c.in_ok-core.core made.opens.0 made.opens.1 made.opens.2
    (masks_of _ 1 c.in_ok-core.core _ _ made.entered c.in_ok-start.ensures.items (omega (arith, a), (omega (arith, b), (omega (arith, d), (omega (arith, e), tt)))))

pub taken-requires-clause-consumer : goal.taken-requires-clause-consumer
taken-requires-clause-consumer g c κs = subst (Mem 0) (sym (ap (λ (z : Sight). z.consumers) c.in_ok-queue.ensures.fresh.sight)) mem-cons_self
