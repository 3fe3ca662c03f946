use Rattle.std.proofs.Common.{rules, ◌≡◌, ◌≢◌, ◌<◌, ◌≤◌, ◌+◌, ◌-◌, ℕ, Bool, true, false, Option, Some, None, List, [], ◌∷◌, ◌++◌, length, get_or, set, sym, ap, ◌∙◌, subst, refl, arith}
use Rattle.std.proofs.Common.{map}
use Rattle.queue_model.specs.declared.queues.Depth.{Depth}
use Rattle.row_order.specs.declared.slots.Slot.{Slot}
use Rattle.row_order.specs.Order.{ranks}
use Rattle.acts_core.specs.Kept.{Kept}
use Rattle.acts_core.specs.Rest.{AtRest, left_of}
use Rattle.acts_core.specs.Load.{Load}
use Rattle.kept_rows.specs.Keeping.{kept_of, AllCarry, Lives, Ready}
use Rattle.kept_rows.specs.Resting.{Gathered, RestsOf}
use Rattle.kept_rows.proofs.Waking.{ready_at, apart_order, rests_of, few_apart}
use Rattle.kept_rows.proofs.rows.KeptRows.into_rest.Goals as goal

lives_now : {C : Type 0} (b : Bool) (now slots : List (Slot C)) (order : List ℕ) → now ≡ slots → Lives (ranks b now) now order → Lives (ranks b slots) slots order
lives_now b now slots order is l = subst (λ (z : List (Slot _)). Lives (ranks b z) z order) is l

pub gather-requires-clause-ready : goal.gather-requires-clause-ready
gather-requires-clause-ready g c =
    let old = c.self.inside in
    let lives = lives_now g.O.Ranking.by_key c.deref.result.now old.slots.items c.list_live.new.order.items c.deref.ensures.value c.list_live.ensures in
    let rests : AtRest (kept_of g.C.Freight.goods old.slots.items old.depth old.spare) = subst AtRest (sym c.self.view_is) c.requires.rest in
    subst (λ (z : List (Slot g.row.C.Denot) × List ℕ). (i : ℕ) → i < length z.1 → Ready g.C.Freight.goods z.0 (get_or z.1 i 0)) (λ t. (sym c.deref_mut-2.ensures.value t, sym c.deref-2.ensures.value t))
    (ready_at g.C.Freight.goods g.O.Ranking.by_key old.slots.items old.depth old.spare c.list_live.new.order.items lives c.self.invariant.0.carry rests)

pub gather-requires-clause-apart : goal.gather-requires-clause-apart
gather-requires-clause-apart g c =
    let old = c.self.inside in
    let lives = lives_now g.O.Ranking.by_key c.deref.result.now old.slots.items c.list_live.new.order.items c.deref.ensures.value c.list_live.ensures in
    subst (λ (z : List ℕ). (i j : ℕ) → i < j → j < length z → get_or z i 0 ≢ get_or z j 0) (sym c.deref-2.ensures.value)
    (apart_order g.C.Freight.goods g.O.Ranking.by_key old.slots.items old.depth old.spare c.list_live.new.order.items lives)

pub gather-requires-clause-room : goal.gather-requires-clause-room
gather-requires-clause-room g c =
    let old = c.self.inside in
    let lives = lives_now g.O.Ranking.by_key c.deref.result.now old.slots.items c.list_live.new.order.items c.deref.ensures.value c.list_live.ensures in
    let apart = apart_order g.C.Freight.goods g.O.Ranking.by_key old.slots.items old.depth old.spare c.list_live.new.order.items lives in
    let few = few_apart (length old.slots.items) c.list_live.new.order.items lives.inside apart in
    let same : length c.deref-2.result.now ≡ length c.list_live.new.order.items = ap (λ (z : List ℕ). length z) c.deref-2.ensures.value in
    let room = c.self.invariant.1.rest_fits.1 in
    let ok = old.slots.ok.0 in
    omega arith

pub returns : goal.returns
returns g c =
    let old = c.self.inside in
    let marks = g.M.Marking.marks c.args.marking.now in
    let lives = lives_now g.O.Ranking.by_key c.deref.result.now old.slots.items c.list_live.new.order.items c.deref.ensures.value c.list_live.ensures in
    let gathered : Gathered g.C.Freight.goods (kept_of g.C.Freight.goods old.slots.items old.depth old.spare) (g.M.Marking.marks c.args.marking.now) c.list_live.new.order.items (length c.list_live.new.order.items) c.gather.new.rest.items =
    subst (λ (z : List (Slot g.row.C.Denot) × List ℕ). Gathered g.C.Freight.goods (kept_of g.C.Freight.goods z.0 old.depth old.spare) (g.M.Marking.marks c.args.marking.now) z.1 (length z.1) c.gather.new.rest.items) (λ t. (c.deref_mut-2.ensures.value t, c.deref-2.ensures.value t)) (c.gather.ensures old.depth old.spare) in
    record {
      rest = subst (λ (k : Kept). RestsOf g.O.Ranking.by_key k (g.M.Marking.marks c.args.marking.now) (map (left_of g.C.Freight.goods) c.gather.new.rest.items)) c.self.view_is
          (rests_of g.C.Freight.goods g.O.Ranking.by_key old.slots.items old.depth old.spare c.list_live.new.order.items lives (g.M.Marking.marks c.args.marking.now) c.gather.new.rest.items gathered);
    }
