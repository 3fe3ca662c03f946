use Rattle.std.proofs.Common.{rules, ◌≡◌, ◌≢◌, ◌<◌, ◌≤◌, ◌+◌, ◌-◌, ℕ, Bool, true, false, Option, Some, None, List, [], ◌∷◌, ◌++◌, length, get_or, set, sym, ap, ◌∙◌, subst, refl, arith}
use Rattle.std.proofs.lemmas.List.{length-set, get_or-set_other}
use Rattle.queue_model.specs.declared.queues.Depth.{Depth}
use Rattle.row_order.specs.declared.slots.Slot.{Slot}
use Rattle.acts_core.specs.declared.cargoes.RestEntry.{RestEntry}
use Rattle.kept_rows.specs.Keeping.{kept_of}
use Rattle.kept_rows.specs.Resting.{Gathered}
use Rattle.kept_rows.proofs.Keeping.{get_or_any}
use Rattle.kept_rows.proofs.Waking.{gathered_none, gathered_more, left_at, full_slot}
use Rattle.kept_rows.proofs.rest.gather.Goals as goal

-- the slot that was taken is the one of the beginning
slot_then : {C : Type 0} (now then : List (Slot C)) (r : ℕ) (s d : Slot C) → r < length now → s ≡ get_or now r d → get_or now r s ≡ get_or then r s → s ≡ get_or then r s
slot_then now then r s d l at same = at ∙ (get_or_any now r d s l ∙ same)

pub gathering-init : goal.gathering-init
gathering-init g c = record {
  inside = omega arith;
  long = refl;
  same = λ i s a b. refl;
  gathered = λ d spare. gathered_none g.C.Freight.goods (kept_of g.C.Freight.goods c.args.slots.now d spare) (g.M.Marking.marks c.args.marking.now) c.args.order.now c.args.rest.now.items c.requires.none;
  room = refl;
}

pub entry_of-requires : goal.entry_of-requires
entry_of-requires g c =
    let i = c.gathering.invariant in
    let low : c.gathering.at < length c.args.order.now = c.gathering-test.true in
    let ready = c.requires.ready c.gathering.at low in
    let inside = ready.inside in
    let long = i.long in
    let at = slot_then c.gathering.slots c.args.slots.now (get_or c.args.order.now c.gathering.at 0) c.replace-slot.result c.index-slots-row.result (omega arith) c.replace-slot.ensures.value (i.same c.gathering.at c.replace-slot.result (omega arith) low) in
    full_slot g.C.Freight.goods c.replace-slot.result (ready.carries c.replace-slot.result at) (ready.home c.replace-slot.result at)

pub push_reserved-requires : goal.push_reserved-requires
push_reserved-requires g c =
    let i = c.gathering.invariant in
    let low : c.gathering.at < length c.args.order.now = c.gathering-test.true in
    let long = (i.gathered (record { entries = 0; bytes = 0 }) 0).long in
    let ok = c.gathering.rest.ok.0 in
    let room = c.requires.room in
    let same = i.room in
    omega arith

pub gathering-preserved : goal.gathering-preserved
gathering-preserved g c =
    let i = c.gathering.invariant in
    let low : c.gathering.at < length c.args.order.now = c.gathering-test.true in
    let ready = c.requires.ready c.gathering.at low in
    let inside = ready.inside in
    let long = i.long in
    let at = slot_then c.gathering.slots c.args.slots.now (get_or c.args.order.now c.gathering.at 0) c.replace-slot.result c.index-slots-row.result (omega arith) c.replace-slot.ensures.value (i.same c.gathering.at c.replace-slot.result (omega arith) low) in
    record {
      inside = omega arith;
      long = length-set c.gathering.slots (get_or c.args.order.now c.gathering.at 0) c.replace-slot.new.dest ∙ i.long;
      same = λ j s a b. get_or-set_other c.gathering.slots (get_or c.args.order.now c.gathering.at 0) (get_or c.args.order.now j 0) c.replace-slot.new.dest s (λ z. c.requires.apart c.gathering.at j (omega arith) b (sym z)) ∙ i.same j s (omega arith) b;
      gathered = λ d spare. subst (λ (es : List (RestEntry g.row.C.Denot)). Gathered g.C.Freight.goods (kept_of g.C.Freight.goods c.args.slots.now d spare) (g.M.Marking.marks c.args.marking.now) c.args.order.now (c.gathering.at + 1) es) (sym c.push_reserved.ensures.items)
          (gathered_more g.C.Freight.goods (kept_of g.C.Freight.goods c.args.slots.now d spare) (g.M.Marking.marks c.args.marking.now) c.args.order.now c.gathering.at c.gathering.rest.items c.entry_of.result (i.gathered d spare)
          (left_at g.C.Freight.goods c.args.slots.now d spare (get_or c.args.order.now c.gathering.at 0) c.replace-slot.result c.entry_of.result (g.M.Marking.marks c.args.marking.now) inside at (ready.carries c.replace-slot.result at)
          c.entry_of.ensures.slip c.entry_of.ensures.state (c.entry_of.ensures.outdated ∙ c.is_outdated.ensures) c.entry_of.ensures.cargo));
      room = c.push_reserved.ensures.capacity ∙ i.room;
    }

pub returns : goal.returns
returns g c =
    let i = c.gathering.invariant in
    let end : length c.args.order.now ≤ c.gathering.at = c.gathering-test.false in
    let inside = i.inside in
    let all : c.gathering.at ≡ length c.args.order.now = omega arith in
    λ d spare. subst (λ (n : ℕ). Gathered g.C.Freight.goods (kept_of g.C.Freight.goods c.args.slots.now d spare) (g.M.Marking.marks c.args.marking.now) c.args.order.now n c.gathering.rest.items) all (i.gathered d spare)
