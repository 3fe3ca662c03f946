use Rattle.std.proofs.Common.{rules, ◌≡◌, ◌≢◌, ◌<◌, ◌≤◌, ◌+◌, ◌-◌, ℕ, Bool, true, false, Option, Some, None, List, [], ◌∷◌, ◌++◌, length, get_or, set, sym, ap, ◌∙◌, subst, refl, arith}
use Rattle.row_order.specs.declared.slots.Slot.{Slot}
use Rattle.kept_rows.specs.Keeping.{Awake, LiveNames}
use Rattle.row_order.specs.Tree.{Leafed}
use Rattle.kept_rows.proofs.Waking.{live_word_is, leafed_leaf, awake_more}
use Rattle.kept_rows.proofs.rest.wake.Goals as goal

pub waking-init : goal.waking-init
waking-init g c = record { inside = omega arith; leafed = c.requires.leaves; awake = λ r s l. absurd (omega arith) }

pub waking-preserved : goal.waking-preserved
waking-preserved g c =
    let i = c.waking.invariant in
    let low : c.waking.row < length c.args.slots.now = c.waking-test.true in
    let wide = c.requires.wide in
    let long = i.leafed.long in
    let names : LiveNames c.index-slots-row.result.state c.waking.row c.live_word.result = subst (λ (s : Slot g.row.C.Denot). LiveNames s.state c.waking.row c.live_word.result) (sym c.index-slots-row.is) c.live_word.ensures in
    record {
      inside = omega arith;
      leafed = leafed_leaf c.args.width (length c.args.slots.now) c.waking.row c.live_word.result c.waking.nodes i.leafed (omega arith) low (live_word_is c.index-slots-row.result.state c.waking.row c.live_word.result names);
      awake = awake_more c.args.slots.now c.args.width c.waking.row c.live_word.result c.waking.nodes c.index-slots-row.result i.awake low (omega arith) c.index-slots-row.is names;
    }

pub returns : goal.returns
returns g c =
    let i = c.waking.invariant in
    let end : length c.args.slots.now ≤ c.waking.row = c.waking-test.false in
    record { leaves = i.leafed; awake = λ r s l at. i.awake r s (omega arith) at }
