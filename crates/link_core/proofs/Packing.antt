-- what is packed can be told again
use Rattle.std.proofs.Common.{◌≡◌, ◌≢◌, ℕ, ◌%◌, ◌<◌, IfSome, Option, Some, None, refl, ap, arith}
use Rattle.queue_model.specs.declared.rows.RowState.{RowState}
use Rattle.queue_model.specs.declared.rows.RowState.TheVariants.{Available, Locked, Unlocked, Dequeued, Deleted}
use Rattle.queue_model.specs.declared.limits.TheConstants.{PLACE_WORTH}
use Rattle.queue_model.specs.declared.queues.Bell as ring
use Rattle.queue_model.specs.Packing.{no_bell, pack_bell, pack_state}
use Rattle.queue_model.specs.Table.{most_entries}
use Rattle.link_core.specs.Steps.{row_rung}

-- a word packs one state
pub pack_same : (s t : RowState) → pack_state s ≡ pack_state t → s ≡ t
pack_same Available Available e = refl
pack_same Available Dequeued e = absurd (omega (arith, e))
pack_same Available Deleted e = absurd (omega (arith, e))
pack_same Available (Locked b) e = absurd (omega (arith, e))
pack_same Available (Unlocked b) e = absurd (omega (arith, e))
pack_same Dequeued Available e = absurd (omega (arith, e))
pack_same Dequeued Dequeued e = refl
pack_same Dequeued Deleted e = absurd (omega (arith, e))
pack_same Dequeued (Locked b) e = absurd (omega (arith, e))
pack_same Dequeued (Unlocked b) e = absurd (omega (arith, e))
pack_same Deleted Available e = absurd (omega (arith, e))
pack_same Deleted Dequeued e = absurd (omega (arith, e))
pack_same Deleted Deleted e = refl
pack_same Deleted (Locked b) e = absurd (omega (arith, e))
pack_same Deleted (Unlocked b) e = absurd (omega (arith, e))
pack_same (Locked a) Available e = absurd (omega (arith, e))
pack_same (Locked a) Dequeued e = absurd (omega (arith, e))
pack_same (Locked a) Deleted e = absurd (omega (arith, e))
pack_same (Locked a) (Locked b) e = ap (λ (n : ℕ). Locked n) (omega (arith, e))
pack_same (Locked a) (Unlocked b) e = absurd (omega (arith, e))
pack_same (Unlocked a) Available e = absurd (omega (arith, e))
pack_same (Unlocked a) Dequeued e = absurd (omega (arith, e))
pack_same (Unlocked a) Deleted e = absurd (omega (arith, e))
pack_same (Unlocked a) (Locked b) e = absurd (omega (arith, e))
pack_same (Unlocked a) (Unlocked b) e = ap (λ (n : ℕ). Unlocked n) (omega (arith, e))

-- the word of no bell is that of no row
pub none_rung : (bell : Option ring.Bell) → IfSome bell (λ b. b.row < most_entries) → no_bell ≡ pack_bell bell → None ≡ row_rung bell
none_rung None low e = refl
none_rung (Some b) low e = let small : b.row < most_entries = low in absurd (omega (arith, small, e))

-- and of another word the row can be told
pub some_rung : (bell : Option ring.Bell) (w : ℕ) → IfSome bell (λ b. b.row < most_entries) → w ≢ no_bell → w ≡ pack_bell bell → Some (w % PLACE_WORTH) ≡ row_rung bell
some_rung None w low some e = absurd (some e)
some_rung (Some b) w low some e = let small : b.row < most_entries = low in ap (λ (n : ℕ). Some n) (let same : w % PLACE_WORTH ≡ b.row = omega (arith, small, e) in same)
