-- the parcel with which a put enters its queue
use Rattle.std.specs.Prelude.{ℕ, ◌+◌, min, if◌then◌else◌, Option, Some, None}
use Rattle.acts_core.specs.declared.cargoes.Receipt.{Receipt}
use Rattle.message_core.specs.Spelling.{Content}
use Rattle.outside_io.specs.Counts.{last_count}
use Rattle.txn_core.specs.Shown.{Shown, fresh}

-- the place in the journal of what stands at a place within a transaction with this receipt; it stays at the greatest
abbrev pub placed : Option Receipt → ℕ → ℕ
placed None within = 0
placed (Some receipt) within = min (receipt.at + within) last_count

-- A persistent message enters with the receipt of its transaction and the place of its body in the journal; another with
-- neither.
abbrev pub entering : Content → ℕ → Option Receipt → Shown
entering m within receipt = if m.persistent then fresh m receipt (placed receipt within) else fresh m None 0
