-- reservations that are given back, by the operand of the step
use Rattle.std.specs.Prelude.{◌≡◌, ℕ, ◌+◌}
use Rattle.atomic_table.specs.Table.{Me, Step as Played}
use Rattle.queue_model.specs.Packing.{entry_worth}
use Rattle.entry_table.specs.declared.view.View.{View}
use Rattle.entry_table.specs.Plays.{gave_back}

abbrev pub giving : {S : Type 0} → Played S → Me S View → ℕ → Me S View → Type 0
giving st m n m' = (size : ℕ) → st.first ≡ entry_worth + size → gave_back size m n m'
