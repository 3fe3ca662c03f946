-- how many rows the queues of a phase have room for
use Rattle.std.specs.Prelude.{ℕ, zero, suc, ◌+◌, List}
use Rattle.std.specs.Prelude.{slice_index}
use Rattle.phase_queues.specs.Left.{many_left}
use Rattle.phase_queues.specs.Opened.{rows_for}
use Rattle.phase_core.specs.Phased.{Lefts}

-- the sum of the first n values of a function
abbrev pub sum_up : (ℕ → ℕ) → ℕ → ℕ
sum_up f zero = 0
sum_up f (suc n) = sum_up f n + f n

-- how many rows queue q has room for that opens with its entries, and to which so many are put
abbrev pub rows_at : Lefts → List ℕ → ℕ → ℕ
rows_at lefts puts q = rows_for (many_left q lefts) (slice_index puts q)

-- and the first n queues
abbrev pub rows_up_to : Lefts → List ℕ → ℕ → ℕ
rows_up_to lefts puts n = sum_up (rows_at lefts puts) n
