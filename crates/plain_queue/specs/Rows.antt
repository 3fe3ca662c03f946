-- how the rows of a one-thread queue stand for its state
use Rattle.std.specs.Prelude.{◌≡◌, ℕ, suc, List, [], ◌∷◌, sum_by}
use Rattle.queue_model.specs.declared.queues.Queue.{Queue}
use Rattle.queue_model.specs.declared.rows.Row.{Row}
use Rattle.queue_model.specs.Sound.{Sound}
use Rattle.queue_model.specs.State.{row_entries, row_bytes}

-- the state of one list and no consumers that has these rows, with nothing reserved
abbrev pub one_list : List Row → Queue
one_list rows = record { lists = 1; consumers = 0; rows = rows; reserved = []; bells = [] }

-- the rows are numbered in turn, from n
abbrev pub NumberedFrom : ℕ → List Row → Type 0
NumberedFrom n [] = Unit {0}
NumberedFrom n (x ∷ xs) = (x.number ≡ n) × NumberedFrom (suc n) xs

-- the rows are those of a sound state, each numbered by its place, and both counters are the depth
pub record Keeps (rows : List Row) (entries bytes : ℕ) : Type 0 where
  pub sound : Sound (one_list rows)
  pub numbered : NumberedFrom 0 rows
  pub entries_counted : entries ≡ sum_by row_entries rows
  pub bytes_counted : bytes ≡ sum_by row_bytes rows
