-- how many lines put something
use Rattle.std.specs.Prelude.{ℕ, ◌<◌, ◌≤◌, Bool, true, false, nat_le, List, filter, length, map}
use Rattle.std.specs.List.{count_by}
use Rattle.queue_model.specs.Table.{most_entries}
use Rattle.script_read.specs.declared.lines.Op.{Op}
use Rattle.script_read.specs.declared.lines.What.{What}
use Rattle.script_read.specs.declared.lines.What.TheVariants.{Put}

-- a line that puts something
abbrev pub is_put : What → Bool
is_put (Put queue message) = true
is_put w = false

-- the numbers of the lines that put something
abbrev pub put_lines : List Op → List ℕ
put_lines ops = map (λ op. op.line) (filter (λ op. is_put op.what) ops)

-- how many they are, and how many of them stand up to line n
abbrev pub all_puts : List Op → ℕ
all_puts ops = length (put_lines ops)

abbrev pub puts_by : ℕ → List Op → ℕ
puts_by n ops = count_by (λ line. nat_le line n) (put_lines ops)

-- Line n is the put with which there are too many: up to it there are more than a queue has room for, and up to no line
-- before it.
pub record PassesAt (n : ℕ) (ops : List Op) : Type 0 where
  pub many : most_entries < puts_by n ops
  pub first : (m : ℕ) → m < n → puts_by m ops ≤ most_entries
