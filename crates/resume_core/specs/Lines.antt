-- lines by their numbers, whatever order they stand in: the first that passes a test, and the put with which there are too many
use Rattle.std.specs.Prelude.{ℕ, ◌+◌, min, Bool, true, false, nat_le, nat_lt, Option, Some, None, List, [], ◌∷◌, filter, length, map}
use Rattle.std.specs.List.{count_by}
use Rattle.queue_model.specs.Table.{most_entries}
use Rattle.script_read.specs.declared.lines.Op.{Op}
use Rattle.script_read.specs.declared.lines.What.{What}
use Rattle.script_read.specs.declared.lines.What.TheVariants.{Put}

-- the lesser of two numbers, where they are there
abbrev pub sooner : Option ℕ → Option ℕ → Option ℕ
sooner None other = other
sooner (Some m) None = Some m
sooner (Some m) (Some n) = Some (min m n)

-- the least of some numbers
abbrev pub least : List ℕ → Option ℕ
least [] = None
least (n ∷ ns) = sooner (Some n) (least ns)

-- the number of the first of these lines that passes a test
abbrev pub first_line : (Op → Bool) → List Op → Option ℕ
first_line test ops = least (map (λ op. op.line) (filter test ops))

-- a line that puts something
abbrev pub is_put : What → Bool
is_put (Put queue message) = true
is_put w = false

-- the numbers of the lines that put something
abbrev pub put_lines : List Op → List ℕ
put_lines ops = map (λ op. op.line) (filter (λ op. is_put op.what) ops)

-- how many they are, and how many of them stand up to line n
abbrev pub all_puts : List Op → ℕ
all_puts ops = length (put_lines ops)

abbrev pub puts_by : ℕ → List Op → ℕ
puts_by n ops = count_by (λ line. nat_le line n) (put_lines ops)

-- so many live entries, and the puts up to line n, are more than a run has room for
abbrev pub are_many : ℕ → List Op → ℕ → Bool
are_many live ops n = nat_lt most_entries (live + puts_by n ops)

-- the line of the put that makes live entries and puts too many; none where they are not
abbrev pub passing_line : ℕ → List Op → Option ℕ
passing_line live ops = least (filter (are_many live ops) (put_lines ops))
