-- the lines that are printed of a run (docs/REPORT.md)
use Rattle.std.specs.Prelude.{ℕ, List, [], ◌++◌, length, flat_map, sum_by, Option, Some, None, codes}
use Rattle.std.specs.Fmt.{decimal}
use Rattle.report_core.specs.declared.answers.Resting.{Resting}
use Rattle.report_core.specs.Names.{caller_name, IsHolder}

-- an actor's line of this number, and what it answered
abbrev pub answer_line : List ℕ → ℕ → List ℕ → List ℕ
answer_line actor line answer = actor ++ (codes " " ++ (decimal line ++ (codes " " ++ (answer ++ codes "\n"))))

-- who had an entry, where somebody had it
abbrev pub holder_text : List (List ℕ) → Option ℕ → List ℕ
holder_text actors None = []
holder_text actors (Some caller) = codes " held " ++ caller_name actors caller

-- the one who had the entry has a name
abbrev pub HasHolder : List (List ℕ) → Resting → Type 0
HasHolder actors entry = IsHolder actors entry.holder

-- the line of an entry that is left
abbrev pub resting_line : List (List ℕ) → Resting → List ℕ
resting_line actors entry = codes "entry " ++ (decimal entry.id ++ (holder_text actors entry.holder ++ codes "\n"))

-- the bytes of a queue's entries
abbrev pub bytes_of : List Resting → ℕ
bytes_of entries = sum_by (λ entry. entry.size) entries

-- how many entries and bytes a queue has
abbrev pub depth_text : ℕ → ℕ → List ℕ
depth_text entries bytes = codes " " ++ (decimal entries ++ (codes " " ++ (decimal bytes ++ codes "\n")))

-- a queue, and how full it is
abbrev pub queue_line : List ℕ → List Resting → List ℕ
queue_line name entries = codes "queue " ++ (name ++ depth_text (length entries) (bytes_of entries))

-- and under it each of its entries, in order
abbrev pub queue_lines : List (List ℕ) → List ℕ → List Resting → List ℕ
queue_lines actors name entries = queue_line name entries ++ flat_map (resting_line actors) entries
