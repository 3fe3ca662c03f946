-- the first of lines, by their numbers, whatever order they stand in
use Rattle.std.specs.Prelude.{ℕ, min, Bool, Option, Some, None, List, [], ◌∷◌, filter, map}
use Rattle.script_read.specs.declared.lines.Op.{Op}

-- the lesser of two numbers, where they are there
abbrev pub sooner : Option ℕ → Option ℕ → Option ℕ
sooner None other = other
sooner (Some m) None = Some m
sooner (Some m) (Some n) = Some (min m n)

-- the least of some numbers
abbrev pub least : List ℕ → Option ℕ
least [] = None
least (n ∷ ns) = sooner (Some n) (least ns)

-- the number of the first of these lines that passes a test
abbrev pub first_line : (Op → Bool) → List Op → Option ℕ
first_line test ops = least (map (λ op. op.line) (filter test ops))
