-- what the words of the command line ask for
use Rattle.std.specs.Prelude.{◌==◌, ◌&&◌, ℕ, Bool, false, not, if◌then◌else◌, Option, Some, None, List, [], ◌∷◌, codes}
use Rattle.std.specs.Str.{bytes_eq}
use Rattle.command_line.specs.Numbers.{is_count, is_number, number_of}

-- what the program is asked to do: to run a script, to tell of messages what the selector of this text is, or to run the
-- script that a number makes for so many messages
pub data Task : Type 0 where
  run : Task
  select : List ℕ → Task
  gen : ℕ → ℕ → Task

-- a text that may stand as a word: it is not empty and does not begin with `-`
abbrev pub is_operand : List ℕ → Bool
is_operand [] = false
is_operand (byte ∷ bytes) = not (byte == 45)

-- The task of the words: they are `run`, or `select` and a text, or `gen`, a number and a count. No other words have one.
abbrev pub asked : List (List ℕ) → Option Task
asked [] = None
asked (word ∷ []) = if bytes_eq word (codes "run") then Some run else None
asked (word ∷ text ∷ []) = if bytes_eq word (codes "select") && is_operand text then Some (select text) else None
asked (word ∷ number ∷ count ∷ []) =
    if bytes_eq word (codes "gen") && (is_number number && is_count count) then Some (gen (number_of number) (number_of count)) else None
asked (word ∷ text ∷ other ∷ more ∷ words) = None

-- the task, where it is one of selecting
abbrev pub selecting : Option Task → Option Task
selecting (Some (select text)) = Some (select text)
selecting (Some run) = None
selecting (Some (gen number count)) = None
selecting None = None
