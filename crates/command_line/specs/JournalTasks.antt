-- what words ask for that have to do with a journal
use Rattle.std.specs.Prelude.{◌&&◌, ◌||◌, ℕ, Bool, if◌then◌else◌, Option, Some, None, List, [], ◌∷◌, codes}
use Rattle.std.specs.Str.{bytes_eq}
use Rattle.command_line.specs.Tasks.{is_operand}

-- to make a journal at a path, or to tell what the journal there still holds
pub data JournalTask : Type 0 where
  init : List ℕ → JournalTask
  recover : List ℕ → JournalTask

-- The task of the words: they are `init` or `recover`, and a path. No other words have one.
abbrev pub asked_journal : List (List ℕ) → Option JournalTask
asked_journal [] = None
asked_journal (word ∷ []) = None
asked_journal (word ∷ path ∷ []) =
    if bytes_eq word (codes "init") && is_operand path then Some (init path)
    else if bytes_eq word (codes "recover") && is_operand path then Some (recover path)
    else None
asked_journal (word ∷ path ∷ other ∷ words) = None

-- the task, where it is one of making a journal
abbrev pub initializing : Option JournalTask → Option JournalTask
initializing (Some (init path)) = Some (init path)
initializing (Some (recover path)) = None
initializing None = None

-- the task, where it is one of telling what a journal holds
abbrev pub recovering : Option JournalTask → Option JournalTask
recovering (Some (recover path)) = Some (recover path)
recovering (Some (init path)) = None
recovering None = None

-- the word is that of a command that takes the path of a journal
abbrev pub takes_path : List ℕ → Bool
takes_path word = bytes_eq word (codes "init") || (bytes_eq word (codes "recover") || bytes_eq word (codes "run"))

-- the path of the words, where they are such a command and a path
abbrev pub path_of : List (List ℕ) → Option (List ℕ)
path_of [] = None
path_of (word ∷ []) = None
path_of (word ∷ path ∷ []) = if takes_path word && is_operand path then Some path else None
path_of (word ∷ path ∷ other ∷ words) = None
