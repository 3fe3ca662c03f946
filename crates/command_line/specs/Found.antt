-- what the reading of words of the list finds
use Rattle.std.specs.Prelude.{◌≡◌, ℕ, true, false, Option, Some, None, List, [], ◌∷◌, codes}
use Rattle.clap.specs.Simple.{App, Shape, new_rule, new_shape}
use Rattle.clap.specs.declared.builder.command.Command.{Command}
use Rattle.clap.specs.declared.builder.command.Command.TheViews.{out-Command}
use Rattle.clap.specs.Walk.{Row, Rule, Text, first_of}
use Rattle.command_line.specs.Numbers.{is_count, is_number, number_of}
use Rattle.command_line.specs.JournalTasks.{JournalTask, asked_journal, init, recover}
use Rattle.command_line.specs.Tasks.{Task, asked, gen, run, select}
use Rattle.command_line.specs.Wanted.{is_listed}

-- an argument of this name that has to stand on the command line
abbrev pub required_rule : List ℕ → Rule
required_rule id = record (new_rule id) { required = true }

-- a command of this name, with one argument
abbrev pub operand_shape : List ℕ → List ℕ → Shape
operand_shape name id = record (new_shape name) { rules = required_rule id ∷ [] }

-- the command `gen`, with a number and a count
abbrev pub gen_shape : Shape
gen_shape = record (new_shape (codes "gen")) { rules = required_rule (codes "NUMBER") ∷ required_rule (codes "COUNT") ∷ [] }

-- none of the command's arguments is one of its commands too
pub record KeepsArguments (command : Command) : Type 0 where
  pub own : (out-Command command).has_globals ≡ false

-- a command without commands of its own
abbrev pub alone : Shape → App
alone shape = record { top = shape; subs = [] }

-- The texts of a number and of a count stand in these rows.
pub record HasNumbers (number count : ℕ) (rows : List Row) : Type 0 where
  pub number_text : List ℕ
  pub count_text : List ℕ
  pub number_found : first_of (codes "NUMBER") rows ≡ Some number_text
  pub count_found : first_of (codes "COUNT") rows ≡ Some count_text
  pub number_shape : is_number number_text ≡ true
  pub count_shape : is_count count_text ≡ true
  pub number_is : number ≡ number_of number_text
  pub count_is : count ≡ number_of count_text

-- the command that was found is this one, and its argument is this text
abbrev pub HasOperand : List ℕ → List ℕ → List ℕ → Option (Text × List Row) → Type 0
HasOperand name id text found = (rows : List Row) × (found ≡ Some (name, rows)) × (first_of id rows ≡ Some text)

-- the command that was found is that of the task, with its text or its numbers
abbrev pub Holds : Option Task → Option (Text × List Row) → Type 0
Holds None found = Unit {0}
Holds (Some run) found = (rows : List Row) × (found ≡ Some (codes "run", rows))
Holds (Some (select text)) found = HasOperand (codes "select") (codes "TEXT") text found
Holds (Some (gen number count)) found = (rows : List Row) × (found ≡ Some (codes "gen", rows)) × HasNumbers number count rows

-- the command that was found is that of the task, with its path
abbrev pub HoldsPath : Option JournalTask → Option (Text × List Row) → Type 0
HoldsPath None found = Unit {0}
HoldsPath (Some (init path)) found = HasOperand (codes "init") (codes "PATH") path found
HoldsPath (Some (recover path)) found = HasOperand (codes "recover") (codes "PATH") path found

-- this command was found in words of the list
pub record IsFound (words : List (List ℕ)) (found : Option (Text × List Row)) : Type 0 where
  pub listed : is_listed words ≡ true
  pub task : Holds (asked words) found
  pub journal : HoldsPath (asked_journal words) found
