-- the lines of a script, and the first that is refused
use Rattle.std.specs.Prelude.{◌≡◌, ℕ, ◌==◌, ◌&&◌, List, [], ◌∷◌, ◌++◌, length, Bool, false, not, nat_le, Option, None, Result, Ok, Err}
use Rattle.std.specs.List.{list_any}
use Rattle.std.specs.Str.{bytes_eq}
use Rattle.fields_read.specs.Forms.{first_of}
use Rattle.fields_read.specs.Faults.{cause_if}
use Rattle.defs_read.specs.Defined.{Defined}
use Rattle.script_read.specs.Lines.{lines_of, numbered}
use Rattle.script_read.specs.Phases.{Actors, open_phase, phases_of, phases_in}
use Rattle.script_read.specs.Reading.{line_says, unless}
use Rattle.script_read.specs.declared.faults.LineFault.{LineFault}
use Rattle.script_read.specs.declared.faults.LineFault.TheVariants.{NoJournal, DoubleId, TooManyActors, NoMemory}
use Rattle.script_read.specs.declared.faults.ScriptFault.{ScriptFault}
use Rattle.script_read.specs.declared.lines.Line.{Line}
use Rattle.script_read.specs.declared.lines.Line.TheVariants.{Rest, Doing}
use Rattle.script_read.specs.declared.lines.What.{What}
use Rattle.script_read.specs.declared.lines.What.TheVariants.{Put}
use Rattle.script_read.specs.declared.scripts.Script.{Script}

-- the greatest number of actors of a phase
abbrev pub most_actors : ℕ
most_actors = 32

-- whether what an actor does puts a message of this id to this queue
abbrev pub is_put_of : ℕ → ℕ → What → Bool
is_put_of queue id (Put q m) = (q == queue) && (m.id == id)
is_put_of queue id w = false

-- whether this line does
abbrev pub puts_this : ℕ → ℕ → Line → Bool
puts_this queue id Rest = false
puts_this queue id (Doing op) = is_put_of queue id op.what

-- the causes of a put after these lines
abbrev pub put_causes : Bool → List Line → What → List (Option LineFault)
put_causes journal before (Put queue m) = cause_if (m.persistent && not journal) NoJournal ∷ cause_if (list_any (puts_this queue m.id) before) DoubleId ∷ []
put_causes journal before w = []

-- whether an actor of this name is among these
abbrev pub is_in_phase : List ℕ → Actors → Bool
is_in_phase name actors = list_any (λ actor. bytes_eq actor.0 name) actors

-- the first cause that a line has beside those before it
abbrev pub fault_after : Bool → List Line → Line → Option LineFault
fault_after journal before Rest = None
fault_after journal before (Doing op) = first_of (put_causes journal before op.what ++ (cause_if (not (is_in_phase op.actor (open_phase before)) && nat_le most_actors (length (open_phase before))) TooManyActors ∷ []))

-- what a line says after these, or its first cause beside them
abbrev pub beside : Bool → List Line → Result Line LineFault → Result Line LineFault
beside journal before (Err cause) = Err cause
beside journal before (Ok l) = unless (fault_after journal before l) l

-- what a text says after these lines, or its first cause
abbrev pub line_after : List Defined → Bool → List Line → ℕ → List ℕ → Result Line LineFault
line_after queues journal before n text = beside journal before (line_says queues n text)

-- where the line of number n was read, what comes after it; else the refusal of that line
abbrev pub goes_on : ℕ → Result Line LineFault → (Line → Result (List Line) ScriptFault) → Result (List Line) ScriptFault
goes_on n (Err cause) rest = Err (record { line = n; cause = cause })
goes_on n (Ok l) rest = rest l

-- the lines of a script, after those before; or the first that is refused, with its cause
abbrev pub script_after : List Defined → Bool → List Line → List (ℕ × List ℕ) → Result (List Line) ScriptFault
script_after queues journal before [] = Ok before
script_after queues journal before (text ∷ texts) = goes_on text.0 (line_after queues journal before text.0 text.1) (λ l. script_after queues journal (before ++ l ∷ []) texts)

-- the lines of a script whose first line has the number n; blank lines are counted and passed over
abbrev pub script_of : List Defined → Bool → ℕ → List ℕ → Result (List Line) ScriptFault
script_of queues journal n bytes = script_after queues journal [] (numbered n (lines_of bytes))

-- The answer has the phases of the script's lines, or the first line that is refused with its cause.
-- Want of memory may come in place of any.
abbrev pub GivesScript : Result Script ScriptFault → Result (List Line) ScriptFault → Type 0
GivesScript (Ok script) said = (ls : List Line) × (said ≡ Ok ls) × (phases_in script ≡ phases_of ls)
GivesScript (Err fault) said = (fault.cause ≡ NoMemory → ⊥) → said ≡ Err fault
