-- the statements of the laws, each proved as the contract of a function in src/laws.rt
use Rattle.std.specs.Prelude.{◌≡◌, ℕ, List, [], ◌∷◌, ◌++◌, map, filter, not, Bool, Ok, Err}
use Rattle.std.specs.Str.{bytes_eq}
use Rattle.defs_read.specs.Defined.{Defined}
use Rattle.script_read.specs.Lines.{lines_of, numbered}
use Rattle.script_read.specs.Phases.{Actors, open_phase, phases_of}
use Rattle.script_read.specs.Scripts.{line_after, script_after, script_of}
use Rattle.script_read.specs.declared.faults.ScriptFault.{ScriptFault}
use Rattle.script_read.specs.declared.lines.Line.{Line}
use Rattle.script_read.specs.declared.lines.Line.TheVariants.{Rest, Doing}
use Rattle.script_read.specs.declared.lines.Op.{Op}

-- Phases

-- names in the order of their first appearance, each once
abbrev pub firsts : List (List ℕ) → List (List ℕ)
firsts [] = []
firsts (name ∷ names) = name ∷ filter (λ other. not (bytes_eq name other)) (firsts names)

-- the lines that are an actor's own, in order
abbrev pub own_lines : List Op → List ℕ → List Op
own_lines ops name = filter (λ op. bytes_eq name op.actor) ops

-- the actors of lines by first appearance, each with its own lines in order
abbrev pub actors_of : List Op → Actors
actors_of ops = map (λ name. (name, own_lines ops name)) (firsts (map (λ op. op.actor) ops))

-- lines with no rest among them make one phase of their actors by first appearance
abbrev pub PhaseIsByFirstAppearance : Type 0
PhaseIsByFirstAppearance = (ops : List Op) → open_phase (map Doing ops) ≡ actors_of ops

-- a script with no rest is one phase
abbrev pub PhasesWithoutRest : Type 0
PhasesWithoutRest = (ops : List Op) → phases_of (map Doing ops) ≡ actors_of ops ∷ []

-- the lines before the first rest are the first phase, and the phases of the lines behind it follow
abbrev pub PhasesSplitAtRest : Type 0
PhasesSplitAtRest =
    (ops : List Op) (ls : List Line)
    → phases_of (map Doing ops ++ Rest ∷ ls) ≡ actors_of ops ∷ phases_of ls

-- Refusals

-- among these numbered texts, after the lines before, the fault's line is the first that is refused, for its cause:
-- each text in front of it was read
pub record IsFirstRefused (queues : List Defined) (journal : Bool) (before : List Line) (texts : List (ℕ × List ℕ)) (fault : ScriptFault) : Type 0 where
  pub front : List (ℕ × List ℕ)
  pub text : List ℕ
  pub back : List (ℕ × List ℕ)
  pub ls : List Line
  pub parts : texts ≡ front ++ (fault.line, text) ∷ back
  pub reads : script_after queues journal before front ≡ Ok ls
  pub refuses : line_after queues journal ls fault.line text ≡ Err fault.cause

-- a script that is refused has that line
abbrev pub RefusedOnlyThere : Type 0
RefusedOnlyThere =
    (queues : List Defined) (journal : Bool) (n : ℕ) (bytes : List ℕ) (fault : ScriptFault)
    → script_of queues journal n bytes ≡ Err fault
    → IsFirstRefused queues journal [] (numbered n (lines_of bytes)) fault

-- a script that has that line is refused for it
abbrev pub RefusedThere : Type 0
RefusedThere =
    (queues : List Defined) (journal : Bool) (n : ℕ) (bytes : List ℕ) (fault : ScriptFault)
    → IsFirstRefused queues journal [] (numbered n (lines_of bytes)) fault
    → script_of queues journal n bytes ≡ Err fault
