-- the phases that lines fall into
use Rattle.std.specs.Prelude.{ℕ, List, [], ◌∷◌, ◌++◌, map, if◌then◌else◌}
use Rattle.std.specs.Str.{bytes_eq}
use Rattle.script_read.specs.declared.lines.Line.{Line}
use Rattle.script_read.specs.declared.lines.Line.TheVariants.{Rest, Doing}
use Rattle.script_read.specs.declared.lines.Op.{Op}
use Rattle.script_read.specs.declared.scripts.Phase.{Phase}
use Rattle.script_read.specs.declared.scripts.Script.{Script}

-- the actors of a phase by first appearance, each with its lines in order
abbrev pub Actors : Type 0
Actors = List (List ℕ × List Op)

-- an actor's line behind its earlier ones; a new actor comes last
abbrev pub filed : Op → Actors → Actors
filed op [] = (op.actor, op ∷ []) ∷ []
filed op ((name, ops) ∷ actors) = if bytes_eq name op.actor then (name, ops ++ op ∷ []) ∷ actors else (name, ops) ∷ filed op actors

-- the phase that is begun with these actors, and lines go on
abbrev pub phase_with : Actors → List Line → Actors
phase_with begun [] = begun
phase_with begun (Rest ∷ ls) = phase_with [] ls
phase_with begun (Doing op ∷ ls) = phase_with (filed op begun) ls

-- the phase that is open after these lines: a rest ended the one before it
abbrev pub open_phase : List Line → Actors
open_phase ls = phase_with [] ls

-- the phases of lines that go on where a phase is begun with these actors
abbrev pub phases_with : Actors → List Line → List Actors
phases_with begun [] = begun ∷ []
phases_with begun (Rest ∷ ls) = begun ∷ phases_with [] ls
phases_with begun (Doing op ∷ ls) = phases_with (filed op begun) ls

-- the phases of a script: a rest ends a phase, and the end of the script ends the last
abbrev pub phases_of : List Line → List Actors
phases_of ls = phases_with [] ls

-- ---- a script as contracts see it

-- the actors of a phase that was read
abbrev pub actors_in : Phase → Actors
actors_in phase = map (λ actor. (actor.0, actor.1.items)) phase.actors.items

-- the phases of a script that was read
abbrev pub phases_in : Script → List Actors
phases_in script = map actors_in script.phases.items
