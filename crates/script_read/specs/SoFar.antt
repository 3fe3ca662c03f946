-- what was read so far, beside the lines that said it
use Rattle.std.specs.Prelude.{◌≡◌, ℕ, List, [], ◌∷◌, ◌++◌, map, Result, Ok, Err}
use Rattle.std.specs.declared.cmp.Ordering.{Ordering}
use Rattle.std.specs.Ordering.{nat_cmp, ordering_then}
use Rattle.std.specs.List.{list_any}
use Rattle.std.specs.BTreeSet.{BTreeSet, contains}
use Rattle.script_read.specs.Phases.{Actors, actors_in, filed, open_phase}
use Rattle.script_read.specs.Scripts.{puts_this}
use Rattle.script_read.specs.declared.faults.LineFault.{LineFault}
use Rattle.script_read.specs.declared.faults.LineFault.TheVariants.{NoMemory}
use Rattle.script_read.specs.declared.lines.Line.{Line}
use Rattle.script_read.specs.declared.lines.Line.TheVariants.{Rest, Doing}
use Rattle.script_read.specs.declared.open_phase.OpenPhase.{OpenPhase}
use Rattle.script_read.specs.declared.so_far.SoFar.{SoFar}

-- the actors of the open phase
abbrev pub actors_of : OpenPhase → Actors
actors_of phase = map (λ actor. (actor.0.items, actor.1.items)) phase.actors.entries

-- the phases that rests have ended, of lines that go on where a phase is begun with these actors
abbrev pub ended_with : Actors → List Line → List Actors
ended_with begun [] = []
ended_with begun (Rest ∷ ls) = begun ∷ ended_with [] ls
ended_with begun (Doing op ∷ ls) = ended_with (filed op begun) ls

-- how a set orders puts, each by its queue and its id
abbrev pub put_cmp : ℕ × ℕ → ℕ × ℕ → Ordering
put_cmp a b = ordering_then (nat_cmp a.0 b.0) (nat_cmp a.1 b.1)

-- the set has the puts of these lines
pub record HasPuts (puts : BTreeSet (ℕ × ℕ)) (before : List Line) : Type 0 where
  pub has : (queue id : ℕ) → contains put_cmp puts (queue, id) ≡ list_any (puts_this queue id) before

-- what was read so far is what these lines say
pub record Tracks (so_far : SoFar) (before : List Line) : Type 0 where
  pub ended : map actors_in so_far.ended.items ≡ ended_with [] before
  pub phase : actors_of so_far.phase ≡ open_phase before
  pub puts : HasPuts so_far.puts before

-- the line that was said comes behind those before, or the answer is its cause; want of memory may come in place of any
abbrev pub AddsLine : Result (Unit {0}) LineFault → Result Line LineFault → SoFar → List Line → Type 0
AddsLine (Ok done) said so_far before = (l : Line) × (said ≡ Ok l) × Tracks so_far (before ++ l ∷ [])
AddsLine (Err cause) said so_far before = (cause ≡ NoMemory → ⊥) → said ≡ Err cause
