-- the phases of lines that one more line follows
use Rattle.std.proofs.Common.{◌≡◌, List, [], ◌∷◌, ◌++◌, refl, ap}
use Rattle.script_read.specs.Phases.{Actors, filed, phase_with, phases_with}
use Rattle.script_read.specs.SoFar.{ended_with}
use Rattle.script_read.specs.declared.lines.Line.{Line}
use Rattle.script_read.specs.declared.lines.Line.TheVariants.{Rest, Doing}
use Rattle.script_read.specs.declared.lines.Op.{Op}

-- an actor's line is filed in the open phase
pub phase_doing : (begun : Actors) (ls : List Line) (op : Op) → phase_with begun (ls ++ Doing op ∷ []) ≡ filed op (phase_with begun ls)
phase_doing begun [] op = refl
phase_doing begun (Rest ∷ ls) op = phase_doing [] ls op
phase_doing begun (Doing o ∷ ls) op = phase_doing (filed o begun) ls op

pub ended_doing : (begun : Actors) (ls : List Line) (op : Op) → ended_with begun (ls ++ Doing op ∷ []) ≡ ended_with begun ls
ended_doing begun [] op = refl
ended_doing begun (Rest ∷ ls) op = ap (λ (phases : List Actors). begun ∷ phases) (ended_doing [] ls op)
ended_doing begun (Doing o ∷ ls) op = ended_doing (filed o begun) ls op

-- a rest ends it
pub phase_rest : (begun : Actors) (ls : List Line) → phase_with begun (ls ++ Rest ∷ []) ≡ []
phase_rest begun [] = refl
phase_rest begun (Rest ∷ ls) = phase_rest [] ls
phase_rest begun (Doing o ∷ ls) = phase_rest (filed o begun) ls

pub ended_rest : (begun : Actors) (ls : List Line) → ended_with begun (ls ++ Rest ∷ []) ≡ ended_with begun ls ++ phase_with begun ls ∷ []
ended_rest begun [] = refl
ended_rest begun (Rest ∷ ls) = ap (λ (phases : List Actors). begun ∷ phases) (ended_rest [] ls)
ended_rest begun (Doing o ∷ ls) = ended_rest (filed o begun) ls

-- the open phase is the last one
pub phases_split : (begun : Actors) (ls : List Line) → phases_with begun ls ≡ ended_with begun ls ++ phase_with begun ls ∷ []
phases_split begun [] = refl
phases_split begun (Rest ∷ ls) = ap (λ (phases : List Actors). begun ∷ phases) (phases_split [] ls)
phases_split begun (Doing o ∷ ls) = phases_split (filed o begun) ls
