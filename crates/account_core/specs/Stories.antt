-- what an actor did in a phase
use Rattle.std.specs.Prelude.{ℕ, List, [], ◌∷◌, ◌++◌}
use Rattle.defs_read.specs.Defined.{Defined}
use Rattle.script_read.specs.declared.lines.Op.{Op}
use Rattle.report_core.specs.declared.answers.Answer.{Answer}
use Rattle.target_core.specs.Seats.{Seats}
use Rattle.line_core.specs.Fits.{Did, Standing, LinesFit, begins, unlocks}

-- an actor's lines and answers, and the calls of its lines; its targets before them, and how it stood after the last
-- one, with all entries that its puts dropped
pub record Story : Type 0 where
  pub name : List ℕ
  pub ops : List Op
  pub answers : List Answer
  pub dids : List Did
  pub seats : Seats
  pub end : Standing

-- the answers fit the lines, with these calls
abbrev pub IsStory : List Defined → Story → Type 0
IsStory defs s = LinesFit defs (begins defs s.seats) s.ops s.answers s.dids s.end

-- all calls of an actor in a phase: those of its lines, and then the unlocks of what it had locked
abbrev pub calls_of : Story → List Did
calls_of s = s.dids ++ unlocks s.end.hands

-- the numbers of the lines, each with its answer
abbrev pub told : List Op → List Answer → List (ℕ × Answer)
told (op ∷ ops) (a ∷ answers) = (op.line, a) ∷ told ops answers
told ops answers = []
