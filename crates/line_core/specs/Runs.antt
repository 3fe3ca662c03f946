-- the calls that lines made, and the histories of the queues
use Rattle.std.specs.Prelude.{◌≡◌, ℕ, nat_eq, if◌then◌else◌, Some, List, [], ◌∷◌, length, map, slice_get}
use Rattle.acts_core.specs.Calls.{Call, Answer}
use Rattle.acts_core.specs.Chains.{Made, Chain}
use Rattle.acts_core.specs.Meaning.{allowance_after, share_after}
use Rattle.acts_core.specs.Sight.{Build, Sight, plan_of}
use Rattle.defs_read.specs.Defined.{Defined}
use Rattle.script_read.specs.declared.lines.Op.{Op}
use Rattle.script_read.specs.declared.lines.What.{What}
use Rattle.report_core.specs.declared.answers.Answer as report
use Rattle.line_core.specs.Fits.{Did, On, Standing, LineFits, LinesFit}

-- the calls on queue q, each with its answer
abbrev pub calls_on : ℕ → List Did → List (Call × Answer)
calls_on q [] = []
calls_on q (On r call answer ∷ dids) = if nat_eq r q then (call, answer) ∷ calls_on q dids else calls_on q dids

-- what a pass may still reserve and draw after calls
abbrev pub allowance_over : List (Call × Answer) → ℕ → ℕ
allowance_over [] n = n
allowance_over (c ∷ cs) n = allowance_over cs (allowance_after c.0 n)

abbrev pub share_over : List (Call × Answer) → ℕ → ℕ
share_over [] n = n
share_over (c ∷ cs) n = share_over cs (share_after c.0 c.1 n)

-- The caller of a pass made these calls by it, one after the other, each with its meaning in the one history of the
-- queue, and made no others.
pub record RanOn (build : Build) (calls : List (Call × Answer)) (old new : Sight) : Type 0 where
  pub made : List Made
  pub same : map (λ m. (m.call, m.answer)) made ≡ calls
  pub chain : Chain (plan_of build old.opening) old.caller old.seen made new.seen
  pub opening : new.opening ≡ old.opening
  pub caller : new.caller ≡ old.caller
  pub consumers : new.consumers ≡ old.consumers
  pub ended : new.ended ≡ old.ended
  pub allowance : new.allowance ≡ allowance_over calls old.allowance
  pub share : new.share ≡ share_over calls old.share

-- and on each queue those of these
pub record Ran (builds : List Build) (old : List Sight) (dids : List Did) (new : List Sight) : Type 0 where
  pub as_many : length new ≡ length old
  pub on_each : (q : ℕ) (b : Build) (s t : Sight) → slice_get builds q ≡ Some b → slice_get old q ≡ Some s
      → slice_get new q ≡ Some t → RanOn b (calls_on q dids) s t

-- one line, by one queue's pass
pub record DidOn (defs : List Defined) (build : Build) (q : ℕ) (old : Sight) (s : Standing) (w : What)
    (a : report.Answer) (new : Sight) (s' : Standing) : Type 0 where
  pub dids : List Did
  pub fits : LineFits defs s w a dids s'
  pub here : RanOn build (calls_on q dids) old new
  pub elsewhere : (r : ℕ) → (r ≡ q → ⊥) → calls_on r dids ≡ []

-- lines, one after the other, by all passes of an actor
pub record DidLines (defs : List Defined) (builds : List Build) (old : List Sight) (s : Standing)
    (ops : List Op) (answers : List report.Answer) (new : List Sight) (s' : Standing) : Type 0 where
  pub dids : List Did
  pub fits : LinesFit defs s ops answers dids s'
  pub ran : Ran builds old dids new
