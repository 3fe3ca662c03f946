-- the statements of the laws, each proved as the contract of a function in src/laws.rt
use Rattle.std.specs.Prelude.{◌≡◌, ℕ, Some, List, [], ◌∷◌, ◌++◌}
use Rattle.acts_core.specs.Calls.{Call, Answer}
use Rattle.acts_core.specs.Load.{Load}
use Rattle.acts_core.specs.Meaning.{Called}
use Rattle.acts_core.specs.Sight.{Build, Sight}
use Rattle.defs_read.specs.Defined.{Defined}
use Rattle.script_read.specs.declared.lines.Op.{Op}
use Rattle.script_read.specs.declared.lines.What.TheVariants.{Take}
use Rattle.report_core.specs.declared.answers.Answer as report
use Rattle.report_core.specs.declared.answers.Answer.TheVariants.{Got}
use Rattle.line_core.specs.Fits.{Did, Standing, LineFits, LinesFit}
use Rattle.line_core.specs.Hands.{Hand, meant}
use Rattle.line_core.specs.Runs.{calls_on, RanOn}

-- Lines

-- the calls of two lists of lines
abbrev pub CallsAppend : Type 0
CallsAppend = (q : ℕ) (ds es : List Did) → calls_on q (ds ++ es) ≡ calls_on q ds ++ calls_on q es

-- lines after lines
abbrev pub FitsAppend : Type 0
FitsAppend =
    (defs : List Defined) (s : Standing) (ops : List Op) (answers : List report.Answer) (dids : List Did)
    (mid : Standing)
    (more : List Op) (replies : List report.Answer) (rest : List Did) (end : Standing)
    → LinesFit defs s ops answers dids mid → LinesFit defs mid more replies rest end
    → LinesFit defs s (ops ++ more) (answers ++ replies) (dids ++ rest) end

-- what was got is in the hands, locked, with its number as count; it is what a line of its id means
abbrev pub GotIsHeld : Type 0
GotIsHeld =
    (defs : List Defined) (s s' : Standing) (c id n : ℕ) (dids : List Did) → LineFits defs s (Take c) (Got id n) dids s'
    → (k : Hand) × (meant k.queue (Some id) s'.hands ≡ Some k)
    × ((load : Load) × (k.cargo ≡ Some load) × (load.count ≡ n))

-- Calls by a pass

-- one call
abbrev pub RanCall : Type 0
RanCall =
    (build : Build) (old new : Sight) (call : Call) (answer : Answer)
    → Called build old new call answer → RanOn build ((call, answer) ∷ []) old new

-- no call
abbrev pub RanNone : Type 0
RanNone = (build : Build) (s : Sight) → RanOn build [] s s

-- calls after calls
abbrev pub RanAppend : Type 0
RanAppend =
    (build : Build) (cs ds : List (Call × Answer)) (a b c : Sight)
    → RanOn build cs a b → RanOn build ds b c → RanOn build (cs ++ ds) a c
