-- the text of a phase: what its actors' lines answered, and then what its queues hold (docs/REPORT.md)
use Rattle.std.specs.Prelude.{◌^◌, ◌<◌, ℕ, List, ◌++◌, flat_map}
use Rattle.std.specs.List.{All}
use Rattle.report_core.specs.declared.answers.Answer.{Answer}
use Rattle.report_core.specs.declared.answers.Dropped.{Dropped}
use Rattle.report_core.specs.Texts.{answer_line, bytes_of, queue_lines, HasHolder}
use Rattle.report_core.specs.Words.{words, Fits}
use Rattle.phase_text.specs.declared.logs.Log.{Log}
use Rattle.phase_text.specs.declared.logs.Rest.{Rest}

-- the line of an actor with this number, and its answer; what it dropped stands among all drops of the actor
abbrev pub line_text : List (List ℕ) → List (List ℕ) → List Dropped → List ℕ → ℕ × Answer → List ℕ
line_text queues actors drops name line = answer_line name line.0 (words queues actors drops line.1)

-- the lines of an actor with their answers, in order
abbrev pub log_text : List (List ℕ) → List (List ℕ) → Log → List ℕ
log_text queues actors log = flat_map (line_text queues actors log.drops.items log.name) log.lines.items

-- a queue with its entries
abbrev pub rest_text : List (List ℕ) → Rest → List ℕ
rest_text actors rest = queue_lines actors rest.name rest.entries.items

-- the text of a phase
abbrev pub phase_text : List (List ℕ) → List (List ℕ) → List Log → List Rest → List ℕ
phase_text queues actors logs rests = flat_map (log_text queues actors) logs ++ flat_map (rest_text actors) rests

-- what the answers name has a name, and what they dropped is among the drops of the actor
abbrev pub FitsLine : List (List ℕ) → List (List ℕ) → List Dropped → ℕ × Answer → Type 0
FitsLine queues actors drops line = Fits queues actors drops line.1

abbrev pub FitsLog : List (List ℕ) → List (List ℕ) → Log → Type 0
FitsLog queues actors log = All (FitsLine queues actors log.drops.items) log.lines.items

-- each holder has a name, and the sizes are not too large for a sum of 64 bits
pub record FitsRest (actors : List (List ℕ)) (rest : Rest) : Type 0 where
  pub named : All (HasHolder actors) rest.entries.items
  pub sizes : bytes_of rest.entries.items < 2 ^ 64
