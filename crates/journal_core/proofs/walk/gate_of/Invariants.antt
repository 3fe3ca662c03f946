use Rattle.std.proofs.Common.{◌<◌, ◌-◌, List, length, take}
use Rattle.journal_format.specs.Spelling.{Txn}
use Rattle.journal_format.specs.Journal.{Front}
use Rattle.journal_core.proofs.walk.gate_of.Given as goal

abbrev pub invariant-loop-gate : goal.invariant-loop-gate
invariant-loop-gate l = (l.gate < length l.bytes) × ((C : List Txn) × Front (take l.gate l.bytes) C)

abbrev pub decreases-loop-gate : goal.decreases-loop-gate
decreases-loop-gate l = length l.bytes - l.gate
