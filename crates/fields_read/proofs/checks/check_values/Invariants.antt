use Rattle.std.proofs.Common.{◌≡◌, drop}
use Rattle.serde_json.specs.View.{view}
use Rattle.fields_read.specs.Faults.{values_fault}
use Rattle.fields_read.proofs.checks.check_values.Given as goal

abbrev pub invariant-loop-field : goal.invariant-loop-field
invariant-loop-field l = values_fault l.fields (view l.object) ≡ values_fault (drop l.field-index l.fields) (view l.object)
