use Rattle.std.proofs.Common.{length}
use Rattle.std.specs.List.{flat_map}
use Rattle.outside_io.specs.declared.outside.Failed.{Failed}
use Rattle.outside_io.proofs.Says.{says_then}
use Rattle.journal_commands.specs.Recovered.{counts_line, kept_line}
use Rattle.journal_commands.proofs.journal_telling.say_recovered.Goals as goal

pub returns : goal.returns
returns g c =
    let r = c.args.recovered.now in
    says_then {E = Failed} (record {}) c.say_counts.result _ _ _ _ _ _ (flat_map kept_line r.entries) (counts_line r.commits (length r.entries))
    (rw c.as_slice-entries.ensures at c.in_ok-say_entries.ensures) (rw c.as_slice-entries.ensures at c.say_counts.ensures)
