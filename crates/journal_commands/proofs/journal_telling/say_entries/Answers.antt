use Rattle.phase_text.proofs.Items.{cut_item}
use Rattle.journal_commands.specs.Recovered.{kept_line}
use Rattle.journal_commands.proofs.journal_telling.say_entries.Goals as goal

pub returns-in_err-say_entry : goal.returns-in_err-say_entry
returns-in_err-say_entry g c =
    cut_item (record {}) _ c.in_err-say_entry.field-0.0 _ _ _ _ _ _ kept_line c.args.entries.now c.entries.entry-index c.entry-item.result
    c.entries-test.true c.from_residual.ensures.0 c.entry-item.is c.entries.invariant c.in_err-say_entry.ensures
