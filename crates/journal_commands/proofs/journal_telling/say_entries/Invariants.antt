use Rattle.std.proofs.Common.{take, Ok}
use Rattle.std.specs.List.{flat_map}
use Rattle.outside_io.specs.Says.{Says}
use Rattle.outside_io.specs.declared.outside.Failed.{Failed}
use Rattle.journal_commands.specs.Recovered.{kept_line}
use Rattle.journal_commands.proofs.journal_telling.say_entries.Given as goal

-- the lines of the entries before this one were written
abbrev pub invariant-entries : goal.invariant-entries
invariant-entries g l = Says {E = Failed} (Ok (record {})) (g.K.Sink.written l.initial.out) (g.K.Sink.written l.out)
    (g.K.Sink.faults l.initial.out) (g.K.Sink.faults l.out) (flat_map kept_line (take l.entry-index l.entries))
