use Rattle.std.proofs.Common.{take, Ok}
use Rattle.std.specs.List.{flat_map}
use Rattle.outside_io.specs.Says.{Says}
use Rattle.outside_io.specs.declared.outside.Failed.{Failed}
use Rattle.report_core.specs.Texts.{resting_line}
use Rattle.report_core.proofs.writing.say_entries.Given as goal

abbrev pub invariant-entries : goal.invariant-entries
invariant-entries g l = Says {E = Failed} (Ok (record {})) (g.K.Sink.written l.initial.out) (g.K.Sink.written l.out)
    (g.K.Sink.faults l.initial.out) (g.K.Sink.faults l.out) (flat_map (resting_line l.actors) (take l.entry-index l.entries))
