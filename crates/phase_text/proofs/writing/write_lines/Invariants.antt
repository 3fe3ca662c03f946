use Rattle.std.proofs.Common.{take, Ok}
use Rattle.std.specs.List.{flat_map}
use Rattle.outside_io.specs.Says.{Says}
use Rattle.outside_io.specs.declared.outside.Failed.{Failed}
use Rattle.phase_text.specs.Logs.{line_text}
use Rattle.phase_text.proofs.writing.write_lines.Given as goal

abbrev pub invariant-lines : goal.invariant-lines
invariant-lines g l = Says {E = Failed} (Ok (record {})) (g.K.Sink.written l.initial.out) (g.K.Sink.written l.out)
    (g.K.Sink.faults l.initial.out) (g.K.Sink.faults l.out) (flat_map (line_text l.queues l.actors l.drops l.name) (take l.line-index l.lines))
