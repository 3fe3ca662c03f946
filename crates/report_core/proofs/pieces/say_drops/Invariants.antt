use Rattle.std.proofs.Common.{take, Ok}
use Rattle.std.specs.List.{flat_map}
use Rattle.outside_io.specs.Says.{Says}
use Rattle.outside_io.specs.declared.outside.Failed.{Failed}
use Rattle.report_core.specs.Words.{drop_text}
use Rattle.report_core.proofs.pieces.say_drops.Given as goal

abbrev pub invariant-drops : goal.invariant-drops
invariant-drops g l = Says {E = Failed} (Ok (record {})) (g.K.Sink.written l.initial.out) (g.K.Sink.written l.out)
    (g.K.Sink.faults l.initial.out) (g.K.Sink.faults l.out) (flat_map (drop_text l.queues) (take l.dropped-index l.drops))
