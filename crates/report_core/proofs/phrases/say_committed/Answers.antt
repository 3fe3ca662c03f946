use Rattle.std.proofs.Common.{codes}
use Rattle.outside_io.proofs.Says.{says_then}
use Rattle.outside_io.proofs.Saying.{cut_second}
use Rattle.report_core.specs.Words.{span_text}
use Rattle.report_core.proofs.phrases.say_committed.Goals as goal

pub returns : goal.returns
returns g c =
    says_then _ _ _ _ _ _ _ _ (codes "committed") (span_text c.args.queues.now c.args.drops.now c.args.acquired)
    c.in_ok-write_all.ensures.says c.say_span.ensures

pub returns-in_err-write_all : goal.returns-in_err-write_all
returns-in_err-write_all g c =
    cut_second _ c.in_err-write_all.field-0.0 _ _ _ _ (codes "committed") (span_text c.args.queues.now c.args.drops.now c.args.acquired)
    c.from_residual.ensures.0 c.in_err-write_all.ensures.says
