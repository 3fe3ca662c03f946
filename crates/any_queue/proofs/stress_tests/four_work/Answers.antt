use Rattle.any_queue.specs.Parting.{kind_of}
use Rattle.any_queue.proofs.Sharing.{none_apart}
use Rattle.any_queue.proofs.stress_tests.four_work.Goals as goal

pub make-requires-clause-apart : goal.make-requires-clause-apart
make-requires-clause-apart g c κs within = none_apart (kind_of c.args.def.now.kind) c.new.result.items c.new.ensures.items
