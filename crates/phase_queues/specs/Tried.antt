-- a definition of a queue of three lists, for tests
use Rattle.std.specs.Prelude.{None, [], codes}
use Rattle.queue_model.specs.declared.queues.Policy.TheVariants as policy
use Rattle.defs_read.specs.Defined.{Defined}
use Rattle.defs_read.specs.declared.defs.QueueKind.TheVariants as kinds

abbrev pub three_lists : Defined
three_lists = record {
  name = codes "p";
  kind = kinds.Priority 3;
  limits = record { policy = policy.None; entries = None; bytes = None };
  consumers = [];
}
