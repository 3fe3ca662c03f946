use Rattle.std.proofs.Common.{◌≡◌, map, deque_len}
use Rattle.std.specs.Option.{option_map}
use Rattle.defs_read.specs.Defined.{queues_in}
use Rattle.script_read.specs.Phases.{actors_in}
use Rattle.account_core.specs.Texts.{queue_names}
use Rattle.broker_top.specs.Job.{IsRunnable, script_in}
use Rattle.broker_top.proofs.Phasing.{GoesOn}
use Rattle.broker_top.proofs.phases.run_phases.Given as goal

abbrev pub invariant-phases : goal.invariant-phases
invariant-phases g l = record {
  defs : l.defs ≡ l.fn.job.defs;
  names : l.queues.items ≡ queue_names (queues_in l.defs);
  runs : IsRunnable (script_in l.fn.job);
  on : GoesOn (script_in l.fn.job)
      (map (option_map (λ b. (goal.Target-dyn g (b.vtable, b.value)).seat b.value)) l.fn.roster.slots)
      (map (option_map (λ b. (goal.Target-dyn g (b.vtable, b.value)).seat b.value)) l.roster.slots)
      (g.K.Sink.written l.fn.out) (g.K.Sink.written l.out) l.left.items (map actors_in l.phases.items);
  faults : g.K.Sink.faults l.out ≡ g.K.Sink.faults l.fn.out;
}

abbrev pub decreases-phases : goal.decreases-phases
decreases-phases g l = deque_len l.phases
