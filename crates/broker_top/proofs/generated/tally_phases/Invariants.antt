use Rattle.std.proofs.Common.{◌≡◌, map, deque_len}
use Rattle.std.specs.Option.{option_map}
use Rattle.script_read.specs.Phases.{actors_in}
use Rattle.broker_top.specs.Job.{IsRunnable, script_in}
use Rattle.broker_top.proofs.Counting.{CountsOn}
use Rattle.broker_top.proofs.generated.tally_phases.Given as goal

abbrev pub invariant-phases : goal.invariant-phases
invariant-phases g l = record {
  defs : l.defs ≡ l.fn.job.defs;
  runs : IsRunnable (script_in l.fn.job);
  on : CountsOn (script_in l.fn.job)
      (map (option_map (λ b. (goal.Target-dyn g (b.vtable, b.value)).seat b.value)) l.fn.roster.slots)
      (map (option_map (λ b. (goal.Target-dyn g (b.vtable, b.value)).seat b.value)) l.roster.slots)
      l.tally l.left.items (map actors_in l.phases.items);
}

abbrev pub decreases-phases : goal.decreases-phases
decreases-phases g l = deque_len l.phases
