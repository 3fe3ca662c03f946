use Rattle.std.proofs.Common.{rules}
use Rattle.workers_core.proofs.phases.run_phase.Goals as goal

pub for_each_mut-requires-clause-accepts : goal.for_each_mut-requires-clause-accepts
for_each_mut-requires-clause-accepts g c κs within = λ i p less at.
    let m = c.requires.may i p.now less in
    rw at ((m.0, m.1, m.2, m.3, m.4, m.5, m.6, m.7, c.requires.kinds, c.requires.policies), (search rules, search rules, search rules))

pub returns : goal.returns
returns g c = record {
  named = λ i d less.
      let ch = (c.for_each_mut.ensures i d less).1 in
      rw (← ch.left) (rw (← ch.argument_is) ch.call.0);
  ran = λ i d less.
      let ch = (c.for_each_mut.ensures i d less).1 in
      rw (← ch.left) (rw (← ch.argument_is) (ch.call.1, ch.call.2));
}
