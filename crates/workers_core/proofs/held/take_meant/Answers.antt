use Rattle.workers_core.proofs.Holds.{took_meant}
use Rattle.workers_core.proofs.held.take_meant.Goals as goal

pub returns-clause-some : goal.returns-clause-some
returns-clause-some c =
    took_meant c.args.held.now.items c.remove-kept.new.self.items c.deref.result.now c.in-Some.i c.remove-kept.result c.args.queue c.args.id c.deref.ensures.value c.in-Some.ensures.within c.remove-kept.ensures.value c.in-Some.ensures.meant c.remove-kept.ensures.items c.requires.apart
