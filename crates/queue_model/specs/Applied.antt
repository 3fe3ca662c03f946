-- what applying a deed answers, and what it leaves
use Rattle.std.specs.Prelude.{◌≡◌, Result, Ok, Err}
use Rattle.queue_model.specs.declared.deeds.Deed.{Deed}
use Rattle.queue_model.specs.declared.deeds.Unapplied.{Unapplied}
use Rattle.queue_model.specs.declared.deeds.Unapplied.TheVariants.{Illegal, NoMemory}
use Rattle.queue_model.specs.declared.queues.Queue.{Queue}
use Rattle.queue_model.specs.Table.{Can, acted}

-- Ok: the deed had a step, and it was done. Illegal: it had none. NoMemory: it had one. Each refusal hands the deed back and changes nothing.
abbrev pub Applies : Result (Unit {0}) Unapplied → Queue → Queue → Deed → Type 0
Applies (Ok u) old new d = Can old d.caller d.act × (new ≡ acted old d.caller d.act)
Applies (Err (Illegal e)) old new d = (Can old d.caller d.act → ⊥) × (e ≡ d) × (new ≡ old)
Applies (Err (NoMemory e)) old new d = Can old d.caller d.act × (e ≡ d) × (new ≡ old)
