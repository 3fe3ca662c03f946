use Rattle.std.proofs.Common.{ℕ, ◌≤◌, List, length, subst, take}
use Rattle.outside_io.specs.Told.{Adds}
use Rattle.broker_top.proofs.OnePhases.{leaves, told}
use Rattle.broker_top.proofs.phases.run_one.Goals as goal

pub returns-in-Ok-tell_phase : goal.returns-in-Ok-tell_phase
returns-in-Ok-tell_phase g c =
    let plays = c.in-Ok-play_phase.ensures.plays in
    let names = c.in-Ok.actors.items in
    let text = told _ _ _ _ _ _ c.args.queues.now names plays c.requires.names c.in-Ok.ensures in
    let says = rw c.deref.ensures.value at c.in-Ok-tell_phase.ensures in
    (plays.account, leaves _ _ _ _ _ _ c.args.queues.now names plays c.requires.names c.in-Ok.ensures, subst (Adds (g.K.Sink.written c.args.out.now) (g.K.Sink.written c.tell_phase.new.out)) text says.0, says.1)

pub returns : goal.returns
returns g c =
    let plays = c.in-Ok-play_phase.ensures.plays in
    let names = c.in-Ok.actors.items in
    let text = told _ _ _ _ _ _ c.args.queues.now names plays c.requires.names c.in-Ok.ensures in
    let says = rw c.deref.ensures.value at c.in-Err.ensures in
    (plays.account, plays.is_phase, subst (λ (xs : List ℕ). (n : ℕ) × (n ≤ length xs) × Adds (g.K.Sink.written c.args.out.now) (g.K.Sink.written c.tell_phase.new.out) (take n xs)) text says.1, says.0)
