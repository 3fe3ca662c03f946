use Rattle.std.proofs.Common.{ℕ, Some, refl, ap, ◌∙◌, subst}
use Rattle.defs_read.specs.Defined.{queues_in}
use Rattle.script_read.specs.declared.lines.What.{What}
use Rattle.script_read.specs.declared.lines.What.TheVariants.{Put, Take, Ack, Release, Lock, Unlock, Steal}
use Rattle.workers_core.specs.Held.{hands_of}
use Rattle.workers_core.specs.Jobs.{JobFits, MayDo}
use Rattle.workers_core.specs.declared.jobs.Aid.{Aid}
use Rattle.workers_core.proofs.OnQueue.{few_put, same_line, same_put, same_take, slip_on}
use Rattle.workers_core.proofs.jobs.on_queue.Goals as goal

pub put_line-requires-clause-slip : goal.put_line-requires-clause-slip
put_line-requires-clause-slip g c κs within =
    let defs = queues_in c.args.defs.now in
    let may = subst (λ (a : Aid). MayDo c.args.number (g.Q.SharedQueue.sight c.args.pass.now) (Put c.in-Put._queue c.in-Put.message) a) c.in-Slip.is (subst (λ (w : What). MayDo c.args.number (g.Q.SharedQueue.sight c.args.pass.now) w c.args.aid) c.in-Put.is c.requires.may) in
    let fits = subst (λ (a : Aid). JobFits defs (Put c.in-Put._queue c.in-Put.message) a) c.in-Slip.is (subst (λ (w : What). JobFits defs w c.args.aid) c.in-Put.is c.requires.fits) in
    slip_on defs (g.Q.SharedQueue.build c.args.queue.now) c.args.number c.in-Put._queue c.in-Put.message c.in-Slip.slip may.0 fits c.requires.kind

pub returns-in-Slip-clause-did : goal.returns-in-Slip-clause-did
returns-in-Slip-clause-did g c =
    let sight = g.Q.SharedQueue.sight in
    let may = subst (λ (a : Aid). MayDo c.args.number (sight c.args.pass.now) (Put c.in-Put._queue c.in-Put.message) a) c.in-Slip.is (subst (λ (w : What). MayDo c.args.number (sight c.args.pass.now) w c.args.aid) c.in-Put.is c.requires.may) in
    same_put (queues_in c.args.defs.now) (g.Q.SharedQueue.build c.args.queue.now) c.args.number c.in-Put._queue (sight c.args.pass.now) (sight c.put_line.new.pass) _ _ c.args.what c.in-Put.message c.put_line.result c.in-Put.is may.0 (c.put_line.ensures.did _ refl refl refl)

pub returns-in-Slip-clause-few : goal.returns-in-Slip-clause-few
returns-in-Slip-clause-few g c = λ plain.
    let defs = queues_in c.args.defs.now in
    let may = subst (λ (a : Aid). MayDo c.args.number (g.Q.SharedQueue.sight c.args.pass.now) (Put c.in-Put._queue c.in-Put.message) a) c.in-Slip.is (subst (λ (w : What). MayDo c.args.number (g.Q.SharedQueue.sight c.args.pass.now) w c.args.aid) c.in-Put.is c.requires.may) in
    let fits = subst (λ (a : Aid). JobFits defs (Put c.in-Put._queue c.in-Put.message) a) c.in-Slip.is (subst (λ (w : What). JobFits defs w c.args.aid) c.in-Put.is c.requires.fits) in
    few_put defs c.args.number c.in-Put._queue c.in-Put.message c.args.what fits.0 _ _ c.in-Put.is may.0 fits.1 c.put_line.ensures.few plain

pub returns-in-Place-clause-did : goal.returns-in-Place-clause-did
returns-in-Place-clause-did g c =
    let defs = queues_in c.args.defs.now in
    let sight = g.Q.SharedQueue.sight in
    let may = subst (λ (a : Aid). MayDo c.args.number (sight c.args.pass.now) (Take c.in-Take.consumer) a) c.in-Place.is (subst (λ (w : What). MayDo c.args.number (sight c.args.pass.now) w c.args.aid) c.in-Take.is c.requires.may) in
    let fits = subst (λ (a : Aid). JobFits defs (Take c.in-Take.consumer) a) c.in-Place.is (subst (λ (w : What). JobFits defs w c.args.aid) c.in-Take.is c.requires.fits) in
    let place = fits ∙ ap (λ (n : ℕ). Some (n, c.in-Place.place)) may.0 in
    same_take defs (g.Q.SharedQueue.build c.args.queue.now) c.args.number c.in-Take.consumer (sight c.args.pass.now) (sight c.take_line.new.pass) _ _ c.args.what c.take_line.result c.in-Take.is
    (c.take_line.ensures.did defs c.args.stopped.now.items c.args.drops.now.items place)

pub returns-in-Ack-clause-did : goal.returns-in-Ack-clause-did
returns-in-Ack-clause-did g c =
    let sight = g.Q.SharedQueue.sight in
    same_line (queues_in c.args.defs.now) (g.Q.SharedQueue.build c.args.queue.now) c.args.number c.in-Ack._queue (sight c.args.pass.now) (sight c.ack_line.new.pass) _ (hands_of c.ack_line.new.held.items) c.args.what (λ n. Ack n c.in-Ack.id) c.ack_line.result
    c.in-Ack.is (subst (λ (w : What). MayDo c.args.number (sight c.args.pass.now) w c.args.aid) c.in-Ack.is c.requires.may) c.ack_line.ensures.did

pub returns-in-Release-clause-did : goal.returns-in-Release-clause-did
returns-in-Release-clause-did g c =
    let sight = g.Q.SharedQueue.sight in
    same_line (queues_in c.args.defs.now) (g.Q.SharedQueue.build c.args.queue.now) c.args.number c.in-Release._queue (sight c.args.pass.now) (sight c.release_line.new.pass) _ (hands_of c.release_line.new.held.items) c.args.what (λ n. Release n c.in-Release.id) c.release_line.result
    c.in-Release.is (subst (λ (w : What). MayDo c.args.number (sight c.args.pass.now) w c.args.aid) c.in-Release.is c.requires.may) c.release_line.ensures.did

pub returns-in-Lock-clause-did : goal.returns-in-Lock-clause-did
returns-in-Lock-clause-did g c =
    let sight = g.Q.SharedQueue.sight in
    same_line (queues_in c.args.defs.now) (g.Q.SharedQueue.build c.args.queue.now) c.args.number c.in-Lock._queue (sight c.args.pass.now) (sight c.lock_line.new.pass) _ (hands_of c.lock_line.new.held.items) c.args.what (λ n. Lock n c.in-Lock.id) c.lock_line.result
    c.in-Lock.is (subst (λ (w : What). MayDo c.args.number (sight c.args.pass.now) w c.args.aid) c.in-Lock.is c.requires.may) c.lock_line.ensures.did

pub returns-in-Unlock-clause-did : goal.returns-in-Unlock-clause-did
returns-in-Unlock-clause-did g c =
    let sight = g.Q.SharedQueue.sight in
    same_line (queues_in c.args.defs.now) (g.Q.SharedQueue.build c.args.queue.now) c.args.number c.in-Unlock._queue (sight c.args.pass.now) (sight c.unlock_line.new.pass) _ (hands_of c.unlock_line.new.held.items) c.args.what (λ n. Unlock n c.in-Unlock.id) c.unlock_line.result
    c.in-Unlock.is (subst (λ (w : What). MayDo c.args.number (sight c.args.pass.now) w c.args.aid) c.in-Unlock.is c.requires.may) c.unlock_line.ensures.did

pub returns-in-Steal-clause-did : goal.returns-in-Steal-clause-did
returns-in-Steal-clause-did g c =
    let sight = g.Q.SharedQueue.sight in
    same_line (queues_in c.args.defs.now) (g.Q.SharedQueue.build c.args.queue.now) c.args.number c.in-Steal._queue (sight c.args.pass.now) (sight c.steal_line.new.pass) _ (hands_of c.steal_line.new.held.items) c.args.what (λ n. Steal n c.in-Steal.id) c.steal_line.result
    c.in-Steal.is (subst (λ (w : What). MayDo c.args.number (sight c.args.pass.now) w c.args.aid) c.in-Steal.is c.requires.may) c.steal_line.ensures.did
