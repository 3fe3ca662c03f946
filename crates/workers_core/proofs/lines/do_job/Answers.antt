use Rattle.std.proofs.Common.{◌<◌, ◌≤◌, ◌+◌, List, [], ◌∷◌, map, length, slice_set, refl, sym, ap, ◌∙◌, subst, arith, vec_len}
use Rattle.acts_core.specs.Sight.{Sight}
use Rattle.defs_read.specs.Defined.{queues_in}
use Rattle.script_read.specs.declared.lines.What.{What}
use Rattle.workers_core.specs.Drops.{all_left}
use Rattle.workers_core.specs.Held.{hands_of}
use Rattle.workers_core.specs.Ready.{Holds, Serves, Spends}
use Rattle.workers_core.proofs.OneJob.{by_pass, closed_line, did_to, map_at, map_length, map_set, may_do, put_of, read_at, spends_none, spends_one}
use Rattle.workers_core.proofs.Ones.{hold_here, holds_after, line_one, serve_after}
use Rattle.workers_core.proofs.Roomy.{left_job, left_line, room_put}
use Rattle.workers_core.proofs.lines.do_job.Goals as goal

pub close-requires : goal.close-requires
close-requires g c = subst (λ (w : What). Serves (map g.Q.SharedQueue.sight c.args.passes.now.items) w c.args.job.aid) c.in-Close.is c.requires.served

pub returns-in-Close-clause-spends : goal.returns-in-Close-clause-spends
returns-in-Close-clause-spends g c = spends_none c.args.job.op.what (map g.Q.SharedQueue.sight c.args.passes.now.items)

pub returns-in-Close-clause-did : goal.returns-in-Close-clause-did
returns-in-Close-clause-did g c =
    closed_line (queues_in c.args.defs.now) (map g.Q.SharedQueue.build c.args.queues.now) (map g.Q.SharedQueue.sight c.args.passes.now.items) _ _ c.args.job.op c.in-Close.consumer c.in-Close.is (ap (λ seats. record { hands = hands_of c.args.held.now.items; seats = seats; stopped = c.args.stopped.now.items; drops = c.args.drops.now.items }) c.close.ensures.drops)

pub bounds-queues-number : goal.bounds-queues-number
bounds-queues-number g c =
    let sight = g.Q.SharedQueue.sight in
    let passes = c.args.passes.now.items in
    let q = c.in-Some.number in
    let named = sym c.queue_of-number.ensures ∙ c.in-Some.is in
    let here : q < length passes = omega (arith, by_pass (map sight passes) c.args.job.op.what c.args.job.aid q c.requires.served named, map_length g.Q.SharedQueue.sight passes) in
    omega (arith, here, c.args.passes.now.ok.0, c.requires.as_many)

pub offset_bounds-queues-number : goal.offset_bounds-queues-number
offset_bounds-queues-number g c =
    let sight = g.Q.SharedQueue.sight in
    let passes = c.args.passes.now.items in
    let q = c.in-Some.number in
    let named = sym c.queue_of-number.ensures ∙ c.in-Some.is in
    let here : q < length passes = omega (arith, by_pass (map sight passes) c.args.job.op.what c.args.job.aid q c.requires.served named, map_length g.Q.SharedQueue.sight passes) in
    omega (arith, here, c.args.passes.now.ok.0, c.requires.as_many)

pub index_mut-pass-requires : goal.index_mut-pass-requires
index_mut-pass-requires g c =
    let sight = g.Q.SharedQueue.sight in
    let passes = c.args.passes.now.items in
    let q = c.in-Some.number in
    let named = sym c.queue_of-number.ensures ∙ c.in-Some.is in
    let here : q < length passes = omega (arith, by_pass (map sight passes) c.args.job.op.what c.args.job.aid q c.requires.served named, map_length g.Q.SharedQueue.sight passes) in
    omega (arith, here, c.args.passes.now.ok.0)

pub on_queue-requires-clause-serves : goal.on_queue-requires-clause-serves
on_queue-requires-clause-serves g c κs within =
    let sight = g.Q.SharedQueue.sight in
    let passes = c.args.passes.now.items in
    let q = c.in-Some.number in
    let named = sym c.queue_of-number.ensures ∙ c.in-Some.is in
    let here : q < length passes = omega (arith, by_pass (map sight passes) c.args.job.op.what c.args.job.aid q c.requires.served named, map_length g.Q.SharedQueue.sight passes) in
    let there : q < length c.args.queues.now = omega (arith, here, c.args.passes.now.ok.0, c.requires.as_many) in
    let queue_at = read_at c.args.queues.now q c.index-queues-number.result there c.index-queues-number.is in
    let pass_at = read_at passes q c.index_mut-pass.result.now here c.index_mut-pass.ensures.value in
    c.requires.serve q c.index-queues-number.result c.index_mut-pass.result.now queue_at pass_at

pub on_queue-requires-clause-hold : goal.on_queue-requires-clause-hold
on_queue-requires-clause-hold g c κs within =
    let sight = g.Q.SharedQueue.sight in
    let passes = c.args.passes.now.items in
    let q = c.in-Some.number in
    let named = sym c.queue_of-number.ensures ∙ c.in-Some.is in
    let here : q < length passes = omega (arith, by_pass (map sight passes) c.args.job.op.what c.args.job.aid q c.requires.served named, map_length g.Q.SharedQueue.sight passes) in
    let there : q < length c.args.queues.now = omega (arith, here, c.args.passes.now.ok.0, c.requires.as_many) in
    let queue_at = read_at c.args.queues.now q c.index-queues-number.result there c.index-queues-number.is in
    let pass_at = read_at passes q c.index_mut-pass.result.now here c.index_mut-pass.ensures.value in
    let build = g.Q.SharedQueue.build in
    let olds = map sight passes in
    let built = map_at build c.args.queues.now q c.index-queues-number.result queue_at in
    let seen = map_at sight passes q c.index_mut-pass.result.now pass_at in
    hold_here olds (hands_of c.args.held.now.items) q (sight c.index_mut-pass.result.now) c.requires.holds seen

pub on_queue-requires-clause-kind : goal.on_queue-requires-clause-kind
on_queue-requires-clause-kind g c κs within = λ def at.
    let sight = g.Q.SharedQueue.sight in
    let passes = c.args.passes.now.items in
    let q = c.in-Some.number in
    let named = sym c.queue_of-number.ensures ∙ c.in-Some.is in
    let here : q < length passes = omega (arith, by_pass (map sight passes) c.args.job.op.what c.args.job.aid q c.requires.served named, map_length g.Q.SharedQueue.sight passes) in
    let there : q < length c.args.queues.now = omega (arith, here, c.args.passes.now.ok.0, c.requires.as_many) in
    let queue_at = read_at c.args.queues.now q c.index-queues-number.result there c.index-queues-number.is in
    let pass_at = read_at passes q c.index_mut-pass.result.now here c.index_mut-pass.ensures.value in
    let build = g.Q.SharedQueue.build in
    let olds = map sight passes in
    let built = map_at build c.args.queues.now q c.index-queues-number.result queue_at in
    let seen = map_at sight passes q c.index_mut-pass.result.now pass_at in
    c.requires.kinds q def (build c.index-queues-number.result) at built

pub on_queue-requires-clause-drops : goal.on_queue-requires-clause-drops
on_queue-requires-clause-drops g c κs within = λ is def at.
    let sight = g.Q.SharedQueue.sight in
    let passes = c.args.passes.now.items in
    let q = c.in-Some.number in
    let named = sym c.queue_of-number.ensures ∙ c.in-Some.is in
    let here : q < length passes = omega (arith, by_pass (map sight passes) c.args.job.op.what c.args.job.aid q c.requires.served named, map_length g.Q.SharedQueue.sight passes) in
    let there : q < length c.args.queues.now = omega (arith, here, c.args.passes.now.ok.0, c.requires.as_many) in
    let queue_at = read_at c.args.queues.now q c.index-queues-number.result there c.index-queues-number.is in
    let pass_at = read_at passes q c.index_mut-pass.result.now here c.index_mut-pass.ensures.value in
    let build = g.Q.SharedQueue.build in
    let olds = map sight passes in
    let built = map_at build c.args.queues.now q c.index-queues-number.result queue_at in
    let seen = map_at sight passes q c.index_mut-pass.result.now pass_at in
    let put = put_of c.args.job.op.what c.args.job.aid q is named in
    room_put (queues_in c.args.defs.now) (map build c.args.queues.now) olds q _ _ (build c.index-queues-number.result) (sight c.index_mut-pass.result.now) def c.args.job.op q put.0 built seen at (c.requires.kinds q def (build c.index-queues-number.result) at built) put.1 refl c.requires.drops

pub on_queue-requires-clause-may : goal.on_queue-requires-clause-may
on_queue-requires-clause-may g c κs within =
    let sight = g.Q.SharedQueue.sight in
    let passes = c.args.passes.now.items in
    let q = c.in-Some.number in
    let named = sym c.queue_of-number.ensures ∙ c.in-Some.is in
    let here : q < length passes = omega (arith, by_pass (map sight passes) c.args.job.op.what c.args.job.aid q c.requires.served named, map_length g.Q.SharedQueue.sight passes) in
    let there : q < length c.args.queues.now = omega (arith, here, c.args.passes.now.ok.0, c.requires.as_many) in
    let queue_at = read_at c.args.queues.now q c.index-queues-number.result there c.index-queues-number.is in
    let pass_at = read_at passes q c.index_mut-pass.result.now here c.index_mut-pass.ensures.value in
    let build = g.Q.SharedQueue.build in
    let olds = map sight passes in
    let built = map_at build c.args.queues.now q c.index-queues-number.result queue_at in
    let seen = map_at sight passes q c.index_mut-pass.result.now pass_at in
    may_do olds c.args.job q (sight c.index_mut-pass.result.now) c.requires.served named seen c.requires.rights

pub returns-clause-serve : goal.returns-clause-serve
returns-clause-serve g c =
    let sight = g.Q.SharedQueue.sight in
    let passes = c.args.passes.now.items in
    let q = c.in-Some.number in
    let named = sym c.queue_of-number.ensures ∙ c.in-Some.is in
    let here : q < length passes = omega (arith, by_pass (map sight passes) c.args.job.op.what c.args.job.aid q c.requires.served named, map_length g.Q.SharedQueue.sight passes) in
    let there : q < length c.args.queues.now = omega (arith, here, c.args.passes.now.ok.0, c.requires.as_many) in
    let queue_at = read_at c.args.queues.now q c.index-queues-number.result there c.index-queues-number.is in
    let pass_at = read_at passes q c.index_mut-pass.result.now here c.index_mut-pass.ensures.value in
    serve_after g.Q.SharedQueue.serves c.args.queues.now passes q c.index-queues-number.result c.index_mut-pass.result.now c.on_queue.new.pass c.requires.serve queue_at pass_at c.on_queue.ensures.serves

pub returns-clause-holds : goal.returns-clause-holds
returns-clause-holds g c =
    let sight = g.Q.SharedQueue.sight in
    let passes = c.args.passes.now.items in
    let q = c.in-Some.number in
    let named = sym c.queue_of-number.ensures ∙ c.in-Some.is in
    let here : q < length passes = omega (arith, by_pass (map sight passes) c.args.job.op.what c.args.job.aid q c.requires.served named, map_length g.Q.SharedQueue.sight passes) in
    let there : q < length c.args.queues.now = omega (arith, here, c.args.passes.now.ok.0, c.requires.as_many) in
    let queue_at = read_at c.args.queues.now q c.index-queues-number.result there c.index-queues-number.is in
    let pass_at = read_at passes q c.index_mut-pass.result.now here c.index_mut-pass.ensures.value in
    let build = g.Q.SharedQueue.build in
    let olds = map sight passes in
    let built = map_at build c.args.queues.now q c.index-queues-number.result queue_at in
    let seen = map_at sight passes q c.index_mut-pass.result.now pass_at in
    subst (λ (ss : List Sight). Holds ss (hands_of c.on_queue.new.held.items)) (sym (map_set sight passes q c.on_queue.new.pass))
    (holds_after olds (hands_of c.args.held.now.items) (hands_of c.on_queue.new.held.items) q (sight c.index_mut-pass.result.now) (sight c.on_queue.new.pass) c.requires.holds seen (by_pass olds c.args.job.op.what c.args.job.aid q c.requires.served named) c.on_queue.ensures.hold c.on_queue.ensures.others)

pub returns-clause-spends : goal.returns-clause-spends
returns-clause-spends g c =
    let sight = g.Q.SharedQueue.sight in
    let passes = c.args.passes.now.items in
    let q = c.in-Some.number in
    let named = sym c.queue_of-number.ensures ∙ c.in-Some.is in
    let here : q < length passes = omega (arith, by_pass (map sight passes) c.args.job.op.what c.args.job.aid q c.requires.served named, map_length g.Q.SharedQueue.sight passes) in
    let there : q < length c.args.queues.now = omega (arith, here, c.args.passes.now.ok.0, c.requires.as_many) in
    let queue_at = read_at c.args.queues.now q c.index-queues-number.result there c.index-queues-number.is in
    let pass_at = read_at passes q c.index_mut-pass.result.now here c.index_mut-pass.ensures.value in
    let build = g.Q.SharedQueue.build in
    let olds = map sight passes in
    let built = map_at build c.args.queues.now q c.index-queues-number.result queue_at in
    let seen = map_at sight passes q c.index_mut-pass.result.now pass_at in
    subst (Spends c.args.job.op.what olds) (sym (map_set sight passes q c.on_queue.new.pass))
    (spends_one (queues_in c.args.defs.now) (build c.index-queues-number.result) olds q (sight c.index_mut-pass.result.now) (sight c.on_queue.new.pass) _ _ c.args.job.op.what c.on_queue.result c.args.job.aid seen (may_do olds c.args.job q (sight c.index_mut-pass.result.now) c.requires.served named seen c.requires.rights) c.on_queue.ensures.did)

pub returns-clause-did : goal.returns-clause-did
returns-clause-did g c =
    let sight = g.Q.SharedQueue.sight in
    let passes = c.args.passes.now.items in
    let q = c.in-Some.number in
    let named = sym c.queue_of-number.ensures ∙ c.in-Some.is in
    let here : q < length passes = omega (arith, by_pass (map sight passes) c.args.job.op.what c.args.job.aid q c.requires.served named, map_length g.Q.SharedQueue.sight passes) in
    let there : q < length c.args.queues.now = omega (arith, here, c.args.passes.now.ok.0, c.requires.as_many) in
    let queue_at = read_at c.args.queues.now q c.index-queues-number.result there c.index-queues-number.is in
    let pass_at = read_at passes q c.index_mut-pass.result.now here c.index_mut-pass.ensures.value in
    let build = g.Q.SharedQueue.build in
    let olds = map sight passes in
    let built = map_at build c.args.queues.now q c.index-queues-number.result queue_at in
    let seen = map_at sight passes q c.index_mut-pass.result.now pass_at in
    let defs = queues_in c.args.defs.now in
    did_to defs (map build c.args.queues.now) olds (slice_set olds q (sight c.on_queue.new.pass)) (map sight (slice_set passes q c.on_queue.new.pass)) _ _ (c.args.job.op ∷ []) (c.on_queue.result ∷ []) (map_set sight passes q c.on_queue.new.pass)
    (line_one defs (map build c.args.queues.now) q olds (build c.index-queues-number.result) (sight c.index_mut-pass.result.now) (sight c.on_queue.new.pass) _ _ c.args.job.op c.on_queue.result built seen c.on_queue.ensures.did)

pub returns-clause-left : goal.returns-clause-left
returns-clause-left g c =
    let sight = g.Q.SharedQueue.sight in
    let passes = c.args.passes.now.items in
    let q = c.in-Some.number in
    let named = sym c.queue_of-number.ensures ∙ c.in-Some.is in
    let here : q < length passes = omega (arith, by_pass (map sight passes) c.args.job.op.what c.args.job.aid q c.requires.served named, map_length g.Q.SharedQueue.sight passes) in
    let there : q < length c.args.queues.now = omega (arith, here, c.args.passes.now.ok.0, c.requires.as_many) in
    let queue_at = read_at c.args.queues.now q c.index-queues-number.result there c.index-queues-number.is in
    let pass_at = read_at passes q c.index_mut-pass.result.now here c.index_mut-pass.ensures.value in
    let build = g.Q.SharedQueue.build in
    let olds = map sight passes in
    let built = map_at build c.args.queues.now q c.index-queues-number.result queue_at in
    let seen = map_at sight passes q c.index_mut-pass.result.now pass_at in
    let one = left_line (queues_in c.args.defs.now) (build c.index-queues-number.result) q (sight c.index_mut-pass.result.now) (sight c.on_queue.new.pass) _ _ c.args.job.op.what c.on_queue.result _ _ c.on_queue.ensures.did c.on_queue.ensures.left c.on_queue.ensures.same in
    let all = left_job (map build c.args.queues.now) olds q (build c.index-queues-number.result) (sight c.index_mut-pass.result.now) (sight c.on_queue.new.pass) _ _ built seen one in
    subst (λ (ss : List Sight). vec_len c.on_queue.new.drops + all_left (map build c.args.queues.now) ss ≤ vec_len c.args.drops.now + all_left (map build c.args.queues.now) olds) (sym (map_set sight passes q c.on_queue.new.pass)) all
