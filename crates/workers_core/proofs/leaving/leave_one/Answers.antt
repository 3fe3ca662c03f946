use Rattle.std.proofs.Common.{◌<◌, List, [], map, length, slice_set, refl, sym, subst, arith}
use Rattle.std.specs.Option.{option_map}
use Rattle.acts_core.specs.Hands.{InHand}
use Rattle.acts_core.specs.Sight.{Sight}
use Rattle.txn_core.specs.Parcels.{load_of}
use Rattle.line_core.specs.Fits.{unlock_of}
use Rattle.workers_core.specs.Held.{hand_of}
use Rattle.workers_core.specs.Ready.{Holds}
use Rattle.line_core.specs.Runs.{Ran}
use Rattle.workers_core.proofs.Leaves.{holds_rest, left_holds, left_ran, ran_nothing}
use Rattle.workers_core.proofs.OneJob.{map_at, map_length, map_set, read_at, set_back}
use Rattle.workers_core.proofs.Ones.{serve_after}
use Rattle.workers_core.proofs.leaving.leave_one.Goals as goal

pub bounds-queues-number : goal.bounds-queues-number
bounds-queues-number g c = omega (arith, c.requires.holds.within.0, map_length g.Q.SharedQueue.sight c.args.passes.now.items, c.args.passes.now.ok.0, c.requires.as_many)

pub offset_bounds-queues-number : goal.offset_bounds-queues-number
offset_bounds-queues-number g c = omega (arith, c.requires.holds.within.0, map_length g.Q.SharedQueue.sight c.args.passes.now.items, c.args.passes.now.ok.0, c.requires.as_many)

pub index_mut-pass-requires : goal.index_mut-pass-requires
index_mut-pass-requires g c = omega (arith, c.requires.holds.within.0, map_length g.Q.SharedQueue.sight c.args.passes.now.items, c.args.passes.now.ok.0)

pub unlock-requires-clause-serves : goal.unlock-requires-clause-serves
unlock-requires-clause-serves g c =
    let sight = g.Q.SharedQueue.sight in
    let passes = c.args.passes.now.items in
    let q = c.args.kept.queue in
    let here : q < length passes = omega (arith, c.requires.holds.within.0, map_length g.Q.SharedQueue.sight passes) in
    let there : q < length c.args.queues.now = omega (arith, here, c.args.passes.now.ok.0, c.requires.as_many) in
    let queue_at = read_at c.args.queues.now q c.index-queues-number.result there c.index-queues-number.is in
    let pass_at = read_at passes q c.index_mut-pass.result.now here c.index_mut-pass.ensures.value in
    c.requires.serve q c.index-queues-number.result c.index_mut-pass.result.now queue_at pass_at

pub unlock-requires-clause-handed : goal.unlock-requires-clause-handed
unlock-requires-clause-handed g c =
    let sight = g.Q.SharedQueue.sight in
    let passes = c.args.passes.now.items in
    let q = c.args.kept.queue in
    let here : q < length passes = omega (arith, c.requires.holds.within.0, map_length g.Q.SharedQueue.sight passes) in
    let there : q < length c.args.queues.now = omega (arith, here, c.args.passes.now.ok.0, c.requires.as_many) in
    let queue_at = read_at c.args.queues.now q c.index-queues-number.result there c.index-queues-number.is in
    let pass_at = read_at passes q c.index_mut-pass.result.now here c.index_mut-pass.ensures.value in
    let mine = (c.requires.holds.mine q (sight c.index_mut-pass.result.now) (map_at sight passes q c.index_mut-pass.result.now pass_at)).0 refl in
    subst (λ o. InHand (sight c.index_mut-pass.result.now) c.args.kept.row (option_map load_of o)) c.in-Some.is mine.stands

pub returns-in-Some-clause-serve : goal.returns-in-Some-clause-serve
returns-in-Some-clause-serve g c =
    let sight = g.Q.SharedQueue.sight in
    let passes = c.args.passes.now.items in
    let q = c.args.kept.queue in
    let here : q < length passes = omega (arith, c.requires.holds.within.0, map_length g.Q.SharedQueue.sight passes) in
    let there : q < length c.args.queues.now = omega (arith, here, c.args.passes.now.ok.0, c.requires.as_many) in
    let queue_at = read_at c.args.queues.now q c.index-queues-number.result there c.index-queues-number.is in
    let pass_at = read_at passes q c.index_mut-pass.result.now here c.index_mut-pass.ensures.value in
    serve_after g.Q.SharedQueue.serves c.args.queues.now passes q c.index-queues-number.result c.index_mut-pass.result.now c.unlock.new.pass c.requires.serve queue_at pass_at c.unlock.ensures.serves

pub returns-in-Some-clause-holds : goal.returns-in-Some-clause-holds
returns-in-Some-clause-holds g c = λ ks holds.
    let sight = g.Q.SharedQueue.sight in
    let passes = c.args.passes.now.items in
    let q = c.args.kept.queue in
    let here : q < length passes = omega (arith, c.requires.holds.within.0, map_length g.Q.SharedQueue.sight passes) in
    let there : q < length c.args.queues.now = omega (arith, here, c.args.passes.now.ok.0, c.requires.as_many) in
    let queue_at = read_at c.args.queues.now q c.index-queues-number.result there c.index-queues-number.is in
    let pass_at = read_at passes q c.index_mut-pass.result.now here c.index_mut-pass.ensures.value in
    let build = g.Q.SharedQueue.build in
    let olds = map sight passes in
    let builds = map build c.args.queues.now in
    let built = map_at build c.args.queues.now q c.index-queues-number.result queue_at in
    let seen = map_at sight passes q c.index_mut-pass.result.now pass_at in
    subst (λ (ss : List Sight). Holds ss ks) (sym (map_set sight passes q c.unlock.new.pass))
    (left_holds builds olds (build c.index-queues-number.result) (sight c.index_mut-pass.result.now) (sight c.unlock.new.pass) (hand_of c.args.kept) ks built seen holds (load_of c.in-Some.cargo) c.unlock.ensures.called)

pub returns-in-Some-clause-ran : goal.returns-in-Some-clause-ran
returns-in-Some-clause-ran g c =
    let sight = g.Q.SharedQueue.sight in
    let passes = c.args.passes.now.items in
    let q = c.args.kept.queue in
    let here : q < length passes = omega (arith, c.requires.holds.within.0, map_length g.Q.SharedQueue.sight passes) in
    let there : q < length c.args.queues.now = omega (arith, here, c.args.passes.now.ok.0, c.requires.as_many) in
    let queue_at = read_at c.args.queues.now q c.index-queues-number.result there c.index-queues-number.is in
    let pass_at = read_at passes q c.index_mut-pass.result.now here c.index_mut-pass.ensures.value in
    let build = g.Q.SharedQueue.build in
    let olds = map sight passes in
    let builds = map build c.args.queues.now in
    let built = map_at build c.args.queues.now q c.index-queues-number.result queue_at in
    let seen = map_at sight passes q c.index_mut-pass.result.now pass_at in
    subst (λ (ss : List Sight). Ran builds olds (unlock_of (hand_of c.args.kept) (option_map load_of c.args.kept.cargo)) ss) (sym (map_set sight passes q c.unlock.new.pass))
    (subst (λ o. Ran builds olds (unlock_of (hand_of c.args.kept) (option_map load_of o)) (slice_set olds q (sight c.unlock.new.pass))) (sym c.in-Some.is)
    (left_ran builds olds (build c.index-queues-number.result) (sight c.index_mut-pass.result.now) (sight c.unlock.new.pass) (hand_of c.args.kept) [] built seen c.requires.holds (load_of c.in-Some.cargo) c.unlock.ensures.called))

pub returns-in-None-clause-serve : goal.returns-in-None-clause-serve
returns-in-None-clause-serve g c =
    let sight = g.Q.SharedQueue.sight in
    let passes = c.args.passes.now.items in
    let q = c.args.kept.queue in
    let here : q < length passes = omega (arith, c.requires.holds.within.0, map_length g.Q.SharedQueue.sight passes) in
    let there : q < length c.args.queues.now = omega (arith, here, c.args.passes.now.ok.0, c.requires.as_many) in
    let queue_at = read_at c.args.queues.now q c.index-queues-number.result there c.index-queues-number.is in
    let pass_at = read_at passes q c.index_mut-pass.result.now here c.index_mut-pass.ensures.value in
    serve_after g.Q.SharedQueue.serves c.args.queues.now passes q c.index-queues-number.result c.index_mut-pass.result.now c.index_mut-pass.result.now c.requires.serve queue_at pass_at (c.requires.serve q c.index-queues-number.result c.index_mut-pass.result.now queue_at pass_at)

pub returns-in-None-clause-holds : goal.returns-in-None-clause-holds
returns-in-None-clause-holds g c = λ ks holds.
    let sight = g.Q.SharedQueue.sight in
    let passes = c.args.passes.now.items in
    let q = c.args.kept.queue in
    let here : q < length passes = omega (arith, c.requires.holds.within.0, map_length g.Q.SharedQueue.sight passes) in
    let there : q < length c.args.queues.now = omega (arith, here, c.args.passes.now.ok.0, c.requires.as_many) in
    let queue_at = read_at c.args.queues.now q c.index-queues-number.result there c.index-queues-number.is in
    let pass_at = read_at passes q c.index_mut-pass.result.now here c.index_mut-pass.ensures.value in
    subst (λ ps. Holds (map sight ps) ks) (sym (set_back passes q c.index_mut-pass.result.now pass_at)) (holds_rest (map sight passes) (hand_of c.args.kept) ks holds)

pub returns-in-None-clause-ran : goal.returns-in-None-clause-ran
returns-in-None-clause-ran g c =
    let sight = g.Q.SharedQueue.sight in
    let passes = c.args.passes.now.items in
    let q = c.args.kept.queue in
    let here : q < length passes = omega (arith, c.requires.holds.within.0, map_length g.Q.SharedQueue.sight passes) in
    let there : q < length c.args.queues.now = omega (arith, here, c.args.passes.now.ok.0, c.requires.as_many) in
    let queue_at = read_at c.args.queues.now q c.index-queues-number.result there c.index-queues-number.is in
    let pass_at = read_at passes q c.index_mut-pass.result.now here c.index_mut-pass.ensures.value in
    let build = g.Q.SharedQueue.build in
    let olds = map sight passes in
    let builds = map build c.args.queues.now in
    let built = map_at build c.args.queues.now q c.index-queues-number.result queue_at in
    let seen = map_at sight passes q c.index_mut-pass.result.now pass_at in
    subst (λ ps. Ran builds olds (unlock_of (hand_of c.args.kept) (option_map load_of c.args.kept.cargo)) (map sight ps)) (sym (set_back passes q c.index_mut-pass.result.now pass_at))
    (subst (λ o. Ran builds olds (unlock_of (hand_of c.args.kept) (option_map load_of o)) olds) (sym c.in-None.is) (ran_nothing builds olds))
