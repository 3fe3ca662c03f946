use Rattle.std.proofs.Common.{[], ◌∷◌, arith}
use Rattle.any_queue.specs.Kinds.{sight_in}
use Rattle.any_queue.proofs.Sharing.{leads_fresh, leads_split, may_part, first_of_two}
use Rattle.any_queue.proofs.shared_tests.two_threads_take_what_two_put.Goals as goal

pub taker-three-requires-clause-may : goal.taker-three-requires-clause-may
taker-three-requires-clause-may g c κs =
    let s0 = sight_in c.in_ok-queue.boss in
    let s1 = sight_in c.putter-one.new.boss in
    let s2 = sight_in c.putter-two.new.boss in
    let l0 = leads_fresh _ _ _ _ _ _ _ s0 c.in_ok-queue.ensures.fresh c.new.ensures.items c.in_ok-def.ensures.1 in
    let l1 = leads_split s0.opening 1 _ _ _ [] 16 s0 s1 (sight_in c.putter-one.result) l0 c.putter-one.ensures.split in
    let l2 = leads_split s0.opening 2 _ _ _ [] 16 s1 s2 (sight_in c.putter-two.result) l1 c.putter-two.ensures.split in
    may_part s0.opening 3 _ _ _ (0 ∷ []) 0 s2 s2 s2 l2 (omega arith) (omega arith) (omega arith) first_of_two
