use Rattle.std.proofs.Common.{◌≡◌, ◌∙◌, ℕ, List, length, ap, subst, arith, vec_len}
use Rattle.defs_read.specs.Defined.{queues_in}
use Rattle.phase_queues.specs.Opened.{HoldRows, OpenedSoFar}
use Rattle.phase_queues.specs.Left.{Remains}
use Rattle.phase_queues.proofs.Starting.{all_opens, are_opened, as_many_left, hold_rests}
use Rattle.phase_queues.proofs.opening.open_queues.Goals as goal

pub blank_rests-requires-clause-left : goal.blank_rests-requires-clause-left
blank_rests-requires-clause-left g c = ap length c.as_slice.ensures.value ∙ as_many_left (queues_in c.args.defs.now) c.args.left.items c.requires.stay

pub returns-clause-opened : goal.returns-clause-opened
returns-clause-opened g c =
    let same = as_many_left (queues_in c.args.defs.now) c.args.left.items c.requires.stay in
    let ok = c.args.left.ok in
    let n : vec_len c.args.left ≡ length c.args.left.items = omega (arith, ok) in
    let opened = subst (λ (k : ℕ). OpenedSoFar k (queues_in c.args.defs.now) c.args.left.items c.args.puts.now c.in_ok-queues.queues.items c.in_ok-queues.bosses.items) n c.in_ok-queues.ensures in
    are_opened (queues_in c.args.defs.now) c.args.left.items c.args.puts.now c.in_ok-queues.queues.items c.in_ok-queues.bosses.items same opened

pub returns-clause-opens : goal.returns-clause-opens
returns-clause-opens g c =
    let same = as_many_left (queues_in c.args.defs.now) c.args.left.items c.requires.stay in
    let ok = c.args.left.ok in
    let n : vec_len c.args.left ≡ length c.args.left.items = omega (arith, ok) in
    let opened = subst (λ (k : ℕ). OpenedSoFar k (queues_in c.args.defs.now) c.args.left.items c.args.puts.now c.in_ok-queues.queues.items c.in_ok-queues.bosses.items) n c.in_ok-queues.ensures in
    all_opens (queues_in c.args.defs.now) c.args.left.items c.args.puts.now c.in_ok-queues.queues.items c.in_ok-queues.bosses.items same opened

pub returns-clause-room : goal.returns-clause-room
returns-clause-room g c =
    let same = as_many_left (queues_in c.args.defs.now) c.args.left.items c.requires.stay in
    let ok = c.args.left.ok in
    let n : vec_len c.args.left ≡ length c.args.left.items = omega (arith, ok) in
    let opened = subst (λ (k : ℕ). OpenedSoFar k (queues_in c.args.defs.now) c.args.left.items c.args.puts.now c.in_ok-queues.queues.items c.in_ok-queues.bosses.items) n c.in_ok-queues.ensures in
    let room = subst (λ (l : List Remains). HoldRows l c.args.puts.now c.in_ok-rests.rests.items) c.as_slice.ensures.value c.in_ok-rests.ensures.room in
    hold_rests (queues_in c.args.defs.now) c.args.left.items c.args.puts.now c.in_ok-queues.queues.items c.in_ok-queues.bosses.items same opened c.in_ok-rests.rests.items room
