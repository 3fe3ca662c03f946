use Rattle.std.proofs.Common.{List, length, sym, ap, subst, arith}
use Rattle.phase_queues.specs.Closed.{RestsFit, TellsMore}
use Rattle.phase_queues.specs.Left.{Remains}
use Rattle.phase_queues.proofs.Leaves.{all_rows, all_sound, all_stay, all_told, as_many, no_others, of_rows, rests_fit}
use Rattle.phase_queues.proofs.closing.close_queues.Goals as goal

pub tell_all-requires-clause-rests : goal.tell_all-requires-clause-rests
tell_all-requires-clause-rests g c =
    let many = (as_many c.args.queues.items c.args.bosses.items c.close_all.new.left.items c.close_all.ensures).1 in
    let rests = c.requires.rests in
    let a = c.args.queues.ok in
    let same = ap length c.as_slice.ensures.value in
    omega (arith, many, rests, a, same)

pub tell_all-requires-clause-room : goal.tell_all-requires-clause-room
tell_all-requires-clause-room g c =
    let many = c.requires.bosses in
    let a = c.args.queues.ok in
    let b = c.args.bosses.ok in
    let sound = all_sound c.args.queues.items c.args.bosses.items (omega (arith, many, a, b)) c.requires.serves c.requires.last in
    subst (RestsFit c.args.rests.now.items) (sym c.as_slice.ensures.value)
    (rests_fit c.args.queues.items c.args.bosses.items c.close_all.new.left.items c.close_all.ensures sound c.args.rests.now.items c.requires.serves c.requires.none c.requires.entries)

pub returns-clause-told : goal.returns-clause-told
returns-clause-told g c = λ defs names.
    let many = c.requires.bosses in
    let a = c.args.queues.ok in
    let b = c.args.bosses.ok in
    let sound = all_sound c.args.queues.items c.args.bosses.items (omega (arith, many, a, b)) c.requires.serves c.requires.last in
    let rests = c.requires.rests in
    let r = c.args.rests.now.ok in
    let n = c.tell_all.new.rests.ok in
    let kept = c.tell_all.ensures.as_many in
    let told = subst (λ (z : List Remains). TellsMore c.args.rests.now.items z c.tell_all.new.rests.items) c.as_slice.ensures.value c.tell_all.ensures.told in
    all_told c.args.queues.items c.args.bosses.items c.close_all.new.left.items c.args.rests.now.items c.tell_all.new.rests.items defs c.close_all.ensures sound
    (omega (arith, rests, a, r)) (omega (arith, kept, r, n)) names c.requires.none told

pub returns-clause-left : goal.returns-clause-left
returns-clause-left g c = λ defs rows opens.
    let many = c.requires.bosses in
    let a = c.args.queues.ok in
    let b = c.args.bosses.ok in
    let sound = all_sound c.args.queues.items c.args.bosses.items (omega (arith, many, a, b)) c.requires.serves c.requires.last in
    all_rows c.args.queues.items c.args.bosses.items c.close_all.new.left.items c.leave_out_all.new.left.items defs rows c.close_all.ensures sound c.leave_out_all.ensures opens

pub returns-clause-stay : goal.returns-clause-stay
returns-clause-stay g c = λ defs rows opens.
    let many = c.requires.bosses in
    let a = c.args.queues.ok in
    let b = c.args.bosses.ok in
    let sound = all_sound c.args.queues.items c.args.bosses.items (omega (arith, many, a, b)) c.requires.serves c.requires.last in
    all_stay c.args.queues.items c.args.bosses.items c.close_all.new.left.items c.leave_out_all.new.left.items defs rows c.close_all.ensures sound c.leave_out_all.ensures opens

pub returns-clause-rows : goal.returns-clause-rows
returns-clause-rows g c =
    let many = c.requires.bosses in
    let a = c.args.queues.ok in
    let b = c.args.bosses.ok in
    let sound = all_sound c.args.queues.items c.args.bosses.items (omega (arith, many, a, b)) c.requires.serves c.requires.last in
    of_rows c.args.queues.items c.args.bosses.items c.close_all.new.left.items c.close_all.ensures sound c.leave_out_all.new.left.items c.leave_out_all.ensures

pub returns-clause-callers : goal.returns-clause-callers
returns-clause-callers g c =
    let many = c.requires.bosses in
    let a = c.args.queues.ok in
    let b = c.args.bosses.ok in
    let sound = all_sound c.args.queues.items c.args.bosses.items (omega (arith, many, a, b)) c.requires.serves c.requires.last in
    no_others c.args.queues.items c.args.bosses.items c.close_all.new.left.items c.close_all.ensures sound
