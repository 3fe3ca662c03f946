use Rattle.std.proofs.Common.{length, refl, arith}
use Rattle.std.proofs.lemmas.Option.{slice_get_read}
use Rattle.phase_queues.proofs.Leaves.{all_lasting_below, none_lasting, one_more_lasting}
use Rattle.phase_queues.proofs.closing.leave_out_all.Goals as goal

pub loop-at-init : goal.loop-at-init
loop-at-init c = (refl, none_lasting c.args.left.now.items)

pub loop-at-preserved : goal.loop-at-preserved
loop-at-preserved c =
    let at = c.loop-at.at in
    let low = c.loop-at-test.true in
    let same = c.loop-at.invariant.0 in
    let ok = c.loop-at.left.ok in
    let old = c.args.left.now.ok in
    let here = slice_get_read c.loop-at.left.items (length c.loop-at.left.items) at c.index_mut.result.now refl (omega (arith, low, same, ok, old)) c.index_mut.ensures.value in (
      same,
      one_more_lasting at c.args.left.now.items c.loop-at.left.items c.index_mut.result.now c.leave_out.new.entries here c.leave_out.ensures c.loop-at.invariant.1,
    )

pub returns : goal.returns
returns c =
    let same = c.loop-at.invariant.0 in
    let ok = c.loop-at.left.ok in
    let old = c.args.left.now.ok in
    let past = c.loop-at-test.false in
    all_lasting_below c.loop-at.at c.args.left.now.items c.loop-at.left.items (omega (arith, same, ok, old)) (omega (arith, past, old)) c.loop-at.invariant.1
