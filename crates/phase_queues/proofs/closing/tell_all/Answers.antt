use Rattle.std.proofs.Common.{◌∙◌, ◌++◌, List, length, map, refl, ap, arith}
use Rattle.acts_core.specs.declared.cargoes.RestEntry.{RestEntry}
use Rattle.txn_core.specs.declared.parcels.Parcel.{Parcel}
use Rattle.phase_queues.specs.Left.{resting_left}
use Rattle.std.proofs.lemmas.Option.{slice_get_read}
use Rattle.phase_queues.proofs.Leaves.{all_told_below, one_more_told}
use Rattle.phase_queues.proofs.closing.tell_all.Goals as goal

pub loop-at-preserved : goal.loop-at-preserved
loop-at-preserved c =
    let at = c.loop-at.at in
    let low = c.loop-at-test.true in
    let same = c.loop-at.invariant.0 in
    let req = c.requires.rests in
    let ok = c.loop-at.rests.ok in
    let here = slice_get_read c.loop-at.rests.items (length c.loop-at.rests.items) at c.index_mut.result.now refl (omega (arith, low, same, req, ok)) c.index_mut.ensures.value in
    let left = slice_get_read c.args.left.now (length c.args.left.now) at c.index-left-at.result refl low c.index-left-at.is in
    let told = c.tell.ensures.told ∙ ap (λ (es : List (RestEntry Parcel)). c.index_mut.result.now.entries.items ++ map resting_left es) c.as_slice.ensures.value in (
      same,
      one_more_told at c.args.rests.now.items c.args.left.now c.loop-at.rests.items c.index_mut.result.now c.index-left-at.result c.tell.new.rest here left c.tell.ensures.name told c.loop-at.invariant.1,
    )

pub returns-clause-told : goal.returns-clause-told
returns-clause-told c = all_told_below c.loop-at.at c.args.rests.now.items c.args.left.now c.loop-at.rests.items c.loop-at-test.false c.loop-at.invariant.1
