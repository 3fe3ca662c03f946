use Rattle.std.proofs.Common.{arith, ◌≡◌, ◌+◌, ◌++◌, subst, sym}
use Rattle.acts_core.specs.Calls.{rings_up}
use Rattle.entry_calls.specs.Appends.{Ran}
use Rattle.entry_calls.proofs.Changes.{row_goods}
use Rattle.entry_calls.proofs.Ringing.{mask_looked, ran_both, rings_next}
use Rattle.entry_calls.proofs.Running.{ran_one}
use Rattle.entry_table.proofs.Later.{served}
use Rattle.entry_calls.proofs.bells.ring_row.Goals as goal

pub consumers-init : goal.consumers-init
consumers-init g c =
    let old = c.args.pass.now in
    let new = c.look-mask.new.pass in
    let k = c.look-mask.ensures in record {
      serves = served c.args.entries.now old new c.requires.serves k.kept k.did.legal;
      few = omega arith;
      mask = mask_looked old new c.args.row c.look-mask.result k.kept k.did c.requires.known k.shows;
      ran = ran_one old new _ k.kept k.rights.0 k.rights.1 k.did k.shown;
    }

pub ring_wanted-requires-clause-known : goal.ring_wanted-requires-clause-known
ring_wanted-requires-clause-known g c =
    let i = c.consumers.invariant in
    let y = row_goods c.args.pass.now c.consumers.pass c.args.row c.requires.known.0 i.ran.keeps.kept.opening i.ran.did.prefix c.requires.known.1 in
    (y.0, y.1)

pub consumers-preserved : goal.consumers-preserved
consumers-preserved g c =
    let old = c.args.pass.now in
    let mid = c.consumers.pass in
    let new = c.ring_wanted.new.pass in
    let i = c.consumers.invariant in
    let n = c.consumers.consumer in
    let more : rings_up c.args.row c.look-mask.result 0 (n + 1) ≡ rings_up c.args.row c.look-mask.result 0 n ++ rings_up c.args.row c.look-mask.result n 1 = rings_next c.args.row c.look-mask.result n in record {
      serves = c.ring_wanted.ensures.serves;
      few = omega (arith, c.consumers-test.true, c.consumers-consumers.ensures);
      mask = i.mask;
      ran = subst (Ran old new) (sym more) (ran_both old mid new (rings_up c.args.row c.look-mask.result 0 n) (rings_up c.args.row c.look-mask.result n 1) i.ran c.ring_wanted.ensures.ran);
    }
