use Rattle.std.proofs.Common.{◌∙◌, ◌<◌, sym, arith}
use Rattle.defs_read.proofs.Masks.{false_true, leave_next, set_next, still_narrow, with_bit}
use Rattle.defs_read.proofs.slips.mask_of.Goals as goal
use Rattle.defs_read.proofs.slips.mask_of.Goals.{then-wants, else-wants}

pub loop-index-preserved : goal.loop-index-preserved
loop-index-preserved c =
    let i = c.loop-index.index in
    let consumers = c.args.consumers.now in
    let consumer = c.index-consumers-index.result in
    let here : i < 64 = omega arith in
    elim c.if-wants.branch [
      | then-wants w ↦ rw w.mask-is (record {
        mask = set_next c.loop-index.mask i consumers consumer c.args.message.now c.loop-index-test.true c.requires c.index-consumers-index.is c.loop-index.invariant.mask (c.wants.ensures.0 w.if-wants.true);
        narrow = with_bit c.loop-index.mask i here c.loop-index.invariant.narrow;
      })
      | else-wants w ↦ rw w.mask-is (record {
        mask = leave_next c.loop-index.mask i consumers consumer c.args.message.now c.loop-index-test.true c.index-consumers-index.is c.loop-index.invariant.mask (λ wanted. false_true (sym w.if-wants.false ∙ c.wants.ensures.1 wanted));
        narrow = still_narrow c.loop-index.mask i c.loop-index.invariant.narrow;
      })
    ]
