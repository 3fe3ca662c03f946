use Rattle.std.proofs.Common.{List, ℕ, get_or, take, sym, subst, arith}
use Rattle.std.proofs.lemmas.List.{take_more}
use Rattle.cursor_core.specs.Holding.{AreHanded}
use Rattle.cursor_core.proofs.Slots.{handed_more, all_in}
use Rattle.cursor_core.proofs.pass_cursors.PassCursors.hand.Goals as goal

pub loop-i-preserved : goal.loop-i-preserved
loop-i-preserved c =
    let i = c.loop-i.invariant in
    let cs = c.args.consumers.now in
    let n = c.loop-i.i in
    let from = c.loop-i.self.slots in
    let to = c.loop-i.slots in
    let places = c.loop-i.self.places in
    let long = i.places in
    let low = all_in 64 cs n 0 c.loop-i-test.true c.requires.few in
    record {
      handed =
          subst (λ (front : List ℕ). AreHanded front c.args.self.now.slots c.hand_one.new.from c.hand_one.new.to) (sym (take_more cs n 0 c.loop-i-test.true))
          (handed_more (take n cs) (get_or cs n 0) c.args.self.now.slots from to c.hand_one.new.from c.hand_one.new.to (omega (arith, low, places)) (omega (arith, low, long)) c.hand_one.ensures.from c.hand_one.ensures.to i.handed);
      places = c.hand_one.ensures.length;
    }
