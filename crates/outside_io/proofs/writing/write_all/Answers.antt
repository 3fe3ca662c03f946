use Rattle.std.proofs.Common.{arith}
use Rattle.outside_io.proofs.Says.{adds_more, within_rest}
use Rattle.outside_io.proofs.writing.write_all.Goals as goal

pub writing-preserved : goal.writing-preserved
writing-preserved g c =
    let wrote = c.in_ok-at.ensures.adds in
    record {
      within = within_rest c.args.bytes.now c.writing.at c.in_ok-at.field-0 c.writing.invariant.within wrote.2;
      added = adds_more _ _ _ c.args.bytes.now c.writing.at c.in_ok-at.field-0 c.writing.invariant.added wrote.0;
      counted = omega (arith, c.writing.invariant.counted, c.in_ok-at.ensures.cause.kept);
      untouched = λ none. absurd (omega (arith, none, wrote.1));
    }
