use Rattle.std.proofs.Common.{subst, arith}
use Rattle.std.proofs.lemmas.List.Elements.{All-more}
use Rattle.message_core.specs.declared.headers.Header.{Header}
use Rattle.message_core.specs.Spelling.{IsNumber}
use Rattle.message_core.proofs.HeaderSizes.{size_more}
use Rattle.message_core.proofs.sizes.headers_size.Goals as goal

pub loop-header-preserved : goal.loop-header-preserved
loop-header-preserved c =
    let h = c.header-item.result in
    record {
      size = omega (arith, c.saturating_add-size.ensures, c.header_size.ensures.size, size_more c.args.headers.now c.loop-header.header-index h c.loop-header-test.true c.header-item.is);
      number = All-more (λ h. IsNumber h.value) c.args.headers.now c.loop-header.header-index h c.loop-header-test.true c.loop-header.invariant.number (subst (λ (x : Header). IsNumber x.value) c.header-item.is c.header_size.ensures.number);
    }
