use Rattle.std.proofs.Common.{ap, subst, sym, ◌∙◌, length, arith}
use Rattle.journal_format.specs.Filled.{items_in, IsEncoded}
use Rattle.journal_format.proofs.Filling.{none_encoded}
use Rattle.journal_format.proofs.txns.Txn.with_room.Goals as goal

pub invariant_of-result : goal.invariant_of-result
invariant_of-result c = record {
  encoded = subst (λ b. IsEncoded 0 b) (sym c.in_ok-bytes.ensures.empty) none_encoded.1;
  fits = omega (arith, ap length c.in_ok-bytes.ensures.empty);
}

pub returns-clause-empty : goal.returns-clause-empty
returns-clause-empty c = ap (items_in 0) c.in_ok-bytes.ensures.empty ∙ none_encoded.0
