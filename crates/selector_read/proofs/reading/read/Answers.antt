use Rattle.selector_read.proofs.Meanings.{reading_means, refusal_means, writable}
use Rattle.std.proofs.lemmas.Result.{err_from_is_err_and}
use Rattle.selector_read.proofs.reading.read.Goals as goal

pub returns-in_err-expr-clause-means : goal.returns-in_err-expr-clause-means
returns-in_err-expr-clause-means c =
    let p = err_from_is_err_and c.from_residual.result c.from_residual.ensures.1 in
    rw (p.1, p.2) (refusal_means c.args.text.now c.in_err-expr.field-0.0 c.in_err-expr.ensures)

pub of-requires : goal.of-requires
of-requires c = writable c.args.text.now _ c.in_ok-expr.ensures

pub returns-clause-means : goal.returns-clause-means
returns-clause-means c = rw c.of.ensures (reading_means c.args.text.now _ c.in_ok-expr.ensures)
