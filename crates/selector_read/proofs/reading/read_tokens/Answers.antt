use Rattle.selector_tokens.specs.Lexer.{ahead, text_of}
use Rattle.selector_tokens.specs.declared.faults.Kind.TheVariants.{Unexpected}
use Rattle.selector_read.specs.Modes.{mode_of}
use Rattle.selector_read.specs.Selectors.{refused}
use Rattle.selector_read.proofs.Tokens.{token_goes, token_stops, no_token, ends_whole, ends_early}
use Rattle.std.proofs.Common.{length, ap, ◌∙◌}
use Rattle.std.proofs.lemmas.Result.{err_from_is_err_and}
use Rattle.selector_read.proofs.reading.read_tokens.Goals as goal

pub returns-in_err-token : goal.returns-in_err-token
returns-in_err-token c =
    let p = err_from_is_err_and c.from_residual.result c.from_residual.ensures.1 in
    rw (p.1, p.2) (no_token c.loop-mode.lexer c.next.new.self c.loop-mode.forms (mode_of c.loop-mode.mode) c.loop-mode.older c.loop-mode.last _ _ c.in_err-token.ensures.next c.loop-mode.invariant.0)

pub returns-in-Err : goal.returns-in-Err
returns-in-Err c =
    token_stops (ahead c.loop-mode.lexer) (ahead c.next.new.self) c.loop-mode.forms (mode_of c.loop-mode.mode) c.loop-mode.older c.loop-mode.last c.in-Some.token.at c.in-Some.token.token _ c.in-Err.fault c.placed.result
    (rw c.in-Some.is at c.in_ok-token.ensures.next) c.in-Err.ensures c.placed.ensures c.loop-mode.invariant.0

pub loop-mode-preserved : goal.loop-mode-preserved
loop-mode-preserved c = (
  token_goes (ahead c.loop-mode.lexer) (ahead c.next.new.self) c.loop-mode.forms c.step.new.forms (mode_of c.loop-mode.mode) (mode_of c.in-Ok.mode) c.loop-mode.older c.loop-mode.last c.in-Some.token.at c.in-Some.token.token _
      (rw c.in-Some.is at c.in_ok-token.ensures.next) c.in-Ok.ensures c.loop-mode.invariant.0,
  c.next.ensures.text ∙ c.loop-mode.invariant.1,
)

pub returns-in-Ok-Some : goal.returns-in-Ok-Some
returns-in-Ok-Some c =
    let end = rw c.in_default.is at c.in_ok-token.ensures.next in
    ends_whole (ahead c.loop-mode.lexer) (length (text_of c.loop-mode.lexer)) c.loop-mode.forms (mode_of c.loop-mode.mode) c.loop-mode.older c.loop-mode.last _ c.in-Ok-Some.expr end.0 (rw c.in-Ok-Some.field-0-is at c.in-Ok-Some.ensures) c.loop-mode.invariant.0

pub returns-in-Ok-None : goal.returns-in-Ok-None
returns-in-Ok-None c =
    let end = rw c.in_default.is at c.in_ok-token.ensures.next in
    ends_early (ahead c.loop-mode.lexer) (length (text_of c.loop-mode.lexer)) c.loop-mode.forms (mode_of c.loop-mode.mode) c.loop-mode.older c.loop-mode.last _ end.0 (rw c.in-Ok-None.field-0-is at c.in-Ok-None.ensures) c.loop-mode.invariant.0
    ∙ ap (λ n. refused n Unexpected) (ap length c.loop-mode.invariant.1)
