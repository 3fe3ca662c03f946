use Rattle.std.proofs.Common.{◌≡◌}
use Rattle.selector_tokens.specs.Lexer.{ahead, bytes_left, text_of}
use Rattle.selector_tokens.specs.Lexing.{lexed}
use Rattle.selector_read.specs.Modes.{mode_of}
use Rattle.selector_read.specs.Reading.{outcome_from, start, state}
use Rattle.selector_read.proofs.reading.read_tokens.Given as goal

abbrev pub invariant-loop-mode : goal.invariant-loop-mode
invariant-loop-mode l =
    (outcome_from (state l.forms (mode_of l.mode)) l.older l.last (ahead l.lexer).tokens (ahead l.lexer).stop
    ≡ outcome_from start 0 0 (lexed l.text).tokens (lexed l.text).stop)
    × (text_of l.lexer ≡ l.text)

abbrev pub decreases-loop-mode : goal.decreases-loop-mode
decreases-loop-mode l = bytes_left l.lexer
