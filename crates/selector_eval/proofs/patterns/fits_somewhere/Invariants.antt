use Rattle.std.proofs.Common.{◌≡◌, length, ◌+◌}
use Rattle.std.specs.Str.{chars}
use denote.Text.{Utf8}
use denote.Shadow.{shadow}
use Rattle.selector_eval.specs.Patterns.{fits, some_rest}
use Rattle.selector_eval.proofs.patterns.fits_somewhere.Given as goal

abbrev pub invariant-loop-rest : goal.invariant-loop-rest
invariant-loop-rest l = shadow (Utf8 l.pattern) × shadow (Utf8 l.text)
    × (some_rest (fits l.escape (chars l.fn.pattern)) (chars l.fn.text) ≡ some_rest (fits l.escape (chars l.pattern)) (chars l.text))

abbrev pub decreases-loop-rest : goal.decreases-loop-rest
decreases-loop-rest l = length l.pattern + length l.text
