use Rattle.std.proofs.Common.{length, ◌≤◌}
use Rattle.std.specs.Str.{chars}
use denote.Text.{Utf8}
use denote.Shadow.{shadow}
use Rattle.selector_eval.proofs.PatternTests.{Onwards}
use Rattle.selector_eval.proofs.patterns.up_to_percent.Given as goal

abbrev pub invariant-loop-part : goal.invariant-loop-part
invariant-loop-part l = shadow (Utf8 l.pattern) × shadow (Utf8 l.text)
    × Onwards l.escape (chars l.fn.pattern) (chars l.fn.text) (chars l.pattern) (chars l.text)
    × (length l.pattern ≤ length l.fn.pattern) × (length l.text ≤ length l.fn.text)

abbrev pub decreases-loop-part : goal.decreases-loop-part
decreases-loop-part l = length l.pattern
