use Rattle.std.proofs.Common.{◌≤◌, length}
use Rattle.selector_tokens.proofs.Quotes.{SoFar}
use Rattle.selector_tokens.proofs.strings.string_of.Given as goal

abbrev pub decreases-loop-plain : goal.decreases-loop-plain
decreases-loop-plain l = length l.rest

abbrev pub invariant-loop-plain : goal.invariant-loop-plain
invariant-loop-plain l = record {
  within : length l.rest ≤ length l.behind;
  so_far : SoFar l.says.items l.rest l.behind;
}
