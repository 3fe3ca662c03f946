use Rattle.std.proofs.Common.{◌≡◌}
use Rattle.std.specs.Str.{IsUtf8, chars}
use Rattle.selector_read.specs.Grammar.{characters, is_closed}
use Rattle.selector_read.proofs.Characters.{closed_behind}
use Rattle.selector_read.proofs.patterns.is_whole_pattern.Given as goal

abbrev pub invariant-loop-character : goal.invariant-loop-character
invariant-loop-character l =
    IsUtf8 l.character-iterator.rest.now
    × (closed_behind l.escapes l.escape (chars l.character-iterator.rest.now) ≡ is_closed l.escape (characters l.pattern))
