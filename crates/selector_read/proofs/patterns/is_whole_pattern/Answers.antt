use Rattle.selector_read.proofs.Characters.{next_may_escape, next_is_escaped}
use Rattle.selector_read.proofs.patterns.is_whole_pattern.Goals as goal

pub loop-character-preserved-then-not-escapes : goal.loop-character-preserved-then-not-escapes
loop-character-preserved-then-not-escapes c =
    next_may_escape c.loop-character.escapes c.args.escape c.in-Some.character c.loop-character.character-iterator.rest.now c.next.new.self.rest.now _ c.if-not-escapes.true c.loop-character.invariant c.in-Some.ensures.steps.0

pub loop-character-preserved : goal.loop-character-preserved
loop-character-preserved c =
    next_is_escaped c.loop-character.escapes c.args.escape c.in-Some.character c.loop-character.character-iterator.rest.now c.next.new.self.rest.now _ c.if-not-escapes.false c.loop-character.invariant c.in-Some.ensures.steps.0
