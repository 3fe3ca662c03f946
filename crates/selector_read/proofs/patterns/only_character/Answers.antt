use Rattle.std.proofs.Common.{ap, sym, ◌∙◌}
use Rattle.std.specs.Str.{chars}
use Rattle.selector_read.proofs.Characters.{only_character-none, only_character-one, only_character-more}
use Rattle.selector_read.proofs.patterns.only_character.Goals as goal

pub returns-in_err-first : goal.returns-in_err-first
returns-in_err-first c =
    c.from_residual.ensures ∙ sym (only_character-none c.chars-characters.result.rest.now c.args.bytes.now (ap chars c.chars-characters.ensures.rest ∙ c.as_text-text.ensures) c.in_err-first.ensures.steps.0.0)

pub returns-in-Some : goal.returns-in-Some
returns-in-Some c =
    sym (only_character-more c.chars-characters.result.rest.now c.args.bytes.now _ _ _ _ (rw c.chars-characters.ensures.rest c.as_text-text.utf8) (ap chars c.chars-characters.ensures.rest ∙ c.as_text-text.ensures) c.in_ok-first.ensures.steps.0 c.in-Some.ensures.steps.0)

pub returns-in-None : goal.returns-in-None
returns-in-None c =
    sym (only_character-one c.chars-characters.result.rest.now c.args.bytes.now _ _ (rw c.chars-characters.ensures.rest c.as_text-text.utf8) (ap chars c.chars-characters.ensures.rest ∙ c.as_text-text.ensures) c.in_ok-first.ensures.steps.0 c.in-None.ensures.steps.0.0)
