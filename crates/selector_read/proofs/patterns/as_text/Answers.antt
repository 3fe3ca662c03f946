use Rattle.std.proofs.Common.{sym, ◌∙◌}
use Rattle.std.proofs.lemmas.Str.{chars-nil}
use Rattle.selector_read.proofs.Characters.{characters-utf8, characters-bytes}
use Rattle.selector_read.proofs.patterns.as_text.Goals as goal

pub returns-in-Ok : goal.returns-in-Ok
returns-in-Ok c = rw c.in-Ok.ensures.cases.0 (sym (characters-utf8 _ c.in-Ok.ensures.cases.1))

pub returns-in-Err : goal.returns-in-Err
returns-in-Err c = chars-nil ∙ sym (characters-bytes _ c.in-Err.ensures.cases.0)
