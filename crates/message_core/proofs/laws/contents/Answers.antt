use Rattle.std.proofs.Common.{[], sym, ◌∙◌}
use Rattle.std.proofs.lemmas.List.{append-nil}
use Rattle.message_core.specs.Spelling.{content}
use Rattle.message_core.proofs.Whole.{content_first, message_again}
use Rattle.message_core.proofs.laws.contents.Goals as goal

pub returns-clause-first : goal.returns-clause-first
returns-clause-first c = content_first

pub returns-clause-no_prefix : goal.returns-clause-no_prefix
returns-clause-no_prefix c = λ m n more is in' e. sym (content_first n m [] more in' is (append-nil (content n) ∙ e)).1

pub returns-clause-round_trip : goal.returns-clause-round_trip
returns-clause-round_trip c = message_again
