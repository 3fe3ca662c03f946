use Rattle.std.proofs.Common.{rules, tests, ◌∙◌}
use Rattle.std.proofs.lemmas.Iterator.Consumers.{YieldsList-from_rest}
use Rattle.std.proofs.lemmas.Iterator.Search.{any_from_yields_List}
use Rattle.serde_json.specs.View.{view}
use Rattle.fields_read.specs.Json.{is_float_number}
use Rattle.fields_read.proofs.Entries.{any_of_object}
use Rattle.fields_read.proofs.forms.has_float_member.Goals as goal

pub returns-in-Some : goal.returns-in-Some
returns-in-Some c =
    any_from_yields_List (λ v. is_float_number (view v)) _ _ _ c.any.ensures.ran (YieldsList-from_rest _ c.values.ensures.rest) (λ x b q k. search (rules, tests))
    ∙ any_of_object is_float_number c.in-Some.members.now.entries _ c.in-Some.ensures
