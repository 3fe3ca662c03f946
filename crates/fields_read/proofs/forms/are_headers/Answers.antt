use Rattle.std.proofs.Common.{rules, tests, ◌∙◌}
use Rattle.std.proofs.lemmas.Iterator.Consumers.{YieldsList-from_rest}
use Rattle.std.proofs.lemmas.Iterator.Search.{all_from_yields_List}
use Rattle.serde_json.specs.View.{view}
use Rattle.fields_read.specs.Forms.{is_header}
use Rattle.fields_read.proofs.Entries.{all_of_object}
use Rattle.fields_read.proofs.forms.are_headers.Goals as goal

pub returns-in-Some : goal.returns-in-Some
returns-in-Some c =
    all_from_yields_List (λ v. is_header (view v)) _ _ _ c.all.ensures.ran (YieldsList-from_rest _ c.values.ensures.rest) (λ x b q k. search (rules, tests))
    ∙ all_of_object is_header c.in-Some.members.now.entries _ c.in-Some.ensures
