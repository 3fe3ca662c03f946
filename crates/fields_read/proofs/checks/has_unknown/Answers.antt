use Rattle.std.proofs.Common.{rules, tests, ◌∙◌, not}
use Rattle.std.specs.Prelude.{string_bytes}
use Rattle.std.proofs.lemmas.Iterator.Consumers.{YieldsList-from_rest}
use Rattle.std.proofs.lemmas.Iterator.Search.{any_from_yields_List}
use Rattle.fields_read.specs.Faults.{is_named}
use Rattle.fields_read.proofs.Entries.{unknown_of_object}
use Rattle.fields_read.proofs.checks.has_unknown.Goals as goal

pub returns-in-Some : goal.returns-in-Some
returns-in-Some c =
    any_from_yields_List (λ k. not (is_named (string_bytes k) c.args.known.now)) _ _ _ c.any.ensures.ran (YieldsList-from_rest _ c.keys.ensures.rest) (λ x b q k. search (rules, tests))
    ∙ unknown_of_object c.args.known.now c.in-Some.members.now.entries _ c.in-Some.ensures
