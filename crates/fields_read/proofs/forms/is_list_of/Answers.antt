use Rattle.std.proofs.Common.{arith, ◌∙◌, ◌≤◌}
use Rattle.std.proofs.lemmas.Bool.Decides.{nat_tests}
use Rattle.fields_read.proofs.Entries.{list_within}
use Rattle.fields_read.proofs.forms.is_list_of.Goals as goal

pub returns-then-not-is_empty : goal.returns-then-not-is_empty
returns-then-not-is_empty c =
    let some : 1 ≤ c.len.result = grind (arith, nat_tests) in
    list_within c.in-Some.items.now.items c.len.result _ c.args.most c.in-Some.ensures (c.len.ensures ∙ c.in-Some.items.now.ok.0) some
