use Rattle.std.proofs.Common.{rules, tests, arith}
use Rattle.std.proofs.lemmas.Iterator.{YieldsList-from_slice}
use Rattle.std.proofs.lemmas.Iterator.Search.{all_from_yields_List}
use Rattle.std.proofs.lemmas.Bool.Decides.{nat_tests}
use Rattle.fields_read.specs.Forms.{is_name_byte}
use Rattle.fields_read.proofs.forms.is_name_text.Goals as goal

pub returns-then-bytes-le-LONGEST_NAME : goal.returns-then-bytes-le-LONGEST_NAME
returns-then-bytes-le-LONGEST_NAME c =
    let all = all_from_yields_List is_name_byte _ _ c.all.result c.all.ensures.ran (YieldsList-from_slice c.args.text.now cc) (λ x b q k. search (rules, tests)) in
    grind (arith, nat_tests)
