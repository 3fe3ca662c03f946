use Rattle.std.proofs.Common.{Err, Ok, codes}
use Rattle.std.specs.Fmt.{decimal}
use Rattle.outside_io.specs.declared.outside.Failed.{Failed}
use Rattle.outside_io.proofs.Says.{says_then}
use Rattle.outside_io.proofs.Saying.{cut_third, then_third}
use Rattle.journal_commands.proofs.journal_telling.say_end.Goals as goal

pub returns-in_err-say_number : goal.returns-in_err-say_number
returns-in_err-say_number g c =
    let e = c.in_err-say_number.field-0.0 in
    cut_third _ e _ _ _ _ c.args.text.now (decimal c.args.number) (codes "\n") c.from_residual-in_err-say_number.ensures.0
    (says_then {E = Failed} (record {}) (Err e) _ _ _ _ _ _ c.args.text.now (decimal c.args.number) c.in_ok-write_all.ensures.says c.in_err-say_number.ensures)

pub returns : goal.returns
returns g c =
    then_third _ _ _ _ _ _ _ _ c.args.text.now (decimal c.args.number) (codes "\n")
    (says_then {E = Failed} (record {}) (Ok (record {})) _ _ _ _ _ _ c.args.text.now (decimal c.args.number) c.in_ok-write_all.ensures.says c.in_ok-say_number.ensures)
    c.write_all-2.ensures.says
