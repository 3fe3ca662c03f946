use Rattle.std.proofs.Common.{◌++◌, ℕ, List, Err, Ok, codes}
use Rattle.std.specs.Fmt.{decimal}
use Rattle.outside_io.specs.declared.outside.Failed.{Failed}
use Rattle.outside_io.proofs.Says.{says_then}
use Rattle.outside_io.proofs.Saying.{cut_second, cut_third, then_third}
use Rattle.journal_commands.proofs.journal_telling.say_counts.Goals as goal

-- what stands behind the number of commits
abbrev rest : ℕ → List ℕ
rest entries = codes " entries " ++ (decimal entries ++ codes "\n")

pub returns-in_err-write_all : goal.returns-in_err-write_all
returns-in_err-write_all g c =
    cut_second _ c.in_err-write_all.field-0.0 _ _ _ _ (codes "commits ") (decimal c.args.commits ++ rest c.args.entries) c.from_residual.ensures.0 c.in_err-write_all.ensures.says

pub returns-in_err-say_number : goal.returns-in_err-say_number
returns-in_err-say_number g c =
    let e = c.in_err-say_number.field-0.0 in
    cut_third _ e _ _ _ _ (codes "commits ") (decimal c.args.commits) (rest c.args.entries) c.from_residual-in_err-say_number.ensures.0
    (says_then {E = Failed} (record {}) (Err e) _ _ _ _ _ _ (codes "commits ") (decimal c.args.commits) c.in_ok-write_all.ensures.says c.in_err-say_number.ensures)

pub returns : goal.returns
returns g c =
    then_third _ _ _ _ _ _ _ _ (codes "commits ") (decimal c.args.commits) (rest c.args.entries)
    (says_then {E = Failed} (record {}) (Ok (record {})) _ _ _ _ _ _ (codes "commits ") (decimal c.args.commits) c.in_ok-write_all.ensures.says c.in_ok-say_number.ensures)
    c.say_end.ensures
