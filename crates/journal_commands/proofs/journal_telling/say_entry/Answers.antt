use Rattle.std.proofs.Common.{◌++◌, ℕ, List, Err, Ok, codes}
use Rattle.std.specs.Fmt.{decimal}
use Rattle.outside_io.specs.declared.outside.Failed.{Failed}
use Rattle.outside_io.proofs.Says.{says_then}
use Rattle.outside_io.proofs.Saying.{cut_second, cut_third, then_third}
use Rattle.journal_commands.proofs.journal_telling.say_entry.Goals as goal

-- what stands behind the queue's name
abbrev rest : ℕ → List ℕ
rest id = codes " " ++ (decimal id ++ codes "\n")

pub returns-in_err-write_all : goal.returns-in_err-write_all
returns-in_err-write_all g c =
    cut_second _ c.in_err-write_all.field-0.0 _ _ _ _ (codes "entry ") (c.args.entry.now.queue ++ rest c.args.entry.now.message.id) c.from_residual.ensures.0 c.in_err-write_all.ensures.says

pub returns-in_err-write_all-2 : goal.returns-in_err-write_all-2
returns-in_err-write_all-2 g c =
    let e = c.in_err-write_all-2.field-0.0 in
    cut_third _ e _ _ _ _ (codes "entry ") c.args.entry.now.queue (rest c.args.entry.now.message.id) c.from_residual-in_err-write_all-2.ensures.0
    (says_then {E = Failed} (record {}) (Err e) _ _ _ _ _ _ (codes "entry ") c.args.entry.now.queue c.in_ok-write_all.ensures.says (rw c.as_slice.ensures at c.in_err-write_all-2.ensures.says))

pub returns : goal.returns
returns g c =
    then_third _ _ _ _ _ _ _ _ (codes "entry ") c.args.entry.now.queue (rest c.args.entry.now.message.id)
    (says_then {E = Failed} (record {}) (Ok (record {})) _ _ _ _ _ _ (codes "entry ") c.args.entry.now.queue c.in_ok-write_all.ensures.says (rw c.as_slice.ensures at c.in_ok-write_all-2.ensures.says))
    (rw c.id.ensures at c.say_end.ensures)
