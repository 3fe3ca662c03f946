use Rattle.std.proofs.Common.{sym, ◌++◌, codes}
use Rattle.std.specs.Fmt.{decimal}
use Rattle.outside_io.proofs.Says.{says_then}
use Rattle.report_core.proofs.writing.say_front.Goals as goal

pub returns : goal.returns
returns g c =
    rw (sym c.as_slice.ensures)
    (says_then _ _ _ _ _ _ _ _ c.as_slice.result.now (codes " " ++ decimal c.args.line) c.in_ok-write_all.ensures.says c.say_then_number.ensures)
