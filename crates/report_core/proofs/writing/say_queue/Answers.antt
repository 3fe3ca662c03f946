use Rattle.std.proofs.Common.{sym, ◌++◌, codes}
use Rattle.outside_io.proofs.Says.{says_then}
use Rattle.outside_io.proofs.Saying.{cut_second}
use Rattle.std.proofs.Common.{length}
use Rattle.report_core.specs.Texts.{bytes_of, depth_text}
use Rattle.report_core.proofs.writing.say_queue.Goals as goal

pub returns-in_err-write_all-2 : goal.returns-in_err-write_all-2
returns-in_err-write_all-2 g c =
    rw (sym c.as_slice.ensures)
    (says_then _ _ _ _ _ _ _ _ (codes "queue ") (c.as_slice.result.now ++ depth_text (length c.args.entries.now) (bytes_of c.args.entries.now)) c.in_ok-write_all.ensures.says
    (cut_second _ c.in_err-write_all-2.field-0.0 _ _ _ _ c.as_slice.result.now (depth_text (length c.args.entries.now) (bytes_of c.args.entries.now)) c.from_residual-in_err-write_all-2.ensures.0 c.in_err-write_all-2.ensures.says))

pub returns : goal.returns
returns g c =
    rw (sym c.as_slice.ensures, sym c.sum_of.ensures)
    (says_then _ _ _ _ _ _ _ _ (codes "queue ") (c.as_slice.result.now ++ depth_text (length c.args.entries.now) c.sum_of.result) c.in_ok-write_all.ensures.says
    (says_then _ _ _ _ _ _ _ _ c.as_slice.result.now (depth_text (length c.args.entries.now) c.sum_of.result) c.in_ok-write_all-2.ensures.says c.say_depth.ensures))

pub returns-in_err-write_all : goal.returns-in_err-write_all
returns-in_err-write_all g c =
    cut_second _ c.in_err-write_all.field-0.0 _ _ _ _ (codes "queue ") (c.args.name.now ++ depth_text (length c.args.entries.now) (bytes_of c.args.entries.now))
    c.from_residual.ensures.0 c.in_err-write_all.ensures.says
