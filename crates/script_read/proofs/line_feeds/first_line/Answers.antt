use Rattle.std.proofs.Common.{subst, add-one}
use Rattle.std.proofs.lemmas.List.{take_rest}
use Rattle.std.proofs.Math.Seq.{drop-length}
use Rattle.memchr.specs.Find.{IsFirstByte}
use Rattle.script_read.proofs.LineFeeds.{is_feed, line_at, line_all}
use Rattle.script_read.proofs.line_feeds.first_line.Goals as goal

pub returns-in-Some-clause-lines : goal.returns-in-Some-clause-lines
returns-in-Some-clause-lines c = rw (take_rest, add-one) (line_at c.args.bytes.now c.in-Some.end (subst (IsFirstByte is_feed c.args.bytes.now) c.in-Some.is c.line_end.ensures))

pub returns-in-None-clause-lines : goal.returns-in-None-clause-lines
returns-in-None-clause-lines c = rw (take_rest, drop-length) (line_all c.args.bytes.now c.requires (subst (IsFirstByte is_feed c.args.bytes.now) c.in-None.is c.line_end.ensures))
