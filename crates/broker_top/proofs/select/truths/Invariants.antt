use Rattle.std.proofs.Common.{◌≡◌, ◌+◌, ◌≤◌, ◌++◌, ℕ, List, [], Some, length}
use Rattle.message_core.specs.Spelling.{Content}
use Rattle.outside_io.specs.Told.{Adds}
use Rattle.script_read.specs.Lines.{lines_of, numbered}
use Rattle.broker_top.specs.Select.{AreMessages, truths}
use Rattle.broker_top.specs.Text.{written_of}
use Rattle.broker_top.proofs.select.truths.Given as goal

-- the lines before are messages, and the text so far tells the truth of each
abbrev pub invariant-reading : goal.invariant-reading
invariant-reading l = record {
  before : List (ℕ × List ℕ);
  messages : List Content;
  cut : numbered 1 (lines_of l.input) ≡ before ++ numbered l.line (lines_of l.rest);
  passed : AreMessages before messages;
  told : Adds (Some []) (written_of l.text) (truths l.selector messages);
  counted : l.line + length l.rest ≤ 1 + length l.input;
}

abbrev pub decreases-reading : goal.decreases-reading
decreases-reading l = length l.rest
