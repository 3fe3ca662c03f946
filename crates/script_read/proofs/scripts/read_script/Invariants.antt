use Rattle.std.proofs.Common.{◌≡◌, ◌+◌, ◌≤◌, List, length}
use Rattle.defs_read.specs.Defined.{queues_in}
use Rattle.script_read.specs.Lines.{lines_of, numbered}
use Rattle.script_read.specs.Scripts.{script_after, script_of}
use Rattle.script_read.specs.SoFar.{Tracks}
use Rattle.script_read.specs.declared.lines.Line.{Line}
use Rattle.script_read.proofs.scripts.read_script.Given as goal

-- some lines were read, and what the script says is what the rest says behind them
abbrev pub invariant-reading : goal.invariant-reading
invariant-reading l = record {
  before : List Line;
  tracks : Tracks l.so_far before;
  further : script_of (queues_in l.defs) l.journal l.from l.bytes ≡ script_after (queues_in l.defs) l.journal before (numbered l.line (lines_of l.rest));
  budget : l.line + length l.rest ≤ l.from + length l.bytes;
}

abbrev pub decreases-reading : goal.decreases-reading
decreases-reading l = length l.rest
