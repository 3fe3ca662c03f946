use Rattle.std.proofs.Common.{◌≤◌, length}
use Rattle.command_line.proofs.Numbering.{Reads}
use Rattle.command_line.proofs.numbers.number_of.Given as goal

abbrev pub invariant-digits : goal.invariant-digits
invariant-digits l = record {
  reads : Reads l.digits l.digit-index l.number;
  few : length l.digits ≤ 19;
}
