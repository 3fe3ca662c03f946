use Rattle.std.proofs.Common.{take}
use Rattle.std.specs.List.{IsDistinct}
use Rattle.std.specs.Str.{bytes_eq}
use Rattle.message_core.specs.Names.{Holds}
use Rattle.message_core.specs.Spelling.{names}
use Rattle.message_core.proofs.names.has_double.Given as goal

abbrev pub invariant-loop-header : goal.invariant-loop-header
invariant-loop-header l = record {
  holds : Holds l.taken (names (take l.header-index l.headers));
  distinct : IsDistinct bytes_eq (names (take l.header-index l.headers));
}
