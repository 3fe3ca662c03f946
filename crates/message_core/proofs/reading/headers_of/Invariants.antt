use Rattle.std.proofs.Common.{◌≡◌, ◌-◌, []}
use Rattle.message_core.specs.Names.{Holds}
use Rattle.message_core.specs.Reading.{headers_at}
use Rattle.message_core.specs.Spelling.{names}
use Rattle.message_core.proofs.HeaderLoop.{with_front}
use Rattle.message_core.proofs.reading.headers_of.Given as goal

abbrev pub invariant-loop : goal.invariant-loop
invariant-loop l = record {
  holds : Holds l.taken (names l.headers.items);
  so_far : with_front l.headers.items (headers_at (l.count - l.counter) (names l.headers.items) l.rest) ≡ headers_at l.count [] l.bytes;
}
