use Rattle.std.proofs.Common.{◌≡◌, ◌++◌, ◌≤◌, take}
use Rattle.std.specs.List.{flat_map}
use Rattle.message_core.specs.Spelling.{header_bytes}
use Rattle.message_core.proofs.writing.put_headers.Given as goal

abbrev pub invariant-loop-header : goal.invariant-loop-header
invariant-loop-header l = record {
  bytes : l.into.bytes ≡ l.fn.into.bytes ++ flat_map header_bytes (take l.header-index l.headers);
  room : l.fn.into.room ≤ l.into.room;
}
