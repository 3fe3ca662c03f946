use Rattle.std.proofs.Common.{◌≡◌, map}
use Rattle.std.specs.List.{All}
use Rattle.message_core.specs.Spelling.{IsReadable}
use Rattle.script_read.proofs.Contents.{header_of}
use Rattle.script_read.proofs.messages.headers_of.Given as goal

abbrev pub invariant-loop-name : goal.invariant-loop-name
invariant-loop-name l = record {
  items : l.headers.items ≡ map header_of l.yielded;
  readable : All IsReadable l.headers.items;
}
