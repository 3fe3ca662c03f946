use Rattle.std.proofs.Common.{◌≡◌, drop}
use Rattle.message_core.specs.Spelling.{value_of}
use Rattle.message_core.proofs.messages.Message.header.Given as goal

abbrev pub invariant-loop-header : goal.invariant-loop-header
invariant-loop-header l = value_of l.name l.self.headers ≡ value_of l.name (drop l.header-index l.self.headers)
