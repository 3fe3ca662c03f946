use Rattle.std.proofs.Common.{◌≡◌, ◌-◌}
use Rattle.journal_format.specs.Reading.{many_at, item_at}
use Rattle.journal_format.proofs.ManyLoop.{with_front}
use Rattle.journal_format.proofs.reading.items_of.Given as goal

abbrev pub invariant-loop : goal.invariant-loop
invariant-loop l = with_front l.items.items (many_at item_at (l.count - l.counter) l.rest) ≡ many_at item_at l.count l.bytes
