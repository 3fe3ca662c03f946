-- a text in memory, as a sink
use Rattle.std.specs.Prelude.{ℕ, ◌==◌, List, Option, Some, None, if◌then◌else◌}
use Rattle.outside_io.specs.Counts.{last_count}
use Rattle.broker_top.specs.declared.text.Text.{Text}

-- the bytes of the text; where its count of refusals is at its last value it tells nothing any more
abbrev pub written_of : Text → Option (List ℕ)
written_of t = if t.refusals == last_count then None else Some t.bytes.items
