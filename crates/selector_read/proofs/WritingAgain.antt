-- The text of a selector is read as that selector.
use Rattle.std.proofs.Common.{◌≡◌, ℕ, ◌≤◌, List, length}
use Rattle.selector_read.specs.Trees.{Tree}
use Rattle.selector_read.specs.Selectors.{reads, longest_text, IsWritable}
use Rattle.selector_read.specs.Reading.{selector_of}
use Rattle.selector_read.specs.Writing.{text_at}
use Rattle.selector_read.proofs.Outcomes.{one_outcome}
use Rattle.selector_read.proofs.WritingTrees.{writable_stands}

pub read_again : (bytes : List ℕ) (t : Tree) → IsWritable t → bytes ≡ text_at 1 t → length bytes ≤ longest_text → selector_of bytes ≡ reads t
read_again bytes t writable e short = one_outcome bytes (reads t) (record { short = short; stands = writable_stands bytes t writable e })
