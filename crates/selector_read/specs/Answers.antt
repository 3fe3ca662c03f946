-- What `read` answers of a text.
use Rattle.std.specs.Prelude.{◌≡◌, ℕ, List, Result, Ok, Err, ⊤}
use Rattle.selector_tokens.specs.declared.faults.SelectorFault.{SelectorFault}
use Rattle.selector_tokens.specs.declared.faults.SelectorFault.TheVariants.{Bad, NoMemory}
use Rattle.selector_read.specs.Trees.{Tree}
use Rattle.selector_read.specs.Selectors.{Outcome, reads, refused, IsOutcome}

-- the selector that the text is, or its first fault; want of memory may come in place of either
abbrev pub Reads : Result Tree SelectorFault → Outcome → Type 0
Reads (Ok t) outcome = outcome ≡ reads t
Reads (Err (Bad at kind)) outcome = outcome ≡ refused at kind
Reads (Err NoMemory) outcome = ⊤

-- the same by the grammar: the text derives the tree, or has this first fault
abbrev pub Means : List ℕ → Result Tree SelectorFault → Type 0
Means text (Ok t) = IsOutcome text (reads t)
Means text (Err (Bad at kind)) = IsOutcome text (refused at kind)
Means text (Err NoMemory) = ⊤
