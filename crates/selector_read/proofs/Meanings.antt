-- What `read` answers, by the grammar.
use Rattle.std.specs.Prelude.{◌≡◌, ℕ, List, Ok, Err}
use Rattle.selector_tokens.specs.declared.faults.SelectorFault.{SelectorFault}
use Rattle.selector_tokens.specs.declared.faults.SelectorFault.TheVariants.{Bad, NoMemory}
use Rattle.selector_read.specs.Answers.{Means}
use Rattle.selector_read.specs.Modes.{ReadsAs}
use Rattle.selector_read.specs.Reading.{selector_of}
use Rattle.selector_read.specs.Selectors.{IsWritable, reads, refused}
use Rattle.selector_read.specs.Trees.{Tree}
use Rattle.selector_read.proofs.Outcomes.{selector_of_means}

-- the fault that a text has
pub refusal_means : (text : List ℕ) (e : SelectorFault) → ReadsAs (Err e) (selector_of text) → Means text (Err e)
refusal_means text (Bad at kind) said = selector_of_means text (refused at kind) said
refusal_means text NoMemory said = tt

-- the tree that a text stands for
pub reading_means : (text : List ℕ) (t : Tree) → selector_of text ≡ reads t → Means text (Ok t)
reading_means text t said = selector_of_means text (reads t) said

pub writable : (text : List ℕ) (t : Tree) → selector_of text ≡ reads t → IsWritable t
writable text t said = (text, selector_of_means text (reads t) said)
