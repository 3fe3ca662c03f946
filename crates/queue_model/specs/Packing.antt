-- how what a word of a linked queue stands for is packed into a number
use Rattle.std.specs.Prelude.{ℕ, ◌+◌, ◌*◌, suc, Option, Some, None}
use Rattle.queue_model.specs.declared.limits.TheConstants.{ENTRY_WORTH, NO_BELL, PLACE_WORTH}
use Rattle.queue_model.specs.declared.queues.Bell as ring
use Rattle.queue_model.specs.declared.rows.RowState.{RowState}
use Rattle.queue_model.specs.declared.rows.RowState.TheVariants.{Available, Locked, Unlocked, Dequeued, Deleted}
use Rattle.queue_model.specs.declared.steps.Node.{Node}
use Rattle.queue_model.specs.declared.steps.Node.TheVariants as nodes

-- the word of a state; 0 is the word of none
abbrev pub pack_state : RowState → ℕ
pack_state Available = 1
pack_state Dequeued = 2
pack_state Deleted = 3
pack_state (Locked h) = 8 * h + 4
pack_state (Unlocked h) = 8 * h + 5

-- the word of a tail that is this node
abbrev pub pack_node : Node → ℕ
pack_node (nodes.Head l) = 0
pack_node (nodes.Row r) = suc r

-- the word of a bell that is not rung
abbrev pub no_bell : ℕ
no_bell = NO_BELL

-- the word of a bell; None where it is silent
abbrev pub pack_bell : Option ring.Bell → ℕ
pack_bell None = no_bell
pack_bell (Some b) = b.place * PLACE_WORTH + b.row

-- the worth of an entry in the word of the depth; bytes count one each
abbrev pub entry_worth : ℕ
entry_worth = ENTRY_WORTH

-- the word of a depth of so many entries and bytes
abbrev pub pack_depth : ℕ → ℕ → ℕ
pack_depth entries bytes = entries * entry_worth + bytes
