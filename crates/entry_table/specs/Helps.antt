-- helps of tails
use Rattle.std.specs.Prelude.{◌≡◌, ℕ, ◌<◌, ◌≤◌, ◌==◌, if◌then◌else◌, Some, List, [], ◌∷◌, ◌++◌}
use Rattle.atomic_table.specs.Table.{Me}
use Rattle.queue_model.specs.declared.deeds.Deed.{Deed}
use Rattle.queue_model.specs.declared.queues.Queue.{Queue}
use Rattle.queue_model.specs.declared.rows.Row.{Row}
use Rattle.queue_model.specs.declared.steps.Node.{Node}
use Rattle.queue_model.specs.declared.steps.Node.TheVariants as nodes
use Rattle.queue_model.specs.declared.steps.Step.TheVariants as steps
use Rattle.queue_model.specs.Packing.{pack_node}
use Rattle.queue_model.specs.State.{row_at, list_at, place_at}
use Rattle.entry_table.specs.declared.view.View.{View}
use Rattle.entry_table.specs.Views.{entry}
use Rattle.entry_table.specs.Plays.{IsKnown, list_at_node, place_at_node, Went}

-- A tail may move from a node that is known to a known later row of its list.
pub record Helpable (q : Queue) (l : ℕ) (from : Node) (r : ℕ) : Type 0 where
  pub list : l < q.lists
  pub known : IsKnown q from
  pub from_list : list_at_node q from ≡ l
  pub there : (x : Row) × (row_at q r ≡ Some x)
  pub row_list : list_at q r ≡ l
  pub later : place_at_node q from ≤ place_at q r

-- the node is a row and no head
abbrev pub HelpableTo : Queue → ℕ → Node → Node → Type 0
HelpableTo q l from (nodes.Head m) = ⊥
HelpableTo q l from (nodes.Row r) = Helpable q l from r

-- what the tail word becomes where it was n
abbrev pub tail_after : ℕ → Node → Node → ℕ
tail_after n from to = if n == pack_node from then pack_node to else n

-- the view after a help that found n
abbrev pub help_view : View → ℕ → Node → Node → ℕ → List Deed → View
help_view v l from to n seen = record v { told = []; seen = seen; shown = v.shown ++ entry (steps.HelpTail l from to) n (tail_after n from to) seen ∷ [] }

abbrev pub helped : {S : Type 0} → ℕ → Node → Node → Me S View → ℕ → Me S View → Type 0
helped l from to m n m' = (m'.1 ≡ m.1) × Went m.0 m'.0 [] × (m'.0 ≡ help_view m.0 l from to n m'.0.seen)
