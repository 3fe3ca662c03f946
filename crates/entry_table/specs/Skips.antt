-- links that are watched, and links that skip deleted rows
use Rattle.std.specs.Prelude.{◌≡◌, ◌≢◌, ℕ, suc, ◌<◌, Bool, true, false, Option, Some, None, List, [], ◌∷◌, ◌++◌}
use Rattle.atomic_table.specs.Table.{Me}
use Rattle.queue_model.specs.declared.deeds.Deed.{Deed}
use Rattle.queue_model.specs.declared.queues.Queue.{Queue}
use Rattle.queue_model.specs.declared.rows.Row.{Row}
use Rattle.queue_model.specs.declared.rows.RowState.TheVariants.{Deleted}
use Rattle.queue_model.specs.declared.steps.Node.{Node}
use Rattle.queue_model.specs.declared.steps.Step.{Step}
use Rattle.queue_model.specs.declared.steps.Step.TheVariants as steps
use Rattle.queue_model.specs.History.{after}
use Rattle.queue_model.specs.State.{row_at, list_at, place_at, IsIn}
use Rattle.acts_core.specs.Walks.{AreDeleted}
use Rattle.entry_table.specs.declared.pass.Pass.{Pass}
use Rattle.entry_table.specs.declared.view.View.{View}
use Rattle.entry_table.specs.declared.view.Watched.{Watched}
use Rattle.entry_table.specs.Passes.{view}
use Rattle.entry_table.specs.Plays.{IsKnown, Shows, Went}
use Rattle.entry_table.specs.Rule.{MovesOn}
use Rattle.entry_table.specs.Views.{entry}

-- the word of a link that names this row, or none
abbrev pub link_word : Option ℕ → ℕ
link_word None = 0
link_word (Some r) = suc r

-- Watches

-- the link that the pass watches
abbrev pub watched : Pass → Option Watched
watched p = (view p).watched

-- the link of a node, when it was this word
abbrev pub watch_of : Node → ℕ → Option Watched
watch_of node n = Some (record { node = node; link = n })

-- Since the view v watched the link of the node it moved on at most, to the word n.
abbrev pub WentOn : View → Node → ℕ → View → Type 0
WentOn v node n w = (k : ℕ) → v.watched ≡ watch_of node k → MovesOn (after v.opening w.seen) k n

-- The step changed the link of the node from one word to another, and the pass watches it from then on.
pub record Rewatches (v w : View) (node : Node) (step : Step) (before now : ℕ) : Type 0 where
  pub watched : w.watched ≡ watch_of node now
  pub shown : w.shown ≡ v.shown ++ entry step before now w.seen ∷ []

-- The step showed the link n of the node, and changed nothing.
pub record Watching (v w : View) (node : Node) (step : Step) (n : ℕ) : Type 0 where
  pub shows : Shows step n (after v.opening w.seen)
  pub onward : WentOn v node n w
  pub watches : Rewatches v w node step n n

-- the view after a step on the link of a node, which the pass watches from then on
abbrev pub watched_view : View → Node → Step → ℕ → ℕ → List Deed → View
watched_view v node step before now seen = record v { told = []; watched = watch_of node now; seen = seen; shown = v.shown ++ entry step before now seen ∷ [] }

-- a load of the link of a node, or an exchange that showed another link than the expected one
abbrev pub watching : {S : Type 0} → Node → Step → Me S View → ℕ → Me S View → Type 0
watching node step m n m' = (m'.1 ≡ m.1) × Went m.0 m'.0 [] × Shows step n (after m.0.opening m'.0.seen) × WentOn m.0 node n m'.0 × (m'.0 ≡ watched_view m.0 node step n n m'.0.seen)

-- Unlinks

-- The link of a node that is known may move from a deleted row to a later one of its list: each row between is deleted.
pub record Unlinkable (q : Queue) (node : Node) (from to : ℕ) : Type 0 where
  pub known : IsKnown q node
  pub gone : IsIn q from Deleted
  pub there : (x : Row) × (row_at q to ≡ Some x)
  pub list : list_at q to ≡ list_at q from
  pub later : place_at q from < place_at q to
  pub between : AreDeleted q (list_at q from) (suc (place_at q from)) (place_at q to)

-- an exchange of the link of a node for a later row
abbrev pub unlinking : {S : Type 0} → Node → ℕ → ℕ → Me S View → ℕ → Me S View → Type 0
unlinking node from to m n m' =
    (n ≡ suc from → (m'.1 ≡ m.1) × Went m.0 m'.0 [] × (m'.0 ≡ watched_view m.0 node (steps.Unlink node from to) (suc from) (suc to) m'.0.seen))
    × (n ≢ suc from → watching node (steps.Unlink node from to) m n m')

-- The link was the word n, and moved on where it named the deleted row.
abbrev pub Moves : View → View → Node → ℕ → ℕ → ℕ → Type 0
Moves v w node from to n =
    (n ≡ suc from → Rewatches v w node (steps.Unlink node from to) (suc from) (suc to))
    × (n ≢ suc from → Watching v w node (steps.Unlink node from to) n)

-- True: the link named the deleted row, and moved on. False: it named another row.
abbrev pub Unlinks : View → View → Node → ℕ → ℕ → Bool → Type 0
Unlinks v w node from to true = Rewatches v w node (steps.Unlink node from to) (suc from) (suc to)
Unlinks v w node from to false = (n : ℕ) × (n ≢ suc from) × Watching v w node (steps.Unlink node from to) n
