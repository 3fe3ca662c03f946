-- marks and counts
use Rattle.std.specs.Prelude.{◌≡◌, ℕ, Some, List, [], ◌∷◌, ◌++◌}
use Rattle.atomic_table.specs.Table.{Me}
use Rattle.queue_model.specs.declared.deeds.Deed.{Deed}
use Rattle.queue_model.specs.declared.queues.Queue.{Queue}
use Rattle.queue_model.specs.declared.steps.Step.{Step}
use Rattle.queue_model.specs.State.{place_at}
use Rattle.acts_core.specs.Walks.{IsOfList}
use Rattle.entry_table.specs.declared.view.View.{View}
use Rattle.entry_table.specs.Plays.{Went}
use Rattle.entry_table.specs.Views.{entry}

-- a row of list l has this place
abbrev pub HasPlace : Queue → ℕ → ℕ → Type 0
HasPlace q l place = (r : ℕ) × IsOfList q l r × (place_at q r ≡ place)

-- the view after a step that changed a word from one number to another, and nothing else
abbrev pub stepped_view : View → Step → ℕ → ℕ → List Deed → View
stepped_view v step before now seen =
    record v { told = []; seen = seen; shown = v.shown ++ entry step before now seen ∷ [] }

-- the step showed a word, which became this number
abbrev pub stepped : {S : Type 0} → Step → ℕ → Me S View → ℕ → Me S View → Type 0
stepped step now m n m' =
    (m'.1 ≡ m.1) × Went m.0 m'.0 [] × (m'.0 ≡ stepped_view m.0 step n now m'.0.seen)
