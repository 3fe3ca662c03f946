-- the law of lists of steps, and what it is made of; each is proved as the contract of a function in src/laws.rt
use Rattle.std.specs.Prelude.{◌≡◌, ◌⊎◌, ℕ, suc, ◌<◌, ◌≤◌, slice_index, List, [], ◌∷◌, ◌++◌}
use Rattle.std.specs.List.{AllByRecursion}
use Rattle.queue_model.specs.Table.{most_entries}
use Rattle.queue_model.specs.declared.queues.Queue.{Queue}
use Rattle.queue_model.specs.declared.rows.Row.{Row}
use Rattle.queue_model.specs.declared.rows.RowState.TheVariants.{Deleted}
use Rattle.queue_model.specs.declared.steps.Step.{Step}
use Rattle.queue_model.specs.History.{after, Legal}
use Rattle.queue_model.specs.State.{empty, rows_of}
use Rattle.link_core.specs.Fresh.{fresh}
use Rattle.link_core.specs.Layout.{head_of, row_link_of}
use Rattle.link_core.specs.Stands.{Points, Stands}
use Rattle.link_core.specs.Steps.{Fits, moved, deed, AllFit, all_moved, all_deeds}
use Rattle.link_core.specs.Table.{Table}

-- The words of a fresh table stand for an empty queue.
abbrev pub FreshLaw : Type 0
FreshLaw = (lists rows consumers callers : ℕ) → rows ≤ most_entries → consumers ≤ 64 → callers ≤ 4294967296 → Stands (fresh lists rows consumers callers) (empty lists consumers)

-- Where the words stand for a state, the deed of a step that fits is legal there, and the words afterwards stand for
-- the state after it.
abbrev pub StepLaw : Type 0
StepLaw = (t : Table) (q : Queue) (h : ℕ) (step : Step) → Stands t q → Fits t h step → Legal q (deed t h step) × Stands (moved t h step) (after q (deed t h step))

-- After every list of steps that fit, from a fresh table on, the deeds of the steps are a legal history, and the words
-- stand for the state after it.
abbrev pub Law : Type 0
Law = (lists rows consumers callers : ℕ) (steps : List (ℕ × Step)) → rows ≤ most_entries → consumers ≤ 64 → callers ≤ 4294967296
    → AllFit (fresh lists rows consumers callers) steps
    → Legal (empty lists consumers) (all_deeds (fresh lists rows consumers callers) steps)
    × Stands (all_moved (fresh lists rows consumers callers) steps) (after (empty lists consumers) (all_deeds (fresh lists rows consumers callers) steps))

-- A link that points as it should is empty where no row stands behind it. Else it names one of the rows behind it, and
-- each row before that one is deleted.
abbrev pub LinkNames : Type 0
LinkNames = (w : ℕ) (rows : List Row) → Points w rows
    → ((w ≡ 0) × (rows ≡ [])) ⊎ ((front : List Row) × (x : Row) × (back : List Row) × (rows ≡ front ++ x ∷ back) × AllByRecursion (λ y. y.state ≡ Deleted) front × (w ≡ suc x.number))

-- Where the words stand for a state, the link of each list's head, and that of each row, point into the rows behind it.
abbrev pub LinksPoint : Type 0
LinksPoint = (t : Table) (q : Queue) → Stands t q
    → ((l : ℕ) → l < t.lists → Points (slice_index t.words (head_of t.rows l)) (rows_of q l))
    × ((l : ℕ) (front : List Row) (x : Row) (back : List Row) → l < t.lists → rows_of q l ≡ front ++ x ∷ back → Points (slice_index t.words (row_link_of x.number)) back)
