-- lists that were scavenged
use Rattle.std.specs.Prelude.{◌≡◌, ◌≢◌, ◌⊎◌, ℕ, suc, ◌<◌, ◌≤◌, max, Some, List, [], ◌∷◌, ◌++◌}
use mathlib.Core.List.{IsPrefix}
use Rattle.queue_model.specs.declared.deeds.Deed.{Deed}
use Rattle.queue_model.specs.declared.rows.Row.{Row}
use Rattle.queue_model.specs.declared.rows.RowState.TheVariants.{Deleted}
use Rattle.queue_model.specs.declared.steps.DraftWord.{DraftWord}
use Rattle.queue_model.specs.declared.steps.Step.TheVariants as steps
use Rattle.queue_model.specs.declared.steps.Tried.{Tried}
use Rattle.queue_model.specs.declared.steps.WordName.TheVariants as names
use Rattle.queue_model.specs.History.{after}
use Rattle.queue_model.specs.State.{row_at, place_at}
use Rattle.acts_core.specs.Walks.{node_at, reach, IsOfList}
use Rattle.entry_table.specs.declared.pass.Pass.{Pass}
use Rattle.entry_table.specs.Passes.{opening, seen, state}
use Rattle.entry_table.specs.Views.{entry}
use Rattle.scavenge_core.specs.Shown.{link_after, counted}
use Rattle.scavenge_core.specs.Skips.{Tries, EndShown, WasLive}

-- Along the links that were last shown, one comes from stop w of list l to these rows in turn. Each was live at some
-- moment in between.
abbrev pub Visits : Pass → Pass → List Tried → ℕ → ℕ → List ℕ → Type 0
Visits old new added l w [] = Unit {0}
Visits old new added l w (r ∷ rows) =
    (link_after (node_at l w) added ≡ Some (suc r)) × IsOfList (state new) l r × (reach (state new) w ≤ place_at (state new) r)
    × WasLive old new r × Visits old new added l (suc r) rows

-- the stop at the last of the rows
abbrev pub last_stop : ℕ → List ℕ → ℕ
last_stop w [] = w
last_stop w (r ∷ rows) = last_stop (suc r) rows

-- the mark of the list was the first that was shown
pub record MarkShown (added : List Tried) (l mark : ℕ) : Type 0 where
  pub first : Tried
  pub rest : List Tried
  pub added_is : added ≡ first ∷ rest
  pub step : first.step ≡ steps.Load (names.Mark l)
  pub before : first.before ≡ mark

-- The links of list l, from its head on, visit live rows alone, up to a row at the mark that was shown or behind it, or
-- up to an end.
pub record Scavenged (old new : Pass) (l : ℕ) : Type 0 where
  pub added : List Tried
  pub tries : Tries old new added
  pub mark : ℕ
  pub marked : MarkShown added l mark
  pub countless : counted added ≡ []
  pub rows : List ℕ
  pub visits : Visits old new added l 0 rows
  pub end : (mark < reach (state new) (last_stop 0 rows)) ⊎ EndShown new added l (last_stop 0 rows)

-- the links so far, of a list that is being scavenged
pub record Scavenging (old now : Pass) (l mark w : ℕ) : Type 0 where
  pub added : List Tried
  pub tries : Tries old now added
  pub marked : MarkShown added l mark
  pub countless : counted added ≡ []
  pub rows : List ℕ
  pub visits : Visits old now added l 0 rows
  pub last : last_stop 0 rows ≡ w

-- Deletions

-- a draft word was loaded, and nothing else was done
abbrev pub LooksUp : Pass → Pass → Type 0
LooksUp old new = (r : ℕ) × (w : DraftWord) × (n : ℕ) × Tries old new (entry (steps.Load (names.Draft r w)) n n (seen new) ∷ [])

-- The row's list, its mark and its count were told of a deleted row: the mark was raised to the row's place, and the
-- count showed the number n.
pub record Noted (old new : Pass) (l row n : ℕ) : Type 0 where
  pub added : List Tried
  pub tries : Tries old new added
  pub there : IsOfList (state new) l row
  pub front : List Tried
  pub mark : Tried
  pub back : List Tried
  pub marks : added ≡ front ++ mark ∷ back
  pub raised : (mark.step ≡ steps.Mark l (place_at (state new) row)) × (mark.later ≡ max mark.before (place_at (state new) row))
  pub counted : counted added ≡ n ∷ []

-- and then the count was set back, and the list scavenged
pub record Cleared (old new : Pass) (l row n : ℕ) : Type 0 where
  pub mid : Pass
  pub noted : Noted old mid l row n
  pub late : Pass
  pub before : ℕ
  pub reset : Tries mid late (entry (steps.Reset l) before 0 (seen late) ∷ [])
  pub scavenged : Scavenged late new l

-- A row was deleted: it was noted, and from the fiftieth on since then the list was scavenged.
abbrev pub OnDeleted : Pass → Pass → ℕ → Type 0
OnDeleted old new row = (l : ℕ) × (n : ℕ) × (((n < 49) × Noted old new l row n) ⊎ ((49 ≤ n) × Cleared old new l row n))
