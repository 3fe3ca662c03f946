-- steps over runs of deleted rows
use Rattle.std.specs.Prelude.{◌≡◌, ◌≢◌, ◌⊎◌, ℕ, suc, ◌+◌, ◌*◌, ◌<◌, ◌≤◌, Option, Some, None, List, [], ◌∷◌, ◌++◌, length}
use mathlib.Core.List.{IsPrefix}
use Rattle.queue_model.specs.declared.deeds.Deed.{Deed}
use Rattle.queue_model.specs.declared.rows.Row.{Row}
use Rattle.queue_model.specs.declared.rows.RowState.TheVariants.{Deleted}
use Rattle.queue_model.specs.declared.steps.Node.{Node}
use Rattle.queue_model.specs.declared.steps.Node.TheVariants as nodes
use Rattle.queue_model.specs.declared.steps.DraftWord.TheVariants as drafts
use Rattle.queue_model.specs.declared.steps.Step.TheVariants as steps
use Rattle.queue_model.specs.declared.steps.Tried.{Tried}
use Rattle.queue_model.specs.declared.steps.WordName.TheVariants as names
use Rattle.queue_model.specs.History.{after}
use Rattle.queue_model.specs.State.{row_at, rows_of, place_at, IsIn}
use Rattle.acts_core.specs.Moments.{Between}
use Rattle.acts_core.specs.Sight.{Showed, Starts}
use Rattle.acts_core.specs.Steps.{Stepped, SameRights, NoHead}
use Rattle.acts_core.specs.Walks.{node_at, reach, IsOfList, IsStop, AreDeleted}
use Rattle.entry_table.specs.declared.pass.Pass.{Pass}
use Rattle.entry_table.specs.Passes.{Kept, opening, seen, state}
use Rattle.entry_table.specs.Sights.{sight}
use Rattle.entry_table.specs.Skips.{watched, watch_of}
use Rattle.entry_table.specs.Views.{entry}
use Rattle.scavenge_core.specs.Shown.{looks, hops, link_after, counted}

-- The pass did no act, and tried these steps.
pub record Tries (old new : Pass) (added : List Tried) : Type 0 where
  pub kept : Kept old new
  pub steps : Stepped (sight old) (sight new) [] added
  pub rights : SameRights (sight old) (sight new)

-- the stop of a node: 0 for a head, a number more than its own for a row
abbrev pub stop_at : Node → ℕ
stop_at (nodes.Head l) = 0
stop_at (nodes.Row r) = suc r

-- none of the steps is on the link behind an earlier stop of list l
abbrev pub Early : Pass → ℕ → ℕ → List Tried → Type 0
Early old l w added = (v : ℕ) → IsStop (state old) l v → reach (state old) v < reach (state old) w → link_after (node_at l v) added ≡ None

-- None of the steps is on the head link of another list than l. Where stop w is the head of list l, the first step on its
-- link was when so much was seen as at some moment in between.
pub record Begun (old new : Pass) (l w : ℕ) (added : List Tried) : Type 0 where
  pub others : (m : ℕ) → m ≢ l → NoHead m added
  pub starts : w ≡ 0 → (b : List Deed) × Between (seen old) (seen new) b × Starts (Showed added) l b

-- The link behind stop w of list l was last shown to name row r. The rows of the list from the stop on, before row r,
-- are deleted.
pub record Names (new : Pass) (added : List Tried) (l w r : ℕ) : Type 0 where
  pub there : IsOfList (state new) l r
  pub behind : reach (state new) w ≤ place_at (state new) r
  pub gone : AreDeleted (state new) l (reach (state new) w) (place_at (state new) r)
  pub link : link_after (node_at l w) added ≡ Some (suc r)

-- row r was not deleted at some moment between what the two passes had seen
pub record WasLive (old new : Pass) (r : ℕ) : Type 0 where
  pub moment : List Deed
  pub later : IsPrefix (seen old) moment
  pub early : IsPrefix moment (seen new)
  pub row : Row
  pub found : row_at (after (opening old) moment) r ≡ Some row
  pub live : row.state ≢ Deleted

-- A step over a run has come to row r. The link behind the stop was last shown to name row f, which is row r or an earlier
-- one of the run. Few steps were on states and on links, by how many places lie between, and a and h more.
pub record Ahead (old now : Pass) (l w f r a h : ℕ) : Type 0 where
  pub added : List Tried
  pub tries : Tries old now added
  pub first : IsOfList (state now) l f
  pub there : IsOfList (state now) l r
  pub behind : reach (state now) w ≤ place_at (state now) f
  pub onward : place_at (state now) f ≤ place_at (state now) r
  pub gone : AreDeleted (state now) l (reach (state now) w) (place_at (state now) r)
  pub link : link_after (node_at l w) added ≡ Some (suc f)
  pub watched : watched now ≡ watch_of (node_at l w) (suc f)
  pub early : Early old l w added
  pub begun : Begun old now l w added
  pub countless : counted added ≡ []
  pub looks : looks added + reach (state now) w ≤ place_at (state now) r + a
  pub hops : hops added + 3 * reach (state now) w ≤ 2 * place_at (state now) f + place_at (state now) r + h

-- The link behind the stop names row r, which was not deleted when it was looked at. With n rows of the list behind the
-- stop, up to and with row r, there were at most n steps on states, and 3 n + 1 on links.
pub record Reaches (old new : Pass) (l w r : ℕ) : Type 0 where
  pub added : List Tried
  pub tries : Tries old new added
  pub names : Names new added l w r
  pub live : WasLive old new r
  pub early : Early old l w added
  pub begun : Begun old new l w added
  pub countless : counted added ≡ []
  pub looks : looks added + reach (state new) w ≤ suc (place_at (state new) r)
  pub hops : hops added + 3 * reach (state new) w ≤ 3 * suc (place_at (state new) r) + 1

-- the link behind the stop was last shown empty, or to name a deleted row whose own link was last shown empty
abbrev pub EndShown : Pass → List Tried → ℕ → ℕ → Type 0
EndShown new added l w =
    (link_after (node_at l w) added ≡ Some 0)
    ⊎ ((d : ℕ) × IsIn (state new) d Deleted × (link_after (node_at l w) added ≡ Some (suc d)) × (link_after (nodes.Row d) added ≡ Some 0))

-- All rows of the list behind the stop are deleted. With n rows behind it, there were at most n steps on states, and
-- 3 n + 1 on links.
pub record Ends (old new : Pass) (l w : ℕ) : Type 0 where
  pub added : List Tried
  pub tries : Tries old new added
  pub gone : (m : ℕ) → AreDeleted (state new) l (reach (state new) w) m
  pub shown : EndShown new added l w
  pub early : Early old l w added
  pub begun : Begun old new l w added
  pub countless : counted added ≡ []
  pub looks : looks added + reach (state new) w ≤ length (rows_of (state new) l)
  pub hops : hops added + 3 * reach (state new) w ≤ 3 * length (rows_of (state new) l) + 1

-- a step over the deleted rows behind stop w of list l
abbrev pub StepsOver : Pass → Pass → ℕ → ℕ → Option ℕ → Type 0
StepsOver old new l w None = Ends old new l w
StepsOver old new l w (Some r) = Reaches old new l w r

-- The next row to look at, and the row that the link behind the stop names then; none where the end was shown.
abbrev pub GoesOn : Pass → Pass → ℕ → ℕ → Option (ℕ × ℕ) → Type 0
GoesOn old new l w None = Ends old new l w
GoesOn old new l w (Some n) = Ahead old new l w n.0 n.1 0 1

-- The link behind the stop, which the pass watches and which named row f, may move on to row r.
pub record MayMove (p : Pass) (l w f r : ℕ) : Type 0 where
  pub stop : IsStop (state p) l w
  pub watched : watched p ≡ watch_of (node_at l w) (suc f)
  pub from : IsOfList (state p) l f
  pub to : IsOfList (state p) l r
  pub behind : reach (state p) w ≤ place_at (state p) f
  pub onward : place_at (state p) f ≤ place_at (state p) r
  pub gone : AreDeleted (state p) l (reach (state p) w) (place_at (state p) r)

-- It names row u then, row r or a later one. Each exchange moved it, or showed it moved by another.
pub record Moved (old new : Pass) (l w f r u : ℕ) : Type 0 where
  pub added : List Tried
  pub tries : Tries old new added
  pub there : IsOfList (state new) l u
  pub onward : place_at (state new) r ≤ place_at (state new) u
  pub gone : AreDeleted (state new) l (reach (state new) w) (place_at (state new) u)
  pub link : (known : List Tried) → link_after (node_at l w) known ≡ Some (suc f) → link_after (node_at l w) (known ++ added) ≡ Some (suc u)
  pub watched : watched new ≡ watch_of (node_at l w) (suc u)
  -- no other link was touched
  pub alone : (v : ℕ) → v ≢ w → link_after (node_at l v) added ≡ None
  pub others : (m : ℕ) → m ≢ l → NoHead m added
  pub countless : counted added ≡ []
  pub looks : looks added ≡ 0
  pub hops : hops added + place_at (state new) f ≤ place_at (state new) u

-- the place of a row was looked up, and nothing else was done
pub record KnowsPlace (old new : Pass) (r n : ℕ) : Type 0 where
  pub tries : Tries old new (entry (steps.Load (names.Draft r drafts.Place)) n n (seen new) ∷ [])
  pub watched : watched new ≡ watched old
  pub place : n ≡ place_at (state new) r
