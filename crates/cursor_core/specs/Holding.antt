-- the cursors of a pass's consumers
use Rattle.std.specs.Prelude.{◌≡◌, ◌⊎◌, ℕ, ◌<◌, ◌≤◌, Option, Some, None, List, get_or}
use mathlib.Core.List.{Mem}
use Rattle.acts_core.specs.Calls.{CallNext}
use Rattle.acts_core.specs.declared.cargoes.Next.{Next}
use Rattle.acts_core.specs.Load.{Load}
use Rattle.acts_core.specs.Meaning.{Called}
use Rattle.acts_core.specs.Replies.{of_next}
use Rattle.acts_core.specs.Sight.{Build, Sight}
use Rattle.entry_table.specs.Views.{Has}
use Rattle.cursor_core.specs.declared.cursor.Cursor.{Cursor}
use Rattle.cursor_core.specs.Listing.{IsTrueOf, WalksLists}

-- the cursor at a consumer's number
abbrev pub cursor_at : List (Option Cursor) → ℕ → Option Cursor
cursor_at slots c = get_or slots c None

-- it is the consumer's own, and true of the pass
pub record IsOwn (s : Sight) (c : ℕ) (o : Option Cursor) : Type 0 where
  pub cursor : Cursor
  pub is : o ≡ Some cursor
  pub consumer : cursor.consumer ≡ c
  pub truth : IsTrueOf s cursor

-- Each consumer of the pass has its own cursor, true of the pass; and no other consumer has one.
pub record AreTrueOf (s : Sight) (slots : List (Option Cursor)) : Type 0 where
  pub own : (c : ℕ) → Mem c s.consumers → IsOwn s c (cursor_at slots c)
  pub only : (c : ℕ) (k : Cursor) → cursor_at slots c ≡ Some k → Mem c s.consumers

-- so it is with the first n consumers
pub record AreFresh (s : Sight) (n : ℕ) (slots : List (Option Cursor)) : Type 0 where
  pub own : (c : ℕ) → c < n → IsOwn s c (cursor_at slots c)
  pub none : (c : ℕ) → n ≤ c → cursor_at slots c ≡ None

-- the first cursor, or else the second
abbrev pub or_other : Option Cursor → Option Cursor → Option Cursor
or_other (Some k) o = Some k
or_other None o = o

-- The cursors of these consumers went from the old ones over to others, and the rest stayed.
abbrev pub AreHanded : List ℕ → List (Option Cursor) → List (Option Cursor) → List (Option Cursor) → Type 0
AreHanded consumers old new handed =
    (c : ℕ)
    → (Has c consumers × (cursor_at new c ≡ None) × (cursor_at handed c ≡ cursor_at old c))
    ⊎ ((Has c consumers → ⊥) × (cursor_at new c ≡ cursor_at old c) × (cursor_at handed c ≡ None))

-- a call of next went on from this cursor, which is true still
pub record GoesOn {C : Type 0} (load : C → Load) (build : Build) (old new : Sight) (before now : Option Cursor) (result : Next C) : Type 0 where
  pub first : Cursor
  pub last : Cursor
  pub from : before ≡ Some first
  pub to : now ≡ Some last
  pub consumer : last.consumer ≡ first.consumer
  pub called : (list : ℕ) × Called build old new (CallNext first.consumer) (of_next load list result)
  pub truth : IsTrueOf new last
  pub walks : WalksLists old new first last result

-- a call of next went on from a consumer's cursor
pub record WalksFrom {C : Type 0} (old new : Sight) (c : ℕ) (before now : List (Option Cursor)) (result : Next C) : Type 0 where
  pub first : Cursor
  pub last : Cursor
  pub from : cursor_at before c ≡ Some first
  pub to : cursor_at now c ≡ Some last
  pub walks : WalksLists old new first last result
