-- when the words of a table stand for the state of a queue
use Rattle.std.specs.Prelude.{◌≡◌, ◌≢◌, ◌⊎◌, ℕ, ◌<◌, ◌≤◌, suc, Option, Some, None, IsSome, List, [], ◌∷◌, length, slice_index}
use Rattle.queue_model.specs.Table.{most_entries}
use Rattle.queue_model.specs.declared.queues.Queue.{Queue}
use Rattle.queue_model.specs.declared.rows.Row.{Row}
use Rattle.queue_model.specs.declared.rows.RowState.TheVariants.{Deleted}
use Rattle.queue_model.specs.declared.rows.Slip.{Slip}
use Rattle.queue_model.specs.declared.steps.DraftWord.TheVariants as drafts
use Rattle.queue_model.specs.Sound.{Sound}
use Rattle.queue_model.specs.State.{row_at, rows_of, place_at, bell_at, BellsRing, reserved_by, entries, bytes}
use Rattle.link_core.specs.declared.places.TheConstants.{TOP, DEPTH}
use Rattle.link_core.specs.Layout.{words_of, row_link_of, head_of, tail_of, mark_of, bell_of, state_of, draft_of}
use Rattle.queue_model.specs.Packing.{pack_state, pack_bell, pack_depth}
use Rattle.link_core.specs.Table.{Table}

-- The table has its words, and the queue's lists and consumers.
pub record IsShaped (t : Table) (q : Queue) : Type 0 where
  pub lists : t.lists ≡ q.lists
  pub consumers : t.consumers ≡ q.consumers
  pub few_consumers : t.consumers ≤ 64
  pub few_rows : t.rows ≤ most_entries
  pub few_callers : t.callers ≤ 4294967296
  pub long : length t.words ≡ words_of t.rows t.lists

-- The state word of each row packs its state.
abbrev pub States : List ℕ → Queue → Type 0
States words q = (r : ℕ) (x : Row) → row_at q r ≡ Some x → slice_index words (state_of r) ≡ pack_state x.state

-- The words that a row's drawer wrote down are those of its slip and its place. A linked queue has no keys.
pub record IsDrafted (words : List ℕ) (r at : ℕ) (slip : Slip) : Type 0 where
  pub mask : slice_index words (draft_of r drafts.Mask) ≡ slip.mask
  pub place : slice_index words (draft_of r drafts.Place) ≡ at
  pub ident : slice_index words (draft_of r drafts.Ident) ≡ slip.id
  pub size : slice_index words (draft_of r drafts.Size) ≡ slip.size
  pub list : slice_index words (draft_of r drafts.List) ≡ slip.list
  pub key : slip.key ≡ None

-- The draft words of each row tell its slip and its place.
abbrev pub Drafts : List ℕ → Queue → Type 0
Drafts words q = (r : ℕ) (x : Row) → row_at q r ≡ Some x → IsDrafted words r (place_at q r) x.slip

-- A link w behind which these rows stand is empty where there are none. Else it names one of them, and each before it
-- is deleted.
abbrev pub Points : ℕ → List Row → Type 0
Points w [] = w ≡ 0
Points w (x ∷ xs) = (w ≡ suc x.number) ⊎ ((x.state ≡ Deleted) × (w ≢ 0) × Points w xs)

-- the link w behind which these rows stand, and the link of each of these rows, point as they should
abbrev pub Chain : List ℕ → ℕ → List Row → Type 0
Chain words w [] = w ≡ 0
Chain words w (x ∷ xs) = Points w (x ∷ xs) × Chain words (slice_index words (row_link_of x.number)) xs

-- The links of each list are a chain through its rows.
abbrev pub Links : ℕ → ℕ → List ℕ → Queue → Type 0
Links rows lists words q = (l : ℕ) → l < lists → Chain words (slice_index words (head_of rows l)) (rows_of q l)

-- row r is there, in list l
pub record StandsIn (row_of : ℕ → Option Row) (l r : ℕ) : Type 0 where
  pub row : Row
  pub found : row_of r ≡ Some row
  pub list : row.slip.list ≡ l

-- The tail of each list is its head or one of its rows.
abbrev pub Tails : ℕ → ℕ → List ℕ → Queue → Type 0
Tails rows lists words q = (l : ℕ) → l < lists → (slice_index words (tail_of rows l) ≡ 0) ⊎ ((r : ℕ) × StandsIn (row_at q) l r × (slice_index words (tail_of rows l) ≡ suc r))

-- The mark of each list is 0 or the place of one of its rows.
abbrev pub Marks : ℕ → ℕ → List ℕ → Queue → Type 0
Marks rows lists words q = (l : ℕ) → l < lists → (slice_index words (mark_of rows l) ≡ 0) ⊎ ((r : ℕ) × StandsIn (row_at q) l r × (slice_index words (mark_of rows l) ≡ place_at q r))

-- The word of each bell packs it.
abbrev pub Bells : ℕ → ℕ → ℕ → List ℕ → Queue → Type 0
Bells rows consumers lists words q = (c l : ℕ) → c < consumers → l < lists → slice_index words (bell_of rows c l) ≡ pack_bell (bell_at q c l)

-- The word of the depth packs it.
abbrev pub IsDepth : List ℕ → Queue → Type 0
IsDepth words q = slice_index words DEPTH ≡ pack_depth (entries q) (bytes q)

-- A row of the queue is below the top and has no drawer. Any other is below the top exactly where it has a drawer, its
-- state word is that of an available row, and its link is empty.
pub record Draws (rows : ℕ) (words : List ℕ) (drawer : ℕ → Option ℕ) (row_of : ℕ → Option Row) : Type 0 where
  pub top : slice_index words TOP ≤ rows
  pub below : (r : ℕ) (x : Row) → row_of r ≡ Some x → r < slice_index words TOP
  pub free : (r : ℕ) (x : Row) → row_of r ≡ Some x → drawer r ≡ None
  pub drawn : (r : ℕ) → row_of r ≡ None → r < slice_index words TOP → IsSome (drawer r)
  pub low : (r h : ℕ) → drawer r ≡ Some h → r < slice_index words TOP
  pub unset : (r : ℕ) → r < rows → row_of r ≡ None → slice_index words (state_of r) ≡ 1
  pub unlinked : (r : ℕ) → r < rows → row_of r ≡ None → slice_index words (row_link_of r) ≡ 0

-- The words of a table stand for a sound state of a queue, and what is kept beside them is what callers have reserved.
pub record Stands (t : Table) (q : Queue) : Type 0 where
  pub sound : Sound q
  pub shaped : IsShaped t q
  pub states : States t.words q
  pub drafted : Drafts t.words q
  pub links : Links t.rows t.lists t.words q
  pub tails : Tails t.rows t.lists t.words q
  pub marks : Marks t.rows t.lists t.words q
  pub bells : Bells t.rows t.consumers t.lists t.words q
  pub rung : BellsRing q
  pub depth : IsDepth t.words q
  pub draws : Draws t.rows t.words t.drawer (row_at q)
  pub reserved : (h : ℕ) → reserved_by q h ≡ t.reserved h
