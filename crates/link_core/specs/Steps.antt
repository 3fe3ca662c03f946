-- steps on words: when a step fits, what it shows, which act it is, and what it leaves
use Rattle.std.specs.Prelude.{◌≡◌, ℕ, ◌+◌, ◌-◌, ◌*◌, ◌/◌, ◌%◌, ◌^◌, ◌<◌, ◌≤◌, Bool, true, false, ◌==◌, nat_lt, if◌then◌else◌, min, suc, Option, Some, None, List, [], ◌∷◌, ◌++◌, slice_index, slice_set, replicate}
use Rattle.std.specs.Option.{option_map}
use Rattle.queue_model.specs.declared.queues.Bell as ring
use Rattle.queue_model.specs.declared.deeds.Act.{Act}
use Rattle.queue_model.specs.declared.deeds.Act.TheVariants as acts
use Rattle.queue_model.specs.declared.deeds.Deed.{Deed}
use Rattle.queue_model.specs.declared.queues.Reservation.{Reservation}
use Rattle.queue_model.specs.declared.rows.RowState.{RowState}
use Rattle.queue_model.specs.declared.rows.RowState.TheVariants.{Available, Locked, Unlocked, Dequeued, Deleted}
use Rattle.queue_model.specs.declared.rows.Slip.{Slip}
use Rattle.queue_model.specs.declared.steps.Change.{Change}
use Rattle.queue_model.specs.declared.steps.Change.TheVariants.{Acq, Lock, Unlock, Steal, Rel, Deq, Del}
use Rattle.queue_model.specs.declared.steps.DraftWord.TheVariants as drafts
use Rattle.queue_model.specs.declared.steps.Node.{Node}
use Rattle.queue_model.specs.declared.steps.Node.TheVariants as nodes
use Rattle.queue_model.specs.declared.steps.Step.{Step}
use Rattle.queue_model.specs.declared.steps.Step.TheVariants.{Draw, Draft, Link, HelpTail, Load, State, Unlink, Ring, TakeBell, Mark, Count, Reset, Reserve, GiveBack}
use Rattle.queue_model.specs.declared.steps.WordName.{WordName}
use Rattle.queue_model.specs.declared.steps.WordName.TheVariants as names
use Rattle.queue_model.specs.declared.limits.TheConstants.{PLACE_WORTH}
use Rattle.queue_model.specs.History.{deeds_of}
use Rattle.queue_model.specs.Table.{CanGive, most_bytes, most_entries, with_more, with_less}
use Rattle.link_core.specs.declared.places.TheConstants.{TOP, DEPTH}
use Rattle.link_core.specs.Layout.{link_of, tail_of, mark_of, count_of, bell_of, state_of, draft_of, place_of_word}
use Rattle.queue_model.specs.Packing.{pack_state, pack_node, no_bell, entry_worth}
use Rattle.link_core.specs.Table.{Table, top, but, IsLinked, IsNode, list_of_node}

-- Words by name

-- the mask that the drawer of row r wrote down
abbrev pub mask_in : Table → ℕ → ℕ
mask_in t r = slice_index t.words (draft_of r drafts.Mask)

-- its place in its list
abbrev pub place_in : Table → ℕ → ℕ
place_in t r = slice_index t.words (draft_of r drafts.Place)

-- its size
abbrev pub size_in : Table → ℕ → ℕ
size_in t r = slice_index t.words (draft_of r drafts.Size)

-- its list
abbrev pub list_in : Table → ℕ → ℕ
list_in t r = slice_index t.words (draft_of r drafts.List)

-- the slip that the draft words tell; a linked queue has no keys
abbrev pub slip_in : Table → ℕ → Slip
slip_in t r = record { id = slice_index t.words (draft_of r drafts.Ident); size = size_in t r; mask = mask_in t r; list = list_in t r; key = None }

-- the place right behind a node
abbrev pub place_behind : Table → Node → ℕ
place_behind t (nodes.Head l) = 0
place_behind t (nodes.Row r) = place_in t r + 1

-- row r comes behind the node, in its list
abbrev pub IsBehind : Table → Node → ℕ → Type 0
IsBehind t node r = (list_in t r ≡ list_of_node t node) × (place_behind t node ≤ place_in t r)

-- When a step fits

-- the table has a word of this name
abbrev pub HasWord : Table → WordName → Type 0
HasWord t names.Top = Unit {0}
HasWord t names.Callers = Unit {0}
HasWord t names.Depth = Unit {0}
HasWord t (names.Link (nodes.Head l)) = l < t.lists
HasWord t (names.Link (nodes.Row r)) = r < t.rows
HasWord t (names.Tail l) = l < t.lists
HasWord t (names.Mark l) = l < t.lists
HasWord t (names.Count l) = l < t.lists
HasWord t (names.Bell c l) = (c < t.consumers) × (l < t.lists)
HasWord t (names.State r) = r < t.rows
HasWord t (names.Draft r w) = r < t.rows

-- caller h drew the row, and has not linked it
pub record IsDrawnBy (t : Table) (h r : ℕ) : Type 0 where
  pub row : r < t.rows
  pub drawer : t.drawer r ≡ Some h

-- the draft words of the row fit the node and the queue, and an entry of its size is reserved
pub record FitsBehind (t : Table) (h r : ℕ) (after : Node) : Type 0 where
  pub list : list_in t r ≡ list_of_node t after
  pub place : place_in t r ≡ place_behind t after
  pub mask : mask_in t r < 2 ^ t.consumers
  pub size : size_in t r ≤ most_bytes
  pub reserved : CanGive (t.reserved h) (size_in t r)

-- the row is the caller's to link behind this node
pub record FitsLink (t : Table) (h r : ℕ) (after : Node) : Type 0 where
  pub drawn : IsDrawnBy t h r
  pub node : IsNode t after
  pub behind : FitsBehind t h r after

-- a tail may move from one node of its list to a later row
pub record FitsHelp (t : Table) (l : ℕ) (from : Node) (r : ℕ) : Type 0 where
  pub list : l < t.lists
  pub node : IsNode t from
  pub row : IsLinked t r
  pub node_list : list_of_node t from ≡ l
  pub behind : IsBehind t from r

-- the node is a row and no head
abbrev pub FitsHelpTo : Table → ℕ → Node → Node → Type 0
FitsHelpTo t l from (nodes.Head m) = ⊥
FitsHelpTo t l from (nodes.Row r) = FitsHelp t l from r

-- the change goes on from this state, for caller h
abbrev pub GoesFrom : ℕ → Change → RowState → Type 0
GoesFrom h Acq s = s ≡ Available
GoesFrom h Lock s = s ≡ Unlocked h
GoesFrom h Unlock s = s ≡ Locked h
GoesFrom h Steal s = (k : ℕ) × (s ≡ Unlocked k)
GoesFrom h Rel s = s ≡ Locked h
GoesFrom h Deq s = s ≡ Locked h
GoesFrom h Del s = s ≡ Dequeued

-- a caller that the state names is low enough for the state to be packed
abbrev pub IsPackable : RowState → Type 0
IsPackable (Locked h) = h < 2 ^ 61
IsPackable (Unlocked h) = h < 2 ^ 61
IsPackable s = Unit {0}

-- the row is linked, and the change goes on from the state that is expected
pub record FitsState (t : Table) (h r : ℕ) (change : Change) (from : RowState) : Type 0 where
  pub row : IsLinked t r
  pub goes : GoesFrom h change from
  pub packable : IsPackable from

-- the state word of the row packs Deleted
abbrev pub IsGone : Table → ℕ → Type 0
IsGone t r = slice_index t.words (state_of r) ≡ pack_state Deleted

-- row r comes between two rows, in the list of the first
pub record IsBetween (t : Table) (from to r : ℕ) : Type 0 where
  pub list : list_in t r ≡ list_in t from
  pub behind : place_in t from < place_in t r
  pub before : place_in t r < place_in t to

-- row r is deleted, if it is linked and comes between the two
abbrev pub IsGoneBetween : Table → ℕ → ℕ → ℕ → Type 0
IsGoneBetween t from to r = IsLinked t r → IsBetween t from to r → IsGone t r

-- each linked row between the two is deleted
abbrev pub AreGone : Table → ℕ → ℕ → Type 0
AreGone t from to = (r : ℕ) → IsGoneBetween t from to r

-- The link of a head or of a linked row may move from a deleted row to a later one of the same list, where each row
-- between is deleted too.
pub record FitsUnlink (t : Table) (at : Node) (from to : ℕ) : Type 0 where
  pub node : IsNode t at
  pub out : IsLinked t from
  pub next : IsLinked t to
  pub gone : IsGone t from
  pub list : list_in t to ≡ list_in t from
  pub later : place_in t from < place_in t to
  pub between : AreGone t from to

-- a bell may be rung for a consumer that the table has, and for a linked row
pub record FitsRing (t : Table) (c r : ℕ) : Type 0 where
  pub consumer : c < t.consumers
  pub row : IsLinked t r

-- row r is linked, in list l at this place
pub record IsLinkedAt (t : Table) (l at r : ℕ) : Type 0 where
  pub row : IsLinked t r
  pub list : list_in t r ≡ l
  pub place : place_in t r ≡ at

-- the mark of a list may move to the place of a row that is linked in it
pub record FitsMark (t : Table) (l place : ℕ) : Type 0 where
  pub list : l < t.lists
  pub row : (r : ℕ) × IsLinkedAt t l place r

-- the step of caller h fits the words
abbrev pub Fits : Table → ℕ → Step → Type 0
Fits t h Draw = Unit {0}
Fits t h (Draft r w value) = IsDrawnBy t h r
Fits t h (Link r node) = FitsLink t h r node
Fits t h (HelpTail l from to) = FitsHelpTo t l from to
Fits t h (Load name) = HasWord t name
Fits t h (State r change from) = FitsState t h r change from
Fits t h (Unlink at from to) = FitsUnlink t at from to
Fits t h (Ring c r) = FitsRing t c r
Fits t h (TakeBell c l) = (c < t.consumers) × (l < t.lists)
Fits t h (Mark l place) = FitsMark t l place
Fits t h (Count l) = l < t.lists
Fits t h (Reset l) = l < t.lists
Fits t h (Reserve size) = (size ≤ most_bytes) × (slice_index t.words DEPTH / entry_worth < most_entries)
Fits t h (GiveBack size) = CanGive (t.reserved h) size

-- What a step shows

-- the place of the word that a step reads or changes, in a table of so many rows that has these words
abbrev pub place_of_step : ℕ → List ℕ → Step → ℕ
place_of_step rows words Draw = TOP
place_of_step rows words (Draft r w value) = draft_of r w
place_of_step rows words (Link r node) = link_of rows node
place_of_step rows words (HelpTail l from to) = tail_of rows l
place_of_step rows words (Load name) = place_of_word rows name
place_of_step rows words (State r change from) = state_of r
place_of_step rows words (Unlink at from to) = link_of rows at
place_of_step rows words (Ring c r) = bell_of rows c (slice_index words (draft_of r drafts.List))
place_of_step rows words (TakeBell c l) = bell_of rows c l
place_of_step rows words (Mark l place) = mark_of rows l
place_of_step rows words (Count l) = count_of rows l
place_of_step rows words (Reset l) = count_of rows l
place_of_step rows words (Reserve size) = DEPTH
place_of_step rows words (GiveBack size) = DEPTH

-- the word before the step
abbrev pub shown : Table → Step → ℕ
shown t s = slice_index t.words (place_of_step t.rows t.words s)

-- Whether the step is done. An exchange that shows another word than the expected one is a load, and so is a draw where
-- no row is left, and a mark that is no greater. A ring is done also where the bell keeps its word.
abbrev pub hits : Table → Step → Bool
hits t Draw = nat_lt (shown t Draw) t.rows
hits t (Draft r w value) = true
hits t (Link r node) = shown t (Link r node) == 0
hits t (HelpTail l from to) = shown t (HelpTail l from to) == pack_node from
hits t (Load name) = false
hits t (State r change from) = shown t (State r change from) == pack_state from
hits t (Unlink at from to) = shown t (Unlink at from to) == suc from
hits t (Ring c r) = true
hits t (TakeBell c l) = true
hits t (Mark l place) = nat_lt (shown t (Mark l place)) place
hits t (Count l) = true
hits t (Reset l) = true
hits t (Reserve size) = true
hits t (GiveBack size) = true

-- What a step does

-- the state that a change leads to
abbrev pub goes_to : ℕ → Change → RowState
goes_to h Acq = Locked h
goes_to h Lock = Locked h
goes_to h Unlock = Unlocked h
goes_to h Steal = Locked h
goes_to h Rel = Available
goes_to h Deq = Dequeued
goes_to h Del = Deleted

-- what a caller has reserved after a change of a row of this size
abbrev pub reserved_after : Change → Reservation → ℕ → Reservation
reserved_after Deq v size = with_more v size
reserved_after change v size = v

-- the row that a bell was rung for, if it was rung
abbrev pub row_rung : Option ring.Bell → Option ℕ
row_rung bell = option_map (λ b. b.row) bell

-- the word of a bell that rings for a row: its place in its list above the bits of its number
abbrev pub bell_word : Table → ℕ → ℕ
bell_word t r = place_in t r * PLACE_WORTH + r

-- The word that a step leaves where it is done. Of two bells the smaller word stands, which is that of the earlier
-- place. Behind the greatest number a count begins again at 0.
abbrev pub word_after : Table → ℕ → Step → ℕ
word_after t h Draw = top t + 1
word_after t h (Draft r w value) = value
word_after t h (Link r node) = suc r
word_after t h (HelpTail l from to) = pack_node to
word_after t h (Load name) = shown t (Load name)
word_after t h (State r change from) = pack_state (goes_to h change)
word_after t h (Unlink at from to) = suc to
word_after t h (Ring c r) = min (shown t (Ring c r)) (bell_word t r)
word_after t h (TakeBell c l) = no_bell
word_after t h (Mark l place) = place
word_after t h (Count l) = (shown t (Count l) + 1) % 2 ^ 64
word_after t h (Reset l) = 0
word_after t h (Reserve size) = slice_index t.words DEPTH + (entry_worth + size)
word_after t h (GiveBack size) = slice_index t.words DEPTH - (entry_worth + size)

-- the drawer of each row afterwards: a draw makes the caller that of the next row, and a link ends that
abbrev pub drawer_after : (ℕ → Option ℕ) → ℕ → ℕ → Step → ℕ → Option ℕ
drawer_after drawer next h Draw = but drawer next (Some h)
drawer_after drawer next h (Link r node) = but drawer r None
drawer_after drawer next h step = drawer

-- what the caller has reserved afterwards
abbrev pub reserves_after : Table → ℕ → Step → Reservation
reserves_after t h (Link r node) = with_less (t.reserved h) (size_in t r)
reserves_after t h (State r change from) = reserved_after change (t.reserved h) (size_in t r)
reserves_after t h (Reserve size) = with_more (t.reserved h) size
reserves_after t h (GiveBack size) = with_less (t.reserved h) size
reserves_after t h step = t.reserved h

-- the table that a step leaves where it is done
abbrev pub changed_by : Table → ℕ → Step → Table
changed_by t h s = record t { words = slice_set t.words (place_of_step t.rows t.words s) (word_after t h s); drawer = drawer_after t.drawer (top t) h s; reserved = but t.reserved h (reserves_after t h s) }

-- the table afterwards
abbrev pub moved : Table → ℕ → Step → Table
moved t h s = if hits t s then changed_by t h s else t

-- the act of a change of row r, with a count where the act has one
abbrev pub act_with : ℕ → Change → ℕ → Act
act_with n Acq r = acts.Acq r
act_with n Lock r = acts.Lock r
act_with n Unlock r = acts.Unlock r n
act_with n Steal r = acts.Steal r
act_with n Rel r = acts.Rel r n
act_with n Deq r = acts.Deq r
act_with n Del r = acts.Del r

-- the act that links row r at the end of the list that its draft words tell, with a content, an origin and a count
abbrev pub enqueue_with : Table → ℕ → List ℕ → List ℕ → ℕ → Act
enqueue_with t r content origin n = acts.Enq r (slip_in t r) content origin n

-- The acts of a step that is done: one or none. Contents and counts are not told: a content is as many zeros
-- as the size, an origin is empty, and a count is 0.
abbrev pub acts_in : Table → Step → List Act
acts_in t (Link r node) = enqueue_with t r (replicate (size_in t r) 0) [] 0 ∷ []
acts_in t (State r change from) = act_with 0 change r ∷ []
acts_in t (Ring c r) = acts.Bell r c ∷ []
acts_in t (TakeBell c l) = acts.Take c l ∷ []
acts_in t (Reserve size) = acts.Reserve size ∷ []
acts_in t (GiveBack size) = acts.GiveBack size ∷ []
acts_in t step = []

-- the deeds of a step: one or none
abbrev pub deed : Table → ℕ → Step → List Deed
deed t h s = if hits t s then deeds_of h (acts_in t s) else []

-- Lists of steps with their callers

-- each step fits where it stands
abbrev pub AllFit : Table → List (ℕ × Step) → Type 0
AllFit t [] = Unit {0}
AllFit t (s ∷ steps) = Fits t s.0 s.1 × AllFit (moved t s.0 s.1) steps

-- the table after all of the steps
abbrev pub all_moved : Table → List (ℕ × Step) → Table
all_moved t [] = t
all_moved t (s ∷ steps) = all_moved (moved t s.0 s.1) steps

-- the deeds of the steps that have one, in order
abbrev pub all_deeds : Table → List (ℕ × Step) → List Deed
all_deeds t [] = []
all_deeds t (s ∷ steps) = deed t s.0 s.1 ++ all_deeds (moved t s.0 s.1) steps
