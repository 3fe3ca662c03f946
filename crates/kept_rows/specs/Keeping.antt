-- how the slots and the tree keep the rows
use Rattle.std.specs.Prelude.{◌≡◌, ◌≢◌, ℕ, suc, ◌+◌, ◌*◌, ◌^◌, ◌<◌, ◌≤◌, ◌↔◌, Bool, true, Option, Some, None, List, [], map, get_or, length, slice_index}
use Rattle.std.specs.Option.{option_map}
use Rattle.queue_model.specs.declared.queues.Depth.{Depth}
use Rattle.queue_model.specs.declared.rows.RowState.{RowState}
use Rattle.queue_model.specs.declared.rows.RowState.TheVariants.{Available, Deleted}
use Rattle.row_order.specs.declared.slots.Slot.{Slot}
use Rattle.row_order.specs.Order.{ranks, before}
use Rattle.row_order.specs.Tree.{Crowned, Beats}
use Rattle.acts_core.specs.Kept.{Kept, KeptRow, Goods, at_home}
use Rattle.acts_core.specs.Load.{Load}
use Rattle.kept_rows.specs.Rows.{kept_at, goods_in, Fitting}

-- the word of the leaf of row r, where the row is in this state
pub record Names (s : RowState) (r word : ℕ) : Type 0 where
  pub here : s ≡ Available → word ≡ suc r
  pub none : s ≢ Available → word ≡ 0

module _ {C : Type 0} (load : C → Load) where
  -- what is kept of a slot
  abbrev pub slot_kept : Slot C → KeptRow
  slot_kept s = record { slip = s.slip; state = s.state; goods = option_map (λ c. goods_in (load c)) s.cargo }

  -- what is kept of slots
  abbrev pub kept_of : List (Slot C) → Depth → ℕ → Kept
  kept_of slots depth spare = record { spare = spare; depth = depth; rows = map slot_kept slots }

  -- the slot has a cargo exactly where that is at home, and it is the row's
  abbrev pub Carries : Slot C → Type 0
  Carries s = Fitting s.slip s.state (option_map load s.cargo)

  -- each slot does
  abbrev pub AllCarry : List (Slot C) → Type 0
  AllCarry slots = (r : ℕ) (s : Slot C) → r < length slots → s ≡ get_or slots r s → Carries s

  -- The leaves of the available rows name them, and no others.
  pub record Keeps (by_key : Bool) (slots : List (Slot C)) (nodes : List ℕ) (width : ℕ) : Type 0 where
    pub tree : Crowned (ranks by_key slots) width (length slots) nodes
    pub power : (k : ℕ) × (width ≡ 2 ^ k)
    pub leaves : (r : ℕ) (s : Slot C) → r < length slots → s ≡ get_or slots r s → (slice_index nodes (width + r) ≡ suc r) ↔ (s.state ≡ Available)
    pub carry : AllCarry slots

-- the tree is as wide as that, and each row of n has its leaf as before
pub record Widened (ks : ℕ → Option (List ℕ)) (n width : ℕ) (old : List ℕ) (wide : ℕ) (new : List ℕ) : Type 0 where
  pub tree : Crowned ks wide n new
  pub power : (k : ℕ) × (wide ≡ 2 ^ k)
  pub same : (r : ℕ) → r < n → slice_index new (wide + r) ≡ slice_index old (width + r)

-- the slot has the id, and is not deleted
pub record HasName {C : Type 0} (id : ℕ) (s : Slot C) : Type 0 where
  pub same : s.slip.id ≡ id
  pub live : s.state ≢ Deleted

-- The first in order of the first n slots that have the id and are not deleted, plus one; 0 where there is none.
pub record FirstNamed {C : Type 0} (ks : ℕ → Option (List ℕ)) (slots : List (Slot C)) (id n best : ℕ) : Type 0 where
  pub inside : best ≤ n
  pub found : (x : ℕ) (s : Slot C) → best ≡ suc x → s ≡ get_or slots x s → HasName id s
  pub first : (y : ℕ) (s : Slot C) → y < n → s ≡ get_or slots y s → HasName id s → Beats ks best y

-- the word of the leaf of row r in this state, where each row that is not deleted has its leaf
pub record LiveNames (s : RowState) (r word : ℕ) : Type 0 where
  pub here : s ≢ Deleted → word ≡ suc r
  pub none : s ≡ Deleted → word ≡ 0

-- of the first n rows those that are not deleted are named by their leaves
abbrev pub Awake : {C : Type 0} → List (Slot C) → ℕ → ℕ → List ℕ → Type 0
Awake {C} slots width n nodes =
    (r : ℕ) (s : Slot C) → r < n → s ≡ get_or slots r s → (slice_index nodes (width + r) ≡ suc r) ↔ (s.state ≢ Deleted)

-- Rows that are not deleted: all of them, in order.
pub record Lives {C : Type 0} (ks : ℕ → Option (List ℕ)) (slots : List (Slot C)) (order : List ℕ) : Type 0 where
  pub inside : (i : ℕ) → i < length order → slice_index order i < length slots
  pub each : (i : ℕ) (s : Slot C) → i < length order → s ≡ get_or slots (slice_index order i) s → s.state ≢ Deleted
  pub whole : (r : ℕ) (s : Slot C) → r < length slots → s ≡ get_or slots r s → s.state ≢ Deleted → (i : ℕ) × (i < length order) × (slice_index order i ≡ r)
  pub sorted : (i j : ℕ) → i < j → j < length order → before ks (slice_index order i) (slice_index order j)

-- row r is there, with its cargo
pub record Ready {C : Type 0} (load : C → Load) (slots : List (Slot C)) (r : ℕ) : Type 0 where
  pub inside : r < length slots
  pub carries : (s : Slot C) → s ≡ get_or slots r s → Carries load s
  pub home : (s : Slot C) → s ≡ get_or slots r s → at_home s.state ≡ true

-- a vector that is empty now, of this length and capacity, has room for so many
abbrev pub Spares : ℕ → ℕ → ℕ → Type 0
Spares rows len capacity = (len ≡ 0) × (rows ≤ capacity)

-- There is room for so many rows in all: leaves and slots, and in the end their order and what is left of them.
pub record HasRoom (rows width slots order_len order rest_len rest : ℕ) : Type 0 where
  pub leaves : rows ≤ width
  pub slots_fit : rows ≤ slots
  pub order_fits : Spares rows order_len order
  pub rest_fits : Spares rows rest_len rest
