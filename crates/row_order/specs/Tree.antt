-- the tree of winners; src/tree.rt says how its nodes stand
use Rattle.std.specs.Prelude.{◌≡◌, ◌≢◌, ℕ, zero, suc, ◌+◌, ◌*◌, ◌/◌, ◌<◌, ◌≤◌, ◌⊎◌, Option, List, length, slice_index}
use Rattle.row_order.specs.Order.{before}

-- node w is a row that is y, or comes before y
pub record Beats (ks : ℕ → Option (List ℕ)) (w y : ℕ) : Type 0 where
  pub row : ℕ
  pub is : w ≡ suc row
  pub first : (row ≡ y) ⊎ before ks row y

-- node w is the one of a and b that comes first; 0 comes last
pub record IsWinner (ks : ℕ → Option (List ℕ)) (a b w : ℕ) : Type 0 where
  pub either : (w ≡ a) ⊎ (w ≡ b)
  pub left : (y : ℕ) → a ≡ suc y → Beats ks w y
  pub right : (y : ℕ) → b ≡ suc y → Beats ks w y

-- a tree of so many leaves over n rows: each leaf is 0 or its own row
pub record Leafed (width n : ℕ) (nodes : List ℕ) : Type 0 where
  pub long : length nodes ≡ 2 * width
  pub inside : (i : ℕ) → i < 2 * width → slice_index nodes i ≤ n
  pub leaves : (r : ℕ) → r < width → (slice_index nodes (width + r) ≡ 0) ⊎ (slice_index nodes (width + r) ≡ suc r)

-- the inner node i is right
abbrev pub IsRight : (ℕ → Option (List ℕ)) → List ℕ → ℕ → Type 0
IsRight ks nodes i = IsWinner ks (slice_index nodes (2 * i)) (slice_index nodes (2 * i + 1)) (slice_index nodes i)

-- and each inner node is the winner of the two below
pub record Crowned (ks : ℕ → Option (List ℕ)) (width n : ℕ) (nodes : List ℕ) : Type 0 where
  pub leafed : Leafed width n nodes
  pub inner : (i : ℕ) → 0 < i → i < width → IsRight ks nodes i

-- each inner node is right but the one above this node
abbrev pub OffPath : (ℕ → Option (List ℕ)) → ℕ → List ℕ → ℕ → Type 0
OffPath ks width nodes node = (i : ℕ) → 0 < i → i < width → i ≢ node / 2 → IsRight ks nodes i

-- the leaves are as before
abbrev pub SameLeaves : ℕ → List ℕ → List ℕ → Type 0
SameLeaves width old new = (i : ℕ) → width ≤ i → slice_index new i ≡ slice_index old i

-- one leaf became this word, and the others are as before
pub record LeafSet (width : ℕ) (old new : List ℕ) (row word : ℕ) : Type 0 where
  pub here : slice_index new (width + row) ≡ word
  pub others : (r : ℕ) → r ≢ row → slice_index new (width + r) ≡ slice_index old (width + r)

-- k steps up from a node
abbrev pub half : ℕ → ℕ → ℕ
half zero m = m
half (suc k) m = half k m / 2

-- row y is available: its leaf is itself
abbrev pub IsFreeLeaf : ℕ → List ℕ → ℕ → Type 0
IsFreeLeaf width nodes y = (y < width) × (slice_index nodes (width + y) ≡ suc y)

-- the first in order of the available rows below a node of which something holds, plus one; 0 where there is none
pub record FirstBelow (ks : ℕ → Option (List ℕ)) (width : ℕ) (nodes : List ℕ) (node : ℕ) (Want : ℕ → Type 0) (w : ℕ) : Type 0 where
  pub found : (x : ℕ) → w ≡ suc x → IsFreeLeaf width nodes x × Want x
  pub first : (y k : ℕ) → half k (width + y) ≡ node → IsFreeLeaf width nodes y → Want y → Beats ks w y

-- the least number of an available row, plus one; 0 where there is none
pub record Leftmost (width : ℕ) (nodes : List ℕ) (w : ℕ) : Type 0 where
  pub found : (x : ℕ) → w ≡ suc x → IsFreeLeaf width nodes x
  pub first : (y : ℕ) → IsFreeLeaf width nodes y → (x : ℕ) × (w ≡ suc x) × (x ≤ y)

-- all available rows, in order
pub record Drained (ks : ℕ → Option (List ℕ)) (width : ℕ) (nodes order : List ℕ) : Type 0 where
  pub each : (i : ℕ) → i < length order → IsFreeLeaf width nodes (slice_index order i)
  pub whole : (r : ℕ) → IsFreeLeaf width nodes r → (i : ℕ) × (i < length order) × (slice_index order i ≡ r)
  pub sorted : (i j : ℕ) → i < j → j < length order → before ks (slice_index order i) (slice_index order j)
