-- queue order of two rows, by their keys and numbers
use Rattle.std.specs.Prelude.{◌≡◌, ℕ, ◌<◌, ◌⊎◌, Bool, true, false, Option, Some, None, List, map, get_or}
use Rattle.std.specs.Int.{bit_at}
use Rattle.std.specs.Cmp.Lexicographic.{slice_cmp}
use Rattle.std.specs.Ordering.{nat_cmp}
use Rattle.std.specs.declared.cmp.Ordering.{Ordering}
use Rattle.std.specs.declared.cmp.Ordering.TheVariants.{Less, Equal, Greater}
use Rattle.queue_model.specs.Order.{KeyBefore}
use Rattle.row_order.specs.declared.slots.Slot.{Slot}

-- how two keys compare in byte order; no key comes after every key
abbrev pub key_cmp : Option (List ℕ) → Option (List ℕ) → Ordering
key_cmp (Some a) (Some b) = slice_cmp nat_cmp a b
key_cmp (Some a) None = Less
key_cmp None (Some b) = Greater
key_cmp None None = Equal

-- the part of a key that the order goes by: all of it, or nothing
abbrev pub rank : Bool → Option (List ℕ) → Option (List ℕ)
rank true key = key
rank false key = None

abbrev pub key_of : {C : Type 0} → Slot C → Option (List ℕ)
key_of s = s.slip.key

abbrev pub mask_of : {C : Type 0} → Slot C → ℕ
mask_of s = s.slip.mask

-- the key of row r, None where there is no such row
abbrev pub key_at : {C : Type 0} → List (Slot C) → ℕ → Option (List ℕ)
key_at rows r = get_or (map key_of rows) r None

-- what the order goes by at row r
abbrev pub ranks : {C : Type 0} → Bool → List (Slot C) → ℕ → Option (List ℕ)
ranks by_key rows r = rank by_key (key_at rows r)

-- the consumer's selector is true of the row
abbrev pub IsWanted : {C : Type 0} → List (Slot C) → ℕ → ℕ → Type 0
IsWanted rows c r = bit_at (get_or (map mask_of rows) r 0) c ≡ 1

-- row a comes before row b: by what the order goes by, then by number
abbrev pub before : (ℕ → Option (List ℕ)) → ℕ → ℕ → Type 0
before ks a b = KeyBefore (ks a) (ks b) ⊎ ((ks a ≡ ks b) × (a < b))
