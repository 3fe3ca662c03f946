-- Transactions that are being filled, and the bytes of their items.
use Rattle.std.proofs.Common.{◌≡◌, ℕ, zero, suc, ◌+◌, ◌-◌, ◌<◌, ◌≤◌, List, [], ◌∷◌, ◌++◌, length, Result, Ok, refl, sym, ap, subst, ◌∙◌, length-append, arith}
use Rattle.std.specs.List.{flat_map, All}
use Rattle.std.proofs.lemmas.List.{append-nil}
use Rattle.std.proofs.lemmas.List.Concat.{flat_map-append}
use Rattle.std.proofs.lemmas.List.Elements.{All-append, recursion_from_All}
use Rattle.byte_lists.specs.Room.{Roomy}
use Rattle.journal_format.specs.declared.items.Item.{Item}
use Rattle.journal_format.specs.Spelling.{Txn, item_bytes, txn_bytes, IsItem}
use Rattle.journal_format.specs.Reading.{many_at, item_at}
use Rattle.journal_format.specs.Filled.{IsLimited, HasPlace, read_items, items_in, IsEncoded, IsKept}
use Rattle.journal_format.proofs.Parts.{many_again}
use Rattle.journal_format.proofs.ItemBytes.{item_reread}
use Rattle.journal_format.proofs.BatchBytes.{txn_size}

-- the bytes of items are read as these items
items_again : (t : Txn) → All IsItem t → items_in (length t) (flat_map item_bytes t) ≡ t
unfolding items_in
items_again t all =
    let read : many_at item_at (length t) (flat_map item_bytes t) ≡ Ok (t, []) = ap (many_at item_at (length t)) (sym (append-nil (flat_map item_bytes t))) ∙ many_again item_at item_bytes IsItem item_reread t [] (recursion_from_All IsItem t all) in
    rw read refl

-- so many items within the limits, and their bytes
pub encoded : (t : Txn) (count : ℕ) (bytes : List ℕ) → length t ≡ count → bytes ≡ flat_map item_bytes t → IsLimited t → (items_in count bytes ≡ t) × IsEncoded count bytes
encoded t count bytes many is limited =
    let same : items_in count bytes ≡ t = (λ i. items_in (sym many i) (is i)) ∙ items_again t limited.items in
    (same, record { is = is ∙ ap (flat_map item_bytes) (sym same); many = ap length same ∙ many; limited = subst IsLimited (sym same) limited })

none_limited : IsLimited []
none_limited = record { few = omega arith; short = omega (arith, txn_size []); items = λ k d lt. absurd (omega (arith, lt)) }

-- no items
pub none_encoded : (items_in 0 [] ≡ []) × IsEncoded 0 []
none_encoded = encoded [] 0 [] refl refl none_limited

one : (item : Item) → IsItem item → All IsItem (item ∷ [])
one item is zero d lt = is
one item is (suc k) d lt = absurd (omega (arith, lt))

-- how many bytes the items have
flat_push : (t : Txn) (item : Item) → flat_map item_bytes (t ++ item ∷ []) ≡ flat_map item_bytes t ++ item_bytes item
flat_push t item = flat_map-append item_bytes t (item ∷ []) ∙ ap (λ (l : List ℕ). flat_map item_bytes t ++ l) (append-nil (item_bytes item))

pub size_push : (t : Txn) (item : Item) → length (txn_bytes (t ++ item ∷ [])) ≡ length (txn_bytes t) + length (item_bytes item)
size_push t item = omega (arith, txn_size t, txn_size (t ++ item ∷ []), ap length (flat_push t item), length-append (flat_map item_bytes t) (item_bytes item))

limited_push : (t : Txn) (item : Item) → IsLimited t → HasPlace t item → IsItem item → IsLimited (t ++ item ∷ [])
limited_push t item limited place is = record {
  few = omega (arith, place.few, length-append t (item ∷ []));
  short = omega (arith, place.short, size_push t item);
  items = All-append IsItem t (item ∷ []) limited.items (one item is);
}

-- one more item
pub encoded_more : (count : ℕ) (bytes : List ℕ) (item : Item) → IsEncoded count bytes → HasPlace (items_in count bytes) item → IsItem item
    → (items_in (count + 1) (bytes ++ item_bytes item) ≡ items_in count bytes ++ item ∷ []) × IsEncoded (count + 1) (bytes ++ item_bytes item)
encoded_more count bytes item was place is =
    encoded (items_in count bytes ++ item ∷ []) (count + 1) (bytes ++ item_bytes item)
    (omega (arith, length-append (items_in count bytes) (item ∷ []), was.many))
    (ap (λ (l : List ℕ). l ++ item_bytes item) was.is ∙ sym (flat_push (items_in count bytes) item))
    (limited_push (items_in count bytes) item was.limited place is)

-- how many bytes the transaction has
pub encoded_size : (count : ℕ) (bytes : List ℕ) → IsEncoded count bytes → length (txn_bytes (items_in count bytes)) ≡ 4 + length bytes
encoded_size count bytes was = omega (arith, txn_size (items_in count bytes), ap length was.is)

-- ---- with the room

-- the place for one more item
pub place_left : (count : ℕ) (old : Roomy) (item : Item) (seen : List ℕ) (size : ℕ) → IsKept count old → seen ≡ old.bytes → size ≡ length (item_bytes item) → (count < 65536) × (4 + length seen + size ≤ 67108864) → HasPlace (items_in count old.bytes) item
place_left count old item seen size was seen_is size_is left = record {
  few = omega (arith, left.0, was.encoded.many);
  short = omega (arith, left.1, ap length seen_is, size_is, encoded_size count old.bytes was.encoded);
}

-- one more item
pub kept_more : (count : ℕ) (old new : Roomy) (item : Item) → IsKept count old → HasPlace (items_in count old.bytes) item → IsItem item → new.bytes ≡ old.bytes ++ item_bytes item → length (item_bytes item) ≤ old.room - length old.bytes → old.room ≤ new.room
    → (items_in (count + 1) new.bytes ≡ items_in count old.bytes ++ item ∷ []) × IsKept (count + 1) new
kept_more count old new item was place is bytes room grown =
    let more = encoded_more count old.bytes item was.encoded place is in (
      ap (items_in (count + 1)) bytes ∙ more.0,
      record {
        encoded = subst (λ (b : List ℕ). IsEncoded (count + 1) b) (sym bytes) more.1;
        fits = omega (arith, ap length bytes, length-append old.bytes (item_bytes item), room, grown, was.fits);
      },
    )
