-- Lists of transactions that are being filled, and the batch that they make.
use Rattle.std.proofs.Common.{◌≡◌, ℕ, zero, suc, ◌+◌, ◌*◌, ◌^◌, ◌<◌, ◌≤◌, List, [], ◌∷◌, ◌++◌, length, map, take, get_or, refl, sym, ap, ◌∙◌, append_assoc, length-append, arith}
use Rattle.std.specs.Prelude.{sum_by}
use Rattle.std.specs.Int.{w32, w64, to_be_bytes}
use Rattle.std.specs.List.{flat_map, All, AllByRecursion}
use Rattle.std.proofs.lemmas.List.{append-nil, take_more, length-map}
use Rattle.std.proofs.lemmas.List.Concat.{flat_map-append, length-flat_map}
use Rattle.std.proofs.lemmas.List.Sums.{sum_by-append}
use Rattle.std.proofs.lemmas.List.Elements.{All-from_recursion, recursion_from_All}
use Rattle.journal_format.specs.Spelling.{Txn, txn_bytes, txns_bytes, batch_bytes, IsTxn, IsBatch}
use Rattle.journal_format.specs.Filled.{Filled, IsLimited}
use Rattle.journal_format.specs.Batches.{lists_of}
use Rattle.journal_format.proofs.Parts.{put_four}
use Rattle.journal_format.proofs.BatchBytes.{txns_size}

-- the bytes and the size of one
abbrev pub bytes_of : Filled → List ℕ
bytes_of t = txn_bytes t.items

abbrev pub size_of : Filled → ℕ
size_of t = length (txn_bytes t.items)

pub bytes_more : (ts : List Filled) (i : ℕ) (t : Filled) → i < length ts → t ≡ get_or ts i t → flat_map bytes_of (take (i + 1) ts) ≡ flat_map bytes_of (take i ts) ++ txn_bytes t.items
bytes_more ts i t lt is =
    ap (flat_map bytes_of) (take_more ts i t lt) ∙ flat_map-append bytes_of (take i ts) (get_or ts i t ∷ []) ∙ ap (λ (x : List ℕ). flat_map bytes_of (take i ts) ++ x) (append-nil (bytes_of (get_or ts i t))) ∙ ap (λ (x : Filled). flat_map bytes_of (take i ts) ++ bytes_of x) (sym is)

pub size_more : (ts : List Filled) (i : ℕ) (t : Filled) → i < length ts → t ≡ get_or ts i t → sum_by size_of (take (i + 1) ts) ≡ sum_by size_of (take i ts) + length (txn_bytes t.items)
size_more ts i t lt is =
    ap (sum_by size_of) (take_more ts i t lt) ∙ sum_by-append size_of (take i ts) (get_or ts i t ∷ []) ∙ ap (λ (x : Filled). sum_by size_of (take i ts) + (0 + size_of x)) (sym is) ∙ omega arith

-- what they have as lists of items
pub bytes_listed : (ts : List Filled) → flat_map bytes_of ts ≡ flat_map txn_bytes (lists_of ts)
bytes_listed [] = refl
bytes_listed (t ∷ ts) = ap (λ (l : List ℕ). txn_bytes t.items ++ l) (bytes_listed ts)

pub size_listed : (ts : List Filled) → sum_by size_of ts ≡ sum_by (λ t. length (txn_bytes t)) (lists_of ts)
size_listed ts = sym (length-flat_map bytes_of ts) ∙ ap length (bytes_listed ts) ∙ length-flat_map txn_bytes (lists_of ts)

all_txns : (ts : List Filled) → AllByRecursion (λ t. 1 ≤ length t.items) ts → AllByRecursion (λ t. IsLimited t.items) ts → AllByRecursion IsTxn (lists_of ts)
all_txns [] some limited = tt
all_txns (t ∷ ts) some limited = (record { some = some.0; few = limited.0.few; items = limited.0.items }, all_txns ts some.1 limited.1)

-- they make a batch
pub batch_made : (ts : List Filled) → 1 ≤ length ts → length ts ≤ 4294967295 → All (λ t. 1 ≤ length t.items) ts → All (λ t. IsLimited t.items) ts → sum_by size_of ts ≤ 67108864 * length ts → IsBatch (lists_of ts)
batch_made ts least most some limited size = record {
  some = omega (arith, least, length-map ts (λ t. t.items));
  few = omega (arith, most, length-map ts (λ t. t.items));
  txns = All-from_recursion IsTxn (lists_of ts) (all_txns ts (recursion_from_All (λ t. 1 ≤ length t.items) ts some) (recursion_from_All (λ t. IsLimited t.items) ts limited));
  short = omega (arith, size, most, txns_size (lists_of ts), size_listed ts);
}

-- one append after the other
pub batch_put : (ts : List Filled) (size : ℕ) (old b1 b2 b3 b4 x1 x2 : List ℕ)
    → b1 ≡ old ++ x1 → x1 ≡ to_be_bytes w64 size → size ≡ 4 + sum_by size_of ts
    → b2 ≡ b1 ++ x2 → x2 ≡ to_be_bytes w32 (length ts)
    → b3 ≡ b2 ++ flat_map bytes_of ts
    → b4 ≡ b3 ++ 0 ∷ []
    → b4 ≡ old ++ (batch_bytes (lists_of ts) ++ 0 ∷ [])
batch_put ts size old b1 b2 b3 b4 x1 x2 e1 s1 z e2 s2 e3 e4 =
    let len : size ≡ length (txns_bytes (lists_of ts)) = omega (arith, z, size_listed ts, txns_size (lists_of ts)) in
    let count : length ts ≡ length (lists_of ts) = sym (length-map ts (λ t. t.items)) in
    let first : x1 ≡ to_be_bytes w64 (length (txns_bytes (lists_of ts))) = s1 ∙ ap (λ (n : ℕ). to_be_bytes w64 n) len in
    let second : x2 ≡ to_be_bytes w32 (length (lists_of ts)) = s2 ∙ ap (λ (n : ℕ). to_be_bytes w32 n) count in
    put_four old x1 x2 (flat_map bytes_of ts) (0 ∷ []) b1 b2 b3 b4 e1 e2 e3 e4 ∙ (λ i. old ++ ((first i ++ (second i ++ bytes_listed ts i)) ++ 0 ∷ []))
