-- Transactions and batches: what is read is what was written, and what was written is read again.
use Rattle.std.proofs.Common.{◌≡◌, ℕ, zero, suc, ◌+◌, ◌-◌, ◌*◌, ◌^◌, ◌<◌, ◌≤◌, Bool, true, false, cond, List, [], ◌∷◌, ◌++◌, length, take, drop, Result, Ok, Err, refl, sym, ap, subst, ◌∙◌, append_assoc, length-append, arith}
use Rattle.std.specs.Prelude.{◌&&◌, nat_le, nat_lt, sum_by}
use Rattle.std.specs.Int.{w32, w64, to_be_bytes}
use Rattle.std.specs.List.{flat_map, All, AllByRecursion}
use Rattle.std.proofs.lemmas.Bool.{leb-true, le-leb, ltb-true, lt-ltb}
use Rattle.std.proofs.lemmas.List.{append-nil}
use Rattle.std.proofs.lemmas.List.Concat.{length-flat_map}
use Rattle.std.proofs.lemmas.List.Elements.{All-from_recursion, recursion_from_All}
use Rattle.message_core.specs.Reading.{◌>>=◌, allowed, number_at}
use Rattle.message_core.proofs.Fields.{IsBytes, bind_ok, allowed_ok, ok_is, Takes, Takes-then, wide32, wide64, number_takes, number_again}
use Rattle.journal_format.specs.Spelling.{Txn, item_bytes, txn_bytes, txns_bytes, batch_bytes, IsItem, IsTxn, IsBatch}
use Rattle.journal_format.specs.Reading.{part_at, many_at, item_at, txn_at, txns_at, txns_of, batch_at}
use Rattle.journal_format.proofs.Parts.{both_true, Many, many_takes, many_again, part_takes, part_again, all_ok, Spells, Rereads}
use Rattle.journal_format.proofs.ItemBytes.{item_spelled, item_reread}

-- ---- transactions

txn_spelled : Spells txn_at txn_bytes IsTxn
unfolding txn_at
txn_spelled bytes x fits e =
    let a = bind_ok (number_at w32 bytes) (λ count. allowed (nat_le 1 count.0 && nat_le count.0 65536) (length bytes) count >>= λ ok. many_at item_at ok.0 ok.1) x e in
    let b = bind_ok (allowed (nat_le 1 a.0.0 && nat_le a.0.0 65536) (length bytes) a.0) (λ ok. many_at item_at ok.0 ok.1) x a.2 in
    let g = allowed_ok (nat_le 1 a.0.0 && nat_le a.0.0 65536) (length bytes) a.0 b.0 b.1 in
    let read : many_at item_at a.0.0 a.0.1 ≡ Ok x = ap (λ (l : ℕ × List ℕ). many_at item_at l.0 l.1) g.1 ∙ b.2 in
    let t = number_takes w32 (2 ^ 32) wide32 bytes a.0 fits a.1 in
    let m = many_takes item_at item_bytes IsItem item_spelled a.0.0 a.0.1 x t.0.rest_fits read in
    let tests = both_true (nat_le 1 a.0.0) (nat_le a.0.0 65536) g.0 in
    let least : 1 ≤ a.0.0 = leb-true _ _ tests.0 in
    let most : a.0.0 ≤ 65536 = leb-true _ _ tests.1 in
    let both = Takes-then bytes (to_be_bytes w32 a.0.0) a.0.1 (flat_map item_bytes x.0) x.1 t.0 m.takes in (
      subst (λ (n : ℕ). Takes bytes (to_be_bytes w32 n ++ flat_map item_bytes x.0) x.1) (sym m.count) both,
      record { some = omega (arith, least, m.count); few = omega (arith, most, m.count); items = All-from_recursion IsItem x.0 m.all },
    )

txn_reread : Rereads txn_at txn_bytes IsTxn
unfolding txn_at
txn_reread t rest is =
    let least : nat_le 1 (length t) ≡ true = le-leb _ _ is.some in
    let most : nat_le (length t) 65536 ≡ true = le-leb _ _ is.few in
    let regrouped : txn_bytes t ++ rest ≡ to_be_bytes w32 (length t) ++ (flat_map item_bytes t ++ rest) = append_assoc (to_be_bytes w32 (length t)) (flat_map item_bytes t) rest in
    ap txn_at regrouped ∙ rw (number_again w32 (2 ^ 32) wide32 (length t) (flat_map item_bytes t ++ rest) (omega (arith, is.few)), least, most, many_again item_at item_bytes IsItem item_reread t rest (recursion_from_All IsItem t is.items)) refl

-- ---- all transactions of a batch

-- what reading them gives
record Txns (bytes : List ℕ) (ts : List Txn) (rest : List ℕ) : Type 0 where
  takes : Takes bytes (txns_bytes ts) rest
  some : 1 ≤ length ts
  few : length ts < 2 ^ 32
  txns : All IsTxn ts

txns_take : (bytes : List ℕ) (x : List Txn × List ℕ) → IsBytes bytes → txns_at bytes ≡ Ok x → Txns bytes x.0 x.1
unfolding txns_at
txns_take bytes x fits e =
    let a = bind_ok (number_at w32 bytes) (λ count. allowed (nat_le 1 count.0) (length bytes) count >>= λ ok. many_at txn_at ok.0 ok.1) x e in
    let b = bind_ok (allowed (nat_le 1 a.0.0) (length bytes) a.0) (λ ok. many_at txn_at ok.0 ok.1) x a.2 in
    let g = allowed_ok (nat_le 1 a.0.0) (length bytes) a.0 b.0 b.1 in
    let read : many_at txn_at a.0.0 a.0.1 ≡ Ok x = ap (λ (l : ℕ × List ℕ). many_at txn_at l.0 l.1) g.1 ∙ b.2 in
    let t = number_takes w32 (2 ^ 32) wide32 bytes a.0 fits a.1 in
    let m = many_takes txn_at txn_bytes IsTxn txn_spelled a.0.0 a.0.1 x t.0.rest_fits read in
    let least : 1 ≤ a.0.0 = leb-true _ _ g.0 in
    let both = Takes-then bytes (to_be_bytes w32 a.0.0) a.0.1 (flat_map txn_bytes x.0) x.1 t.0 m.takes in
    record {
      takes = subst (λ (n : ℕ). Takes bytes (to_be_bytes w32 n ++ flat_map txn_bytes x.0) x.1) (sym m.count) both;
      some = omega (arith, least, m.count);
      few = omega (arith, t.1, m.count);
      txns = All-from_recursion IsTxn x.0 m.all;
    }

txns_again : (ts : List Txn) (rest : List ℕ) → IsBatch ts → txns_at (txns_bytes ts ++ rest) ≡ Ok (ts, rest)
unfolding txns_at
txns_again ts rest is =
    let least : nat_le 1 (length ts) ≡ true = le-leb _ _ is.some in
    let regrouped : txns_bytes ts ++ rest ≡ to_be_bytes w32 (length ts) ++ (flat_map txn_bytes ts ++ rest) = append_assoc (to_be_bytes w32 (length ts)) (flat_map txn_bytes ts) rest in
    ap txns_at regrouped ∙ rw (number_again w32 (2 ^ 32) wide32 (length ts) (flat_map txn_bytes ts ++ rest) is.few, least, many_again txn_at txn_bytes IsTxn txn_reread ts rest (recursion_from_All IsTxn ts is.txns)) refl

whole_again : (ts : List Txn) → IsBatch ts → txns_of (txns_bytes ts) ≡ Ok ts
unfolding txns_of
whole_again ts is =
    let read : txns_at (txns_bytes ts) ≡ Ok (ts, []) = ap txns_at (sym (append-nil (txns_bytes ts))) ∙ txns_again ts [] is in
    rw read refl

-- ---- batches

-- what reading a batch gives
pub record BatchRead (bytes : List ℕ) (ts : List Txn) (rest : List ℕ) : Type 0 where
  pub batch : IsBatch ts
  pub parts : bytes ≡ batch_bytes ts ++ rest
  pub gate : 0 < length rest

pub batch_takes : (bytes : List ℕ) (x : List Txn × List ℕ) → IsBytes bytes → batch_at bytes ≡ Ok x → BatchRead bytes x.0 x.1
unfolding batch_at txns_of
batch_takes bytes x fits e =
    let a = bind_ok (number_at w64 bytes) (λ len. allowed (nat_lt len.0 (length len.1)) (length bytes) len >>= λ ok. part_at txns_of ok.0 ok.1) x e in
    let b = bind_ok (allowed (nat_lt a.0.0 (length a.0.1)) (length bytes) a.0) (λ ok. part_at txns_of ok.0 ok.1) x a.2 in
    let g = allowed_ok (nat_lt a.0.0 (length a.0.1)) (length bytes) a.0 b.0 b.1 in
    let read : part_at txns_of a.0.0 a.0.1 ≡ Ok x = ap (λ (l : ℕ × List ℕ). part_at txns_of l.0 l.1) g.1 ∙ b.2 in
    let t = number_takes w64 (2 ^ 64) wide64 bytes a.0 fits a.1 in
    let p = part_takes txns_of a.0.0 a.0.1 x t.0.rest_fits read in
    let w = txns_take p.part (x.0, []) p.fits (all_ok (length p.part) (txns_at p.part) x.0 p.read) in
    let same : p.part ≡ txns_bytes x.0 = w.takes.parts ∙ append-nil (txns_bytes x.0) in
    let size : a.0.0 ≡ length (txns_bytes x.0) = sym p.len_is ∙ ap length same in
    let room : a.0.0 < length a.0.1 = ltb-true _ _ g.0 in
    let both = Takes-then bytes (to_be_bytes w64 a.0.0) a.0.1 p.part x.1 t.0 p.takes in
    record {
      batch = record { some = w.some; few = w.few; txns = w.txns; short = omega (arith, t.1, size) };
      parts = both.parts ∙ ap (λ (n : ℕ). (to_be_bytes w64 n ++ p.part) ++ x.1) size ∙ ap (λ (l : List ℕ). (to_be_bytes w64 (length (txns_bytes x.0)) ++ l) ++ x.1) same;
      gate = omega (arith, room, p.len_is, ap length p.takes.parts, length-append p.part x.1);
    }

pub batch_again : (ts : List Txn) (rest : List ℕ) → IsBatch ts → 0 < length rest → batch_at (batch_bytes ts ++ rest) ≡ Ok (ts, rest)
unfolding batch_at
batch_again ts rest is gate =
    let room : nat_lt (length (txns_bytes ts)) (length (txns_bytes ts ++ rest)) ≡ true = lt-ltb _ _ (omega (arith, gate, length-append (txns_bytes ts) rest)) in
    let regrouped : batch_bytes ts ++ rest ≡ to_be_bytes w64 (length (txns_bytes ts)) ++ (txns_bytes ts ++ rest) = append_assoc (to_be_bytes w64 (length (txns_bytes ts))) (txns_bytes ts) rest in
    ap batch_at regrouped ∙ rw (number_again w64 (2 ^ 64) wide64 (length (txns_bytes ts)) (txns_bytes ts ++ rest) is.short, room, part_again txns_of (txns_bytes ts) rest ts (whole_again ts is)) refl

-- ---- sizes

pub txns_size : (ts : List Txn) → length (txns_bytes ts) ≡ 4 + sum_by (λ t. length (txn_bytes t)) ts
txns_size ts = omega (arith, length-append (to_be_bytes w32 (length ts)) (flat_map txn_bytes ts), length-flat_map txn_bytes ts)

pub batch_size : (ts : List Txn) → length (batch_bytes ts) ≡ 12 + sum_by (λ t. length (txn_bytes t)) ts
batch_size ts = omega (arith, length-append (to_be_bytes w64 (length (txns_bytes ts))) (txns_bytes ts), txns_size ts)

-- how many bytes a transaction has
pub txn_size : (t : Txn) → length (txn_bytes t) ≡ 4 + length (flat_map item_bytes t)
txn_size t = length-append (to_be_bytes w32 (length t)) (flat_map item_bytes t)
