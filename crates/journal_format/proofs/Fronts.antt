-- Fronts of journals.
use Rattle.std.proofs.Common.{◌≡◌, ◌≢◌, ◌<◌, ℕ, zero, suc, List, [], ◌∷◌, ◌++◌, length, refl, sym, ap, ◌∙◌, append_assoc, arith}
use Rattle.std.proofs.lemmas.List.{append-nil}
use Rattle.std.proofs.lemmas.List.Elements.{All-append}
use Rattle.std.specs.List.{flat_map, All}
use Rattle.journal_format.specs.Spelling.{Txn, batch_bytes, IsBatch}
use Rattle.journal_format.specs.Journal.{header, open_bytes, all_txns, Front, IsJournal}

pub flat_push : (bs : List (List Txn)) (b : List Txn) → flat_map open_bytes (bs ++ b ∷ []) ≡ flat_map open_bytes bs ++ open_bytes b
flat_push [] b = append-nil (open_bytes b)
flat_push (x ∷ bs) b = ap (λ (l : List ℕ). open_bytes x ++ l) (flat_push bs b) ∙ sym (append_assoc (open_bytes x) (flat_map open_bytes bs) (open_bytes b))

pub txns_push : (bs : List (List Txn)) (b : List Txn) → all_txns (bs ++ b ∷ []) ≡ all_txns bs ++ b
txns_push [] b = append-nil b
txns_push (x ∷ bs) b = ap (λ (l : List Txn). x ++ l) (txns_push bs b) ∙ sym (append_assoc x (all_txns bs) b)

one : (b : List Txn) → IsBatch b → All IsBatch (b ∷ [])
one b good zero d lt = good
one b good (suc k) d lt = absurd (omega (arith, lt))

pub front_grows : (before : List ℕ) (C B : List Txn) → Front before C → IsBatch B → Front (before ++ open_bytes B) (C ++ B)
front_grows before C B front good = record {
  batches = front.batches ++ B ∷ [];
  is = ap (λ (l : List ℕ). l ++ open_bytes B) front.is ∙ append_assoc header (flat_map open_bytes front.batches) (open_bytes B) ∙ ap (λ (l : List ℕ). header ++ l) (sym (flat_push front.batches B));
  good = All-append IsBatch front.batches (B ∷ []) front.good (one B good);
  txns = ap (λ (l : List Txn). l ++ B) front.txns ∙ sym (txns_push front.batches B);
}
