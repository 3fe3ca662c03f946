-- A batch at its place among all bytes.
use Rattle.std.proofs.Common.{◌≡◌, ℕ, ◌+◌, ◌-◌, ◌<◌, ◌≤◌, List, ◌++◌, length, take, drop, min, Result, Ok, Err, refl, sym, ap, subst, ◌∙◌, length-append, arith, inl, inr}
use Rattle.std.proofs.lemmas.Bool.{cases_lt}
use Rattle.std.proofs.lemmas.List.{length-drop, drop-drop, drop_at, drop_all, take_all, take-append-drop}
use Rattle.message_core.specs.Reading.{Read}
use Rattle.message_core.proofs.Fields.{IsBytes, ok_is}
use Rattle.journal_format.specs.Spelling.{Txn, batch_bytes, IsBatch}
use Rattle.journal_format.specs.Reading.{batch_at}
use Rattle.journal_format.specs.Batches.{IsBatchAt}
use Rattle.journal_format.proofs.Parts.{IsBytes-behind}
use Rattle.journal_format.proofs.BatchBytes.{BatchRead, batch_takes, batch_again}

-- what stands from a place on, also past the end
pub drop_within : (k at : ℕ) (bytes : List ℕ) → k ≡ min (length bytes) at → drop k bytes ≡ drop at bytes
drop_within k at bytes is =
    elim (cases_lt at (length bytes)) [
      | inl lt ↦ let same : k ≡ at = omega (arith, lt, is) in ap (λ (n : ℕ). drop n bytes) same
      | inr le ↦ drop_all k bytes (omega (arith, le, is)) ∙ sym (drop_all at bytes le)
    ]

-- what is read from there, as a slice
pub read_within : (k at : ℕ) (bytes : List ℕ) (r : Read (List Txn)) → k ≡ min (length bytes) at → batch_at (take (length bytes - k) (drop k bytes)) ≡ r → batch_at (drop at bytes) ≡ r
read_within k at bytes r is e =
    let whole : take (length bytes - k) (drop k bytes) ≡ drop k bytes = take_all (length bytes - k) (drop k bytes) (omega (arith, length-drop k bytes)) in
    ap batch_at (sym (whole ∙ drop_within k at bytes is)) ∙ e

here : (at : ℕ) (bytes : List ℕ) (ts : List Txn) (rest : List ℕ) → IsBytes bytes → batch_at (drop at bytes) ≡ Ok (ts, rest) → BatchRead (drop at bytes) ts rest
here at bytes ts rest fits e = batch_takes (drop at bytes) (ts, rest) (IsBytes-behind (take at bytes) (drop at bytes) (subst IsBytes (sym (take-append-drop at bytes)) fits)) e

-- where the bytes behind a batch begin
pub next_place : (at : ℕ) (bytes : List ℕ) (ts : List Txn) (rest : List ℕ) → IsBytes bytes → batch_at (drop at bytes) ≡ Ok (ts, rest) → at + (length (batch_bytes ts) + length rest) ≡ length bytes
next_place at bytes ts rest fits e =
    let b = here at bytes ts rest fits e in
    omega (arith, length-drop at bytes, ap length b.parts, length-append (batch_bytes ts) rest, b.gate)

rest_is : (at : ℕ) (bytes : List ℕ) (ts : List Txn) (rest : List ℕ) → IsBytes bytes → batch_at (drop at bytes) ≡ Ok (ts, rest) → drop (at + length (batch_bytes ts)) bytes ≡ rest
rest_is at bytes ts rest fits e =
    let b = here at bytes ts rest fits e in
    sym (drop-drop (length (batch_bytes ts)) at bytes) ∙ ap (λ (l : List ℕ). drop (length (batch_bytes ts)) l) b.parts ∙ drop_at (batch_bytes ts) rest (length (batch_bytes ts)) refl

pub found_at : (at next : ℕ) (bytes : List ℕ) (ts : List Txn) (rest : List ℕ) → IsBytes bytes → batch_at (drop at bytes) ≡ Ok (ts, rest) → next ≡ length bytes - length rest → IsBatchAt bytes at ts next
found_at at next bytes ts rest fits e is =
    let b = here at bytes ts rest fits e in
    let place : next ≡ at + length (batch_bytes ts) = omega (arith, next_place at bytes ts rest fits e, is) in
    record {
      batch = b.batch;
      is = b.parts ∙ ap (λ (l : List ℕ). batch_bytes ts ++ l) (sym (rest_is at bytes ts rest fits e) ∙ ap (λ (n : ℕ). drop n bytes) (sym place));
      next_is = place;
      gate = omega (arith, next_place at bytes ts rest fits e, place, b.gate);
    }

pub exact_at : (at next : ℕ) (bytes : List ℕ) (ts : List Txn) (rest : List ℕ) → IsBytes bytes → batch_at (drop at bytes) ≡ Ok (ts, rest) → next ≡ length bytes - length rest → batch_at (drop at bytes) ≡ Ok (ts, drop next bytes)
exact_at at next bytes ts rest fits e is =
    let place : next ≡ at + length (batch_bytes ts) = omega (arith, next_place at bytes ts rest fits e, is) in
    e ∙ ap (λ (l : List ℕ). Ok (ts, l)) (sym (rest_is at bytes ts rest fits e) ∙ ap (λ (n : ℕ). drop n bytes) (sym place))

-- a batch that stands there is what reading gives
pub placed_again : (at next : ℕ) (bytes : List ℕ) (ts : List Txn) → IsBatchAt bytes at ts next → batch_at (drop at bytes) ≡ Ok (ts, drop next bytes)
placed_again at next bytes ts is = ap batch_at is.is ∙ batch_again ts (drop next bytes) is.batch (omega (arith, is.gate, length-drop next bytes))

abbrev gave : List Txn × List ℕ → Read (List Txn)
gave x = Ok x

-- what was read is the batch that stands there
pub only_at : (at next place : ℕ) (bytes : List ℕ) (ts us : List Txn) (rest : List ℕ) → batch_at (drop at bytes) ≡ Ok (us, rest) → place ≡ length bytes - length rest → IsBatchAt bytes at ts next → (us ≡ ts) × (place ≡ next)
only_at at next place bytes ts us rest e place_is is =
    let same = ok_is (us, rest) (ts, drop next bytes) (sym e ∙ placed_again at next bytes ts is) in
    let rests : rest ≡ drop next bytes = ap (λ (x : List Txn × List ℕ). x.1) same in
    (ap (λ (x : List Txn × List ℕ). x.0) same, omega (arith, ap length rests, length-drop next bytes, is.gate, place_is))

abbrev failed : ℕ → Read (List Txn)
failed left = Err left

not_both : (left : ℕ) (x : List Txn × List ℕ) → failed left ≡ gave x → ⊥
not_both left x e = cc

-- where nothing was read no batch stands
pub not_at : (at next left : ℕ) (bytes : List ℕ) (ts : List Txn) → batch_at (drop at bytes) ≡ Err left → IsBatchAt bytes at ts next → ⊥
not_at at next left bytes ts e is = not_both left (ts, drop next bytes) (sym e ∙ placed_again at next bytes ts is)
