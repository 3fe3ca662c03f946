-- Creating and opening a journal.
use Rattle.std.proofs.Common.{◌≡◌, ◌≢◌, ◌<◌, ◌+◌, ◌-◌, ◌^◌, ℕ, List, [], ◌∷◌, ◌++◌, length, get_or, take, drop, refl, sym, ◌∙◌, ap, subst, arith, append_assoc, length-append}
use Rattle.std.proofs.lemmas.List.{append-nil, take_at, length-take-le, nil_from_length}
use Rattle.std.proofs.Math.Seq.{drop-nil}
use Rattle.std.specs.Prelude.{Option, Some, None, IfSome, Result, Ok, Err, OnOk, IfOk, IfErr, IsSomeAnd}
use Rattle.outside_io.specs.Told.{WhileTold}
use Rattle.disk_core.specs.Images.{Holds, Only, Still, NoMore, IsTold}
use Rattle.journal_format.specs.Spelling.{Txn}
use Rattle.journal_format.specs.Journal.{header, open_bytes, Front, IsJournal, IsHeaded, IsDamaged}
use Rattle.journal_format.specs.Reading.{batch_at}
use Rattle.journal_format.specs.Batches.{IsBatchAt, Reads}
use Rattle.journal_format.specs.declared.faults.BatchFault.{BatchFault}
use Rattle.journal_format.specs.declared.faults.BatchFault.TheVariants.{NotBatch, NoMemory}
use Rattle.journal_format.proofs.Fronts.{front_grows}
use Rattle.journal_core.specs.declared.faults.OpenFault.{OpenFault}
use Rattle.journal_core.specs.declared.faults.OpenFault.TheVariants as open_
use Rattle.journal_core.specs.declared.journal.Trust.TheVariants.{Clean}
use Rattle.journal_core.specs.Stands.{Shut, Stands}
use Rattle.journal_core.specs.Opening.{OpenFits, GateFits, ReadFits, IsGateOf, OpenedAs, fault_of}
use Rattle.journal_core.proofs.Parts.{split_at, shut_journal, shut_long}
use Rattle.journal_core.proofs.Moments.{Was, told_was, read_image}

-- a header alone is a front
pub first_front : Front header []
first_front = record { batches = []; is = sym (append-nil header); good = λ k d lt. absurd (omega (arith, lt)); txns = refl }

-- header and closed gate, written to nothing
pub created : (old new : Option (List ℕ)) (images : List ℕ → Type 0) (first : List ℕ) → first ≡ header ++ (0 ∷ []) → IfSome old (λ b. 0 ≡ length b) → WhileTold old new (Holds 0 first) → Only new images
    → Stands images 16 Clean [] []
created old new images first is none written only = record {
  before = header;
  front = first_front;
  batch = λ same. absurd (cc same);
  each = λ c i.
      let w : Was old (Holds 0 first) c = told_was old new (Holds 0 first) c written (only c i) in
      let empty : w.was ≡ [] = nil_from_length w.was (sym (read_image old (λ b. 0 ≡ length b) w.was none w.told)) in
      let all : c ≡ first = w.step ∙ ap (λ (l : List ℕ). first ++ drop (0 + length first) l) empty ∙ ap (λ (l : List ℕ). first ++ l) (drop-nil (0 + length first)) ∙ append-nil first in
      record { place = refl; small = omega arith; is = record { gate = 0; rest = []; shut = omega arith; is = all ∙ is } };
}

-- ---- the first gate that isn't open

-- an open gate, and what stands behind it
opened_at : (bytes : List ℕ) (gate : ℕ) → gate < length bytes → get_or bytes gate 0 ≡ 1 → bytes ≡ take gate bytes ++ (1 ∷ drop (gate + 1) bytes)
opened_at bytes gate lt is = split_at gate bytes lt ∙ ap (λ g. take gate bytes ++ (g ∷ drop (gate + 1) bytes)) is

-- up to the next gate there is a batch more
pub grown_bytes : (bytes : List ℕ) (gate next : ℕ) (ts : List Txn) → gate < length bytes → get_or bytes gate 0 ≡ 1 → IsBatchAt bytes (gate + 1) ts next → take next bytes ≡ take gate bytes ++ open_bytes ts
grown_bytes bytes gate next ts lt is b =
    let whole : bytes ≡ (take gate bytes ++ open_bytes ts) ++ drop next bytes =
    opened_at bytes gate lt is ∙ ap (λ (l : List ℕ). take gate bytes ++ (1 ∷ l)) b.is ∙ sym (append_assoc (take gate bytes) (open_bytes ts) (drop next bytes)) in
    let size : length (take gate bytes ++ open_bytes ts) ≡ next = omega (arith, length-append (take gate bytes) (open_bytes ts), length-take-le gate bytes (omega (arith, lt)), b.next_is) in
    ap (λ (l : List ℕ). take next l) whole ∙ take_at (take gate bytes ++ open_bytes ts) (drop next bytes) next size

pub next_front : (bytes : List ℕ) (gate next : ℕ) (ts C : List Txn) → gate < length bytes → get_or bytes gate 0 ≡ 1 → Front (take gate bytes) C → IsBatchAt bytes (gate + 1) ts next → Front (take next bytes) (C ++ ts)
next_front bytes gate next ts C lt is front b = subst (λ (l : List ℕ). Front l (C ++ ts)) (sym (grown_bytes bytes gate next ts lt is b)) (front_grows (take gate bytes) C ts front b.batch)

pub damaged_at : (bytes : List ℕ) (gate at left : ℕ) (C : List Txn) → gate < length bytes → get_or bytes gate 0 ≡ 1 → Front (take gate bytes) C → batch_at (drop (gate + 1) bytes) ≡ Err left
    → at ≡ gate + 1 + (length (drop (gate + 1) bytes) - left) → IsDamaged bytes at
damaged_at bytes gate at left C lt is front fault place = record {
  before = take gate bytes;
  commits = C;
  rest = drop (gate + 1) bytes;
  is = opened_at bytes gate lt is;
  front = front;
  left = left;
  fault = fault;
  place = omega (arith, place, length-take-le gate bytes (omega (arith, lt)));
}

-- why the batch behind an open gate is none
pub damaged_fits : (bytes : List ℕ) (gate : ℕ) (C : List Txn) (fault : BatchFault) → gate < length bytes → get_or bytes gate 0 ≡ 1 → Front (take gate bytes) C
    → Reads (Err fault) bytes (gate + 1) (batch_at (drop (gate + 1) bytes)) → GateFits (fault_of fault) bytes
damaged_fits bytes gate C (NotBatch at) lt is front r = damaged_at bytes gate at r.0 C lt is front r.1 r.2
damaged_fits bytes gate C NoMemory lt is front r = tt

pub gate_found : (bytes : List ℕ) (gate : ℕ) (C : List Txn) → gate < length bytes → get_or bytes gate 0 ≢ 1 → Front (take gate bytes) C → IsGateOf bytes gate
gate_found bytes gate C lt shut front = record {
  before = take gate bytes;
  commits = C;
  front = front;
  place = length-take-le gate bytes (omega (arith, lt));
  shut = record { gate = get_or bytes gate 0; rest = drop (gate + 1) bytes; shut = shut; is = split_at gate bytes lt };
}

-- ---- a disk that was synced, and then read

-- what was read is each image
read_is : (seen1 seen2 : Option (List ℕ)) (v c : List ℕ) → IsTold seen2 → Still seen1 seen2 → seen1 ≡ Some c → IfSome seen2 (λ b. v ≡ b) → v ≡ c
read_is seen1 None v c told still is p = absurd (cc told)
read_is None (Some y) v c told still is p = absurd still
read_is (Some x) (Some y) v c told still is p = let e : x ≡ c = cc is in p ∙ still ∙ e

read_short : (seen : Option (List ℕ)) (v : List ℕ) → IsTold seen → IfSome seen (λ b. length b < 2 ^ 63) → IfSome seen (λ b. v ≡ b) → length v < 2 ^ 63
read_short None v told short p = absurd (cc told)
read_short (Some y) v told short p = omega (arith, short, ap length p)

-- a disk that was synced, and then read
pub read_each : {V E : Type 0} (items : V → List ℕ) (r : Result V E) (seen1 seen2 : Option (List ℕ)) (images1 images2 : List ℕ → Type 0) → NoMore images1 images2 → Only seen1 images1 → Still seen1 seen2
    → ((c : List ℕ) → images2 c → IsTold seen2) → IfOk r (λ v. IfSome seen2 (λ b. items v ≡ b)) → IfOk r (λ v. (c : List ℕ) → images2 c → items v ≡ c)
read_each items (Ok v) seen1 seen2 images1 images2 none only still told read = λ c i. read_is seen1 seen2 (items v) c (told c i) still (only c (none c i)) read
read_each items (Err e) seen1 seen2 images1 images2 none only still told read = tt

module _ (seen : Option (List ℕ)) (images : List ℕ → Type 0) (v : List ℕ) (each : (c : List ℕ) → images c → v ≡ c)
    (told : (c : List ℕ) → images c → IsTold seen) (short : IfSome seen (λ b. length b < 2 ^ 63)) (read : IfSome seen (λ b. v ≡ b)) where
  pub opened_as : (bytes : List ℕ) (gate : ℕ) → bytes ≡ v → IsGateOf v gate → OpenedAs bytes images gate Clean
  opened_as bytes gate same g = (
    g.commits,
    subst (λ (l : List ℕ). IsJournal l g.commits) (sym same) (shut_journal g.before g.commits v g.front g.shut),
    record {
      before = g.before;
      front = g.front;
      batch = λ is. absurd (cc is);
      each = λ c i.
          let most = read_short seen v (told c i) short read in
          record { place = g.place; small = omega (arith, g.place, most, shut_long g.before v g.shut); is = subst (λ (l : List ℕ). Shut g.before l) (each c i) g.shut };
    },
  )

  pub opened_ok : {E : Type 0} (r : Result (ℕ × List ℕ) E) → IfOk r (λ x. IsGateOf v x.0) → IfOk r (λ x. x.1 ≡ v) → IfOk r (λ x. OpenedAs x.1 images x.0 Clean)
  opened_ok (Ok x) g same = opened_as x.1 x.0 same g
  opened_ok (Err e) g same = tt

told_as : (v : List ℕ) (seen : Option (List ℕ)) (bytes : List ℕ) → bytes ≡ v → IfSome seen (λ b. v ≡ b) → IfSome seen (λ b. bytes ≡ b)
told_as v None bytes same p = tt
told_as v (Some y) bytes same p = same ∙ p

pub told_ok : {E : Type 0} (seen : Option (List ℕ)) (v : List ℕ) → IfSome seen (λ b. v ≡ b) → (r : Result (ℕ × List ℕ) E) → IfOk r (λ x. x.1 ≡ v) → IfOk r (λ x. IfSome seen (λ b. x.1 ≡ b))
told_ok seen v read (Ok x) same = told_as v seen x.1 same read
told_ok seen v read (Err e) same = tt

-- ---- faults
