-- Reading the batches of a journal from gate to gate.
use Rattle.std.proofs.Common.{◌≡◌, ◌≢◌, ◌<◌, ◌≤◌, ◌+◌, ◌^◌, ℕ, List, [], ◌∷◌, ◌++◌, length, get_or, take, drop, refl, sym, ◌∙◌, ap, subst, arith, append_assoc, length-append}
use Rattle.std.proofs.lemmas.List.{append-nil, take_at, length-take-le}
use Rattle.std.proofs.lemmas.List.Elements.{All-append, All-cons, All-nil}
use Rattle.std.specs.List.{flat_map}
use Rattle.std.specs.Prelude.{Option, IfSome, Result, Ok, Err, IfOk}
use Rattle.disk_core.specs.Images.{IsTold}
use Rattle.journal_format.specs.declared.batches.Batch.{Batch}
use Rattle.journal_format.specs.Spelling.{Txn, txn_bytes, batch_bytes, IsBatch}
use Rattle.journal_format.specs.Journal.{header, open_bytes, Front, IsHeaded}
use Rattle.journal_format.specs.Batches.{IsBatchAt}
use Rattle.journal_format.proofs.Fronts.{flat_push, txns_push}
use Rattle.journal_core.specs.declared.journal.Trust.TheVariants.{Clean}
use Rattle.journal_core.specs.Opening.{IsGateOf, batches_from, AreBatches, OpenedBatches}
use Rattle.journal_core.proofs.Parts.{split_at}
use Rattle.journal_core.proofs.Gates.{grown_bytes, gate_found, opened_as}

-- the bytes before this gate are the front of a journal with so many transactions, and these are its batches
pub record ReadTo (bytes : List ℕ) (gate commits : ℕ) (read : List Batch) : Type 0 where
  pub within : gate < length bytes
  pub txns : List Txn
  pub front : Front (take gate bytes) txns
  pub commits_are : commits ≡ length txns
  pub few : commits ≤ gate
  pub read_is : read ≡ batches_from 16 front.batches

pub read_first : (bytes : List ℕ) → IsHeaded bytes → ReadTo bytes 16 0 []
read_first bytes headed = record {
  within = omega (arith, headed.gate);
  txns = [];
  front = record { batches = []; is = headed.header_is ∙ sym (append-nil header); good = All-nil IsBatch; txns = refl };
  commits_are = refl;
  few = omega arith;
  read_is = refl;
}

flat_long : (ts : List Txn) → length ts ≤ length (flat_map txn_bytes ts)
flat_long [] = omega arith
flat_long (t ∷ ts) = omega (arith, flat_long ts, length-append (txn_bytes t) (flat_map txn_bytes ts))

-- a batch has more bytes than transactions
pub batch_long : (ts : List Txn) → length ts ≤ length (batch_bytes ts)
batch_long ts = omega (arith, flat_long ts)

-- one more batch
batches_push : (gate : ℕ) (done : List (List Txn)) (b : List Txn) → batches_from gate (done ++ b ∷ []) ≡ batches_from gate done ++ (record { txns = b; next = (gate + length (flat_map open_bytes done)) + length (open_bytes b) }) ∷ []
batches_push gate [] b = let z : gate ≡ gate + 0 = omega arith in ap (λ (n : ℕ). (record { txns = b; next = n + length (open_bytes b) }) ∷ []) z
batches_push gate (d ∷ done) b =
    let place : (gate + length (open_bytes d)) + length (flat_map open_bytes done) ≡ gate + length (flat_map open_bytes (d ∷ done)) = omega (arith, length-append (open_bytes d) (flat_map open_bytes done)) in
    let rest = batches_push (gate + length (open_bytes d)) done b in
    ap (λ (bs : List Batch). (record { txns = d; next = gate + length (open_bytes d) }) ∷ bs)
    (rest ∙ ap (λ (n : ℕ). batches_from (gate + length (open_bytes d)) done ++ (record { txns = b; next = n + length (open_bytes b) }) ∷ []) place)

-- the place of a gate, by the batches before it
gate_place : (bytes : List ℕ) (gate : ℕ) (C : List Txn) → gate < length bytes → (f : Front (take gate bytes) C) → gate ≡ 16 + length (flat_map open_bytes f.batches)
gate_place bytes gate C within f = omega (arith, length-take-le gate bytes (omega (arith, within)), ap length f.is, length-append header (flat_map open_bytes f.batches))

-- the batch behind an open gate was read
pub read_more : (bytes : List ℕ) (gate commits : ℕ) (read : List Batch) (b : Batch) → ReadTo bytes gate commits read → get_or bytes gate 0 ≡ 1 → IsBatchAt bytes (gate + 1) b.txns b.next → ReadTo bytes b.next (commits + length b.txns) (read ++ b ∷ [])
read_more bytes gate commits read b was open_ is =
    let place : b.next ≡ (16 + length (flat_map open_bytes was.front.batches)) + length (open_bytes b.txns) = omega (arith, is.next_is, gate_place bytes gate was.txns was.within was.front) in
    record {
      within = is.gate;
      txns = was.txns ++ b.txns;
      front = record {
        batches = was.front.batches ++ b.txns ∷ [];
        is = grown_bytes bytes gate b.next b.txns was.within open_ is ∙ ap (λ (l : List ℕ). l ++ open_bytes b.txns) was.front.is ∙ append_assoc header (flat_map open_bytes was.front.batches) (open_bytes b.txns) ∙ ap (λ (l : List ℕ). header ++ l) (sym (flat_push was.front.batches b.txns));
        good = All-append IsBatch was.front.batches (b.txns ∷ []) was.front.good (All-cons IsBatch b.txns [] is.batch (All-nil IsBatch));
        txns = ap (λ (l : List Txn). l ++ b.txns) was.front.txns ∙ sym (txns_push was.front.batches b.txns);
      };
      commits_are = omega (arith, was.commits_are, length-append was.txns b.txns);
      few = omega (arith, was.few, batch_long b.txns, is.next_is);
      read_is = (λ i. was.read_is i ++ (record { txns = b.txns; next = place i }) ∷ []) ∙ sym (batches_push 16 was.front.batches b.txns);
    }

pub read_less : (bytes : List ℕ) (gate : ℕ) (ts : List Txn) (next : ℕ) → IsBatchAt bytes (gate + 1) ts next → gate < next
read_less bytes gate ts next is = omega (arith, is.next_is)

-- at a gate that isn't open all batches were read
pub all_read : (bytes : List ℕ) (gate commits : ℕ) (read : List Batch) → ReadTo bytes gate commits read → get_or bytes gate 0 ≢ 1 → AreBatches bytes commits read
all_read bytes gate commits read was shut = record {
  txns = was.txns;
  journal = record { before = take gate bytes; gate = get_or bytes gate 0; rest = drop (gate + 1) bytes; shut = shut; is = split_at gate bytes was.within; front = was.front };
  commits_are = was.commits_are;
  batches_are = was.read_is;
}

pub read_gate : (bytes : List ℕ) (gate commits : ℕ) (read : List Batch) → ReadTo bytes gate commits read → get_or bytes gate 0 ≢ 1 → IsGateOf bytes gate
read_gate bytes gate commits read was shut = gate_found bytes gate was.txns was.within shut was.front

-- of a disk that was synced and read
pub opened_batches : {X E : Type 0} (r : Result X E) (gate_of commits_of : X → ℕ) (read_of : X → List Batch) (seen : Option (List ℕ)) (images : List ℕ → Type 0) (v : List ℕ) → ((c : List ℕ) → images c → v ≡ c)
    → ((c : List ℕ) → images c → IsTold seen) → IfSome seen (λ b. length b < 2 ^ 63) → IfSome seen (λ b. v ≡ b)
    → IfOk r (λ x. IsGateOf v (gate_of x)) → IfOk r (λ x. AreBatches v (commits_of x) (read_of x))
    → IfOk r (λ x. OpenedBatches images seen (gate_of x) Clean (commits_of x) (read_of x))
opened_batches (Ok x) gate_of commits_of read_of seen images v each told short read gate batches = record { bytes = v; opened = opened_as seen images v each told short read v (gate_of x) refl gate; batches = batches; told = read }
opened_batches (Err e) gate_of commits_of read_of seen images v each told short read gate batches = tt
