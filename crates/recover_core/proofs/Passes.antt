-- A pass from the last item to the first.
use Rattle.std.proofs.Common.{◌≡◌, ℕ, ◌+◌, ◌-◌, ◌≤◌, List, [], ◌∷◌, ◌++◌, length, get_or, refl, sym, ap, subst, ◌∙◌, append_assoc, length-append, arith}
use Rattle.std.specs.List.{flat_map, All, AllByRecursion}
use Rattle.std.specs.BTreeSet.{BTreeSet}
use Rattle.std.proofs.lemmas.List.{append-nil}
use Rattle.std.proofs.lemmas.List.Concat.{flat_map-append}
use Rattle.std.proofs.lemmas.List.Elements.{All-from_recursion}
use Rattle.std.proofs.Math.Seq.{get_or-append_seam}
use Rattle.journal_format.specs.declared.batches.Batch.{Batch}
use Rattle.journal_format.specs.declared.items.Item.{Item}
use Rattle.journal_format.specs.Spelling.{Txn, item_bytes, txn_bytes}
use Rattle.journal_format.specs.Journal.{open_bytes}
use Rattle.recover_core.specs.declared.kept.Kept.{Kept}
use Rattle.recover_core.specs.declared.keys.Key.{Key}
use Rattle.recover_core.specs.Places.{Found, found, founds_in, founds_of, founds, kept}
use Rattle.recover_core.specs.Passed.{Passed, first_place, IsBefore, founds_read}
use Rattle.journal_core.specs.Opening.{batches_from, AreBatches}
use Rattle.recover_core.specs.Recovered.{IsRecovered}

-- the last of some, and its bytes
last_of : {A : Type 0} (f : A → List ℕ) (all left : List A) (x : A) → all ≡ left ++ x ∷ [] → length (flat_map f all) ≡ length (flat_map f left) + length (f x)
last_of f all left x e =
    omega (arith, ap (λ (l : List _). length (flat_map f l)) e, ap length (flat_map-append f left (x ∷ [])), length-append (flat_map f left) (flat_map f (x ∷ [])), ap length (append-nil (f x)))

-- ---- items

-- the items of a transaction behind those that are left were passed
pub record ItemsPassed (at end : ℕ) (all left : List Item) (gone0 : BTreeSet Key) (entries0 : List Kept) (gone : BTreeSet Key) (entries : List Kept) : Type 0 where
  pub done : List Item
  pub parts : all ≡ left ++ done
  pub place : (at + 4) + length (flat_map item_bytes left) ≡ end
  pub passed : (rest : List Found) → Passed gone0 entries0 rest → Passed gone entries (founds_in at end done ++ rest)

pub items_start : (at end : ℕ) (all : List Item) (gone : BTreeSet Key) (entries : List Kept) → at + length (txn_bytes all) ≡ end → ItemsPassed at end all all gone entries gone entries
items_start at end all gone entries place = record { done = []; parts = sym (append-nil all); place = omega (arith, place); passed = λ rest p. p }

pub item_within : (at end : ℕ) (all left more : List Item) (item : Item) (gone0 gone : BTreeSet Key) (entries0 entries : List Kept) → ItemsPassed at end all left gone0 entries0 gone entries → left ≡ more ++ item ∷ [] → length (item_bytes item) ≤ end
item_within at end all left more item gone0 gone entries0 entries was e = omega (arith, was.place, last_of item_bytes left more item e)

pub items_step : (at end size : ℕ) (all left more : List Item) (item : Item) (gone0 gone gone1 : BTreeSet Key) (entries0 entries entries1 : List Kept)
    → ItemsPassed at end all left gone0 entries0 gone entries → left ≡ more ++ item ∷ [] → size ≡ length (item_bytes item)
    → ((rest : List Found) → Passed gone entries rest → Passed gone1 entries1 (found at end item ∷ rest))
    → ItemsPassed at (end - size) all more gone0 entries0 gone1 entries1
items_step at end size all left more item gone0 gone gone1 entries0 entries entries1 was e size_is step =
    let whole = last_of item_bytes left more item e in
    let back : end ≡ (end - size) + length (item_bytes item) = omega (arith, was.place, whole, size_is) in
    record {
      done = item ∷ was.done;
      parts = was.parts ∙ ap (λ (l : List Item). l ++ was.done) e ∙ append_assoc more (item ∷ []) was.done;
      place = omega (arith, was.place, whole, size_is);
      passed = λ rest p. subst (λ (n : ℕ). Passed gone1 entries1 ((found at n item ∷ founds_in at n was.done) ++ rest)) back (step (founds_in at end was.done ++ rest) (was.passed rest p));
    }

pub items_end : (at end : ℕ) (all left : List Item) (gone0 gone : BTreeSet Key) (entries0 entries : List Kept) → ItemsPassed at end all left gone0 entries0 gone entries → left ≡ []
    → (rest : List Found) → Passed gone0 entries0 rest → Passed gone entries (founds_in at (at + 4) all ++ rest)
items_end at end all left gone0 gone entries0 entries was e rest p =
    let place : end ≡ at + 4 = omega (arith, was.place, ap (λ (l : List Item). length (flat_map item_bytes l)) e) in
    let same : was.done ≡ all = sym (was.parts ∙ ap (λ (l : List Item). l ++ was.done) e) in
    subst (λ (l : List Item). Passed gone entries (founds_in at (at + 4) l ++ rest)) same (subst (λ (n : ℕ). Passed gone entries (founds_in at n was.done ++ rest)) place (was.passed rest p))

-- ---- transactions

-- the transactions of a batch behind those that are left were passed
pub record TxnsPassed (begin end : ℕ) (all left : List Txn) (gone0 : BTreeSet Key) (entries0 : List Kept) (gone : BTreeSet Key) (entries : List Kept) : Type 0 where
  pub done : List Txn
  pub parts : all ≡ left ++ done
  pub place : begin + length (flat_map txn_bytes left) ≡ end
  pub passed : (rest : List Found) → Passed gone0 entries0 rest → Passed gone entries (founds_of end done ++ rest)

pub txns_start : (b : Batch) (gone : BTreeSet Key) (entries : List Kept) → IsBefore b → TxnsPassed (first_place b) b.next b.txns b.txns gone entries gone entries
txns_start b gone entries before = record { done = []; parts = sym (append-nil b.txns); place = omega (arith, before); passed = λ rest p. p }

pub txn_within : (begin end : ℕ) (all left more : List Txn) (txn : Txn) (gone0 gone : BTreeSet Key) (entries0 entries : List Kept) → TxnsPassed begin end all left gone0 entries0 gone entries → left ≡ more ++ txn ∷ [] → length (txn_bytes txn) ≤ end
txn_within begin end all left more txn gone0 gone entries0 entries was e = omega (arith, was.place, last_of txn_bytes left more txn e)

pub txns_step : (begin end at : ℕ) (all left more : List Txn) (txn : Txn) (gone0 gone gone1 : BTreeSet Key) (entries0 entries entries1 : List Kept)
    → TxnsPassed begin end all left gone0 entries0 gone entries → left ≡ more ++ txn ∷ [] → at + length (txn_bytes txn) ≡ end
    → ((rest : List Found) → Passed gone entries rest → Passed gone1 entries1 (founds_in at (at + 4) txn ++ rest))
    → TxnsPassed begin at all more gone0 entries0 gone1 entries1
txns_step begin end at all left more txn gone0 gone gone1 entries0 entries entries1 was e place step =
    record {
      done = txn ∷ was.done;
      parts = was.parts ∙ ap (λ (l : List Txn). l ++ was.done) e ∙ append_assoc more (txn ∷ []) was.done;
      place = omega (arith, was.place, last_of txn_bytes left more txn e, place);
      passed = λ rest p.
          let q = step (founds_of end was.done ++ rest) (was.passed rest p) in
          subst (λ (n : ℕ). Passed gone1 entries1 ((founds_in at (at + 4) txn ++ founds_of n was.done) ++ rest)) (sym place)
          (subst (λ (fs : List Found). Passed gone1 entries1 fs) (sym (append_assoc (founds_in at (at + 4) txn) (founds_of end was.done) rest)) q);
    }

pub txns_end : (b : Batch) (end : ℕ) (left : List Txn) (gone0 gone : BTreeSet Key) (entries0 entries : List Kept) → TxnsPassed (first_place b) end b.txns left gone0 entries0 gone entries → left ≡ []
    → (rest : List Found) → Passed gone0 entries0 rest → Passed gone entries (founds_of (first_place b) b.txns ++ rest)
txns_end b end left gone0 gone entries0 entries was e rest p =
    let place : end ≡ first_place b = omega (arith, was.place, ap (λ (l : List Txn). length (flat_map txn_bytes l)) e) in
    let same : was.done ≡ b.txns = sym (was.parts ∙ ap (λ (l : List Txn). l ++ was.done) e) in
    subst (λ (l : List Txn). Passed gone entries (founds_of (first_place b) l ++ rest)) same (subst (λ (n : ℕ). Passed gone entries (founds_of n was.done ++ rest)) place (was.passed rest p))

-- ---- batches

-- the batches behind those that are left were passed
pub record BatchesPassed (all left : List Batch) (gone : BTreeSet Key) (entries : List Kept) : Type 0 where
  pub done : List Batch
  pub parts : all ≡ left ++ done
  pub passed : Passed gone entries (founds_read done)

pub batches_step : (all left more : List Batch) (b : Batch) (gone gone1 : BTreeSet Key) (entries entries1 : List Kept) → BatchesPassed all left gone entries → left ≡ more ++ b ∷ []
    → ((rest : List Found) → Passed gone entries rest → Passed gone1 entries1 (founds_of (first_place b) b.txns ++ rest)) → BatchesPassed all more gone1 entries1
batches_step all left more b gone gone1 entries entries1 was e step = record {
  done = b ∷ was.done;
  parts = was.parts ∙ ap (λ (l : List Batch). l ++ was.done) e ∙ append_assoc more (b ∷ []) was.done;
  passed = step (founds_read was.done) was.passed;
}

-- the last batch of those that are left stands before the gate behind it
pub batch_before : (all left more : List Batch) (b : Batch) (gone : BTreeSet Key) (entries : List Kept) → All IsBefore all → BatchesPassed all left gone entries → left ≡ more ++ b ∷ [] → IsBefore b
batch_before all left more b gone entries before was e =
    let parts : all ≡ more ++ b ∷ was.done = was.parts ∙ ap (λ (l : List Batch). l ++ was.done) e ∙ append_assoc more (b ∷ []) was.done in
    subst IsBefore (ap (λ (l : List Batch). get_or l (length more) b) parts ∙ get_or-append_seam more b was.done b) (before (length more) b (omega (arith, ap length parts, length-append more (b ∷ was.done))))

-- ---- batches as they were read

open_size : (b : List Txn) → length (open_bytes b) ≡ 13 + length (flat_map txn_bytes b)
open_size b = omega arith

read_from : (gate : ℕ) (bs : List (List Txn)) → founds_read (batches_from gate bs) ≡ founds gate bs
read_from gate [] = refl
read_from gate (b ∷ bs) =
    let place : (gate + length (open_bytes b)) - length (flat_map txn_bytes b) ≡ gate + 13 = omega (arith, open_size b) in
    λ i. founds_of (place i) b ++ read_from (gate + length (open_bytes b)) bs i

pub read_as : (bs : List (List Txn)) → founds_read (batches_from 16 bs) ≡ founds 16 bs
read_as bs = read_from 16 bs

before_from : (gate : ℕ) (bs : List (List Txn)) → AllByRecursion IsBefore (batches_from gate bs)
before_from gate [] = tt
before_from gate (b ∷ bs) = (omega (arith, open_size b), before_from (gate + length (open_bytes b)) bs)

pub all_before : (bs : List (List Txn)) → All IsBefore (batches_from 16 bs)
all_before bs = All-from_recursion IsBefore (batches_from 16 bs) (before_from 16 bs)

-- ---- what is recovered

pub before_all : (bytes : List ℕ) (commits : ℕ) (read : List Batch) → AreBatches bytes commits read → All IsBefore read
before_all bytes commits read are = subst (λ (bs : List Batch). All IsBefore bs) (sym are.batches_are) (all_before are.journal.front.batches)

pub recovered : (bytes : List ℕ) (commits : ℕ) (read : List Batch) (entries : List Kept) → AreBatches bytes commits read → entries ≡ kept (founds_read read) → IsRecovered bytes commits entries
recovered bytes commits read entries are is = record {
  txns = are.txns;
  journal = are.journal;
  commits_are = are.commits_are;
  entries_are = is ∙ ap (λ (bs : List Batch). kept (founds_read bs)) are.batches_are ∙ ap kept (read_as are.journal.front.batches);
}
