-- What a journal is, and what each image of its disk stands for.
use Rattle.std.specs.Prelude.{◌≡◌, ◌≢◌, ◌⊎◌, ◌<◌, ℕ, ◌^◌, List, [], ◌∷◌, ◌++◌, length, take, drop, Option}
use Rattle.outside_io.specs.Told.{WhileTold}
use Rattle.disk_core.specs.Images.{Torn}
use Rattle.journal_format.specs.Spelling.{Txn, batch_bytes, IsBatch}
use Rattle.journal_format.specs.Journal.{Front, IsJournal}
use Rattle.journal_core.specs.declared.journal.Trust.{Trust}
use Rattle.journal_core.specs.declared.journal.Trust.TheVariants.{Clean, Body, Gate}

-- a journal as contracts see it: its disk, the place of its gate, and how far an append had come that failed
pub record JournalView (D : Type 0) : Type 0 where
  pub disk : D
  pub gate : ℕ
  pub trust : Trust

-- a front, a gate that isn't open, and whatever it is
pub record Shut (before c : List ℕ) : Type 0 where
  pub gate : ℕ
  pub rest : List ℕ
  pub shut : gate ≢ 1
  pub is : c ≡ before ++ (gate ∷ rest)

-- a front, any gate, this batch and a closed gate, and whatever it is
pub record Staged (before body c : List ℕ) : Type 0 where
  pub gate : ℕ
  pub rest : List ℕ
  pub is : c ≡ before ++ (gate ∷ (body ++ (0 ∷ rest)))

-- what an image is, by how far an append had come that failed
abbrev pub InTrust : Trust → List ℕ → List Txn → List ℕ → Type 0
InTrust Clean before B c = Shut before c
InTrust Body before B c = Shut before c
InTrust Gate before B c = Staged before (batch_bytes B) c

-- an image whose gate stands at that place
pub record InPlace (gate : ℕ) (trust : Trust) (before : List ℕ) (B : List Txn) (c : List ℕ) : Type 0 where
  pub place : length before ≡ gate
  pub small : gate < 2 ^ 63
  pub is : InTrust trust before B c

-- Each image stands for the commits C; where an append of B that failed had come to its gate write, for C, or C and
-- all of B.
pub record Stands (images : List ℕ → Type 0) (gate : ℕ) (trust : Trust) (C B : List Txn) : Type 0 where
  pub before : List ℕ
  pub front : Front before C
  pub batch : trust ≡ Gate → IsBatch B
  pub each : (c : List ℕ) → images c → InPlace gate trust before B c

-- a byte list stands for the commits from before, or those and all of the batch
abbrev pub IsEither : List Txn → List Txn → List ℕ → Type 0
IsEither C B c = IsJournal c C ⊎ IsJournal c (C ++ B)

-- an image from before, after a write of n bytes at this place
pub record TornFrom (images : List ℕ → Type 0) (at n : ℕ) (c : List ℕ) : Type 0 where
  pub was : List ℕ
  pub image : images was
  pub torn : Torn at n was c

-- what a read gives before this place stays
abbrev pub KeepsFront : ℕ → Option (List ℕ) → Option (List ℕ) → Type 0
KeepsFront gate old new = WhileTold old new (λ x y. take gate y ≡ take gate x)

-- from this place on a read gives these bytes
abbrev pub Gives : ℕ → List ℕ → List ℕ → Type 0
Gives at bytes c = take (length bytes) (drop at c) ≡ bytes

-- these bytes are the batch, and a closed gate behind it
abbrev pub IsBody : List Txn → List ℕ → Type 0
IsBody B bytes = IsBatch B × (bytes ≡ batch_bytes B ++ (0 ∷ []))
