-- What opening a journal with what it holds says.
use Rattle.std.specs.Prelude.{◌≡◌, ℕ, List, Option, IfSome}
use Rattle.journal_core.specs.declared.journal.Trust.{Trust}
use Rattle.journal_core.specs.Opening.{OpenedAs}
use Rattle.recover_core.specs.declared.kept.Kept.{Kept}
use Rattle.recover_core.specs.Recovered.{IsRecovered}

-- the disk tells the bytes of a journal, each image stands for its commits, and these entries are live
pub record OpenedWith (images : List ℕ → Type 0) (seen : Option (List ℕ)) (gate : ℕ) (trust : Trust) (commits : ℕ) (entries : List Kept) : Type 0 where
  pub bytes : List ℕ
  pub opened : OpenedAs bytes images gate trust
  pub recovered : IsRecovered bytes commits entries
  -- those are the bytes that the disk tells, where it tells them
  pub told : IfSome seen (λ seen_bytes. bytes ≡ seen_bytes)
