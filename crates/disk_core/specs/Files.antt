use Rattle.std.specs.Prelude.{ℕ}

-- what contracts see of a FileDisk: its counts
pub record FileView : Type 0 where
  pub faults : ℕ
  pub syncs : ℕ
