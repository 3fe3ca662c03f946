use Rattle.std.specs.Prelude.{ℕ}

-- what contracts see of an adapter: what it stands on, and how often it has failed
pub record AdapterView (T : Type 0) : Type 0 where
  pub inner : T
  pub faults : ℕ
