use Rattle.std.specs.Prelude.{ℕ, List}

-- a buffer: its bytes, and how many bytes it can hold in all without taking memory
pub record Roomy : Type 0 where
  pub bytes : List ℕ
  pub room : ℕ
