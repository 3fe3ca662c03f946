use Rattle.std.specs.Prelude.{ℕ, List}

-- what contracts see of a cargo. The size is that of the message's whole encoding; the content may lack
-- the message's body at its end. The origin goes with the content.
pub record Load : Type 0 where
  pub id : ℕ
  pub size : ℕ
  pub count : ℕ
  pub content : List ℕ
  pub origin : List ℕ
