-- what is true of the fields of each parcel
use Rattle.std.specs.Prelude.{◌≡◌, ℕ, ◌<◌, ◌≤◌, length}
use Rattle.byte_lists.specs.declared.limits.TheConstants.{MOST_BYTES}
use Rattle.message_core.specs.Spelling.{Content, content}

-- The size is that of a message whose body may not be here: then the message that is here has none.
pub record IsWhole (m : Content) (size : ℕ) : Type 0 where
  pub fits : length (content m) ≤ size
  pub short : size ≤ MOST_BYTES
  pub empty : length (content m) < size → length m.body ≡ 0
