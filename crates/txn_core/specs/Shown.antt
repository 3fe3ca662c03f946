-- what contracts see of a parcel
use Rattle.std.specs.Prelude.{◌≡◌, ℕ, ◌+◌, ◌-◌, ◌^◌, min, List, [], ◌∷◌, ◌++◌, length, Option, Some, None}
use Rattle.std.specs.Int.{w32, to_be_bytes}
use Rattle.message_core.specs.Spelling.{Content, content, front}
use Rattle.acts_core.specs.Load.{Load}
use Rattle.acts_core.specs.declared.cargoes.Receipt.{Receipt}

-- a message, whose body may not be here; the size of the whole; where it was committed, if it was; the place of
-- its body; and how often it was delivered
pub record Shown : Type 0 where
  pub message : Content
  pub size : ℕ
  pub receipt : Option Receipt
  pub body_at : ℕ
  pub delivered : ℕ

-- the body is here
abbrev pub IsHere : Shown → Type 0
IsHere p = length (content p.message) ≡ p.size

-- how many bytes of the encoding are not here
abbrev pub missing : Shown → ℕ
missing p = p.size - length (content p.message)

-- the bytes of the encoding, without those of a body that is not here; the length of the body stays
abbrev pub content_of : Shown → List ℕ
content_of p = (front p.message ++ to_be_bytes w32 (length p.message.body + missing p)) ++ p.message.body

-- the numbers of a receipt
abbrev pub receipt_numbers : Option Receipt → List ℕ
receipt_numbers None = []
receipt_numbers (Some r) = r.ticket ∷ r.at ∷ []

-- where a parcel comes from: the place of its body, and its receipt
abbrev pub origin_of : Shown → List ℕ
origin_of p = p.body_at ∷ receipt_numbers p.receipt

-- the parcel as a cargo
abbrev pub load : Shown → Load
load p = record { id = p.message.id; size = p.size; count = p.delivered; content = content_of p; origin = origin_of p }

-- a parcel of a whole message, which was not delivered yet
abbrev pub fresh : Content → Option Receipt → ℕ → Shown
fresh m receipt body_at = record { message = m; size = length (content m); receipt = receipt; body_at = body_at; delivered = 0 }

-- the number of the next delivery; it stays at the greatest of 32 bits
abbrev pub number_after : ℕ → ℕ
number_after n = min (n + 1) (2 ^ 32 - 1)
