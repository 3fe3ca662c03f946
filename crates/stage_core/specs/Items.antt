-- what staged lines make of a journal's transaction
use Rattle.std.specs.Prelude.{◌≡◌, ℕ, ◌-◌, if◌then◌else◌, List, [], ◌∷◌, ◌++◌, length, map, slice_get, unwrap_or}
use Rattle.message_core.specs.Spelling.{Content}
use Rattle.defs_read.specs.Defined.{Defined}
use Rattle.journal_format.specs.declared.items.Item.TheVariants.{Entered, Gone}
use Rattle.journal_format.specs.Spelling.{Txn, txn_bytes}
use Rattle.txn_core.specs.declared.staging.Staged.{Staged}
use Rattle.txn_core.specs.declared.staging.Staged.TheVariants.{Put, Ack}
use Rattle.txn_core.specs.Parcels.{shown}

-- the names of queues, in the order of definition
abbrev pub names_in : List Defined → List (List ℕ)
names_in defs = map (λ def. def.name) defs

-- the name of queue q
abbrev pub name_at : List (List ℕ) → ℕ → List ℕ
name_at names q = unwrap_or (slice_get names q) []

-- what a put of this message to a queue of this name adds: nothing, unless the message is persistent
abbrev pub put_items : List ℕ → Content → Txn
put_items name m = if m.persistent then Entered name m ∷ [] else []

-- and an acknowledgement of one
abbrev pub ack_items : List ℕ → Content → Txn
ack_items name m = if m.persistent then Gone name m.id ∷ [] else []

-- what a staged line adds
abbrev pub items_of : List (List ℕ) → Staged → Txn
items_of names (Put queue slip message within flowed) = put_items (name_at names queue) message
items_of names (Ack queue row parcel) = ack_items (name_at names queue) (shown parcel).message

-- what staged lines add, in their order
abbrev pub txn_of : List (List ℕ) → List Staged → Txn
txn_of names [] = []
txn_of names (s ∷ ss) = items_of names s ++ txn_of names ss

-- the place of the body of a message that enters behind these items: it ends the transaction so far
abbrev pub body_place : Txn → List ℕ → Content → ℕ
body_place before name m = length (txn_bytes (before ++ Entered name m ∷ [])) - length m.body

-- that of a persistent message; 0 of others
abbrev pub place_within : Txn → List ℕ → Content → ℕ
place_within before name m = if m.persistent then body_place before name m else 0

-- a staged put behind these items has the place of its body
abbrev pub IsWithin : List (List ℕ) → Txn → Staged → Type 0
IsWithin names before (Put queue slip message within flowed) = within ≡ place_within before (name_at names queue) message
IsWithin names before (Ack queue row parcel) = Unit {0}

-- and so has each of these
abbrev pub AreWithin : List (List ℕ) → Txn → List Staged → Type 0
AreWithin names before [] = Unit {0}
AreWithin names before (s ∷ ss) = IsWithin names before s × AreWithin names (before ++ items_of names s) ss

-- The transaction has what the staged lines make of it, in their order, and each put knows the place of its body there.
pub record Stages (names : List (List ℕ)) (staged : List Staged) (items : Txn) : Type 0 where
  pub are : items ≡ txn_of names staged
  pub within : AreWithin names [] staged
