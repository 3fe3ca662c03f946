-- how many bytes items have
use Rattle.std.proofs.Common.{◌≡◌, ℕ, ◌+◌, List, [], ◌∷◌, ◌++◌, length, length-append, append-nil, ap, ◌∙◌, arith}
use Rattle.std.specs.List.{flat_map}
use Rattle.std.specs.Int.{w32, w64, to_be_bytes}
use Rattle.std.proofs.lemmas.Grind.{flat_map-append}
use Rattle.message_core.specs.Spelling.{Content, content, text_bytes}
use Rattle.journal_format.specs.declared.items.Item.{Item}
use Rattle.journal_format.specs.declared.items.Item.TheVariants.{Entered, Gone}
use Rattle.journal_format.specs.Spelling.{Txn, item_bytes, name_bytes, txn_bytes}
use Rattle.stage_core.specs.Staging.{bytes_of}

-- six bytes beside the name and the message
pub entered_long : (name : List ℕ) (m : Content) → length (item_bytes (Entered name m)) ≡ 6 + length name + length (content m)
entered_long name m =
    let a = length-append (name_bytes name) (text_bytes (content m)) in
    let b = length-append (to_be_bytes w32 (length (content m))) (content m) in
    omega (arith, a, b)

-- ten bytes beside the name
pub gone_long : (name : List ℕ) (id : ℕ) → length (item_bytes (Gone name id)) ≡ 10 + length name
gone_long name id = let a = length-append (name_bytes name) (to_be_bytes w64 id) in omega (arith, a)

-- four bytes beside the items
pub txn_long : (items : Txn) → length (txn_bytes items) ≡ 4 + bytes_of items
txn_long items = let a = length-append (to_be_bytes w32 (length items)) (flat_map item_bytes items) in omega (arith, a)

pub bytes_append : (xs ys : Txn) → bytes_of (xs ++ ys) ≡ bytes_of xs + bytes_of ys
bytes_append xs ys = ap length (flat_map-append item_bytes xs ys) ∙ length-append (flat_map item_bytes xs) (flat_map item_bytes ys)

pub bytes_one : (item : Item) → bytes_of (item ∷ []) ≡ length (item_bytes item)
bytes_one item = ap length (append-nil (item_bytes item))
