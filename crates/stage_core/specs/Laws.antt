-- the statements of the laws, each proved as the contract of a function in src/laws.rt
use Rattle.std.specs.Prelude.{◌≡◌, ℕ, ◌+◌, ◌≤◌, Bool, true, Option, List, [], ◌∷◌, ◌++◌, drop, length, take}
use Rattle.message_core.specs.Spelling.{Content}
use Rattle.journal_format.specs.declared.items.Item.{Item}
use Rattle.journal_format.specs.declared.items.Item.TheVariants.{Entered, Gone}
use Rattle.journal_format.specs.Filled.{Filled, IsLimited}
use Rattle.journal_format.specs.Spelling.{IsName, Txn, item_bytes, txn_bytes}
use Rattle.script_read.specs.declared.lines.Op.{Op}
use Rattle.script_read.specs.declared.lines.What.TheVariants as what
use Rattle.queue_model.specs.declared.rows.Slip.{Slip}
use Rattle.txn_core.specs.declared.staging.Staged.{Staged}
use Rattle.txn_core.specs.declared.staging.Staged.TheVariants.{Put}
use Rattle.stage_core.specs.declared.room.TheConstants.{GONE_ROOM}
use Rattle.stage_core.specs.Items.{Stages, ack_items, body_place, name_at, put_items, txn_of}
use Rattle.stage_core.specs.Room.{KeepsRoom, Spends, each_for, line_bytes, room_for}
use Rattle.stage_core.specs.Staging.{Adds, HasRoomFor, bytes_of}

-- the body of a message that entered stands at its place in the transaction, whatever came behind it
abbrev pub BodyStands : Type 0
BodyStands =
    (before behind : Txn) (name : List ℕ) (m : Content)
    → take (length m.body) (drop (body_place before name m) (txn_bytes (before ++ Entered name m ∷ behind))) ≡ m.body

-- one line more adds what it adds
abbrev pub StagesAppend : Type 0
StagesAppend =
    (names : List (List ℕ)) (xs ys : List Staged) → txn_of names (xs ++ ys) ≡ txn_of names xs ++ txn_of names ys

-- a transaction with room for what lines may add has room for the next of them
abbrev pub RoomForNext : Type 0
RoomForNext =
    (names : List (List ℕ)) (txn : Filled) (op : Op) (ops : List Op) (item : Item)
    → KeepsRoom names txn (op ∷ ops) → length (item_bytes item) ≤ line_bytes names op.what → HasRoomFor txn item

-- and keeps room for those behind it, whether the line added an item or none
abbrev pub RoomGoesOn : Type 0
RoomGoesOn =
    (names : List (List ℕ)) (old new : Filled) (op : Op) (ops : List Op) (items : Txn)
    → KeepsRoom names old (op ∷ ops) → Adds items old new → bytes_of items ≤ line_bytes names op.what
    → KeepsRoom names new ops

-- an empty transaction that has the room which is taken for lines keeps room for them
abbrev pub RoomBegins : Type 0
RoomBegins =
    (names : List (List ℕ)) (txn : Filled) (ops : List Op)
    → txn.items ≡ [] → room_for names ops ≤ txn.room → KeepsRoom names txn ops

-- and so does one that is emptied with all of its room
abbrev pub RoomComesBack : Type 0
RoomComesBack =
    (names : List (List ℕ)) (old new : Filled) (ops : List Op)
    → KeepsRoom names old ops → new.items ≡ [] → new.room ≡ old.room + bytes_of old.items → KeepsRoom names new ops

-- what lines may add counts what they add: a put, an acknowledgement, and an entry that goes alone
abbrev pub PutsCounted : Type 0
PutsCounted =
    (names : List (List ℕ)) (q : ℕ) (m : Content)
    → bytes_of (put_items (name_at names q) m) ≤ line_bytes names (what.Put q m)

abbrev pub AcksCounted : Type 0
AcksCounted =
    (names : List (List ℕ)) (q : ℕ) (id : Option ℕ) (m : Content)
    → bytes_of (ack_items (name_at names q) m) ≤ line_bytes names (what.Ack q id)

-- the name of a queue is so short that there is room for its entry's going where there is for the greatest
abbrev pub GoneFits : Type 0
GoneFits = (name : List ℕ) (id : ℕ) → IsName name → length (item_bytes (Gone name id)) ≤ GONE_ROOM

-- before the lines nothing is spent, and each line spends no more than it may add, whether the transaction was emptied or not
abbrev pub SpendsBegins : Type 0
SpendsBegins = (names : List (List ℕ)) (ops : List Op) → Spends names ops [] ops

abbrev pub SpendsGoesOn : Type 0
SpendsGoesOn =
    (names : List (List ℕ)) (all : List Op) (old added : Txn) (op : Op) (ops : List Op)
    → Spends names all old (op ∷ ops) → bytes_of added ≤ line_bytes names op.what → Spends names all (old ++ added) ops

abbrev pub SpendsComesBack : Type 0
SpendsComesBack =
    (names : List (List ℕ)) (all : List Op) (old : Txn) (ops : List Op)
    → Spends names all old ops → Spends names all [] ops

-- then a transaction within its limits has no more bytes than a table has to be made for
abbrev pub FitsEach : Type 0
FitsEach =
    (names : List (List ℕ)) (all : List Op) (items : Txn) (ops : List Op)
    → Spends names all items ops → IsLimited items → length (txn_bytes items) ≤ each_for (room_for names all)

-- the body of each persistent put that is staged stands at its place in the transaction
abbrev pub StagedBodies : Type 0
StagedBodies =
    (names : List (List ℕ)) (front back : List Staged) (queue : ℕ) (slip : Slip) (m : Content) (within : ℕ)
    (flowed : Bool) (items : Txn)
    → Stages names (front ++ Put queue slip m within flowed ∷ back) items → m.persistent ≡ true
    → take (length m.body) (drop within (txn_bytes items)) ≡ m.body

-- and where a read gives the transaction from a place on, it gives the body from there on, so far behind
abbrev pub BodiesGiven : Type 0
BodiesGiven =
    (bytes txn body : List ℕ) (at within : ℕ)
    → take (length txn) (drop at bytes) ≡ txn → take (length body) (drop within txn) ≡ body
    → take (length body) (drop (at + within) bytes) ≡ body
