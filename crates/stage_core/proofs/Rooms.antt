-- room for what lines may add
use Rattle.std.proofs.Common.{◌≡◌, ℕ, ◌+◌, ◌≤◌, Bool, true, false, cond, List, [], ◌∷◌, length, ap, ◌∙◌, arith}
use Rattle.std.proofs.lemmas.List.Sums.{sum_by-cons}
use Rattle.message_core.specs.Spelling.{Content}
use Rattle.journal_format.specs.declared.items.Item.TheVariants.{Entered, Gone}
use Rattle.journal_format.specs.Spelling.{item_bytes}
use Rattle.script_read.specs.declared.lines.Op.{Op}
use Rattle.stage_core.specs.Items.{name_at}
use Rattle.stage_core.specs.Laws.{AcksCounted, FitsEach, GoneFits, PutsCounted, RoomBegins, RoomComesBack, RoomForNext, RoomGoesOn, SpendsBegins, SpendsComesBack, SpendsGoesOn}
use Rattle.stage_core.specs.Room.{gone_bytes, line_bytes, lines_bytes}
use Rattle.stage_core.specs.Staging.{bytes_of}
use Rattle.stage_core.proofs.ItemSizes.{bytes_append, bytes_one, gone_long, txn_long}

pub lines_more : (names : List (List ℕ)) (op : Op) (ops : List Op) → lines_bytes names (op ∷ ops) ≡ line_bytes names op.what + lines_bytes names ops
lines_more names op ops = sum_by-cons (λ (x : Op). line_bytes names x.what) op ops

pub for_next : RoomForNext
for_next names txn op ops item keeps low place =
    let long = txn_long txn.items in
    let more = lines_more names op ops in
    let short = place.short in
    omega (arith, long, more, short, keeps, low)

pub goes_on : RoomGoesOn
goes_on names old new op ops items keeps adds low =
    let more = lines_more names op ops in
    let grown = ap bytes_of adds.all ∙ bytes_append old.items items in
    let room = adds.room in
    omega (arith, more, grown, room, keeps, low)

pub begins : RoomBegins
begins names txn ops empty room =
    let none = ap bytes_of empty in
    omega (arith, none, room)

pub comes_back : RoomComesBack
comes_back names old new ops keeps empty room =
    let none = ap bytes_of empty in
    omega (arith, none, room, keeps)

-- What lines add

puts_by : (name : List ℕ) (m : Content) (b : Bool) → bytes_of (cond b (Entered name m ∷ []) []) ≤ cond b (length (item_bytes (Entered name m))) (gone_bytes name)
puts_by name m true = let one = bytes_one (Entered name m) in omega (arith, one)
puts_by name m false = omega arith

pub puts_counted : PutsCounted
puts_counted names q m = puts_by (name_at names q) m m.persistent

acks_by : (name : List ℕ) (id : ℕ) (b : Bool) → bytes_of (cond b (Gone name id ∷ []) []) ≤ gone_bytes name
acks_by name id true = let one = bytes_one (Gone name id) in let here = gone_long name id in let same = gone_long name 0 in omega (arith, one, here, same)
acks_by name id false = omega arith

pub acks_counted : AcksCounted
acks_counted names q id m = acks_by (name_at names q) m.id m.persistent

pub gone_fits : GoneFits
gone_fits name id is = let long = gone_long name id in let short : length name ≤ 64 = is.1 in omega (arith, long, short)

-- What is spent

pub spends_begins : SpendsBegins
spends_begins names ops = omega arith

pub spends_goes_on : SpendsGoesOn
spends_goes_on names all old added op ops spends low =
    let more = lines_more names op ops in
    let grown = bytes_append old added in
    omega (arith, more, grown, spends, low)

pub spends_comes_back : SpendsComesBack
spends_comes_back names all old ops spends = omega (arith, spends)

pub fits_each : FitsEach
fits_each names all items ops spends limited =
    let long = txn_long items in
    let short = limited.short in
    omega (arith, long, short, spends)
