-- where bodies stand in a transaction
use Rattle.std.proofs.Common.{◌≡◌, ℕ, ◌+◌, List, [], ◌∷◌, ◌++◌, append-nil, append_assoc, cond, Bool, drop, length, length-append, length-drop, take, ◌≤◌, subst, refl, sym, ap, ◌∙◌, arith}
use Rattle.std.specs.List.{flat_map}
use Rattle.std.specs.Int.{w32, to_be_bytes}
use Rattle.std.proofs.lemmas.Grind.{flat_map-append}
use Rattle.std.proofs.lemmas.List.{drop-drop, drop_at, length-take, take-append-drop, take-append-le, take_at}
use Rattle.queue_model.specs.declared.rows.Slip.{Slip}
use Rattle.message_core.specs.Spelling.{Content, content, cut}
use Rattle.journal_format.specs.declared.items.Item.TheVariants.{Entered}
use Rattle.journal_format.specs.Spelling.{Txn, item_bytes, name_bytes, txn_bytes}
use Rattle.txn_core.specs.declared.staging.Staged.{Staged}
use Rattle.txn_core.specs.declared.staging.Staged.TheVariants.{Put}
use Rattle.stage_core.specs.Items.{AreWithin, IsWithin, body_place, items_of, name_at, txn_of}
use Rattle.stage_core.specs.Laws.{BodiesGiven, BodyStands, StagedBodies}
use Rattle.stage_core.proofs.ItemSizes.{txn_long}
use Rattle.stage_core.proofs.Staged.{txn_append}

-- all of a message's item that stands before its body
abbrev head : List ℕ → Content → List ℕ
head name m = 1 ∷ (name_bytes name ++ (to_be_bytes w32 (length (content m)) ++ cut m))

item_parts : (name : List ℕ) (m : Content) → item_bytes (Entered name m) ≡ head name m ++ m.body
item_parts name m =
    ap (λ (l : List ℕ). 1 ∷ (name_bytes name ++ l)) (sym (append_assoc (to_be_bytes w32 (length (content m))) (cut m) m.body))
    ∙ ap (λ (l : List ℕ). 1 ∷ l) (sym (append_assoc (name_bytes name) (to_be_bytes w32 (length (content m)) ++ cut m) m.body))

-- what stands before the body, of the items
abbrev front : Txn → List ℕ → Content → List ℕ
front before name m = flat_map item_bytes before ++ head name m

parts : (before behind : Txn) (name : List ℕ) (m : Content) → flat_map item_bytes (before ++ Entered name m ∷ behind) ≡ front before name m ++ (m.body ++ flat_map item_bytes behind)
parts before behind name m =
    let back = flat_map item_bytes behind in
    flat_map-append item_bytes before (Entered name m ∷ behind)
    ∙ ap (λ (l : List ℕ). flat_map item_bytes before ++ (l ++ back)) (item_parts name m)
    ∙ ap (λ (l : List ℕ). flat_map item_bytes before ++ l) (append_assoc (head name m) m.body back)
    ∙ sym (append_assoc (flat_map item_bytes before) (head name m) (m.body ++ back))

place_is : (before : Txn) (name : List ℕ) (m : Content) → body_place before name m ≡ 4 + length (front before name m)
place_is before name m =
    let whole = txn_long (before ++ Entered name m ∷ []) in
    let split = ap length (parts before [] name m) ∙ length-append (front before name m) (m.body ++ []) in
    let body = ap length (append-nil m.body) in
    omega (arith, whole, split, body)

pub body_stands : BodyStands
body_stands before behind name m =
    let count = to_be_bytes w32 (length (before ++ Entered name m ∷ behind)) in
    let back = flat_map item_bytes behind in
    let all : txn_bytes (before ++ Entered name m ∷ behind) ≡ (count ++ front before name m) ++ (m.body ++ back) =
    ap (λ (l : List ℕ). count ++ l) (parts before behind name m) ∙ sym (append_assoc count (front before name m) (m.body ++ back)) in
    let long = length-append count (front before name m) in
    let place = place_is before name m in
    ap (λ (l : List ℕ). take (length m.body) (drop (body_place before name m) l)) all
    ∙ ap (take (length m.body)) (drop_at (count ++ front before name m) (m.body ++ back) (body_place before name m) (omega (arith, long, place)))
    ∙ take_at m.body back (length m.body) refl

-- Staged bodies

-- what a put behind staged lines knows
within_of : (names : List (List ℕ)) (before : Txn) (front back : List Staged) (s : Staged) → AreWithin names before (front ++ s ∷ back) → IsWithin names (before ++ txn_of names front) s
within_of names before [] back s all = subst (λ (t : Txn). IsWithin names t s) (sym (append-nil before)) all.0
within_of names before (x ∷ front) back s all =
    subst (λ (t : Txn). IsWithin names t s) (append_assoc before (items_of names x) (txn_of names front)) (within_of names (before ++ items_of names x) front back s all.1)

pub staged_bodies : StagedBodies
staged_bodies names first back queue slip m within flowed items h persistent =
    let s : Staged = Put queue slip m within flowed in
    let name = name_at names queue in
    let before = txn_of names first in
    let behind = txn_of names back in
    let place : within ≡ body_place before name m =
    within_of names [] first back s h.within ∙ ap (λ (b : Bool). cond b (body_place before name m) 0) persistent in
    let one : items_of names s ≡ Entered name m ∷ [] = ap (λ (b : Bool). cond b (Entered name m ∷ []) []) persistent in
    let all : items ≡ before ++ Entered name m ∷ behind = h.are ∙ txn_append names first (s ∷ back) ∙ ap (λ (t : Txn). before ++ (t ++ behind)) one in
    (λ i. take (length m.body) (drop (place i) (txn_bytes (all i)))) ∙ body_stands before behind name m

-- from a part that stands behind a front, with more behind it
behind_front : (front tail rest body : List ℕ) (within : ℕ) → length front ≡ within → length body ≤ length tail → take (length body) tail ≡ body → take (length body) (drop within ((front ++ tail) ++ rest)) ≡ body
behind_front front tail rest body within long fits is =
    ap (λ (l : List ℕ). take (length body) (drop within l)) (append_assoc front tail rest)
    ∙ ap (take (length body)) (drop_at front (tail ++ rest) within long)
    ∙ take-append-le (length body) tail rest fits ∙ is

within_part : (txn rest body : List ℕ) (within : ℕ) → take (length body) (drop within txn) ≡ body → take (length body) (drop within (txn ++ rest)) ≡ body
within_part txn rest [] within is = refl
within_part txn rest (b ∷ bs) within is =
    let seen = ap length is in
    let some = length-take (length (b ∷ bs)) (drop within txn) in
    let tail = length-drop within txn in
    let fits : length (b ∷ bs) ≤ length (drop within txn) = omega (arith, seen, some) in
    let head = length-take within txn in
    let low : within ≤ length txn = omega (arith, fits, tail) in
    subst (λ (l : List ℕ). take (length (b ∷ bs)) (drop within (l ++ rest)) ≡ b ∷ bs) (take-append-drop within txn)
    (behind_front (take within txn) (drop within txn) rest (b ∷ bs) within (omega (arith, head, low)) fits is)

pub bodies_given : BodiesGiven
bodies_given bytes txn body at within given stands =
    let there = drop at bytes in
    let parts : txn ++ drop (length txn) there ≡ there = ap (λ (l : List ℕ). l ++ drop (length txn) there) (sym given) ∙ take-append-drop (length txn) there in
    ap (take (length body)) (sym (drop-drop within at bytes))
    ∙ subst (λ (l : List ℕ). take (length body) (drop within l) ≡ body) parts (within_part txn (drop (length txn) there) body within stands)
