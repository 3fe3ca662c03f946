-- the held list before and after a line
use Rattle.std.proofs.Common.{◌≡◌, ◌≢◌, ◌<◌, ℕ, zero, suc, ◌==◌, ◌&&◌, not, Bool, true, false, cond, Option, Some, None, List, [], ◌∷◌, ◌++◌, length, take, drop, filter, find, map, slice_get, slice_set, refl, sym, ap, ◌∙◌, subst, ⊎_elim, eq-eqb, arith}
use Rattle.std.specs.Prelude.{get_or, is_some}
use Rattle.std.specs.List.{AllByRecursion, remove}
use Rattle.std.specs.Option.{option_map}
use Rattle.std.proofs.lemmas.Bool.{cases_Bool}
use Rattle.std.proofs.lemmas.List.{map-append, take-map, drop-map}
use Rattle.queue_model.specs.declared.rows.Row.{Row}
use Rattle.queue_model.specs.declared.rows.Slip.{Slip}
use Rattle.queue_model.specs.Keyed.{Apart}
use Rattle.queue_model.specs.State.{row_at}
use Rattle.queue_model.proofs.KeyedLemmas.{all-push, apart-filter, apart-push, find-filter_not, find-past, find_none-head, find_none-tail, find_passes}
use Rattle.acts_core.specs.Calls.{Call, Answer}
use Rattle.acts_core.specs.Load.{Load}
use Rattle.acts_core.specs.Meaning.{Called}
use Rattle.acts_core.specs.Sight.{Build, Sight, known}
use Rattle.txn_core.specs.Parcels.{load_of}
use Rattle.txn_core.specs.declared.parcels.Parcel.{Parcel}
use Rattle.line_core.specs.Hands.{Hand, hand, is_this, meant, lost, gained, replaced, same_hand, without}
use Rattle.workers_core.specs.Held.{hand_of, hands_of, IsMeant, TakesMeant}
use Rattle.workers_core.specs.Hold.{Mine, MineOn, Hold, Keeps, KeepsOthers}
use Rattle.workers_core.specs.declared.held.Kept.{Kept}
use Rattle.acts_core.proofs.Passes.{pass_rows}
use Rattle.workers_core.proofs.Lists.{find_none_get, hand_got, remove_lost, replaced_none, same_key, same_sym, without_none}

pub all_get : {X : Type 0} (P : X → Type 0) (xs : List X) (i : ℕ) (x : X) → AllByRecursion P xs → slice_get xs i ≡ Some x → P x
all_get P [] i x each at = absurd (cc)
all_get P (y ∷ ys) zero x each at = let same : y ≡ x = cc in subst P same each.0
all_get P (y ∷ ys) (suc i) x each at = all_get P ys i x each.1 at

-- the kept entry that was found is the hand that the line means
pub found_hand : (xs : List Kept) (i : ℕ) (x : Kept) (q : ℕ) (named : Option ℕ) → i < length xs → x ≡ get_or xs i x → IsMeant (Some i) q named (hands_of xs)
    → (slice_get (hands_of xs) i ≡ Some (hand q x.row x.id (option_map load_of x.cargo))) × (meant q named (hands_of xs) ≡ Some (hand q x.row x.id (option_map load_of x.cargo)))
found_hand xs i x q named within read m =
    let at = hand_got xs i x within read in
    let both : Some (hand_of x) ≡ Some m.0 = sym at ∙ m.1 in
    let same : hand_of x ≡ m.0 = cc in
    let of : x.queue ≡ q = ap (λ (k : Hand). k.queue) same ∙ m.3 in
    let whole : hand_of x ≡ hand q x.row x.id (option_map load_of x.cargo) = ap (λ (n : ℕ). hand n x.row x.id (option_map load_of x.cargo)) of in
    (at ∙ ap Some whole, m.2 ∙ ap Some (sym same ∙ whole))

pub hold_mine : (t : Sight) (q : ℕ) (hands : List Hand) (i r id : ℕ) (cargo : Option Load) → Hold t q hands → slice_get hands i ≡ Some (hand q r id cargo) → Mine t (hand q r id cargo)
hold_mine t q hands i r id cargo hold at = all_get (MineOn t q) hands i (hand q r id cargo) hold.mine at refl

pub lost_at : (xs ys : List Kept) (i : ℕ) (k : Hand) → ys ≡ remove xs i → Apart same_hand (hands_of xs) → slice_get (hands_of xs) i ≡ Some k → hands_of ys ≡ lost k (hands_of xs)
lost_at xs ys i k e apart at =
    ap hands_of e
    ∙ map-append hand_of (take i xs) (drop (suc i) xs)
    ∙ ap (λ (zs : List Hand). zs ++ map hand_of (drop (suc i) xs)) (sym (take-map hand_of i xs))
    ∙ ap (λ (zs : List Hand). take i (hands_of xs) ++ zs) (sym (drop-map hand_of (suc i) xs))
    ∙ remove_lost (hands_of xs) i k apart at

-- another entry of the queue is on another row
other_row : (t : Sight) (q : ℕ) (k j : Hand) → k.queue ≡ q → j.queue ≡ q → Mine t k → Mine t j → is_this k.queue k.id j ≡ false → j.row ≢ k.row
other_row t q k j kq jq a b miss same =
    let rows : Some b.row ≡ Some a.row = sym b.found ∙ ap (row_at (known t)) same ∙ a.found in
    let row : b.row ≡ a.row = cc in
    let ids : j.id ≡ k.id = sym b.same_id ∙ ap (λ (x : Row). x.slip.id) row ∙ a.same_id in
    let hit : is_this k.queue k.id j ≡ true = rw (eq-eqb j.queue k.queue (jq ∙ sym kq)) (rw (eq-eqb j.id k.id ids) refl) in
    let bad : false ≡ true = sym miss ∙ hit in absurd (cc)

-- the others stay the caller's where the line was about one entry
mine_without : (old new : Sight) (q : ℕ) (k : Hand) (hands : List Hand) → AllByRecursion (MineOn old q) hands → k.queue ≡ q → Mine old k → Keeps old new k.row → AllByRecursion (MineOn new q) (lost k hands)
mine_without old new q k [] mine kq a keeps = tt
mine_without old new q k (j ∷ hands) mine kq a keeps =
    let rest : AllByRecursion (MineOn new q) (lost k hands) = mine_without old new q k hands mine.1 kq a keeps in
    by_test (is_this k.queue k.id j) refl rest where
      by_test : (b : Bool) → is_this k.queue k.id j ≡ b → AllByRecursion (MineOn new q) (lost k hands) → AllByRecursion (MineOn new q) (lost k (j ∷ hands))
      by_test true is rest = rw is rest
      by_test false is rest = rw is (λ jq. keeps j (other_row old q k j kq jq a (mine.0 jq) is) (mine.0 jq), rest)

pub hold_lost : (old new : Sight) (q : ℕ) (k : Hand) (hands : List Hand) → Hold old q hands → k.queue ≡ q → Mine old k → Keeps old new k.row → Hold new q (lost k hands)
hold_lost old new q k hands hold kq a keeps = record { mine = mine_without old new q k hands hold.mine kq a keeps; apart = apart-filter same_hand (λ j. not (is_this k.queue k.id j)) hands hold.apart }

-- the entry that a line means, taken out
pub took_meant : (xs ys zs : List Kept) (i : ℕ) (x : Kept) (q : ℕ) (named : Option ℕ) → zs ≡ xs → i < length zs → x ≡ get_or xs i x → IsMeant (Some i) q named (hands_of zs) → ys ≡ remove xs i → Apart same_hand (hands_of xs)
    → TakesMeant q named (hands_of xs) (hands_of ys) (hand q x.row x.id (option_map load_of x.cargo))
took_meant xs ys zs i x q named e within read m removed apart =
    let at = found_hand xs i x q named (subst (λ (l : List Kept). i < length l) e within) read (subst (λ (l : List Kept). IsMeant (Some i) q named (hands_of l)) e m) in
    record { at = i; there = at.0; is_meant = at.1; without_it = lost_at xs ys i _ removed apart at.0 }

-- what goes of an entry's id before it comes
pub gained_after : (q id : ℕ) (hands hands' : List Hand) (j : Hand) → TakesMeant q (Some id) hands hands' j → hands' ≡ without q id hands
gained_after q id hands hands' j t =
    let key = same_key j j q id (find_passes (is_this q id) hands j t.is_meant) in
    t.without_it ∙ ap (λ (n : ℕ). without n j.id hands) key.0 ∙ ap (λ (n : ℕ). without q n hands) key.1

pub gained_none : (q id : ℕ) (hands : List Hand) → meant q (Some id) hands ≡ None → hands ≡ without q id hands
gained_none q id hands none = sym (without_none q id hands none)

-- no entry but one of this id is on the row that was gained
other_gained : (build : Build) (old new : Sight) (call : Call) (answer : Answer) (q : ℕ) (k j : Hand) → Called build old new call answer → k.queue ≡ q → j.queue ≡ q → Mine new k → Mine old j → is_this k.queue k.id j ≡ false → j.row ≢ k.row
other_gained build old new call answer q k j m kq jq a b miss same =
    let t = pass_rows build old new call answer j.row b.row m b.found in
    let rows : Some t.0 ≡ Some a.row = sym t.1 ∙ ap (row_at (known new)) same ∙ a.found in
    let row : t.0 ≡ a.row = cc in
    let ids : j.id ≡ k.id = sym b.same_id ∙ sym (ap (λ (s : Slip). s.id) t.2.slip) ∙ ap (λ (x : Row). x.slip.id) row ∙ a.same_id in
    let hit : is_this k.queue k.id j ≡ true = rw (eq-eqb j.queue k.queue (jq ∙ sym kq)) (rw (eq-eqb j.id k.id ids) refl) in
    let bad : false ≡ true = sym miss ∙ hit in absurd (cc)

mine_besides : (build : Build) (old new : Sight) (call : Call) (answer : Answer) (q : ℕ) (k : Hand) (hands : List Hand) → Called build old new call answer → AllByRecursion (MineOn old q) hands → k.queue ≡ q → Mine new k → Keeps old new k.row → AllByRecursion (MineOn new q) (without k.queue k.id hands)
mine_besides build old new call answer q k [] m mine kq a keeps = tt
mine_besides build old new call answer q k (j ∷ hands) m mine kq a keeps =
    by_test (is_this k.queue k.id j) refl (mine_besides build old new call answer q k hands m mine.1 kq a keeps) where
      by_test : (b : Bool) → is_this k.queue k.id j ≡ b → AllByRecursion (MineOn new q) (without k.queue k.id hands) → AllByRecursion (MineOn new q) (without k.queue k.id (j ∷ hands))
      by_test true is rest = rw is rest
      by_test false is rest = rw is (λ jq. keeps j (other_gained build old new call answer q k j m kq jq a (mine.0 jq) is) (mine.0 jq), rest)

-- another entry than this one
apart_from : (k z : Hand) → is_this k.queue k.id z ≡ false → same_hand z k ≡ false
apart_from k z miss = ⊎_elim
    (λ (a : same_hand z k ≡ true). absurd (let t = same_key k k z.queue z.id a in let hit : is_this k.queue k.id z ≡ true = rw (eq-eqb z.queue k.queue (sym t.0)) (rw (eq-eqb z.id k.id (sym t.1)) refl) in let bad : false ≡ true = sym miss ∙ hit in cc))
    (λ (a : same_hand z k ≡ false). a)
    (cases_Bool (same_hand z k))

pub hold_gained : (build : Build) (old new : Sight) (call : Call) (answer : Answer) (q : ℕ) (k : Hand) (hands : List Hand) → Called build old new call answer → Hold old q hands → k.queue ≡ q → Mine new k → Keeps old new k.row → Hold new q (gained k hands)
hold_gained build old new call answer q k hands m hold kq a keeps = record {
  mine = all-push (MineOn new q) (without k.queue k.id hands) k (mine_besides build old new call answer q k hands m hold.mine kq a keeps) (λ e. a);
  apart = apart-push same_hand (is_this k.queue k.id) (without k.queue k.id hands) k (apart_from k) (find-filter_not (is_this k.queue k.id) hands) (apart-filter same_hand (λ j. not (is_this k.queue k.id j)) hands hold.apart);
}

-- a call that aims at no row
mine_all : (old new : Sight) (q : ℕ) (hands : List Hand) → ((r : ℕ) → Keeps old new r) → AllByRecursion (MineOn old q) hands → AllByRecursion (MineOn new q) hands
mine_all old new q [] keeps mine = tt
mine_all old new q (j ∷ hands) keeps mine = (λ jq. keeps (suc j.row) j (λ e. absurd (omega (arith, e))) (mine.0 jq), mine_all old new q hands keeps mine.1)

pub hold_same : (old new : Sight) (q : ℕ) (hands : List Hand) → ((r : ℕ) → Keeps old new r) → Hold old q hands → Hold new q hands
hold_same old new q hands keeps hold = record { mine = mine_all old new q hands keeps hold.mine; apart = hold.apart }

-- Entries of other queues

all_filter : (P : Hand → Type 0) (p : Hand → Bool) (hands : List Hand) → AllByRecursion P hands → AllByRecursion P (filter p hands)
all_filter P p [] each = tt
all_filter P p (j ∷ hands) each = by_test (p j) (all_filter P p hands each.1) where
  by_test : (b : Bool) → AllByRecursion P (filter p hands) → AllByRecursion P (cond b (j ∷ filter p hands) (filter p hands))
  by_test true rest = (each.0, rest)
  by_test false rest = rest

all_replaced : (P : Hand → Type 0) (k : Hand) (hands : List Hand) → P k → AllByRecursion P hands → AllByRecursion P (replaced k hands)
all_replaced P k [] own each = tt
all_replaced P k (j ∷ hands) own each = by_test (is_this k.queue k.id j) (all_replaced P k hands own each.1) where
  by_test : (b : Bool) → AllByRecursion P (replaced k hands) → AllByRecursion P (cond b k j ∷ replaced k hands)
  by_test true rest = (own, rest)
  by_test false rest = (each.0, rest)

pub others_same : (q : ℕ) (hands : List Hand) → KeepsOthers q hands hands
others_same q hands = record { mine = λ t r apart mine. mine; within = λ n less each. each }

pub others_lost : (q : ℕ) (k : Hand) (hands : List Hand) → KeepsOthers q hands (lost k hands)
others_lost q k hands = record {
  mine = λ t r apart mine. all_filter (MineOn t r) (λ j. not (is_this k.queue k.id j)) hands mine;
  within = λ n less each. all_filter (λ (j : Hand). j.queue < n) (λ j. not (is_this k.queue k.id j)) hands each;
}

pub others_gained : (q : ℕ) (k : Hand) (hands : List Hand) → k.queue ≡ q → KeepsOthers q hands (gained k hands)
others_gained q k hands kq = record {
  mine = λ t r apart mine. all-push (MineOn t r) (without k.queue k.id hands) k (all_filter (MineOn t r) (λ j. not (is_this k.queue k.id j)) hands mine) (λ e. absurd (apart (sym e ∙ kq)));
  within = λ n less each. all-push (λ (j : Hand). j.queue < n) (without k.queue k.id hands) k (all_filter (λ (j : Hand). j.queue < n) (λ j. not (is_this k.queue k.id j)) hands each) (subst (λ (m : ℕ). m < n) (sym kq) less);
}

pub others_replaced : (q : ℕ) (k : Hand) (hands : List Hand) → k.queue ≡ q → KeepsOthers q hands (replaced k hands)
others_replaced q k hands kq = record {
  mine = λ t r apart mine. all_replaced (MineOn t r) k hands (λ e. absurd (apart (sym e ∙ kq))) mine;
  within = λ n less each. all_replaced (λ (j : Hand). j.queue < n) k hands (subst (λ (m : ℕ). m < n) (sym kq) less) each;
}

-- An entry that stays in its place

-- the entry at a place, changed
pub set_replaced : (ks : List Hand) (i : ℕ) (k j : Hand) → Apart same_hand ks → slice_get ks i ≡ Some k → j.queue ≡ k.queue → j.id ≡ k.id → slice_set ks i j ≡ replaced j ks
set_replaced [] i k j apart at jq ji = absurd (cc)
set_replaced (x ∷ ks) zero k j apart at jq ji =
    let same : x ≡ k = cc in
    let here : is_this j.queue j.id x ≡ true = rw (eq-eqb x.queue j.queue (ap (λ (z : Hand). z.queue) same ∙ sym jq)) (rw (eq-eqb x.id j.id (ap (λ (z : Hand). z.id) same ∙ sym ji)) refl) in
    let behind : find (same_hand x) ks ≡ None = apart.0 in
    let keyed : find (is_this j.queue j.id) ks ≡ None = subst (λ (n : ℕ). find (is_this n j.id) ks ≡ None) (ap (λ (z : Hand). z.queue) same ∙ sym jq) (subst (λ (n : ℕ). find (is_this x.queue n) ks ≡ None) (ap (λ (z : Hand). z.id) same ∙ sym ji) behind) in
    ap (λ (zs : List Hand). j ∷ zs) (sym (replaced_none j ks keyed)) ∙ sym (ap (λ (b : Bool). cond b j x ∷ replaced j ks) here)
set_replaced (x ∷ ks) (suc i) k j apart at jq ji =
    let miss : is_this k.queue k.id x ≡ false = same_sym x k (find_none_get (same_hand x) ks i k apart.0 at) in
    let other : is_this j.queue j.id x ≡ false = subst (λ (n : ℕ). is_this n j.id x ≡ false) (sym jq) (subst (λ (n : ℕ). is_this k.queue n x ≡ false) (sym ji) miss) in
    ap (λ (zs : List Hand). x ∷ zs) (set_replaced ks i k j apart.1 at jq ji) ∙ sym (ap (λ (b : Bool). cond b j x ∷ replaced j ks) other)

-- tests of one entry by two of its hands agree from the same others
same_test : (k j z : Hand) → k.queue ≡ j.queue → k.id ≡ j.id → same_hand z k ≡ same_hand z j
same_test k j z q i = ap (λ (n : ℕ). (n == z.queue) && (k.id == z.id)) q ∙ ap (λ (n : ℕ). (j.queue == z.queue) && (n == z.id)) i

find_replaced : (x j : Hand) (ks : List Hand) → find (same_hand x) ks ≡ None → find (same_hand x) (replaced j ks) ≡ None
find_replaced x j [] none = refl
find_replaced x j (z ∷ ks) none = by_test (is_this j.queue j.id z) refl (find_none-head (same_hand x) z ks none) (find_replaced x j ks (find_none-tail (same_hand x) z ks none))
  where
    by_test : (b : Bool) → is_this j.queue j.id z ≡ b → same_hand x z ≡ false → find (same_hand x) (replaced j ks) ≡ None → find (same_hand x) (cond b j z ∷ replaced j ks) ≡ None
    by_test true is miss rest =
        let key = same_key z z j.queue j.id is in
        find-past (same_hand x) j (replaced j ks) (same_test j z x (sym key.0) (sym key.1) ∙ miss) ∙ rest
    by_test false is miss rest = find-past (same_hand x) z (replaced j ks) miss ∙ rest

pub apart_replaced : (j : Hand) (ks : List Hand) → Apart same_hand ks → Apart same_hand (replaced j ks)
apart_replaced j [] apart = tt
apart_replaced j (z ∷ ks) apart = by_test (is_this j.queue j.id z) refl (apart_replaced j ks apart.1)
  where
    by_test : (b : Bool) → is_this j.queue j.id z ≡ b → Apart same_hand (replaced j ks) → Apart same_hand (cond b j z ∷ replaced j ks)
    by_test true is rest =
        let key = same_key z z j.queue j.id is in
        (find_replaced j j ks (subst (λ (n : ℕ). find (is_this n j.id) ks ≡ None) key.0 (subst (λ (n : ℕ). find (is_this z.queue n) ks ≡ None) key.1 apart.0)), rest)
    by_test false is rest = (find_replaced z j ks apart.0, rest)

mine_replaced : (old new : Sight) (q : ℕ) (k j : Hand) (hands : List Hand) → AllByRecursion (MineOn old q) hands → k.queue ≡ q → j.queue ≡ k.queue → j.id ≡ k.id → Mine old k → Mine new j → Keeps old new k.row → AllByRecursion (MineOn new q) (replaced j hands)
mine_replaced old new q k j [] mine kq jq ji a b keeps = tt
mine_replaced old new q k j (z ∷ hands) mine kq jq ji a b keeps = by_test (is_this j.queue j.id z) refl (mine_replaced old new q k j hands mine.1 kq jq ji a b keeps)
  where
    by_test : (t : Bool) → is_this j.queue j.id z ≡ t → AllByRecursion (MineOn new q) (replaced j hands) → AllByRecursion (MineOn new q) (cond t j z ∷ replaced j hands)
    by_test true is rest = (λ e. b, rest)
    by_test false is rest =
        let miss : is_this k.queue k.id z ≡ false = subst (λ (n : ℕ). is_this n k.id z ≡ false) jq (subst (λ (n : ℕ). is_this j.queue n z ≡ false) ji is) in
        (λ zq. keeps z (other_row old q k z kq zq a (mine.0 zq) miss) (mine.0 zq), rest)

-- the hands, where one entry changed in its place
pub hold_replaced : (old new : Sight) (q : ℕ) (k j : Hand) (hands : List Hand) → Hold old q hands → k.queue ≡ q → j.queue ≡ k.queue → j.id ≡ k.id → Mine old k → Mine new j → Keeps old new k.row → Hold new q (replaced j hands)
hold_replaced old new q k j hands hold kq jq ji a b keeps = record { mine = mine_replaced old new q k j hands hold.mine kq jq ji a b keeps; apart = apart_replaced j hands hold.apart }

map_set : (xs : List Kept) (i : ℕ) (x : Kept) → hands_of (slice_set xs i x) ≡ slice_set (hands_of xs) i (hand_of x)
map_set [] zero x = refl
map_set [] (suc i) x = refl
map_set (y ∷ xs) zero x = refl
map_set (y ∷ xs) (suc i) x = ap (λ (zs : List Hand). hand_of y ∷ zs) (map_set xs i x)

-- the entry at a place has another cargo
pub set_cargo : (xs : List Kept) (i : ℕ) (x : Kept) (cargo : Option Parcel) (k : Hand) → i < length xs → x ≡ get_or xs i x → Apart same_hand (hands_of xs) → slice_get (hands_of xs) i ≡ Some k
    → hands_of (slice_set xs i (record x { cargo = cargo })) ≡ replaced (record k { cargo = option_map load_of cargo }) (hands_of xs)
set_cargo xs i x cargo k within read apart at =
    let both : Some (hand_of x) ≡ Some k = sym (hand_got xs i x within read) ∙ at in
    let same : hand_of x ≡ k = cc in
    let j : Hand = record k { cargo = option_map load_of cargo } in
    let whole : hand_of (record x { cargo = cargo }) ≡ j = ap (λ (z : Hand). record z { cargo = option_map load_of cargo }) same in
    map_set xs i (record x { cargo = cargo }) ∙ ap (slice_set (hands_of xs) i) whole ∙ set_replaced (hands_of xs) i k j apart at refl refl

-- the entry that a line means, read where it stands
pub found_here : (xs ds : List Kept) (i : ℕ) (x : Kept) (q : ℕ) (named : Option ℕ) → ds ≡ xs → i < length ds → x ≡ get_or xs i x → IsMeant (Some i) q named (hands_of ds)
    → (slice_get (hands_of xs) i ≡ Some (hand q x.row x.id (option_map load_of x.cargo))) × (meant q named (hands_of xs) ≡ Some (hand q x.row x.id (option_map load_of x.cargo)))
found_here xs ds i x q named e within read m = found_hand xs i x q named (subst (λ (l : List Kept). i < length l) e within) read (subst (λ (l : List Kept). IsMeant (Some i) q named (hands_of l)) e m)

-- and where its cargo is so
pub found_with : (xs ds : List Kept) (i : ℕ) (x : Kept) (q : ℕ) (named : Option ℕ) (cargo : Option Load) → ds ≡ xs → i < length ds → x ≡ get_or xs i x → IsMeant (Some i) q named (hands_of ds) → option_map load_of x.cargo ≡ cargo
    → (slice_get (hands_of xs) i ≡ Some (hand q x.row x.id cargo)) × (meant q named (hands_of xs) ≡ Some (hand q x.row x.id cargo))
found_with xs ds i x q named cargo e within read m is =
    let f = found_here xs ds i x q named e within read m in
    let whole : Some (hand q x.row x.id (option_map load_of x.cargo)) ≡ Some (hand q x.row x.id cargo) = ap (λ (o : Option Load). Some (hand q x.row x.id o)) is in
    (f.0 ∙ whole, f.1 ∙ whole)

-- an entry without a cargo
pub no_cargo : (cargo : Option Parcel) → is_some cargo ≡ false → option_map load_of cargo ≡ None
no_cargo None none = refl
no_cargo (Some p) none = cc

pub some_cargo : (cargo : Option Parcel) → is_some cargo ≡ true → option_map load_of cargo ≢ None
some_cargo None some e = let bad : false ≡ true = some in absurd (cc)
some_cargo (Some p) some e = absurd (cc)
