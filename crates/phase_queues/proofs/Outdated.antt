-- which entries of a last-value queue are outdated
use Rattle.std.proofs.Common.{◌≡◌, ◌≢◌, ℕ, zero, suc, ◌<◌, nat_lt, ◌&&◌, ◌||◌, Bool, true, false, cond, not, filter, find, get_or, Option, Some, None, List, [], ◌∷◌, length, map, refl, sym, ap, ◌∙◌, arith, eq-eqb}
use Rattle.std.specs.List.{AllByRecursion, list_any, position_or_len}
use Rattle.std.proofs.lemmas.Bool.{cond-true, cond-false, ltb-true}
use Rattle.std.proofs.lemmas.Bool.Decides.{Decides-ltb}
use Rattle.std.proofs.lemmas.Slice.Eq.{bytes_eq-Decides}
use Rattle.queue_model.proofs.KeyedLemmas.{all-filter}
use Rattle.queue_model.specs.declared.queues.Queue.{Queue}
use Rattle.queue_model.specs.declared.rows.Row.{Row}
use Rattle.queue_model.specs.declared.rows.Slip.{Slip}
use Rattle.queue_model.specs.Order.{ByArrival, Precedes, arrival}
use Rattle.queue_model.specs.Sound.{RowFits, Sound}
use Rattle.queue_model.specs.State.{is_of_list, is_row, list_at, place_at, rows_of}
use Rattle.queue_model.proofs.SoundSteps.{list_found, row_fits}
use Rattle.acts_core.specs.Held.{IsOutdatedIn}
use Rattle.acts_core.specs.Moments.{IsRow}
use Rattle.acts_core.specs.Rest.{AreLeft, InOrder, IsLeft, IsLive, Marks, left_of}
use Rattle.acts_core.specs.Sight.{Kind, Listed, Sorted, LastValue}
use Rattle.acts_core.specs.declared.cargoes.RestEntry.{RestEntry}
use Rattle.txn_core.specs.declared.parcels.Parcel.{Parcel}
use Rattle.txn_core.specs.Parcels.{load_of}
use Rattle.entry_table.proofs.Closing.{all_found}
use Rattle.lastval_core.specs.Fronts.{KeysApart, keys_of}
use Rattle.account_core.specs.Carry.{is_outdated, same_key}
use Rattle.phase_queues.specs.Left.{goods_left, lasting_in}

-- Truth

or_left : (a b : Bool) → a ≡ true → (a || b) ≡ true
or_left true b e = refl
or_left false b e = absurd (cc)

or_right : (a b : Bool) → b ≡ true → (a || b) ≡ true
or_right true b e = refl
or_right false b e = e

both_true : (a b : Bool) → a ≡ true → b ≡ true → (a && b) ≡ true
both_true true b e f = f
both_true false b e f = absurd (cc)

true_both : (a b : Bool) → (a && b) ≡ true → (a ≡ true) × (b ≡ true)
true_both true b e = (refl, e)
true_both false b e = absurd (cc)

same_bool : (b c : Bool) → (b ≡ true → c ≡ true) → (c ≡ true → b ≡ true) → b ≡ c
same_bool true c to back = sym (to refl)
same_bool false true to back = back refl
same_bool false false to back = refl

key_same : (j k : Option (List ℕ)) → j ≡ k → j ≢ None → same_key j k ≡ true
key_same None k e some = absurd (some refl)
key_same (Some a) None e some = absurd (some e)
key_same (Some a) (Some b) e some = (bytes_eq-Decides a b).1 (cc)

same_key_is : (j k : Option (List ℕ)) → same_key j k ≡ true → (j ≡ k) × (j ≢ None)
same_key_is None k e = absurd (cc)
same_key_is (Some a) None e = absurd (cc)
same_key_is (Some a) (Some b) e = (ap (λ (t : List ℕ). Some t) ((bytes_eq-Decides a b).0 e), λ none. absurd (cc))

-- Places in the one list

all_one : (l c : ℕ) (xs : List Row) → l ≡ 1 → AllByRecursion (RowFits l c) xs → filter (is_of_list 0) xs ≡ xs
all_one l c [] one fits = refl
all_one l c (x ∷ xs) one fits =
    let hit : is_of_list 0 x ≡ true = eq-eqb x.slip.list 0 (let low = fits.0.list in omega (arith, low, one)) in
    ap (λ (b : Bool). cond b (x ∷ filter (is_of_list 0) xs) (filter (is_of_list 0) xs)) hit ∙ ap (λ (ys : List Row). x ∷ ys) (all_one l c xs one fits.1)

module _ (q : Queue) (sound : Sound q) (one : q.lists ≡ 1) where
  -- where there is one list, a row's place in it is when it came
  came : (x : Row) → IsRow q x → place_at q x.number ≡ arrival q x
  came x here =
      let low = (row_fits q x.number x sound here).list in
      let list : list_at q x.number ≡ 0 = list_found q x.number x here ∙ omega (arith, low, one) in
      ap (λ (n : ℕ). position_or_len (is_row x.number) (rows_of q n)) list ∙ ap (position_or_len (is_row x.number)) (all_one q.lists q.consumers q.rows one sound.rows_fit)

  -- Tests

  any_there : (t : Row → Bool) (n : ℕ) (xs : List Row) (y : Row) → find (is_row n) xs ≡ Some y → t y ≡ true → list_any t xs ≡ true
  any_there t n [] y e hit = absurd (cc)
  any_there t n (x ∷ xs) y e hit = by_test (is_row n x) refl (λ rest. any_there t n xs y rest hit) where
    by_test : (b : Bool) → is_row n x ≡ b → (find (is_row n) xs ≡ Some y → list_any t xs ≡ true) → list_any t (x ∷ xs) ≡ true
    by_test true h rest =
        let same : Some x ≡ Some y = sym (cond-true (is_row n x) (Some x) (find (is_row n) xs) h) ∙ e in
        let is : x ≡ y = cc in
        or_left (t x) (list_any t xs) (ap t is ∙ hit)
    by_test false h rest = or_right (t x) (list_any t xs) (rest (sym (cond-false (is_row n x) (Some x) (find (is_row n) xs) h) ∙ e))

  some_there : (t : Row → Bool) (xs : List Row) → AllByRecursion (IsRow q) xs → list_any t xs ≡ true → (y : Row) × IsRow q y × (t y ≡ true)
  some_there t [] all hit = absurd (cc)
  some_there t (x ∷ xs) all hit = by_test (t x) refl (some_there t xs all.1) where
    by_test : (b : Bool) → t x ≡ b → (list_any t xs ≡ true → (y : Row) × IsRow q y × (t y ≡ true)) → (y : Row) × IsRow q y × (t y ≡ true)
    by_test true h rest = (x, all.0, h)
    by_test false h rest = rest (sym (ap (λ (b : Bool). b || list_any t xs) h) ∙ hit)

  all_there : AllByRecursion (IsRow q) q.rows
  all_there = all_found {C = ℕ} (λ n. record { id = 0; size = 0; count = 0; content = []; origin = [] }) q.rows q.rows sound.rows_apart (λ x e. e) sound.rows_apart

  abbrev later_than : Row → Row → Bool
  later_than x y = same_key x.slip.key y.slip.key && nat_lt (arrival q x) (arrival q y)

  -- the test finds what the model calls outdated
  outdated_is : (x : Row) → IsRow q x → IsOutdatedIn q x.number → is_outdated LastValue q x ≡ true
  outdated_is x here o =
      let one_row : Some o.row ≡ Some x = sym o.found ∙ here in
      let is : o.row ≡ x = cc in
      let key : x.slip.key ≡ o.later.slip.key = sym (ap (λ (z : Row). z.slip.key) is) ∙ sym o.key in
      let some : x.slip.key ≢ None = λ none. o.some (ap (λ (z : Row). z.slip.key) is ∙ none) in
      let place = o.place in
      let a = came x here in
      let b = came o.later o.there in
      any_there (later_than x) o.later.number q.rows o.later o.there
      (both_true (same_key x.slip.key o.later.slip.key) (nat_lt (arrival q x) (arrival q o.later)) (key_same x.slip.key o.later.slip.key key some) ((Decides-ltb (arrival q x) (arrival q o.later)).1 (omega (arith, place, a, b))))

  is_outdated_in : (x : Row) → IsRow q x → is_outdated LastValue q x ≡ true → IsOutdatedIn q x.number
  is_outdated_in x here e =
      let t = some_there (later_than x) q.rows all_there e in
      let two = true_both (same_key x.slip.key t.0.slip.key) (nat_lt (arrival q x) (arrival q t.0)) t.2 in
      let key = same_key_is x.slip.key t.0.slip.key two.0 in
      let less = ltb-true (arrival q x) (arrival q t.0) two.1 in
      let a = came x here in
      let b = came t.0 t.1 in record {
        row = x;
        found = here;
        later = t.0;
        there = t.1;
        key = sym key.0;
        some = key.1;
        place = omega (arith, less, a, b);
      }

-- the mark of an entry says whether it is outdated
pub mark_is : (kind : Kind) (q : Queue) → Sound q → (kind ≡ LastValue → q.lists ≡ 1) → (x : Row) (b : Bool) → IsRow q x → Marks kind q x.number b → b ≡ is_outdated kind q x
mark_is Listed q sound one x b there marks = marks
mark_is Sorted q sound one x b there marks = marks
mark_is LastValue q sound one x b there marks =
    same_bool b (is_outdated LastValue q x) (λ e. outdated_is q sound (one refl) x there (marks.0 e)) (λ e. marks.1 (is_outdated_in q sound (one refl) x there e))

-- Keys

-- no key of an entry is that of one behind it
abbrev KeysDiffer : List (RestEntry Parcel) → Type 0
KeysDiffer [] = Unit {0}
KeysDiffer (e ∷ es) = AllByRecursion (λ f. e.slip.key ≢ None → e.slip.key ≢ f.slip.key) es × KeysDiffer es

module _ (q : Queue) (sound : Sound q) (one : q.lists ≡ 1) where
  ahead : (e : RestEntry Parcel) (x : Row) → IsLeft LastValue q (left_of load_of e) x → IsRow q x → e.outdated ≡ false → (es : List (RestEntry Parcel)) (xs : List Row)
      → AreLeft LastValue q (map (left_of load_of) es) xs → AllByRecursion (IsLive q) xs → AllByRecursion (λ y. Precedes ByArrival q x y) xs → AllByRecursion (λ (f : RestEntry Parcel). e.slip.key ≢ None → e.slip.key ≢ f.slip.key) es
  ahead e x l here off [] xs left lives order = tt
  ahead e x l here off (f ∷ es) [] left lives order = absurd left
  ahead e x l here off (f ∷ es) (y ∷ ys) left lives order = (apart, ahead e x l here off es ys left.1 lives.1 order.1) where
    apart : e.slip.key ≢ None → e.slip.key ≢ f.slip.key
    apart some same =
        let m : IsLeft LastValue q (left_of load_of f) y = left.0 in
        let mine : e.slip.key ≡ x.slip.key = ap (λ (z : Slip). z.key) l.slip in
        let other : f.slip.key ≡ y.slip.key = ap (λ (z : Slip). z.key) m.slip in
        let first = order.0 in
        let a = came q sound one x here in
        let b = came q sound one y lives.0.there in
        let o : IsOutdatedIn q x.number = record {
          row = x;
          found = here;
          later = y;
          there = lives.0.there;
          key = sym other ∙ sym same ∙ mine;
          some = λ none. some (mine ∙ none);
          place = omega (arith, first, a, b);
        } in
        let bad : false ≡ true = sym off ∙ l.marks.1 o in
        absurd (cc)

  differ : (es : List (RestEntry Parcel)) (xs : List Row) → AreLeft LastValue q (map (left_of load_of) es) xs → AllByRecursion (IsLive q) xs → InOrder LastValue q xs → KeysDiffer (lasting_in es)
  differ [] xs left lives order = tt
  differ (e ∷ es) [] left lives order = absurd left
  differ (e ∷ es) (x ∷ xs) left lives order = by_test e.outdated refl (differ es xs left.1 lives.1 order.1) where
    by_test : (b : Bool) → e.outdated ≡ b → KeysDiffer (lasting_in es) → KeysDiffer (cond (not b) (e ∷ lasting_in es) (lasting_in es))
    by_test true h rest = rest
    by_test false h rest = (all-filter (λ (f : RestEntry Parcel). e.slip.key ≢ None → e.slip.key ≢ f.slip.key) (λ f. not f.outdated) es (ahead e x left.0 lives.0.there h es xs left.1 lives.1 order.0), rest)

differs_at : (key : Option (List ℕ)) (es : List (RestEntry Parcel)) → AllByRecursion (λ (f : RestEntry Parcel). key ≢ None → key ≢ f.slip.key) es → (j : ℕ) → j < length (goods_left es) → key ≢ None → key ≢ get_or (keys_of (goods_left es)) j None
differs_at key [] all j low some = absurd (omega (arith, low))
differs_at key (f ∷ es) all zero low some = all.0 some
differs_at key (f ∷ es) all (suc j) low some = differs_at key es all.1 j (omega (arith, low)) some

differ_apart : (es : List (RestEntry Parcel)) → KeysDiffer es → KeysApart (goods_left es)
differ_apart [] d i j less low = absurd (omega (arith, low))
differ_apart (e ∷ es) d i zero less low = absurd (omega (arith, less))
differ_apart (e ∷ es) d zero (suc j) less low = λ some. differs_at e.slip.key es d.0 j (omega (arith, low)) some
differ_apart (e ∷ es) d (suc i) (suc j) less low = differ_apart es d.1 i j (omega (arith, less)) (omega (arith, low))

-- entries that are not outdated have no key twice
pub keys_apart : (q : Queue) → Sound q → q.lists ≡ 1 → (es : List (RestEntry Parcel)) (xs : List Row) → AreLeft LastValue q (map (left_of load_of) es) xs → AllByRecursion (IsLive q) xs → InOrder LastValue q xs → KeysApart (goods_left (lasting_in es))
keys_apart q sound one es xs left lives order = differ_apart (lasting_in es) (differ q sound one es xs left lives order)
