-- what the link behind a stop of a list tells
use Rattle.std.proofs.Common.{◌≡◌, ◌≢◌, ◌⊎◌, inl, inr, ℕ, zero, suc, ◌+◌, ◌-◌, ◌≤◌, ◌<◌, Bool, true, false, cond, Option, Some, None, List, [], ◌∷◌, ◌++◌, length, filter, find, refl, sym, ap, ◌∙◌, subst, ⊎_elim, append_assoc, length-append, eq-eqb, ne_eqb, eqb-true, arith}
use Rattle.std.proofs.lemmas.Bool.{cases_Bool, cond-true, cond-false}
use Rattle.std.specs.List.{AllByRecursion, position_or_len}
use Rattle.std.specs.Prelude.{slice_index}
use mathlib.Core.List.{IsPrefix}
use Rattle.queue_model.specs.declared.deeds.Deed.{Deed}
use Rattle.queue_model.specs.declared.queues.Queue.{Queue}
use Rattle.queue_model.specs.declared.rows.Row.{Row}
use Rattle.queue_model.specs.declared.rows.RowState.TheVariants.{Deleted}
use Rattle.queue_model.specs.declared.steps.Node.TheVariants as nodes
use Rattle.queue_model.specs.declared.steps.Step.TheVariants.{Load}
use Rattle.queue_model.specs.declared.steps.WordName.TheVariants as names
use Rattle.queue_model.specs.History.{after}
use Rattle.queue_model.specs.Keyed.{Apart}
use Rattle.queue_model.specs.Sound.{same_number}
use Rattle.queue_model.specs.State.{is_row, row_at, is_of_list, rows_of, list_at, place_at}
use Rattle.queue_model.proofs.KeyedLemmas.{find-here, find-past, find_passes, find_none-head, find_none-tail, find_none-cons, find_none-filter, find-append, apart-filter, all-find, position-here, position-past, position-append}
use Rattle.queue_model.proofs.SoundSteps.{list_found}
use Rattle.queue_model.proofs.Stable.{found_in_list}
use Rattle.link_core.specs.Layout.{row_link_of, head_of}
use Rattle.link_core.specs.Stands.{Points, Chain, Stands}
use Rattle.link_core.specs.Steps.{shown as word_shown}
use Rattle.link_core.specs.Table.{Table}
use Rattle.link_core.proofs.Fewer as fewer
use Rattle.link_core.proofs.Fewer.{position_in}
use Rattle.link_core.proofs.InLists.{found_there, row_of_list}
use Rattle.link_core.proofs.Leading.{chain_points, row_points}
use Rattle.acts_core.specs.Walks.{node_at, reach, IsOfList, IsStop, AreDeleted, Follows, FollowsTo}
use Rattle.acts_core.specs.Sight.{on_head}
use Rattle.acts_core.proofs.Walking.{find-behind, list_later}
use Rattle.entry_table.specs.declared.pass.Pass.{Pass}
use Rattle.entry_table.specs.declared.view.Shape.{Shape}
use Rattle.entry_table.specs.Passes.{Kept, Did, view, opening, seen, shown, allowance, share}
use Rattle.entry_table.specs.Plays.{Within, Shows}
use Rattle.entry_table.specs.Sights.{sight}
use Rattle.entry_table.specs.Views.{entry}
use Rattle.entry_table.proofs.Sighting.{stepped, same_rights}

-- Places in lists

module _ {X : Type 0} where
  -- whether something is found
  found_or : (o : Option X) → (o ≡ None) ⊎ ((x : X) × (o ≡ Some x))
  found_or None = inl refl
  found_or (Some x) = inr (x, refl)

  position-behind : (p : X → Bool) (xs ys : List X) → find p xs ≡ None → position_or_len p (xs ++ ys) ≡ length xs + position_or_len p ys
  position-behind p [] ys e = omega arith
  position-behind p (x ∷ xs) ys e =
      let rest = position-behind p xs ys (find_none-tail p x xs e) in
      position-past p x (xs ++ ys) (find_none-head p x xs e) ∙ omega (arith, rest)

  -- what is found splits its list
  pub record Split (p : X → Bool) (xs : List X) (x : X) : Type 0 where
    pub front : List X
    pub back : List X
    pub whole : xs ≡ front ++ x ∷ back
    pub place : length front ≡ position_or_len p xs

  split_at : (p : X → Bool) (xs : List X) (x : X) → find p xs ≡ Some x → Split p xs x
  split_at p [] x e = absurd (cc)
  split_at p (y ∷ ys) x e = ⊎_elim
      (λ (hit : p y ≡ true).
      let one : Some y ≡ Some x = sym (find-here p y ys hit) ∙ e in
      let same : y ≡ x = cc in
      let none : position_or_len p (y ∷ ys) ≡ 0 = position-here p y ys hit in
      record { front = []; back = ys; whole = ap (λ (z : X). z ∷ ys) same; place = sym none })
      (λ (miss : p y ≡ false).
      let t = split_at p ys x (sym (find-past p y ys miss) ∙ e) in
      let place = t.place in
      record { front = y ∷ t.front; back = t.back; whole = ap (λ (zs : List X). y ∷ zs) t.whole; place = omega (arith, place, position-past p y ys miss) })
      (cases_Bool (p y))

  -- what is found at a place of the middle part is found there
  middle_found : (p : X → Bool) (front mid rest : List X) (x : X) → find p (front ++ (mid ++ rest)) ≡ Some x → length front ≤ position_or_len p (front ++ (mid ++ rest)) → position_or_len p (front ++ (mid ++ rest)) < length front + length mid → find p mid ≡ Some x
  middle_found p front mid rest x found low high = ⊎_elim
      (λ (none : find p front ≡ None).
      let place = position-behind p front (mid ++ rest) none in
      let later : find p (mid ++ rest) ≡ Some x = sym (find-behind p front (mid ++ rest) none) ∙ found in
      ⊎_elim
      (λ (away : find p mid ≡ None). let far = position-behind p mid rest away in absurd (omega (arith, high, place, far)))
      (λ (here : (y : X) × (find p mid ≡ Some y)).
      let one : Some here.0 ≡ Some x = sym (find-append p mid rest here.0 here.1) ∙ later in
      here.1 ∙ one)
      (found_or (find p mid)))
      (λ (some : (y : X) × (find p front ≡ Some y)).
      let in_front = position_in p front some.0 some.1 in
      let same = position-append p front (mid ++ rest) some.0 some.1 in
      absurd (omega (arith, low, in_front, same)))
      (found_or (find p front))

-- Rows of a list

-- no row before one has its number
apart_front : (pre : List Row) (y : Row) (back : List Row) → Apart same_number (pre ++ y ∷ back) → find (is_row y.number) pre ≡ None
apart_front [] y back apart = refl
apart_front (x ∷ pre) y back apart =
    let other : x.number ≢ y.number = λ e.
    let hit : is_row x.number y ≡ true = eq-eqb y.number x.number (sym e) in
    let seen : find (is_row x.number) (pre ++ y ∷ back) ≡ None = apart.0 in
    let miss : is_row x.number y ≡ false = later_head x.number pre y back seen in
    (let bad : true ≡ false = sym hit ∙ miss in cc)
    in
    find_none-cons (is_row y.number) x pre (ne_eqb x.number y.number other) (apart_front pre y back apart.1)
  where
    later_head : (n : ℕ) (pre : List Row) (y : Row) (back : List Row) → find (is_row n) (pre ++ y ∷ back) ≡ None → is_row n y ≡ false
    later_head n [] y back e = find_none-head (is_row n) y back e
    later_head n (z ∷ pre) y back e = later_head n pre y back (find_none-tail (is_row n) z (pre ++ y ∷ back) e)

-- What points

-- a link that is not empty names the first row behind it that is not skipped; those that are skipped are deleted
record Named (n : ℕ) (xs : List Row) : Type 0 where
  mid : List Row
  row : Row
  back : List Row
  whole : xs ≡ mid ++ row ∷ back
  gone : AllByRecursion (λ x. x.state ≡ Deleted) mid
  names : n ≡ suc row.number

points_none : (n : ℕ) (xs : List Row) → n ≡ 0 → Points n xs → xs ≡ []
points_none n [] e p = refl
points_none n (x ∷ xs) e p = ⊎_elim
    (λ (here : n ≡ suc x.number). absurd (omega (arith, e, here)))
    (λ (skip : (x.state ≡ Deleted) × (n ≢ 0) × Points n xs). absurd (skip.1 e))
    p

points_some : (n : ℕ) (xs : List Row) → n ≢ 0 → Points n xs → Named n xs
points_some n [] some p = absurd (some p)
points_some n (x ∷ xs) some p = ⊎_elim
    (λ (here : n ≡ suc x.number). record { mid = []; row = x; back = xs; whole = refl; gone = tt; names = here })
    (λ (skip : (x.state ≡ Deleted) × (n ≢ 0) × Points n xs).
    let t = points_some n xs some skip.2 in
    record { mid = x ∷ t.mid; row = t.row; back = t.back; whole = ap (λ (zs : List Row). x ∷ zs) t.whole; gone = (skip.0, t.gone); names = t.names })
    p

-- Stops

-- what the link n of a stop tells of its list
pub record LinkTells (q : Queue) (l w n : ℕ) : Type 0 where
  pub ends : n ≡ 0 → (m : ℕ) → AreDeleted q l (reach q w) m
  pub leads : (r : ℕ) → n ≡ suc r → IsOfList q l r × (reach q w ≤ place_at q r) × AreDeleted q l (reach q w) (place_at q r)

-- where the rows of the list are those before the stop and those behind it
tells : (q : Queue) (l w n : ℕ) (front behind : List Row) → Apart same_number q.rows → rows_of q l ≡ front ++ behind → length front ≡ reach q w → Points n behind → LinkTells q l w n
tells q l w n front behind apart whole long points = record {
  ends = λ none m e x found list low high.
      let t = found_there q l e x found list in
      let all : rows_of q l ≡ front ++ [] = whole ∙ ap (λ (zs : List Row). front ++ zs) (points_none n behind none points) in
      let within : position_or_len (is_row e) (rows_of q l) < length (rows_of q l) = position_in (is_row e) (rows_of q l) x t.0 in
      absurd (omega (arith, within, ap length all, length-append front [], long, low, t.1));
  leads = λ r is.
      let some : n ≢ 0 = λ e. omega (arith, e, is) in
      let k = points_some n behind some points in
      let y = k.row in
      let number : y.number ≡ r = (let names = k.names in omega (arith, is, names)) in
      let all : rows_of q l ≡ front ++ (k.mid ++ y ∷ k.back) = whole ∙ ap (λ (zs : List Row). front ++ zs) k.whole in
      let all' : rows_of q l ≡ (front ++ k.mid) ++ y ∷ k.back = all ∙ sym (append_assoc front k.mid (y ∷ k.back)) in
      let apart_list : Apart same_number (rows_of q l) = apart-filter same_number (is_of_list l) q.rows apart in
      let none : find (is_row y.number) (front ++ k.mid) ≡ None = apart_front (front ++ k.mid) y k.back (subst (Apart same_number) all' apart_list) in
      let hit : is_row y.number y ≡ true = eq-eqb y.number y.number refl in
      let found_y : find (is_row y.number) (rows_of q l) ≡ Some y =
      ap (find (is_row y.number)) all' ∙ find-behind (is_row y.number) (front ++ k.mid) (y ∷ k.back) none ∙ find-here (is_row y.number) y k.back hit
      in
      let mine = row_of_list l y.number q.rows y apart found_y in
      let there = found_there q l y.number y mine.0 mine.1 in
      let place : place_at q y.number ≡ length (front ++ k.mid) + position_or_len (is_row y.number) (y ∷ k.back) =
      there.1 ∙ ap (position_or_len (is_row y.number)) all' ∙ position-behind (is_row y.number) (front ++ k.mid) (y ∷ k.back) none
      in
      let first : position_or_len (is_row y.number) (y ∷ k.back) ≡ 0 = position-here (is_row y.number) y k.back hit in
      let at : place_at q y.number ≡ length front + length k.mid = omega (arith, place, first, length-append front k.mid) in
      let gone : AreDeleted q l (reach q w) (place_at q y.number) = λ e x found list low high.
      let t = found_there q l e x found list in
      let here : find (is_row e) (front ++ (k.mid ++ y ∷ k.back)) ≡ Some x = subst (λ (zs : List Row). find (is_row e) zs ≡ Some x) all t.0 in
      let pos : place_at q e ≡ position_or_len (is_row e) (front ++ (k.mid ++ y ∷ k.back)) = t.1 ∙ ap (position_or_len (is_row e)) all in
      all-find (λ z. z.state ≡ Deleted) (is_row e) k.mid x k.gone
      (middle_found (is_row e) front k.mid (y ∷ k.back) x here (omega (arith, low, long, pos)) (omega (arith, high, at, pos)))
      in
      subst (λ (s : ℕ). IsOfList q l s × (reach q w ≤ place_at q s) × AreDeleted q l (reach q w) (place_at q s)) number
      ((y, mine.0, mine.1), omega (arith, at, long), gone);
}

-- what the link of a stop shows in words that stand for the queue tells
pub link_tells : (t : Table) (q : Queue) (l w : ℕ) → Stands t q → l < t.lists → IsStop q l w → LinkTells q l w (word_shown t (Load (names.Link (node_at l w))))
link_tells t q l zero s inside stop = tells q l 0 (slice_index t.words (head_of t.rows l)) [] (rows_of q l) s.sound.rows_apart refl refl (chain_points t.words (slice_index t.words (head_of t.rows l)) (rows_of q l) (s.links l inside))
link_tells t q l (suc r) s inside stop =
    let there = found_there q l r stop.0 stop.1 stop.2 in
    let k = split_at (is_row r) (rows_of q l) stop.0 there.0 in
    let number : stop.0.number ≡ r = eqb-true stop.0.number r (find_passes (is_row r) (rows_of q l) stop.0 there.0) in
    let whole : rows_of q l ≡ (k.front ++ stop.0 ∷ []) ++ k.back = k.whole ∙ sym (append_assoc k.front (stop.0 ∷ []) k.back) in
    let place = k.place in
    let points : Points (slice_index t.words (row_link_of r)) k.back =
    subst (λ (n : ℕ). Points (slice_index t.words (row_link_of n)) k.back) number
    (row_points t.words (slice_index t.words (head_of t.rows l)) k.front stop.0 k.back (subst (Chain t.words (slice_index t.words (head_of t.rows l))) k.whole (s.links l inside)))
    in
    tells q l (suc r) (slice_index t.words (row_link_of r)) (k.front ++ stop.0 ∷ []) k.back s.sound.rows_apart whole (omega (arith, place, there.1, length-append k.front (stop.0 ∷ []))) points

-- Passes

-- the node of a stop that is no head
pub row_node : (l w : ℕ) → w ≢ 0 → node_at l w ≡ nodes.Row (w - 1)
row_node l zero some = absurd (some refl)
row_node l (suc r) some = ap (λ (n : ℕ). nodes.Row n) (let e : r ≡ suc r - 1 = omega arith in e)

-- the place of a row is below the number of rows
pub place_low : (shape : Shape) (q : Queue) (r : ℕ) (x : Row) → Within shape q → row_at q r ≡ Some x → place_at q r < shape.rows
place_low shape q r x w found = fewer.place_low shape.rows q r x w.sound.rows_apart w.low found

-- a stop of a list is one later
pub stop_later : (o : Queue) (ds es : List Deed) (l w : ℕ) → IsPrefix ds es → IsStop (after o ds) l w → IsStop (after o es) l w
stop_later o ds es l zero p stop = tt
stop_later o ds es l (suc r) p stop = list_later o ds es l r p stop

-- the entry of a load of a stop's link is on the head link of its list alone
head_alone : (l w n m : ℕ) (seen : List Deed) → m ≢ l → on_head m (entry (Load (names.Link (node_at l w))) n n seen).step ≡ false
head_alone l zero n m seen away = ne_eqb l m (λ e. away (sym e))
head_alone l (suc r) n m seen away = refl

head_first : (l w n : ℕ) (seen : List Deed) → w ≡ 0 → on_head l (entry (Load (names.Link (node_at l w))) n n seen).step ≡ true
head_first l zero n seen e = eq-eqb l l refl
head_first l (suc r) n seen e = absurd (omega (arith, e))

-- the link of a stop was loaded
pub follows : (old new : Pass) (l w n : ℕ) → Kept old new → allowance new ≡ allowance old → share new ≡ share old → Did old new [] → shown new ≡ shown old ++ entry (Load (names.Link (node_at l w))) n n (seen new) ∷ [] → Follows (sight old) (sight new) l w
follows old new l w n k a s d e = record {
  entry = entry (Load (names.Link (node_at l w))) n n (seen new);
  steps = stepped old new [] (entry (Load (names.Link (node_at l w))) n n (seen new) ∷ []) k d e;
  rights = same_rights old new a s;
  when = refl;
  head = λ first. head_first l w n (seen new) first;
  other = λ m away. head_alone l w n m (seen new) away;
}

-- what it tells
told_by : (old new : Pass) (shape : Shape) (l w n : ℕ) → (view old).shape ≡ shape → l < shape.lists → IsStop (after (opening old) (seen old)) l w → Kept old new → Did old new [] → Shows (Load (names.Link (node_at l w))) n (after (opening new) (seen new)) → LinkTells (after (opening old) (seen new)) l w n
told_by old new shape l w n same inside stop k d s =
    let stop_new : IsStop (after (opening new) (seen new)) l w = subst (λ (o : Queue). IsStop (after o (seen new)) l w) (sym k.opening) (stop_later (opening old) (seen old) (seen new) l w d.prefix stop) in
    let lists : s.0.lists ≡ shape.lists = s.1.shaped.lists ∙ new.within.lists ∙ ap (λ (z : Shape). z.lists) (k.shape ∙ same) in
    let t = link_tells s.0 (after (opening new) (seen new)) l w s.1 (omega (arith, inside, lists)) stop_new in
    subst (λ (o : Queue). LinkTells (after o (seen new)) l w n) k.opening (subst (λ (m : ℕ). LinkTells (after (opening new) (seen new)) l w m) s.2 t)

-- no row stands behind the stop
pub follows_none : (old new : Pass) (shape : Shape) (l w n : ℕ) → (view old).shape ≡ shape → l < shape.lists → IsStop (after (opening old) (seen old)) l w → Kept old new → allowance new ≡ allowance old → share new ≡ share old → Did old new []
    → Shows (Load (names.Link (node_at l w))) n (after (opening new) (seen new)) → shown new ≡ shown old ++ entry (Load (names.Link (node_at l w))) n n (seen new) ∷ [] → n ≡ 0 → FollowsTo (sight old) (sight new) l w None
follows_none old new shape l w n same inside stop k a s d shows e none =
    (follows old new l w n k a s d e, (told_by old new shape l w n same inside stop k d shows).ends none)

-- this row does
pub follows_some : (old new : Pass) (shape : Shape) (l w n : ℕ) → (view old).shape ≡ shape → l < shape.lists → IsStop (after (opening old) (seen old)) l w → Kept old new → allowance new ≡ allowance old → share new ≡ share old → Did old new []
    → Shows (Load (names.Link (node_at l w))) n (after (opening new) (seen new)) → shown new ≡ shown old ++ entry (Load (names.Link (node_at l w))) n n (seen new) ∷ [] → n ≢ 0
    → FollowsTo (sight old) (sight new) l w (Some (n - 1)) × ((n - 1 < shape.rows) × (place_at (after (opening new) (seen new)) (n - 1) < shape.rows))
follows_some old new shape l w n same inside stop k a s d shows e some =
    let t = (told_by old new shape l w n same inside stop k d shows).leads (n - 1) (omega (arith, some)) in
    let here : IsOfList (after (opening new) (seen new)) l (n - 1) = subst (λ (o : Queue). IsOfList (after o (seen new)) l (n - 1)) (sym k.opening) t.0 in
    let rows : (view new).shape.rows ≡ shape.rows = ap (λ (z : Shape). z.rows) (k.shape ∙ same) in
    let place = place_low (view new).shape (after (opening new) (seen new)) (n - 1) here.0 new.within here.1 in
    let low = new.within.low (n - 1) here.0 here.1 in
    ((follows old new l w n k a s d e, t.0, t.1, t.2), (omega (arith, low, rows), omega (arith, place, rows)))
