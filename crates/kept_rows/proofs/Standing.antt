-- the states for which what is kept stands
use Rattle.std.proofs.Common.{◌≡◌, ◌≢◌, ◌⊎◌, inl, inr, ℕ, ◌+◌, ◌-◌, ◌<◌, ◌≤◌, Bool, true, false, if◌then◌else◌, Option, Some, None, List, [], ◌∷◌, ◌++◌, length, map, get_or, set, find, filter, refl, sym, ap, ◌∙◌, subst, ⊎_elim, arith, zero, suc, length-append, eq-eqb, ne_eqb}
use Rattle.std.specs.List.{sum_by, position_or_len, AllByRecursion}
use Rattle.std.specs.Option.{option_map}
use Rattle.std.proofs.lemmas.List.{map-append, map-set, length-set, get_or-map}
use mathlib.Core.Logic.{dite}
use native.Mathlib.Decide.{ℕ_discrete, dec_lt}
use Rattle.queue_model.specs.declared.deeds.Act.{Act}
use Rattle.queue_model.specs.declared.deeds.Act.TheVariants.{Acq, Lock, Unlock, Steal, Rel, Deq, Del, Reserve, GiveBack, Enq}
use Rattle.queue_model.specs.declared.queues.Depth.{Depth}
use Rattle.queue_model.specs.declared.queues.Queue.{Queue}
use Rattle.queue_model.specs.declared.rows.Row.{Row}
use Rattle.queue_model.specs.declared.rows.RowState.{RowState}
use Rattle.queue_model.specs.declared.rows.RowState.TheVariants.{Available, Locked, Unlocked, Dequeued, Deleted}
use Rattle.queue_model.specs.declared.rows.Slip.{Slip}
use Rattle.queue_model.specs.Keyed.{alter}
use Rattle.queue_model.specs.Laws.{KeepsDepth}
use Rattle.queue_model.specs.Order.{Order, ByKey, ByArrival, KeyBefore, Precedes, IsOlder, arrival}
use Rattle.queue_model.specs.State.{is_row, row_at, IsIn, rows_of, is_of_list, list_at, place_at, entries, bytes, depth}
use Rattle.queue_model.specs.Sound.{Sound, RowFits}
use Rattle.queue_model.specs.Table.{Can, acted, changed, in_state, left_in}
use Rattle.queue_model.proofs.Depths.{depth_kept}
use Rattle.queue_model.proofs.RowFacts.{row_number}
use Rattle.queue_model.proofs.SoundSteps.{sound_step, row_fits, list_found}
use Rattle.row_order.specs.Order.{rank, before}
use Rattle.acts_core.specs.Kept.{Kept, KeptRow, Goods, keep, goods_of, at_home, NumberedFrom, Stands}
use Rattle.acts_core.specs.Load.{Load}
use Rattle.acts_core.specs.Moments.{IsLoadOf}
use Rattle.acts_core.specs.Sight.{order_of}
use Rattle.kept_rows.specs.Rows.{kind_by, no_row, kept_at, with_row, goods_in, rank_at, Comes, CameOut}
use Rattle.kept_rows.proofs.Numbered.{number_at, next_is_new, numbered_set, found_by_number, changed_by_number, position_numbered}

some_row : (xs : List Row) (r : ℕ) → r < length xs → (x : Row) × (x ≡ get_or xs r x)
some_row [] r l = absurd (omega arith)
some_row (y ∷ xs) zero l = (y, refl)
some_row (y ∷ xs) (suc r) l = some_row xs r (omega arith)

pub map_length : {X Y : Type 0} (f : X → Y) (xs : List X) → length (map f xs) ≡ length xs
map_length f [] = refl
map_length f (x ∷ xs) = ap suc (map_length f xs)

-- where all pass nothing is left out
filter_all : {X : Type 0} (t : X → Bool) (xs : List X) → AllByRecursion (λ x. t x ≡ true) xs → filter t xs ≡ xs
filter_all t [] a = refl
filter_all t (x ∷ xs) a = ap (λ b. if b then x ∷ filter t xs else filter t xs) a.0 ∙ ap (λ (l : List _). x ∷ l) (filter_all t xs a.1)

module _ (k : Kept) (q : Queue) (st : Stands k q) where
  pub same_length : length q.rows ≡ length k.rows
  same_length = sym (map_length keep q.rows) ∙ ap (λ (l : List KeptRow). length l) (sym st.rows)

  -- the row of the state at a place
  pub record RowIs (r : ℕ) : Type 0 where
    pub row : Row
    pub at : row ≡ get_or q.rows r row
    pub found : row_at q r ≡ Some row
    pub number : row.number ≡ r
    pub same : keep row ≡ kept_at k r

  pub row_is : (r : ℕ) → r < length k.rows → RowIs r
  row_is r l =
      let inside : r < length q.rows = (let s = same_length in omega arith) in
      let x = some_row q.rows r inside in
      let number : x.0.number ≡ r = ap (λ (y : Row). y.number) x.1 ∙ number_at 0 r r q.rows x.0 st.numbered inside (omega arith) in record {
        row = x.0;
        at = x.1;
        found = subst (λ (n : ℕ). find (is_row n) q.rows ≡ Some x.0) number (found_by_number r q.rows x.0 st.numbered inside x.1);
        number = number;
        same = ap keep x.1 ∙ (sym (get_or-map keep q.rows r x.0 no_row inside) ∙ ap (λ (l : List KeptRow). get_or l r no_row) (sym st.rows));
      }

  -- a number that the state has is one of a row that is kept
  pub number_inside : (r : ℕ) (y : Row) → row_at q r ≡ Some y → r < length k.rows
  number_inside r y at = dite (dec_lt r (length k.rows)) (λ (l : r < length k.rows). l)
      (λ (off : ¬ (r < length k.rows)). let none = next_is_new 0 r q.rows st.numbered (let s = same_length in omega arith) in let z : None ≡ Some y = sym none ∙ at in absurd (cc))

  pub row_one : (r : ℕ) (x y : Row) → row_at q r ≡ Some x → row_at q r ≡ Some y → x ≡ y
  row_one r x y p s = let z : Some x ≡ Some y = sym p ∙ s in cc

  -- what is kept of a row of the state
  pub kept_is : (r : ℕ) (y : Row) → row_at q r ≡ Some y → keep y ≡ kept_at k r
  kept_is r y at = let x = row_is r (number_inside r y at) in ap keep (row_one r y x.row at x.found) ∙ x.same

  pub state_is : (r : ℕ) (y : Row) → row_at q r ≡ Some y → y.state ≡ (kept_at k r).state
  state_is r y at = ap (λ (z : KeptRow). z.state) (kept_is r y at)

  pub slip_is : (r : ℕ) (y : Row) → row_at q r ≡ Some y → y.slip ≡ (kept_at k r).slip
  slip_is r y at = ap (λ (z : KeptRow). z.slip) (kept_is r y at)

  pub arrives : (x : Row) → row_at q x.number ≡ Some x → arrival q x ≡ x.number
  arrives x at = let l = number_inside x.number x at in subst (λ (n : ℕ). position_or_len (is_row n) q.rows ≡ x.number) (omega arith) (position_numbered 0 x.number q.rows st.numbered (let s = same_length in omega arith))

  -- all rows are in one list
  one_list : (xs : List Row) → AllByRecursion (RowFits q.lists q.consumers) xs → AllByRecursion (λ x. is_of_list 0 x ≡ true) xs
  one_list [] fits = tt
  one_list (x ∷ xs) fits = (eq-eqb x.slip.list 0 (let l = fits.0.list in let n = st.lists in omega arith), one_list xs fits.1)

  -- a row's place in its list is its number
  pub place_is : (r : ℕ) → r < length k.rows → place_at q r ≡ r
  place_is r l =
      let x = row_is r l in
      let fits = row_fits q r x.row st.sound x.found in
      let list : list_at q r ≡ 0 = list_found q r x.row x.found ∙ (let m = fits.list in let n = st.lists in omega arith) in
      let all : rows_of q 0 ≡ q.rows = filter_all (is_of_list 0) q.rows (one_list q.rows st.sound.rows_fit) in
      ap (λ (n : ℕ). position_or_len (is_row r) (rows_of q n)) list ∙ (ap (position_or_len (is_row r)) all ∙ subst (λ (n : ℕ). position_or_len (is_row n) q.rows ≡ r) (omega arith) (position_numbered 0 r q.rows st.numbered (let s = same_length in omega arith)))

  -- the order of numbers is oldest order
  pub older : (b : Bool) (x y : Row) → row_at q x.number ≡ Some x → row_at q y.number ≡ Some y → x.number < y.number → IsOlder (order_of (kind_by b)) q x y
  older true x y ax ay l = let p = arrives x ax in let r = arrives y ay in omega arith
  older false x y ax ay l = let p = arrives x ax in let r = arrives y ay in omega arith

  -- the order of what is kept is queue order
  pub precedes : (b : Bool) (x y : Row) → row_at q x.number ≡ Some x → row_at q y.number ≡ Some y → Comes b k x.number y.number → Precedes (order_of (kind_by b)) q x y
  precedes true x y ax ay p =
      let kx : x.slip.key ≡ (kept_at k x.number).slip.key = ap (λ (z : Slip). z.key) (slip_is x.number x ax) in
      let ky : y.slip.key ≡ (kept_at k y.number).slip.key = ap (λ (z : Slip). z.key) (slip_is y.number y ay) in
      ⊎_elim
      (λ (l : KeyBefore (kept_at k x.number).slip.key (kept_at k y.number).slip.key). inl (subst (λ (z : Option (List ℕ) × Option (List ℕ)). KeyBefore z.0 z.1) (λ i. (sym kx i, sym ky i)) l))
      (λ (l : ((kept_at k x.number).slip.key ≡ (kept_at k y.number).slip.key) × (x.number < y.number)). inr (kx ∙ (l.0 ∙ sym ky), (let n = l.1 in let p = arrives x ax in let r = arrives y ay in omega arith)))
      p
  precedes false x y ax ay p = ⊎_elim
      (λ (l : KeyBefore None None). absurd l)
      (λ (l : (None ≡ None) × (x.number < y.number)). let n = l.1 in let p = arrives x ax in let r = arrives y ay in omega arith)
      p

  -- a cargo that came out is that of the row
  pub came_load : (r : ℕ) (x : Row) (load : Load) → row_at q r ≡ Some x → CameOut (kept_at k r) (Some load) → IsLoadOf x load
  came_load r x load at came =
      let same = kept_is r x at in
      let slip = slip_is r x at in
      let goods : (if at_home x.state then Some (goods_of x) else None) ≡ Some (goods_in load) = ap (λ (z : KeptRow). z.goods) same ∙ came.2 in
      let g : goods_of x ≡ goods_in load = by_home (at_home x.state) goods in record {
        id = came.0 ∙ ap (λ (z : Slip). z.id) (sym slip);
        size = came.1 ∙ ap (λ (z : Slip). z.size) (sym slip);
        count = ap (λ (z : Goods). z.count) (sym g);
        content = ap (λ (z : Goods). z.content) (sym g);
        origin = ap (λ (z : Goods). z.origin) (sym g);
      }
    where
      by_home : (b : Bool) → (if b then Some (goods_of x) else None) ≡ Some (goods_in load) → goods_of x ≡ goods_in load
      by_home true e = cc
      by_home false e = absurd (cc)

  -- an act that changes one row
  pub stands_changed : (h : ℕ) (a : Act) (f : Row → Row) (r : ℕ) (x : RowIs r) (y : KeptRow) (deep : Depth) (spare : ℕ) → r < length k.rows → Can q h a → (acted q h a).lists ≡ q.lists → (acted q h a).consumers ≡ q.consumers → (acted q h a).rows ≡ (changed q r f).rows → (f x.row).number ≡ x.row.number → keep (f x.row) ≡ y → deep ≡ depth (acted q h a)
      → Stands (record { spare = spare; depth = deep; rows = set k.rows r y }) (acted q h a)
  stands_changed h a f r x y deep spare l can lists consumers is number same deep_is =
      let inside : r < length q.rows = (let n = same_length in omega arith) in
      let now : (changed q r f).rows ≡ set q.rows r (f x.row) = subst (λ (n : ℕ). alter (is_row n) (option_map f) q.rows ≡ set q.rows r (f x.row)) x.number (changed_by_number f r q.rows x.row st.numbered inside x.at) in
      let rows_now : (acted q h a).rows ≡ set q.rows r (f x.row) = is ∙ now in record {
        lists = lists ∙ st.lists;
        consumers = consumers ∙ st.consumers;
        sound = sound_step q h a can st.sound;
        numbered = subst (NumberedFrom 0) (sym rows_now) (numbered_set 0 r q.rows x.row (f x.row) st.numbered (number ∙ ap (λ (z : Row). z.number) x.at));
        rows = ap (λ (l : List KeptRow). set l r y) st.rows ∙ (ap (λ (z : KeptRow). set (map keep q.rows) r z) (sym same) ∙ (sym (map-set keep q.rows r (f x.row)) ∙ ap (map keep) (sym rows_now)));
        depth = deep_is;
      }

  pub same_depth : (h : ℕ) (a : Act) → Can q h a → KeepsDepth a → k.depth ≡ depth (acted q h a)
  same_depth h a can keeps = let d = depth_kept q h a can keeps in st.depth ∙ λ i. record { entries = sym d.0 i; bytes = sym d.1 i }

  -- the queue stands for the state whatever its spare
  pub other_spare : (spare : ℕ) → Stands (record k { spare = spare }) q
  other_spare spare = record { lists = st.lists; consumers = st.consumers; sound = st.sound; numbered = st.numbered; rows = st.rows; depth = st.depth }
