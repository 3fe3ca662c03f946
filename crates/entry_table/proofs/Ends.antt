-- the ends of lists while entries are laid down
use Rattle.std.proofs.Common.{◌≡◌, ◌≢◌, ℕ, zero, suc, ◌+◌, ◌-◌, ◌<◌, ◌≤◌, eqb, List, [], ◌∷◌, ◌++◌, length, length-append, set, Option, Some, None, refl, sym, ap, ◌∙◌, subst, arith, append-nil, append_assoc, ⊎_elim, eq-eqb, ne_eqb, reverse, take, drop, add-zero}
use Rattle.std.specs.Prelude.{slice_index}
use Rattle.std.specs.List.{AllByRecursion, position_or_len}
use Rattle.std.specs.Option.{option_map_or}
use Rattle.std.proofs.lemmas.Bool.{cases_eq, cond-true, cond-false}
use Rattle.std.proofs.lemmas.List.{reverse-append, reverse-reverse, length-reverse, take_all, drop_all, length-set, get_or-set_same, get_or-set_other}
use Rattle.std.proofs.lemmas.List.Elements.{filter-append}
use Rattle.queue_model.specs.declared.queues.Queue.{Queue}
use Rattle.queue_model.specs.declared.rows.Row.{Row}
use Rattle.queue_model.specs.declared.rows.RowState.TheVariants.{Available}
use Rattle.queue_model.specs.declared.rows.Slip.{Slip}
use Rattle.queue_model.specs.Sound.{IsOpening}
use Rattle.queue_model.specs.State.{row_at, rows_of, list_at, place_at, is_row, is_of_list}
use Rattle.queue_model.proofs.KeyedLemmas.{find-append, find_none-filter, position-push}
use Rattle.queue_model.proofs.RowFacts.{row_push}
use Rattle.acts_core.specs.Load.{Load}
use Rattle.entry_table.specs.declared.view.Shape.{Shape}
use Rattle.entry_table.specs.declared.view.View.{View}
use Rattle.entry_table.specs.Views.{state_in}
use Rattle.entry_table.specs.Rule.{below, boss}
use Rattle.entry_table.specs.Plays.{Within}
use Rattle.entry_table.specs.Starting.{MayStart, AllMayStart, IsStarted, AreStarted, IsEnd, laid, CanLay, DidLay, IsLaid, Laying}

-- A row more

rows_more : (q : Queue) (x : Row) → rows_of (laid q x) x.slip.list ≡ rows_of q x.slip.list ++ x ∷ []
rows_more q x = filter-append (is_of_list x.slip.list) q.rows (x ∷ []) ∙ ap (λ (l : List Row). rows_of q x.slip.list ++ l) (cond-true (eqb x.slip.list x.slip.list) (x ∷ []) [] (eq-eqb x.slip.list x.slip.list refl))

rows_other : (q : Queue) (x : Row) (l : ℕ) → x.slip.list ≢ l → rows_of (laid q x) l ≡ rows_of q l
rows_other q x l ne = filter-append (is_of_list l) q.rows (x ∷ []) ∙ ap (λ (z : List Row). rows_of q l ++ z) (cond-false (eqb x.slip.list l) (x ∷ []) [] (ne_eqb x.slip.list l ne)) ∙ append-nil (rows_of q l)

pub list_is : (q : Queue) (r : ℕ) (x : Row) → row_at q r ≡ Some x → list_at q r ≡ x.slip.list
list_is q r x found = ap (λ (o : Option Row). option_map_or (λ (z : Row). z.slip.list) o 0) found

pub place_is : (q : Queue) (r l : ℕ) → list_at q r ≡ l → place_at q r ≡ position_or_len (is_row r) (rows_of q l)
place_is q r l e = ap (λ (k : ℕ). position_or_len (is_row r) (rows_of q k)) e

-- the list of the new row ends with it
pub end_more : (q : Queue) (x : Row) (w n : ℕ) → row_at q x.number ≡ None → x.slip.list < q.lists → IsEnd q x.slip.list w n → IsEnd (laid q x) x.slip.list (suc x.number) (n + 1)
end_more q x w n new low e =
    let l : ℕ = x.slip.list in
    let r : ℕ = x.number in
    let found : row_at (laid q x) r ≡ Some x = row_push r q.rows x new refl in
    let list : list_at (laid q x) r ≡ l = list_is (laid q x) r x found in
    let at : place_at (laid q x) r ≡ length (rows_of q l) =
    place_is (laid q x) r l list ∙ (ap (position_or_len (is_row r)) (rows_more q x) ∙ position-push (is_row r) (rows_of q l) x (find_none-filter (is_row r) (is_of_list l) q.rows new) (eq-eqb r r refl)) in
    let long = e.long in record {
      known = (x, found);
      list = list;
      place = omega (arith, at, long);
      last = (rows_of q l, x, subst (λ (k : ℕ). k < q.lists) (sym list) low, ap (rows_of (laid q x)) list ∙ rows_more q x, refl);
      long = ap length (rows_more q x) ∙ (length-append (rows_of q l) (x ∷ []) ∙ ap (λ (k : ℕ). k + 1) long);
    }

-- the other lists end as they did
pub end_other : (q : Queue) (x : Row) (l w n : ℕ) → x.slip.list ≢ l → IsEnd q l w n → IsEnd (laid q x) l w n
end_other q x l zero n ne e = record { known = e.known; list = e.list; place = e.place; last = rows_other q x l ne ∙ e.last; long = ap length (rows_other q x l ne) ∙ e.long }
end_other q x l (suc a) n ne e =
    let y : Row = e.known.0 in
    let found : row_at q a ≡ Some y = e.known.1 in
    let found' : row_at (laid q x) a ≡ Some y = find-append (is_row a) q.rows (x ∷ []) y found in
    let same : list_at (laid q x) a ≡ list_at q a = list_is (laid q x) a y found' ∙ sym (list_is q a y found) in
    let list : list_at (laid q x) a ≡ l = same ∙ e.list in
    let rows : rows_of (laid q x) (list_at (laid q x) a) ≡ rows_of q (list_at q a) = ap (rows_of (laid q x)) list ∙ (rows_other q x l ne ∙ ap (rows_of q) (sym e.list)) in
    let at : place_at (laid q x) a ≡ place_at q a = ap (position_or_len (is_row a)) rows in
    let place = e.place in record {
      known = (y, found');
      list = list;
      place = omega (arith, at, place);
      last = (e.last.0, e.last.1, subst (λ (k : ℕ). k < q.lists) (sym same) e.last.2, rows ∙ e.last.3, e.last.4);
      long = ap length (rows_other q x l ne) ∙ e.long;
    }

module _ {C : Type 0} (load : C → Load) where
  started_push : (es : List (Slip × C)) (xs : List Row) (slip : Slip) (c : C) (x : Row) → AreStarted load es xs → IsStarted load slip c x → AreStarted load (es ++ (slip, c) ∷ []) (xs ++ x ∷ [])
  started_push [] [] slip c x all mine = (mine, tt)
  started_push [] (y ∷ ys) slip c x all mine = absurd all
  started_push (e ∷ es) [] slip c x all mine = absurd all
  started_push (e ∷ es) (y ∷ ys) slip c x all mine = (all.0, started_push es ys slip c x all.1 mine)

  pub started_long : (es : List (Slip × C)) (xs : List Row) → AreStarted load es xs → length xs ≡ length es
  started_long [] [] all = refl
  started_long [] (x ∷ xs) all = absurd all
  started_long (e ∷ es) [] all = absurd all
  started_long (e ∷ es) (x ∷ xs) all = ap suc (started_long es xs all.1)

  pub started_available : (es : List (Slip × C)) (xs : List Row) → AreStarted load es xs → AllByRecursion (λ x. x.state ≡ Available) xs
  started_available [] [] all = tt
  started_available [] (x ∷ xs) all = absurd all
  started_available (e ∷ es) [] all = absurd all
  started_available (e ∷ es) (x ∷ xs) all = (all.0.state, started_available es xs all.1)

  -- a pass that laid these down may lay one more
  pub can_lay : (done : List (Slip × C)) (v : View) (stops places : List ℕ) (slip : Slip) (c : C) → Laying load done v stops places → Within v.shape (state_in v) → v.shape.rows ≤ 524288 → length done < v.shape.rows → MayStart load v.shape.lists v.shape.consumers slip c
      → CanLay load v (slice_index stops slip.list) (slice_index places slip.list) slip c
  can_lay done v stops places slip c t within small less may =
      let b = t.base in
      let allowed = b.allowed in
      let shared = b.shared in record {
        alone = b.alone;
        caller = b.caller;
        room = omega (arith, allowed, less, small);
        rows = omega (arith, shared, less);
        reserved = b.reserved;
        may = subst (λ (z : ℕ × ℕ). MayStart load z.0 z.1 slip c) (λ i. (sym within.lists i, sym within.consumers i)) may;
        end = t.ends slip.list may.fits.list;
      }

  -- and then it has laid it down
  pub lay_more : (done : List (Slip × C)) (v w : View) (stops places : List ℕ) (slip : Slip) (c : C) (row : ℕ) → Laying load done v stops places → Within v.shape (state_in v) → v.shape.lists ≤ 10 → v.shape.rows ≤ 524288 → length done < v.shape.rows → slip.list < v.shape.lists → DidLay load v w slip c row
      → Laying load (done ++ (slip, c) ∷ []) w (set stops slip.list (row + 1)) (set places slip.list (slice_index places slip.list + 1))
  lay_more done v w stops places slip c row t within few_lists small less low d =
      let b = t.base in
      let q : Queue = state_in v in
      let l : ℕ = slip.list in
      let n : ℕ = slice_index places l in
      let shape : w.shape ≡ v.shape = ap (λ (z : View). z.shape) d.view in
      let allowance : w.allowance ≡ v.allowance - 1 = ap (λ (z : View). z.allowance) d.view in
      let share : w.share ≡ v.share - 1 = ap (λ (z : View). z.share) d.view in
      let allowed = b.allowed in
      let shared = b.shared in
      let more = length-append done ((slip, c) ∷ []) in
      let rows_same : w.shape.rows ≡ v.shape.rows = ap (λ (s : Shape). s.rows) shape in
      let stop : suc d.x.number ≡ row + 1 = let e = d.number in omega (arith, e) in
      let list : d.x.slip.list ≡ l = ap (λ (s : Slip). s.list) d.started.slip_is in
      let long_stops = t.long_stops in
      let long_places = t.long_places in
      let new : row_at q d.x.number ≡ None = ap (row_at q) d.number ∙ d.new in
      let low' : l < q.lists = let e = within.lists in omega (arith, e, low) in
      let stops' : List ℕ = set stops l (row + 1) in
      let places' : List ℕ = set places l (n + 1) in
      record {
        base = record {
          alone = ap (λ (z : View). z.alone) d.view ∙ b.alone;
          caller = ap (λ (z : View). z.callers) d.view ∙ b.caller;
          made = ap (λ (z : View). z.made) d.view ∙ b.made;
          served = ap (λ (z : View). z.consumers) d.view ∙ (b.served ∙ ap (λ (s : Shape). below s.consumers) (sym shape));
          rows = subst (λ (z : Queue). AreStarted load (done ++ (slip, c) ∷ []) z.rows) (sym d.state) (started_push done q.rows slip c d.x b.rows d.started);
          reserved = ap (λ (z : Queue). z.reserved) d.state;
          bells = ap (λ (z : Queue). z.bells) d.state ∙ b.bells;
          allowed = omega (arith, allowance, allowed, more, less, small);
          shared = omega (arith, share, shared, more, less, rows_same);
        };
        ends = λ m under. let under' : m < v.shape.lists = subst (λ (s : Shape). m < s.lists) shape under in ⊎_elim
            (λ (hit : l ≡ m). subst (λ (k : ℕ). IsEnd (state_in w) k (slice_index stops' k) (slice_index places' k)) hit
            (subst (λ (z : Queue × ℕ × ℕ). IsEnd z.0 l z.1 z.2) (λ i. (sym d.state i, (stop ∙ sym (get_or-set_same stops l (row + 1) 0 (omega (arith, low, few_lists, long_stops)))) i, sym (get_or-set_same places l (n + 1) 0 (omega (arith, low, few_lists, long_places))) i))
            (subst (λ (k : ℕ). IsEnd (laid q d.x) k (suc d.x.number) (n + 1)) list
            (end_more q d.x (slice_index stops l) n new (subst (λ (k : ℕ). k < q.lists) (sym list) low') (subst (λ (k : ℕ). IsEnd q k (slice_index stops l) n) (sym list) (t.ends l low))))))
            (λ (miss : l ≢ m).
            subst (λ (z : Queue × ℕ × ℕ). IsEnd z.0 m z.1 z.2) (λ i. (sym d.state i, sym (get_or-set_other stops l m (row + 1) 0 (λ z. miss (sym z))) i, sym (get_or-set_other places l m (n + 1) 0 (λ z. miss (sym z))) i))
            (end_other q d.x m (slice_index stops m) (slice_index places m) (λ z. miss (sym list ∙ z)) (t.ends m under')))
            (cases_eq l m);
        few = λ m under. let under' : m < v.shape.lists = subst (λ (s : Shape). m < s.lists) shape under in ⊎_elim
            (λ (hit : l ≡ m). subst (λ (k : ℕ). slice_index places' k ≤ length (done ++ (slip, c) ∷ [])) hit
            (let here = get_or-set_same places l (n + 1) 0 (omega (arith, low, few_lists, long_places)) in let small_n = t.few l low in omega (arith, here, small_n, more)))
            (λ (miss : l ≢ m). let there = get_or-set_other places l m (n + 1) 0 (λ z. miss (sym z)) in let small_m = t.few m under' in omega (arith, there, small_m, more))
            (cases_eq l m);
        long_stops = length-set stops l (row + 1) ∙ long_stops;
        long_places = length-set places l (n + 1) ∙ long_places;
      }

-- All entries

module _ {C : Type 0} (load : C → Load) where
  -- the entries done, and those that are left, last first
  pub record Going (all : List (Slip × C)) (v : View) (stops places : List ℕ) (left : List (Slip × C)) : Type 0 where
    pub done : List (Slip × C)
    pub whole : all ≡ done ++ reverse left
    pub laying : Laying load done v stops places
    pub may : AllMayStart load v.shape.lists v.shape.consumers (reverse left)

  -- before the first one
  pub going_begins : (shape : Shape) (all left : List (Slip × C)) (stops places : List ℕ) → length stops ≡ 10 → length places ≡ 10 → ((l : ℕ) → slice_index stops l ≡ 0) → ((l : ℕ) → slice_index places l ≡ 0) → left ≡ reverse all → AllMayStart load shape.lists shape.consumers all
      → Going all (boss shape) stops places left
  going_begins shape all left stops places long_stops long_places no_stop no_place turned may =
      let back : all ≡ reverse left = sym (ap reverse turned ∙ reverse-reverse all) in
      record {
        done = [];
        whole = back;
        laying = record {
          base = record { alone = refl; caller = refl; made = refl; served = refl; rows = tt; reserved = refl; bells = refl; allowed = refl; shared = add-zero shape.rows };
          ends = λ l low. subst (λ (z : ℕ × ℕ). IsEnd (state_in (boss shape)) l z.0 z.1) (λ i. (sym (no_stop l) i, sym (no_place l) i)) (record { known = low; list = refl; place = refl; last = refl; long = refl });
          few = λ l low. let none_yet = no_place l in omega (arith, none_yet);
          long_stops = long_stops;
          long_places = long_places;
        };
        may = subst (AllMayStart load shape.lists shape.consumers) back may;
      }

  -- the next one
  pub record Next (all : List (Slip × C)) (v : View) (stops places : List ℕ) (left : List (Slip × C)) (slip : Slip) (c : C) : Type 0 where
    pub done : List (Slip × C)
    pub laying : Laying load done v stops places
    pub less : length done < length all
    pub may : MayStart load v.shape.lists v.shape.consumers slip c
    pub rest : (w : View) (s p : List ℕ) → w.shape ≡ v.shape → Laying load (done ++ (slip, c) ∷ []) w s p → Going all w s p left

  pub going_next : (all : List (Slip × C)) (v : View) (stops places : List ℕ) (old left : List (Slip × C)) (slip : Slip) (c : C) → old ≡ left ++ (slip, c) ∷ [] → Going all v stops places old → Next all v stops places left slip c
  going_next all v stops places old left slip c last g =
      let front : reverse old ≡ (slip, c) ∷ reverse left = ap reverse last ∙ reverse-append left ((slip, c) ∷ []) in
      let whole : all ≡ g.done ++ (slip, c) ∷ reverse left = g.whole ∙ ap (λ (l : List (Slip × C)). g.done ++ l) front in
      let may = subst (AllMayStart load v.shape.lists v.shape.consumers) front g.may in
      let long = length-append g.done ((slip, c) ∷ reverse left) in
      let all_long = ap length whole in
      record {
        done = g.done;
        laying = g.laying;
        less = omega (arith, long, all_long);
        may = may.0;
        rest = λ w s p shape t. record {
          done = g.done ++ (slip, c) ∷ [];
          whole = whole ∙ sym (append_assoc g.done ((slip, c) ∷ []) (reverse left));
          laying = t;
          may = subst (λ (z : Shape). AllMayStart load z.lists z.consumers (reverse left)) (sym shape) may.1;
        };
      }

  -- and after the last one
  pub going_ends : (all : List (Slip × C)) (v : View) (stops places : List ℕ) (left : List (Slip × C)) → left ≡ [] → Going all v stops places left → IsLaid load all v
  going_ends all v stops places left none_left g =
      let whole : all ≡ g.done = g.whole ∙ (ap (λ (l : List (Slip × C)). g.done ++ reverse l) none_left ∙ append-nil g.done) in
      subst (λ (l : List (Slip × C)). IsLaid load l v) (sym whole) g.laying.base

  -- what was laid down is an opening
  pub laid_opens : (all : List (Slip × C)) (v : View) → IsLaid load all v → Within v.shape (state_in v) → v.shape.rows ≤ 524288 → IsOpening (state_in v)
  laid_opens all v b within small =
      let long = started_long load all (state_in v).rows b.rows in
      let shared = b.shared in record {
        rows_apart = within.sound.rows_apart;
        rows_fit = within.sound.rows_fit;
        available = started_available load all (state_in v).rows b.rows;
        reserved = b.reserved;
        bells = b.bells;
        few = omega (arith, long, shared, small);
      }

-- the items of a vector that was turned round
pub turned_items : {X : Type 0} (items new : List X) (len : ℕ) → length items ≡ len → new ≡ reverse items → take len (new ++ drop (length new) items) ≡ reverse items
turned_items items new len long e =
    let same : length new ≡ length items = ap length e ∙ length-reverse items in
    ap (λ (l : List _). take len (new ++ l)) (drop_all (length new) items (omega (arith, same))) ∙ (ap (take len) (append-nil new) ∙ (take_all len new (omega (arith, same, long)) ∙ e))

-- ten zeros
abbrev pub zeros : List ℕ
zeros = 0 ∷ 0 ∷ 0 ∷ 0 ∷ 0 ∷ 0 ∷ 0 ∷ 0 ∷ 0 ∷ 0 ∷ []

pub zero_at : (l : ℕ) → slice_index zeros l ≡ 0
zero_at zero = refl
zero_at (suc zero) = refl
zero_at (suc (suc zero)) = refl
zero_at (suc (suc (suc zero))) = refl
zero_at (suc (suc (suc (suc zero)))) = refl
zero_at (suc (suc (suc (suc (suc zero))))) = refl
zero_at (suc (suc (suc (suc (suc (suc zero)))))) = refl
zero_at (suc (suc (suc (suc (suc (suc (suc zero))))))) = refl
zero_at (suc (suc (suc (suc (suc (suc (suc (suc zero)))))))) = refl
zero_at (suc (suc (suc (suc (suc (suc (suc (suc (suc zero))))))))) = refl
zero_at (suc (suc (suc (suc (suc (suc (suc (suc (suc (suc l)))))))))) = refl
