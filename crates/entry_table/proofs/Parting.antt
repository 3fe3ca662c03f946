-- caller numbers, and passes that are split and joined
use Rattle.std.proofs.Common.{◌≡◌, ◌≢◌, ℕ, zero, suc, ◌+◌, ◌%◌, ◌^◌, ◌<◌, ◌≤◌, ◌⊎◌, Bool, true, false, eqb, List, [], ◌∷◌, ◌++◌, filter, length, set, Option, Some, None, refl, sym, ap, ◌∙◌, subst, ⊎_elim, arith, append-nil, inl, inr, eq-eqb, ne_eqb, le-leb, leb-true, nat_le, if◌then◌else◌, not}
use Rattle.std.specs.Prelude.{slice_index}
use Rattle.std.specs.List.{sum_by}
use Rattle.std.proofs.lemmas.Bool.{cases_Bool, cond-true, cond-false}
use Rattle.std.proofs.lemmas.List.Sums.{sum_by_push}
use mathlib.Core.Option as maybe
use mathlib.Core.List.{IsPrefix}
use mathlib.Core.Logic.{dite}
use native.Mathlib.Decide.{dec_le}
use lib.ListN.{get_elem?}
use Rattle.atomic_table.specs.Table.{Me, keeps, Allows, Splits, Joins}
use Rattle.atomic_table.proofs.Lists.{set_else, at_longer}
use Rattle.queue_model.specs.declared.deeds.Deed.{Deed}
use Rattle.queue_model.specs.declared.queues.Queue.{Queue}
use Rattle.queue_model.specs.declared.steps.DraftWord.{DraftWord}
use Rattle.queue_model.specs.History.{after, own}
use Rattle.acts_core.specs.Load.{Load}
use Rattle.queue_model.specs.State.{entries}
use Rattle.queue_model.proofs.Prefixes.{prefix_self, prefix_shorter, prefix_length, prefix_whole, own_between}
use Rattle.link_core.specs.Layout.{draft_of}
use Rattle.link_core.proofs.Frames as words
use Rattle.link_core.proofs.Counting.{callers_kept}
use Rattle.entry_table.specs.declared.view.Shape.{Shape}
use Rattle.entry_table.specs.declared.view.View.{View}
use Rattle.entry_table.specs.Views.{Has, is_in, caller_of, takes_of, longer, spent, told_of}
use Rattle.entry_table.specs.Rule.{table_at, Each, Knows, Serves, IsTold, Tells, Drafted, Reaches, Takes, Watches, Holds, Alone, Counts, RuledAt, Ruled, allowance, share}
use Rattle.entry_table.specs.Plays.{numbered, numbered_view, behind, cut_left, cut_right, drop_second, second_of, merged, noted_left, note}
use Rattle.entry_table.proofs.Frames.{views_set, sum_views, away_set, not_alone, takes_set, reaches_set, alone_set, takes-append, serves_set, holds_idle}
use Rattle.entry_table.proofs.Concerning.{has_in, in_has}
use Rattle.entry_table.proofs.Onwards.{links_off, watches_set}
use Rattle.entry_table.proofs.Keeping.{opened, went}

-- Lists of numbers

pub has_filter : (k : ℕ) (p : ℕ → Bool) (xs : List ℕ) → Has k (filter p xs) → Has k xs × (p k ≡ true)
has_filter k p [] has = absurd has
has_filter k p (x ∷ xs) has = ⊎_elim
    (λ (yes_p : p x ≡ true). ⊎_elim
    (λ (e : x ≡ k). (inl e, subst (λ (z : ℕ). p z ≡ true) e yes_p))
    (λ (t : Has k (filter p xs)). let u = has_filter k p xs t in (inr u.0, u.1))
    (subst (Has k) (cond-true (p x) (x ∷ filter p xs) (filter p xs) yes_p) has))
    (λ (no_p : p x ≡ false). let u = has_filter k p xs (subst (Has k) (cond-false (p x) (x ∷ filter p xs) (filter p xs) no_p) has) in (inr u.0, u.1))
    (cases_Bool (p x))

pub has_front : (k : ℕ) (xs ys : List ℕ) → Has k xs → Has k (xs ++ ys)
has_front k [] ys h = absurd h
has_front k (x ∷ xs) ys h = ⊎_elim (λ (e : x ≡ k). inl e) (λ (t : Has k xs). inr (has_front k xs ys t)) h

pub has_back : (k : ℕ) (xs ys : List ℕ) → Has k ys → Has k (xs ++ ys)
has_back k [] ys h = h
has_back k (x ∷ xs) ys h = inr (has_back k xs ys h)

pub has_append : (k : ℕ) (xs ys : List ℕ) → Has k (xs ++ ys) → Has k xs ⊎ Has k ys
has_append k [] ys h = inr h
has_append k (x ∷ xs) ys h = ⊎_elim (λ (e : x ≡ k). inl (inl e)) (λ (t : Has k (xs ++ ys)). ⊎_elim (λ (l : Has k xs). inl (inr l)) (λ (l : Has k ys). inr l) (has_append k xs ys t)) h

-- a fact of each view, with one more
pub views_more : {V : Type 0} (P : ℕ → V → Type 0) (views : List V) (w : V) → Each P views → P (length views) w → Each P (views ++ w ∷ [])
views_more P [] w each new zero u e = subst (P 0) (let z : w ≡ u = cc in z) new
views_more P [] w each new (suc j) u e = absurd (cc)
views_more P (x ∷ xs) w each new zero u e = each zero u e
views_more P (x ∷ xs) w each new (suc j) u e = views_more (λ (i : ℕ). P (suc i)) xs w (λ i y f. each (suc i) y f) new j u e

-- the Takes of a history between two that have the same
pub takes_between : (c : ℕ) (ds es fs : List Deed) → IsPrefix ds es → IsPrefix es fs → takes_of c fs ≡ takes_of c ds → takes_of c fs ≡ takes_of c es
takes_between c ds es fs p r same =
    let q1 : IsPrefix (takes_of c ds) (takes_of c es) = (takes_of c p.0, sym (takes-append c ds p.0) ∙ ap (takes_of c) p.1) in
    let q2 : IsPrefix (takes_of c es) (takes_of c fs) = (takes_of c r.0, sym (takes-append c es r.0) ∙ ap (takes_of c) r.1) in
    let low = prefix_length (takes_of c ds) (takes_of c es) q1 in
    let high = prefix_length (takes_of c es) (takes_of c fs) q2 in
    sym (prefix_whole (takes_of c es) (takes_of c fs) q2 (omega (arith, low, high, ap length same)))

longer_case : (xs ys : List Deed) (b : Bool) → (b ≡ true → ⊥) → (if b then ys else xs) ≡ xs
longer_case xs ys true off = absurd (off refl)
longer_case xs ys false off = refl

longer_left : (xs ys : List Deed) → ¬ (length xs ≤ length ys) → longer xs ys ≡ xs
longer_left xs ys gt = longer_case xs ys (nat_le (length xs) (length ys)) (λ e. gt (leb-true (length xs) (length ys) e))

pub longer_of : (xs ys H : List Deed) → IsPrefix xs H → IsPrefix ys H → IsPrefix xs (longer xs ys) × IsPrefix ys (longer xs ys) × IsPrefix (longer xs ys) H
longer_of xs ys H p q = dite (dec_le (length xs) (length ys))
    (λ le. subst (λ (z : List Deed). IsPrefix xs z × IsPrefix ys z × IsPrefix z H) (sym (rw (le-leb (length xs) (length ys) le) refl)) (prefix_shorter xs ys H p q le, prefix_self ys, q))
    (λ gt. let lt : length ys ≤ length xs = omega arith in subst (λ (z : List Deed). IsPrefix xs z × IsPrefix ys z × IsPrefix z H) (sym (longer_left xs ys gt)) (prefix_self xs, prefix_shorter ys xs H q p lt, p))

-- another seat for one number, for some numbers, and for all numbers of one seat
abbrev pub seats_with : (ℕ → ℕ) → ℕ → ℕ → ℕ → ℕ
seats_with f k new c = if eqb c k then new else f c

abbrev pub seats_for : (ℕ → ℕ) → List ℕ → ℕ → ℕ → ℕ
seats_for f cs new c = if is_in c cs then new else f c

abbrev pub moved_to : (ℕ → ℕ) → ℕ → ℕ → ℕ → ℕ
moved_to f other id k = if eqb (f k) other then id else f k

with_here : (f : ℕ → ℕ) (k new c : ℕ) → c ≡ k → seats_with f k new c ≡ new
with_here f k new c e = cond-true (eqb c k) new (f c) (eq-eqb c k e)

with_else : (f : ℕ → ℕ) (k new c : ℕ) → c ≢ k → seats_with f k new c ≡ f c
with_else f k new c ne = cond-false (eqb c k) new (f c) (ne_eqb c k ne)

moved_here : (f : ℕ → ℕ) (other id k : ℕ) → f k ≡ other → moved_to f other id k ≡ id
moved_here f other id k e = cond-true (eqb (f k) other) id (f k) (eq-eqb (f k) other e)

moved_else : (f : ℕ → ℕ) (other id k : ℕ) → f k ≢ other → moved_to f other id k ≡ f k
moved_else f other id k ne = cond-false (eqb (f k) other) id (f k) (ne_eqb (f k) other ne)

module _ {C : Type 0} (load : C → Load) (shape : Shape) where
  -- the boss draws a caller number
  pub numbers_allowed : (slots id : ℕ) (m : Me (Option C) View) (ended : List ℕ) → m.0.callers ≡ 0 ∷ ended → m.0.slot ≡ None → m.0.made < 4294967296
      → Allows (Ruled load shape) slots id m 1 (λ n. (n + 1) % 2 ^ 64) (numbered m)
  numbers_allowed slots id m ended is idle few s ruled len at low =
      let v : View = m.0 in
      let r = opened load shape s id v 0 ended is at ruled in
      let H : List Deed = r.history in
      let q : Queue = after v.opening H in
      let n : ℕ = slice_index s.words 1 in
      let made : v.made ≡ n = r.counted id v at ended is in
      let w : View = numbered_view v n H in
      let fits : (n + 1) % 2 ^ 64 ≡ n + 1 = omega (arith, made, few) in
      let words' : List ℕ = set s.words 1 (n + 1) in
      let all : H ≡ H ++ [] = sym (append-nil H) in
      let sums = sum_views allowance s.views id v w at in
      let shares = sum_views share s.views id v w at in
      let allowed : sum_by allowance s.views + entries q ≤ 524288 = r.allowed in
      let shared : sum_by share s.views + slice_index s.words 0 ≤ shape.rows = r.shared in
      let top : slice_index words' 0 ≡ slice_index s.words 0 = words.set_else s.words 1 (n + 1) 0 (omega arith) in
      let long = r.stands.shaped.long in
      let count : slice_index words' 1 ≡ n + 1 = words.set_here s.words 1 (n + 1) (omega (arith, long)) in
      let off : (i : ℕ) (x : DraftWord) → slice_index words' (draft_of i x) ≡ slice_index s.words (draft_of i x) = λ i x. words.set_else s.words 1 (n + 1) (draft_of i x) (omega (arith, words.draft_low i x)) in
      let seats : ℕ → ℕ = seats_with r.seats n id in
      let below : (j : ℕ) (u : View) → get_elem? s.views j ≡ maybe.some u → (k : ℕ) → Has k u.callers → k ≢ n = λ j u e k has. let b = ((r.knows j u e).mine k has).1 in omega (arith, b) in
      let w_callers : w.callers ≡ 0 ∷ n ∷ ended = ap (behind n) is in
      let k = r.knows id v at in
      let has_v : (c : ℕ) → (0 ≡ c) ⊎ Has c ended → Has c v.callers = λ c has. subst (Has c) (sym is) has in
      let stands = callers_kept (table_at shape s.words r.drawer r.reserved) q (n + 1) r.stands in
      let rule : RuledAt load shape v.opening record { words = words'; homes = s.homes; views = set s.views id w } = record {
        history = H;
        drawer = r.drawer;
        reserved = r.reserved;
        seats = seats;
        owners = r.owners;
        outs = r.outs;
        enders = r.enders;
        rows = r.rows;
        legal = r.legal;
        stands = stands;
        cargoes = r.cargoes;
        knows = views_set (Knows shape v.opening H seats (slice_index words' 1)) s.views id w
            (λ j u ne e. let o = r.knows j u e in record { prefix = o.prefix; opens = o.opens; mine = λ c has. let t = o.mine c has in let b = t.1 in (with_else r.seats n id c (below j u e c has) ∙ t.0, omega (arith, count, b), t.2) })
            (record {
              prefix = prefix_self H;
              opens = λ c has. k.opens 0 (has_v 0 (inl refl));
              mine = λ c has. ⊎_elim
                  (λ (z : 0 ≡ c). let t = k.mine c (has_v c (inl z)) in let b = t.1 in (with_else r.seats n id c (below id v at c (has_v c (inl z))) ∙ t.0, omega (arith, count, b), refl))
                  (λ (z : (n ≡ c) ⊎ Has c ended). ⊎_elim
                  (λ (y : n ≡ c). (with_here r.seats n id c (sym y), omega (arith, count, y), refl))
                  (λ (y : Has c ended). let t = k.mine c (has_v c (inr y)) in let b = t.1 in (with_else r.seats n id c (below id v at c (has_v c (inr y))) ∙ t.0, omega (arith, count, b), refl)) z)
                  (subst (Has c) w_callers has);
            });
        serves = subst (λ (l : List Deed). Each (Serves l r.owners shape.consumers) (set s.views id w)) (append-nil H) (serves_set H [] r.owners shape.consumers s.views id v w at (λ c ne. refl) (λ c has. ap (takes_of c) (append-nil H)) refl r.serves);
        tells = views_set (Tells H) s.views id w (λ j u ne e. r.tells j u e) (λ t has. absurd has);
        drafts = views_set (Drafted words' r.drawer) s.views id w
            (λ j u ne e i d found. let t = r.drafts j u e i d found in record { mine = t.mine; drew = t.drew; written = λ x. off i x ∙ t.written x })
            (λ i d found. let t = r.drafts id v at i d found in record {
              mine = subst (λ (l : List ℕ). Has (caller_of l) l) (sym w_callers) (inl refl);
              drew = t.drew ∙ ap (λ (l : List ℕ). Some (caller_of l)) is ∙ ap (λ (l : List ℕ). Some (caller_of l)) (sym w_callers);
              written = λ x. off i x ∙ t.written x;
            });
        unwritten = λ i x few high. off i x ∙ r.unwritten i x few (omega (arith, top, high));
        reaches = let low = r.reaches id v at in reaches_set (slice_index s.words 0) (slice_index words' 0) s.views id w (omega (arith, top)) (omega (arith, top, low)) r.reaches;
        watches = watches_set shape q [] s.words words' s.views id v w at refl (links_off shape q s.words 1 (n + 1) (λ l lt. omega arith) (λ i less. omega arith)) r.watches;
        takes = takes_set s.homes r.outs s.views id v w at refl r.takes;
        held = views_set (Holds q) s.views id w (λ j u ne e. r.held j u e) (holds_idle q id w idle);
        away = λ i e. away_set s.views id v w (r.outs i) i at refl (r.away i e);
        allowed = omega (arith, sums, allowed);
        shared = omega (arith, shares, shared, top);
        ends = r.ends;
        alone = alone_set s.views H H id v w at refl (λ one. refl) r.alone;
        counted = views_set (Counts (slice_index words' 1)) s.views id w
            (λ j u ne e rest is0. absurd (ne (sym ((r.knows j u e).mine 0 (subst (Has 0) (sym is0) (inl refl))).0 ∙ (k.mine 0 (has_v 0 (inl refl))).0)))
            (λ rest is0. sym count);
        later = λ j high. r.later j (omega (arith, count, high));
      } in
      let reached : v.reached ≤ slice_index s.words 0 = r.reaches id v at in (
        w,
        keeps,
        tt,
        (v.opening, subst (λ (z : ℕ). RuledAt load shape v.opening record { words = set s.words 1 z; homes = s.homes; views = set s.views id w }) (sym fits) rule),
        (refl, sym made, (λ j has. below id v at j has), went load shape s id v 0 ended is at r w [] words' r.drawer r.reserved all tt refl (λ j ne. refl) stands (omega arith) (omega (arith, reached, top)), refl),
      )

  -- The boss parts with the number that it drew last, with some consumers, and with part of its allowance and share.
  pub splits_allowed : (id n : ℕ) (cs : List ℕ) (v : View) (h k : ℕ) (ended : List ℕ) → v.callers ≡ h ∷ k ∷ ended → ¬ (Has k (h ∷ ended)) → ((c : ℕ) → Has c cs → Has c v.consumers) → n ≤ v.allowance → n ≤ v.share → v.slot ≡ None → 0 < k
      → Splits (Ruled load shape) id v (cut_left n cs v) (cut_right n cs v)
  splits_allowed id n cs v h k ended is apart_k have room parts idle some_k s ruled at =
      let r = opened load shape s id v h (k ∷ ended) is at ruled in
      let left : View = cut_left n cs v in
      let right : View = cut_right n cs v in
      let new : ℕ = length (set s.views id left) in
      let H : List Deed = r.history in
      let q : Queue = after v.opening H in
      let seats : ℕ → ℕ = seats_with r.seats k new in
      let owners : ℕ → ℕ = seats_for r.owners cs new in
      let callers : ℕ = slice_index s.words 1 in
      let kv = r.knows id v at in
      let has_k : Has k v.callers = subst (Has k) (sym is) (inr (inl refl)) in
      let k_mine = kv.mine k has_k in
      let left_is : left.callers ≡ h ∷ ended = ap drop_second is in
      let right_is : right.callers ≡ k ∷ [] = ap (λ (l : List ℕ). second_of l ∷ []) is in
      let sum = sum_views allowance s.views id v left at in
      let sum' = sum_by_push allowance (set s.views id left) right in
      let share_sum = sum_views share s.views id v left at in
      let share_sum' = sum_by_push share (set s.views id left) right in
      let allowed : sum_by allowance s.views + entries q ≤ 524288 = r.allowed in
      let shared : sum_by share s.views + slice_index s.words 0 ≤ shape.rows = r.shared in
      let from_left : (c : ℕ) → Has c left.callers → Has c v.callers = λ c has. subst (Has c) (sym is) (⊎_elim (λ (z : h ≡ c). inl z) (λ (z : Has c ended). inr (inr z)) (subst (Has c) left_is has)) in (
        v.opening,
        record {
          history = H;
          drawer = r.drawer;
          reserved = r.reserved;
          seats = seats;
          owners = owners;
          outs = r.outs;
          enders = r.enders;
          rows = r.rows;
          legal = r.legal;
          stands = r.stands;
          cargoes = r.cargoes;
          knows = views_more (Knows shape v.opening H seats callers) (set s.views id left) right
              (views_set (Knows shape v.opening H seats callers) s.views id left
              (λ j u ne e. let ku = r.knows j u e in record {
                prefix = ku.prefix;
                opens = ku.opens;
                mine = λ c has. let t = ku.mine c has in (with_else r.seats k new c (λ (z : c ≡ k). ne (sym t.0 ∙ (ap r.seats z ∙ k_mine.0))) ∙ t.0, t.1, t.2);
              })
              (record {
                prefix = kv.prefix;
                opens = λ c has. kv.opens c (from_left c has);
                mine = λ c has. let t = kv.mine c (from_left c has) in (with_else r.seats k new c (λ (z : c ≡ k). apart_k (subst (λ (y : ℕ). Has y (h ∷ ended)) z (subst (Has c) left_is has))) ∙ t.0, t.1, t.2);
              }))
              (record {
                prefix = kv.prefix;
                opens = λ c has. kv.opens k has_k;
                mine = λ c has. ⊎_elim (λ (z : k ≡ c). subst (λ (y : ℕ). (seats y ≡ new) × (y < callers) × (own y H ≡ own y v.seen)) z (with_here r.seats k new k refl, k_mine.1, k_mine.2)) (λ (z : ⊥). absurd z) (subst (Has c) right_is has);
              });
          serves = views_more (Serves H owners shape.consumers) (set s.views id left) right
              (views_set (Serves H owners shape.consumers) s.views id left
              (λ j u ne e c has. let t = r.serves j u e c has in
              (cond-false (is_in c cs) new (r.owners c) (by_in c cs (λ (z : Has c cs). ne (sym t.0 ∙ (r.serves id v at c (have c z)).0))) ∙ t.0, t.1, t.2))
              (λ c has. let f = has_filter c (λ x. not (is_in x cs)) v.consumers has in let t = r.serves id v at c f.0 in
              (cond-false (is_in c cs) new (r.owners c) (not_true (is_in c cs) f.1) ∙ t.0, t.1, t.2)))
              (λ c has. let t = r.serves id v at c (have c has) in (cond-true (is_in c cs) new (r.owners c) (has_in c cs has), t.1, t.2));
          tells = views_more (Tells H) (set s.views id left) right (views_set (Tells H) s.views id left (λ j u ne e. r.tells j u e) (λ t has. absurd has)) (λ t has. absurd has);
          drafts = views_more (Drafted s.words r.drawer) (set s.views id left) right
              (views_set (Drafted s.words r.drawer) s.views id left (λ j u ne e. r.drafts j u e)
              (λ i d found. let t = r.drafts id v at i d found in record {
                mine = subst (λ (l : List ℕ). Has (caller_of l) l) (sym left_is) (inl refl);
                drew = t.drew ∙ ap (λ (l : List ℕ). Some (caller_of l)) is ∙ ap (λ (l : List ℕ). Some (caller_of l)) (sym left_is);
                written = t.written;
              }))
              (λ i d found. let z : None ≡ Some d = found in absurd (cc));
          unwritten = r.unwritten;
          reaches = views_more (Reaches (slice_index s.words 0)) (set s.views id left) right (views_set (Reaches (slice_index s.words 0)) s.views id left (λ j u ne e. r.reaches j u e) (r.reaches id v at)) (r.reaches id v at);
          watches = views_more (Watches shape s.words q) (set s.views id left) right (views_set (Watches shape s.words q) s.views id left (λ j u ne e. r.watches j u e) (r.watches id v at)) (λ x e. let z : None ≡ Some x = e in absurd (cc));
          takes = views_more (Takes s.homes r.outs) (set s.views id left) right (views_set (Takes s.homes r.outs) s.views id left (λ j u ne e. r.takes j u e) (r.takes id v at)) (λ i e. let z : None ≡ Some i = e in absurd (cc));
          held = views_more (Holds q) (set s.views id left) right (views_set (Holds q) s.views id left (λ j u ne e. r.held j u e) (holds_idle q id left idle)) (λ i e. let z : None ≡ Some i = e in absurd (cc));
          away = λ i e. let a = away_set s.views id v left (r.outs i) i at refl (r.away i e) in (a.0, at_longer (set s.views id left) (right ∷ []) (r.outs i) a.0 a.1, a.2);
          allowed = omega (arith, sum, sum', allowed, room);
          shared = omega (arith, share_sum, share_sum', shared, parts);
          ends = r.ends;
          alone = views_more (Alone (set s.views id left ++ right ∷ []) H) (set s.views id left) right
              (views_set (Alone (set s.views id left ++ right ∷ []) H) s.views id left (λ j u ne e one. absurd (not_alone s.views H id j v u at ne e r.alone one)) (λ one. let z : false ≡ true = one in absurd (cc))) (λ one. let z : false ≡ true = one in absurd (cc));
          counted = views_more (Counts callers) (set s.views id left) right
              (views_set (Counts callers) s.views id left (λ j u ne e. r.counted j u e)
              (λ rest is0. let both : h ∷ ended ≡ 0 ∷ rest = sym left_is ∙ is0 in let zero_h : h ≡ 0 = cc in r.counted id v at (k ∷ ended) (is ∙ ap (λ (z : ℕ). z ∷ k ∷ ended) zero_h)))
              (λ rest is0. let both : k ∷ [] ≡ 0 ∷ rest = sym right_is ∙ is0 in let zero_k : k ≡ 0 = cc in absurd (omega (arith, zero_k, some_k)));
          later = r.later;
        },
      )
    where
      not_true : (b : Bool) → not b ≡ true → b ≡ false
      not_true true e = let z : false ≡ true = e in absurd (cc)
      not_true false e = refl

      by_in : (c : ℕ) (xs : List ℕ) → ¬ (Has c xs) → is_in c xs ≡ false
      by_in c xs no_c = ⊎_elim (λ (e : is_in c xs ≡ true). absurd (no_c (in_has c xs e))) (λ (e : is_in c xs ≡ false). e) (cases_Bool (is_in c xs))

  -- one pass ends, and another speaks for its callers and has what it had
  pub joins_allowed : (id : ℕ) (v : View) (h : ℕ) (ended : List ℕ) (other : ℕ) (w : View) → v.callers ≡ h ∷ ended → v.slot ≡ None → w.slot ≡ None → Joins (Ruled load shape) id v other w (merged v w) spent
  joins_allowed id v h ended other w is idle idle' s ruled at apart there =
      let r = opened load shape s id v h ended is at ruled in
      let both : View = merged v w in
      let H : List Deed = r.history in
      let q : Queue = after v.opening H in
      let seats : ℕ → ℕ = moved_to r.seats other id in
      let owners : ℕ → ℕ = moved_to r.owners other id in
      let callers : ℕ = slice_index s.words 1 in
      let there' : get_elem? s.views other ≡ maybe.some w = sym (set_else s.views id other both apart) ∙ there in
      let kv = r.knows id v at in
      let kw = r.knows other w there' in
      let l = longer_of v.seen w.seen H kv.prefix kw.prefix in
      let sum = sum_views allowance s.views id v both at in
      let sum' = sum_views allowance (set s.views id both) other w spent there in
      let parts = sum_views share s.views id v both at in
      let parts' = sum_views share (set s.views id both) other w spent there in
      let allowed : sum_by allowance s.views + entries q ≤ 524288 = r.allowed in
      let shared : sum_by share s.views + slice_index s.words 0 ≤ shape.rows = r.shared in
      let has_h : Has h v.callers = subst (Has h) (sym is) (inl refl) in
      let both_is : both.callers ≡ h ∷ (ended ++ w.callers) = ap (λ (z : List ℕ). z ++ w.callers) is in (
        v.opening,
        record {
          history = H;
          drawer = r.drawer;
          reserved = r.reserved;
          seats = seats;
          owners = owners;
          outs = r.outs;
          enders = r.enders;
          rows = r.rows;
          legal = r.legal;
          stands = r.stands;
          cargoes = r.cargoes;
          knows = views_set (Knows shape v.opening H seats callers) (set s.views id both) other spent
              (λ j u ne e. views_set (λ (i : ℕ) (x : View). i ≢ other → Knows shape v.opening H seats callers i x) s.views id both
              (λ i x off f far. let k = r.knows i x f in record {
                prefix = k.prefix;
                opens = k.opens;
                mine = λ c has. let t = k.mine c has in (moved_else r.seats other id c (λ (z : r.seats c ≡ other). far (sym t.0 ∙ z)) ∙ t.0, t.1, t.2);
              })
              (λ far. record {
                prefix = l.2;
                opens = λ c has. kv.opens h has_h;
                mine = λ c has. ⊎_elim
                    (λ (y : Has c v.callers). let t = kv.mine c y in (moved_else r.seats other id c (λ (z : r.seats c ≡ other). far (sym t.0 ∙ z)) ∙ t.0, t.1, own_between c v.seen (longer v.seen w.seen) H l.0 l.2 t.2))
                    (λ (y : Has c w.callers). let t = kw.mine c y in (moved_here r.seats other id c t.0, t.1, own_between c w.seen (longer v.seen w.seen) H l.1 l.2 t.2))
                    (has_append c v.callers w.callers has);
              }) j u e ne)
              (record { prefix = (H, refl); opens = λ c has. absurd has; mine = λ c has. absurd has });
          serves = views_set (Serves H owners shape.consumers) (set s.views id both) other spent
              (λ j u ne e. views_set (λ (i : ℕ) (x : View). i ≢ other → Serves H owners shape.consumers i x) s.views id both
              (λ i x off f far c has. let t = r.serves i x f c has in (moved_else r.owners other id c (λ (z : r.owners c ≡ other). far (sym t.0 ∙ z)) ∙ t.0, t.1, t.2))
              (λ far c has. ⊎_elim
              (λ (y : Has c v.consumers). let t = r.serves id v at c y in (moved_else r.owners other id c (λ (z : r.owners c ≡ other). far (sym t.0 ∙ z)) ∙ t.0, t.1, takes_between c v.seen (longer v.seen w.seen) H l.0 l.2 t.2))
              (λ (y : Has c w.consumers). let t = r.serves other w there' c y in (moved_here r.owners other id c t.0, t.1, takes_between c w.seen (longer v.seen w.seen) H l.1 l.2 t.2))
              (has_append c v.consumers w.consumers has)) j u e ne)
              (λ c has. absurd has);
          tells = views_set (Tells H) (set s.views id both) other spent
              (λ j u ne e. views_set (Tells H) s.views id both (λ i x off f. r.tells i x f)
              (λ t has. ⊎_elim
              (λ (z : told_of v ≡ t). subst (IsTold H both) z (record {
                prefix = kv.prefix;
                callers = λ k mine. (has_front k v.callers w.callers mine, (kv.mine k mine).2);
                consumers = λ c mine. (has_front c v.consumers w.consumers mine, (r.serves id v at c mine).2);
              }))
              (λ (z : (told_of w ≡ t) ⊎ ⊥). ⊎_elim
              (λ (y : told_of w ≡ t). subst (IsTold H both) y (record {
                prefix = kw.prefix;
                callers = λ k mine. (has_back k v.callers w.callers mine, (kw.mine k mine).2);
                consumers = λ c mine. (has_back c v.consumers w.consumers mine, (r.serves other w there' c mine).2);
              }))
              (λ (y : ⊥). absurd y) z) has) j u e)
              (λ t has. absurd has);
          drafts = views_set (Drafted s.words r.drawer) (set s.views id both) other spent
              (λ j u ne e. views_set (Drafted s.words r.drawer) s.views id both (λ i x off f. r.drafts i x f)
              (λ i d found. let t = r.drafts id v at i d found in record {
                mine = subst (λ (z : List ℕ). Has (caller_of z) z) (sym both_is) (inl refl);
                drew = t.drew ∙ ap (λ (z : List ℕ). Some (caller_of z)) is ∙ ap (λ (z : List ℕ). Some (caller_of z)) (sym both_is);
                written = t.written;
              }) j u e)
              (λ i d found. let z : None ≡ Some d = found in absurd (cc));
          unwritten = r.unwritten;
          reaches = views_set (Reaches (slice_index s.words 0)) (set s.views id both) other spent (λ j u ne e. views_set (Reaches (slice_index s.words 0)) s.views id both (λ i x off f. r.reaches i x f) (r.reaches id v at) j u e) (omega arith);
          watches = views_set (Watches shape s.words q) (set s.views id both) other spent
              (λ j u ne e. views_set (Watches shape s.words q) s.views id both (λ i x off f. r.watches i x f) (r.watches id v at) j u e)
              (λ x e. let z : None ≡ Some x = e in absurd (cc));
          takes = views_set (Takes s.homes r.outs) (set s.views id both) other spent
              (λ j u ne e. views_set (Takes s.homes r.outs) s.views id both (λ i x off f. r.takes i x f) (r.takes id v at) j u e)
              (λ i e. let z : None ≡ Some i = e in absurd (cc));
          held = views_set (Holds q) (set s.views id both) other spent (λ j u ne e. views_set (Holds q) s.views id both (λ i x off f. r.held i x f) (holds_idle q id both idle) j u e) (holds_idle q other spent refl);
          away = λ i e. let a = away_set s.views id v both (r.outs i) i at refl (r.away i e) in away_set (set s.views id both) other w spent (r.outs i) i there (sym idle') a;
          allowed = omega (arith, sum, sum', allowed);
          shared = omega (arith, parts, parts', shared);
          ends = r.ends;
          alone = views_set (Alone (set (set s.views id both) other spent) H) (set s.views id both) other spent
              (λ j u ne e. views_set (λ (i : ℕ) (x : View). i ≢ other → Alone (set (set s.views id both) other spent) H i x) s.views id both (λ i x off f far one. absurd (not_alone s.views H id i v x at off f r.alone one)) (λ far one. let z : false ≡ true = one in absurd (cc)) j u e ne)
              (λ one. let z : false ≡ true = one in absurd (cc));
          counted = views_set (Counts callers) (set s.views id both) other spent
              (λ j u ne e. views_set (Counts callers) s.views id both (λ i x off f. r.counted i x f)
              (λ rest is0. let b : h ∷ (ended ++ w.callers) ≡ 0 ∷ rest = sym both_is ∙ is0 in let zero_h : h ≡ 0 = cc in r.counted id v at ended (is ∙ ap (λ (z : ℕ). z ∷ ended) zero_h)) j u e)
              (λ rest is0. let z : [] ≡ 0 ∷ rest = is0 in absurd (cc));
          later = r.later;
        },
      )

  -- a note of what a pass has seen
  pub notes_allowed : (id : ℕ) (v : View) (h : ℕ) (ended : List ℕ) → v.callers ≡ h ∷ ended → v.slot ≡ None → Splits (Ruled load shape) id v (noted_left v) (note v)
  notes_allowed id v h ended is idle s ruled at =
      let r = opened load shape s id v h ended is at ruled in
      let left : View = noted_left v in
      let right : View = note v in
      let new : ℕ = length (set s.views id left) in
      let H : List Deed = r.history in
      let q : Queue = after v.opening H in
      let callers : ℕ = slice_index s.words 1 in
      let kv = r.knows id v at in
      let sum = sum_views allowance s.views id v left at in
      let sum' = sum_by_push allowance (set s.views id left) right in
      let share_sum = sum_views share s.views id v left at in
      let share_sum' = sum_by_push share (set s.views id left) right in
      let allowed : sum_by allowance s.views + entries q ≤ 524288 = r.allowed in
      let shared : sum_by share s.views + slice_index s.words 0 ≤ shape.rows = r.shared in (
        v.opening,
        record {
          history = H;
          drawer = r.drawer;
          reserved = r.reserved;
          seats = r.seats;
          owners = r.owners;
          outs = r.outs;
          enders = r.enders;
          rows = r.rows;
          legal = r.legal;
          stands = r.stands;
          cargoes = r.cargoes;
          knows = views_more (Knows shape v.opening H r.seats callers) (set s.views id left) right (views_set (Knows shape v.opening H r.seats callers) s.views id left (λ j u ne e. r.knows j u e) (record { prefix = kv.prefix; opens = kv.opens; mine = kv.mine }))
              (record { prefix = kv.prefix; opens = λ c has. absurd has; mine = λ c has. absurd has });
          serves = views_more (Serves H r.owners shape.consumers) (set s.views id left) right (views_set (Serves H r.owners shape.consumers) s.views id left (λ j u ne e. r.serves j u e) (r.serves id v at)) (λ c has. absurd has);
          tells = views_more (Tells H) (set s.views id left) right (views_set (Tells H) s.views id left (λ j u ne e. r.tells j u e) (λ t has. let x = r.tells id v at t has in record { prefix = x.prefix; callers = x.callers; consumers = x.consumers })) (λ t has. absurd has);
          drafts = views_more (Drafted s.words r.drawer) (set s.views id left) right (views_set (Drafted s.words r.drawer) s.views id left (λ j u ne e. r.drafts j u e) (λ i d found. let t = r.drafts id v at i d found in record { mine = t.mine; drew = t.drew; written = t.written })) (λ i d found. let z : None ≡ Some d = found in absurd (cc));
          unwritten = r.unwritten;
          reaches = views_more (Reaches (slice_index s.words 0)) (set s.views id left) right (views_set (Reaches (slice_index s.words 0)) s.views id left (λ j u ne e. r.reaches j u e) (r.reaches id v at)) (omega arith);
          watches = views_more (Watches shape s.words q) (set s.views id left) right (views_set (Watches shape s.words q) s.views id left (λ j u ne e. r.watches j u e) (r.watches id v at)) (λ x e. let z : None ≡ Some x = e in absurd (cc));
          takes = views_more (Takes s.homes r.outs) (set s.views id left) right (views_set (Takes s.homes r.outs) s.views id left (λ j u ne e. r.takes j u e) (r.takes id v at)) (λ i e. let z : None ≡ Some i = e in absurd (cc));
          held = views_more (Holds q) (set s.views id left) right (views_set (Holds q) s.views id left (λ j u ne e. r.held j u e) (holds_idle q id left idle)) (λ i e. let z : None ≡ Some i = e in absurd (cc));
          away = λ i e. let a = away_set s.views id v left (r.outs i) i at refl (r.away i e) in (a.0, at_longer (set s.views id left) (right ∷ []) (r.outs i) a.0 a.1, a.2);
          allowed = omega (arith, sum, sum', allowed);
          shared = omega (arith, share_sum, share_sum', shared);
          ends = r.ends;
          alone = views_more (Alone (set s.views id left ++ right ∷ []) H) (set s.views id left) right
              (views_set (Alone (set s.views id left ++ right ∷ []) H) s.views id left (λ j u ne e one. absurd (not_alone s.views H id j v u at ne e r.alone one)) (λ one. let z : false ≡ true = one in absurd (cc))) (λ one. let z : false ≡ true = one in absurd (cc));
          counted = views_more (Counts callers) (set s.views id left) right (views_set (Counts callers) s.views id left (λ j u ne e. r.counted j u e) (λ rest is0. r.counted id v at rest is0)) (λ rest is0. let z : [] ≡ 0 ∷ rest = is0 in absurd (cc));
          later = r.later;
        },
      )
