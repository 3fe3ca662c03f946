-- the table when it is made, rebased and closed
use Rattle.std.proofs.Common.{◌≡◌, ◌≢◌, inr, ℕ, zero, suc, ◌+◌, ◌-◌, ◌*◌, ◌<◌, ◌≤◌, true, List, [], ◌∷◌, ◌++◌, length, map, replicate, set, get_or, Option, Some, None, refl, sym, ap, ◌∙◌, subst, ⊎_elim, arith}
use Rattle.std.specs.Prelude.{slice_index}
use Rattle.std.specs.List.{sum_by}
use Rattle.std.proofs.lemmas.Bool.{cases_lt}
use Rattle.std.proofs.lemmas.List.{get_or_append_left, get_or-append_right, set-get_or}
use mathlib.Core.Option.{some, none}
use mathlib.Core.Option as maybe
use lib.ListN.{get_elem?}
use Rattle.atomic_table.specs.Table.{Me, keeps, Allows, opening, Final, Seen}
use Rattle.queue_model.specs.declared.deeds.Deed.{Deed}
use Rattle.queue_model.specs.declared.queues.Queue.{Queue}
use Rattle.queue_model.specs.declared.queues.Reservation.{Reservation}
use Rattle.queue_model.specs.declared.steps.DraftWord.TheVariants as drafts
use Rattle.queue_model.specs.History.{after, own}
use Rattle.acts_core.specs.Load.{Load}
use Rattle.queue_model.specs.State.{empty, nothing, entries}
use Rattle.queue_model.proofs.Prefixes.{seen_all}
use Rattle.link_core.specs.Fresh.{blank_rows, empty_lists, fresh_words}
use Rattle.link_core.specs.Layout.{draft_of}
use Rattle.link_core.specs.Stands.{Stands}
use Rattle.link_core.proofs.Making.{fresh_stands}
use Rattle.entry_table.specs.declared.view.Shape.{Shape}
use Rattle.entry_table.specs.declared.view.View.{View}
use Rattle.entry_table.specs.Views.{Has, state_in}
use Rattle.entry_table.specs.Rule.{below, boss, table_at, Cargoes, Each, Knows, Serves, Tells, Drafted, Unwritten, Takes, Watches, Holds, Alone, Counts, RuledAt, Ruled, allowance, share}
use Rattle.entry_table.specs.Plays.{opened_view, opened as opened_by}
use Rattle.entry_table.proofs.Frames.{at_less, sum_views}
use Rattle.entry_table.proofs.Parting.{has_append}
use Rattle.entry_table.proofs.Slots.{not_out}
use Rattle.entry_table.proofs.Keeping.{opened}

-- Fresh words

-- the draft words of rows that nobody drew
blank_draft : (n r j : ℕ) → 2 ≤ j → j < 7 → get_or (blank_rows n) (j + 7 * r) 0 ≡ 0
blank_draft zero r j low high = refl
blank_draft (suc n) zero zero low high = refl
blank_draft (suc n) zero (suc zero) low high = absurd (omega (arith, low))
blank_draft (suc n) zero (suc (suc zero)) low high = refl
blank_draft (suc n) zero (suc (suc (suc zero))) low high = refl
blank_draft (suc n) zero (suc (suc (suc (suc zero)))) low high = refl
blank_draft (suc n) zero (suc (suc (suc (suc (suc zero))))) low high = refl
blank_draft (suc n) zero (suc (suc (suc (suc (suc (suc zero)))))) low high = refl
blank_draft (suc n) zero (suc (suc (suc (suc (suc (suc (suc j))))))) low high = absurd (omega (arith, high))
blank_draft (suc n) (suc r) j low high =
    get_or-append_right (0 ∷ 1 ∷ 0 ∷ 0 ∷ 0 ∷ 0 ∷ 0 ∷ []) (blank_rows n) 7 (j + 7 * suc r) 0 refl (omega arith)
    ∙ ap (λ (i : ℕ). get_or (blank_rows n) i 0) (let e : j + 7 * suc r - 7 ≡ j + 7 * r = omega arith in e) ∙ blank_draft n r j low high

blank_long : (n : ℕ) → length (blank_rows n) ≡ 7 * n
blank_long zero = refl
blank_long (suc n) = let e = blank_long n in omega (arith, e)

-- in a fresh table the words of rows come right behind the first three
draft_blank : (callers rows lists r j : ℕ) → r < rows → 2 ≤ j → j < 7 → slice_index (fresh_words callers rows lists) (3 + (j + 7 * r)) ≡ 0
draft_blank callers rows lists r j less low high =
    get_or-append_right (0 ∷ callers ∷ 0 ∷ []) (blank_rows rows ++ empty_lists lists) 3 (3 + (j + 7 * r)) 0 refl (omega arith)
    ∙ ap (λ (i : ℕ). get_or (blank_rows rows ++ empty_lists lists) i 0) (let e : 3 + (j + 7 * r) - 3 ≡ j + 7 * r = omega arith in e)
    ∙ get_or_append_left (blank_rows rows) (empty_lists lists) 0 (j + 7 * r) (let long = blank_long rows in omega (arith, long, less, high))
    ∙ blank_draft rows r j low high

fresh_unwritten : (callers rows lists : ℕ) → Unwritten rows (fresh_words callers rows lists)
fresh_unwritten callers rows lists r drafts.Mask less high = ap (slice_index (fresh_words callers rows lists)) (let e : draft_of r drafts.Mask ≡ 3 + (2 + 7 * r) = omega arith in e) ∙ draft_blank callers rows lists r 2 less (omega arith) (omega arith)
fresh_unwritten callers rows lists r drafts.Place less high = ap (slice_index (fresh_words callers rows lists)) (let e : draft_of r drafts.Place ≡ 3 + (3 + 7 * r) = omega arith in e) ∙ draft_blank callers rows lists r 3 less (omega arith) (omega arith)
fresh_unwritten callers rows lists r drafts.Ident less high = ap (slice_index (fresh_words callers rows lists)) (let e : draft_of r drafts.Ident ≡ 3 + (4 + 7 * r) = omega arith in e) ∙ draft_blank callers rows lists r 4 less (omega arith) (omega arith)
fresh_unwritten callers rows lists r drafts.Size less high = ap (slice_index (fresh_words callers rows lists)) (let e : draft_of r drafts.Size ≡ 3 + (5 + 7 * r) = omega arith in e) ∙ draft_blank callers rows lists r 5 less (omega arith) (omega arith)
fresh_unwritten callers rows lists r drafts.List less high = ap (slice_index (fresh_words callers rows lists)) (let e : draft_of r drafts.List ≡ 3 + (6 + 7 * r) = omega arith in e) ∙ draft_blank callers rows lists r 6 less (omega arith) (omega arith)

-- empty slots
module _ (C : Type 0) where
  empty_at : (n r : ℕ) → r < n → get_elem? (map some (replicate {A = Option C} n None)) r ≡ some (some None)
  empty_at zero r lt = absurd (omega (arith, lt))
  empty_at (suc n) zero lt = refl
  empty_at (suc n) (suc r) lt = empty_at n r (omega (arith, lt))

  none_out : (n r : ℕ) → get_elem? (map some (replicate {A = Option C} n None)) r ≡ some none → ⊥
  none_out zero r e = absurd (cc)
  none_out (suc n) zero e = not_out None none refl (sym e)
  none_out (suc n) (suc r) e = none_out n r e

  empty_length : (n : ℕ) → length (map some (replicate {A = Option C} n None)) ≡ n
  empty_length zero = refl
  empty_length (suc n) = ap suc (empty_length n)

has_below : (n c : ℕ) → Has c (below n) → c < n
has_below zero c has = absurd has
has_below (suc n) c has = ⊎_elim
    (λ (x : Has c (below n)). let lt = has_below n c x in omega (arith, lt))
    (λ (x : Has c (n ∷ [])). ⊎_elim (λ (e : n ≡ c). omega (arith, e)) (λ (z : ⊥). absurd z) x)
    (has_append c (below n) (n ∷ []) has)

-- one view alone
only : {V : Type 0} (P : ℕ → V → Type 0) (w : V) → P 0 w → Each P (w ∷ [])
only P w p zero u e = subst (P 0) (let z : w ≡ u = cc in z) p
only P w p (suc j) u e = absurd (cc)

module _ {C : Type 0} (load : C → Load) (shape : Shape) where
  -- the table when it is made
  pub begins : shape.rows ≤ 524288 → shape.consumers ≤ 64 → Ruled load shape (opening (fresh_words 1 shape.rows shape.lists) (replicate {A = Option C} shape.rows None) (boss shape))
  begins few_rows few_consumers =
      let s = fresh_stands shape.lists shape.rows shape.consumers 1 few_rows few_consumers (omega arith) in (
        empty shape.lists shape.consumers,
        record {
          history = [];
          drawer = λ r. None;
          reserved = nothing;
          seats = λ k. 0;
          owners = λ k. 0;
          outs = λ k. 0;
          enders = λ k. 0;
          rows = empty_length C shape.rows;
          legal = tt;
          stands = record {
            sound = s.sound;
            shaped = record { lists = s.shaped.lists; consumers = s.shaped.consumers; few_consumers = few_consumers; few_rows = few_rows; few_callers = omega arith; long = s.shaped.long };
            states = s.states;
            drafted = s.drafted;
            links = s.links;
            tails = s.tails;
            marks = s.marks;
            bells = s.bells;
            rung = s.rung;
            depth = s.depth;
            draws = s.draws;
            reserved = s.reserved;
          };
          cargoes = record { rows = λ r x e. absurd (cc); others = λ r lt e. let wide = empty_length C shape.rows in inr (empty_at C shape.rows r (omega (arith, lt, wide))) };
          knows = only (Knows shape (empty shape.lists shape.consumers) [] (λ k. 0) (slice_index (fresh_words 1 shape.rows shape.lists) 1)) (boss shape) (record {
            prefix = ([], refl);
            opens = λ k has. (refl, refl);
            mine = λ k has. (refl, ⊎_elim (λ (e : 0 ≡ k). let one : slice_index (fresh_words 1 shape.rows shape.lists) 1 ≡ 1 = refl in omega (arith, e, one)) (λ (z : ⊥). absurd z) has, refl);
          });
          serves = only (Serves [] (λ k. 0) shape.consumers) (boss shape) (λ c has. (refl, has_below shape.consumers c has, refl));
          tells = only (Tells []) (boss shape) (λ t has. absurd has);
          drafts = only (Drafted (fresh_words 1 shape.rows shape.lists) (λ r. None)) (boss shape) (λ r d found. let z : None ≡ Some d = found in absurd (cc));
          unwritten = fresh_unwritten 1 shape.rows shape.lists;
          reaches = only (λ id v. v.reached ≤ slice_index (fresh_words 1 shape.rows shape.lists) 0) (boss shape) (omega arith);
          watches = only (Watches shape (fresh_words 1 shape.rows shape.lists) (empty shape.lists shape.consumers)) (boss shape) (λ w e. let z : None ≡ Some w = e in absurd (cc));
          takes = only (Takes (map some (replicate {A = Option C} shape.rows None)) (λ k. 0)) (boss shape) (λ r e. let z : None ≡ Some r = e in absurd (cc));
          held = only (Holds (empty shape.lists shape.consumers)) (boss shape) (λ r e. let z : None ≡ Some r = e in absurd (cc));
          away = λ r e. absurd (none_out C shape.rows r e);
          allowed = omega arith;
          shared = let zero_top : slice_index (fresh_words 1 shape.rows shape.lists) 0 ≡ 0 = refl in omega (arith, zero_top);
          ends = tt;
          alone = only (Alone (boss shape ∷ []) []) (boss shape) (λ one. (refl, refl));
          counted = only (Counts (slice_index (fresh_words 1 shape.rows shape.lists) 1)) (boss shape) (λ ended is. refl);
          later = λ k high. refl;
        },
      )

  -- a pass that is alone makes what it has seen its opening
  pub opens_allowed : (slots id i : ℕ) (m : Me (Option C) View) (h : ℕ) (ended : List ℕ) → m.0.callers ≡ h ∷ ended → m.0.alone ≡ true → m.0.slot ≡ None
      → Allows (Ruled load shape) slots id m i (λ n. n) (opened_by m)
  opens_allowed slots id i m h ended is one idle s ruled len at low =
      let v : View = m.0 in
      let r = opened load shape s id v h ended is at ruled in
      let w : View = opened_view v in
      let lone = r.alone id v at one in
      let all : v.seen ≡ r.history = lone.1 in
      let O : Queue = after v.opening v.seen in
      let now : after v.opening r.history ≡ O = ap (after v.opening) (sym all) in
      let none_else : (j : ℕ) (u : View) → j ≢ id → get_elem? s.views j ≡ some u → ⊥ = λ j u ne e. let a = at_less s.views j u e in let b = at_less s.views id v at in let c = lone.0 in ne (omega (arith, a, b, c)) in
      let k = r.knows id v at in
      let sums = sum_views allowance s.views id v w at in
      let shares = sum_views share s.views id v w at in
      let allowed : sum_by allowance s.views + entries (after v.opening r.history) ≤ 524288 = r.allowed in
      let same_entries : entries (after v.opening r.history) ≡ entries O = ap entries now in
      let shared : sum_by share s.views + slice_index s.words 0 ≤ shape.rows = r.shared in (
        w,
        keeps,
        tt,
        (
          O,
          subst (λ (l : List ℕ). RuledAt load shape O record { words = l; homes = s.homes; views = set s.views id w }) (sym (set-get_or s.words i 0)) (record {
            history = [];
            drawer = r.drawer;
            reserved = r.reserved;
            seats = r.seats;
            owners = r.owners;
            outs = r.outs;
            enders = r.enders;
            rows = r.rows;
            legal = tt;
            stands = subst (λ (q : Queue). Stands (table_at shape s.words r.drawer r.reserved) q) now r.stands;
            cargoes = subst (λ (q : Queue). Cargoes load s.homes q) now r.cargoes;
            knows = Rattle.entry_table.proofs.Frames.views_set (Knows shape O [] r.seats (slice_index s.words 1)) s.views id w (λ j u ne e. absurd (none_else j u ne e))
                (record { prefix = ([], refl); opens = λ c has. (refl, (k.opens c has).1); mine = λ c has. let t = k.mine c has in (t.0, t.1, refl) });
            serves = Rattle.entry_table.proofs.Frames.views_set (Serves [] r.owners shape.consumers) s.views id w (λ j u ne e. absurd (none_else j u ne e)) (λ c has. let t = r.serves id v at c has in (t.0, t.1, refl));
            tells = Rattle.entry_table.proofs.Frames.views_set (Tells []) s.views id w (λ j u ne e. absurd (none_else j u ne e)) (λ t has. absurd has);
            drafts = Rattle.entry_table.proofs.Frames.views_set (Drafted s.words r.drawer) s.views id w (λ j u ne e. absurd (none_else j u ne e)) (λ i d found. let t = r.drafts id v at i d found in record { mine = t.mine; drew = t.drew; written = t.written });
            unwritten = r.unwritten;
            reaches = Rattle.entry_table.proofs.Frames.views_set (λ j u. u.reached ≤ slice_index s.words 0) s.views id w (λ j u ne e. absurd (none_else j u ne e)) (r.reaches id v at);
            watches = Rattle.entry_table.proofs.Frames.views_set (Watches shape s.words O) s.views id w (λ j u ne e. absurd (none_else j u ne e)) (λ x e. let z : None ≡ Some x = e in absurd (cc));
            takes = Rattle.entry_table.proofs.Frames.takes_set s.homes r.outs s.views id v w at refl r.takes;
            held = Rattle.entry_table.proofs.Frames.views_set (Holds O) s.views id w (λ j u ne e. absurd (none_else j u ne e)) (Rattle.entry_table.proofs.Frames.holds_idle O id w idle);
            away = λ j e. Rattle.entry_table.proofs.Frames.away_set s.views id v w (r.outs j) j at refl (r.away j e);
            allowed = omega (arith, sums, allowed, same_entries);
            shared = omega (arith, shares, shared);
            ends = tt;
            alone = Rattle.entry_table.proofs.Frames.alone_set s.views r.history [] id v w at refl (λ one. refl) r.alone;
            counted = Rattle.entry_table.proofs.Frames.counts_set (slice_index s.words 1) s.views id v w at refl refl r.counted;
            later = λ k high. refl;
          }),
        ),
        (refl, refl),
      )

  -- Where the boss speaks for all callers that were made, it has seen the whole history.
  pub closes : (id : ℕ) (v : View) (ended : List ℕ) (words : List ℕ) (slots : List (Option C)) → v.callers ≡ 0 ∷ ended → ((k : ℕ) → k < v.made → Has k v.callers) → Final (Seen (Ruled load shape) id v) words slots
      → (drawer : ℕ → Option ℕ) × (reserved : ℕ → Reservation) × (homes : List (maybe.Option (Option C))) × Stands (table_at shape words drawer reserved) (state_in v) × Cargoes load homes (state_in v) × ((k : ℕ) (y : Option C) → get_elem? homes k ≡ some (some y) → get_elem? slots k ≡ some y)
  closes id v ended words slots is every f =
      let s = f.0 in
      let ruled : Ruled load shape s = f.1.0 in
      let at : get_elem? s.views id ≡ some v = f.1.1 in
      let r = opened load shape s id v 0 ended is at ruled in
      let k = r.knows id v at in
      let made : v.made ≡ slice_index s.words 1 = r.counted id v at ended is in
      let all : v.seen ≡ r.history = seen_all v.seen r.history k.prefix (λ c. ⊎_elim
      (λ (lt : c < v.made). (k.mine c (every c lt)).2)
      (λ (le : v.made ≤ c). r.later c (omega (arith, made, le)) ∙ sym (none_seen v.seen r.history c k.prefix (r.later c (omega (arith, made, le)))))
      (cases_lt c v.made)) in
      let now : after v.opening r.history ≡ state_in v = ap (after v.opening) (sym all) in (
        r.drawer,
        r.reserved,
        s.homes,
        subst (λ (l : List ℕ). Stands (table_at shape l r.drawer r.reserved) (state_in v)) f.2 (subst (λ (q : Queue). Stands (table_at shape s.words r.drawer r.reserved) q) now r.stands),
        subst (λ (q : Queue). Cargoes load s.homes q) now r.cargoes,
        f.4,
      )
    where
      none_front : (xs ys : List Deed) → xs ++ ys ≡ [] → xs ≡ []
      none_front [] ys e = refl
      none_front (x ∷ xs) ys e = absurd (cc)

      none_seen : (seen H : List Deed) (c : ℕ) → mathlib.Core.List.IsPrefix seen H → own c H ≡ [] → own c seen ≡ []
      none_seen seen H c p e = none_front (own c seen) (own c p.0) (sym (Rattle.queue_model.proofs.Histories.own-append c seen p.0) ∙ ap (own c) p.1 ∙ e)
