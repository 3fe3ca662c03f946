-- draws of rows, and stores of draft words
use Rattle.std.proofs.Common.{◌≡◌, ◌≢◌, ◌⊎◌, inl, inr, ℕ, ◌+◌, ◌==◌, ◌<◌, ◌≤◌, eqb, List, [], ◌∷◌, ◌++◌, true, length, set, Option, Some, None, option_map, refl, sym, ap, ◌∙◌, subst, ⊎_elim, arith, append-nil, eq-eqb, ne_eqb, eqb-true}
use Rattle.std.specs.Prelude.{slice_index}
use Rattle.std.specs.List.{sum_by}
use Rattle.std.proofs.lemmas.Bool.{cases_eq}
use mathlib.Core.Option as maybe
use lib.ListN.{get_elem?}
use prog.Atomic.{either}
use Rattle.atomic_table.specs.Table.{State, Me, keeps, Allows}
use Rattle.queue_model.specs.declared.deeds.Deed.{Deed}
use Rattle.queue_model.specs.declared.queues.Queue.{Queue}
use Rattle.queue_model.specs.declared.queues.Reservation.{Reservation}
use Rattle.queue_model.specs.declared.steps.DraftWord.{DraftWord}
use Rattle.queue_model.specs.declared.steps.DraftWord.TheVariants as drafts
use Rattle.queue_model.specs.declared.steps.Step.TheVariants as steps
use Rattle.acts_core.specs.Load.{Load}
use Rattle.queue_model.specs.State.{entries}
use Rattle.queue_model.proofs.KeyedLemmas.{find-here, find-past, find_passes, find-alter, find-alter_other}
use Rattle.link_core.specs.Layout.{draft_of}
use Rattle.link_core.specs.Stands.{Stands}
use Rattle.link_core.specs.Table.{but}
use Rattle.link_core.proofs.Drawing.{draw_kept, draft_kept}
use Rattle.link_core.proofs.Frames.{but_here, but_else, draft_low, draft_high, set_here, set_else}
use Rattle.entry_table.specs.declared.view.Drawing.{Drawing}
use Rattle.entry_table.specs.declared.view.Shape.{Shape}
use Rattle.entry_table.specs.declared.view.View.{View}
use Rattle.entry_table.specs.Views.{caller_of, is_drawing, drawing_at, blank_drawing, word_in, with_word, AllEnd}
use Rattle.entry_table.specs.Rule.{table_at, IsDraft, Drafted, RuledAt, Ruled, allowance, share}
use Rattle.entry_table.specs.Plays.{drew, draws, drew_view, stored, stored_view, looked}
use Rattle.entry_table.proofs.Frames.{views_set, sum_views, in_sum, takes_set, holds_idle, away_set}
use Rattle.entry_table.proofs.Onwards.{links_off, watches_set}
use Rattle.entry_table.proofs.Keeping.{opened, now, me, has_me, knows_me, sees_all, ruled_next, went}
use Rattle.entry_table.proofs.Looking.{Owes, miss_owes, by_found}

-- a row that was just drawn has no draft words
blank_word : (r : ℕ) (w : DraftWord) → word_in (blank_drawing r) w ≡ 0
blank_word r drafts.Mask = refl
blank_word r drafts.Place = refl
blank_word r drafts.Ident = refl
blank_word r drafts.Size = refl
blank_word r drafts.List = refl

module _ {C : Type 0} (load : C → Load) (shape : Shape) where
  drew_owes : (s : State (Option C) View) (id : ℕ) (m : Me (Option C) View) (h : ℕ) (ended : List ℕ) → m.0.callers ≡ h ∷ ended → m.0.slot ≡ None → 1 ≤ m.0.share → get_elem? s.views id ≡ maybe.some m.0 → RuledAt load shape m.0.opening s
      → Owes load shape s id m 0 (slice_index s.words 0 + 1) (drew (slice_index s.words 0) m)
  drew_owes s id m h ended is idle room at r =
      let v : View = m.0 in
      let H : List Deed = r.history in
      let q : Queue = now load shape s id v h ended is at r in
      let k : ℕ = me load shape s id v h ended is at r in
      let t : ℕ = slice_index s.words 0 in
      let w : View = drew_view v t H in
      let words : List ℕ = set s.words 0 (t + 1) in
      let drawer : ℕ → Option ℕ = but r.drawer t (Some k) in
      let reserved : ℕ → Reservation = but r.reserved k (r.reserved k) in
      let all : H ≡ H ++ [] = sym (append-nil H) in
      let sums = sum_views allowance s.views id v w at in
      let shares = sum_views share s.views id v w at in
      let part = in_sum share s.views id v at in
      let allowed : sum_by allowance s.views + entries q ≤ 524288 = r.allowed in
      let shared : sum_by share s.views + t ≤ shape.rows = r.shared in
      let less : t < shape.rows = omega (arith, shared, part, room) in
      let stands : Stands (table_at shape words drawer reserved) q = draw_kept (table_at shape s.words r.drawer r.reserved) q k r.stands less in
      let up : slice_index words 0 ≡ t + 1 = let long = r.stands.shaped.long in set_here s.words 0 (t + 1) (omega (arith, long)) in
      let off : (i : ℕ) (x : DraftWord) → slice_index words (draft_of i x) ≡ slice_index s.words (draft_of i x) = λ i x. set_else s.words 0 (t + 1) (draft_of i x) (omega (arith, draft_low i x)) in
      let apart : (i j : ℕ) → r.drawer i ≡ Some j → i ≢ t = λ i j e. let low = r.stands.draws.low i j e in omega (arith, low) in
      let reached : v.reached ≤ t = r.reaches id v at in (
        w,
        keeps,
        tt,
        (
          v.opening,
          ruled_next load shape s id v h ended is at r [] w words s.homes drawer reserved r.outs r.enders record {
            seen = sees_all load shape s id v h ended is at r [] w all;
            same = record { shape = refl; opening = refl; callers = refl; made = refl; alone = refl; consumers = refl };
            legal = tt;
            mine = λ i ne. refl;
            bells = λ c ne. refl;
            told = refl;
            ends = subst (AllEnd r.enders) all r.ends;
            rows = r.rows;
            callers = set_else s.words 0 (t + 1) 1 (omega arith);
            stands = stands;
            cargoes = r.cargoes;
            drafts = views_set (Drafted words drawer) s.views id w
                (λ j u ne e i d found. let x = r.drafts j u e i d found in record { mine = x.mine; drew = but_else r.drawer t (Some k) i (apart i (caller_of u.callers) x.drew) ∙ x.drew; written = λ y. off i y ∙ x.written y })
                (λ i d found. ⊎_elim
                (λ (same : t ≡ i).
                let here : Some (blank_drawing t) ≡ Some d = sym (find-here (is_drawing i) (blank_drawing t) v.drawn (eq-eqb t i same)) ∙ found in
                let is_blank : blank_drawing t ≡ d = cc in
                subst (λ (y : Drawing). IsDraft words drawer w i y) is_blank (subst (λ (y : ℕ). IsDraft words drawer w y (blank_drawing t)) same (record {
                  mine = has_me load shape s id v h ended is at r;
                  drew = but_here r.drawer t (Some k);
                  written = λ y. off t y ∙ r.unwritten t y less (omega arith) ∙ sym (blank_word t y);
                })))
                (λ (miss : t ≢ i).
                let x = r.drafts id v at i d (sym (find-past (is_drawing i) (blank_drawing t) v.drawn (ne_eqb t i miss)) ∙ found) in
                record { mine = x.mine; drew = but_else r.drawer t (Some k) i (λ e. miss (sym e)) ∙ x.drew; written = λ y. off i y ∙ x.written y })
                (cases_eq t i));
            unwritten = λ i x few high. off i x ∙ r.unwritten i x few (omega (arith, up, high));
            top = omega (arith, up);
            reaches = omega (arith, up);
            watches = watches_set shape q [] s.words words s.views id v w at refl (links_off shape q s.words 0 (t + 1) (λ l lt. omega arith) (λ i fewer. omega arith)) r.watches;
            takes = takes_set s.homes r.outs s.views id v w at refl r.takes;
            held = holds_idle q id w idle;
            away = λ i e. away_set s.views id v w (r.outs i) i at refl (r.away i e);
            allowed = omega (arith, sums, allowed);
            shared = omega (arith, shares, shared, part, room, up);
          },
        ),
        (refl, went load shape s id v h ended is at r w [] words drawer reserved all tt refl (λ i ne. refl) stands (omega (arith, reached)) (omega (arith, up)), refl),
      )

  pub draws_allowed : (slots id t : ℕ) (m : Me (Option C) View) (h : ℕ) (ended : List ℕ) → m.0.callers ≡ h ∷ ended → m.0.slot ≡ None → 1 ≤ m.0.share
      → Allows (Ruled load shape) slots id m 0 (λ n. either (eqb n t) (t + 1) n) (draws t m)
  draws_allowed slots id t m h ended is idle room s ruled len at low =
      let r = opened load shape s id m.0 h ended is at ruled in
      let n : ℕ = slice_index s.words 0 in
      by_found load shape s id 0 t (t + 1) m (drew n m) (looked steps.Draw m n) (draws t m)
      (λ u e told. ((λ hit. told), (λ ne. absurd (ne e))))
      (λ u e told. ((λ hit. absurd (e hit)), (λ ne. told)))
      (λ e. subst (λ (k : ℕ). Owes load shape s id m 0 k (drew n m)) (ap (λ (k : ℕ). k + 1) e) (drew_owes s id m h ended is idle room at r))
      (λ e. miss_owes load shape s id 0 steps.Draw m h ended (λ ws. refl) is at r)

-- a draft word after a store of one
word_stored : (r : ℕ) (w y : DraftWord) (n : ℕ) (d : Drawing) → ((draft_of r y ≡ draft_of r w) × (word_in (with_word w n d) y ≡ n)) ⊎ ((draft_of r y ≢ draft_of r w) × (word_in (with_word w n d) y ≡ word_in d y))
word_stored r drafts.Mask drafts.Mask n d = inl (refl, refl)
word_stored r drafts.Mask drafts.Place n d = inr (omega arith, refl)
word_stored r drafts.Mask drafts.Ident n d = inr (omega arith, refl)
word_stored r drafts.Mask drafts.Size n d = inr (omega arith, refl)
word_stored r drafts.Mask drafts.List n d = inr (omega arith, refl)
word_stored r drafts.Place drafts.Mask n d = inr (omega arith, refl)
word_stored r drafts.Place drafts.Place n d = inl (refl, refl)
word_stored r drafts.Place drafts.Ident n d = inr (omega arith, refl)
word_stored r drafts.Place drafts.Size n d = inr (omega arith, refl)
word_stored r drafts.Place drafts.List n d = inr (omega arith, refl)
word_stored r drafts.Ident drafts.Mask n d = inr (omega arith, refl)
word_stored r drafts.Ident drafts.Place n d = inr (omega arith, refl)
word_stored r drafts.Ident drafts.Ident n d = inl (refl, refl)
word_stored r drafts.Ident drafts.Size n d = inr (omega arith, refl)
word_stored r drafts.Ident drafts.List n d = inr (omega arith, refl)
word_stored r drafts.Size drafts.Mask n d = inr (omega arith, refl)
word_stored r drafts.Size drafts.Place n d = inr (omega arith, refl)
word_stored r drafts.Size drafts.Ident n d = inr (omega arith, refl)
word_stored r drafts.Size drafts.Size n d = inl (refl, refl)
word_stored r drafts.Size drafts.List n d = inr (omega arith, refl)
word_stored r drafts.List drafts.Mask n d = inr (omega arith, refl)
word_stored r drafts.List drafts.Place n d = inr (omega arith, refl)
word_stored r drafts.List drafts.Ident n d = inr (omega arith, refl)
word_stored r drafts.List drafts.Size n d = inr (omega arith, refl)
word_stored r drafts.List drafts.List n d = inl (refl, refl)

-- a store leaves the row of a drawing
row_stored : (w : DraftWord) (n : ℕ) (d : Drawing) → (with_word w n d).row ≡ d.row
row_stored drafts.Mask n d = refl
row_stored drafts.Place n d = refl
row_stored drafts.Ident n d = refl
row_stored drafts.Size n d = refl
row_stored drafts.List n d = refl

module _ {C : Type 0} (load : C → Load) (shape : Shape) where
  -- a draft of another seat is another row's
  pub other_draft : (s : State (Option C) View) (id : ℕ) (v : View) (h : ℕ) (ended : List ℕ) (is : v.callers ≡ h ∷ ended) (at : get_elem? s.views id ≡ maybe.some v) (r : RuledAt load shape v.opening s) (row : ℕ) → r.drawer row ≡ Some (caller_of v.callers)
      → (j : ℕ) (u : View) → j ≢ id → get_elem? s.views j ≡ maybe.some u → (i : ℕ) (d : Drawing) → drawing_at u i ≡ Some d → i ≢ row
  other_draft s id v h ended is at r row drew j u ne e i d found same =
      let x = r.drafts j u e i d found in
      let both : Some (caller_of u.callers) ≡ Some (caller_of v.callers) = sym x.drew ∙ ap r.drawer same ∙ drew in
      let one : caller_of u.callers ≡ caller_of v.callers = cc in
      ne (sym ((r.knows j u e).mine (caller_of u.callers) x.mine).0 ∙ ap r.seats one ∙ ((knows_me load shape s id v h ended is at r).mine (caller_of v.callers) (has_me load shape s id v h ended is at r)).0)

  pub stores_allowed : (slots id row value : ℕ) (word : DraftWord) (m : Me (Option C) View) (h : ℕ) (ended : List ℕ) (d : Drawing) → m.0.callers ≡ h ∷ ended → m.0.slot ≡ None → drawing_at m.0 row ≡ Some d
      → Allows (Ruled load shape) slots id m (draft_of row word) (λ _. value) (λ _. stored row word value m)
  stores_allowed slots id row value word m h ended d is idle drawing s ruled len at low =
      let v : View = m.0 in
      let r = opened load shape s id v h ended is at ruled in
      let H : List Deed = r.history in
      let q : Queue = now load shape s id v h ended is at r in
      let k : ℕ = me load shape s id v h ended is at r in
      let i : ℕ = draft_of row word in
      let w : View = stored_view v row word value H in
      let words : List ℕ = set s.words i value in
      let reserved : ℕ → Reservation = but r.reserved k (r.reserved k) in
      let all : H ≡ H ++ [] = sym (append-nil H) in
      let sums = sum_views allowance s.views id v w at in
      let shares = sum_views share s.views id v w at in
      let allowed : sum_by allowance s.views + entries q ≤ 524288 = r.allowed in
      let shared : sum_by share s.views + slice_index s.words 0 ≤ shape.rows = r.shared in
      let mine = r.drafts id v at row d drawing in
      let under : row < slice_index s.words 0 = r.stands.draws.low row k mine.drew in
      let tops = r.stands.draws.top in
      let long = r.stands.shaped.long in
      let stands : Stands (table_at shape words r.drawer reserved) q = draft_kept (table_at shape s.words r.drawer r.reserved) q k row word value r.stands (record { row = omega (arith, under, tops); drawer = mine.drew }) in
      let same_top : slice_index words 0 ≡ slice_index s.words 0 = set_else s.words i value 0 (omega (arith, draft_low row word)) in
      let off : (j : ℕ) (x : DraftWord) → j ≢ row → slice_index words (draft_of j x) ≡ slice_index s.words (draft_of j x) = λ j x ne. set_else s.words i value (draft_of j x) (omega (arith, ne, draft_low j x, draft_high j x, draft_low row word, draft_high row word)) in
      let inside : i < length s.words = omega (arith, long, under, tops, draft_high row word) in
      let reached : v.reached ≤ slice_index s.words 0 = r.reaches id v at in (
        w,
        keeps,
        tt,
        (
          v.opening,
          ruled_next load shape s id v h ended is at r [] w words s.homes r.drawer reserved r.outs r.enders record {
            seen = sees_all load shape s id v h ended is at r [] w all;
            same = record { shape = refl; opening = refl; callers = refl; made = refl; alone = refl; consumers = refl };
            legal = tt;
            mine = λ j ne. refl;
            bells = λ c ne. refl;
            told = refl;
            ends = subst (AllEnd r.enders) all r.ends;
            rows = r.rows;
            callers = set_else s.words i value 1 (omega (arith, draft_low row word));
            stands = stands;
            cargoes = r.cargoes;
            drafts = views_set (Drafted words r.drawer) s.views id w
                (λ j u ne e k d' found. let x = r.drafts j u e k d' found in record { mine = x.mine; drew = x.drew; written = λ y. off k y (other_draft s id v h ended is at r row mine.drew j u ne e k d' found) ∙ x.written y })
                (λ k d' found. ⊎_elim
                (λ (same : k ≡ row).
                let new : Drawing = with_word word value d in
                let is_row_new : is_drawing row new ≡ true = ap (λ (z : ℕ). z == row) (row_stored word value d) ∙ find_passes (is_drawing row) v.drawn d drawing in
                let here : drawing_at w row ≡ Some new = find-alter (is_drawing row) (option_map (with_word word value)) v.drawn new (ap (option_map (with_word word value)) drawing) is_row_new in
                let both : Some new ≡ Some d' = sym here ∙ ap (drawing_at w) (sym same) ∙ found in
                let is_new : new ≡ d' = cc in
                subst (λ (y : Drawing). IsDraft words r.drawer w k y) is_new (subst (λ (y : ℕ). IsDraft words r.drawer w y new) (sym same) (record {
                  mine = mine.mine;
                  drew = mine.drew;
                  written = λ y. ⊎_elim
                      (λ (p : (draft_of row y ≡ draft_of row word) × (word_in new y ≡ value)). ap (slice_index words) p.0 ∙ set_here s.words i value inside ∙ sym p.1)
                      (λ (p : (draft_of row y ≢ draft_of row word) × (word_in new y ≡ word_in d y)). set_else s.words i value (draft_of row y) p.0 ∙ mine.written y ∙ sym p.1)
                      (word_stored row word y value d);
                })))
                (λ (miss : k ≢ row).
                let before : drawing_at v k ≡ Some d' = sym (find-alter_other (is_drawing row) (is_drawing k) (option_map (with_word word value)) v.drawn
                (λ x hit. ne_eqb x.row k (λ z. miss (sym z ∙ eqb-true x.row row hit)))
                (λ y z. let b : Some (with_word word value d) ≡ Some y = sym (ap (option_map (with_word word value)) drawing) ∙ z in let e : with_word word value d ≡ y = cc in
                ne_eqb y.row k (λ g. miss (sym g ∙ ap (λ (f : Drawing). f.row) (sym e) ∙ row_stored word value d ∙ eqb-true d.row row (find_passes (is_drawing row) v.drawn d drawing))))) ∙ found in
                let x = r.drafts id v at k d' before in record { mine = x.mine; drew = x.drew; written = λ y. off k y miss ∙ x.written y })
                (cases_eq k row));
            unwritten = λ j x few high. off j x (omega (arith, same_top, high, under)) ∙ r.unwritten j x few (omega (arith, same_top, high));
            top = omega (arith, same_top);
            reaches = omega (arith, same_top, reached);
            watches = watches_set shape q [] s.words words s.views id v w at refl (links_off shape q s.words i value (λ l lt. omega (arith, under, tops, draft_high row word)) (λ j fewer. omega (arith, draft_low row word, draft_high row word))) r.watches;
            takes = takes_set s.homes r.outs s.views id v w at refl r.takes;
            held = holds_idle q id w idle;
            away = λ j e. away_set s.views id v w (r.outs j) j at refl (r.away j e);
            allowed = omega (arith, sums, allowed);
            shared = omega (arith, shares, shared, same_top);
          },
        ),
        (refl, went load shape s id v h ended is at r w [] words r.drawer reserved all tt refl (λ j ne. refl) stands (omega arith) (omega (arith, reached, same_top)), refl),
      )
