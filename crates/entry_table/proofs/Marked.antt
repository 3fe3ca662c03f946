-- marks and counts are allowed
use Rattle.std.proofs.Common.{◌≡◌, ◌≢◌, ℕ, suc, ◌+◌, ◌^◌, ◌<◌, ◌≤◌, max, Option, Some, None, List, [], ◌∷◌, ◌++◌, set, refl, sym, ap, ◌∙◌, subst, ⊎_elim, arith, append-nil}
use Rattle.std.specs.Prelude.{slice_index, ◌%◌}
use Rattle.std.specs.List.{sum_by}
use Rattle.std.proofs.Math.Nat.{max-eq_left, max-eq_right}
use Rattle.std.proofs.lemmas.Bool.{cases_lt}
use Rattle.std.proofs.lemmas.List.{set-get_or}
use mathlib.Core.Option as maybe
use lib.ListN.{get_elem?}
use Rattle.atomic_table.specs.Table.{State, Me, keeps, Allows}
use Rattle.queue_model.specs.declared.deeds.Deed.{Deed}
use Rattle.queue_model.specs.declared.queues.Queue.{Queue}
use Rattle.queue_model.specs.declared.queues.Reservation.{Reservation}
use Rattle.queue_model.specs.declared.steps.DraftWord.{DraftWord}
use Rattle.queue_model.specs.declared.steps.Node.TheVariants as nodes
use Rattle.queue_model.specs.declared.steps.Step.{Step}
use Rattle.queue_model.specs.declared.steps.Step.TheVariants as steps
use Rattle.queue_model.specs.History.{after}
use Rattle.queue_model.specs.State.{entries}
use Rattle.queue_model.proofs.SoundSteps.{list_found, row_fits}
use Rattle.acts_core.specs.Load.{Load}
use Rattle.link_core.specs.Layout.{row_link_of, draft_of, head_of, mark_of, count_of}
use Rattle.link_core.specs.Stands.{Stands}
use Rattle.link_core.specs.Steps.{FitsMark}
use Rattle.link_core.specs.Table.{Table, but}
use Rattle.link_core.proofs.Frames.{set_else, draft_high}
use Rattle.link_core.proofs.Marking.{mark_step, count_kept}
use Rattle.entry_table.specs.declared.view.Shape.{Shape}
use Rattle.entry_table.specs.declared.view.View.{View}
use Rattle.entry_table.specs.Views.{AllEnd}
use Rattle.entry_table.specs.Rule.{table_at, Ruled, RuledAt, allowance}
use Rattle.entry_table.specs.Plays.{Went}
use Rattle.entry_table.specs.Marks.{HasPlace, stepped_view, stepped}
use Rattle.entry_table.proofs.Frames.{sum_views}
use Rattle.entry_table.proofs.Keeping.{opened, now, me, went}
use Rattle.entry_table.proofs.Onwards.{links_off, watches_set}
use Rattle.entry_table.proofs.Looking.{Owes, plain}
use Rattle.entry_table.proofs.Entering.{node_now, node_place, row_same, shape_now}

module _ {C : Type 0} (load : C → Load) (shape : Shape) where
  module _ (s : State (Option C) View) (id : ℕ) (v : View) (h : ℕ) (ended : List ℕ) (is : v.callers ≡ h ∷ ended) (at : get_elem? s.views id ≡ maybe.some v) (r : RuledAt load shape v.opening s) where
    abbrev q : Queue
    q = now load shape s id v h ended is at r

    abbrev same_reserved : ℕ → Reservation
    same_reserved = but r.reserved (me load shape s id v h ended is at r) (r.reserved (me load shape s id v h ended is at r))

    -- a step on a word behind the words of all rows, which is no head's link
    stepped_owes : (i n : ℕ) (step : Step) (reserved : ℕ → Reservation) (carried : List (ℕ × Option C)) → row_link_of shape.rows ≤ i → ((l : ℕ) → l < shape.lists → head_of shape.rows l ≢ i) → Stands (table_at shape (set s.words i n) r.drawer reserved) q
        → Owes load shape s id (v, carried) i n (stepped step n (v, carried) (slice_index s.words i))
    stepped_owes i n step reserved carried behind heads stands =
        let H : List Deed = r.history in
        let all : H ≡ H ++ [] = sym (append-nil H) in
        let words : List ℕ = set s.words i n in
        let w : View = stepped_view v step (slice_index s.words i) n H in
        let top : slice_index words 0 ≡ slice_index s.words 0 = set_else s.words i n 0 (omega (arith, behind)) in
        let off : (j : ℕ) (x : DraftWord) → j < shape.rows → slice_index words (draft_of j x) ≡ slice_index s.words (draft_of j x) = λ j x less. set_else s.words i n (draft_of j x) (omega (arith, behind, draft_high j x)) in
        let sums = sum_views allowance s.views id v w at in
        let allowed : sum_by allowance s.views + entries q ≤ 524288 = r.allowed in
        let reached : v.reached ≤ slice_index s.words 0 = r.reaches id v at in (
          w,
          keeps,
          tt,
          (
            v.opening,
            plain load shape s id v h ended is at r [] w words reserved r.enders all (record { shape = refl; opening = refl; callers = refl; made = refl; alone = refl; consumers = refl }) refl refl refl (r.held id v at) refl reached tt (λ j ne. refl) (λ c ne. refl) (subst (AllEnd r.enders) all r.ends)
                top (set_else s.words i n 1 (omega (arith, behind))) off stands r.cargoes (omega (arith, sums, allowed))
                (watches_set shape q [] s.words words s.views id v w at refl (links_off shape q s.words i n heads (λ j less. omega (arith, behind))) r.watches),
          ),
          (refl, went load shape s id v h ended is at r w [] words r.drawer reserved all tt refl (λ j ne. refl) stands (omega arith) (omega (arith, reached, top)), refl),
        )

    -- the place of a row that the pass knows fits the mark of its list
    mark_fits : (l place : ℕ) → HasPlace (after v.opening v.seen) l place → FitsMark (table_at shape s.words r.drawer r.reserved) l place
    mark_fits l place there =
        let row : ℕ = there.0 in
        let y = row_same load shape s id v h ended is at r row there.1.0 there.1.1 in
        let node = node_place load shape s id v h ended is at r (nodes.Row row) (there.1.0, there.1.1) in
        let fits = row_fits q row y.0 r.stands.sound y.1 in
        let same : y.0.slip.list ≡ l = ap (λ (z : _). z.list) y.2.slip ∙ there.1.2 in
        let lists = r.stands.shaped.lists in let low = fits.list in let spot = node.1 in let is_at = there.2 in record {
          list = omega (arith, same, low, lists);
          row = (
            row,
            record {
              row = node_now load shape s id v h ended is at r (nodes.Row row) (there.1.0, there.1.1);
              list = node.0 ∙ list_found (after v.opening v.seen) row there.1.0 there.1.1 ∙ there.1.2;
              place = omega (arith, spot, is_at);
            },
          );
        }

    mark_stands : (l place : ℕ) → FitsMark (table_at shape s.words r.drawer r.reserved) l place → (reserved : ℕ → Reservation) × Stands (table_at shape (set s.words (mark_of shape.rows l) (max (slice_index s.words (mark_of shape.rows l)) place)) r.drawer reserved) q
    mark_stands l place fits =
        let i : ℕ = mark_of shape.rows l in
        let n : ℕ = slice_index s.words i in
        let k : ℕ = me load shape s id v h ended is at r in ⊎_elim
        (λ (less : n < place).
        let top : max n place ≡ place = max-eq_right (omega (arith, less)) in
        (same_reserved, subst (λ (z : ℕ). Stands (table_at shape (set s.words i z) r.drawer same_reserved) q) (sym top) (mark_step (table_at shape s.words r.drawer r.reserved) q k l place r.stands fits)))
        (λ (more : place ≤ n).
        let top : max n place ≡ n = max-eq_left more in
        (r.reserved, subst (λ (z : ℕ). Stands (table_at shape (set s.words i z) r.drawer r.reserved) q) (sym top) (subst (λ (ws : List ℕ). Stands (table_at shape ws r.drawer r.reserved) q) (sym (set-get_or s.words i 0)) r.stands)))
        (cases_lt n place)

  -- a mark is raised
  pub mark_allowed : (slots id l place : ℕ) (m : Me (Option C) View) (h : ℕ) (ended : List ℕ) → m.0.callers ≡ h ∷ ended → HasPlace (after m.0.opening m.0.seen) l place
      → Allows (Ruled load shape) slots id m (mark_of shape.rows l) (λ n. max n place) (λ n. stepped (steps.Mark l place) (max n place) m n)
  mark_allowed slots id l place m h ended is there s ruled len at small =
      let r = opened load shape s id m.0 h ended is at ruled in
      let fits = mark_fits s id m.0 h ended is at r l place there in
      let i : ℕ = mark_of shape.rows l in
      let t = mark_stands s id m.0 h ended is at r l place fits in
      stepped_owes s id m.0 h ended is at r i (max (slice_index s.words i) place) (steps.Mark l place) t.0 m.1 (omega arith) (λ k lt. omega arith) t.1

  -- a count becomes another number
  count_allowed : (slots id l : ℕ) (f : ℕ → ℕ) (step : Step) (m : Me (Option C) View) (h : ℕ) (ended : List ℕ) → m.0.callers ≡ h ∷ ended → l < shape.lists
      → Allows (Ruled load shape) slots id m (count_of shape.rows l) f (λ n. stepped step (f n) m n)
  count_allowed slots id l f step m h ended is low s ruled len at small =
      let r = opened load shape s id m.0 h ended is at ruled in
      let i : ℕ = count_of shape.rows l in
      let k : ℕ = me load shape s id m.0 h ended is at r in
      stepped_owes s id m.0 h ended is at r i (f (slice_index s.words i)) step (same_reserved s id m.0 h ended is at r) m.1 (omega arith) (λ j lt. omega arith)
      (count_kept (table_at shape s.words r.drawer r.reserved) (now load shape s id m.0 h ended is at r) k l (f (slice_index s.words i)) r.stands low)

  -- the same, for numbers that are given by equations
  pub mark_at : (slots id i l p k n : ℕ) (m : Me (Option C) View) (h : ℕ) (ended : List ℕ) → i ≡ mark_of shape.rows l → k ≡ l → p ≡ n → m.0.callers ≡ h ∷ ended → HasPlace (after m.0.opening m.0.seen) l n
      → Allows (Ruled load shape) slots id m i (λ x. max x n) (λ x. stepped (steps.Mark k p) (max x n) m x)
  mark_at slots id i l p k n m h ended ei ek ep is there =
      subst (λ (z : ℕ × ℕ). Allows (Ruled load shape) slots id m i (λ x. max x n) (λ x. stepped (steps.Mark z.0 z.1) (max x n) m x)) (λ j. (sym ek j, sym ep j))
      (subst (λ (z : ℕ). Allows (Ruled load shape) slots id m z (λ x. max x n) (λ x. stepped (steps.Mark l n) (max x n) m x)) (sym ei) (mark_allowed slots id l n m h ended is there))

  pub count_at : (slots id i l k : ℕ) (m : Me (Option C) View) (h : ℕ) (ended : List ℕ) → i ≡ count_of shape.rows l → k ≡ l → m.0.callers ≡ h ∷ ended → l < shape.lists
      → Allows (Ruled load shape) slots id m i (λ n. (n + 1) % 2 ^ 64) (λ n. stepped (steps.Count k) ((n + 1) % 2 ^ 64) m n)
  count_at slots id i l k m h ended ei ek is low =
      subst (λ (z : ℕ). Allows (Ruled load shape) slots id m i (λ n. (n + 1) % 2 ^ 64) (λ n. stepped (steps.Count z) ((n + 1) % 2 ^ 64) m n)) (sym ek)
      (subst (λ (z : ℕ). Allows (Ruled load shape) slots id m z (λ n. (n + 1) % 2 ^ 64) (λ n. stepped (steps.Count l) ((n + 1) % 2 ^ 64) m n)) (sym ei) (count_allowed slots id l (λ n. (n + 1) % 2 ^ 64) (steps.Count l) m h ended is low))

  pub reset_at : (slots id i l k : ℕ) (m : Me (Option C) View) (h : ℕ) (ended : List ℕ) → i ≡ count_of shape.rows l → k ≡ l → m.0.callers ≡ h ∷ ended → l < shape.lists
      → Allows (Ruled load shape) slots id m i (λ _. 0) (λ n. stepped (steps.Reset k) 0 m n)
  reset_at slots id i l k m h ended ei ek is low =
      subst (λ (z : ℕ). Allows (Ruled load shape) slots id m i (λ _. 0) (λ n. stepped (steps.Reset z) 0 m n)) (sym ek)
      (subst (λ (z : ℕ). Allows (Ruled load shape) slots id m z (λ _. 0) (λ n. stepped (steps.Reset l) 0 m n)) (sym ei) (count_allowed slots id l (λ _. 0) (steps.Reset l) m h ended is low))
