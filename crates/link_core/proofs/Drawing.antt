-- draws, and stores of draft words
use Rattle.std.proofs.Common.{◌≡◌, ◌≢◌, ℕ, ◌+◌, ◌<◌, Option, Some, None, IsSome, List, length, refl, sym, ap, ◌∙◌, subst, ⊎_elim, arith}
use Rattle.std.specs.Prelude.{slice_index, slice_set}
use Rattle.std.proofs.lemmas.Bool.{cases_eq}
use Rattle.queue_model.specs.declared.queues.Queue.{Queue}
use Rattle.queue_model.specs.declared.rows.Row.{Row}
use Rattle.queue_model.specs.declared.steps.DraftWord.{DraftWord}
use Rattle.queue_model.specs.declared.steps.Step.TheVariants.{Draw, Draft}
use Rattle.queue_model.specs.State.{row_at}
use Rattle.link_core.specs.Layout.{row_link_of, state_of, draft_of}
use Rattle.link_core.specs.Stands.{Draws, Stands}
use Rattle.link_core.specs.Steps.{IsDrawnBy, changed_by}
use Rattle.link_core.specs.Table.{Table, top, but}
use Rattle.link_core.proofs.Frames.{but_here, but_else, but_same, set_here, set_else, draft_low, draft_high, states_else, drafts_else, links_else, tails_else, marks_else, bells_else, depth_else, draws_else, shaped_set, stands_low}

-- the next row has a drawer, and each other row what it had
draws_more : (rows h : ℕ) (words : List ℕ) (drawer : ℕ → Option ℕ) (q : Queue) → slice_index words 0 < rows → 0 < length words → Draws rows words drawer (row_at q)
    → Draws rows (slice_set words 0 (slice_index words 0 + 1)) (but drawer (slice_index words 0) (Some h)) (row_at q)
draws_more rows h words drawer q lt long draws =
    let n : ℕ = slice_index words 0 in
    let up : slice_index (slice_set words 0 (n + 1)) 0 ≡ n + 1 = set_here words 0 (n + 1) long in record {
      top = omega (arith, up);
      below = λ r x found. omega (arith, up, draws.below r x found);
      free = λ r x found. let low = draws.below r x found in but_else drawer n (Some h) r (omega arith) ∙ draws.free r x found;
      drawn = λ r none low. ⊎_elim
          (λ (e : r ≡ n). subst (λ (m : ℕ). IsSome (but drawer n (Some h) m)) (sym e) (subst IsSome (sym (but_here drawer n (Some h))) refl))
          (λ (ne : r ≢ n). subst IsSome (sym (but_else drawer n (Some h) r ne)) (draws.drawn r none (omega (arith, up))))
          (cases_eq r n);
      low = λ r k e. ⊎_elim
          (λ (e : r ≡ n). omega (arith, up))
          (λ (ne : r ≢ n). omega (arith, up, draws.low r k (sym (but_else drawer n (Some h) r ne) ∙ e)))
          (cases_eq r n);
      unset = λ r few none. set_else words 0 (n + 1) (state_of r) (omega arith) ∙ draws.unset r few none;
      unlinked = λ r few none. set_else words 0 (n + 1) (row_link_of r) (omega arith) ∙ draws.unlinked r few none;
    }

-- a draw where a row is left
pub draw_kept : (t : Table) (q : Queue) (h : ℕ) → Stands t q → top t < t.rows → Stands (changed_by t h Draw) q
draw_kept t q h s lt =
    let long = s.shaped.long in record {
      sound = s.sound;
      shaped = shaped_set t q 0 (top t + 1) _ _ s.shaped;
      states = states_else t.rows t.words 0 (top t + 1) q (stands_low t q s) (λ r less. omega arith) s.states;
      drafted = drafts_else t.rows t.words 0 (top t + 1) q (λ r x found w. omega (arith, draft_low r w)) s.drafted;
      links = links_else t.rows t.words 0 (top t + 1) t.lists q (stands_low t q s) (λ l few. omega arith) (λ r less. omega arith) s.links;
      tails = tails_else t.rows t.words 0 (top t + 1) t.lists q (λ l few. omega arith) s.tails;
      marks = marks_else t.rows t.words 0 (top t + 1) t.lists q (λ l few. omega arith) s.marks;
      bells = bells_else t.rows t.words 0 (top t + 1) t.consumers t.lists q (λ c l fewer few. omega arith) s.bells;
      rung = s.rung;
      depth = depth_else t.rows t.words 0 (top t + 1) q (omega arith) s.depth;
      draws = draws_more t.rows h t.words t.drawer q lt (omega (arith, long)) s.draws;
      reserved = λ k. s.reserved k ∙ sym (but_same t.reserved h k);
    }

-- a row with a drawer is no row of the queue
pub not_linked : (t : Table) (q : Queue) (h r : ℕ) → Stands t q → t.drawer r ≡ Some h → row_at q r ≡ None
not_linked t q h r s drawer = by_found (row_at q r) refl where
  by_found : (o : Option Row) → row_at q r ≡ o → row_at q r ≡ None
  by_found None e = e
  by_found (Some x) e = let bad : None ≡ Some h = sym (s.draws.free r x e) ∙ drawer in absurd (cc)

-- a row of the queue is another than one that is not
pub other_than : (q : Queue) (r k : ℕ) (x : Row) → row_at q r ≡ None → row_at q k ≡ Some x → k ≢ r
other_than q r k x none found e = let bad : None ≡ Some x = sym none ∙ ap (row_at q) (sym e) ∙ found in absurd (cc)

-- a store of a draft word
pub draft_kept : (t : Table) (q : Queue) (h r : ℕ) (w : DraftWord) (value : ℕ) → Stands t q → IsDrawnBy t h r → Stands (changed_by t h (Draft r w value)) q
draft_kept t q h r w value s drawn =
    let low : state_of r < draft_of r w = draft_low r w in
    let high : draft_of r w < row_link_of (r + 1) = draft_high r w in
    let inside : r < t.rows = drawn.row in record {
      sound = s.sound;
      shaped = shaped_set t q (draft_of r w) value _ _ s.shaped;
      states = states_else t.rows t.words (draft_of r w) value q (stands_low t q s) (λ k less. omega (arith, low, high)) s.states;
      drafted = drafts_else t.rows t.words (draft_of r w) value q
          (λ k x found v. let ne : k ≢ r = other_than q r k x (not_linked t q h r s drawn.drawer) found in omega (arith, low, high, draft_low k v, draft_high k v)) s.drafted;
      links = links_else t.rows t.words (draft_of r w) value t.lists q (stands_low t q s) (λ l lt. omega (arith, low)) (λ k less. omega (arith, low, high)) s.links;
      tails = tails_else t.rows t.words (draft_of r w) value t.lists q (λ l lt. omega (arith, low)) s.tails;
      marks = marks_else t.rows t.words (draft_of r w) value t.lists q (λ l lt. omega (arith, low)) s.marks;
      bells = bells_else t.rows t.words (draft_of r w) value t.consumers t.lists q (λ c l lt less. omega (arith, low)) s.bells;
      rung = s.rung;
      depth = depth_else t.rows t.words (draft_of r w) value q (omega (arith, low)) s.depth;
      draws = draws_else t.rows t.words (draft_of r w) value t.drawer q (omega (arith, low)) (λ k less none. omega (arith, low, high)) (λ k less none. omega (arith, low, high)) s.draws;
      reserved = λ k. s.reserved k ∙ sym (but_same t.reserved h k);
    }
