-- marks that are raised, and counts
use Rattle.std.proofs.Common.{◌≡◌, ◌≢◌, ◌⊎◌, inr, ℕ, ◌<◌, List, length, sym, ap, ◌∙◌, subst, ⊎_elim, arith}
use Rattle.std.specs.Prelude.{slice_index, slice_set}
use Rattle.std.proofs.lemmas.Bool.{cases_eq}
use Rattle.queue_model.specs.declared.queues.Queue.{Queue}
use Rattle.queue_model.specs.declared.steps.Step.TheVariants.{Mark}
use Rattle.queue_model.specs.State.{row_at, place_at}
use Rattle.link_core.specs.Layout.{mark_of, count_of}
use Rattle.link_core.specs.Stands.{StandsIn, Marks, Stands}
use Rattle.link_core.specs.Steps.{FitsMark, changed_by}
use Rattle.link_core.specs.Table.{Table, but}
use Rattle.link_core.proofs.Changing.{linked_row}
use Rattle.link_core.proofs.Frames.{but_same, set_here, set_else, states_else, drafts_else, links_else, tails_else, marks_else, bells_else, depth_else, draws_else, shaped_set, stands_low, draft_high}

-- one mark is the place of a row of its list
marks_raised : (rows lists m r n : ℕ) (words : List ℕ) (q : Queue) → mark_of rows m < length words → StandsIn (row_at q) m r → n ≡ place_at q r → Marks rows lists words q → Marks rows lists (slice_set words (mark_of rows m) n) q
marks_raised rows lists m r n words q long stands place marks l lt = ⊎_elim
    (λ (e : l ≡ m). inr (r, subst (λ (k : ℕ). StandsIn (row_at q) k r) (sym e) stands, ap (λ (k : ℕ). slice_index (slice_set words (mark_of rows m) n) (mark_of rows k)) e ∙ set_here words (mark_of rows m) n long ∙ place))
    (λ (ne : l ≢ m). subst (λ (k : ℕ). (k ≡ 0) ⊎ ((s : ℕ) × StandsIn (row_at q) l s × (k ≡ place_at q s))) (sym (set_else words (mark_of rows m) n (mark_of rows l) (omega (arith, ne)))) (marks l lt))
    (cases_eq l m)

-- the mark of a list is raised to a place
pub mark_step : (t : Table) (q : Queue) (h l n : ℕ) → Stands t q → FitsMark t l n → Stands (changed_by t h (Mark l n)) q
mark_step t q h l n s fits =
    let fewer = s.shaped.few_consumers in
    let low : l < t.lists = fits.list in
    let r : ℕ = fits.row.0 in
    let is = fits.row.1 in
    let row = linked_row t q r s is.row in
    let drafted = s.drafted r row.0 row.1 in record {
      sound = s.sound;
      shaped = shaped_set t q (mark_of t.rows l) n _ _ s.shaped;
      states = states_else t.rows t.words (mark_of t.rows l) n q (stands_low t q s) (λ k less. omega arith) s.states;
      drafted = drafts_else t.rows t.words (mark_of t.rows l) n q (λ k x found w. let under : k < t.rows = stands_low t q s k x found in omega (arith, draft_high k w)) s.drafted;
      links = links_else t.rows t.words (mark_of t.rows l) n t.lists q (stands_low t q s) (λ k lt. omega arith) (λ k less. omega arith) s.links;
      tails = tails_else t.rows t.words (mark_of t.rows l) n t.lists q (λ k lt. omega arith) s.tails;
      marks = marks_raised t.rows t.lists l r n t.words q (omega (arith, s.shaped.long)) (record { row = row.0; found = row.1; list = sym drafted.list ∙ is.list }) (sym is.place ∙ drafted.place) s.marks;
      bells = bells_else t.rows t.words (mark_of t.rows l) n t.consumers t.lists q (λ c k less lt. omega arith) s.bells;
      rung = s.rung;
      depth = depth_else t.rows t.words (mark_of t.rows l) n q (omega arith) s.depth;
      draws = draws_else t.rows t.words (mark_of t.rows l) n t.drawer q (omega arith) (λ k less none. omega arith) (λ k less none. omega arith) s.draws;
      reserved = λ k. s.reserved k ∙ sym (but_same t.reserved h k);
    }

-- The count of a list may be any number.
pub count_kept : (t : Table) (q : Queue) (h l n : ℕ) → Stands t q → l < t.lists → Stands (record t { words = slice_set t.words (count_of t.rows l) n; reserved = but t.reserved h (t.reserved h) }) q
count_kept t q h l n s low =
    let fewer = s.shaped.few_consumers in record {
      sound = s.sound;
      shaped = shaped_set t q (count_of t.rows l) n _ _ s.shaped;
      states = states_else t.rows t.words (count_of t.rows l) n q (stands_low t q s) (λ k less. omega arith) s.states;
      drafted = drafts_else t.rows t.words (count_of t.rows l) n q (λ k x found w. let under : k < t.rows = stands_low t q s k x found in omega (arith, draft_high k w)) s.drafted;
      links = links_else t.rows t.words (count_of t.rows l) n t.lists q (stands_low t q s) (λ k lt. omega arith) (λ k less. omega arith) s.links;
      tails = tails_else t.rows t.words (count_of t.rows l) n t.lists q (λ k lt. omega arith) s.tails;
      marks = marks_else t.rows t.words (count_of t.rows l) n t.lists q (λ k lt. omega arith) s.marks;
      bells = bells_else t.rows t.words (count_of t.rows l) n t.consumers t.lists q (λ c k less lt. omega arith) s.bells;
      rung = s.rung;
      depth = depth_else t.rows t.words (count_of t.rows l) n q (omega arith) s.depth;
      draws = draws_else t.rows t.words (count_of t.rows l) n t.drawer q (omega arith) (λ k less none. omega arith) (λ k less none. omega arith) s.draws;
      reserved = λ k. s.reserved k ∙ sym (but_same t.reserved h k);
    }
