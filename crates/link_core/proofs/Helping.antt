-- a tail that is moved on
use Rattle.std.proofs.Common.{◌≡◌, ◌≢◌, ◌⊎◌, inr, ℕ, suc, ◌<◌, List, length, sym, ap, ◌∙◌, subst, ⊎_elim, arith}
use Rattle.std.specs.Prelude.{slice_index, slice_set}
use Rattle.std.proofs.lemmas.Bool.{cases_eq}
use Rattle.queue_model.specs.declared.queues.Queue.{Queue}
use Rattle.queue_model.specs.declared.steps.Node.{Node}
use Rattle.queue_model.specs.declared.steps.Node.TheVariants as nodes
use Rattle.queue_model.specs.declared.steps.Step.TheVariants.{HelpTail}
use Rattle.queue_model.specs.State.{row_at}
use Rattle.link_core.specs.Layout.{tail_of}
use Rattle.link_core.specs.Stands.{StandsIn, Tails, Stands}
use Rattle.link_core.specs.Steps.{FitsHelp, FitsHelpTo, changed_by}
use Rattle.link_core.specs.Table.{Table}
use Rattle.link_core.proofs.Frames.{but_same, set_here, set_else, states_else, drafts_else, links_else, marks_else, bells_else, depth_else, draws_else, shaped_set, stands_low, draft_high}
use Rattle.link_core.proofs.Changing.{linked_row}

-- one tail names another row of its list
tails_moved : (rows lists m r : ℕ) (words : List ℕ) (q : Queue) → tail_of rows m < length words → StandsIn (row_at q) m r → Tails rows lists words q → Tails rows lists (slice_set words (tail_of rows m) (suc r)) q
tails_moved rows lists m r words q long stands tails l lt = ⊎_elim
    (λ (e : l ≡ m). inr (r, subst (λ (n : ℕ). StandsIn (row_at q) n r) (sym e) stands, ap (λ (n : ℕ). slice_index (slice_set words (tail_of rows m) (suc r)) (tail_of rows n)) e ∙ set_here words (tail_of rows m) (suc r) long))
    (λ (ne : l ≢ m). subst (λ (k : ℕ). (k ≡ 0) ⊎ ((s : ℕ) × StandsIn (row_at q) l s × (k ≡ suc s))) (sym (set_else words (tail_of rows m) (suc r) (tail_of rows l) (omega (arith, ne)))) (tails l lt))
    (cases_eq l m)

-- to a row of the list
help_kept : (t : Table) (q : Queue) (h l r : ℕ) (from : Node) → Stands t q → FitsHelp t l from r → Stands (changed_by t h (HelpTail l from (nodes.Row r))) q
help_kept t q h l r from s fits =
    let fewer = s.shaped.few_consumers in
    let low : l < t.lists = fits.list in
    let row = linked_row t q r s fits.row in
    let list : row.0.slip.list ≡ l = sym (s.drafted r row.0 row.1).list ∙ fits.behind.0 ∙ fits.node_list in record {
      sound = s.sound;
      shaped = shaped_set t q (tail_of t.rows l) (suc r) _ _ s.shaped;
      states = states_else t.rows t.words (tail_of t.rows l) (suc r) q (stands_low t q s) (λ k less. omega arith) s.states;
      drafted = drafts_else t.rows t.words (tail_of t.rows l) (suc r) q (λ k x found w. let under : k < t.rows = stands_low t q s k x found in omega (arith, draft_high k w)) s.drafted;
      links = links_else t.rows t.words (tail_of t.rows l) (suc r) t.lists q (stands_low t q s) (λ k lt. omega arith) (λ k less. omega arith) s.links;
      tails = tails_moved t.rows t.lists l r t.words q (omega (arith, s.shaped.long)) (record { row = row.0; found = row.1; list = list }) s.tails;
      marks = marks_else t.rows t.words (tail_of t.rows l) (suc r) t.lists q (λ k lt. omega arith) s.marks;
      bells = bells_else t.rows t.words (tail_of t.rows l) (suc r) t.consumers t.lists q (λ c k less lt. omega arith) s.bells;
      rung = s.rung;
      depth = depth_else t.rows t.words (tail_of t.rows l) (suc r) q (omega arith) s.depth;
      draws = draws_else t.rows t.words (tail_of t.rows l) (suc r) t.drawer q (omega arith) (λ k less none. omega arith) (λ k less none. omega arith) s.draws;
      reserved = λ k. s.reserved k ∙ sym (but_same t.reserved h k);
    }

pub help_step : (t : Table) (q : Queue) (h l : ℕ) (from to : Node) → Stands t q → FitsHelpTo t l from to → Stands (changed_by t h (HelpTail l from to)) q
help_step t q h l from (nodes.Head m) s fits = absurd fits
help_step t q h l from (nodes.Row r) s fits = help_kept t q h l r from s fits
