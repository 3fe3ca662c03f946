-- a row that is linked
use Rattle.std.proofs.Common.{◌≡◌, ◌≢◌, ◌⊎◌, inl, inr, ℕ, suc, ◌^◌, ◌<◌, Some, None, IsSome, List, [], ◌∷◌, ◌++◌, find, length, refl, sym, ap, ap₂, ◌∙◌, subst, ⊎_elim, eq-eqb, ne_eqb, append-nil, arith}
use Rattle.std.specs.Prelude.{slice_index, slice_set}
use Rattle.std.specs.List.{position_or_len, AllByRecursion}
use Rattle.std.proofs.lemmas.Bool.{cases_eq, cond-true, cond-false}
use Rattle.std.proofs.lemmas.List.Elements.{filter-append}
use Rattle.queue_model.specs.declared.queues.Queue.{Queue}
use Rattle.queue_model.specs.declared.queues.Reservation.{Reservation}
use Rattle.queue_model.specs.declared.rows.Row.{Row}
use Rattle.queue_model.specs.declared.rows.RowState.TheVariants.{Available}
use Rattle.queue_model.specs.declared.steps.DraftWord.{DraftWord}
use Rattle.queue_model.specs.declared.steps.DraftWord.TheVariants as drafts
use Rattle.queue_model.specs.declared.steps.Node.{Node}
use Rattle.queue_model.specs.declared.steps.Node.TheVariants as nodes
use Rattle.queue_model.specs.declared.steps.Step.TheVariants.{Link}
use Rattle.queue_model.specs.State.{is_row, row_at, is_of_list, rows_of, list_at, place_at}
use Rattle.queue_model.specs.Table.{CanGive, Can, acted, with_less}
use Rattle.queue_model.proofs.Depths.{depth_kept}
use Rattle.queue_model.proofs.KeyedLemmas.{all-weaker, find-append}
use Rattle.queue_model.proofs.Owns.{own_giving, own_enqueued, own_enqueued_last}
use Rattle.queue_model.proofs.RowFacts.{row_push_other}
use Rattle.queue_model.proofs.BellRows.{bells_ring_step}
use Rattle.queue_model.proofs.SoundSteps.{sound_step, row_fits, list_found}
use Rattle.queue_model.proofs.Stable.{found_in_list, place_step, new_step}
use Rattle.link_core.specs.declared.places.TheConstants.{TOP, DEPTH}
use Rattle.link_core.specs.Layout.{row_link_of, state_of, draft_of, head_of, tail_of, mark_of, bell_of, link_of}
use Rattle.queue_model.specs.Packing.{pack_state, pack_depth}
use Rattle.link_core.specs.Stands.{States, Drafts, IsDrafted, Chain, Links, StandsIn, Tails, Marks, Draws, Stands}
use Rattle.link_core.specs.Steps.{FitsLink, enqueue_with, changed_by, slip_in, size_in, mask_in, list_in, place_behind}
use Rattle.link_core.specs.Table.{Table, but, IsNode, list_of_node}
use Rattle.link_core.proofs.Chaining.{Among, among_start, among_found, chain_more, empty_list, last_place, others_numbered}
use Rattle.link_core.proofs.Changing.{linked_row}
use Rattle.link_core.proofs.Drawing.{not_linked, other_than}
use Rattle.link_core.proofs.Frames.{but_here, but_else, set_else, draft_low, draft_high, chain_else, no_link, drafts_else, tails_else, marks_else, bells_else, depth_else, shaped_set, AreLow, stands_low}
use Rattle.link_core.proofs.Reserving.{reserved_after_act}

-- What is known of a node of list l whose link is the word i
pub record NodeFacts (t : Table) (q : Queue) (node : Node) (l i : ℕ) : Type 0 where
  pub low : l < t.lists
  pub long : i < length t.words
  pub among : Among i (head_of t.rows l) (rows_of q l)
  pub others : (k : ℕ) → k ≢ l → AllByRecursion (λ y. row_link_of y.number ≢ i) (rows_of q k)
  pub heads : (k : ℕ) → k < t.lists → k ≢ l → head_of t.rows k ≢ i
  pub new : (r : ℕ) → r < t.rows → row_at q r ≡ None → row_link_of r ≢ i
  pub place : slice_index t.words i ≡ 0 → place_behind t node ≡ length (rows_of q l)
  pub first : TOP ≢ i
  pub depth : DEPTH ≢ i
  pub tails : (k : ℕ) → k < t.lists → tail_of t.rows k ≢ i
  pub marks : (k : ℕ) → k < t.lists → mark_of t.rows k ≢ i
  pub bells : (c k : ℕ) → c < t.consumers → k < t.lists → bell_of t.rows c k ≢ i
  pub states : (r : ℕ) → r < t.rows → state_of r ≢ i
  pub drafted : (r : ℕ) → r < t.rows → (w : DraftWord) → draft_of r w ≢ i

head_facts : (t : Table) (q : Queue) (l : ℕ) → Stands t q → l < t.lists → NodeFacts t q (nodes.Head l) l (head_of t.rows l)
head_facts t q l s lt =
    let fewer = s.shaped.few_consumers in
    let long = s.shaped.long in record {
      low = lt;
      long = omega (arith, long);
      among = among_start (head_of t.rows l) (head_of t.rows l) (rows_of q l) refl;
      others = λ k ne. no_link t.rows (head_of t.rows l) q k (stands_low t q s) (λ r less. omega arith);
      heads = λ k few ne. omega (arith, ne);
      new = λ r less none. omega arith;
      place = λ e. sym (empty_list t.words (slice_index t.words (head_of t.rows l)) (rows_of q l) e (s.links l lt));
      first = omega arith;
      depth = omega arith;
      tails = λ k less. omega arith;
      marks = λ k less. omega arith;
      bells = λ c k less low. omega arith;
      states = λ r less. omega arith;
      drafted = λ r less w. omega (arith, draft_high r w);
    }

row_facts : (t : Table) (q : Queue) (a l : ℕ) (z : Row) → Stands t q → row_at q a ≡ Some z → list_in t a ≡ l → NodeFacts t q (nodes.Row a) l (row_link_of a)
row_facts t q a l z s found list =
    let fewer = s.shaped.few_consumers in
    let long = s.shaped.long in
    let inside : a < t.rows = stands_low t q s a z found in
    let drafted = s.drafted a z found in
    let own : z.slip.list ≡ l = sym drafted.list ∙ list in
    let at : list_at q a ≡ l = list_found q a z found ∙ own in
    let low : l < t.lists = omega (arith, own, (row_fits q a z s.sound found).list, s.shaped.lists) in
    let among : find (is_row a) (rows_of q l) ≡ Some z = subst (λ (m : ℕ). find (is_row a) (rows_of q m) ≡ Some z) at (found_in_list q a z found) in record {
      low = low;
      long = omega (arith, long);
      among = among_found a (head_of t.rows l) (rows_of q l) z among;
      others = λ k ne. all-weaker (λ (y : Row). y.number ≢ a) (λ (y : Row). row_link_of y.number ≢ row_link_of a) (rows_of q k) (λ y other. omega (arith, other))
          (others_numbered a k q.rows z s.sound.rows_apart found (λ e. ne (sym e ∙ own)));
      heads = λ k less ne. omega arith;
      new = λ r less none. let ne : a ≢ r = other_than q r a z none found in omega (arith, ne);
      place = λ e. omega (arith, drafted.place, ap (λ (m : ℕ). position_or_len (is_row a) (rows_of q m)) at, last_place t.words (slice_index t.words (head_of t.rows l)) a (rows_of q l) z among e (s.links l low));
      first = omega arith;
      depth = omega arith;
      tails = λ k less. omega arith;
      marks = λ k less. omega arith;
      bells = λ c k less lower. omega arith;
      states = λ r less. omega arith;
      drafted = λ r less w. omega (arith, draft_low r w, draft_high r w);
    }

pub node_facts : (t : Table) (q : Queue) (node : Node) (l : ℕ) → Stands t q → IsNode t node → list_of_node t node ≡ l → NodeFacts t q node l (link_of t.rows node)
node_facts t q (nodes.Head m) l s lt e = subst (λ (k : ℕ). NodeFacts t q (nodes.Head m) k (head_of t.rows m)) e (head_facts t q m s lt)
node_facts t q (nodes.Row a) l s linked e = let row = linked_row t q a s linked in row_facts t q a l row.0 s row.1 e

-- the new row
abbrev new_row : Table → ℕ → List ℕ → List ℕ → ℕ → Row
new_row t r content origin n = record { number = r; slip = slip_in t r; state = Available; content = content; origin = origin; count = n }

-- the act has a step
can_enqueue : (t : Table) (q : Queue) (h r : ℕ) (node : Node) (content origin : List ℕ) (n : ℕ) → Stands t q → FitsLink t h r node → Can q h (enqueue_with t r content origin n)
can_enqueue t q h r node content origin n s fits = record {
  new = not_linked t q h r s fits.drawn.drawer;
  fits = record {
    size = fits.behind.size;
    list = omega (arith, fits.behind.list, (node_facts t q node (list_of_node t node) s fits.node refl).low, s.shaped.lists);
    mask = subst (λ (n : ℕ). mask_in t r < 2 ^ n) s.shaped.consumers fits.behind.mask;
  };
  reserved = subst (λ (v : Reservation). CanGive v (size_in t r)) (sym (s.reserved h)) fits.behind.reserved;
}

-- The row r of caller h is linked behind a node of its list whose link, the word i, is empty.
module _ (t : Table) (q : Queue) (h r : ℕ) (node : Node) (content origin : List ℕ) (n : ℕ) (s : Stands t q) (fits : FitsLink t h r node) (i : ℕ) (facts : NodeFacts t q node (list_in t r) i) (empty : slice_index t.words i ≡ 0) where
  can : Can q h (enqueue_with t r content origin n)
  can = can_enqueue t q h r node content origin n s fits

  none : row_at q r ≡ None
  none = not_linked t q h r s fits.drawn.drawer

  there : row_at (acted q h (enqueue_with t r content origin n)) r ≡ Some (new_row t r content origin n)
  there = own_enqueued q h r (slip_in t r) content origin n can

  -- a row afterwards is the new one, or one from before
  row_found : (k : ℕ) (y : Row) → row_at (acted q h (enqueue_with t r content origin n)) k ≡ Some y → ((k ≡ r) × (y ≡ new_row t r content origin n)) ⊎ ((k ≢ r) × (row_at q k ≡ Some y))
  row_found k y e = ⊎_elim
      (λ (same : k ≡ r).
      let both : Some y ≡ Some (new_row t r content origin n) = sym e ∙ ap (row_at (acted q h (enqueue_with t r content origin n))) same ∙ there in inl (same, cc))
      (λ (other : k ≢ r). inr (other, sym (row_push_other k q.rows (new_row t r content origin n) (λ back. other (sym back))) ∙ e))
      (cases_eq k r)

  -- a row from before is still there
  row_kept : (k : ℕ) (y : Row) → row_at q k ≡ Some y → row_at (acted q h (enqueue_with t r content origin n)) k ≡ Some y
  row_kept k y e = find-append (is_row k) q.rows (new_row t r content origin n ∷ []) y e

  -- a number that is free afterwards was free, and is not the new row's
  none_kept : (k : ℕ) → row_at (acted q h (enqueue_with t r content origin n)) k ≡ None → (k ≢ r) × (row_at q k ≡ None)
  none_kept k e = ((λ same. let bad : None ≡ Some (new_row t r content origin n) = sym e ∙ ap (row_at (acted q h (enqueue_with t r content origin n))) same ∙ there in absurd (cc)), new_step q h (enqueue_with t r content origin n) k e)

  low : AreLow t.rows (acted q h (enqueue_with t r content origin n))
  low k y e = ⊎_elim
      (λ (p : (k ≡ r) × (y ≡ new_row t r content origin n)). let same = p.0 in let inside : r < t.rows = fits.drawn.row in omega (arith, same))
      (λ (p : (k ≢ r) × (row_at q k ≡ Some y)). stands_low t q s k y p.1)
      (row_found k y e)

  states_linked : States (slice_set t.words i (suc r)) (acted q h (enqueue_with t r content origin n))
  states_linked k y e = ⊎_elim
      (λ (p : (k ≡ r) × (y ≡ new_row t r content origin n)).
      set_else t.words i (suc r) (state_of k) (facts.states k (low k y e)) ∙ ap (λ (n : ℕ). slice_index t.words (state_of n)) p.0 ∙ s.draws.unset r fits.drawn.row none ∙ ap (λ (z : Row). pack_state z.state) (sym p.1))
      (λ (p : (k ≢ r) × (row_at q k ≡ Some y)). set_else t.words i (suc r) (state_of k) (facts.states k (low k y e)) ∙ s.states k y p.1)
      (row_found k y e)

  -- the draft words of the new row tell its slip, and its place at the end of its list
  drafted_new : IsDrafted (slice_set t.words i (suc r)) r (place_at (acted q h (enqueue_with t r content origin n)) r) (slip_in t r)
  drafted_new = record {
    mask = set_else t.words i (suc r) (draft_of r drafts.Mask) (facts.drafted r fits.drawn.row drafts.Mask);
    place = set_else t.words i (suc r) (draft_of r drafts.Place) (facts.drafted r fits.drawn.row drafts.Place) ∙ fits.behind.place ∙ facts.place empty ∙ sym (own_enqueued_last q h r (slip_in t r) content origin n can);
    ident = set_else t.words i (suc r) (draft_of r drafts.Ident) (facts.drafted r fits.drawn.row drafts.Ident);
    size = set_else t.words i (suc r) (draft_of r drafts.Size) (facts.drafted r fits.drawn.row drafts.Size);
    list = set_else t.words i (suc r) (draft_of r drafts.List) (facts.drafted r fits.drawn.row drafts.List);
    key = refl;
  }

  drafts_linked : Drafts (slice_set t.words i (suc r)) (acted q h (enqueue_with t r content origin n))
  drafts_linked k y e = ⊎_elim
      (λ (p : (k ≡ r) × (y ≡ new_row t r content origin n)).
      subst (λ (m : ℕ). IsDrafted (slice_set t.words i (suc r)) m (place_at (acted q h (enqueue_with t r content origin n)) m) y.slip) (sym p.0)
      (subst (λ (z : Row). IsDrafted (slice_set t.words i (suc r)) r (place_at (acted q h (enqueue_with t r content origin n)) r) z.slip) (sym p.1) drafted_new))
      (λ (p : (k ≢ r) × (row_at q k ≡ Some y)).
      subst (λ (m : ℕ). IsDrafted (slice_set t.words i (suc r)) k m y.slip) (sym (place_step q h (enqueue_with t r content origin n) k y p.1))
      (drafts_else t.rows t.words i (suc r) q (λ m z found w. facts.drafted m (stands_low t q s m z found) w) s.drafted k y p.1))
      (row_found k y e)

  -- the list of the new row ends with it
  longer : (l : ℕ) → l ≡ list_in t r → rows_of (acted q h (enqueue_with t r content origin n)) l ≡ rows_of q l ++ new_row t r content origin n ∷ []
  longer l e = filter-append (is_of_list l) q.rows (new_row t r content origin n ∷ []) ∙ ap (λ (ys : List Row). rows_of q l ++ ys) (cond-true (is_of_list l (new_row t r content origin n)) (new_row t r content origin n ∷ []) [] (eq-eqb (list_in t r) l (sym e)))

  -- and no other list changes
  as_long : (l : ℕ) → l ≢ list_in t r → rows_of (acted q h (enqueue_with t r content origin n)) l ≡ rows_of q l
  as_long l ne =
      filter-append (is_of_list l) q.rows (new_row t r content origin n ∷ []) ∙ ap (λ (ys : List Row). rows_of q l ++ ys) (cond-false (is_of_list l (new_row t r content origin n)) (new_row t r content origin n ∷ []) [] (ne_eqb (list_in t r) l (λ e. ne (sym e))))
      ∙ append-nil (rows_of q l)

  links_linked : Links t.rows t.lists (slice_set t.words i (suc r)) (acted q h (enqueue_with t r content origin n))
  links_linked l lt = ⊎_elim
      (λ (e : l ≡ list_in t r).
      subst (λ (rows : List Row). Chain (slice_set t.words i (suc r)) (slice_index (slice_set t.words i (suc r)) (head_of t.rows l)) rows) (sym (longer l e))
      (chain_more t.words i (head_of t.rows l) (rows_of q l) (new_row t r content origin n) facts.long empty (s.draws.unlinked r fits.drawn.row none) (facts.new r fits.drawn.row none)
      (subst (λ (m : ℕ). Among i (head_of t.rows m) (rows_of q m)) (sym e) facts.among) (s.links l lt)))
      (λ (ne : l ≢ list_in t r).
      subst (λ (rows : List Row). Chain (slice_set t.words i (suc r)) (slice_index (slice_set t.words i (suc r)) (head_of t.rows l)) rows) (sym (as_long l ne))
      (subst (λ (w : ℕ). Chain (slice_set t.words i (suc r)) w (rows_of q l)) (sym (set_else t.words i (suc r) (head_of t.rows l) (facts.heads l lt ne)))
      (chain_else t.rows t.words i (suc r) (slice_index t.words (head_of t.rows l)) (rows_of q l) (facts.others l ne) (s.links l lt))))
      (cases_eq l (list_in t r))

  -- a row that stands in a list still does
  in_list_linked : (l k : ℕ) → StandsIn (row_at q) l k → StandsIn (row_at (acted q h (enqueue_with t r content origin n))) l k
  in_list_linked l k stands = record { row = stands.row; found = row_kept k stands.row stands.found; list = stands.list }

  tails_linked : (words : List ℕ) → Tails t.rows t.lists words q → Tails t.rows t.lists words (acted q h (enqueue_with t r content origin n))
  tails_linked words tails l lt = ⊎_elim (λ (e : slice_index words (tail_of t.rows l) ≡ 0). inl e)
      (λ (p : (k : ℕ) × StandsIn (row_at q) l k × (slice_index words (tail_of t.rows l) ≡ suc k)). inr (p.0, in_list_linked l p.0 p.1, p.2))
      (tails l lt)

  marks_linked : (words : List ℕ) → Marks t.rows t.lists words q → Marks t.rows t.lists words (acted q h (enqueue_with t r content origin n))
  marks_linked words marks l lt = ⊎_elim (λ (e : slice_index words (mark_of t.rows l) ≡ 0). inl e)
      (λ (p : (k : ℕ) × StandsIn (row_at q) l k × (slice_index words (mark_of t.rows l) ≡ place_at q k)).
      inr (p.0, in_list_linked l p.0 p.1, p.2 ∙ sym (place_step q h (enqueue_with t r content origin n) p.0 p.1.row p.1.found)))
      (marks l lt)

  draws_linked : Draws t.rows (slice_set t.words i (suc r)) (but t.drawer r None) (row_at (acted q h (enqueue_with t r content origin n)))
  draws_linked =
      let same : slice_index (slice_set t.words i (suc r)) TOP ≡ slice_index t.words TOP = set_else t.words i (suc r) TOP facts.first in
      let below : r < slice_index t.words TOP = s.draws.low r h fits.drawn.drawer in record {
        top = omega (arith, same, s.draws.top);
        below = λ k y e. ⊎_elim
            (λ (p : (k ≡ r) × (y ≡ new_row t r content origin n)). let e = p.0 in omega (arith, same, below))
            (λ (p : (k ≢ r) × (row_at q k ≡ Some y)). omega (arith, same, s.draws.below k y p.1))
            (row_found k y e);
        free = λ k y e. ⊎_elim
            (λ (p : (k ≡ r) × (y ≡ new_row t r content origin n)). subst (λ (n : ℕ). but t.drawer r None n ≡ None) (sym p.0) (but_here t.drawer r None))
            (λ (p : (k ≢ r) × (row_at q k ≡ Some y)). but_else t.drawer r None k p.0 ∙ s.draws.free k y p.1)
            (row_found k y e);
        drawn = λ k free lt. let p = none_kept k free in subst IsSome (sym (but_else t.drawer r None k p.0)) (s.draws.drawn k p.1 (omega (arith, same)));
        low = λ k m e. ⊎_elim
            (λ (here : k ≡ r). omega (arith, same, below))
            (λ (ne : k ≢ r). omega (arith, same, s.draws.low k m (sym (but_else t.drawer r None k ne) ∙ e)))
            (cases_eq k r);
        unset = λ k lt free. let p = none_kept k free in set_else t.words i (suc r) (state_of k) (facts.states k lt) ∙ s.draws.unset k lt p.1;
        unlinked = λ k lt free. let p = none_kept k free in set_else t.words i (suc r) (row_link_of k) (facts.new k lt p.1) ∙ s.draws.unlinked k lt p.1;
      }

  linked : (u : Table) → u ≡ record t { words = slice_set t.words i (suc r); drawer = but t.drawer r None; reserved = but t.reserved h (with_less (t.reserved h) (size_in t r)) }
      → Stands u (acted q h (enqueue_with t r content origin n))
  linked u is = let same = depth_kept q h (enqueue_with t r content origin n) can tt in subst (λ (w : Table). Stands w (acted q h (enqueue_with t r content origin n))) (sym is) (record {
    sound = sound_step q h (enqueue_with t r content origin n) can s.sound;
    shaped = let shape = shaped_set t q i (suc r) t.drawer t.reserved s.shaped in
        record { lists = shape.lists; consumers = shape.consumers; few_consumers = shape.few_consumers; few_rows = shape.few_rows; few_callers = shape.few_callers; long = shape.long };
    states = states_linked;
    drafted = drafts_linked;
    links = links_linked;
    tails = tails_linked (slice_set t.words i (suc r)) (tails_else t.rows t.words i (suc r) t.lists q facts.tails s.tails);
    marks = marks_linked (slice_set t.words i (suc r)) (marks_else t.rows t.words i (suc r) t.lists q facts.marks s.marks);
    bells = bells_else t.rows t.words i (suc r) t.consumers t.lists q facts.bells s.bells;
    rung = bells_ring_step q h (enqueue_with t r content origin n) can s.rung;
    depth = depth_else t.rows t.words i (suc r) q facts.depth s.depth ∙ ap₂ pack_depth (sym same.0) (sym same.1);
    draws = draws_linked;
    reserved = reserved_after_act t q h (enqueue_with t r content origin n) (with_less (t.reserved h) (size_in t r)) s.reserved
        (own_giving q h (size_in t r) s.sound can.reserved ∙ ap (λ (v : Reservation). with_less v (size_in t r)) (s.reserved h));
  })

-- a link behind a node whose link is empty
pub link_step : (t : Table) (q : Queue) (h r : ℕ) (node : Node) (content origin : List ℕ) (n : ℕ) → Stands t q → FitsLink t h r node → slice_index t.words (link_of t.rows node) ≡ 0
    → Can q h (enqueue_with t r content origin n) × Stands (changed_by t h (Link r node)) (acted q h (enqueue_with t r content origin n))
link_step t q h r node content origin n s fits empty =
    (can_enqueue t q h r node content origin n s fits, linked t q h r node content origin n s fits (link_of t.rows node) (node_facts t q node (list_in t r) s fits.node (sym fits.behind.list)) empty (changed_by t h (Link r node)) refl)
