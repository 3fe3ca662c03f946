-- what a write of one word leaves as it is
use Rattle.std.proofs.Common.{◌≡◌, ◌≢◌, ◌⊎◌, ℕ, suc, ◌+◌, ◌<◌, ◌==◌, true, false, Option, Some, None, List, [], ◌∷◌, find, length, refl, sym, ◌∙◌, subst, ⊎_elim, eq-eqb, ne_eqb, get_or-set_same, get_or-set_other, arith}
use Rattle.std.specs.Prelude.{slice_index, slice_set}
use Rattle.std.specs.List.{AllByRecursion}
use Rattle.std.proofs.lemmas.Bool.{cases_Bool, cases_eq, cond-true, cond-false}
use Rattle.std.proofs.lemmas.List.{length-set}
use Rattle.queue_model.specs.declared.queues.Queue.{Queue}
use Rattle.queue_model.specs.declared.queues.Reservation.{Reservation}
use Rattle.queue_model.specs.declared.rows.Row.{Row}
use Rattle.queue_model.specs.declared.steps.DraftWord.{DraftWord}
use Rattle.queue_model.specs.declared.steps.DraftWord.TheVariants as drafts
use Rattle.queue_model.specs.State.{is_row, is_of_list, row_at, rows_of, place_at}
use Rattle.queue_model.proofs.KeyedLemmas.{find-here, find-past, all-filter, all-weaker}
use Rattle.link_core.specs.Layout.{row_link_of, state_of, draft_of, head_of, tail_of, mark_of, bell_of}
use Rattle.link_core.specs.declared.places.TheConstants.{TOP, DEPTH}
use Rattle.link_core.specs.Stands.{IsShaped, States, Drafts, Chain, Links, StandsIn, Tails, Marks, Bells, IsDepth, Draws, Stands}
use Rattle.link_core.specs.Table.{Table, but}

-- Functions that are changed at one number

pub but_here : {X : Type 0} (f : ℕ → X) (k : ℕ) (v : X) → but f k v k ≡ v
but_here f k v = cond-true (k == k) v (f k) (eq-eqb k k refl)

pub but_else : {X : Type 0} (f : ℕ → X) (k : ℕ) (v : X) (n : ℕ) → n ≢ k → but f k v n ≡ f n
but_else f k v n ne = cond-false (n == k) v (f n) (ne_eqb n k ne)

-- the same value again changes nothing
pub but_same : {X : Type 0} (f : ℕ → X) (k n : ℕ) → but f k (f k) n ≡ f n
but_same f k n = ⊎_elim
    (λ (e : n ≡ k). subst (λ (m : ℕ). but f k (f k) m ≡ f m) (sym e) (but_here f k (f k)))
    (λ (ne : n ≢ k). but_else f k (f k) n ne)
    (cases_eq n k)

-- Words

pub set_here : (words : List ℕ) (i v : ℕ) → i < length words → slice_index (slice_set words i v) i ≡ v
set_here words i v lt = get_or-set_same words i v 0 lt

pub set_else : (words : List ℕ) (i v j : ℕ) → j ≢ i → slice_index (slice_set words i v) j ≡ slice_index words j
set_else words i v j ne = get_or-set_other words i j v 0 ne

-- a draft word is among the words of its row
pub draft_low : (r : ℕ) (w : DraftWord) → state_of r < draft_of r w
draft_low r drafts.Mask = omega arith
draft_low r drafts.Place = omega arith
draft_low r drafts.Ident = omega arith
draft_low r drafts.Size = omega arith
draft_low r drafts.List = omega arith

pub draft_high : (r : ℕ) (w : DraftWord) → draft_of r w < row_link_of (r + 1)
draft_high r drafts.Mask = omega arith
draft_high r drafts.Place = omega arith
draft_high r drafts.Ident = omega arith
draft_high r drafts.Size = omega arith
draft_high r drafts.List = omega arith

-- Rows have low numbers

-- each row of the queue has a number below the number of rows that the table has
abbrev pub AreLow : ℕ → Queue → Type 0
AreLow rows q = (r : ℕ) (x : Row) → row_at q r ≡ Some x → r < rows

pub low_rows : (rows : ℕ) (words : List ℕ) (drawer : ℕ → Option ℕ) (q : Queue) → Draws rows words drawer (row_at q) → AreLow rows q
low_rows rows words drawer q draws r x found = omega (arith, draws.below r x found, draws.top)

pub stands_low : (t : Table) (q : Queue) → Stands t q → AreLow t.rows q
stands_low t q s = low_rows t.rows t.words t.drawer q s.draws

-- where each row that is found has a low number, all rows have
pub all_low : (n : ℕ) (xs : List Row) → ((r : ℕ) (x : Row) → find (is_row r) xs ≡ Some x → r < n) → AllByRecursion (λ y. y.number < n) xs
all_low n [] low = tt
all_low n (x ∷ xs) low = (
  low x.number x (find-here (is_row x.number) x xs (eq-eqb x.number x.number refl)),
  all_low n xs (λ r y e. ⊎_elim
      (λ (hit : is_row r x ≡ true). low r x (find-here (is_row r) x xs hit))
      (λ (miss : is_row r x ≡ false). low r y (find-past (is_row r) x xs miss ∙ e))
      (cases_Bool (is_row r x))),
)

-- a word that is no link of a row of the table is that of no row of a list
pub no_link : (rows i : ℕ) (q : Queue) (l : ℕ) → AreLow rows q → ((r : ℕ) → r < rows → row_link_of r ≢ i) → AllByRecursion (λ y. row_link_of y.number ≢ i) (rows_of q l)
no_link rows i q l low ne =
    all-filter (λ (y : Row). row_link_of y.number ≢ i) (is_of_list l) q.rows (all-weaker (λ (y : Row). y.number < rows) (λ (y : Row). row_link_of y.number ≢ i) q.rows (λ y less. ne y.number less) (all_low rows q.rows low))

-- Parts, where the word i of a table of so many rows is written

module _ (rows : ℕ) (words : List ℕ) (i v : ℕ) where
  pub states_else : (q : Queue) → AreLow rows q → ((r : ℕ) → r < rows → state_of r ≢ i) → States words q → States (slice_set words i v) q
  states_else q low ne states r x found = set_else words i v (state_of r) (ne r (low r x found)) ∙ states r x found

  pub drafts_else : (q : Queue) → ((r : ℕ) (x : Row) → row_at q r ≡ Some x → (w : DraftWord) → draft_of r w ≢ i) → Drafts words q → Drafts (slice_set words i v) q
  drafts_else q ne drafted r x found = let d = drafted r x found in record {
    mask = set_else words i v (draft_of r drafts.Mask) (ne r x found drafts.Mask) ∙ d.mask;
    place = set_else words i v (draft_of r drafts.Place) (ne r x found drafts.Place) ∙ d.place;
    ident = set_else words i v (draft_of r drafts.Ident) (ne r x found drafts.Ident) ∙ d.ident;
    size = set_else words i v (draft_of r drafts.Size) (ne r x found drafts.Size) ∙ d.size;
    list = set_else words i v (draft_of r drafts.List) (ne r x found drafts.List) ∙ d.list;
    key = d.key;
  }

  -- a chain is kept where no link of its rows is written
  pub chain_else : (w : ℕ) (xs : List Row) → AllByRecursion (λ y. row_link_of y.number ≢ i) xs → Chain words w xs → Chain (slice_set words i v) w xs
  chain_else w [] all chain = chain
  chain_else w (y ∷ ys) all chain = (
    chain.0,
    subst (λ (k : ℕ). Chain (slice_set words i v) k ys) (sym (set_else words i v (row_link_of y.number) all.0))
        (chain_else (slice_index words (row_link_of y.number)) ys all.1 chain.1),
  )

  pub links_else : (lists : ℕ) (q : Queue) → AreLow rows q → ((l : ℕ) → l < lists → head_of rows l ≢ i) → ((r : ℕ) → r < rows → row_link_of r ≢ i) → Links rows lists words q → Links rows lists (slice_set words i v) q
  links_else lists q low head row links l lt =
      subst (λ (k : ℕ). Chain (slice_set words i v) k (rows_of q l)) (sym (set_else words i v (head_of rows l) (head l lt)))
      (chain_else (slice_index words (head_of rows l)) (rows_of q l) (no_link rows i q l low row) (links l lt))

  pub tails_else : (lists : ℕ) (q : Queue) → ((l : ℕ) → l < lists → tail_of rows l ≢ i) → Tails rows lists words q → Tails rows lists (slice_set words i v) q
  tails_else lists q ne tails l lt =
      subst (λ (k : ℕ). (k ≡ 0) ⊎ ((r : ℕ) × StandsIn (row_at q) l r × (k ≡ suc r))) (sym (set_else words i v (tail_of rows l) (ne l lt))) (tails l lt)

  pub marks_else : (lists : ℕ) (q : Queue) → ((l : ℕ) → l < lists → mark_of rows l ≢ i) → Marks rows lists words q → Marks rows lists (slice_set words i v) q
  marks_else lists q ne marks l lt =
      subst (λ (k : ℕ). (k ≡ 0) ⊎ ((r : ℕ) × StandsIn (row_at q) l r × (k ≡ place_at q r))) (sym (set_else words i v (mark_of rows l) (ne l lt))) (marks l lt)

  pub bells_else : (consumers lists : ℕ) (q : Queue) → ((c l : ℕ) → c < consumers → l < lists → bell_of rows c l ≢ i) → Bells rows consumers lists words q → Bells rows consumers lists (slice_set words i v) q
  bells_else consumers lists q ne bells c l few lt = set_else words i v (bell_of rows c l) (ne c l few lt) ∙ bells c l few lt

  pub depth_else : (q : Queue) → DEPTH ≢ i → IsDepth words q → IsDepth (slice_set words i v) q
  depth_else q ne depth = set_else words i v DEPTH ne ∙ depth

  pub draws_else : (drawer : ℕ → Option ℕ) (q : Queue) → TOP ≢ i → ((r : ℕ) → r < rows → row_at q r ≡ None → state_of r ≢ i) → ((r : ℕ) → r < rows → row_at q r ≡ None → row_link_of r ≢ i)
      → Draws rows words drawer (row_at q) → Draws rows (slice_set words i v) drawer (row_at q)
  draws_else drawer q first state link draws =
      let same : slice_index (slice_set words i v) TOP ≡ slice_index words TOP = set_else words i v TOP first in record {
        top = omega (arith, same, draws.top);
        below = λ r x found. omega (arith, same, draws.below r x found);
        free = draws.free;
        drawn = λ r none lt. draws.drawn r none (omega (arith, same));
        low = λ r h e. omega (arith, same, draws.low r h e);
        unset = λ r lt none. set_else words i v (state_of r) (state r lt none) ∙ draws.unset r lt none;
        unlinked = λ r lt none. set_else words i v (row_link_of r) (link r lt none) ∙ draws.unlinked r lt none;
      }

-- a write keeps the shape
pub shaped_set : (t : Table) (q : Queue) (i v : ℕ) (drawer : ℕ → Option ℕ) (reserved : ℕ → Reservation) → IsShaped t q → IsShaped (record t { words = slice_set t.words i v; drawer = drawer; reserved = reserved }) q
shaped_set t q i v drawer reserved s = record {
  lists = s.lists;
  consumers = s.consumers;
  few_consumers = s.few_consumers;
  few_rows = s.few_rows;
  few_callers = s.few_callers;
  long = length-set t.words i v ∙ s.long;
}
