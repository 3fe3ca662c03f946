-- a fresh table stands for an empty queue
use Rattle.std.proofs.Common.{◌≡◌, inl, ℕ, zero, suc, ◌+◌, ◌-◌, ◌*◌, ◌<◌, ◌≤◌, List, [], ◌∷◌, ◌++◌, length, get_or, replicate, ⊎_elim, refl, ap, ◌∙◌, append-nil, append_assoc, length-append, arith, Option, None, subst, sym}
use Rattle.std.specs.Prelude.{slice_index}
use Rattle.std.proofs.lemmas.Bool.{cases_lt}
use Rattle.std.proofs.lemmas.List.{get_or_past, length-replicate, get_or-replicate, get_or_append_left, get_or-append_right}
use Rattle.queue_model.specs.Table.{most_entries}
use Rattle.queue_model.specs.Sound.{Sound}
use Rattle.queue_model.specs.State.{empty}
use Rattle.queue_model.proofs.SoundSteps.{sound_opening}
use Rattle.link_core.specs.Fresh.{blank_rows, empty_lists, fresh_words, fresh}
use Rattle.link_core.specs.Layout.{words_of, row_link_of, state_of, head_of, tail_of, mark_of, bell_of}
use Rattle.queue_model.specs.Packing.{no_bell}
use Rattle.link_core.specs.Stands.{Stands}
use Rattle.link_core.specs.declared.store.Store.{Store}
use Rattle.link_core.specs.Kept.{IsLong, IsKept, table_in}
use Rattle.link_core.specs.Table.{Table}
use Rattle.link_core.proofs.Stored.{listed}

-- Words of rows

blank_length : (n : ℕ) → length (blank_rows n) ≡ 7 * n
blank_length zero = refl
blank_length (suc n) = let e = blank_length n in omega (arith, e)

-- the words behind the first row
blank_behind : (n i : ℕ) → 7 ≤ i → get_or (blank_rows (suc n)) i 0 ≡ get_or (blank_rows n) (i - 7) 0
blank_behind n i le = get_or-append_right (0 ∷ 1 ∷ 0 ∷ 0 ∷ 0 ∷ 0 ∷ 0 ∷ []) (blank_rows n) 7 i 0 refl le

blank_link : (n r : ℕ) → r < n → get_or (blank_rows n) (7 * r) 0 ≡ 0
blank_link zero r lt = absurd (omega (arith, lt))
blank_link (suc n) zero lt = refl
blank_link (suc n) (suc r) lt =
    blank_behind n (7 * suc r) (omega arith) ∙ ap (λ (i : ℕ). get_or (blank_rows n) i 0) (let e : 7 * suc r - 7 ≡ 7 * r = omega arith in e) ∙ blank_link n r (omega (arith, lt))

blank_state : (n r : ℕ) → r < n → get_or (blank_rows n) (1 + 7 * r) 0 ≡ 1
blank_state zero r lt = absurd (omega (arith, lt))
blank_state (suc n) zero lt = refl
blank_state (suc n) (suc r) lt =
    blank_behind n (1 + 7 * suc r) (omega arith) ∙ ap (λ (i : ℕ). get_or (blank_rows n) i 0) (let e : 1 + 7 * suc r - 7 ≡ 1 + 7 * r = omega arith in e) ∙ blank_state n r (omega (arith, lt))

-- one row more
pub blank_more : (n : ℕ) → blank_rows n ++ 0 ∷ 1 ∷ 0 ∷ 0 ∷ 0 ∷ 0 ∷ 0 ∷ [] ≡ blank_rows (n + 1)
blank_more zero = refl
blank_more (suc n) = ap (λ (xs : List ℕ). 0 ∷ 1 ∷ 0 ∷ 0 ∷ 0 ∷ 0 ∷ 0 ∷ xs) (blank_more n) ∙ ap blank_rows (let e : suc (n + 1) ≡ suc n + 1 = omega arith in e)

-- Words of lists

-- the words of one list that has no row
abbrev empty_block : List ℕ
empty_block = 0 ∷ 0 ∷ 0 ∷ 0 ∷ replicate 64 no_bell

block_long : length empty_block ≡ 68
block_long = let e : length (replicate {A = ℕ} 64 no_bell) ≡ 64 = length-replicate 64 no_bell in omega (arith, e)

empty_length : (n : ℕ) → length (empty_lists n) ≡ 68 * n
empty_length zero = refl
empty_length (suc n) = length-append empty_block (empty_lists n) ∙ (let e = empty_length n in let b = block_long in omega (arith, e, b))

-- the word k of a list
list_word : (n l k : ℕ) → l < n → k < 68 → get_or (empty_lists n) (68 * l + k) 0 ≡ get_or empty_block k 0
list_word zero l k lt less = absurd (omega (arith, lt))
list_word (suc n) zero k lt less =
    ap (λ (i : ℕ). get_or (empty_lists (suc n)) i 0) (let e : 68 * 0 + k ≡ k = omega arith in e)
    ∙ get_or_append_left empty_block (empty_lists n) 0 k (let b = block_long in omega (arith, b, less))
list_word (suc n) (suc l) k lt less =
    get_or-append_right empty_block (empty_lists n) 68 (68 * suc l + k) 0 block_long (omega arith)
    ∙ ap (λ (i : ℕ). get_or (empty_lists n) i 0) (let e : 68 * suc l + k - 68 ≡ 68 * l + k = omega arith in e)
    ∙ list_word n l k (omega (arith, lt)) less

-- its bells
block_bell : (c : ℕ) → c < 64 → get_or empty_block (4 + c) 0 ≡ no_bell
block_bell c lt =
    get_or-append_right (0 ∷ 0 ∷ 0 ∷ 0 ∷ []) (replicate 64 no_bell) 4 (4 + c) 0 refl (omega arith)
    ∙ ap (λ (i : ℕ). get_or (replicate 64 no_bell) i 0) (let e : 4 + c - 4 ≡ c = omega arith in e)
    ∙ get_or-replicate 64 c no_bell 0 lt

-- one list more
pub empty_more : (n : ℕ) → empty_lists n ++ empty_block ≡ empty_lists (n + 1)
empty_more zero = sym (append-nil empty_block)
empty_more (suc n) =
    append_assoc empty_block (empty_lists n) empty_block
    ∙ ap (λ (xs : List ℕ). empty_block ++ xs) (empty_more n) ∙ ap empty_lists (let e : suc (n + 1) ≡ suc n + 1 = omega arith in e)

-- All words

module _ (callers rows lists : ℕ) where
  abbrev front : List ℕ
  front = 0 ∷ callers ∷ 0 ∷ []

  pub fresh_length : length (fresh_words callers rows lists) ≡ words_of rows lists
  fresh_length = let e = length-append (blank_rows rows) (empty_lists lists) in let a = blank_length rows in let b = empty_length lists in omega (arith, e, a, b)

  -- the words behind the first three
  behind : (i : ℕ) → slice_index (fresh_words callers rows lists) (3 + i) ≡ get_or (blank_rows rows ++ empty_lists lists) i 0
  behind i =
      get_or-append_right front (blank_rows rows ++ empty_lists lists) 3 (3 + i) 0 refl (omega arith)
      ∙ ap (λ (k : ℕ). get_or (blank_rows rows ++ empty_lists lists) k 0) (let e : 3 + i - 3 ≡ i = omega arith in e)

  row_word : (i : ℕ) → i < 7 * rows → slice_index (fresh_words callers rows lists) (3 + i) ≡ get_or (blank_rows rows) i 0
  row_word i lt = behind i ∙ get_or_append_left (blank_rows rows) (empty_lists lists) 0 i (let a = blank_length rows in omega (arith, a, lt))

  link_at : (r : ℕ) → r < rows → slice_index (fresh_words callers rows lists) (row_link_of r) ≡ 0
  link_at r lt = row_word (7 * r) (omega (arith, lt)) ∙ blank_link rows r lt

  state_at : (r : ℕ) → r < rows → slice_index (fresh_words callers rows lists) (state_of r) ≡ 1
  state_at r lt =
      ap (slice_index (fresh_words callers rows lists)) (let e : state_of r ≡ 3 + (1 + 7 * r) = omega arith in e)
      ∙ row_word (1 + 7 * r) (omega (arith, lt)) ∙ blank_state rows r lt

  -- the word k of list l, which stands at i
  word_at : (l k i : ℕ) → l < lists → k < 68 → i ≡ head_of rows l + k → slice_index (fresh_words callers rows lists) i ≡ get_or empty_block k 0
  word_at l k i lt less is =
      ap (slice_index (fresh_words callers rows lists)) (let e : i ≡ 3 + (7 * rows + (68 * l + k)) = omega (arith, is) in e)
      ∙ behind (7 * rows + (68 * l + k))
      ∙ get_or-append_right (blank_rows rows) (empty_lists lists) (7 * rows) (7 * rows + (68 * l + k)) 0 (blank_length rows) (omega arith)
      ∙ ap (λ (j : ℕ). get_or (empty_lists lists) j 0) (let e : 7 * rows + (68 * l + k) - 7 * rows ≡ 68 * l + k = omega arith in e)
      ∙ list_word lists l k lt less

-- an empty queue is sound
empty_sound : (lists consumers : ℕ) → Sound (empty lists consumers)
empty_sound lists consumers = sound_opening (empty lists consumers) (record { rows_apart = tt; rows_fit = tt; available = tt; reserved = refl; bells = refl; few = omega arith })

pub fresh_stands : (lists rows consumers callers : ℕ) → rows ≤ most_entries → consumers ≤ 64 → callers ≤ 4294967296 → Stands (fresh lists rows consumers callers) (empty lists consumers)
fresh_stands lists rows consumers callers few_rows few_consumers few_callers = record {
  sound = empty_sound lists consumers;
  shaped = record { lists = refl; consumers = refl; few_consumers = few_consumers; few_rows = few_rows; few_callers = few_callers; long = fresh_length callers rows lists };
  states = λ r x e. absurd (cc);
  drafted = λ r x e. absurd (cc);
  links = λ l lt. word_at callers rows lists l 0 (head_of rows l) lt (omega arith) (omega arith);
  tails = λ l lt. inl (word_at callers rows lists l 1 (tail_of rows l) lt (omega arith) (omega arith));
  marks = λ l lt. inl (word_at callers rows lists l 2 (mark_of rows l) lt (omega arith) (omega arith));
  bells = λ c l less lt. let few : c < 64 = omega (arith, less, few_consumers) in word_at callers rows lists l (4 + c) (bell_of rows c l) lt (omega (arith, few)) (omega arith) ∙ block_bell c few;
  rung = λ c l b e. absurd (cc);
  depth = refl;
  draws = record {
    top = omega arith;
    below = λ r x e. absurd (cc);
    free = λ r x e. refl;
    drawn = λ r e lt. absurd (omega (arith, lt));
    low = λ r h e. absurd (cc);
    unset = λ r lt e. state_at callers rows lists r lt;
    unlinked = λ r lt e. link_at callers rows lists r lt;
  };
  reserved = λ h. refl;
}

-- vectors that keep a fresh table
pub fresh_kept : (s : Store) (lists rows consumers callers : ℕ) → table_in s ≡ fresh lists rows consumers callers → IsLong s → rows ≤ most_entries → consumers ≤ 64 → callers ≤ 4294967296 → IsKept s
fresh_kept s lists rows consumers callers e long few_rows few_consumers few_callers = record {
  long = long;
  queue = empty lists consumers;
  stands = subst (λ (t : Table). Stands t (empty lists consumers)) (sym e) (fresh_stands lists rows consumers callers few_rows few_consumers few_callers);
}

-- copies of what stands past the end of a list
get_or-copies : {X : Type 0} (n i : ℕ) (d : X) → get_or (replicate n d) i d ≡ d
get_or-copies n i d = ⊎_elim (λ (lt : i < n). get_or-replicate n i d d lt) (λ (le : n ≤ i). get_or_past (replicate n d) i d (let e = length-replicate n d in omega (arith, e, le))) (cases_lt i n)

-- vectors of a fresh table
pub fresh_table : (lists rows consumers callers : ℕ) (words : List ℕ) (drawers : List (Option ℕ)) (entries bytes : List ℕ)
    → words ≡ fresh_words callers rows lists → drawers ≡ replicate rows None → entries ≡ replicate callers 0 → bytes ≡ replicate callers 0
    → listed rows lists consumers callers words drawers entries bytes ≡ fresh lists rows consumers callers
fresh_table lists rows consumers callers words drawers entries bytes we de ee be =
    let drawer : (k : ℕ) → get_or drawers k None ≡ None = λ k. ap (λ (ds : List (Option ℕ)). get_or ds k None) de ∙ get_or-copies rows k None in
    let entry : (k : ℕ) → get_or entries k 0 ≡ 0 = λ k. ap (λ (xs : List ℕ). get_or xs k 0) ee ∙ get_or-copies callers k 0 in
    let byte : (k : ℕ) → get_or bytes k 0 ≡ 0 = λ k. ap (λ (xs : List ℕ). get_or xs k 0) be ∙ get_or-copies callers k 0 in
    λ i. record { rows = rows; lists = lists; consumers = consumers; callers = callers; words = we i; drawer = λ k. drawer k i; reserved = λ k. record { holder = k; entries = entry k i; bytes = byte k i } }
