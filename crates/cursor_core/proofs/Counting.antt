-- the rows of a list, later
use Rattle.std.proofs.Common.{◌≡◌, ℕ, zero, suc, ◌+◌, ◌-◌, ◌≤◌, Bool, true, false, cond, List, [], ◌∷◌, ◌++◌, length, filter, option_map, slice_index, refl, ap, ◌∙◌, subst, length-append, arith}
use Rattle.std.proofs.lemmas.List.Elements.{filter-append}
use mathlib.Core.List.{IsPrefix}
use Rattle.queue_model.specs.declared.deeds.Act.{Act}
use Rattle.queue_model.specs.declared.deeds.Act.TheVariants.{Acq, Lock, Unlock, Steal, Rel, Deq, Del, Reserve, GiveBack, Enq, Bell, Take}
use Rattle.queue_model.specs.declared.deeds.Deed.{Deed}
use Rattle.queue_model.specs.declared.queues.Queue.{Queue}
use Rattle.queue_model.specs.declared.rows.Row.{Row}
use Rattle.queue_model.specs.declared.rows.RowState.TheVariants.{Available, Locked, Unlocked, Dequeued, Deleted}
use Rattle.queue_model.specs.History.{after, deed}
use Rattle.queue_model.specs.Keyed.{alter}
use Rattle.queue_model.specs.State.{is_row, is_of_list, rows_of}
use Rattle.queue_model.specs.Table.{acted, changed, in_state, left_in}
use Rattle.queue_model.proofs.Prefixes.{prefix_trans}
use Rattle.acts_core.proofs.Sparing.{after_rest}
use Rattle.cursor_core.specs.Listing.{WalkedRows}
use Rattle.cursor_core.specs.Walking.{start_of}

-- a change that keeps a test keeps how many pass it
altered_length : (p s : Row → Bool) (f : Row → Row) (xs : List Row) → ((z : Row) → s (f z) ≡ s z) → length (filter s (alter p (option_map f) xs)) ≡ length (filter s xs)
altered_length p s f [] kept = refl
altered_length p s f (x ∷ xs) kept = elim (p x) as (λ b. length (filter s (cond b (f x ∷ xs) (x ∷ alter p (option_map f) xs))) ≡ length (filter s (x ∷ xs))) [
  | true ↦
      ap (λ (b : Bool). length (cond b (f x ∷ filter s xs) (filter s xs))) (kept x)
      ∙ elim (s x) as (λ b. length (cond b (f x ∷ filter s xs) (filter s xs)) ≡ length (cond b (x ∷ filter s xs) (filter s xs))) [ true ↦ refl | false ↦ refl ]
  | false ↦
      let rest = altered_length p s f xs kept in
      elim (s x) as (λ b. length (cond b (x ∷ filter s (alter p (option_map f) xs)) (filter s (alter p (option_map f) xs))) ≡ length (cond b (x ∷ filter s xs) (filter s xs))) [ true ↦ omega (arith, rest) | false ↦ rest ]
]

rows_changed : (q : Queue) (s l : ℕ) (f : Row → Row) → ((z : Row) → is_of_list l (f z) ≡ is_of_list l z) → length (rows_of q l) ≤ length (rows_of (changed q s f) l)
rows_changed q s l f kept = let same = altered_length (is_row s) (is_of_list l) f q.rows kept in omega (arith, same)

rows_step : (q : Queue) (h : ℕ) (a : Act) (l : ℕ) → length (rows_of q l) ≤ length (rows_of (acted q h a) l)
rows_step q h (Acq s) l = rows_changed q s l (in_state (Locked h)) (λ z. refl)
rows_step q h (Lock s) l = rows_changed q s l (in_state (Locked h)) (λ z. refl)
rows_step q h (Unlock s n) l = rows_changed q s l (left_in (Unlocked h) n) (λ z. refl)
rows_step q h (Steal s) l = rows_changed q s l (in_state (Locked h)) (λ z. refl)
rows_step q h (Rel s n) l = rows_changed q s l (left_in Available n) (λ z. refl)
rows_step q h (Deq s) l = rows_changed q s l (in_state Dequeued) (λ z. refl)
rows_step q h (Del s) l = rows_changed q s l (in_state Deleted) (λ z. refl)
rows_step q h (Reserve size) l = omega arith
rows_step q h (GiveBack size) l = omega arith
rows_step q h (Enq s slip content origin n) l =
    let y : Row = record { number = s; slip = slip; state = Available; content = content; origin = origin; count = n } in
    let all : length (rows_of (acted q h (Enq s slip content origin n)) l) ≡ length (rows_of q l) + length (filter (is_of_list l) (y ∷ [])) =
    ap length (filter-append (is_of_list l) q.rows (y ∷ [])) ∙ length-append (rows_of q l) (filter (is_of_list l) (y ∷ []))
    in omega (arith, all)
rows_step q h (Bell s c) l = omega arith
rows_step q h (Take c m) l = omega arith

rows_after : (q : Queue) (ds : List Deed) (l : ℕ) → length (rows_of q l) ≤ length (rows_of (after q ds) l)
rows_after q [] l = omega arith
rows_after q (d ∷ ds) l =
    let one = rows_step q d.caller d.act l in
    let rest = rows_after (acted q d.caller d.act) ds l in
    omega (arith, one, rest)

-- a list has no fewer rows later
pub rows_later : (o : Queue) (ds es : List Deed) (l : ℕ) → IsPrefix ds es → length (rows_of (after o ds) l) ≤ length (rows_of (after o es) l)
rows_later o ds es l p = subst (λ (q : Queue). length (rows_of (after o ds) l) ≤ length (rows_of q l)) (after_rest o ds es p) (rows_after (after o ds) p.0 l)

-- the rows that were walked are no fewer later
pub walked_later : (o : Queue) (h c : ℕ) (stops : List ℕ) (s0 ds es : List Deed) (l n rows : ℕ) → IsPrefix ds es → WalkedRows o h c stops s0 ds l n rows → (more : ℕ) × WalkedRows o h c stops s0 es l n more × (rows ≤ more)
walked_later o h c stops s0 ds es l zero rows p w = (0, refl, omega (arith, w))
walked_later o h c stops s0 ds es l (suc n) rows p w =
    let rest = walked_later o h c stops s0 ds es (suc l) n w.2.0 p w.2.1 in
    let many = rows_later o ds es l p in
    let sum = w.2.2 in
    let fewer = rest.2 in (
      length (rows_of (after o es) l) - start_of (after o w.0) c l (slice_index stops l) + rest.0,
      (w.0, record { later = w.1.later; early = prefix_trans (w.0 ++ deed h (Take c l) ∷ []) ds es w.1.early p }, (rest.0, rest.1, refl)),
      omega (arith, many, sum, fewer),
    )
