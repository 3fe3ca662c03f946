-- each call, from the answer of its search
use Rattle.std.proofs.Common.{◌≡◌, ℕ, ◌-◌, ◌<◌, ◌≤◌, Bool, true, ◌&&◌, ◌==◌, cond, List, length, get_or, set, refl, sym, ap, ◌∙◌, arith, Some, find}
use Rattle.std.specs.List.{position}
use Rattle.queue_model.specs.declared.rows.Row.{Row}
use Rattle.queue_model.specs.declared.rows.RowState.{RowState}
use Rattle.queue_model.specs.declared.rows.RowState.TheVariants.{Available, Locked, Deleted}
use Rattle.queue_model.specs.History.{Does}
use Rattle.queue_model.specs.State.{row_entries, row_bytes, counts}
use Rattle.queue_model.specs.Table.{in_state, left_in}
use Rattle.queue_model.proofs.Positions.{IsFirstAt, first_at, find_first}
use Rattle.plain_queue.specs.Calls.{take_acts, release_acts, ack_acts, is_available, is_locked_by}
use Rattle.plain_queue.specs.Rows.{one_list, Keeps}
use Rattle.plain_queue.proofs.Doings.{take_does, release_does, ack_does, keeps_changed, keeps_deleted, counted_row, available_is, locked_is, both_first}

-- what a search found: the first row that passes, as it stands at the index
pub record Found (p : Row → Bool) (rows : List Row) (i : ℕ) (x : Row) : Type 0 where
  pub inside : i < length rows
  pub passes : p x ≡ true
  pub first : find p rows ≡ Some x

pub found : (p : Row → Bool) (rows : List Row) (i : ℕ) (x : Row) → position p rows ≡ Some i → x ≡ get_or rows i x → Found p rows i x
found p rows i x at here =
    let f : IsFirstAt p rows i x = first_at p rows i x at in
    record { inside = f.inside; passes = ap p here ∙ f.passes; first = find_first p rows i x f ∙ ap Some (sym here) }

abbrev pub available_row : Row → Bool
available_row x = is_available x.state

abbrev pub row_held : ℕ → ℕ → Row → Bool
row_held h id x = is_locked_by h x.state && (x.slip.id == id)

entries_of : (x : Row) (s : RowState) (n : ℕ) → x.state ≡ s → cond (counts s) 1 0 ≡ n → row_entries x ≡ n
entries_of x s n e c = ap (λ t. cond (counts t) 1 0) e ∙ c

bytes_of : (x : Row) (s : RowState) (n : ℕ) → x.state ≡ s → cond (counts s) x.slip.size 0 ≡ n → row_bytes x ≡ n
bytes_of x s n e c = ap (λ t. cond (counts t) x.slip.size 0) e ∙ c

module _ (rows : List Row) (n b i h : ℕ) (x : Row) (k : Keeps rows n b) (here : x ≡ get_or rows i x) where
  pub took : position available_row rows ≡ Some i → (Keeps (set rows i (in_state (Locked h) x)) n b) × (find available_row rows ≡ Some x) × Does (one_list rows) h (take_acts x) (one_list (set rows i (in_state (Locked h) x)))
  took at =
      let f = found available_row rows i x at here in
      let s : x.state ≡ Available = available_is x.state f.passes in
      let d = take_does rows i x h k.numbered f.inside here s in
      (keeps_changed rows n b i h x (in_state (Locked h) x) (take_acts x) k f.inside here refl (sym (entries_of x Available 1 s refl)) (sym (bytes_of x Available x.slip.size s refl)) d, f.first, d)

  held_state : (id : ℕ) → Found (row_held h id) rows i x → x.state ≡ Locked h
  held_state id f = locked_is h x.state (both_first _ _ f.passes)

  pub released : (id : ℕ) → position (row_held h id) rows ≡ Some i → (Keeps (set rows i (left_in Available 0 x)) n b) × (find (row_held h id) rows ≡ Some x) × Does (one_list rows) h (release_acts x) (one_list (set rows i (left_in Available 0 x)))
  released id at =
      let f = found (row_held h id) rows i x at here in
      let s = held_state id f in
      let d = release_does rows i x h k.numbered f.inside here s in
      (keeps_changed rows n b i h x (left_in Available 0 x) (release_acts x) k f.inside here refl (sym (entries_of x (Locked h) 1 s refl)) (sym (bytes_of x (Locked h) x.slip.size s refl)) d, f.first, d)

  pub acked : (id : ℕ) → position (row_held h id) rows ≡ Some i → (Keeps (set rows i (in_state Deleted x)) (n - 1) (b - x.slip.size)) × (find (row_held h id) rows ≡ Some x) × Does (one_list rows) h (ack_acts x) (one_list (set rows i (in_state Deleted x)))
  acked id at =
      let f = found (row_held h id) rows i x at here in
      let s = held_state id f in
      (keeps_deleted rows n b i h x k f.inside here s, f.first, ack_does rows i x h k.numbered f.inside here s)

  -- a held row is within the counters
  pub within : (id : ℕ) → position (row_held h id) rows ≡ Some i → (1 ≤ n) × (x.slip.size ≤ b)
  within id at =
      let f = found (row_held h id) rows i x at here in
      let s = held_state id f in
      let c = counted_row rows n b i x k f.inside here in
      (omega (arith, entries_of x (Locked h) 1 s refl, c.0), omega (arith, bytes_of x (Locked h) x.slip.size s refl, c.1))
