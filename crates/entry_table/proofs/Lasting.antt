-- rows that are deleted stay deleted, and no row comes between others
use Rattle.std.proofs.Common.{◌≡◌, ℕ, zero, suc, ◌+◌, ◌<◌, ◌≤◌, Option, Some, None, List, [], ◌∷◌, find, length, refl, sym, ap, ◌∙◌, subst, eq-eqb, arith}
use Rattle.std.specs.List.{position_or_len}
use Rattle.queue_model.specs.declared.deeds.Deed.{Deed}
use Rattle.queue_model.specs.declared.queues.Queue.{Queue}
use Rattle.queue_model.specs.declared.rows.Row.{Row}
use Rattle.queue_model.specs.declared.rows.RowState.{RowState}
use Rattle.queue_model.specs.declared.rows.RowState.TheVariants.{Deleted}
use Rattle.queue_model.specs.declared.rows.Slip.{Slip}
use Rattle.queue_model.specs.History.{after, Legal}
use Rattle.queue_model.specs.Keyed.{Apart}
use Rattle.queue_model.specs.Sound.{same_number}
use Rattle.queue_model.specs.State.{is_row, is_of_list, row_at, rows_of, place_at, IsIn}
use Rattle.queue_model.proofs.KeyedLemmas.{find-here, apart-filter, position-here}
use Rattle.queue_model.proofs.Orders.{place_same}
use Rattle.queue_model.proofs.Stable.{row_stays, place_stays, deleted_stays}
use Rattle.link_core.proofs.InLists.{found_there, row_of_list}
use Rattle.link_core.proofs.Skipping.{find_behind, place_behind_first}
use Rattle.acts_core.specs.Walks.{AreDeleted}
use Rattle.link_core.proofs.Fewer.{position_in}

-- at each place there is a row
row_placed : (rows : List Row) (i : ℕ) → Apart same_number rows → i < length rows → (z : Row) × (find (is_row z.number) rows ≡ Some z) × (position_or_len (is_row z.number) rows ≡ i)
row_placed [] i apart low = absurd (omega (arith, low))
row_placed (x ∷ xs) zero apart low = let self = eq-eqb x.number x.number refl in (x, find-here (is_row x.number) x xs self, position-here (is_row x.number) x xs self)
row_placed (x ∷ xs) (suc i) apart low =
    let t = row_placed xs i apart.1 (omega (arith, low)) in
    let far = place_behind_first t.0.number x xs t.0 apart t.1 in
    let near = t.2 in
    (t.0, find_behind t.0.number x xs t.0 apart t.1, omega (arith, far, near))

-- at each place before that of a row of list l there is a row of the list
row_before : (q : Queue) (l r i : ℕ) (y : Row) → Apart same_number q.rows → row_at q r ≡ Some y → y.slip.list ≡ l → i < place_at q r → (z : Row) × (row_at q z.number ≡ Some z) × (z.slip.list ≡ l) × (place_at q z.number ≡ i)
row_before q l r i y apart found list low =
    let there = found_there q l r y found list in
    let inside = position_in (is_row r) (rows_of q l) y there.0 in
    let t = row_placed (rows_of q l) i (apart-filter same_number (is_of_list l) q.rows apart) (omega (arith, there.1, inside, low)) in
    let mine = row_of_list l t.0.number q.rows t.0 apart t.1 in
    let here = found_there q l t.0.number t.0 mine.0 mine.1 in
    (t.0, mine.0, mine.1, here.1 ∙ t.2)

-- The rows of list l from a place on, before row r, are deleted. So they are later, and there are no others.
pub deleted_later : (q : Queue) (ds : List Deed) (l n r : ℕ) (y : Row) → Apart same_number q.rows → Legal q ds → row_at q r ≡ Some y → y.slip.list ≡ l → AreDeleted q l n (place_at q r) → AreDeleted (after q ds) l n (place_at q r)
deleted_later q ds l n r y apart legal found list gone e x there same low high =
    let z = row_before q l r (place_at (after q ds) e) y apart found list high in
    let place = z.3 in
    let was : z.0.state ≡ Deleted = gone z.0.number z.0 z.1 z.2 (omega (arith, place, low)) (omega (arith, place, high)) in
    let now = deleted_stays q ds z.0.number legal (z.0, z.1, was) in
    let stays = row_stays q ds z.0.number z.0 z.1 in
    let still = place_stays q ds z.0.number z.0 z.1 in
    let one : x ≡ stays.0 = place_same (after q ds) e z.0.number x stays.0 there stays.1 (same ∙ sym (ap (λ (s : Slip). s.list) stays.2.slip ∙ z.2)) (sym place ∙ sym still) in
    let both : Some now.0 ≡ Some stays.0 = sym now.1 ∙ stays.1 in
    let two : now.0 ≡ stays.0 = cc in
    ap (λ (w : Row). w.state) (one ∙ sym two) ∙ now.2
