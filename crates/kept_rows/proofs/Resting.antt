-- what is left of the rows, as the contracts of every queue see it
use Rattle.std.proofs.Common.{◌≡◌, ◌≢◌, ◌⊎◌, ◌↔◌, inl, inr, ℕ, ◌+◌, ◌<◌, ◌≤◌, Bool, true, false, Option, Some, None, List, [], ◌∷◌, ◌++◌, length, map, get_or, refl, sym, ap, ◌∙◌, subst, arith, zero, suc}
use Rattle.std.specs.List.{AllByRecursion}
use mathlib.Core.List.{Mem, mem-cons_self, mem-cons_of_mem}
use Rattle.queue_model.specs.declared.queues.Queue.{Queue}
use Rattle.queue_model.specs.declared.rows.Row.{Row}
use Rattle.queue_model.specs.declared.rows.RowState.TheVariants.{Deleted}
use Rattle.queue_model.specs.declared.rows.Slip.{Slip}
use Rattle.queue_model.specs.Order.{Precedes}
use Rattle.queue_model.specs.State.{row_at}
use Rattle.acts_core.specs.Kept.{Kept, Stands}
use Rattle.acts_core.specs.Rest.{Left, Marks, IsLeft, AreLeft, IsLive, InOrder, AreRests}
use Rattle.acts_core.specs.Sight.{order_of}
use Rattle.kept_rows.specs.Rows.{kind_by, kept_at, Comes}
use Rattle.kept_rows.specs.Resting.{IsLeftAt, IsLiveAt, RestsOf}
use Rattle.kept_rows.proofs.Keeping.{get_or_any}
use Rattle.kept_rows.proofs.Standing.{row_is, number_inside, state_is, slip_is, precedes, came_load, same_length}

blank_row : Row
blank_row = record { number = 0; slip = record { id = 0; size = 0; mask = 0; list = 0; key = None }; state = Deleted; content = []; origin = []; count = 0 }

-- what holds of each item by its place holds of each
all_of : (P : ℕ → Type 0) (rs : List ℕ) → ((i : ℕ) → i < length rs → P (get_or rs i 0)) → AllByRecursion P rs
all_of P [] each = tt
all_of P (r ∷ rs) each = (each 0 (omega arith), all_of P rs (λ i l. each (suc i) (omega arith)))

module _ (b : Bool) (k : Kept) (q : Queue) (st : Stands k q) (marks : ℕ → Bool) where
  abbrev row_of : ℕ → Row
  row_of r = get_or q.rows r blank_row

  record Placed (r : ℕ) : Type 0 where
    found : row_at q r ≡ Some (row_of r)
    number : (row_of r).number ≡ r

  placed : (r : ℕ) → r < length k.rows → Placed r
  placed r l =
      let x = row_is k q st r l in
      let same : x.row ≡ row_of r = x.at ∙ get_or_any q.rows r x.row blank_row (let n = same_length k q st in omega arith) in
      record { found = subst (λ (z : Row). row_at q r ≡ Some z) same x.found; number = subst (λ (z : Row). z.number ≡ r) same x.number }

  here : (r : ℕ) → r < length k.rows → row_at q (row_of r).number ≡ Some (row_of r)
  here r l = let p = placed r l in subst (λ (n : ℕ). row_at q n ≡ Some (row_of r)) (sym p.number) p.found

  left_one : ((r : ℕ) → r < length k.rows → Marks (kind_by b) q r (marks r)) → (e : Left) (r : ℕ) → r < length k.rows → IsLeftAt k marks e r → IsLeft (kind_by b) q e (row_of r)
  left_one marked e r l left =
      let p = placed r l in record {
        slip = left.slip ∙ sym (slip_is k q st r (row_of r) p.found);
        state = left.state ∙ sym (state_is k q st r (row_of r) p.found);
        same = came_load k q st r (row_of r) e.load p.found left.load;
        marks = subst (λ (z : ℕ × Bool). Marks (kind_by b) q z.0 z.1) (λ i. (sym p.number i, sym left.outdated i)) (marked r l);
      }

  all_left : ((r : ℕ) → r < length k.rows → Marks (kind_by b) q r (marks r)) → (es : List Left) (rs : List ℕ) → AllByRecursion (IsLiveAt k) rs → length es ≡ length rs → ((i : ℕ) (e : Left) → i < length rs → e ≡ get_or es i e → IsLeftAt k marks e (get_or rs i 0)) → AreLeft (kind_by b) q es (map row_of rs)
  all_left marked [] [] live long left = tt
  all_left marked [] (r ∷ rs) live long left = absurd (omega arith)
  all_left marked (e ∷ es) [] live long left = absurd (omega arith)
  all_left marked (e ∷ es) (r ∷ rs) live long left = (left_one marked e r live.0.inside (left 0 e (omega arith) refl), all_left marked es rs live.1 (omega arith) (λ i f l at. left (suc i) f (omega arith) at))

  all_live : (rs : List ℕ) → AllByRecursion (IsLiveAt k) rs → AllByRecursion (IsLive q) (map row_of rs)
  all_live [] live = tt
  all_live (r ∷ rs) live =
      let p = placed r live.0.inside in
      (record { there = here r live.0.inside; live = λ gone. live.0.live (sym (state_is k q st r (row_of r) p.found) ∙ gone) }, all_live rs live.1)

  mem_row : (rs : List ℕ) (i : ℕ) → i < length rs → Mem (row_of (get_or rs i 0)) (map row_of rs)
  mem_row [] i l = absurd (omega arith)
  mem_row (r ∷ rs) zero l = mem-cons_self
  mem_row (r ∷ rs) (suc i) l = mem-cons_of_mem (row_of r) (mem_row rs i (omega arith))

  comes_before : (r s : ℕ) → r < length k.rows → s < length k.rows → Comes b k r s → Precedes (order_of (kind_by b)) q (row_of r) (row_of s)
  comes_before r s lr ls c =
      let pr = placed r lr in let ps = placed s ls in
      precedes k q st b (row_of r) (row_of s) (here r lr) (here s ls) (subst (λ (z : ℕ × ℕ). Comes b k z.0 z.1) (λ i. (sym pr.number i, sym ps.number i)) c)

  all_behind : (r : ℕ) (rs : List ℕ) → r < length k.rows → AllByRecursion (IsLiveAt k) rs → ((j : ℕ) → j < length rs → Comes b k r (get_or rs j 0)) → AllByRecursion (λ y. Precedes (order_of (kind_by b)) q (row_of r) y) (map row_of rs)
  all_behind r [] l live behind = tt
  all_behind r (s ∷ rs) l live behind = (comes_before r s l live.0.inside (behind 0 (omega arith)), all_behind r rs l live.1 (λ j m. behind (suc j) (omega arith)))

  in_order : (rs : List ℕ) → AllByRecursion (IsLiveAt k) rs → ((i j : ℕ) → i < j → j < length rs → Comes b k (get_or rs i 0) (get_or rs j 0)) → InOrder (kind_by b) q (map row_of rs)
  in_order [] live ordered = tt
  in_order (r ∷ rs) live ordered = (
    all_behind r rs live.0.inside live.1 (λ j l. ordered 0 (suc j) (omega arith) (omega arith)),
    in_order rs live.1 (λ i j l m. ordered (suc i) (suc j) (omega arith) (omega arith)),
  )

  pub are_rests : (es : List Left) → RestsOf b k marks es → ((r : ℕ) → r < length k.rows → Marks (kind_by b) q r (marks r)) → AreRests (kind_by b) q es
  are_rests es rest marked =
      let live = all_of (IsLiveAt k) rest.rows rest.each in record {
        rows = map row_of rest.rows;
        left = all_left marked es rest.rows live rest.long rest.left;
        live = all_live rest.rows live;
        whole = λ x is.
            let l = number_inside k q st x.number x is.there in
            let w = rest.whole x.number (record { inside = l; live = λ gone. is.live (state_is k q st x.number x is.there ∙ gone) }) in
            let p = placed x.number l in
            let one : row_of x.number ≡ x = (let z : Some (row_of x.number) ≡ Some x = sym p.found ∙ is.there in cc) in
            subst (λ (y : Row). Mem y (map row_of rest.rows)) (ap row_of w.2 ∙ one) (mem_row rest.rows w.0 w.1);
        ordered = in_order rest.rows live rest.ordered;
      }
