-- the search for a row by its id
use Rattle.std.proofs.Common.{◌≡◌, ◌≢◌, ◌⊎◌, inl, inr, ℕ, ◌+◌, ◌-◌, ◌<◌, ◌≤◌, Bool, Option, Some, None, List, length, get_or, refl, sym, ap, ◌∙◌, subst, ⊎_elim, arith, zero, suc}
use mathlib.Core.Logic.{dite}
use native.Mathlib.Decide.{ℕ_discrete, dec_lt}
use Rattle.queue_model.specs.declared.queues.Depth.{Depth}
use Rattle.queue_model.specs.declared.rows.Slip.{Slip}
use Rattle.row_order.specs.declared.slots.Slot.{Slot}
use Rattle.row_order.specs.Order.{ranks, before}
use Rattle.row_order.specs.Tree.{Beats, IsWinner}
use Rattle.row_order.proofs.Crowns.{beats_trans}
use Rattle.acts_core.specs.Kept.{Kept, KeptRow}
use Rattle.acts_core.specs.Load.{Load}
use Rattle.kept_rows.specs.Rows.{kept_at, rank_at, Comes, FirstOf, NoneOf, IsNamed}
use Rattle.kept_rows.specs.Keeping.{slot_kept, kept_of, HasName, FirstNamed}
use Rattle.kept_rows.proofs.Keeping.{some_item, get_or_any, kept_length, kept_read, kept_ranks}

module _ {C : Type 0} (ks : ℕ → Option (List ℕ)) (slots : List (Slot C)) (id : ℕ) where
  pub named_none : FirstNamed ks slots id 0 0
  named_none = record { inside = omega arith; found = λ x s e. absurd (omega arith); first = λ y s l. absurd (omega arith) }

  pub named_skip : (n best : ℕ) (d : Slot C) → n < length slots → d ≡ get_or slots n d → ¬ (HasName id d) → FirstNamed ks slots id n best → FirstNamed ks slots id (n + 1) best
  named_skip n best d l at off f = record {
    inside = (let m = f.inside in omega arith);
    found = f.found;
    first = λ y s m is has. dite (ℕ_discrete y n)
        (λ (e : y ≡ n). absurd (off (subst (HasName id) (is ∙ (ap (λ (z : ℕ). get_or slots z s) e ∙ (get_or_any slots n s d l ∙ sym at))) has)))
        (λ (ne : ¬ (y ≡ n)). f.first y s (omega arith) is has);
  }

  pub named_wins : (n best w : ℕ) (d : Slot C) → n < length slots → d ≡ get_or slots n d → HasName id d → IsWinner ks best (n + 1) w → FirstNamed ks slots id n best → FirstNamed ks slots id (n + 1) w
  named_wins n best w d l at has win f = record {
    inside = (let m = f.inside in ⊎_elim (λ (z : w ≡ best). omega arith) (λ (z : w ≡ n + 1). omega arith) win.either);
    found = λ x s e is. ⊎_elim
        (λ (z : w ≡ best). f.found x s (sym z ∙ e) is)
        (λ (z : w ≡ n + 1).
        let same : x ≡ n = omega arith in
        subst (HasName id) (sym (is ∙ (ap (λ (z : ℕ). get_or slots z s) same ∙ (get_or_any slots n s d l ∙ sym at)))) has)
        win.either;
    first = λ y s m is named. dite (ℕ_discrete y n)
        (λ (e : y ≡ n). win.right y (omega arith))
        (λ (ne : ¬ (y ≡ n)). let b = f.first y s (omega arith) is named in beats_trans ks w b.row y (win.left b.row b.is) b.first);
  }

module _ {C : Type 0} (load : C → Load) (b : Bool) (slots : List (Slot C)) (depth : Depth) (spare id : ℕ) where
  -- what is kept of a slot that has the name has it, and the other way round
  named_kept : (r : ℕ) (s : Slot C) → r < length slots → s ≡ get_or slots r s → HasName id s → IsNamed id (kept_at (kept_of load slots depth spare) r)
  named_kept r s l at has = subst (IsNamed id) (ap (slot_kept load) at ∙ sym (kept_read load slots depth spare r s l)) (record { same = has.same; live = has.live })

  kept_named : (r : ℕ) (s : Slot C) → r < length slots → s ≡ get_or slots r s → IsNamed id (kept_at (kept_of load slots depth spare) r) → HasName id s
  kept_named r s l at n =
      let m : IsNamed id (slot_kept load s) = subst (IsNamed id) (kept_read load slots depth spare r s l ∙ ap (slot_kept load) (sym at)) n in
      record { same = m.same; live = m.live }

  pub named_first : (w r : ℕ) → FirstNamed (ranks b slots) slots id (length slots) w → w ≡ r + 1 → FirstOf (kept_of load slots depth spare) (IsNamed id) (Comes b (kept_of load slots depth spare)) r
  named_first w r f is =
      let inside : r < length slots = (let m = f.inside in omega arith) in
      let x = some_item slots r inside in record {
        inside = (let n = kept_length load slots depth spare in omega arith);
        passes = named_kept r x.0 inside x.1 (f.found r x.0 (is ∙ omega arith) x.1);
        first = λ s l named apart.
            let ls : s < length slots = (let n = kept_length load slots depth spare in omega arith) in
            let y = some_item slots s ls in
            let beats = f.first s y.0 ls y.1 (kept_named s y.0 ls y.1 named) in
            let same : beats.row ≡ r = (let a = beats.is in omega arith) in
            ⊎_elim
            (λ (e : beats.row ≡ s). absurd (apart (sym e ∙ same)))
            (λ (p : before (ranks b slots) beats.row s). subst (λ (z : (ℕ → Option (List ℕ)) × ℕ). before z.0 z.1 s) (λ i. (kept_ranks load b slots depth spare i, same i)) p)
            beats.first;
      }

  pub named_nowhere : (w : ℕ) → FirstNamed (ranks b slots) slots id (length slots) w → w ≡ 0 → NoneOf (kept_of load slots depth spare) (IsNamed id)
  named_nowhere w f is s l named =
      let ls : s < length slots = (let n = kept_length load slots depth spare in omega arith) in
      let y = some_item slots s ls in
      let beats = f.first s y.0 ls y.1 (kept_named s y.0 ls y.1 named) in
      let a = beats.is in absurd (omega arith)
