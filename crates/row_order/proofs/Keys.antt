-- keys and the order of rows
use Rattle.std.proofs.Common.{◌≡◌, ◌≢◌, ◌⊎◌, ◌↔◌, inl, inr, ℕ, ◌<◌, Bool, Option, Some, None, List, length, get_or, Less, Equal, Greater, refl, sym, ap, ◌∙◌, subst, ⊎_elim, arith}
use Rattle.std.proofs.lemmas.Cmp.{tied_itself, nat_list_cmp_total}
use Rattle.std.proofs.lemmas.List.{get_or-map}
use Rattle.std.specs.Cmp.Lexicographic.{slice_cmp}
use Rattle.std.specs.Ordering.{nat_cmp, ordering_reverse}
use mathlib.Core.Logic.{dite}
use native.Mathlib.Decide.{dec_lt}
use Rattle.queue_model.specs.Order.{KeyBefore}
use Rattle.queue_model.proofs.Orders.{same_key, key_cases}
use Rattle.row_order.specs.declared.slots.Slot.{Slot}
use Rattle.row_order.specs.Order.{key_cmp, key_of, rank, ranks, before}

pub key_not : (k : Option (List ℕ)) → KeyBefore k k → ⊥
key_not None before = before
key_not (Some a) before = let t : slice_cmp nat_cmp a a ≡ Equal = tied_itself nat_list_cmp_total a in let bad : Equal ≡ Less = sym t ∙ before in absurd (cc)

pub key_trans : (i j k : Option (List ℕ)) → KeyBefore i j → KeyBefore j k → KeyBefore i k
key_trans None j k p r = absurd p
key_trans (Some a) None k p r = absurd r
key_trans (Some a) (Some b) None p r = tt
key_trans (Some a) (Some b) (Some c) p r = nat_list_cmp_total.trans a b c p r

pub less_before : (a b : Option (List ℕ)) → key_cmp a b ≡ Less → KeyBefore a b
less_before (Some a) (Some b) e = e
less_before (Some a) None e = tt
less_before None (Some b) e = absurd (cc)
less_before None None e = absurd (cc)

pub equal_same : (a b : Option (List ℕ)) → key_cmp a b ≡ Equal → a ≡ b
equal_same (Some a) (Some b) e = ap (λ (c : List ℕ). Some c) (same_key a b e)
equal_same (Some a) None e = absurd (cc)
equal_same None (Some b) e = absurd (cc)
equal_same None None e = refl

pub greater_after : (a b : Option (List ℕ)) → key_cmp a b ≡ Greater → KeyBefore b a
greater_after (Some a) (Some b) e = nat_list_cmp_total.antisymm b a ∙ ap ordering_reverse e
greater_after (Some a) None e = absurd (cc)
greater_after None (Some b) e = tt
greater_after None None e = absurd (cc)

module _ (ks : ℕ → Option (List ℕ)) where
  pub before_trans : (a b c : ℕ) → before ks a b → before ks b c → before ks a c
  before_trans a b c p q = ⊎_elim
      (λ (x : KeyBefore (ks a) (ks b)). ⊎_elim
      (λ (y : KeyBefore (ks b) (ks c)). inl (key_trans (ks a) (ks b) (ks c) x y))
      (λ (y : (ks b ≡ ks c) × (b < c)). inl (subst (KeyBefore (ks a)) y.0 x)) q)
      (λ (x : (ks a ≡ ks b) × (a < b)). ⊎_elim
      (λ (y : KeyBefore (ks b) (ks c)). inl (subst (λ (k : Option (List ℕ)). KeyBefore k (ks c)) (sym x.0) y))
      (λ (y : (ks b ≡ ks c) × (b < c)). inr (x.0 ∙ y.0, (let m = x.1 in let n = y.1 in omega arith))) q)
      p

  pub before_not : (a : ℕ) → before ks a a → ⊥
  before_not a p = ⊎_elim (λ (x : KeyBefore (ks a) (ks a)). key_not (ks a) x) (λ (x : (ks a ≡ ks a) × (a < a)). let n = x.1 in absurd (omega arith)) p

  pub before_total : (a b : ℕ) → a ≢ b → ¬ (before ks a b) → before ks b a
  before_total a b apart not = ⊎_elim
      (λ (e : ks a ≡ ks b). dite (dec_lt a b) (λ (l : a < b). absurd (not (inr (e, l)))) (λ (l : ¬ (a < b)). inr (sym e, omega arith)))
      (λ (x : KeyBefore (ks a) (ks b) ⊎ KeyBefore (ks b) (ks a)). ⊎_elim (λ (y : KeyBefore (ks a) (ks b)). absurd (not (inl y))) (λ (y : KeyBefore (ks b) (ks a)). inl y) x)
      (key_cases (ks a) (ks b))

  -- what a comparison of two keys says of two rows
  pub by_less : (a b : ℕ) (j k : Option (List ℕ)) → ks a ≡ j → ks b ≡ k → key_cmp j k ≡ Less → before ks a b
  by_less a b j k p q e = inl (subst (λ (x : Option (List ℕ)). KeyBefore x (ks b)) (sym p) (subst (KeyBefore j) (sym q) (less_before j k e)))

  pub by_greater : (a b : ℕ) (j k : Option (List ℕ)) → ks a ≡ j → ks b ≡ k → key_cmp j k ≡ Greater → before ks a b → ⊥
  by_greater a b j k p q e x =
      let back : KeyBefore (ks b) (ks a) = subst (λ (y : Option (List ℕ)). KeyBefore y (ks a)) (sym q) (subst (KeyBefore k) (sym p) (greater_after j k e)) in
      ⊎_elim (λ (y : KeyBefore (ks a) (ks b)). key_not (ks a) (key_trans (ks a) (ks b) (ks a) y back)) (λ (y : (ks a ≡ ks b) × (a < b)). key_not (ks b) (subst (KeyBefore (ks b)) y.0 back)) x

  pub by_equal : (a b : ℕ) (j k : Option (List ℕ)) → ks a ≡ j → ks b ≡ k → key_cmp j k ≡ Equal → before ks a b ↔ (a < b)
  by_equal a b j k p q e =
      let same : ks a ≡ ks b = p ∙ (equal_same j k e ∙ sym q) in (
        (λ x. ⊎_elim (λ (y : KeyBefore (ks a) (ks b)). absurd (key_not (ks b) (subst (λ (z : Option (List ℕ)). KeyBefore z (ks b)) same y))) (λ (y : (ks a ≡ ks b) × (a < b)). y.1) x),
        (λ l. inr (same, l)),
      )

-- what the order goes by at a row that is read
pub rank_read : {C : Type 0} (b : Bool) (rows : List (Slot C)) (r : ℕ) (d : Slot C) → r < length rows → ranks b rows r ≡ rank b (get_or rows r d).slip.key
rank_read b rows r d l = ap (rank b) (get_or-map key_of rows r d None l)
