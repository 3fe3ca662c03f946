-- the last rows when a row comes
use Rattle.std.proofs.Common.{◌≡◌, ◌≢◌, ◌⊎◌, ◌↔◌, inl, inr, ℕ, ◌+◌, ◌-◌, ◌<◌, ◌≤◌, Bool, true, false, IsTrue, Option, Some, None, List, [], ◌∷◌, ◌++◌, length, get_or, set, refl, sym, ap, ◌∙◌, subst, ⊎_elim, arith, zero, suc, length-append}
use Rattle.std.specs.List.{insert}
use Rattle.std.proofs.lemmas.List.{length-set, get_or-set_same, get_or-set_other}
use Rattle.std.proofs.lemmas.List.Edits.{get_or-insert_at, get_or-insert_below, get_or-insert_above, length-insert}
use mathlib.Core.Logic.{dite}
use native.Mathlib.Decide.{ℕ_discrete, dec_lt}
use Rattle.queue_model.specs.declared.rows.RowState.TheVariants.{Available}
use Rattle.queue_model.specs.declared.rows.Slip.{Slip}
use Rattle.queue_model.specs.Order.{KeyBefore}
use Rattle.row_order.proofs.Keys.{key_not}
use Rattle.acts_core.specs.Kept.{Kept, KeptRow}
use Rattle.kept_rows.specs.Rows.{kept_at}
use Rattle.lastval_core.specs.Lasts.{key_at, HasLater, IsLastOf, KeepsLast, StandsAt, BelongsAt}
use Rattle.lastval_core.proofs.Lasts.{later_or, last_of, one_place}

-- what stands at k after an insertion at i, by where k is
at_inserted : (P : ℕ → Type 0) (xs : List ℕ) (i row k : ℕ) → i ≤ length xs → (k < i → P (get_or xs k 0)) → (k ≡ i → P row) → ((j : ℕ) → i ≤ j → k ≡ j + 1 → P (get_or xs j 0)) → P (get_or (insert xs i row) k 0)
at_inserted P xs i row k inside below here above = dite (dec_lt k i)
    (λ (l : k < i). subst P (sym (get_or-insert_below xs i row 0 k l inside)) (below l))
    (λ (l : ¬ (k < i)). dite (ℕ_discrete k i)
    (λ (e : k ≡ i). subst P (sym (ap (λ (n : ℕ). get_or (insert xs i row) n 0) e ∙ get_or-insert_at xs i row 0 inside)) (here e))
    (λ (ne : ¬ (k ≡ i)). let e : k ≡ (k - 1) + 1 = omega arith in let m : i ≤ k - 1 = omega arith in
    subst P (sym (ap (λ (n : ℕ). get_or (insert xs i row) n 0) e ∙ get_or-insert_above xs i row 0 (k - 1) m inside)) (above (k - 1) m e)))

-- one mark more, that is not set
mark_push : (marks : List Bool) (r : ℕ) → get_or (marks ++ false ∷ []) r false ≡ get_or marks r false
mark_push [] zero = refl
mark_push [] (suc r) = refl
mark_push (m ∷ marks) zero = refl
mark_push (m ∷ marks) (suc r) = mark_push marks r

-- a row of this key has come, and no other has become available
pub record Came (k j : Kept) (key : Option (List ℕ)) : Type 0 where
  pub long : length j.rows ≡ length k.rows + 1
  pub old : (r : ℕ) → r < length k.rows → key_at j r ≡ key_at k r
  pub new : key_at j (length k.rows) ≡ key
  pub available : (r : ℕ) → r < length k.rows → (kept_at j r).state ≡ Available → (kept_at k r).state ≡ Available

module _ (k j : Kept) (key : Option (List ℕ)) (c : Came k j key) where
  -- nothing comes after the new row
  none_after : ¬ (HasLater j (length k.rows))
  none_after h = let a = h.after in let b = h.inside in let n = c.long in absurd (omega arith)

  later_new : (r : ℕ) → r < length k.rows → HasLater k r → HasLater j r
  later_new r l h = record {
    later = h.later;
    after = h.after;
    inside = (let b = h.inside in let n = c.long in omega arith);
    same = c.old h.later h.inside ∙ (h.same ∙ sym (c.old r l));
    some = λ none. h.some (sym (c.old r l) ∙ none);
  }

  -- a later one is an old row, or the new one
  later_old : (r : ℕ) → r < length k.rows → HasLater j r → HasLater k r ⊎ ((key ≡ key_at k r) × (key_at k r ≢ None))
  later_old r l h = dite (dec_lt h.later (length k.rows))
      (λ (m : h.later < length k.rows). inl (record { later = h.later; after = h.after; inside = m; same = sym (c.old h.later m) ∙ (h.same ∙ c.old r l); some = λ none. h.some (c.old r l ∙ none) }))
      (λ (m : ¬ (h.later < length k.rows)).
      let e : h.later ≡ length k.rows = (let b = h.inside in let n = c.long in omega arith) in
      inr (sym c.new ∙ (ap (key_at j) (sym e) ∙ (h.same ∙ c.old r l)), (λ none. h.some (c.old r l ∙ none))))

  -- Where no row had the key

  module _ (fresh : (r : ℕ) → r < length k.rows → key_at k r ≢ None → key ≢ key_at k r) where
    later_same : (r : ℕ) → r < length k.rows → HasLater j r → HasLater k r
    later_same r l h = ⊎_elim (λ (x : HasLater k r). x) (λ (x : (key ≡ key_at k r) × (key_at k r ≢ None)). absurd (fresh r l x.1 x.0)) (later_old r l h)

    last_new : (r : ℕ) → IsLastOf k r → IsLastOf j r
    last_new r is = record { inside = (let l = is.inside in let n = c.long in omega arith); some = λ none. is.some (sym (c.old r is.inside) ∙ none); last = λ h. is.last (later_same r is.inside h) }

    last_old : (r : ℕ) → r < length k.rows → IsLastOf j r → IsLastOf k r
    last_old r l is = record { inside = l; some = λ none. is.some (c.old r l ∙ none); last = λ h. is.last (later_new r l h) }

    marked_fresh : (marks : List Bool) → ((r : ℕ) → r < length k.rows → IsTrue (get_or marks r false) ↔ HasLater k r) → length marks ≡ length k.rows → (r : ℕ) → r < length j.rows → IsTrue (get_or (marks ++ false ∷ []) r false) ↔ HasLater j r
    marked_fresh marks marked long r m = dite (dec_lt r (length k.rows))
        (λ (l : r < length k.rows). let w = marked r l in ((λ t. later_new r l (w.0 (subst IsTrue (mark_push marks r) t))), (λ h. subst IsTrue (sym (mark_push marks r)) (w.1 (later_same r l h)))))
        (λ (l : ¬ (r < length k.rows)).
        let e : r ≡ length k.rows = (let n = c.long in omega arith) in
        ((λ t. let bad : false ≡ true = subst IsTrue (mark_push marks r ∙ past marks r (omega arith)) t in absurd (cc)), (λ h. absurd (none_after (subst (HasLater j) e h)))))
      where
        past : (marks : List Bool) (r : ℕ) → length marks ≤ r → get_or marks r false ≡ false
        past [] r l = refl
        past (m ∷ marks) zero l = absurd (omega arith)
        past (m ∷ marks) (suc r) l = past marks r (omega arith)

    one_fresh : ((r : ℕ) → r < length k.rows → (kept_at k r).state ≡ Available → ¬ (HasLater k r)) → (r : ℕ) → r < length j.rows → (kept_at j r).state ≡ Available → ¬ (HasLater j r)
    one_fresh one r m free h = dite (dec_lt r (length k.rows))
        (λ (l : r < length k.rows). one r l (c.available r l free) (later_same r l h))
        (λ (l : ¬ (r < length k.rows)). none_after (subst (HasLater j) (let n = c.long in omega arith) h))

    -- a row without a key
    pub lasts_unkeyed : (lasts : List ℕ) (marks : List Bool) → key ≡ None → KeepsLast k lasts marks → KeepsLast j lasts (marks ++ false ∷ [])
    lasts_unkeyed lasts marks none l = record {
      long = (let a = length-append marks (false ∷ []) in let b = l.long in let n = c.long in omega arith);
      marked = marked_fresh marks l.marked l.long;
      each = λ i m. last_new (get_or lasts i 0) (l.each i m);
      whole = λ r is. dite (dec_lt r (length k.rows))
          (λ (m : r < length k.rows). l.whole r (last_old r m is))
          (λ (m : ¬ (r < length k.rows)). let e : r ≡ length k.rows = (let n = c.long in let b = is.inside in omega arith) in absurd (is.some (ap (key_at j) e ∙ (c.new ∙ none))));
      sorted = λ a b less m. subst (λ (z : Option (List ℕ) × Option (List ℕ)). KeyBefore z.0 z.1) (λ i. (sym (c.old (get_or lasts a 0) (l.each a (omega arith)).inside) i, sym (c.old (get_or lasts b 0) (l.each b m).inside) i)) (l.sorted a b less m);
      one = one_fresh l.one;
      few = (let f = l.few in let n = c.long in omega arith);
    }

    -- a row of a new key
    pub lasts_fresh : (lasts : List ℕ) (marks : List Bool) (i : ℕ) → key ≢ None → BelongsAt k lasts key i → KeepsLast k lasts marks → KeepsLast j (insert lasts i (length k.rows)) (marks ++ false ∷ [])
    lasts_fresh lasts marks i some b l =
        let longer = length-insert lasts i (length k.rows) b.inside in
        let old_key : (a : ℕ) → a < length lasts → key_at j (get_or lasts a 0) ≡ key_at k (get_or lasts a 0) = λ a m. c.old (get_or lasts a 0) (l.each a m).inside in record {
          long = (let a = length-append marks (false ∷ []) in let d = l.long in let n = c.long in omega arith);
          marked = marked_fresh marks l.marked l.long;
          each = λ a m. at_inserted (IsLastOf j) lasts i (length k.rows) a b.inside
              (λ low. last_new (get_or lasts a 0) (l.each a (let z = b.inside in omega arith)))
              (λ e. record { inside = (let n = c.long in omega arith); some = λ none. some (sym c.new ∙ none); last = none_after })
              (λ d m' e. last_new (get_or lasts d 0) (l.each d (omega arith)));
          whole = λ r is. dite (dec_lt r (length k.rows))
              (λ (m : r < length k.rows).
              let w = l.whole r (last_old r m is) in
              let wl = w.1 in
              dite (dec_lt w.0 i)
              (λ (low : w.0 < i). (w.0, omega arith, get_or-insert_below lasts i (length k.rows) 0 w.0 low b.inside ∙ w.2))
              (λ (high : ¬ (w.0 < i)). (w.0 + 1, omega arith, get_or-insert_above lasts i (length k.rows) 0 w.0 (omega arith) b.inside ∙ w.2)))
              (λ (m : ¬ (r < length k.rows)).
              let e : r ≡ length k.rows = (let n = c.long in let z = is.inside in omega arith) in
              (i, (let z = b.inside in omega arith), get_or-insert_at lasts i (length k.rows) 0 b.inside ∙ sym e));
          sorted = λ a d less m. at_inserted (λ (x : ℕ). KeyBefore (key_at j x) (key_at j (get_or (insert lasts i (length k.rows)) d 0))) lasts i (length k.rows) a b.inside
              (λ low. at_inserted (λ (y : ℕ). KeyBefore (key_at j (get_or lasts a 0)) (key_at j y)) lasts i (length k.rows) d b.inside
              (λ low'. both (key_at k (get_or lasts a 0)) (key_at k (get_or lasts d 0)) _ _ (sym (old_key a (let z = b.inside in omega arith))) (sym (old_key d (let z = b.inside in omega arith))) (l.sorted a d less (let z = b.inside in omega arith)))
              (λ e. both (key_at k (get_or lasts a 0)) key _ _ (sym (old_key a (let z = b.inside in omega arith))) (sym c.new) (b.below a low))
              (λ f m' e. both (key_at k (get_or lasts a 0)) (key_at k (get_or lasts f 0)) _ _ (sym (old_key a (let z = b.inside in omega arith))) (sym (old_key f (omega arith))) (l.sorted a f (omega arith) (omega arith))))
              (λ e. at_inserted (λ (y : ℕ). KeyBefore (key_at j (length k.rows)) (key_at j y)) lasts i (length k.rows) d b.inside
              (λ low'. absurd (omega arith))
              (λ e'. absurd (omega arith))
              (λ f m' e'. both key (key_at k (get_or lasts f 0)) _ _ (sym c.new) (sym (old_key f (omega arith))) (b.above f m' (omega arith))))
              (λ f m' e. at_inserted (λ (y : ℕ). KeyBefore (key_at j (get_or lasts f 0)) (key_at j y)) lasts i (length k.rows) d b.inside
              (λ low'. absurd (omega arith))
              (λ e'. absurd (omega arith))
              (λ g m'' e'. both (key_at k (get_or lasts f 0)) (key_at k (get_or lasts g 0)) _ _ (sym (old_key f (omega arith))) (sym (old_key g (omega arith))) (l.sorted f g (omega arith) (omega arith))));
          one = one_fresh l.one;
          few = (let f = l.few in let n = c.long in omega arith);
        }
      where
        both : (x y x' y' : Option (List ℕ)) → x ≡ x' → y ≡ y' → KeyBefore x y → KeyBefore x' y'
        both x y x' y' ex ey p = subst (λ (z : Option (List ℕ) × Option (List ℕ)). KeyBefore z.0 z.1) (λ i. (ex i, ey i)) p

  -- Where a row has the key

  module _ (lasts : List ℕ) (marks : List Bool) (i : ℕ) (some : key ≢ None) (s : StandsAt k lasts key i) (l : KeepsLast k lasts marks) where
    later_is : (r : ℕ) → r < length k.rows → HasLater j r → (r ≡ get_or lasts i 0) ⊎ HasLater k r
    later_is r m h = ⊎_elim
        (λ (x : HasLater k r). inr x)
        (λ (x : (key ≡ key_at k r) × (key_at k r ≢ None)). ⊎_elim
        (λ (y : HasLater k r). inr y)
        (λ (y : ¬ (HasLater k r)).
        let w = l.whole r (record { inside = m; some = x.1; last = y }) in
        let e = one_place k lasts marks l w.0 i w.1 s.inside (ap (key_at k) w.2 ∙ (sym x.0 ∙ sym s.same)) in
        inl (sym w.2 ∙ ap (λ (n : ℕ). get_or lasts n 0) e))
        (later_or k lasts marks l r m))
        (later_old r m h)

    old_later : HasLater j (get_or lasts i 0)
    old_later =
        let m = (l.each i s.inside).inside in record {
          later = length k.rows;
          after = m;
          inside = (let n = c.long in omega arith);
          same = c.new ∙ (sym s.same ∙ sym (c.old (get_or lasts i 0) m));
          some = λ none. some (sym s.same ∙ (sym (c.old (get_or lasts i 0) m) ∙ none));
        }

    place_key : (a : ℕ) → a < length lasts → key_at j (get_or (set lasts i (length k.rows)) a 0) ≡ key_at k (get_or lasts a 0)
    place_key a m = dite (ℕ_discrete a i)
        (λ (e : a ≡ i). ap (λ (n : ℕ). key_at j (get_or (set lasts i (length k.rows)) n 0)) e ∙ (ap (key_at j) (get_or-set_same lasts i (length k.rows) 0 s.inside) ∙ (c.new ∙ (sym s.same ∙ ap (λ (n : ℕ). key_at k (get_or lasts n 0)) (sym e)))))
        (λ (ne : ¬ (a ≡ i)). ap (key_at j) (get_or-set_other lasts i a (length k.rows) 0 ne) ∙ c.old (get_or lasts a 0) (l.each a m).inside)

    -- the old row's place goes to the new one, and the old one is marked
    pub lasts_over : (kept_at j (get_or lasts i 0)).state ≢ Available → KeepsLast j (set lasts i (length k.rows)) (set (marks ++ false ∷ []) (get_or lasts i 0) true)
    lasts_over off =
        let m = (l.each i s.inside).inside in
        let old : ℕ = get_or lasts i 0 in
        let pushed = length-append marks (false ∷ []) in
        let long_set = length-set (marks ++ false ∷ []) (get_or lasts i 0) true in
        let long_lasts = length-set lasts i (length k.rows) in record {
          long = (let b = l.long in let n = c.long in omega arith);
          marked = λ r in_r. dite (ℕ_discrete r (get_or lasts i 0))
              (λ (e : r ≡ get_or lasts i 0).
              let here : get_or (set (marks ++ false ∷ []) (get_or lasts i 0) true) r false ≡ true = ap (λ (n : ℕ). get_or (set (marks ++ false ∷ []) (get_or lasts i 0) true) n false) e ∙ get_or-set_same (marks ++ false ∷ []) (get_or lasts i 0) true false (let b = l.long in omega arith) in
              ((λ t. subst (HasLater j) (sym e) old_later), (λ h. here)))
              (λ (ne : ¬ (r ≡ get_or lasts i 0)).
              let there : get_or (set (marks ++ false ∷ []) (get_or lasts i 0) true) r false ≡ get_or marks r false = get_or-set_other (marks ++ false ∷ []) (get_or lasts i 0) r true false ne ∙ mark_push marks r in
              dite (dec_lt r (length k.rows))
              (λ (low : r < length k.rows). let w = l.marked r low in
              ((λ t. later_new r low (w.0 (subst IsTrue there t))), (λ h. subst IsTrue (sym there) (w.1 (⊎_elim (λ (x : r ≡ get_or lasts i 0). absurd (ne x)) (λ (x : HasLater k r). x) (later_is r low h))))))
              (λ (high : ¬ (r < length k.rows)).
              let e : r ≡ length k.rows = (let n = c.long in omega arith) in
              ((λ t. let bad : false ≡ true = subst IsTrue (there ∙ past marks r (let b = l.long in omega arith)) t in absurd (cc)), (λ h. absurd (none_after (subst (HasLater j) e h))))));
          each = λ a in_a. dite (ℕ_discrete a i)
              (λ (e : a ≡ i). subst (IsLastOf j) (sym (ap (λ (n : ℕ). get_or (set lasts i (length k.rows)) n 0) e ∙ get_or-set_same lasts i (length k.rows) 0 s.inside))
              (record { inside = (let n = c.long in omega arith); some = λ none. some (sym c.new ∙ none); last = none_after }))
              (λ (ne : ¬ (a ≡ i)).
              let x = l.each a (omega arith) in
              subst (IsLastOf j) (sym (get_or-set_other lasts i a (length k.rows) 0 ne))
              (record {
                inside = (let z = x.inside in let n = c.long in omega arith);
                some = λ none. x.some (sym (c.old (get_or lasts a 0) x.inside) ∙ none);
                last = λ h. ⊎_elim
                    (λ (e : get_or lasts a 0 ≡ get_or lasts i 0). ne (one_place k lasts marks l a i (omega arith) s.inside (ap (key_at k) e)))
                    (λ (h' : HasLater k (get_or lasts a 0)). x.last h')
                    (later_is (get_or lasts a 0) x.inside h);
              }));
          whole = λ r is. dite (dec_lt r (length k.rows))
              (λ (low : r < length k.rows).
              let w = l.whole r (record { inside = low; some = λ none. is.some (c.old r low ∙ none); last = λ h. is.last (later_new r low h) }) in
              let ne : w.0 ≢ i = (λ e. is.last (subst (HasLater j) (ap (λ (n : ℕ). get_or lasts n 0) (sym e) ∙ w.2) old_later)) in
              let wl = w.1 in
              (w.0, omega arith, get_or-set_other lasts i w.0 (length k.rows) 0 ne ∙ w.2))
              (λ (high : ¬ (r < length k.rows)).
              let e : r ≡ length k.rows = (let n = c.long in let z = is.inside in omega arith) in
              (i, (let z = s.inside in omega arith), get_or-set_same lasts i (length k.rows) 0 s.inside ∙ sym e));
          sorted = λ a b less in_b. subst (λ (z : Option (List ℕ) × Option (List ℕ)). KeyBefore z.0 z.1) (λ t. (sym (place_key a (omega arith)) t, sym (place_key b (omega arith)) t)) (l.sorted a b less (omega arith));
          one = λ r in_r free h. dite (dec_lt r (length k.rows))
              (λ (low : r < length k.rows). ⊎_elim
              (λ (e : r ≡ get_or lasts i 0). off (subst (λ (n : ℕ). (kept_at j n).state ≡ Available) e free))
              (λ (h' : HasLater k r). l.one r low (c.available r low free) h')
              (later_is r low h))
              (λ (high : ¬ (r < length k.rows)). none_after (subst (HasLater j) (let n = c.long in omega arith) h));
          few = (let f = l.few in let n = c.long in omega arith);
        }
      where
        past : (marks : List Bool) (r : ℕ) → length marks ≤ r → get_or marks r false ≡ false
        past [] r l = refl
        past (m ∷ marks) zero l = absurd (omega arith)
        past (m ∷ marks) (suc r) l = past marks r (omega arith)
