-- rows that their caller dequeued, and rows on which a caller acted
use Rattle.std.proofs.Common.{◌≡◌, ◌≢◌, ℕ, true, false, List, [], ◌∷◌, cond, Option, Some, None, refl, sym, ap, ◌∙◌, subst, ⊎_elim, inl, inr, eqb-true}
use Rattle.std.proofs.lemmas.Bool.{cases_eq, cases_Bool, cond-true, cond-false, eqb-false}
use Rattle.queue_model.specs.declared.deeds.Act.{Act}
use Rattle.queue_model.specs.declared.deeds.Act.TheVariants as acts
use Rattle.queue_model.specs.declared.deeds.Deed.{Deed}
use Rattle.queue_model.specs.declared.queues.Queue.{Queue}
use Rattle.queue_model.specs.declared.rows.Row.{Row}
use Rattle.queue_model.specs.declared.rows.RowState.TheVariants.{Available, Unlocked, Locked, Dequeued, Deleted}
use Rattle.queue_model.specs.History.{after, Legal, own, deed}
use Rattle.queue_model.specs.State.{is_row, row_at, IsIn}
use Rattle.queue_model.specs.Table.{Can, acted, in_state, left_in}
use Rattle.queue_model.proofs.Histories.{own-cons_mine, own-cons_other, own-other}
use Rattle.queue_model.proofs.KeyedLemmas.{find-append}
use Rattle.queue_model.proofs.Owns.{own_dequeued}
use Rattle.queue_model.proofs.Stable.{untouched, row_step, row_stays}
use Rattle.acts_core.specs.Asked.{touches, or_else, last_on}
use Rattle.entry_table.specs.Views.{Has, EndsBy, AllEnd}
use Rattle.entry_table.proofs.Ending.{dequeued_stays}

-- Last acts

-- the act, if it changes the state of the row
abbrev if_touches : ℕ → Act → Option Act
if_touches row a = cond (touches row a) (Some a) None

mine_first : (h row : ℕ) (d : Deed) (ds : List Deed) → d.caller ≡ h → last_on row (own h (d ∷ ds)) ≡ or_else (last_on row (own h ds)) (if_touches row d.act)
mine_first h row d ds mine = subst (λ (k : ℕ). last_on row (own k (d ∷ ds)) ≡ or_else (last_on row (own k ds)) (if_touches row d.act)) mine (ap (last_on row) (own-cons_mine d ds))

others_first : (h row : ℕ) (d : Deed) (ds : List Deed) → d.caller ≢ h → last_on row (own h (d ∷ ds)) ≡ last_on row (own h ds)
others_first h row d ds other = ap (last_on row) (own-cons_other h d ds other)

none_left : (a b : Option Act) → or_else a b ≡ None → a ≡ None
none_left None b e = refl
none_left (Some x) b e = absurd (cc)

none_right : (a b : Option Act) → or_else a b ≡ None → b ≡ None
none_right None b e = e
none_right (Some x) b e = absurd (cc)

no_touch : (row : ℕ) (a : Act) → if_touches row a ≡ None → touches row a ≡ false
no_touch row a e = ⊎_elim
    (λ (hit : touches row a ≡ true). let bad : Some a ≡ None = sym (cond-true (touches row a) (Some a) None hit) ∙ e in absurd (cc))
    (λ (miss : touches row a ≡ false). miss) (cases_Bool (touches row a))

if_some : (row : ℕ) (a b : Act) → if_touches row a ≡ Some b → (touches row a ≡ true) × (a ≡ b)
if_some row a b e = ⊎_elim
    (λ (hit : touches row a ≡ true). let both : Some a ≡ Some b = sym (cond-true (touches row a) (Some a) None hit) ∙ e in (hit, cc))
    (λ (miss : touches row a ≡ false). let bad : None ≡ Some b = sym (cond-false (touches row a) (Some a) None miss) ∙ e in absurd (cc)) (cases_Bool (touches row a))

-- A row on which a caller acted

-- what the act is done to is there
row_of_act : (q : Queue) (h row : ℕ) (a : Act) → Can q h a → touches row a ≡ true → (x : Row) × (row_at q row ≡ Some x)
row_of_act q h row (acts.Acq s) can hit = (can.0, subst (λ (n : ℕ). row_at q n ≡ Some can.0) (eqb-true s row hit) can.1)
row_of_act q h row (acts.Lock s) can hit = (can.0, subst (λ (n : ℕ). row_at q n ≡ Some can.0) (eqb-true s row hit) can.1)
row_of_act q h row (acts.Unlock s n) can hit = (can.0, subst (λ (n : ℕ). row_at q n ≡ Some can.0) (eqb-true s row hit) can.1)
row_of_act q h row (acts.Steal s) can hit = (can.1.0, subst (λ (n : ℕ). row_at q n ≡ Some can.1.0) (eqb-true s row hit) can.1.1)
row_of_act q h row (acts.Rel s n) can hit = (can.0, subst (λ (n : ℕ). row_at q n ≡ Some can.0) (eqb-true s row hit) can.1)
row_of_act q h row (acts.Deq s) can hit = (can.0, subst (λ (n : ℕ). row_at q n ≡ Some can.0) (eqb-true s row hit) can.1)
row_of_act q h row (acts.Del s) can hit = (can.0, subst (λ (n : ℕ). row_at q n ≡ Some can.0) (eqb-true s row hit) can.1)
row_of_act q h row (acts.Reserve size) can hit = absurd (cc)
row_of_act q h row (acts.GiveBack size) can hit = absurd (cc)
row_of_act q h row (acts.Enq s slip content origin n) can hit = absurd (cc)
row_of_act q h row (acts.Bell s c) can hit = absurd (cc)
row_of_act q h row (acts.Take c l) can hit = absurd (cc)

-- and stays
pub acted_row : (q : Queue) (h row : ℕ) (a : Act) (ds : List Deed) → Legal q ds → last_on row (own h ds) ≡ Some a → (x : Row) × (row_at (after q ds) row ≡ Some x)
acted_row q h row a [] legal e = absurd (cc)
acted_row q h row a (d ∷ ds) legal e = ⊎_elim
    (λ (mine : d.caller ≡ h). by_last (λ b p. acted_row (acted q d.caller d.act) h row b ds legal.1 p) (last_on row (own h ds)) refl (sym (mine_first h row d ds mine) ∙ e))
    (λ (other : d.caller ≢ h). acted_row (acted q d.caller d.act) h row a ds legal.1 (sym (others_first h row d ds other) ∙ e))
    (cases_eq d.caller h)
  where
    by_last : ((b : Act) → last_on row (own h ds) ≡ Some b → (x : Row) × (row_at (after q (d ∷ ds)) row ≡ Some x)) → (o : Option Act) → last_on row (own h ds) ≡ o → or_else (last_on row (own h ds)) (if_touches row d.act) ≡ Some a → (x : Row) × (row_at (after q (d ∷ ds)) row ≡ Some x)
    by_last again None p f =
        let last : if_touches row d.act ≡ Some a = sym (ap (λ (z : Option Act). or_else z (if_touches row d.act)) p) ∙ f in
        let was = row_of_act q d.caller row d.act legal.0 (if_some row d.act a last).0 in
        let one = row_step q d.caller d.act row was.0 was.1 in
        let more = row_stays (acted q d.caller d.act) ds row one.0 one.1 in (more.0, more.1)
    by_last again (Some b) p f = again b p

-- a last act was done
pub has_last : (h row : ℕ) (a : Act) (ds : List Deed) → last_on row (own h ds) ≡ Some a → Has (deed h a) ds
has_last h row a [] e = absurd (cc)
has_last h row a (d ∷ ds) e = ⊎_elim
    (λ (mine : d.caller ≡ h). by_last (λ p. has_last h row a ds p) (last_on row (own h ds)) refl mine (sym (mine_first h row d ds mine) ∙ e))
    (λ (other : d.caller ≢ h). inr (has_last h row a ds (sym (others_first h row d ds other) ∙ e)))
    (cases_eq d.caller h)
  where
    by_last : (last_on row (own h ds) ≡ Some a → Has (deed h a) ds) → (o : Option Act) → last_on row (own h ds) ≡ o → d.caller ≡ h → or_else (last_on row (own h ds)) (if_touches row d.act) ≡ Some a → Has (deed h a) (d ∷ ds)
    by_last again None p mine f =
        let last : if_touches row d.act ≡ Some a = sym (ap (λ (z : Option Act). or_else z (if_touches row d.act)) p) ∙ f in
        let same = (if_some row d.act a last).1 in inl (λ i. record { caller = mine i; act = same i })
    by_last again (Some b) p mine f = inr (again (p ∙ sym (ap (λ (z : Option Act). or_else z (if_touches row d.act)) p) ∙ f))

-- Dequeued rows

-- a dequeued row stays so in an act of its caller that does not touch it
still_mine : (row : ℕ) (q : Queue) (k : ℕ) (a : Act) (x : Row) → Can q k a → touches row a ≡ false → row_at q row ≡ Some x → row_at (acted q k a) row ≡ Some x
still_mine row q k (acts.Acq s) x can miss found = untouched q s row (in_state (Locked k)) x (eqb-false s row miss) (λ z. refl) found
still_mine row q k (acts.Lock s) x can miss found = untouched q s row (in_state (Locked k)) x (eqb-false s row miss) (λ z. refl) found
still_mine row q k (acts.Unlock s n) x can miss found = untouched q s row (left_in (Unlocked k) n) x (eqb-false s row miss) (λ z. refl) found
still_mine row q k (acts.Steal s) x can miss found = untouched q s row (in_state (Locked k)) x (eqb-false s row miss) (λ z. refl) found
still_mine row q k (acts.Rel s n) x can miss found = untouched q s row (left_in Available n) x (eqb-false s row miss) (λ z. refl) found
still_mine row q k (acts.Deq s) x can miss found = untouched q s row (in_state Dequeued) x (eqb-false s row miss) (λ z. refl) found
still_mine row q k (acts.Del s) x can miss found = untouched q s row (in_state Deleted) x (eqb-false s row miss) (λ z. refl) found
still_mine row q k (acts.Reserve size) x can miss found = found
still_mine row q k (acts.GiveBack size) x can miss found = found
still_mine row q k (acts.Enq s slip content origin n) x can miss found = find-append (is_row row) q.rows (record { number = s; slip = slip; state = Available; content = content; origin = origin; count = n } ∷ []) x found
still_mine row q k (acts.Bell s c) x can miss found = found
still_mine row q k (acts.Take c l) x can miss found = found

module _ (enders : ℕ → ℕ) (row h : ℕ) where
  -- it stays so until its caller touches it
  out_stays : (q : Queue) (ds : List Deed) → enders row ≡ h → Legal q ds → AllEnd enders ds → last_on row (own h ds) ≡ None → IsIn q row Dequeued → IsIn (after q ds) row Dequeued
  out_stays q [] ender legal all none out = out
  out_stays q (d ∷ ds) ender legal all none out = ⊎_elim
      (λ (mine : d.caller ≡ h).
      let both = sym (mine_first h row d ds mine) ∙ none in
      let miss = no_touch row d.act (none_right (last_on row (own h ds)) (if_touches row d.act) both) in
      out_stays (acted q d.caller d.act) ds ender legal.1 all.1 (none_left (last_on row (own h ds)) (if_touches row d.act) both)
      (out.0, still_mine row q d.caller d.act out.0 legal.0 miss out.1, out.2))
      (λ (other : d.caller ≢ h).
      out_stays (acted q d.caller d.act) ds ender legal.1 all.1 (sym (others_first h row d ds other) ∙ none)
      (dequeued_stays enders row h q (d ∷ []) ender (own-other h d other) (legal.0, tt) (all.0, tt) out))
      (cases_eq d.caller h)

  -- a row that its caller dequeued last is dequeued
  pub out_last : (q : Queue) (ds : List Deed) → Legal q ds → AllEnd enders ds → last_on row (own h ds) ≡ Some (acts.Deq row) → IsIn (after q ds) row Dequeued
  out_last q [] legal all e = absurd (cc)
  out_last q (d ∷ ds) legal all e = ⊎_elim
      (λ (mine : d.caller ≡ h). by_last (λ p. out_last (acted q d.caller d.act) ds legal.1 all.1 p) (last_on row (own h ds)) refl mine (sym (mine_first h row d ds mine) ∙ e))
      (λ (other : d.caller ≢ h). out_last (acted q d.caller d.act) ds legal.1 all.1 (sym (others_first h row d ds other) ∙ e))
      (cases_eq d.caller h)
    where
      by_last : (last_on row (own h ds) ≡ Some (acts.Deq row) → IsIn (after q (d ∷ ds)) row Dequeued) → (o : Option Act) → last_on row (own h ds) ≡ o → d.caller ≡ h → or_else (last_on row (own h ds)) (if_touches row d.act) ≡ Some (acts.Deq row) → IsIn (after q (d ∷ ds)) row Dequeued
      by_last again None p mine f =
          let last : if_touches row d.act ≡ Some (acts.Deq row) = sym (ap (λ (z : Option Act). or_else z (if_touches row d.act)) p) ∙ f in
          let is : d.act ≡ acts.Deq row = (if_some row d.act (acts.Deq row) last).1 in
          let can : Can q d.caller (acts.Deq row) = subst (Can q d.caller) is legal.0 in
          let ender : enders row ≡ d.caller = subst (EndsBy enders d.caller) is all.0 in
          out_stays (acted q d.caller d.act) ds (ender ∙ mine) legal.1 all.1 p (subst (λ (a : Act). IsIn (acted q d.caller a) row Dequeued) (sym is) (own_dequeued q d.caller row can))
      by_last again (Some b) p mine f = again (p ∙ sym (ap (λ (z : Option Act). or_else z (if_touches row d.act)) p) ∙ f)
