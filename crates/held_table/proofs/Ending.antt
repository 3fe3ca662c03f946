-- who dequeues a row deletes it
use Rattle.std.proofs.Common.{◌≡◌, ◌≢◌, ℕ, Bool, true, false, cond, ◌⊎◌, List, [], ◌∷◌, ◌++◌, Option, Some, None, refl, sym, ap, ◌∙◌, subst, ⊎_elim, inl, inr, eq-eqb, append-nil, append_assoc}
use Rattle.std.proofs.lemmas.Bool.{cases_eq, cases_Bool}
use Rattle.std.specs.List.{AllByRecursion}
use Rattle.queue_model.specs.declared.deeds.Act.{Act}
use Rattle.queue_model.specs.declared.deeds.Act.TheVariants as acts
use Rattle.queue_model.specs.declared.deeds.Deed.{Deed}
use Rattle.queue_model.specs.declared.queues.Queue.{Queue}
use Rattle.queue_model.specs.declared.rows.Row.{Row}
use Rattle.queue_model.specs.declared.rows.RowState.TheVariants.{Available, Unlocked, Locked, Dequeued, Deleted}
use Rattle.queue_model.specs.History.{after, Legal, own, deed, deeds_of}
use Rattle.queue_model.specs.State.{is_row, row_at, IsIn}
use Rattle.queue_model.specs.Table.{Can, acted, in_state, left_in}
use Rattle.queue_model.proofs.Histories.{after-append, own-append, own-cons_mine, own-cons_other, own-mine, own-other}
use Rattle.queue_model.proofs.KeyedLemmas.{find-append}
use Rattle.queue_model.proofs.Owns.{own_dequeued}
use Rattle.queue_model.proofs.Stable.{same_state, untouched, apart_rows, row_stays}
use Rattle.acts_core.specs.Asked.{touches, or_else, last_on, HasDequeued}
use Rattle.acts_core.specs.Owed.{Has}
use Rattle.held_table.specs.Tales.{Enders}

-- The last act on a row

or_else-assoc : (a b c : Option Act) → or_else (or_else a b) c ≡ or_else a (or_else b c)
or_else-assoc None b c = refl
or_else-assoc (Some x) b c = refl

or_none : (a : Option Act) → a ≡ or_else a None
or_none None = refl
or_none (Some x) = refl

-- of two lists the second counts first
pub last_on-append : (r : ℕ) (xs ys : List Deed) → last_on r (xs ++ ys) ≡ or_else (last_on r ys) (last_on r xs)
last_on-append r [] ys = or_none (last_on r ys)
last_on-append r (x ∷ xs) ys =
    ap (λ (a : Option Act). or_else a (cond (touches r x.act) (Some x.act) None)) (last_on-append r xs ys)
    ∙ or_else-assoc (last_on r ys) (last_on r xs) (cond (touches r x.act) (Some x.act) None)

-- what another caller did last is not changed by a deed
other_last : (h k r : ℕ) (a : Act) (ds : List Deed) → k ≢ h → HasDequeued k r (ds ++ deed h a ∷ []) → HasDequeued k r ds
other_last h k r a ds off out =
    ap (last_on r) (sym (append-nil (own k ds)) ∙ ap (λ (l : List Deed). own k ds ++ l) (sym (own-other k (deed h a) (λ e. off (sym e)))) ∙ sym (own-append k ds (deed h a ∷ [])))
    ∙ out

-- of the caller itself the last is this act, where it touches the row, and else what was the last
mine_last : (h r : ℕ) (a : Act) (ds : List Deed) → last_on r (own h (ds ++ deed h a ∷ [])) ≡ or_else (cond (touches r a) (Some a) None) (last_on r (own h ds))
mine_last h r a ds =
    ap (last_on r) (own-append h ds (deed h a ∷ []) ∙ ap (λ (l : List Deed). own h ds ++ l) (own-mine (deed h a)))
    ∙ last_on-append r (own h ds) (deed h a ∷ [])

-- so it was a dequeue of this row, or it did not touch the row
mine_cases : (h r : ℕ) (a : Act) (ds : List Deed) → HasDequeued h r (ds ++ deed h a ∷ []) → (a ≡ acts.Deq r) ⊎ ((touches r a ≡ false) × HasDequeued h r ds)
mine_cases h r a ds out = ⊎_elim
    (λ (hit : touches r a ≡ true).
    let e : Some a ≡ Some (acts.Deq r) = ap (λ (b : Bool). or_else (cond b (Some a) None) (last_on r (own h ds))) (sym hit) ∙ sym (mine_last h r a ds) ∙ out in
    inl (cc))
    (λ (miss : touches r a ≡ false).
    inr (miss, ap (λ (b : Bool). or_else (cond b (Some a) None) (last_on r (own h ds))) (sym miss) ∙ sym (mine_last h r a ds) ∙ out))
    (cases_Bool (touches r a))

-- Dequeued rows

-- the act does not delete row r
abbrev Leaves : ℕ → Act → Type 0
Leaves r (acts.Del s) = s ≢ r
Leaves r a = Unit {0}

dequeued_row : (q : Queue) (h : ℕ) (a : Act) (r : ℕ) (x : Row) → Can q h a → Leaves r a → row_at q r ≡ Some x → x.state ≡ Dequeued → row_at (acted q h a) r ≡ Some x
dequeued_row q h (acts.Acq s) r x can leaves found out = untouched q s r (in_state (Locked h)) x (apart_rows q s r x Available found can (λ e. cc)) (λ z. refl) found
dequeued_row q h (acts.Lock s) r x can leaves found out = untouched q s r (in_state (Locked h)) x (apart_rows q s r x (Unlocked h) found can (λ e. cc)) (λ z. refl) found
dequeued_row q h (acts.Unlock s n) r x can leaves found out = untouched q s r (left_in (Unlocked h) n) x (apart_rows q s r x (Locked h) found can (λ e. cc)) (λ z. refl) found
dequeued_row q h (acts.Steal s) r x can leaves found out = untouched q s r (in_state (Locked h)) x (apart_rows q s r x (Unlocked can.0) found can.1 (λ e. cc)) (λ z. refl) found
dequeued_row q h (acts.Rel s n) r x can leaves found out = untouched q s r (left_in Available n) x (apart_rows q s r x (Locked h) found can (λ e. cc)) (λ z. refl) found
dequeued_row q h (acts.Deq s) r x can leaves found out = untouched q s r (in_state Dequeued) x (apart_rows q s r x (Locked h) found can (λ e. cc)) (λ z. refl) found
dequeued_row q h (acts.Del s) r x can leaves found out = untouched q s r (in_state Deleted) x leaves (λ z. refl) found
dequeued_row q h (acts.Reserve size) r x can leaves found out = found
dequeued_row q h (acts.GiveBack size) r x can leaves found out = found
dequeued_row q h (acts.Enq s slip content origin n) r x can leaves found out = find-append (is_row r) q.rows (record { number = s; slip = slip; state = Available; content = content; origin = origin; count = n } ∷ []) x found
dequeued_row q h (acts.Bell s c) r x can leaves found out = found
dequeued_row q h (acts.Take c l) r x can leaves found out = found

-- a dequeued row stays so in each step that does not delete it
still : (q : Queue) (h : ℕ) (a : Act) (r : ℕ) → Can q h a → Leaves r a → IsIn q r Dequeued → IsIn (acted q h a) r Dequeued
still q h a r can leaves out = (out.0, dequeued_row q h a r out.0 can leaves out.1 out.2, out.2)

-- One deed

-- who deletes a row had dequeued it
abbrev pub Owned : ℕ → List Deed → Act → Type 0
Owned h ds (acts.Del r) = HasDequeued h r ds
Owned h ds a = Unit {0}

-- an act that does not touch the row does not delete it
untouched_leaves : (r : ℕ) (a : Act) → touches r a ≡ false → Leaves r a
untouched_leaves r (acts.Del s) miss = λ e. let hit : true ≡ false = sym (eq-eqb s r e) ∙ miss in absurd (cc)
untouched_leaves r (acts.Acq s) miss = tt
untouched_leaves r (acts.Lock s) miss = tt
untouched_leaves r (acts.Unlock s n) miss = tt
untouched_leaves r (acts.Steal s) miss = tt
untouched_leaves r (acts.Rel s n) miss = tt
untouched_leaves r (acts.Deq s) miss = tt
untouched_leaves r (acts.Reserve size) miss = tt
untouched_leaves r (acts.GiveBack size) miss = tt
untouched_leaves r (acts.Enq s slip content origin n) miss = tt
untouched_leaves r (acts.Bell s c) miss = tt
untouched_leaves r (acts.Take c l) miss = tt

-- nor does that of another caller than the one that dequeued the row
other_leaves : (h r : ℕ) (ds : List Deed) (a : Act) → Owned h ds a → (HasDequeued h r ds → ⊥) → Leaves r a
other_leaves h r ds (acts.Del s) owned off = λ e. off (subst (λ (n : ℕ). HasDequeued h n ds) e owned)
other_leaves h r ds (acts.Acq s) owned off = tt
other_leaves h r ds (acts.Lock s) owned off = tt
other_leaves h r ds (acts.Unlock s n) owned off = tt
other_leaves h r ds (acts.Steal s) owned off = tt
other_leaves h r ds (acts.Rel s n) owned off = tt
other_leaves h r ds (acts.Deq s) owned off = tt
other_leaves h r ds (acts.Reserve size) owned off = tt
other_leaves h r ds (acts.GiveBack size) owned off = tt
other_leaves h r ds (acts.Enq s slip content origin n) owned off = tt
other_leaves h r ds (acts.Bell s c) owned off = tt
other_leaves h r ds (acts.Take c l) owned off = tt

-- a row that a caller is about to dequeue was dequeued by nobody
dequeues_held : (o : Queue) (ds : List Deed) (h r k : ℕ) (a : Act) → Enders o ds → Can (after o ds) h a → a ≡ acts.Deq r → HasDequeued k r ds → ⊥
dequeues_held o ds h r k a enders can is out =
    let held : IsIn (after o ds) r (Locked h) = subst (Can (after o ds) h) is can in
    let e : Dequeued ≡ Locked h = same_state (after o ds) r Dequeued (Locked h) (enders k r out).0 held in
    absurd (cc)

module _ (o : Queue) (ds : List Deed) (h : ℕ) (a : Act) (enders : Enders o ds) (can : Can (after o ds) h a) (owned : Owned h ds a) where
  more : List Deed
  more = ds ++ deed h a ∷ []

  there : after o (ds ++ deed h a ∷ []) ≡ acted (after o ds) h a
  there = after-append o ds (deed h a ∷ [])

  -- of a caller that had dequeued the row before
  before : (k r : ℕ) → HasDequeued k r ds → Leaves r a → IsIn (after o (ds ++ deed h a ∷ [])) r Dequeued
  before k r old leaves = subst (λ (q : Queue). IsIn q r Dequeued) (sym there) (still (after o ds) h a r can leaves (enders k r old).0)

  -- who has dequeued the row is the one that had, where it is not dequeued now
  one : (k r j : ℕ) → HasDequeued k r ds → (a ≡ acts.Deq r → ⊥) → HasDequeued j r (ds ++ deed h a ∷ []) → j ≡ k
  one k r j old not now = ⊎_elim
      (λ (e : j ≡ h).
      let now' : HasDequeued h r (ds ++ deed h a ∷ []) = subst (λ (n : ℕ). HasDequeued n r (ds ++ deed h a ∷ [])) e now in
      ⊎_elim
      (λ (is : a ≡ acts.Deq r). absurd (not is))
      (λ (x : (touches r a ≡ false) × HasDequeued h r ds). e ∙ (enders k r old).1 h x.1)
      (mine_cases h r a ds now'))
      (λ (off : j ≢ h). (enders k r old).1 j (other_last h j r a ds off now))
      (cases_eq j h)

  pub enders_step : Enders o (ds ++ deed h a ∷ [])
  enders_step k r now = ⊎_elim
      (λ (e : k ≡ h).
      let now' : HasDequeued h r (ds ++ deed h a ∷ []) = subst (λ (n : ℕ). HasDequeued n r (ds ++ deed h a ∷ [])) e now in
      ⊎_elim
      (λ (is : a ≡ acts.Deq r).
      let held : IsIn (after o ds) r (Locked h) = subst (Can (after o ds) h) is can in (
        subst (λ (q : Queue). IsIn q r Dequeued) (sym (there ∙ ap (acted (after o ds) h) is)) (own_dequeued (after o ds) h r held),
        (λ j x. ⊎_elim
            (λ (same : j ≡ h). same ∙ sym e)
            (λ (off : j ≢ h). absurd (dequeues_held o ds h r j a enders can is (other_last h j r a ds off x)))
            (cases_eq j h)),
      ))
      (λ (x : (touches r a ≡ false) × HasDequeued h r ds). (
        before h r x.1 (untouched_leaves r a x.0),
        (λ j y. one h r j x.1 (λ is. let hit : true ≡ false = sym (eq-eqb r r refl) ∙ ap (touches r) (sym is) ∙ x.0 in absurd (cc)) y ∙ sym e),
      ))
      (mine_cases h r a ds now'))
      (λ (off : k ≢ h).
      let old : HasDequeued k r ds = other_last h k r a ds off now in (
        before k r old (other_leaves h r ds a owned (λ x. off (sym ((enders k r old).1 h x)))),
        (λ j y. one k r j old (λ is. dequeues_held o ds h r k a enders can is old) y),
      ))
      (cases_eq k h)

-- Many deeds

-- the act deletes nothing
abbrev pub Spares : Act → Type 0
Spares (acts.Del r) = ⊥
Spares a = Unit {0}

spares_owned : (h : ℕ) (ds : List Deed) (a : Act) → Spares a → Owned h ds a
spares_owned h ds (acts.Del r) spares = absurd spares
spares_owned h ds (acts.Acq s) spares = tt
spares_owned h ds (acts.Lock s) spares = tt
spares_owned h ds (acts.Unlock s n) spares = tt
spares_owned h ds (acts.Steal s) spares = tt
spares_owned h ds (acts.Rel s n) spares = tt
spares_owned h ds (acts.Deq s) spares = tt
spares_owned h ds (acts.Reserve size) spares = tt
spares_owned h ds (acts.GiveBack size) spares = tt
spares_owned h ds (acts.Enq s slip content origin n) spares = tt
spares_owned h ds (acts.Bell s c) spares = tt
spares_owned h ds (acts.Take c l) spares = tt

pub enders_on : (o : Queue) (ds : List Deed) (h : ℕ) (xs : List Act) → AllByRecursion Spares xs → Legal (after o ds) (deeds_of h xs) → Enders o ds → Enders o (ds ++ deeds_of h xs)
enders_on o ds h [] spares legal enders = subst (Enders o) (sym (append-nil ds)) enders
enders_on o ds h (a ∷ xs) spares legal enders =
    let mid : List Deed = ds ++ deed h a ∷ [] in
    let there : after o mid ≡ acted (after o ds) h a = after-append o ds (deed h a ∷ []) in
    let next : Enders o mid = enders_step o ds h a enders legal.0 (spares_owned h ds a spares.0) in
    subst (Enders o) (append_assoc ds (deed h a ∷ []) (deeds_of h xs)) (enders_on o mid h xs spares.1 (subst (λ (q : Queue). Legal q (deeds_of h xs)) (sym there) legal.1) next)

-- Rows that a caller left

-- the last act on the row is this deed, or one behind it
left_by : (q : Queue) (d : Deed) (ds : List Deed) (r n : ℕ) (mine : List Deed) (x : Option Act) → Can q d.caller d.act → (last_on r mine ≡ Some (acts.Unlock r n) → Has (after q (d ∷ ds)) r) → last_on r mine ≡ x → last_on r (d ∷ mine) ≡ Some (acts.Unlock r n) → Has (after q (d ∷ ds)) r
left_by q d ds r n mine (Some a) can again is left =
    let same : Some a ≡ Some (acts.Unlock r n) = ap (λ (x : Option Act). or_else x (cond (touches r d.act) (Some d.act) None)) (sym is) ∙ left in
    again (is ∙ same)
left_by q d ds r n mine None can again is left =
    let here : cond (touches r d.act) (Some d.act) None ≡ Some (acts.Unlock r n) = ap (λ (x : Option Act). or_else x (cond (touches r d.act) (Some d.act) None)) (sym is) ∙ left in
    ⊎_elim
    (λ (hit : touches r d.act ≡ true).
    let a : Some d.act ≡ Some (acts.Unlock r n) = ap (λ (b : Bool). cond b (Some d.act) None) (sym hit) ∙ here in
    let act : d.act ≡ acts.Unlock r n = cc in
    let held : IsIn q r (Locked d.caller) = subst (Can q d.caller) act can in
    let later = row_stays q (d ∷ ds) r held.0 held.1 in
    (later.0, later.1))
    (λ (miss : touches r d.act ≡ false).
    let a : None ≡ Some (acts.Unlock r n) = ap (λ (b : Bool). cond b (Some d.act) None) (sym miss) ∙ here in
    absurd (cc))
    (cases_Bool (touches r d.act))

-- a row that the caller left is there
pub left_there : (q : Queue) (ds : List Deed) (h r n : ℕ) → Legal q ds → last_on r (own h ds) ≡ Some (acts.Unlock r n) → Has (after q ds) r
left_there q [] h r n legal left = absurd (cc)
left_there q (d ∷ ds) h r n legal left = ⊎_elim
    (λ (e : d.caller ≡ h).
    let all : own h (d ∷ ds) ≡ d ∷ own h ds = subst (λ (k : ℕ). own k (d ∷ ds) ≡ d ∷ own k ds) e (own-cons_mine d ds) in
    left_by q d ds r n (own h ds) (last_on r (own h ds)) legal.0 (λ x. left_there (acted q d.caller d.act) ds h r n legal.1 x) refl (ap (last_on r) (sym all) ∙ left))
    (λ (off : d.caller ≢ h). left_there (acted q d.caller d.act) ds h r n legal.1 (ap (last_on r) (sym (own-cons_other h d ds off)) ∙ left))
    (cases_eq d.caller h)
