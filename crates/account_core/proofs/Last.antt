-- who left a row in its state
use Rattle.std.proofs.Common.{◌≡◌, ◌≢◌, ◌⊎◌, inl, inr, ℕ, ◌==◌, Bool, true, false, cond, Option, Some, None, List, [], ◌∷◌, ◌++◌, find, refl, sym, ap, ◌∙◌, subst, ⊎_elim, eq-eqb, ne_eqb}
use Rattle.std.proofs.lemmas.Bool.{cases_eq}
use Rattle.queue_model.specs.declared.deeds.Act.{Act}
use Rattle.queue_model.specs.declared.deeds.Act.TheVariants.{Acq, Lock, Unlock, Steal, Rel, Deq, Del, Reserve, GiveBack, Enq, Bell, Take}
use Rattle.queue_model.specs.declared.deeds.Deed.{Deed}
use Rattle.queue_model.specs.declared.queues.Queue.{Queue}
use Rattle.queue_model.specs.declared.rows.Row.{Row}
use Rattle.queue_model.specs.declared.rows.RowState.{RowState}
use Rattle.queue_model.specs.declared.rows.RowState.TheVariants.{Available, Locked, Unlocked, Dequeued, Deleted}
use Rattle.queue_model.specs.History.{after, Legal, own, is_by}
use Rattle.queue_model.specs.State.{is_row, row_at, IsIn}
use Rattle.queue_model.specs.Table.{Can, changed, in_state, left_in, acted}
use Rattle.queue_model.proofs.Histories.{own-cons_mine}
use Rattle.queue_model.proofs.KeyedLemmas.{find-append}
use Rattle.queue_model.proofs.Owns.{changed_in}
use Rattle.queue_model.proofs.RowFacts.{row_elsewhere}
use Rattle.acts_core.specs.Asked.{touches, or_else, last_on}
use Rattle.account_core.specs.Last.{leads_to}
use Rattle.account_core.proofs.Once.{one_state}

-- over a change of row s
over : (q : Queue) (s r : ℕ) (f : Row → Row) (x : Row) (t u : RowState) → ((z : Row) → (f z).number ≡ z.number) → ((z : Row) → (f z).state ≡ t) → row_at q s ≡ Some x → IsIn (changed q s f) r u
    → (((s == r) ≡ false) × IsIn q r u) ⊎ (((s == r) ≡ true) × (t ≡ u))
over q s r f x t u number state found is = ⊎_elim
    (λ (e : s ≡ r). inr (eq-eqb s r e, one_state (changed q s f) r t u (subst (λ (n : ℕ). IsIn (changed q s f) n t) e (changed_in q s f x t found (number x) (state x))) is))
    (λ (other : s ≢ r). inl (ne_eqb s r other, (is.0, sym (row_elsewhere q s r f other number) ∙ is.1, is.2)))
    (cases_eq s r)

-- behind a new row
behind : (xs : List Row) (y : Row) (r : ℕ) (u : RowState) (o : Option Row) → find (is_row r) xs ≡ o → y.state ≡ Available → u ≢ Available → (x : Row) × (find (is_row r) (xs ++ y ∷ []) ≡ Some x) × (x.state ≡ u) → (x : Row) × (find (is_row r) xs ≡ Some x) × (x.state ≡ u)
behind xs y r u (Some z) old new other is = let found = find-append (is_row r) xs (y ∷ []) z old in let again = is.1 in let e : z ≡ is.0 = (cc) in (z, old, ap (λ (w : Row). w.state) e ∙ is.2)
behind xs y r u None old new other is = absurd (other (sym is.2 ∙ ap (λ (w : Row). w.state) (came xs old is.1) ∙ new)) where
  came : (ys : List Row) → find (is_row r) ys ≡ None → find (is_row r) (ys ++ y ∷ []) ≡ Some is.0 → is.0 ≡ y
  came [] gone at = by_test (is_row r y) at where
    by_test : (b : Bool) → cond b (Some y) None ≡ Some is.0 → is.0 ≡ y
    by_test true e = (cc)
    by_test false e = absurd (cc)
  came (z ∷ zs) gone at = step (is_row r z) gone at (came zs) where
    step : (b : Bool) → cond b (Some z) (find (is_row r) zs) ≡ None → cond b (Some z) (find (is_row r) (zs ++ y ∷ [])) ≡ Some is.0 → (find (is_row r) zs ≡ None → find (is_row r) (zs ++ y ∷ []) ≡ Some is.0 → is.0 ≡ y) → is.0 ≡ y
    step true e at others = absurd (cc)
    step false e at others = others e at

-- a step leads to the state, or leaves the row as it was
back : (q : Queue) (h : ℕ) (a : Act) (r : ℕ) (u : RowState) → Can q h a → IsIn (acted q h a) r u → u ≢ Available → ((touches r a ≡ false) × IsIn q r u) ⊎ ((touches r a ≡ true) × (leads_to h a ≡ Some u))
back q h a r u can is other = told a can is where
  some : {t : RowState} {b : Bool} {P : Type 0} → ((b ≡ false) × P) ⊎ ((b ≡ true) × (t ≡ u)) → ((b ≡ false) × P) ⊎ ((b ≡ true) × (Some t ≡ Some u))
  some (inl x) = inl x
  some (inr (hit, e)) = inr (hit, ap (λ (z : RowState). Some z) e)

  told : (a : Act) → Can q h a → IsIn (acted q h a) r u → ((touches r a ≡ false) × IsIn q r u) ⊎ ((touches r a ≡ true) × (leads_to h a ≡ Some u))
  told (Acq s) c i = some (over q s r (in_state (Locked h)) c.0 (Locked h) u (λ z. refl) (λ z. refl) c.1 i)
  told (Lock s) c i = some (over q s r (in_state (Locked h)) c.0 (Locked h) u (λ z. refl) (λ z. refl) c.1 i)
  told (Unlock s n) c i = some (over q s r (left_in (Unlocked h) n) c.0 (Unlocked h) u (λ z. refl) (λ z. refl) c.1 i)
  told (Steal s) c i = some (over q s r (in_state (Locked h)) c.1.0 (Locked h) u (λ z. refl) (λ z. refl) c.1.1 i)
  told (Rel s n) c i = some (over q s r (left_in Available n) c.0 Available u (λ z. refl) (λ z. refl) c.1 i)
  told (Deq s) c i = some (over q s r (in_state Dequeued) c.0 Dequeued u (λ z. refl) (λ z. refl) c.1 i)
  told (Del s) c i = some (over q s r (in_state Deleted) c.0 Deleted u (λ z. refl) (λ z. refl) c.1 i)
  told (Reserve size) c i = inl (refl, i)
  told (GiveBack size) c i = inl (refl, i)
  told (Enq s slip content origin n) c i = inl (refl, behind q.rows (record { number = s; slip = slip; state = Available; content = content; origin = origin; count = n }) r u (row_at q r) refl refl other i)
  told (Bell s c') c i = inl (refl, i)
  told (Take c' l) c i = inl (refl, i)

-- a deed in front
last_more : (k r : ℕ) (d : Deed) (ds : List Deed) (a : Act) → last_on r (own k ds) ≡ Some a → last_on r (own k (d ∷ ds)) ≡ Some a
last_more k r d ds a last = by_test (is_by k d) where
  by_test : (b : Bool) → last_on r (cond b (d ∷ own k ds) (own k ds)) ≡ Some a
  by_test true = ap (λ (o : Option Act). or_else o (cond (touches r d.act) (Some d.act) None)) last
  by_test false = last

none_more : (k r : ℕ) (d : Deed) (ds : List Deed) → last_on r (own k ds) ≡ None → touches r d.act ≡ false → last_on r (own k (d ∷ ds)) ≡ None
none_more k r d ds none miss = by_test (is_by k d) where
  by_test : (b : Bool) → last_on r (cond b (d ∷ own k ds) (own k ds)) ≡ None
  by_test true = ap (λ (o : Option Act). or_else o (cond (touches r d.act) (Some d.act) None)) none ∙ ap (λ (b : Bool). cond b (Some d.act) None) miss
  by_test false = none

hits : (r : ℕ) (d : Deed) (ds : List Deed) → last_on r (own d.caller ds) ≡ None → touches r d.act ≡ true → last_on r (own d.caller (d ∷ ds)) ≡ Some d.act
hits r d ds none hit =
    ap (last_on r) (own-cons_mine d ds)
    ∙ ap (λ (o : Option Act). or_else o (cond (touches r d.act) (Some d.act) None)) none
    ∙ ap (λ (b : Bool). cond b (Some d.act) None) hit

pub last_touch : (o : Queue) (ds : List Deed) (r : ℕ) (s : RowState) → Legal o ds → IsIn (after o ds) r s → s ≢ Available
    → (IsIn o r s × ((k : ℕ) → last_on r (own k ds) ≡ None)) ⊎ ((k : ℕ) × (a : Act) × (last_on r (own k ds) ≡ Some a) × (leads_to k a ≡ Some s))
last_touch o [] r s legal is other = inl (is, λ k. refl)
last_touch o (d ∷ ds) r s legal is other = told (last_touch (acted o d.caller d.act) ds r s legal.1 is other) where
  told : (IsIn (acted o d.caller d.act) r s × ((k : ℕ) → last_on r (own k ds) ≡ None)) ⊎ ((k : ℕ) × (a : Act) × (last_on r (own k ds) ≡ Some a) × (leads_to k a ≡ Some s))
      → (IsIn o r s × ((k : ℕ) → last_on r (own k (d ∷ ds)) ≡ None)) ⊎ ((k : ℕ) × (a : Act) × (last_on r (own k (d ∷ ds)) ≡ Some a) × (leads_to k a ≡ Some s))
  told (inr (k, a, last, leads)) = inr (k, a, last_more k r d ds a last, leads)
  told (inl (here, none)) = ⊎_elim
      (λ (x : (touches r d.act ≡ false) × IsIn o r s). inl (x.1, λ k. none_more k r d ds (none k) x.0))
      (λ (x : (touches r d.act ≡ true) × (leads_to d.caller d.act ≡ Some s)). inr (d.caller, d.act, hits r d ds (none d.caller) x.0, x.1))
      (back o d.caller d.act r s legal.0 here other)
