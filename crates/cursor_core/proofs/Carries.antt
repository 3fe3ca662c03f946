-- what was looked at, or is rung, stays so
use Rattle.std.proofs.Common.{◌≡◌, ◌≢◌, inl, inr, ℕ, ◌≤◌, ◌==◌, ◌&&◌, nat_lt, Bool, true, false, Option, Some, None, List, [], ◌∷◌, ◌++◌, refl, sym, ap, ◌∙◌, subst, ⊎_elim, append_assoc, append-nil, eqb-true, eq-eqb, arith}
use Rattle.std.proofs.lemmas.Bool.{cases_Bool, cases_eq, cond-true, cond-false, ltb-false, ltb-true}
use Rattle.queue_model.specs.declared.deeds.Act.{Act}
use Rattle.queue_model.specs.declared.deeds.Act.TheVariants.{Acq, Lock, Unlock, Steal, Rel, Deq, Del, Reserve, GiveBack, Enq, Bell, Take}
use Rattle.queue_model.specs.declared.deeds.Deed.{Deed}
use Rattle.queue_model.specs.declared.queues.Queue.{Queue}
use Rattle.queue_model.specs.declared.queues.Bell as ring
use Rattle.queue_model.specs.History.{after, Legal}
use Rattle.queue_model.specs.State.{row_at, list_at, place_at, bell_at}
use Rattle.queue_model.specs.Table.{Can, acted, earlier}
use Rattle.queue_model.proofs.Bells.{bell_step, bell_rung}
use Rattle.queue_model.proofs.Stable.{row_stays, list_step, list_stays, place_step, place_stays}
use Rattle.queue_model.proofs.Histories.{after-append, legal_rest}
use Rattle.queue_model.proofs.Prefixes.{prefix_more}
use Rattle.acts_core.specs.Owed.{Has, marks, mark, Looked, takes, taken}
use Rattle.cursor_core.specs.Truths.{Rings, LookedOr}
use Rattle.cursor_core.proofs.Marks.{mark_miss, looked_more, filter_none-head, filter_none-tail}

-- Both of a test of two
and_true : (a b : Bool) → (a && b) ≡ true → (a ≡ true) × (b ≡ true)
and_true true b e = (refl, e)
and_true false b e = absurd (cc)

-- the earlier of a new bell and what was there is there, and at or before both
earlier_low : (b : ring.Bell) (old : Option ring.Bell) → (d : ring.Bell) × (earlier b old ≡ Some d) × (d.place ≤ b.place)
earlier_low b None = (b, refl, omega arith)
earlier_low b (Some a) = ⊎_elim
    (λ (first : nat_lt b.place a.place ≡ true). (b, cond-true (nat_lt b.place a.place) (Some b) (Some a) first, omega arith))
    (λ (second : nat_lt b.place a.place ≡ false). (a, cond-false (nat_lt b.place a.place) (Some b) (Some a) second, ltb-false b.place a.place second))
    (cases_Bool (nat_lt b.place a.place))

earlier_old : (b a : ring.Bell) → (d : ring.Bell) × (earlier b (Some a) ≡ Some d) × (d.place ≤ a.place)
earlier_old b a = ⊎_elim
    (λ (first : nat_lt b.place a.place ≡ true). let low = ltb-true b.place a.place first in (b, cond-true (nat_lt b.place a.place) (Some b) (Some a) first, omega (arith, low)))
    (λ (second : nat_lt b.place a.place ≡ false). (a, cond-false (nat_lt b.place a.place) (Some b) (Some a) second, omega arith))
    (cases_Bool (nat_lt b.place a.place))

-- there is a bell of consumer c at list l, at or before place n
abbrev RingsAt : Queue → ℕ → ℕ → ℕ → Type 0
RingsAt q c l n = (b : ring.Bell) × (bell_at q c l ≡ Some b) × (b.place ≤ n)

-- a bell that is rung is at or before where it was
rung_still : (q : Queue) (h s c n : ℕ) → RingsAt q c (list_at q s) n → RingsAt (acted q h (Bell s c)) c (list_at q s) n
rung_still q h s c n r =
    let b : ring.Bell = record { consumer = c; list = list_at q s; place = place_at q s; row = s } in
    let t = earlier_old b r.0 in
    (t.0, bell_rung q h s c ∙ ap (earlier b) r.1 ∙ t.1, omega (arith, t.2, r.2))

-- a bell that another rings stays
rung_step : (q : Queue) (h s d c l n : ℕ) → RingsAt q c l n → RingsAt (acted q h (Bell s d)) c l n
rung_step q h s d c l n r = ⊎_elim
    (λ (me : d ≡ c). ⊎_elim
    (λ (here : list_at q s ≡ l).
    subst (λ (k : ℕ). RingsAt (acted q h (Bell s k)) c l n) (sym me)
    (subst (λ (m : ℕ). RingsAt (acted q h (Bell s c)) c m n) here
    (rung_still q h s c n (subst (λ (m : ℕ). RingsAt q c m n) (sym here) r))))
    (λ (away : list_at q s ≢ l). (r.0, bell_step q h (Bell s d) c l (λ e. away) ∙ r.1, r.2))
    (cases_eq (list_at q s) l))
    (λ (other : d ≢ c). (r.0, bell_step q h (Bell s d) c l (λ e. absurd (other e)) ∙ r.1, r.2))
    (cases_eq d c)

-- a test of two that fails
and_false : (d c m l : ℕ) → ((d == c) && (m == l)) ≡ false → d ≡ c → m ≢ l
and_false d c m l e f g =
    let bad : true ≡ false = sym (ap (λ (b : Bool). b && (m == l)) (eq-eqb d c f) ∙ eq-eqb m l g) ∙ e in
    absurd (cc)

-- a bell stays, or gets earlier, where it isn't taken
rings_step : (q : Queue) (h : ℕ) (a : Act) (c l n : ℕ) → takes c l a ≡ false → RingsAt q c l n → RingsAt (acted q h a) c l n
rings_step q h (Acq s) c l n un r = r
rings_step q h (Lock s) c l n un r = r
rings_step q h (Unlock s k) c l n un r = r
rings_step q h (Steal s) c l n un r = r
rings_step q h (Rel s k) c l n un r = r
rings_step q h (Deq s) c l n un r = r
rings_step q h (Del s) c l n un r = r
rings_step q h (Reserve size) c l n un r = r
rings_step q h (GiveBack size) c l n un r = r
rings_step q h (Enq s slip content origin k) c l n un r = r
rings_step q h (Bell s d) c l n un r = rung_step q h s d c l n r
rings_step q h (Take d m) c l n un r = (r.0, bell_step q h (Take d m) c l (λ e. and_false d c m l un e) ∙ r.1, r.2)

-- an act that marks a row that is there rings its bell
marked_rings : (q : Queue) (h : ℕ) (a : Act) (c e : ℕ) → Can q h a → Has q e → marks c e a ≡ true → RingsAt (acted q h a) c (list_at q e) (place_at q e)
marked_rings q h (Acq s) c e can has hit = absurd (cc)
marked_rings q h (Lock s) c e can has hit = absurd (cc)
marked_rings q h (Unlock s k) c e can has hit = absurd (cc)
marked_rings q h (Steal s) c e can has hit = absurd (cc)
marked_rings q h (Rel s k) c e can has hit = absurd (cc)
marked_rings q h (Deq s) c e can has hit = absurd (cc)
marked_rings q h (Del s) c e can has hit = absurd (cc)
marked_rings q h (Reserve size) c e can has hit = absurd (cc)
marked_rings q h (GiveBack size) c e can has hit = absurd (cc)
marked_rings q h (Enq s slip content origin k) c e can has hit =
    let bad : None ≡ Some has.0 = sym can.new ∙ ap (row_at q) (eqb-true s e hit) ∙ has.1 in
    absurd (cc)
marked_rings q h (Bell s d) c e can has hit =
    let both = and_true (s == e) (d == c) hit in
    let b : ring.Bell = record { consumer = c; list = list_at q e; place = place_at q e; row = e } in
    let t = earlier_low b (bell_at q c (list_at q e)) in
    subst (λ (r : ℕ). RingsAt (acted q h (Bell r d)) c (list_at q e) (place_at q e)) (sym (eqb-true s e both.0))
    (subst (λ (k : ℕ). RingsAt (acted q h (Bell e k)) c (list_at q e) (place_at q e)) (sym (eqb-true d c both.1))
    (t.0, bell_rung q h e c ∙ t.1, t.2))
marked_rings q h (Take d m) c e can has hit = absurd (cc)

-- where a bell is, seen from the state after a step
rings_there : (q : Queue) (h : ℕ) (a : Act) (c e : ℕ) → Has q e → RingsAt (acted q h a) c (list_at q e) (place_at q e) → Rings (acted q h a) c e
rings_there q h a c e has r =
    subst (λ (l : ℕ). RingsAt (acted q h a) c l (place_at (acted q h a) e)) (sym (list_step q h a e has.0 has.1))
    (subst (λ (n : ℕ). RingsAt (acted q h a) c (list_at q e) n) (sym (place_step q h a e has.0 has.1)) r)

-- one deed
carry_step : (o : Queue) (c e : ℕ) (ds : List Deed) (d : Deed) → Can (after o ds) d.caller d.act → Has (after o ds) e → takes c (list_at (after o ds) e) d.act ≡ false
    → LookedOr o c e ds → LookedOr o c e (ds ++ d ∷ [])
carry_step o c e ds d can has un looked =
    let q = after o ds in
    let back : acted q d.caller d.act ≡ after o (ds ++ d ∷ []) = sym (after-append o ds (d ∷ [])) in
    ⊎_elim
    (λ (hit : marks c e d.act ≡ true).
    inr (subst (λ (s : Queue). Rings s c e) back (rings_there q d.caller d.act c e has (marked_rings q d.caller d.act c e can has hit))))
    (λ (miss : marks c e d.act ≡ false). ⊎_elim
    (λ (l : Looked o c e (mark c e ds) ds).
    inl (subst (λ (n : ℕ). Looked o c e n (ds ++ d ∷ [])) (sym (mark_miss c e ds d miss)) (looked_more o c e (mark c e ds) ds (ds ++ d ∷ []) (prefix_more ds (d ∷ [])) l)))
    (λ (r : Rings q c e).
    inr (subst (λ (s : Queue). Rings s c e) back (rings_there q d.caller d.act c e has (rings_step q d.caller d.act c (list_at q e) (place_at q e) un r))))
    looked)
    (cases_Bool (marks c e d.act))

-- a row stays in the queue, and in its list
pub has_more : (o : Queue) (e : ℕ) (ds es : List Deed) → Has (after o ds) e → Has (after o (ds ++ es)) e
has_more o e ds es has =
    let t = row_stays (after o ds) es e has.0 has.1 in
    (t.0, ap (λ (s : Queue). row_at s e) (after-append o ds es) ∙ t.1)

pub list_more : (o : Queue) (e : ℕ) (ds es : List Deed) → Has (after o ds) e → list_at (after o (ds ++ es)) e ≡ list_at (after o ds) e
list_more o e ds es has = ap (λ (s : Queue). list_at s e) (after-append o ds es) ∙ list_stays (after o ds) es e has.0 has.1

pub place_more : (o : Queue) (e : ℕ) (ds es : List Deed) → Has (after o ds) e → place_at (after o (ds ++ es)) e ≡ place_at (after o ds) e
place_more o e ds es has = ap (λ (s : Queue). place_at s e) (after-append o ds es) ∙ place_stays (after o ds) es e has.0 has.1

-- and all of a history in which the bell isn't taken
pub row_carries : (o : Queue) (c e : ℕ) (ds es : List Deed) → Legal o (ds ++ es) → Has (after o ds) e → taken c (list_at (after o ds) e) es ≡ []
    → LookedOr o c e ds → LookedOr o c e (ds ++ es)
row_carries o c e ds [] legal has un looked = subst (LookedOr o c e) (sym (append-nil ds)) looked
row_carries o c e ds (d ∷ es) legal has un looked =
    let l = list_at (after o ds) e in
    let assoc : (ds ++ d ∷ []) ++ es ≡ ds ++ d ∷ es = append_assoc ds (d ∷ []) es in
    let step = legal_rest o ds (d ∷ es) legal in
    let one = carry_step o c e ds d step.0 has (filter_none-head (λ (x : Deed). takes c l x.act) d es un) looked in
    let rest : taken c (list_at (after o (ds ++ d ∷ [])) e) es ≡ [] =
    subst (λ (m : ℕ). taken c m es ≡ []) (sym (list_more o e ds (d ∷ []) has)) (filter_none-tail (λ (x : Deed). takes c l x.act) d es un) in
    subst (LookedOr o c e) assoc
    (row_carries o c e (ds ++ d ∷ []) es (subst (Legal o) (sym assoc) legal) (has_more o e ds (d ∷ []) has) rest one)
