-- what a caller did last to each row, by its calls and by what it has in its hands
use Rattle.std.proofs.Common.{◌≡◌, ◌≢◌, ◌⊎◌, inl, inr, ℕ, ◌==◌, nat_eq, Bool, true, false, cond, Option, Some, None, List, [], ◌∷◌, ◌++◌, refl, sym, ap, ◌∙◌, subst, ⊎_elim, eq-eqb, ne_eqb, eqb-true}
use Rattle.std.proofs.lemmas.Bool.{and_parts, cases_eq}
use Rattle.std.specs.List.{AllByRecursion}
use Rattle.queue_model.specs.declared.deeds.Act.{Act}
use Rattle.queue_model.specs.declared.deeds.Act.TheVariants.{Acq, Lock, Steal, Deq}
use Rattle.queue_model.specs.declared.queues.Queue.{Queue}
use Rattle.queue_model.specs.declared.rows.Row.{Row}
use Rattle.queue_model.specs.State.{row_at}
use Rattle.acts_core.specs.Asked.{touches, or_else}
use Rattle.acts_core.specs.Calls.{acts_of}
use Rattle.acts_core.specs.Load.{Load}
use Rattle.acts_core.specs.Sight.{Plan}
use Rattle.line_core.specs.Fits.{Did, On}
use Rattle.line_core.specs.Hands.{Hand, is_this}
use Rattle.line_core.specs.Runs.{calls_on}
use Rattle.account_core.proofs.Acting.{acts_by, call_touches, last_act, last_act_append, on_row, or_assoc, or_none, touch}
use Rattle.account_core.proofs.Handing.{In, Moves}

-- Acts

-- the act locks its row
abbrev pub locks : Option Act → Bool
locks (Some (Acq r)) = true
locks (Some (Lock r)) = true
locks (Some (Steal r)) = true
locks a = false

-- the act takes its row out of the queue, and leaves it to be deleted
abbrev pub dequeues : Option Act → Bool
dequeues (Some (Deq r)) = true
dequeues a = false

-- the last act of a call on queue q that changes the state of row r
abbrev pub did_last : ℕ → ℕ → Did → Option Act
did_last q r (On s call answer) = cond (nat_eq s q) (on_row r (touch call answer)) None

-- and that of many calls
abbrev pub dids_last : ℕ → ℕ → List Did → Option Act
dids_last q r [] = None
dids_last q r (d ∷ ds) = or_else (dids_last q r ds) (did_last q r d)

-- the last act of the calls on a queue is that of all calls there
pub last_of_dids : (p : Plan) (q r : ℕ) (ds : List Did) → last_act r (acts_by p (calls_on q ds)) ≡ dids_last q r ds
last_of_dids p q r [] = refl
last_of_dids p q r (On s call answer ∷ ds) = by_test (nat_eq s q) (last_of_dids p q r ds) where
  by_test : (b : Bool) → last_act r (acts_by p (calls_on q ds)) ≡ dids_last q r ds
      → last_act r (acts_by p (cond b ((call, answer) ∷ calls_on q ds) (calls_on q ds))) ≡ or_else (dids_last q r ds) (cond b (on_row r (touch call answer)) None)
  by_test true rest =
      last_act_append r (acts_of p call answer) (acts_by p (calls_on q ds))
      ∙ ap (λ (o : Option Act). or_else o (last_act r (acts_of p call answer))) rest
      ∙ ap (or_else (dids_last q r ds)) (call_touches p r call answer)
  by_test false rest = rest ∙ sym (or_none (dids_last q r ds))

-- of two lists the second counts first
pub dids_last_append : (q r : ℕ) (xs ys : List Did) → dids_last q r (xs ++ ys) ≡ or_else (dids_last q r ys) (dids_last q r xs)
dids_last_append q r [] ys = sym (or_none (dids_last q r ys))
dids_last_append q r (x ∷ xs) ys =
    ap (λ (a : Option Act). or_else a (did_last q r x)) (dids_last_append q r xs ys)
    ∙ or_assoc (dids_last q r ys) (dids_last q r xs) (did_last q r x)

-- what is last in the second list is last in both
pub last_behind : (q r : ℕ) (xs ys : List Did) (a : Act) → dids_last q r ys ≡ Some a → dids_last q r (xs ++ ys) ≡ Some a
last_behind q r xs ys a last = dids_last_append q r xs ys ∙ ap (λ (o : Option Act). or_else o (dids_last q r xs)) last

-- and where the second touches it not it is that of the first
pub last_before : (q r : ℕ) (xs ys : List Did) → dids_last q r ys ≡ None → dids_last q r (xs ++ ys) ≡ dids_last q r xs
last_before q r xs ys none = dids_last_append q r xs ys ∙ ap (λ (o : Option Act). or_else o (dids_last q r xs)) none

-- Calls that aim at one row

-- the act, if there is one, changes the state of row r alone
abbrev pub OnlyOn : ℕ → Option Act → Type 0
OnlyOn r None = Unit {0}
OnlyOn r (Some a) = (s : ℕ) → touches s a ≡ (r == s)

-- the call is on queue q, and changes the state of row r alone, if of any
abbrev pub AimsAt : ℕ → ℕ → Did → Type 0
AimsAt q r (On s call answer) = (s ≡ q) × OnlyOn r (touch call answer)

-- row s of queue p is row r of queue q
record IsHit (q r p s : ℕ) : Type 0 where
  queue : q ≡ p
  row : r ≡ s

-- it is that row or it is not
hit_or_not : (q r p s : ℕ) → IsHit q r p s ⊎ (IsHit q r p s → ⊥)
hit_or_not q r p s = ⊎_elim
    (λ (e : q ≡ p). ⊎_elim (λ (f : r ≡ s). inl (record { queue = e; row = f })) (λ (f : r ≢ s). inr (λ (h : IsHit q r p s). f h.row)) (cases_eq r s))
    (λ (e : q ≢ p). inr (λ (h : IsHit q r p s). e h.queue))
    (cases_eq q p)

-- a call that aims at another row leaves this one
missed : (q r p s : ℕ) (o : Option Act) → OnlyOn r o → (IsHit q r p s → ⊥) → cond (nat_eq q p) (on_row s o) None ≡ None
missed q r p s None only miss = elim (nat_eq q p) as (λ b. cond b (on_row s None) None ≡ None) [ true ↦ refl | false ↦ refl ]
missed q r p s (Some a) only miss = ⊎_elim
    (λ (e : q ≡ p).
    let other : (r == s) ≡ false = ne_eqb r s (λ (f : r ≡ s). miss (record { queue = e; row = f })) in
    let misses : touches s a ≡ false = only s ∙ other in
    ap (λ (b : Bool). cond b (on_row s (Some a)) None) (eq-eqb q p e) ∙ ap (λ (b : Bool). cond b (Some a) None) misses)
    (λ (e : q ≢ p). ap (λ (b : Bool). cond b (on_row s (Some a)) None) (ne_eqb q p e))
    (cases_eq q p)

-- and so do many
all_missed : (q r p s : ℕ) (ds : List Did) → AllByRecursion (AimsAt q r) ds → (IsHit q r p s → ⊥) → dids_last p s ds ≡ None
all_missed q r p s [] aims miss = refl
all_missed q r p s (On t call answer ∷ ds) aims miss =
    ap (λ (o : Option Act). or_else o (did_last p s (On t call answer))) (all_missed q r p s ds aims.1 miss)
    ∙ ap (λ (n : ℕ). cond (nat_eq n p) (on_row s (touch call answer)) None) aims.0.0
    ∙ missed q r p s (touch call answer) aims.0.1 miss

-- a call that touches its row
pub did_hit : (q r p s : ℕ) (a : Act) → q ≡ p → touches s a ≡ (r == s) → r ≡ s → cond (nat_eq q p) (cond (touches s a) (Some a) None) None ≡ Some a
did_hit q r p s a queue only row =
    ap (λ (b : Bool). cond b (cond (touches s a) (Some a) None) None) (eq-eqb q p queue)
    ∙ ap (λ (b : Bool). cond b (Some a) None) (only ∙ eq-eqb r s row)

-- The hands

-- the state has a row r, of this id
abbrev pub HasRow : Queue → ℕ → ℕ → Type 0
HasRow all r id = (x : Row) × (row_at all r ≡ Some x) × (x.slip.id ≡ id)

-- no id is of two rows
abbrev pub IdsApart : Queue → Type 0
IdsApart all = (r s : ℕ) (x y : Row) → row_at all r ≡ Some x → row_at all s ≡ Some y → x.slip.id ≡ y.slip.id → r ≡ s

-- a locked entry of row r of queue q is in the hands
pub record Held (q r : ℕ) (hands : List Hand) : Type 0 where
  pub hand : Hand
  pub load : Load
  pub there : In hand hands
  pub queue : hand.queue ≡ q
  pub row : hand.row ≡ r
  pub locked : hand.cargo ≡ Some load

-- The hands after calls, where the queue has all these rows in the end: each entry of queue q has its row; a row that the
-- caller locked last is in the hands, locked; and it dequeued none last.
pub record Tracks (q : ℕ) (all : Queue) (dids : List Did) (hands : List Hand) : Type 0 where
  pub rows : (k : Hand) → In k hands → k.queue ≡ q → HasRow all k.row k.id
  pub free : (k : Hand) → In k hands → k.queue ≡ q → k.cargo ≡ None → locks (dids_last q k.row dids) ≡ false
  pub held : (r : ℕ) → locks (dids_last q r dids) ≡ true → Held q r hands
  pub gone : (r : ℕ) → dequeues (dids_last q r dids) ≡ false

-- nothing was done
pub tracks_none : (q : ℕ) (all : Queue) → Tracks q all [] []
tracks_none q all = record { rows = λ k is queue. absurd is; free = λ k is queue unlocked. absurd is; held = λ r e. absurd (cc); gone = λ r. refl }

-- calls that touch no row
pub tracks_quiet : (q : ℕ) (all : Queue) (dids ds : List Did) (hands : List Hand) → ((r : ℕ) → dids_last q r ds ≡ None) → Tracks q all dids hands → Tracks q all (dids ++ ds) hands
tracks_quiet q all dids ds hands none t = record {
  rows = t.rows;
  free = λ k is queue unlocked. ap locks (last_before q k.row dids ds (none k.row)) ∙ t.free k is queue unlocked;
  held = λ r e. t.held r (sym (ap locks (last_before q r dids ds (none r))) ∙ e);
  gone = λ r. ap dequeues (last_before q r dids ds (none r)) ∙ t.gone r;
}

-- what a line's last act on its row must be, by the entry that it leaves in the hands, if any
pub record Ends (new : Option Hand) (o : Option Act) : Type 0 where
  pub gone : dequeues o ≡ false
  pub held : locks o ≡ true → (k : Hand) × (load : Load) × (new ≡ Some k) × (k.cargo ≡ Some load)
  pub free : (k : Hand) → new ≡ Some k → k.cargo ≡ None → locks o ≡ false

-- the entry that is left is that of the row
abbrev pub IsOn : ℕ → ℕ → ℕ → Option Hand → Type 0
IsOn q r id None = Unit {0}
IsOn q r id (Some k) = (k.queue ≡ q) × (k.row ≡ r) × (k.id ≡ id)

-- what an entry is that was left
is_on : (q r id : ℕ) (new : Option Hand) (k : Hand) → IsOn q r id new → new ≡ Some k → (k.queue ≡ q) × (k.row ≡ r) × (k.id ≡ id)
is_on q r id None k on e = absurd (cc)
is_on q r id (Some j) k on e = let same : j ≡ k = (cc) in subst (λ (x : Hand). (x.queue ≡ q) × (x.row ≡ r) × (x.id ≡ id)) same on

-- An entry of the row in the hands has its id.
same_entry : (p s r id : ℕ) (all : Queue) (k : Hand) → HasRow all r id → HasRow all k.row k.id → k.queue ≡ p → r ≡ k.row → is_this p id k ≡ true
same_entry p s r id all k row has queue at =
    let found : row_at all k.row ≡ Some row.0 = ap (row_at all) (sym at) ∙ row.1 in
    let twice : Some row.0 ≡ Some has.0 = sym found ∙ has.1 in
    let same : row.0 ≡ has.0 = (cc) in
    let id_is : k.id ≡ id = sym has.2 ∙ ap (λ (x : Row). x.slip.id) (sym same) ∙ row.2 in
    rw (eq-eqb k.queue p queue) (rw (eq-eqb k.id id id_is) refl)

-- what an entry is that is this one
pub of_this : (p id : ℕ) (k : Hand) → is_this p id k ≡ true → (k.queue ≡ p) × (k.id ≡ id)
of_this p id k this = let e = and_parts (k.queue == p) (k.id == id) this in (eqb-true k.queue p e.0, eqb-true k.id id e.1)

-- an entry of this id is of the row
this_entry : (p r id : ℕ) (all : Queue) (k : Hand) → IdsApart all → HasRow all r id → HasRow all k.row k.id → is_this p id k ≡ true → (k.queue ≡ p) × (r ≡ k.row)
this_entry p r id all k apart row has this =
    let e = of_this p id k this in
    (e.0, apart r k.row row.0 has.0 row.1 has.1 (row.2 ∙ sym e.1 ∙ sym has.2))

-- calls that aim at one row, of which the hands have an entry or had one
module _ (q p r id : ℕ) (all : Queue) (new : Option Hand) (dids ds : List Did) (hands hands' : List Hand) (apart : IdsApart all) (t : Tracks q all dids hands) (moves : Moves p id new hands hands')
    (aims : AllByRecursion (AimsAt p r) ds) (on : IsOn p r id new) (row : p ≡ q → HasRow all r id) (ends : p ≡ q → Ends new (dids_last q r (dids ++ ds))) where
  elsewhere : (s : ℕ) → (IsHit p r q s → ⊥) → dids_last q s (dids ++ ds) ≡ dids_last q s dids
  elsewhere s miss = last_before q s dids ds (all_missed p r q s ds aims miss)

  ends_at : (s : ℕ) → IsHit p r q s → Ends new (dids_last q s (dids ++ ds))
  ends_at s hit = subst (λ (n : ℕ). Ends new (dids_last q n (dids ++ ds))) hit.row (ends hit.queue)

  rows_then : (k : Hand) → In k hands' → k.queue ≡ q → HasRow all k.row k.id
  rows_then k is queue = ⊎_elim
      (λ (e : new ≡ Some k).
      let o = is_on p r id new k on e in
      let has = row (sym o.0 ∙ queue) in
      (has.0, ap (row_at all) o.1 ∙ has.1, has.2 ∙ sym o.2))
      (λ (old : In k hands × (is_this p id k ≡ false)). t.rows k old.0 queue)
      (moves.was k is)

  free_then : (k : Hand) → In k hands' → k.queue ≡ q → k.cargo ≡ None → locks (dids_last q k.row (dids ++ ds)) ≡ false
  free_then k is queue unlocked = ⊎_elim
      (λ (e : new ≡ Some k).
      let o = is_on p r id new k on e in
      (ends_at k.row (record { queue = sym o.0 ∙ queue; row = sym o.1 })).free k e unlocked)
      (λ (old : In k hands × (is_this p id k ≡ false)). ⊎_elim
      (λ (hit : IsHit p r q k.row).
      let this = same_entry p q r id all k (row hit.queue) (t.rows k old.0 queue) (queue ∙ sym hit.queue) hit.row in
      let bad : true ≡ false = sym this ∙ old.1 in
      absurd (cc))
      (λ (miss : IsHit p r q k.row → ⊥). ap locks (elsewhere k.row miss) ∙ t.free k old.0 queue unlocked)
      (hit_or_not p r q k.row))
      (moves.was k is)

  held_then : (s : ℕ) → locks (dids_last q s (dids ++ ds)) ≡ true → Held q s hands'
  held_then s e = ⊎_elim
      (λ (hit : IsHit p r q s).
      let h = (ends_at s hit).held e in
      let o = is_on p r id new h.0 on h.2 in
      record { hand = h.0; load = h.1; there = moves.comes h.0 h.2; queue = o.0 ∙ hit.queue; row = o.1 ∙ hit.row; locked = h.3 })
      (λ (miss : IsHit p r q s → ⊥).
      let h = t.held s (sym (ap locks (elsewhere s miss)) ∙ e) in
      record { hand = h.hand; load = h.load; there = moves.stays h.hand h.there (other h miss (is_this p id h.hand) refl); queue = h.queue; row = h.row; locked = h.locked })
      (hit_or_not p r q s)
    where
      other : (h : Held q s hands) → (IsHit p r q s → ⊥) → (b : Bool) → is_this p id h.hand ≡ b → is_this p id h.hand ≡ false
      other h miss false this = this
      other h miss true this =
          let same_queue : p ≡ q = sym (of_this p id h.hand this).0 ∙ h.queue in
          let at = this_entry p r id all h.hand apart (row same_queue) (t.rows h.hand h.there h.queue) this in
          absurd (miss (record { queue = same_queue; row = at.1 ∙ h.row }))

  pub tracks_on : Tracks q all (dids ++ ds) hands'
  tracks_on = record {
    rows = rows_then;
    free = free_then;
    held = held_then;
    gone = λ s. ⊎_elim (λ (hit : IsHit p r q s). (ends_at s hit).gone) (λ (miss : IsHit p r q s → ⊥). ap dequeues (elsewhere s miss) ∙ t.gone s) (hit_or_not p r q s);
  }
