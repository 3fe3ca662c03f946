-- calls that are served, by what is kept before and after
use Rattle.std.proofs.Common.{◌≡◌, ◌≢◌, ◌⊎◌, inl, inr, ℕ, ◌+◌, ◌-◌, ◌*◌, ◌<◌, ◌≤◌, Bool, true, false, ◌&&◌, ◌==◌, if◌then◌else◌, Option, Some, None, IfSome, IfNone, List, [], ◌∷◌, ◌++◌, length, map, get_or, set, find, unwrap_or, refl, sym, ap, ap₂, ◌∙◌, subst, ⊎_elim, arith, zero, suc, eq-eqb, eqb-true}
use Rattle.std.specs.Option.{option_map}
use Rattle.std.specs.List.{AllByRecursion}
use Rattle.std.specs.Int.{bit_at}
use Rattle.queue_model.specs.declared.deeds.Act.{Act}
use Rattle.queue_model.specs.declared.deeds.Act.TheVariants.{Acq, Lock, Unlock, Steal, Rel, Deq, Del, Reserve, GiveBack, Enq}
use Rattle.queue_model.specs.declared.queues.Depth.{Depth}
use Rattle.queue_model.specs.declared.queues.Queue.{Queue}
use Rattle.queue_model.specs.declared.queues.Reservation.{Reservation}
use Rattle.queue_model.specs.declared.rows.Row.{Row}
use Rattle.queue_model.specs.declared.rows.RowState.{RowState}
use Rattle.queue_model.specs.declared.rows.RowState.TheVariants.{Available, Locked, Unlocked, Dequeued, Deleted}
use Rattle.queue_model.specs.declared.rows.Slip.{Slip}
use Rattle.queue_model.specs.History.{after}
use Rattle.queue_model.specs.Laws.{KeepsDepth}
use Rattle.queue_model.specs.Sound.{Sound, IsSized}
use Rattle.queue_model.specs.State.{row_at, IsIn, is_holder, nothing, reserved_by, size_at, entries, bytes, depth}
use Rattle.queue_model.specs.Table.{Can, CanGive, acted, changed, in_state, left_in, with_more, most_bytes, most_entries}
use Rattle.queue_model.proofs.Depths.{depth_reserving, depth_giving, depth_low, size_found}
use Rattle.queue_model.proofs.KeyedLemmas.{all-find}
use Rattle.queue_model.proofs.Owns.{own_dequeue_reserves}
use Rattle.queue_model.proofs.RowFacts.{row_number}
use Rattle.queue_model.proofs.SoundSteps.{sound_step}
use Rattle.acts_core.specs.Asked.{Enters, Handed}
use Rattle.acts_core.specs.Calls.{CallDepth, CallReserve, CallGiveBack, CallPut, CallNext, CallOldest, CallFind, CallLock, CallUnlock, CallRelease, CallSteal, CallDequeue, CallDelete, IsDepth, IsAt, IsGot, IsEmpty, IsFound, IsLocked, IsStolen, IsReleased, HasStolen, IsNotStealable, IsFreed, IsDone}
use Rattle.acts_core.specs.Held.{First, HasId, Finds}
use Rattle.acts_core.specs.Kept.{Kept, KeptRow, Goods, keep, at_home, Stands}
use Rattle.acts_core.specs.Load.{Load}
use Rattle.acts_core.specs.Moments.{IsRow, NoRow, IsLoadOf, HandsOut}
use Rattle.acts_core.specs.Owed.{Has, is_available, is_free}
use Rattle.acts_core.specs.Serves.{CanCall, MayCall, Serves}
use Rattle.acts_core.specs.Sight.{Sorted, order_of}
use Rattle.queue_model.specs.Order.{Precedes, IsOlder}
use Rattle.kept_rows.specs.Rows.{kind_by, more_deep, less_deep, kept_at, with_row, with_new, new_row, row_in, goods_in, Comes, CameOut, FirstOf, NoneOf, IsFreeTo, IsAvailable, IsNamed}
use Rattle.std.proofs.lemmas.List.{map-append}
use Rattle.kept_rows.proofs.Numbered.{next_is_new, numbered_push}
use Rattle.kept_rows.proofs.Standing.{RowIs, row_is, row_one, number_inside, state_is, slip_is, kept_is, older, precedes, came_load, stands_changed, same_depth, same_length}

-- Depth

pub serves_depth : (b : Bool) (k : Kept) (h : ℕ) → Serves (kind_by b) k k h CallDepth (IsDepth k.depth)
serves_depth b k h = record { spare = omega arith; legal = λ q st can. tt; means = λ q st can. st.depth; stands = λ q st can. st }

pub serves_reserve : (b : Bool) (k : Kept) (h size : ℕ) → Serves (kind_by b) k (record k { depth = more_deep k.depth size }) h (CallReserve size) (IsDepth k.depth)
serves_reserve b k h size = record {
  spare = omega arith;
  legal = λ q st can. (can, tt);
  means = λ q st can. st.depth;
  stands = λ q st can. record {
    lists = st.lists;
    consumers = st.consumers;
    sound = sound_step q h (Reserve size) can st.sound;
    numbered = st.numbered;
    rows = st.rows;
    depth = let r = depth_reserving q h size in let d = st.depth in λ i. record { entries = (ap (λ (z : Depth). z.entries + 1) d ∙ sym r.0) i; bytes = (ap (λ (z : Depth). z.bytes + size) d ∙ sym r.1) i };
  };
}

pub stands_given : (k : Kept) (q : Queue) (h size : ℕ) → Stands k q → Can q h (GiveBack size) → Stands (record k { depth = less_deep k.depth size }) (acted q h (GiveBack size))
stands_given k q h size st can = record {
  lists = st.lists;
  consumers = st.consumers;
  sound = sound_step q h (GiveBack size) can st.sound;
  numbered = st.numbered;
  rows = st.rows;
  depth =
      let r = depth_giving q h size can in
      let d = st.depth in
      let e : k.depth.entries ≡ entries q = ap (λ (z : Depth). z.entries) d in
      let f : k.depth.bytes ≡ bytes q = ap (λ (z : Depth). z.bytes) d in
      let a = r.0 in let c = r.1 in
      let x : k.depth.entries - 1 ≡ entries (acted q h (GiveBack size)) = omega arith in
      let y : k.depth.bytes - size ≡ bytes (acted q h (GiveBack size)) = omega arith in
      λ i. record { entries = x i; bytes = y i };
}

-- what a caller has reserved has at most the bytes of the largest message for each entry
sized : (o : Option Reservation) (xs : List Reservation) (h : ℕ) → AllByRecursion IsSized xs → find (is_holder h) xs ≡ o → (unwrap_or o (nothing h)).bytes ≤ most_bytes * (unwrap_or o (nothing h)).entries
sized None xs h each e = omega arith
sized (Some v) xs h each e = (all-find IsSized (is_holder h) xs v each e).bytes

pub reserved_small : (q : Queue) (h : ℕ) → Sound q → (reserved_by q h).bytes ≤ most_bytes * (reserved_by q h).entries
reserved_small q h sound = sized (find (is_holder h) q.reserved) q.reserved h sound.reserved_sized refl

-- one more entry can be given
pub more_give : (v : Reservation) (size : ℕ) → v.bytes ≤ most_bytes * v.entries → CanGive (with_more v size) size
more_give v size small = record {
  entry = omega arith;
  bytes = omega arith;
  rest = (let e : v.entries + 1 - 1 ≡ v.entries = omega arith in rw e (omega (arith, small)));
}

pub serves_give_back : (b : Bool) (k : Kept) (h size : ℕ) → Serves (kind_by b) k (record k { depth = less_deep k.depth size }) h (CallGiveBack size) IsDone
serves_give_back b k h size = record {
  spare = omega arith;
  legal = λ q st can. (can, tt);
  means = λ q st can. tt;
  stands = λ q st can. stands_given k q h size st can;
}

-- Rows that are got

free_by : (c : ℕ) (x : Row) → x.state ≡ Available → bit_at x.slip.mask c ≡ 1 → is_free c x ≡ true
free_by c x ready bit = ap₂ (λ (b d : Bool). b && d) (ap is_available ready) (eq-eqb (bit_at x.slip.mask c) 1 bit)

by_free : (s : RowState) (n : ℕ) → (is_available s && (n == 1)) ≡ true → (s ≡ Available) × (n ≡ 1)
by_free Available n e = (refl, eqb-true n 1 e)
by_free (Locked h) n e = absurd (cc)
by_free (Unlocked h) n e = absurd (cc)
by_free Dequeued n e = absurd (cc)
by_free Deleted n e = absurd (cc)

-- how a test of a row of the state goes with one of what is kept of it
abbrev pub Agrees : (Row → Type 0) → (KeptRow → Type 0) → Type 0
Agrees P K = ((x : Row) → K (keep x) → P x) × ((x : Row) → P x → K (keep x))

pub free_agrees : (c : ℕ) → Agrees (λ x. is_free c x ≡ true) (IsFreeTo c)
free_agrees c = (
  (λ x f. free_by c x f.available f.wanted),
  (λ x e. let f = by_free x.state (bit_at x.slip.mask c) e in record { available = f.0; wanted = f.1 }),
)

pub available_agrees : Agrees (λ x. x.state ≡ Available) IsAvailable
available_agrees = ((λ x e. e), (λ x e. e))

pub named_agrees : (id : ℕ) → Agrees (HasId id) (IsNamed id)
named_agrees id = ((λ x n. record { same = n.same; live = n.live }), (λ x n. record { same = n.same; live = n.live }))

module _ (k : Kept) (q : Queue) (st : Stands k q) (P : Row → Type 0) (K : KeptRow → Type 0) (agrees : Agrees P K) where
  pub no_row : NoneOf k K → NoRow q P
  no_row none y at p = none y.number (number_inside k q st y.number y at) (subst K (kept_is k q st y.number y at) (agrees.1 y p))

  -- the first of what is kept is the first of the state
  pub first_of : (Before : ℕ → ℕ → Type 0) (Goes : Row → Row → Type 0) (r : ℕ) → ((x y : Row) → IsRow q x → IsRow q y → Before x.number y.number → Goes x y) → FirstOf k K Before r
      → (x : Row) × (row_at q r ≡ Some x) × (x.number ≡ r) × P x × ((y : Row) → IsRow q y → P y → y.number ≢ r → Goes x y)
  first_of Before Goes r goes f =
      let x = row_is k q st r f.inside in
      let here : IsRow q x.row = subst (λ (n : ℕ). row_at q n ≡ Some x.row) (sym x.number) x.found in (
        x.row,
        x.found,
        x.number,
        agrees.0 x.row (subst K (sym x.same) f.passes),
        (λ y at p apart.
            let l = number_inside k q st y.number y at in
            let b = f.first y.number l (subst K (kept_is k q st y.number y at) (agrees.1 y p)) apart in
            goes x.row y here at (subst (λ (n : ℕ). Before n y.number) (sym x.number) b)),
      )

  pub first_got : (Before : ℕ → ℕ → Type 0) (Goes : Row → Row → Type 0) (r : ℕ) (load : Load) → ((x y : Row) → IsRow q x → IsRow q y → Before x.number y.number → Goes x y) → FirstOf k K Before r → CameOut (kept_at k r) (Some load)
      → First q P Goes r (kept_at k r).slip.list load
  first_got Before Goes r load goes f came =
      let x = first_of Before Goes r goes f in record {
        hands = record { row = x.0; found = x.1; same = came_load k q st r x.0 load x.1 came };
        list = ap (λ (z : Slip). z.list) (slip_is k q st r x.0 x.1);
        passes = x.3;
        first = x.4;
      }

-- a row of the state is taken
pub taken_stands : (k : Kept) (q : Queue) (h r : ℕ) (a : Act) → Stands k q → r < length k.rows → Can q h a → acted q h a ≡ changed q r (in_state (Locked h)) → KeepsDepth a → Stands (with_row k r (row_in (Locked h) None (kept_at k r))) (acted q h a)
taken_stands k q h r a st l can is keeps =
    let x = row_is k q st r l in
    stands_changed k q st h a (in_state (Locked h)) r x (row_in (Locked h) None (kept_at k r)) k.depth k.spare l can (ap (λ (z : Queue). z.lists) is) (ap (λ (z : Queue). z.consumers) is) (ap (λ (z : Queue). z.rows) is) refl (ap (row_in (Locked h) None) x.same) (same_depth k q st h a can keeps)

pub can_acquire : (k : Kept) (q : Queue) (h r : ℕ) → Stands k q → r < length k.rows → (kept_at k r).state ≡ Available → Can q h (Acq r)
can_acquire k q h r st l free = let x = row_is k q st r l in (x.row, x.found, state_is k q st r x.row x.found ∙ free)

pub serves_got : (b : Bool) (k : Kept) (h c r : ℕ) (load : Load) → FirstOf k (IsFreeTo c) (Comes b k) r → CameOut (kept_at k r) (Some load)
    → Serves (kind_by b) k (with_row k r (row_in (Locked h) None (kept_at k r))) h (CallNext c) (IsGot r (kept_at k r).slip.list load)
serves_got b k h c r load f came = record {
  spare = omega arith;
  legal = λ q st can. (can_acquire k q h r st f.inside f.passes.available, tt);
  means = λ q st can. first_got k q st (λ x. is_free c x ≡ true) (IsFreeTo c) (free_agrees c) (Comes b k) (Precedes (order_of (kind_by b)) q) r load (precedes k q st b) f came;
  stands = λ q st can. taken_stands k q h r (Acq r) st f.inside (can_acquire k q h r st f.inside f.passes.available) refl tt;
}

pub serves_empty : (b : Bool) (k : Kept) (h c : ℕ) → NoneOf k (IsFreeTo c) → Serves (kind_by b) k k h (CallNext c) IsEmpty
serves_empty b k h c none = record {
  spare = omega arith;
  legal = λ q st can. tt;
  means = λ q st can. no_row k q st (λ x. is_free c x ≡ true) (IsFreeTo c) (free_agrees c) none;
  stands = λ q st can. st;
}

pub serves_oldest : (b : Bool) (k : Kept) (h r : ℕ) (load : Load) → FirstOf k IsAvailable (λ x y. x < y) r → CameOut (kept_at k r) (Some load)
    → Serves (kind_by b) k (with_row k r (row_in (Locked h) None (kept_at k r))) h CallOldest (IsGot r (kept_at k r).slip.list load)
serves_oldest b k h r load f came = record {
  spare = omega arith;
  legal = λ q st can. (can_acquire k q h r st f.inside f.passes, tt);
  means = λ q st can. first_got k q st (λ x. x.state ≡ Available) IsAvailable available_agrees (λ x y. x < y) (IsOlder (order_of (kind_by b)) q) r load (older k q st b) f came;
  stands = λ q st can. taken_stands k q h r (Acq r) st f.inside (can_acquire k q h r st f.inside f.passes) refl tt;
}

pub serves_no_oldest : (b : Bool) (k : Kept) (h : ℕ) → NoneOf k IsAvailable → Serves (kind_by b) k k h CallOldest IsEmpty
serves_no_oldest b k h none = record {
  spare = omega arith;
  legal = λ q st can. tt;
  means = λ q st can. no_row k q st (λ x. x.state ≡ Available) IsAvailable available_agrees none;
  stands = λ q st can. st;
}

pub serves_found : (b : Bool) (k : Kept) (h id r : ℕ) → FirstOf k (IsNamed id) (Comes b k) r → Serves (kind_by b) k k h (CallFind id) (IsFound (Some r))
serves_found b k h id r f = record {
  spare = omega arith;
  legal = λ q st can. tt;
  means = λ q st can. let x = first_of k q st (HasId id) (IsNamed id) (named_agrees id) (Comes b k) (Precedes (order_of (kind_by b)) q) r (precedes k q st b) f in (x.0, x.1, x.3, x.4);
  stands = λ q st can. st;
}

pub serves_not_found : (b : Bool) (k : Kept) (h id : ℕ) → NoneOf k (IsNamed id) → Serves (kind_by b) k k h (CallFind id) (IsFound None)
serves_not_found b k h id none = record {
  spare = omega arith;
  legal = λ q st can. tt;
  means = λ q st can. no_row k q st (HasId id) (IsNamed id) (named_agrees id) none;
  stands = λ q st can. st;
}

pub serves_named : (b : Bool) (k : Kept) (h id : ℕ) (o : Option ℕ) → IfSome o (FirstOf k (IsNamed id) (Comes b k)) → IfNone o (NoneOf k (IsNamed id)) → Serves (kind_by b) k k h (CallFind id) (IsFound o)
serves_named b k h id (Some r) some none = serves_found b k h id r some
serves_named b k h id None some none = serves_not_found b k h id none

-- A row that comes

can_enter : (k : Kept) (q : Queue) (h : ℕ) (slip : Slip) (load : Load) → Stands k q → Enters q h slip load → Can q h (Enq (length k.rows) slip load.content load.origin load.count)
can_enter k q h slip load st e = record { new = next_is_new 0 (length k.rows) q.rows st.numbered (let n = same_length k q st in omega arith); fits = e.fits; reserved = e.reserved }

pub serves_put : (k : Kept) (h spare : ℕ) (slip : Slip) (load : Load) → spare + 1 ≡ k.spare → Serves Sorted k (with_new k spare slip load) h (CallPut slip load) (IsAt (length k.rows) None)
serves_put k h spare slip load less = record {
  spare = less;
  legal = λ q st e. (can_enter k q h slip load st e, tt);
  means = λ q st e. refl;
  stands = λ q st e.
      let can = can_enter k q h slip load st e in
      let y : Row = record { number = length k.rows; slip = slip; state = Available; content = load.content; origin = load.origin; count = load.count } in record {
        lists = st.lists;
        consumers = st.consumers;
        sound = sound_step q h (Enq (length k.rows) slip load.content load.origin load.count) can st.sound;
        numbered = numbered_push 0 q.rows y st.numbered (let n = same_length k q st in omega arith);
        rows = ap (λ (l : List KeptRow). l ++ new_row slip load ∷ []) st.rows ∙ sym (map-append keep q.rows (y ∷ []));
        depth = same_depth k q st h (Enq (length k.rows) slip load.content load.origin load.count) can tt;
      };
}

-- Rows that are named

-- a row of the state is there
pub has_inside : (k : Kept) (q : Queue) (r : ℕ) → Stands k q → Has q r → r < length k.rows
has_inside k q r st has = number_inside k q st r has.0 has.1

-- the row as it is, and the cargo that came out of it
pub hands_out : (k : Kept) (q : Queue) (r : ℕ) (load : Load) → Stands k q → r < length k.rows → CameOut (kept_at k r) (Some load) → HandsOut q r load
hands_out k q r load st l came = let x = row_is k q st r l in record { row = x.row; found = x.found; same = came_load k q st r x.row load x.found came }

pub is_in : (k : Kept) (q : Queue) (r : ℕ) → Stands k q → r < length k.rows → IsIn q r (kept_at k r).state
is_in k q r st l = let x = row_is k q st r l in (x.row, x.found, state_is k q st r x.row x.found)

module _ (b : Bool) (k : Kept) (h r : ℕ) where
  -- Lock and steal

  pub serves_locked : (load : Load) → r < length k.rows → (kept_at k r).state ≡ Unlocked h → CameOut (kept_at k r) (Some load) → Serves (kind_by b) k (with_row k r (row_in (Locked h) None (kept_at k r))) h (CallLock r) (IsLocked load)
  serves_locked load l left came =
      let can : (q : Queue) → Stands k q → Can q h (Lock r) = λ q st. (let x = is_in k q r st l in (x.0, x.1, x.2 ∙ left)) in record {
        spare = omega arith;
        legal = λ q st may. (can q st, tt);
        means = λ q st may. hands_out k q r load st l came;
        stands = λ q st may. taken_stands k q h r (Lock r) st l (can q st) refl tt;
      }

  pub serves_not_locked : r < length k.rows → (kept_at k r).state ≢ Unlocked h → Serves (kind_by b) k k h (CallLock r) (IsStolen (kept_at k r).state)
  serves_not_locked l off = record { spare = omega arith; legal = λ q st may. tt; means = λ q st may. (off, is_in k q r st l); stands = λ q st may. st }

  pub serves_stolen : (j : ℕ) (load : Load) → r < length k.rows → (kept_at k r).state ≡ Unlocked j → CameOut (kept_at k r) (Some load) → Serves (kind_by b) k (with_row k r (row_in (Locked h) None (kept_at k r))) h (CallSteal r) (HasStolen load)
  serves_stolen j load l left came =
      let can : (q : Queue) → Stands k q → Can q h (Steal r) = λ q st. (let x = is_in k q r st l in (j, (x.0, x.1, x.2 ∙ left))) in record {
        spare = omega arith;
        legal = λ q st may. (can q st, tt);
        means = λ q st may. hands_out k q r load st l came;
        stands = λ q st may. taken_stands k q h r (Steal r) st l (can q st) refl tt;
      }

  pub serves_not_stolen : r < length k.rows → ((j : ℕ) → (kept_at k r).state ≢ Unlocked j) → Serves (kind_by b) k k h (CallSteal r) (IsNotStealable (kept_at k r).state)
  serves_not_stolen l off = record { spare = omega arith; legal = λ q st may. tt; means = λ q st may. (off, is_in k q r st l); stands = λ q st may. st }

  -- Unlock and release

  -- a held row is left with its cargo
  left_stands : (q : Queue) (a : Act) (s : RowState) (load : Load) → Stands k q → Handed q h r load → Can q h a → acted q h a ≡ changed q r (left_in s load.count) → KeepsDepth a → at_home s ≡ true → Stands (with_row k r (row_in s (Some (goods_in load)) (kept_at k r))) (acted q h a)
  left_stands q a s load st held can is keeps home =
      let l = number_inside k q st r held.row held.found in
      let x = row_is k q st r l in
      let one : held.row ≡ x.row = row_one k q st r held.row x.row held.found x.found in
      let content : x.row.content ≡ load.content = ap (λ (z : Row). z.content) (sym one) ∙ sym held.content in
      let origin : x.row.origin ≡ load.origin = ap (λ (z : Row). z.origin) (sym one) ∙ sym held.origin in
      let slip : x.row.slip ≡ (kept_at k r).slip = slip_is k q st r x.row x.found in
      let goods : (if at_home s then Some (record { content = x.row.content; origin = x.row.origin; count = load.count }) else None) ≡ Some (goods_in load) =
      ap (λ t. if t then Some (record { content = x.row.content; origin = x.row.origin; count = load.count }) else None) home
      ∙ λ i. Some (record { content = content i; origin = origin i; count = load.count }) in
      stands_changed k q st h a (left_in s load.count) r x (row_in s (Some (goods_in load)) (kept_at k r)) k.depth k.spare l can (ap (λ (z : Queue). z.lists) is) (ap (λ (z : Queue). z.consumers) is) (ap (λ (z : Queue). z.rows) is) refl
      (λ i. record { slip = slip i; state = s; goods = goods i }) (same_depth k q st h a can keeps)

  pub serves_unlock : (load : Load) → Serves (kind_by b) k (with_row k r (row_in (Unlocked h) (Some (goods_in load)) (kept_at k r))) h (CallUnlock r load) IsDone
  serves_unlock load =
      let can : (q : Queue) → Handed q h r load → Can q h (Unlock r load.count) = λ q x. (x.row, x.found, x.held) in record {
        spare = omega arith;
        legal = λ q st x. (can q x, tt);
        means = λ q st x. tt;
        stands = λ q st x. left_stands q (Unlock r load.count) (Unlocked h) load st x (can q x) refl tt refl;
      }

  pub serves_release : (load : Load) → Serves Sorted k (with_row k r (row_in Available (Some (goods_in load)) (kept_at k r))) h (CallRelease r load) (IsReleased (kept_at k r).slip.mask)
  serves_release load =
      let can : (q : Queue) → Handed q h r load → Can q h (Rel r load.count) = λ q x. (x.row, x.found, x.held) in record {
        spare = omega arith;
        legal = λ q st x. (can q x, tt);
        means = λ q st x. (x.row, x.found, ap (λ (z : Slip). z.mask) (slip_is k q st r x.row x.found));
        stands = λ q st x. left_stands q (Rel r load.count) Available load st x (can q x) refl tt refl;
      }

  -- what a holder hands back fits the row
  pub handed_fits : (q : Queue) (load : Load) → Stands k q → Handed q h r load → (r < length k.rows) × (load.id ≡ (kept_at k r).slip.id) × (load.size ≡ (kept_at k r).slip.size)
  handed_fits q load st x =
      let slip = slip_is k q st r x.row x.found in
      (number_inside k q st r x.row x.found, x.id ∙ ap (λ (z : Slip). z.id) slip, x.size ∙ ap (λ (z : Slip). z.size) slip)

  -- Dequeue and delete

  pub serves_delete : Serves (kind_by b) k (with_row k r (row_in Deleted None (kept_at k r))) h (CallDelete r) IsDone
  serves_delete = record {
    spare = omega arith;
    legal = λ q st can. (can, tt);
    means = λ q st can. tt;
    stands = λ q st can.
        let l = number_inside k q st r can.0 can.1 in
        let x = row_is k q st r l in
        stands_changed k q st h (Del r) (in_state Deleted) r x (row_in Deleted None (kept_at k r)) k.depth k.spare l can refl refl refl refl (ap (row_in Deleted None) x.same) (same_depth k q st h (Del r) can tt);
  }

  dequeued_stands : (q : Queue) → Stands k q → Can q h (Deq r) → Stands (with_row k r (row_in Dequeued None (kept_at k r))) (acted q h (Deq r))
  dequeued_stands q st can =
      let l = number_inside k q st r can.0 can.1 in
      let x = row_is k q st r l in
      stands_changed k q st h (Deq r) (in_state Dequeued) r x (row_in Dequeued None (kept_at k r)) k.depth k.spare l can refl refl refl refl (ap (row_in Dequeued None) x.same) (same_depth k q st h (Deq r) can tt)

  -- the size of a row
  size_is : (q : Queue) (x : Row) → Stands k q → row_at q r ≡ Some x → x.slip.size ≡ (kept_at k r).slip.size
  size_is q x st at = ap (λ (z : Slip). z.size) (slip_is k q st r x at)

  given_after : (q : Queue) → Stands k q → Can q h (Deq r) → Can (acted q h (Deq r)) h (GiveBack (kept_at k r).slip.size)
  given_after q st can =
      let size : size_at q r ≡ (kept_at k r).slip.size = size_found q r can.0 can.1 ∙ size_is q can.0 st can.1 in
      subst (λ (v : Reservation). CanGive v (kept_at k r).slip.size) (sym (own_dequeue_reserves q h r ∙ ap (with_more (reserved_by q h)) size))
      (more_give (reserved_by q h) (kept_at k r).slip.size (reserved_small q h st.sound))

  pub serves_dequeue : Serves (kind_by b) k (record (with_row k r (row_in Dequeued None (kept_at k r))) { depth = less_deep k.depth (kept_at k r).slip.size }) h (CallDequeue r) (IsFreed (kept_at k r).slip.size)
  serves_dequeue = record {
    spare = omega arith;
    legal = λ q st can. (can, (given_after q st can, tt));
    means = λ q st can. (can.0, can.1, size_is q can.0 st can.1);
    stands = λ q st can. stands_given (with_row k r (row_in Dequeued None (kept_at k r))) (acted q h (Deq r)) h (kept_at k r).slip.size (dequeued_stands q st can) (given_after q st can);
  }

-- Bounds of the depth

-- what a reservation leaves fits
pub reserve_fits : (k : Kept) (h size : ℕ) → MayCall k h (CallReserve size) → (k.depth.entries < most_entries) × (k.depth.bytes ≤ most_bytes * k.depth.entries) × (size ≤ most_bytes)
reserve_fits k h size may =
    let q = may.0 in
    let st = may.1 in
    let can = may.2 in
    let low = depth_low q st.sound in
    let de = ap (λ (z : Depth). z.entries) st.depth in
    let db = ap (λ (z : Depth). z.bytes) st.depth in
    (let x = can.1 in omega arith, omega arith, can.0)

-- what is given back is there
pub give_fits : (k : Kept) (q : Queue) (h size : ℕ) → Stands k q → Can q h (GiveBack size) → (0 < k.depth.entries) × (size ≤ k.depth.bytes)
give_fits k q h size st can =
    let r = depth_giving q h size can in
    let a = r.0 in let c = r.1 in
    let de = ap (λ (z : Depth). z.entries) st.depth in
    let db = ap (λ (z : Depth). z.bytes) st.depth in
    (omega arith, omega arith)

-- a row that counts is in the depth
pub dequeue_fits : (k : Kept) (h r : ℕ) → MayCall k h (CallDequeue r) → (r < length k.rows) × (0 < k.depth.entries) × ((kept_at k r).slip.size ≤ k.depth.bytes)
dequeue_fits k h r may =
    let q = may.0 in
    let st = may.1 in
    let can = may.2 in
    let f = give_fits (with_row k r (row_in Dequeued None (kept_at k r))) (acted q h (Deq r)) h (kept_at k r).slip.size (dequeued_stands true k h r q st can) (given_after true k h r q st can) in
    (number_inside k q st r can.0 can.1, f.0, f.1)
