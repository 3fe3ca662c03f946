-- lines keep track of the rows that their actor has
use Rattle.std.proofs.Common.{◌≡◌, ◌⊎◌, inl, inr, ℕ, ◌==◌, nat_eq, Bool, true, false, cond, is_some, Option, Some, None, List, [], ◌∷◌, ◌++◌, refl, sym, ap, ◌∙◌, subst, ⊎_elim, append_assoc, eq-eqb}
use Rattle.std.specs.List.{AllByRecursion}
use Rattle.queue_model.specs.declared.deeds.Act.{Act}
use Rattle.queue_model.specs.declared.deeds.Act.TheVariants as acts
use Rattle.queue_model.specs.declared.queues.Depth.{Depth}
use Rattle.queue_model.specs.declared.queues.Limits.{Limits}
use Rattle.queue_model.specs.declared.queues.Queue.{Queue}
use Rattle.acts_core.specs.Asked.{or_else}
use Rattle.acts_core.specs.Calls.{Call, CallDepth, CallReserve, CallPut, CallOldest, CallRelease, CallLock, CallUnlock, CallSteal, CallNext, CallDequeue, CallFind, Answer, IsDepth, IsAt, IsGot, IsFreed, IsReleased, IsOutdated, IsLocked, IsStolen, IsFound, HasStolen, IsDone}
use Rattle.acts_core.specs.Hands.{gained as gains}
use Rattle.acts_core.specs.Load.{Load}
use Rattle.message_core.specs.Spelling.{Content}
use Rattle.defs_read.specs.Defined.{Defined}
use Rattle.script_read.specs.declared.lines.Op.{Op}
use Rattle.script_read.specs.declared.lines.What.{What}
use Rattle.script_read.specs.declared.lines.What.TheVariants.{Put, Take, Close, Ack, Release, Lock, Unlock, Steal}
use Rattle.report_core.specs.declared.answers.Answer as report
use Rattle.report_core.specs.declared.answers.Answer.TheVariants.{Accepted, Rejected, Blocked, Got, Empty, NoCredit, Closed, Acked, NotHeld, Stolen, Released, Outdated, Unlocked, Locked, Stole, NotStealable, Moved, Absent}
use Rattle.report_core.specs.declared.answers.Dropped.{Dropped}
use Rattle.queue_model.specs.declared.rows.RowState.{RowState}
use Rattle.queue_model.specs.declared.rows.Slip.{Slip}
use Rattle.overflow_core.specs.Limits.{is_ring}
use Rattle.line_core.specs.Fits.{Did, On, Standing, DropsOlder, LineFits, LinesFit, Puts, Trims, TrimsRing, cargo_of, delivered, drop, fresh, in_hands, left_hand, let_go, lock_first, locked_hand, tried, unlock_of, unlocks}
use Rattle.line_core.specs.Hands.{Hand, gained, hand, lost, replaced, without}
use Rattle.line_core.specs.Runs.{calls_on}
use Rattle.account_core.proofs.Acting.{on_row, touch}
use Rattle.account_core.proofs.Dropping.{all_join, all_parts}
use Rattle.account_core.proofs.Handing.{In, gained_moves, is_itself, lost_moves, meant_in, replaced_moves}
use Rattle.account_core.proofs.Tracking.{AimsAt, Ends, HasRow, IdsApart, Tracks, dequeues, did_hit, did_last, dids_last, last_before, last_behind, locks, tracks_on, tracks_quiet}

-- Calls

-- what a call gained is a row of the queue, with the id of its cargo
abbrev pub Known : Queue → Call → Answer → Type 0
Known all call answer = (r : ℕ) (load : Load) → gains call answer ≡ Some (r, load) → HasRow all r load.id

-- the same of a call on any queue, if it is on queue q
abbrev pub DidIs : ℕ → (Call → Answer → Type 0) → Did → Type 0
DidIs q P (On s call answer) = s ≡ q → P call answer

abbrev pub DidKnown : ℕ → Queue → Did → Type 0
DidKnown q all = DidIs q (Known all)

-- what is so of the calls on a queue is so of them among all calls
pub dids_each : (q : ℕ) (P : Call → Answer → Type 0) (ds : List Did) → AllByRecursion (λ c. P c.0 c.1) (calls_on q ds) → AllByRecursion (DidIs q P) ds
dids_each q P [] each = tt
dids_each q P (On s call answer ∷ ds) each = by_test (nat_eq s q) refl each (dids_each q P ds) where
  by_test : (b : Bool) → nat_eq s q ≡ b → AllByRecursion (λ c. P c.0 c.1) (cond b ((call, answer) ∷ calls_on q ds) (calls_on q ds))
      → (AllByRecursion (λ c. P c.0 c.1) (calls_on q ds) → AllByRecursion (DidIs q P) ds) → AllByRecursion (DidIs q P) (On s call answer ∷ ds)
  by_test true e each rest = (λ same. each.0, rest each.1)
  by_test false e each rest = (λ same. let bad : true ≡ false = sym (eq-eqb s q same) ∙ e in absurd (cc), rest each)

-- the call touches no row
abbrev TouchesNone : Did → Type 0
TouchesNone (On s call answer) = touch call answer ≡ None

-- calls that touch no row leave what was done last
none_last : (q r : ℕ) (ds : List Did) → AllByRecursion TouchesNone ds → dids_last q r ds ≡ None
none_last q r [] none = refl
none_last q r (On s call answer ∷ ds) none =
    ap (λ (o : Option Act). or_else o (did_last q r (On s call answer))) (none_last q r ds none.1)
    ∙ ap (λ (o : Option Act). cond (nat_eq s q) (on_row r o) None) none.0
    ∙ elim (nat_eq s q) as (λ b. cond b (on_row r None) None ≡ None) [ true ↦ refl | false ↦ refl ]

-- Lines in parts

module _ (q : ℕ) (all : Queue) (before : List Did) where
  -- calls and hands as they are told
  done : (dids ds : List Did) (hands hands' : List Hand) → dids ≡ ds → hands ≡ hands' → Tracks q all (before ++ ds) hands' → Tracks q all (before ++ dids) hands
  done dids ds hands hands' did leaves t =
      subst (λ (xs : List Did). Tracks q all (before ++ xs) hands) (sym did) (subst (λ (ks : List Hand). Tracks q all (before ++ ds) ks) (sym leaves) t)

  -- lines that touch no row and leave the hands
  keeps : (dids ds : List Did) (hands hands' : List Hand) → dids ≡ ds → hands ≡ hands' → AllByRecursion TouchesNone ds → Tracks q all before hands' → Tracks q all (before ++ dids) hands
  keeps dids ds hands hands' did leaves none t = done dids ds hands hands' did leaves (tracks_quiet q all before ds hands' (λ r. none_last q r ds none) t)

  -- the last act locks, and the entry is in the hands, locked
  ends_lock : (k : Hand) (load : Load) (o : Option Act) (a : Act) → o ≡ Some a → k.cargo ≡ Some load → dequeues (Some a) ≡ false → Ends (Some k) o
  ends_lock k load o a is cargo none = record {
    gone = ap dequeues is ∙ none;
    held = λ e. (k, load, refl, cargo);
    free = λ j same unlocked. let e : k ≡ j = (cc) in let bad : Some load ≡ None = sym cargo ∙ ap (λ (x : Hand). x.cargo) e ∙ unlocked in absurd (cc);
  }

  -- the last act ends a lock
  ends_free : (new : Option Hand) (o : Option Act) (a : Act) → o ≡ Some a → dequeues (Some a) ≡ false → locks (Some a) ≡ false → Ends new o
  ends_free new o a is none free = record {
    gone = ap dequeues is ∙ none;
    held = λ e. let bad : true ≡ false = sym e ∙ ap locks is ∙ free in absurd (cc);
    free = λ k same unlocked. ap locks is ∙ free;
  }

  -- one call behind others
  one_last : (p r : ℕ) (front : List Did) (call : Call) (answer : Answer) (a : Act) → p ≡ q → on_row r (touch call answer) ≡ Some a → dids_last q r (before ++ (front ++ (On p call answer ∷ []))) ≡ Some a
  one_last p r front call answer a queue hit =
      last_behind q r before (front ++ (On p call answer ∷ [])) a
      (last_behind q r front (On p call answer ∷ []) a (ap (λ (b : Bool). cond b (on_row r (touch call answer)) None) (eq-eqb p q queue) ∙ hit))

  -- an act on a row touches it
  row_hit : (r : ℕ) (a : Act) → cond (r == r) (Some a) None ≡ Some a
  row_hit r a = ap (λ (b : Bool). cond b (Some a) None) (eq-eqb r r refl)

  -- a lock that comes first aims at the row of the entry
  lock_aims : (k : Hand) (load : Load) (rest : List Did) → AllByRecursion (AimsAt k.queue k.row) rest → AllByRecursion (AimsAt k.queue k.row) (lock_first k load ++ rest)
  lock_aims k load rest aims = elim (is_some k.cargo) as (λ b. AllByRecursion (AimsAt k.queue k.row) (cond b [] (On k.queue (CallLock k.row) (IsLocked load) ∷ []) ++ rest)) [ true ↦ aims | false ↦ ((refl, λ r. refl), aims) ]

  -- a take that got something
  gets : (p place r l n : ℕ) (load : Load) (hands : List Hand) → IdsApart all → AllByRecursion (DidKnown q all) (On p (CallNext place) (IsGot r l load) ∷ []) → Tracks q all before hands
      → Tracks q all (before ++ (On p (CallNext place) (IsGot r l load) ∷ [])) (gained (in_hands p r (delivered n load)) hands)
  gets p place r l n load hands apart known t =
      let k : Hand = in_hands p r (delivered n load) in
      let ds : List Did = On p (CallNext place) (IsGot r l load) ∷ [] in
      tracks_on q p r load.id all (Some k) before ds hands (gained k hands) apart t (gained_moves k hands) ((refl, λ s. refl), tt) (refl, refl, refl) (λ e. known.0 e r load refl)
      (λ e. ends_lock k (delivered n load) (dids_last q r (before ++ ds)) (acts.Acq r) (one_last p r [] (CallNext place) (IsGot r l load) (acts.Acq r) e (row_hit r (acts.Acq r))) refl refl)

  -- a steal that got the entry
  steals : (p id r : ℕ) (load : Load) (hands : List Hand) → IdsApart all → AllByRecursion (DidKnown q all) (tried p id r (HasStolen load)) → Tracks q all before hands → Tracks q all (before ++ tried p id r (HasStolen load)) (gained (in_hands p r load) hands)
  steals p id r load hands apart known t =
      let k : Hand = in_hands p r load in
      let ds : List Did = tried p id r (HasStolen load) in
      tracks_on q p r load.id all (Some k) before ds hands (gained k hands) apart t (gained_moves k hands) ((refl, tt), ((refl, λ s. refl), tt)) (refl, refl, refl) (λ e. known.1.0 e r load refl)
      (λ e. ends_lock k load (dids_last q r (before ++ ds)) (acts.Steal r) (one_last p r (On p (CallFind id) (IsFound (Some r)) ∷ []) (CallSteal r) (HasStolen load) (acts.Steal r) e (row_hit r (acts.Steal r))) refl refl)

  -- an acknowledgement
  acks : (k : Hand) (load : Load) (size : ℕ) (hands : List Hand) → IdsApart all → In k hands → Tracks q all before hands → Tracks q all (before ++ (lock_first k load ++ drop k.queue k.row size)) (lost k hands)
  acks k load size hands apart there t =
      let ds : List Did = lock_first k load ++ drop k.queue k.row size in
      tracks_on q k.queue k.row k.id all None before ds hands (lost k hands) apart t (lost_moves k hands) (lock_aims k load (drop k.queue k.row size) ((refl, λ s. refl), ((refl, λ s. refl), tt))) tt (λ e. t.rows k there e)
      (λ e. ends_free None (dids_last q k.row (before ++ ds)) (acts.Del k.row)
      (last_behind q k.row before ds (acts.Del k.row)
      (last_behind q k.row (lock_first k load) (drop k.queue k.row size) (acts.Del k.row)
      (ap (λ (o : Option Act). or_else o (did_last q k.row (On k.queue (CallDequeue k.row) (IsFreed size)))) (did_hit k.queue k.row q k.row (acts.Del k.row) e refl refl))))
      refl refl)

  -- a release
  frees : (k : Hand) (load : Load) (mask : ℕ) (hands : List Hand) → IdsApart all → In k hands → Tracks q all before hands
      → Tracks q all (before ++ (lock_first k load ++ (On k.queue (CallRelease k.row (cargo_of k load)) (IsReleased mask) ∷ []))) (lost k hands)
  frees k load mask hands apart there t =
      let last : List Did = On k.queue (CallRelease k.row (cargo_of k load)) (IsReleased mask) ∷ [] in
      let ds : List Did = lock_first k load ++ last in
      let a : Act = acts.Rel k.row (cargo_of k load).count in
      tracks_on q k.queue k.row k.id all None before ds hands (lost k hands) apart t (lost_moves k hands) (lock_aims k load last ((refl, λ s. refl), tt)) tt (λ e. t.rows k there e)
      (λ e. ends_free None (dids_last q k.row (before ++ ds)) a (one_last k.queue k.row (lock_first k load) (CallRelease k.row (cargo_of k load)) (IsReleased mask) a e (row_hit k.row a)) refl refl)

  -- an entry that goes: it was acquired, and is dropped
  drops : (p r id size : ℕ) (front : List Did) (hands : List Hand) → IdsApart all → AllByRecursion (AimsAt p r) front → (p ≡ q → HasRow all r id) → Tracks q all before hands → Tracks q all (before ++ (front ++ drop p r size)) (without p id hands)
  drops p r id size front hands apart aims has t =
      let ds : List Did = front ++ drop p r size in
      tracks_on q p r id all None before ds hands (without p id hands) apart t (lost_moves (hand p r id None) hands) (all_join (AimsAt p r) front (drop p r size) aims ((refl, λ s. refl), ((refl, λ s. refl), tt))) tt has
      (λ e. ends_free None (dids_last q r (before ++ ds)) (acts.Del r)
      (last_behind q r before ds (acts.Del r)
      (last_behind q r front (drop p r size) (acts.Del r)
      (ap (λ (o : Option Act). or_else o (did_last q r (On p (CallDequeue r) (IsFreed size)))) (did_hit p r q r (acts.Del r) e refl refl))))
      refl refl)

  -- a release of an entry that is dropped
  outdates : (k : Hand) (load : Load) (size : ℕ) (hands : List Hand) → IdsApart all → In k hands → Tracks q all before hands
      → Tracks q all (before ++ (lock_first k load ++ (On k.queue (CallRelease k.row (cargo_of k load)) (IsOutdated (cargo_of k load)) ∷ drop k.queue k.row size))) (lost k hands)
  outdates k load size hands apart there t =
      let told : List Did = On k.queue (CallRelease k.row (cargo_of k load)) (IsOutdated (cargo_of k load)) ∷ [] in
      let front : List Did = lock_first k load ++ told in
      subst (λ (ds : List Did). Tracks q all (before ++ ds) (lost k hands)) (append_assoc (lock_first k load) told (drop k.queue k.row size))
      (drops k.queue k.row k.id size front hands apart (lock_aims k load told ((refl, tt), tt)) (λ e. t.rows k there e) t)

  -- an entry that somebody took
  takes : (k : Hand) (state : RowState) (hands : List Hand) → IdsApart all → In k hands → k.cargo ≡ None → Tracks q all before hands → Tracks q all (before ++ (On k.queue (CallLock k.row) (IsStolen state) ∷ [])) (lost k hands)
  takes k state hands apart there unlocked t =
      let ds : List Did = On k.queue (CallLock k.row) (IsStolen state) ∷ [] in
      tracks_on q k.queue k.row k.id all None before ds hands (lost k hands) apart t (lost_moves k hands) ((refl, tt), tt) tt (λ e. t.rows k there e) (λ e. ends e)
    where
      same : dids_last q k.row (before ++ (On k.queue (CallLock k.row) (IsStolen state) ∷ [])) ≡ dids_last q k.row before
      same = last_before q k.row before (On k.queue (CallLock k.row) (IsStolen state) ∷ []) (none_last q k.row (On k.queue (CallLock k.row) (IsStolen state) ∷ []) (refl, tt))

      ends : k.queue ≡ q → Ends None (dids_last q k.row (before ++ (On k.queue (CallLock k.row) (IsStolen state) ∷ [])))
      ends e = record {
        gone = ap dequeues same ∙ t.gone k.row;
        held = λ l. let bad : true ≡ false = sym l ∙ ap locks same ∙ t.free k there e unlocked in absurd (cc);
        free = λ j none unlocked_. absurd (cc);
      }

  -- a lock of an entry that was left
  relocks : (k : Hand) (load : Load) (hands : List Hand) → IdsApart all → In k hands → Tracks q all before hands → Tracks q all (before ++ (On k.queue (CallLock k.row) (IsLocked load) ∷ [])) (replaced (locked_hand k load) hands)
  relocks k load hands apart there t =
      let n : Hand = locked_hand k load in
      let ds : List Did = On k.queue (CallLock k.row) (IsLocked load) ∷ [] in
      tracks_on q k.queue k.row k.id all (Some n) before ds hands (replaced n hands) apart t (replaced_moves n k hands there (is_itself k)) ((refl, λ s. refl), tt) (refl, refl, refl) (λ e. t.rows k there e)
      (λ e. ends_lock n (cargo_of k load) (dids_last q k.row (before ++ ds)) (acts.Lock k.row) (one_last k.queue k.row [] (CallLock k.row) (IsLocked load) (acts.Lock k.row) e (row_hit k.row (acts.Lock k.row))) refl refl)

  -- an unlock
  leaves : (k : Hand) (load : Load) (hands : List Hand) → IdsApart all → In k hands → Tracks q all before hands → Tracks q all (before ++ (On k.queue (CallUnlock k.row load) IsDone ∷ [])) (replaced (left_hand k) hands)
  leaves k load hands apart there t =
      let n : Hand = left_hand k in
      let ds : List Did = On k.queue (CallUnlock k.row load) IsDone ∷ [] in
      let a : Act = acts.Unlock k.row load.count in
      tracks_on q k.queue k.row k.id all (Some n) before ds hands (replaced n hands) apart t (replaced_moves n k hands there (is_itself k)) ((refl, λ s. refl), tt) (refl, refl, refl) (λ e. t.rows k there e)
      (λ e. ends_free (Some n) (dids_last q k.row (before ++ ds)) a (one_last k.queue k.row [] (CallUnlock k.row load) IsDone a e (row_hit k.row a)) refl refl)

-- Puts

-- hands without the entries of two lists, one after the other
let_go_append : (xs ys : List Dropped) (hands : List Hand) → let_go (xs ++ ys) hands ≡ let_go ys (let_go xs hands)
let_go_append [] ys hands = refl
let_go_append (x ∷ xs) ys hands = let_go_append xs ys (without x.queue x.id hands)

-- a ring that was trimmed
trim_tracks : (q : ℕ) (all : Queue) (p : ℕ) (limits : Limits) (xs : List Dropped) (dids before : List Did) (hands : List Hand) → Trims limits p xs dids → IdsApart all → AllByRecursion (DidKnown q all) dids → Tracks q all before hands
    → Tracks q all (before ++ dids) (let_go xs hands)
trim_tracks q all p limits [] dids before hands trims apart known t = ⊎_elim
    (λ within. keeps q all before dids _ hands hands within.1 refl (refl, tt) t)
    (λ beyond. keeps q all before dids _ hands hands beyond.1 refl (refl, (refl, tt)) t)
    trims.1
trim_tracks q all p limits (x ∷ xs) dids before hands trims apart known t =
    let first : List Did = trims.0 in
    let others : List Did = trims.1 in
    let one = trims.2 in
    let front : List Did = On p CallDepth (IsDepth one.depth) ∷ (On p CallOldest (IsGot one.row one.list one.load) ∷ []) in
    let each = all_parts (DidKnown q all) first others (subst (AllByRecursion (DidKnown q all)) trims.4 known) in
    let got = subst (AllByRecursion (DidKnown q all)) one.did each.0 in
    let gone : Tracks q all (before ++ (front ++ drop p one.row one.size)) (without p one.load.id hands) =
    drops q all before p one.row one.load.id one.size front hands apart ((refl, tt), ((refl, λ s. refl), tt)) (λ e. got.1.0 e one.row one.load refl) t
    in
    let named : Tracks q all (before ++ (front ++ drop p one.row one.size)) (without x.queue x.id hands) = subst (λ (y : Dropped). Tracks q all (before ++ (front ++ drop p one.row one.size)) (without y.queue y.id hands)) (sym one.named) gone in
    let here : Tracks q all (before ++ first) (without x.queue x.id hands) = subst (λ (ds : List Did). Tracks q all (before ++ ds) (without x.queue x.id hands)) (sym one.did) named in
    let rest = trim_tracks q all p limits xs others (before ++ first) (without x.queue x.id hands) trims.3 apart each.1 here in
    subst (λ (ds : List Did). Tracks q all ds (let_go xs (without x.queue x.id hands))) (append_assoc before first others ∙ ap (λ (ds : List Did). before ++ ds) (sym trims.4)) rest

-- a ring, or a queue that is none
ring_tracks : (q : ℕ) (all : Queue) (p : ℕ) (ring : Bool) (limits : Limits) (xs : List Dropped) (dids before : List Did) (hands : List Hand) → TrimsRing ring limits p xs dids → IdsApart all → AllByRecursion (DidKnown q all) dids → Tracks q all before hands
    → Tracks q all (before ++ dids) (let_go xs hands)
ring_tracks q all p true limits xs dids before hands trims apart known t = trim_tracks q all p limits xs dids before hands trims apart known t
ring_tracks q all p false limits xs dids before hands trims apart known t =
    keeps q all before dids [] (let_go xs hands) hands trims.1 (ap (λ (ys : List Dropped). let_go ys hands) trims.0) tt t

-- the message was put, and the older entry that it displaced was dropped
older_tracks : (q : ℕ) (all : Queue) (p n row : ℕ) (depth : Depth) (slip : Slip) (load : Load) (displaced : Option (ℕ × Load)) (xs : List Dropped) (dids before : List Did) (hands : List Hand) → DropsOlder p displaced xs dids → IdsApart all
    → AllByRecursion (DidKnown q all) (On p (CallReserve n) (IsDepth depth) ∷ (On p (CallPut slip load) (IsAt row displaced) ∷ dids)) → Tracks q all before hands
    → Tracks q all (before ++ (On p (CallReserve n) (IsDepth depth) ∷ (On p (CallPut slip load) (IsAt row displaced) ∷ dids))) (let_go xs hands)
older_tracks q all p n row depth slip load None xs dids before hands older apart known t =
    let ds : List Did = On p (CallReserve n) (IsDepth depth) ∷ (On p (CallPut slip load) (IsAt row None) ∷ []) in
    keeps q all before _ ds (let_go xs hands) hands (ap (λ (es : List Did). On p (CallReserve n) (IsDepth depth) ∷ (On p (CallPut slip load) (IsAt row None) ∷ es)) older.1) (ap (λ (ys : List Dropped). let_go ys hands) older.0) (refl, (refl, tt)) t
older_tracks q all p n row depth slip load (Some d) xs dids before hands older apart known t =
    let front : List Did = On p (CallReserve n) (IsDepth depth) ∷ (On p (CallPut slip load) (IsAt row (Some d)) ∷ []) in
    done q all before _ (front ++ drop p d.0 older.0) (let_go xs hands) (without p d.1.id hands) (ap (λ (es : List Did). front ++ es) older.2) (ap (λ (ys : List Dropped). let_go ys hands) older.1)
    (drops q all before p d.0 d.1.id older.0 front hands apart ((refl, tt), ((refl, λ s. refl), tt)) (λ e. known.1.0 e d.0 d.1 refl) t)

-- a put that was admitted
put_tracks : (q : ℕ) (all : Queue) (defs : List Defined) (s : Standing) (p : ℕ) (m : Content) (own : List Dropped) (dids : List Did) (s' : Standing) (before : List Did) → Puts defs s p m own dids s'
    → IdsApart all → AllByRecursion (DidKnown q all) dids → Tracks q all before s.hands → Tracks q all (before ++ dids) s'.hands
put_tracks q all defs s p m own dids s' before puts apart known t =
    let front : List Did = On p (CallReserve puts.asks.slip.size) (IsDepth puts.asks.depth) ∷ (On p (CallPut puts.asks.slip (fresh m)) (IsAt puts.row puts.displaced) ∷ puts.older_dids) in
    let each = all_parts (DidKnown q all) front puts.oldest_dids (subst (AllByRecursion (DidKnown q all)) puts.did known) in
    let first = older_tracks q all p puts.asks.slip.size puts.row puts.asks.depth puts.asks.slip (fresh m) puts.displaced puts.older puts.older_dids before s.hands puts.drops_older apart each.0 t in
    let both = ring_tracks q all p (is_ring puts.asks.def.limits) puts.asks.def.limits puts.oldest puts.oldest_dids (before ++ front) (let_go puts.older s.hands) puts.trims apart each.1 first in
    let gone : s'.hands ≡ let_go puts.oldest (let_go puts.older s.hands) = ap (λ (z : Standing). z.hands) puts.leaves ∙ ap (λ (xs : List Dropped). let_go xs s.hands) puts.all ∙ let_go_append puts.older puts.oldest s.hands in
    done q all before dids (front ++ puts.oldest_dids) s'.hands _ puts.did gone
    (subst (λ (ds : List Did). Tracks q all ds (let_go puts.oldest (let_go puts.older s.hands))) (append_assoc before front puts.oldest_dids) both)

-- Lines

-- the hands of a standing that is told
hands_are : (s' t : Standing) → s' ≡ t → s'.hands ≡ t.hands
hands_are s' t is = ap (λ (z : Standing). z.hands) is

-- each line
line_tracks : (q : ℕ) (all : Queue) (defs : List Defined) (s : Standing) (what : What) (answer : report.Answer) (dids : List Did) (s' : Standing) (before : List Did) → LineFits defs s what answer dids s'
    → IdsApart all → AllByRecursion (DidKnown q all) dids → Tracks q all before s.hands → Tracks q all (before ++ dids) s'.hands
line_tracks q all defs s (Put p m) (Accepted id flowed acquired) dids s' before fits apart known t = put_tracks q all defs s p m fits.2.0 dids s' before fits.2.2 apart known t
line_tracks q all defs s (Put p m) (Rejected depth) dids s' before fits apart known t = keeps q all before dids _ s'.hands s.hands fits.did (hands_are s' _ fits.leaves) (refl, (refl, tt)) t
line_tracks q all defs s (Put p m) (Blocked depth) dids s' before fits apart known t = keeps q all before dids _ s'.hands s.hands fits.did (hands_are s' _ fits.leaves) (refl, (refl, tt)) t
line_tracks q all defs s (Take d) Closed dids s' before fits apart known t = keeps q all before dids _ s'.hands s.hands fits.1.did (hands_are s' s fits.1.same) tt t
line_tracks q all defs s (Take d) NoCredit dids s' before fits apart known t = keeps q all before dids _ s'.hands s.hands fits.1.did (hands_are s' s fits.1.same) tt t
line_tracks q all defs s (Take d) Empty dids s' before fits apart known t = keeps q all before dids _ s'.hands s.hands fits.did (hands_are s' s fits.same) (refl, tt) t
line_tracks q all defs s (Take d) (Got id n) dids s' before fits apart known t =
    done q all before dids _ s'.hands _ fits.did (hands_are s' _ fits.leaves)
    (gets q all before fits.queue fits.place fits.row fits.list n fits.load s.hands apart (subst (AllByRecursion (DidKnown q all)) fits.did known) t)
line_tracks q all defs s (Close d) Closed dids s' before fits apart known t = keeps q all before dids _ s'.hands s.hands fits.0 (hands_are s' _ fits.1) tt t
line_tracks q all defs s (Ack p named) (Acked id) dids s' before fits apart known t =
    done q all before dids _ s'.hands _ fits.fact.does.did (hands_are s' _ fits.fact.does.leaves)
    (acks q all before fits.hand fits.fact.load fits.fact.size s.hands apart (meant_in p named s.hands fits.hand fits.is_meant) t)
line_tracks q all defs s (Ack p named) (Stolen state) dids s' before fits apart known t =
    done q all before dids _ s'.hands _ fits.fact.1.did (hands_are s' _ fits.fact.1.leaves)
    (takes q all before fits.hand state s.hands apart (meant_in p named s.hands fits.hand fits.is_meant) fits.fact.0 t)
line_tracks q all defs s (Ack p named) NotHeld dids s' before fits apart known t = keeps q all before dids _ s'.hands s.hands fits.1.did (hands_are s' s fits.1.same) tt t
line_tracks q all defs s (Release p named) (Released id) dids s' before fits apart known t =
    done q all before dids _ s'.hands _ fits.fact.does.did (hands_are s' _ fits.fact.does.leaves)
    (frees q all before fits.hand fits.fact.load fits.fact.mask s.hands apart (meant_in p named s.hands fits.hand fits.is_meant) t)
line_tracks q all defs s (Release p named) (Outdated id) dids s' before fits apart known t =
    done q all before dids _ s'.hands _ fits.fact.does.did (hands_are s' _ fits.fact.does.leaves)
    (outdates q all before fits.hand fits.fact.load fits.fact.size s.hands apart (meant_in p named s.hands fits.hand fits.is_meant) t)
line_tracks q all defs s (Release p named) (Stolen state) dids s' before fits apart known t =
    done q all before dids _ s'.hands _ fits.fact.1.did (hands_are s' _ fits.fact.1.leaves)
    (takes q all before fits.hand state s.hands apart (meant_in p named s.hands fits.hand fits.is_meant) fits.fact.0 t)
line_tracks q all defs s (Release p named) NotHeld dids s' before fits apart known t = keeps q all before dids _ s'.hands s.hands fits.1.did (hands_are s' s fits.1.same) tt t
line_tracks q all defs s (Lock p named) (Locked id) dids s' before fits apart known t =
    done q all before dids _ s'.hands _ fits.fact.does.did (hands_are s' _ fits.fact.does.leaves)
    (relocks q all before fits.hand fits.fact.load s.hands apart (meant_in p named s.hands fits.hand fits.is_meant) t)
line_tracks q all defs s (Lock p named) (Stolen state) dids s' before fits apart known t =
    done q all before dids _ s'.hands _ fits.fact.1.did (hands_are s' _ fits.fact.1.leaves)
    (takes q all before fits.hand state s.hands apart (meant_in p named s.hands fits.hand fits.is_meant) fits.fact.0 t)
line_tracks q all defs s (Lock p named) NotHeld dids s' before fits apart known t = keeps q all before dids _ s'.hands s.hands fits.1.did (hands_are s' s fits.1.same) tt t
line_tracks q all defs s (Unlock p named) (Unlocked id) dids s' before fits apart known t =
    done q all before dids _ s'.hands _ fits.fact.does.did (hands_are s' _ fits.fact.does.leaves)
    (leaves q all before fits.hand fits.fact.load s.hands apart (meant_in p named s.hands fits.hand fits.is_meant) t)
line_tracks q all defs s (Unlock p named) NotHeld dids s' before fits apart known t = keeps q all before dids _ s'.hands s.hands fits.1.did (hands_are s' s fits.1.same) tt t
line_tracks q all defs s (Steal p id) (Stole told) dids s' before fits apart known t =
    done q all before dids _ s'.hands _ fits.1.does.did (hands_are s' _ fits.1.does.leaves)
    (steals q all before p id fits.1.row fits.1.load s.hands apart (subst (AllByRecursion (DidKnown q all)) fits.1.does.did known) t)
line_tracks q all defs s (Steal p id) (NotStealable state) dids s' before fits apart known t = keeps q all before dids _ s'.hands s.hands fits.1.did (hands_are s' _ fits.1.leaves) (refl, (refl, tt)) t
line_tracks q all defs s (Steal p id) (Moved state) dids s' before fits apart known t = keeps q all before dids _ s'.hands s.hands fits.1.did (hands_are s' _ fits.1.leaves) (refl, (refl, tt)) t
line_tracks q all defs s (Steal p id) Absent dids s' before fits apart known t = keeps q all before dids _ s'.hands s.hands fits.did (hands_are s' _ fits.leaves) (refl, tt) t
line_tracks q all defs s what answer dids s' before fits apart known t = absurd fits

-- and many
pub lines_track : (q : ℕ) (all : Queue) (defs : List Defined) (s : Standing) (ops : List Op) (answers : List report.Answer) (dids : List Did) (s' : Standing) (before : List Did) → LinesFit defs s ops answers dids s'
    → IdsApart all → AllByRecursion (DidKnown q all) dids → Tracks q all before s.hands → Tracks q all (before ++ dids) s'.hands
lines_track q all defs s [] [] dids s' before fits apart known t = keeps q all before dids [] s'.hands s.hands fits.0 (hands_are s' s fits.1) tt t
lines_track q all defs s [] (a ∷ answers) dids s' before fits apart known t = absurd fits
lines_track q all defs s (op ∷ ops) [] dids s' before fits apart known t = absurd fits
lines_track q all defs s (op ∷ ops) (a ∷ answers) dids s' before fits apart known t =
    let each = all_parts (DidKnown q all) fits.0 fits.2 (subst (AllByRecursion (DidKnown q all)) fits.5 known) in
    let here = line_tracks q all defs s op.what a fits.0 fits.1 before fits.3 apart each.0 t in
    let rest = lines_track q all defs fits.1 ops answers fits.2 s' (before ++ fits.0) fits.4 apart each.1 here in
    subst (λ (xs : List Did). Tracks q all xs s'.hands) (append_assoc before fits.0 fits.2 ∙ ap (λ (xs : List Did). before ++ xs) (sym fits.5)) rest

-- The end

-- After the unlocks of all that is locked in the hands, a row was not touched by them, and no locked entry is of it; or it was
-- left by them.
record IsFree (q r : ℕ) (hands : List Hand) : Type 0 where
  quiet : dids_last q r (unlocks hands) ≡ None
  none : (k : Hand) (load : Load) → In k hands → k.queue ≡ q → k.row ≡ r → k.cargo ≡ Some load → ⊥

record IsLet (q r : ℕ) (hands : List Hand) : Type 0 where
  act : Act
  last : dids_last q r (unlocks hands) ≡ Some act
  locks_none : locks (Some act) ≡ false
  takes_none : dequeues (Some act) ≡ false

-- one of the two is so
unlocked_all : (q r : ℕ) (hands : List Hand) → IsFree q r hands ⊎ IsLet q r hands
unlocked_all q r [] = inl (record { quiet = refl; none = λ k load is queue row cargo. is })
unlocked_all q r (k ∷ ks) = ⊎_elim (λ (rest : IsFree q r ks). by_cargo k.cargo refl rest) (λ (rest : IsLet q r ks). inr (left rest)) (unlocked_all q r ks) where
  left : IsLet q r ks → IsLet q r (k ∷ ks)
  left rest = record { act = rest.act; last = last_of k.cargo; locks_none = rest.locks_none; takes_none = rest.takes_none } where
    last_of : (o : Option Load) → dids_last q r (unlock_of k o ++ unlocks ks) ≡ Some rest.act
    last_of o = last_behind q r (unlock_of k o) (unlocks ks) rest.act rest.last

  by_cargo : (o : Option Load) → k.cargo ≡ o → IsFree q r ks → IsFree q r (k ∷ ks) ⊎ IsLet q r (k ∷ ks)
  by_cargo None is rest = inl (record {
    quiet = ap (λ (o : Option Load). dids_last q r (unlock_of k o ++ unlocks ks)) is ∙ rest.quiet;
    none = λ j load there queue row cargo. ⊎_elim
        (λ (e : k ≡ j). let bad : None ≡ Some load = sym is ∙ ap (λ (x : Hand). x.cargo) e ∙ cargo in absurd (cc))
        (λ (behind : In j ks). rest.none j load behind queue row cargo)
        there;
  })
  by_cargo (Some load) is rest = by_tests (nat_eq k.queue q) (k.row == r) refl refl where
    last_of : dids_last q r (unlocks (k ∷ ks)) ≡ cond (nat_eq k.queue q) (cond (k.row == r) (Some (acts.Unlock k.row load.count)) None) None
    last_of =
        ap (λ (o : Option Load). dids_last q r (unlock_of k o ++ unlocks ks)) is
        ∙ ap (λ (o : Option Act). or_else o (did_last q r (On k.queue (CallUnlock k.row load) IsDone))) rest.quiet

    misses : (nat_eq k.queue q ≡ false) ⊎ ((k.row == r) ≡ false) → (j : Hand) (cargo : Load) → In j (k ∷ ks) → j.queue ≡ q → j.row ≡ r → j.cargo ≡ Some cargo → ⊥
    misses miss j cargo (inr behind) queue row locked = rest.none j cargo behind queue row locked
    misses miss j cargo (inl e) queue row locked = ⊎_elim
        (λ (m : nat_eq k.queue q ≡ false). let bad : true ≡ false = sym (eq-eqb k.queue q (ap (λ (x : Hand). x.queue) e ∙ queue)) ∙ m in absurd (cc))
        (λ (m : (k.row == r) ≡ false). let bad : true ≡ false = sym (eq-eqb k.row r (ap (λ (x : Hand). x.row) e ∙ row)) ∙ m in absurd (cc))
        miss

    by_tests : (a b : Bool) → nat_eq k.queue q ≡ a → (k.row == r) ≡ b → IsFree q r (k ∷ ks) ⊎ IsLet q r (k ∷ ks)
    by_tests true true e f = inr (record {
      act = acts.Unlock k.row load.count;
      last = last_of ∙ ap (λ (a : Bool). cond a (cond (k.row == r) (Some (acts.Unlock k.row load.count)) None) None) e ∙ ap (λ (b : Bool). cond b (Some (acts.Unlock k.row load.count)) None) f;
      locks_none = refl;
      takes_none = refl;
    })
    by_tests true false e f = inl (record {
      quiet = last_of ∙ ap (λ (a : Bool). cond a (cond (k.row == r) (Some (acts.Unlock k.row load.count)) None) None) e ∙ ap (λ (b : Bool). cond b (Some (acts.Unlock k.row load.count)) None) f;
      none = misses (inr f);
    })
    by_tests false b e f = inl (record {
      quiet = last_of ∙ ap (λ (a : Bool). cond a (cond (k.row == r) (Some (acts.Unlock k.row load.count)) None) None) e;
      none = misses (inl e);
    })

-- so no row was locked last, or dequeued
pub tracks_end : (q : ℕ) (all : Queue) (dids : List Did) (hands : List Hand) (r : ℕ) → Tracks q all dids hands → (locks (dids_last q r (dids ++ unlocks hands)) ≡ false) × (dequeues (dids_last q r (dids ++ unlocks hands)) ≡ false)
tracks_end q all dids hands r t = ⊎_elim
    (λ (free : IsFree q r hands).
    let same = last_before q r dids (unlocks hands) free.quiet in
    (ap locks same ∙ by_lock free (locks (dids_last q r dids)) refl, ap dequeues same ∙ t.gone r))
    (λ (left : IsLet q r hands).
    let last = last_behind q r dids (unlocks hands) left.act left.last in
    (ap locks last ∙ left.locks_none, ap dequeues last ∙ left.takes_none))
    (unlocked_all q r hands)
  where
    by_lock : IsFree q r hands → (b : Bool) → locks (dids_last q r dids) ≡ b → locks (dids_last q r dids) ≡ false
    by_lock free false e = e
    by_lock free true e = let h = t.held r e in absurd (free.none h.hand h.load h.there h.queue h.row h.locked)
