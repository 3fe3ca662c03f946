-- what lines leave of the rights of a pass
use Rattle.std.proofs.Common.{◌≡◌, ℕ, ◌+◌, ◌≤◌, Bool, true, false, cond, nat_eq, inl, inr, Option, Some, None, List, [], ◌∷◌, ◌++◌, refl, sym, subst, arith}
use Rattle.acts_core.specs.Calls.{Call, CallDepth, CallReserve, CallGiveBack, CallPut, CallNext, CallOldest, CallFind, CallLock, CallUnlock, CallRelease, CallSteal, CallDequeue, CallDelete, Answer, IsDepth, IsAt, IsGot, IsEmpty, IsFound, IsLocked, IsStolen, IsReleased, IsOutdated, HasStolen, IsNotStealable, IsMoved, IsFreed, IsDone}
use Rattle.acts_core.specs.Load.{Load}
use Rattle.acts_core.specs.Meaning.{allowance_after, share_after}
use Rattle.defs_read.specs.Defined.{Defined}
use Rattle.script_read.specs.declared.lines.What.{What}
use Rattle.script_read.specs.declared.lines.What.TheVariants.{Put, Take, Close, Ack, Release, Lock, Unlock, Steal, Begin, Commit, Rollback}
use Rattle.report_core.specs.declared.answers.Answer as report
use Rattle.report_core.specs.declared.answers.Answer.TheVariants.{Accepted, Rejected, Blocked, Got, Empty, NoCredit, Closed, Acked, NotHeld, Stolen, Released, Outdated, Unlocked, Locked, Stole, NotStealable, Moved, Absent}
use Rattle.message_core.specs.Spelling.{Content}
use Rattle.overflow_core.specs.Limits.{is_ring}
use Rattle.overflow_core.specs.declared.verdicts.Verdict.{Verdict}
use Rattle.overflow_core.specs.declared.verdicts.Verdict.TheVariants as verdict
use Rattle.queue_model.specs.declared.queues.Limits.{Limits}
use Rattle.report_core.specs.declared.answers.Dropped.{Dropped}
use Rattle.line_core.specs.Fits.{Did, DropsOldest, DropsOlder, On, LineFits, Puts, Refuses, Standing, Trims, TrimsRing, drop, fresh, lock_first}
use Rattle.line_core.specs.Hands.{Hand}
use Rattle.line_core.specs.Runs.{allowance_over, calls_on, share_over}
use Rattle.line_core.proofs.LineLists.{calls_append}
use Rattle.workers_core.specs.Jobs.{is_put}

-- whether a call reserves, and whether it puts
abbrev reserves : Call → ℕ
reserves (CallReserve size) = 1
reserves call = 0

abbrev puts : Call → ℕ
puts (CallPut slip load) = 1
puts call = 0

abbrev pub all_reserves : List (Call × Answer) → ℕ
all_reserves [] = 0
all_reserves (c ∷ cs) = reserves c.0 + all_reserves cs

abbrev pub all_puts : List (Call × Answer) → ℕ
all_puts [] = 0
all_puts (c ∷ cs) = puts c.0 + all_puts cs

allowance_one : (call : Call) (n : ℕ) → n ≤ allowance_after call n + reserves call
allowance_one CallDepth n = omega arith
allowance_one (CallReserve size) n = omega arith
allowance_one (CallGiveBack size) n = omega arith
allowance_one (CallPut slip load) n = omega arith
allowance_one (CallNext c) n = omega arith
allowance_one CallOldest n = omega arith
allowance_one (CallFind id) n = omega arith
allowance_one (CallLock r) n = omega arith
allowance_one (CallUnlock r load) n = omega arith
allowance_one (CallRelease r load) n = omega arith
allowance_one (CallSteal r) n = omega arith
allowance_one (CallDequeue r) n = omega arith
allowance_one (CallDelete r) n = omega arith

-- a pass may reserve as many less as were reserved
pub allowance_least : (cs : List (Call × Answer)) (n : ℕ) → n ≤ allowance_over cs n + all_reserves cs
allowance_least [] n = omega arith
allowance_least (c ∷ cs) n = omega (arith, allowance_one c.0 n, allowance_least cs (allowance_after c.0 n))

share_one : (call : Call) (answer : Answer) (n : ℕ) → n ≤ share_after call answer n + puts call
share_one (CallPut slip load) (IsAt r displaced) n = omega arith
share_one (CallPut slip load) answer n = omega arith
share_one CallDepth answer n = omega arith
share_one (CallReserve size) answer n = omega arith
share_one (CallGiveBack size) answer n = omega arith
share_one (CallNext c) answer n = omega arith
share_one CallOldest answer n = omega arith
share_one (CallFind id) answer n = omega arith
share_one (CallLock r) answer n = omega arith
share_one (CallUnlock r load) answer n = omega arith
share_one (CallRelease r load) answer n = omega arith
share_one (CallSteal r) answer n = omega arith
share_one (CallDequeue r) answer n = omega arith
share_one (CallDelete r) answer n = omega arith

pub share_least : (cs : List (Call × Answer)) (n : ℕ) → n ≤ share_over cs n + all_puts cs
share_least [] n = omega arith
share_least (c ∷ cs) n = omega (arith, share_one c.0 c.1 n, share_least cs (share_after c.0 c.1 n))

-- Lines

-- the calls of a line that is no put reserve nothing and put nothing
pub record IsFrugal (dids : List Did) : Type 0 where
  pub reserved : (q : ℕ) → all_reserves (calls_on q dids) ≡ 0
  pub put : (q : ℕ) → all_puts (calls_on q dids) ≡ 0

frugal_none : IsFrugal []
frugal_none = record { reserved = λ q. refl; put = λ q. refl }

-- one such call before others
frugal_on : (r : ℕ) (call : Call) (answer : Answer) (dids : List Did) → reserves call ≡ 0 → puts call ≡ 0 → IsFrugal dids → IsFrugal (On r call answer ∷ dids)
frugal_on r call answer dids no_reserve no_put rest = record { reserved = λ q. by_reserve q (nat_eq r q); put = λ q. by_put q (nat_eq r q) }
  where
    by_reserve : (q : ℕ) (b : Bool) → all_reserves (cond b ((call, answer) ∷ calls_on q dids) (calls_on q dids)) ≡ 0
    by_reserve q true = omega (arith, no_reserve, rest.reserved q)
    by_reserve q false = rest.reserved q

    by_put : (q : ℕ) (b : Bool) → all_puts (cond b ((call, answer) ∷ calls_on q dids) (calls_on q dids)) ≡ 0
    by_put q true = omega (arith, no_put, rest.put q)
    by_put q false = rest.put q

-- behind what locks an entry first
frugal_locked : (k : Hand) (cargo : Option Load) (load : Load) (dids : List Did) → k.cargo ≡ cargo → IsFrugal dids → IsFrugal (lock_first k load ++ dids)
frugal_locked k None load dids is rest = rw is (frugal_on k.queue (CallLock k.row) (IsLocked load) dids refl refl rest)
frugal_locked k (Some l) load dids is rest = rw is rest

-- behind others
reserves_append : (xs ys : List (Call × Answer)) → all_reserves (xs ++ ys) ≡ all_reserves xs + all_reserves ys
reserves_append [] ys = omega arith
reserves_append (x ∷ xs) ys = omega (arith, reserves_append xs ys)

puts_append : (xs ys : List (Call × Answer)) → all_puts (xs ++ ys) ≡ all_puts xs + all_puts ys
puts_append [] ys = omega arith
puts_append (x ∷ xs) ys = omega (arith, puts_append xs ys)

frugal_append : (xs ys : List Did) → IsFrugal xs → IsFrugal ys → IsFrugal (xs ++ ys)
frugal_append xs ys x y = record {
  reserved = λ q. rw (calls_append q xs ys) (omega (arith, reserves_append (calls_on q xs) (calls_on q ys), x.reserved q, y.reserved q));
  put = λ q. rw (calls_append q xs ys) (omega (arith, puts_append (calls_on q xs) (calls_on q ys), x.put q, y.put q));
}

frugal_drop : (q r size : ℕ) → IsFrugal (drop q r size)
frugal_drop q r size = frugal_on q (CallDequeue r) (IsFreed size) (On q (CallDelete r) IsDone ∷ []) refl refl (frugal_on q (CallDelete r) IsDone [] refl refl frugal_none)

-- entries that are dropped for a put
frugal_older : (q : ℕ) (o : Option (ℕ × Load)) (own : List Dropped) (dids : List Did) → DropsOlder q o own dids → IsFrugal dids
frugal_older q None own dids drops = subst IsFrugal (sym drops.1) frugal_none
frugal_older q (Some d) own dids drops = subst IsFrugal (sym drops.2) (frugal_drop q d.0 drops.0)

frugal_trims : (limits : Limits) (q : ℕ) (own : List Dropped) (dids : List Did) → Trims limits q own dids → IsFrugal dids
frugal_trims limits q [] dids (depth, inl (within, did)) = subst IsFrugal (sym did) (frugal_on q CallDepth (IsDepth depth) [] refl refl frugal_none)
frugal_trims limits q [] dids (depth, inr (beyond, did)) = subst IsFrugal (sym did) (frugal_on q CallDepth (IsDepth depth) (On q CallOldest IsEmpty ∷ []) refl refl (frugal_on q CallOldest IsEmpty [] refl refl frugal_none))
frugal_trims limits q (x ∷ own) dids trims =
    let one : DropsOldest limits q x trims.0 = trims.2 in
    let first : IsFrugal trims.0 = subst IsFrugal (sym one.did)
    (frugal_on q CallDepth (IsDepth one.depth) (On q CallOldest (IsGot one.row one.list one.load) ∷ drop q one.row one.size) refl refl
    (frugal_on q CallOldest (IsGot one.row one.list one.load) (drop q one.row one.size) refl refl (frugal_drop q one.row one.size)))
    in
    subst IsFrugal (sym trims.4) (frugal_append trims.0 trims.1 first (frugal_trims limits q own trims.1 trims.3))

frugal_ring : (ring : Bool) (limits : Limits) (q : ℕ) (own : List Dropped) (dids : List Did) → TrimsRing ring limits q own dids → IsFrugal dids
frugal_ring true limits q own dids trims = frugal_trims limits q own dids trims
frugal_ring false limits q own dids trims = subst IsFrugal (sym trims.1) frugal_none

pub frugal : (defs : List Defined) (s : Standing) (w : What) (a : report.Answer) (dids : List Did) (s' : Standing) → is_put w ≡ false → LineFits defs s w a dids s' → IsFrugal dids
frugal defs s (Take c) Closed dids s' isnt fits = subst IsFrugal (sym fits.1.did) frugal_none
frugal defs s (Take c) NoCredit dids s' isnt fits = subst IsFrugal (sym fits.1.did) frugal_none
frugal defs s (Take c) Empty dids s' isnt fits = subst IsFrugal (sym fits.did) (frugal_on fits.queue (CallNext fits.place) IsEmpty [] refl refl frugal_none)
frugal defs s (Take c) (Got id n) dids s' isnt fits = subst IsFrugal (sym fits.did) (frugal_on fits.queue (CallNext fits.place) (IsGot fits.row fits.list fits.load) [] refl refl frugal_none)
frugal defs s (Close c) Closed dids s' isnt fits = subst IsFrugal (sym fits.0) frugal_none
frugal defs s (Ack q named) (Acked id) dids s' isnt fits =
    let k = fits.hand in
    subst IsFrugal (sym fits.fact.does.did) (frugal_locked k k.cargo fits.fact.load (drop k.queue k.row fits.fact.size) refl
    (frugal_on k.queue (CallDequeue k.row) (IsFreed fits.fact.size) (On k.queue (CallDelete k.row) IsDone ∷ []) refl refl (frugal_on k.queue (CallDelete k.row) IsDone [] refl refl frugal_none)))
frugal defs s (Ack q named) (Stolen state) dids s' isnt fits = subst IsFrugal (sym fits.fact.1.did) (frugal_on fits.hand.queue (CallLock fits.hand.row) (IsStolen state) [] refl refl frugal_none)
frugal defs s (Ack q named) NotHeld dids s' isnt fits = subst IsFrugal (sym fits.1.did) frugal_none
frugal defs s (Release q named) (Released id) dids s' isnt fits =
    let k = fits.hand in
    subst IsFrugal (sym fits.fact.does.did) (frugal_locked k k.cargo fits.fact.load _ refl (frugal_on k.queue (CallRelease k.row _) (IsReleased fits.fact.mask) [] refl refl frugal_none))
frugal defs s (Release q named) (Outdated id) dids s' isnt fits =
    let k = fits.hand in
    subst IsFrugal (sym fits.fact.does.did) (frugal_locked k k.cargo fits.fact.load _ refl (frugal_on k.queue (CallRelease k.row _) (IsOutdated _) (drop k.queue k.row fits.fact.size) refl refl (frugal_drop k.queue k.row fits.fact.size)))
frugal defs s (Release q named) (Stolen state) dids s' isnt fits = subst IsFrugal (sym fits.fact.1.did) (frugal_on fits.hand.queue (CallLock fits.hand.row) (IsStolen state) [] refl refl frugal_none)
frugal defs s (Release q named) NotHeld dids s' isnt fits = subst IsFrugal (sym fits.1.did) frugal_none
frugal defs s (Lock q named) (Locked id) dids s' isnt fits = subst IsFrugal (sym fits.fact.does.did) (frugal_on fits.hand.queue (CallLock fits.hand.row) (IsLocked fits.fact.load) [] refl refl frugal_none)
frugal defs s (Lock q named) (Stolen state) dids s' isnt fits = subst IsFrugal (sym fits.fact.1.did) (frugal_on fits.hand.queue (CallLock fits.hand.row) (IsStolen state) [] refl refl frugal_none)
frugal defs s (Lock q named) NotHeld dids s' isnt fits = subst IsFrugal (sym fits.1.did) frugal_none
frugal defs s (Unlock q named) (Unlocked id) dids s' isnt fits = subst IsFrugal (sym fits.fact.does.did) (frugal_on fits.hand.queue (CallUnlock fits.hand.row fits.fact.load) IsDone [] refl refl frugal_none)
frugal defs s (Unlock q named) NotHeld dids s' isnt fits = subst IsFrugal (sym fits.1.did) frugal_none
frugal defs s (Steal q id) (Stole told) dids s' isnt fits = subst IsFrugal (sym fits.1.does.did) (frugal_on q (CallFind id) (IsFound (Some fits.1.row)) _ refl refl (frugal_on q (CallSteal fits.1.row) (HasStolen fits.1.load) [] refl refl frugal_none))
frugal defs s (Steal q id) (NotStealable state) dids s' isnt fits = subst IsFrugal (sym fits.1.did) (frugal_on q (CallFind id) (IsFound (Some fits.0)) _ refl refl (frugal_on q (CallSteal fits.0) (IsNotStealable state) [] refl refl frugal_none))
frugal defs s (Steal q id) (Moved state) dids s' isnt fits = subst IsFrugal (sym fits.1.did) (frugal_on q (CallFind id) (IsFound (Some fits.0)) _ refl refl (frugal_on q (CallSteal fits.0) (IsMoved state) [] refl refl frugal_none))
frugal defs s (Steal q id) Absent dids s' isnt fits = subst IsFrugal (sym fits.did) (frugal_on q (CallFind id) (IsFound None) [] refl refl frugal_none)
frugal defs s (Put q m) answer dids s' isnt fits = absurd (cc)
frugal defs s w a dids s' isnt fits = absurd fits

-- a put that was refused reserves once
refused_spends : (defs : List Defined) (s : Standing) (q r : ℕ) (m : Content) (v : Verdict) (dids : List Did) (s' : Standing) → Refuses defs s r m v dids s' → (all_reserves (calls_on q dids) ≤ 1) × (all_puts (calls_on q dids) ≤ 1)
refused_spends defs s q r m v dids s' refused =
    subst (λ (ds : List Did). (all_reserves (calls_on q ds) ≤ 1) × (all_puts (calls_on q ds) ≤ 1)) (sym refused.did) (by_test (nat_eq r q))
  where
    first : Call × Answer
    first = (CallReserve refused.asks.slip.size, IsDepth refused.asks.depth)

    second : Call × Answer
    second = (CallGiveBack refused.asks.slip.size, IsDone)

    by_test : (b : Bool) → (all_reserves (cond b (first ∷ cond b (second ∷ []) []) (cond b (second ∷ []) [])) ≤ 1) × (all_puts (cond b (first ∷ cond b (second ∷ []) []) (cond b (second ∷ []) [])) ≤ 1)
    by_test true = (omega arith, omega arith)
    by_test false = (omega arith, omega arith)

-- a put reserves once and puts once
pub put_spends : (defs : List Defined) (s : Standing) (q : ℕ) (w : What) (a : report.Answer) (dids : List Did) (s' : Standing) → is_put w ≡ true → LineFits defs s w a dids s' → (all_reserves (calls_on q dids) ≤ 1) × (all_puts (calls_on q dids) ≤ 1)
put_spends defs s q (Put r m) (Accepted id flowed acquired) dids s' is_one fits =
    subst (λ (ds : List Did). (all_reserves (calls_on q ds) ≤ 1) × (all_puts (calls_on q ds) ≤ 1)) (sym puts.did) (by_test (nat_eq r q))
  where
    puts : Puts defs s r m fits.2.0 dids s'
    puts = fits.2.2

    others : List (Call × Answer)
    others = calls_on q (puts.older_dids ++ puts.oldest_dids)

    rest : IsFrugal (puts.older_dids ++ puts.oldest_dids)
    rest = frugal_append puts.older_dids puts.oldest_dids (frugal_older r puts.displaced puts.older puts.older_dids puts.drops_older) (frugal_ring (is_ring puts.asks.def.limits) puts.asks.def.limits r puts.oldest puts.oldest_dids puts.trims)

    first : Call × Answer
    first = (CallReserve puts.asks.slip.size, IsDepth puts.asks.depth)

    second : Call × Answer
    second = (CallPut puts.asks.slip (fresh m), IsAt puts.row puts.displaced)

    by_test : (b : Bool) → (all_reserves (cond b (first ∷ cond b (second ∷ others) others) (cond b (second ∷ others) others)) ≤ 1) × (all_puts (cond b (first ∷ cond b (second ∷ others) others) (cond b (second ∷ others) others)) ≤ 1)
    by_test true = (omega (arith, rest.reserved q), omega (arith, rest.put q))
    by_test false = (omega (arith, rest.reserved q), omega (arith, rest.put q))
put_spends defs s q (Put r m) (Rejected depth) dids s' is_one fits = refused_spends defs s q r m (verdict.Rejected depth) dids s' fits
put_spends defs s q (Put r m) (Blocked depth) dids s' is_one fits = refused_spends defs s q r m (verdict.Blocked depth) dids s' fits
put_spends defs s q (Take c) a dids s' is_one fits = absurd (cc)
put_spends defs s q (Close c) a dids s' is_one fits = absurd (cc)
put_spends defs s q (Ack r id) a dids s' is_one fits = absurd (cc)
put_spends defs s q (Release r id) a dids s' is_one fits = absurd (cc)
put_spends defs s q (Lock r id) a dids s' is_one fits = absurd (cc)
put_spends defs s q (Unlock r id) a dids s' is_one fits = absurd (cc)
put_spends defs s q (Steal r id) a dids s' is_one fits = absurd (cc)
put_spends defs s q Begin a dids s' is_one fits = absurd (cc)
put_spends defs s q Commit a dids s' is_one fits = absurd (cc)
put_spends defs s q Rollback a dids s' is_one fits = absurd (cc)
put_spends defs s q (Put r m) a dids s' is_one fits = absurd fits
