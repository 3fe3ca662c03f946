-- what lines put to a queue
use Rattle.std.proofs.Common.{◌≡◌, ℕ, ◌+◌, ◌≤◌, ◌==◌, nat_eq, Bool, true, false, cond, ◌&&◌, is_some, Option, Some, None, List, [], ◌∷◌, ◌++◌, length, sum_by, refl, sym, ap, ◌∙◌, arith}
use Rattle.std.proofs.lemmas.List.Sums.{sum_by-cons}
use Rattle.std.specs.List.{AllByRecursion, count_by}
use Rattle.queue_model.specs.declared.deeds.Deed.{Deed}
use Rattle.queue_model.specs.declared.queues.Queue.{Queue}
use Rattle.queue_model.specs.History.{after, own, deeds_of}
use Rattle.acts_core.specs.Calls.{Call, CallReserve, CallPut, CallLock, Answer, IsDepth, IsAt, IsLocked, acts_of}
use Rattle.acts_core.specs.Load.{Load}
use Rattle.acts_core.specs.Sight.{Build, Plan, plan_of}
use Rattle.message_core.specs.Spelling.{Content}
use Rattle.defs_read.specs.Defined.{Defined}
use Rattle.script_read.specs.Allowed.{ops_in}
use Rattle.script_read.specs.declared.lines.Op.{Op}
use Rattle.script_read.specs.declared.lines.What.{What}
use Rattle.script_read.specs.declared.lines.What.TheVariants.{Put, Take, Close, Ack, Release, Lock, Unlock, Steal}
use Rattle.report_core.specs.declared.answers.Answer as report
use Rattle.report_core.specs.declared.answers.Dropped.{Dropped}
use Rattle.report_core.specs.declared.answers.Answer.TheVariants.{Accepted, Rejected, Blocked, Got, Empty, NoCredit, Closed, Acked, NotHeld, Stolen, Released, Outdated, Unlocked, Locked, Stole, NotStealable, Moved, Absent}
use Rattle.line_core.specs.Fits.{Did, On, Standing, LineFits, LinesFit, Puts, begins, fresh, lock_first, unlock_of, unlocks}
use Rattle.line_core.specs.Hands.{Hand}
use Rattle.line_core.specs.Runs.{calls_on}
use Rattle.account_core.specs.Counting.{actors_of, entered_among, entered_by, enters_on, puts_among, puts_by, puts_on, with_ids}
use Rattle.account_core.specs.Played.{IsByActor, IsGathered, Makes}
use Rattle.account_core.specs.Settling.{AreStories}
use Rattle.account_core.specs.Stories.{Story, IsStory, calls_of}
use Rattle.account_core.proofs.Acting.{acts_by, acts_made, call_enters, count_append, count_cons, count_none, enters, putting}
use Rattle.account_core.proofs.Closing.{joined_makes}
use Rattle.account_core.proofs.Dropping.{drops_each}
use Rattle.account_core.proofs.RowCounts.{IsAmong, acts_count, after_count, enters_by, parts}

-- the call puts a message to queue q whose id passes
abbrev did_put : ℕ → (ℕ → Bool) → Did → Bool
did_put q test (On r call answer) = putting test call answer && nat_eq r q

-- the acts of calls on a queue put what the calls do
calls_enter : (test : ℕ → Bool) (p : Plan) (q : ℕ) (ds : List Did) → count_by (enters test) (acts_by p (calls_on q ds)) ≡ count_by (did_put q test) ds
calls_enter test p q [] = refl
calls_enter test p q (On r call answer ∷ ds) = by_test (nat_eq r q) (calls_enter test p q ds) ∙ sym (count_cons (did_put q test) (On r call answer) ds) where
  none : (b : Bool) → (b && false) ≡ false
  none true = refl
  none false = refl

  all : (b : Bool) → (b && true) ≡ b
  all true = refl
  all false = refl

  by_test : (b : Bool) → count_by (enters test) (acts_by p (calls_on q ds)) ≡ count_by (did_put q test) ds
      → count_by (enters test) (acts_by p (cond b ((call, answer) ∷ calls_on q ds) (calls_on q ds))) ≡ cond (putting test call answer && b) 1 0 + count_by (did_put q test) ds
  by_test true rest =
      let same : ◌≡◌ {A = ℕ} (cond (putting test call answer && true) 1 0) (cond (putting test call answer) 1 0) = ap (λ (b : Bool). let n : ℕ = cond b 1 0 in n) (all (putting test call answer)) in
      omega (arith, count_append (enters test) (acts_of p call answer) (acts_by p (calls_on q ds)), call_enters test p call answer, rest, same)
  by_test false rest =
      let same : ◌≡◌ {A = ℕ} (cond (putting test call answer && false) 1 0) 0 = ap (λ (b : Bool). let n : ℕ = cond b 1 0 in n) (none (putting test call answer)) in
      omega (arith, rest, same)

-- Lines

-- none of these calls puts
abbrev NonePut : ℕ → (ℕ → Bool) → List Did → Type 0
NonePut q test ds = AllByRecursion (λ d. did_put q test d ≡ false) ds

-- calls of which none puts
none_put : (q : ℕ) (test : ℕ → Bool) (dids ds : List Did) → dids ≡ ds → NonePut q test ds → count_by (did_put q test) dids ≡ 0
none_put q test dids ds same none = ap (count_by (did_put q test)) same ∙ count_none (did_put q test) ds none

-- a lock that comes first puts nothing
lock_puts : (q : ℕ) (test : ℕ → Bool) (k : Hand) (load : Load) (rest : List Did) → NonePut q test rest → NonePut q test (lock_first k load ++ rest)
lock_puts q test k load rest none = elim (is_some k.cargo) as (λ b. NonePut q test (cond b [] (On k.queue (CallLock k.row) (IsLocked load) ∷ []) ++ rest)) [ true ↦ none | false ↦ (refl, none) ]

-- two tests in the other order
turn : (a b : Bool) → (a && b) ≡ (b && a)
turn true true = refl
turn true false = refl
turn false true = refl
turn false false = refl

-- a put puts its message, and nothing while it drops entries
put_puts : (q : ℕ) (test : ℕ → Bool) (defs : List Defined) (s : Standing) (r : ℕ) (m : Content) (own : List Dropped) (dids : List Did) (s' : Standing) → Puts defs s r m own dids s'
    → count_by (did_put q test) dids ≡ cond ((r == q) && test m.id) 1 0
put_puts q test defs s r m own dids s' puts =
    let drops : List Did = puts.older_dids ++ puts.oldest_dids in
    let reserve : Did = On r (CallReserve puts.asks.slip.size) (IsDepth puts.asks.depth) in
    let put : Did = On r (CallPut puts.asks.slip (fresh m)) (IsAt puts.row puts.displaced) in
    let ids : (test puts.asks.slip.id && nat_eq r q) ≡ ((r == q) && test m.id) = turn (test puts.asks.slip.id) (nat_eq r q) ∙ ap (λ (n : ℕ). (r == q) && test n) puts.asks.fits.id in
    let first : ◌≡◌ {A = ℕ} (cond (did_put q test reserve) 1 0) 0 = refl in
    let second : ◌≡◌ {A = ℕ} (cond (did_put q test put) 1 0) (cond ((r == q) && test m.id) 1 0) = ap (λ (b : Bool). let n : ℕ = cond b 1 0 in n) ids in
    let none : NonePut q test drops = drops_each (λ d. did_put q test d ≡ false) r (λ d. refl) (λ n l load. refl) refl (λ n size. refl) (λ n. refl) defs s m own dids s' puts in
    ap (count_by (did_put q test)) puts.did
    ∙ omega (arith, count_cons (did_put q test) reserve (put ∷ drops), count_cons (did_put q test) put drops, count_none (did_put q test) drops none, first, second)

-- the calls of a line put its message where it was admitted
line_puts : (q : ℕ) (test : ℕ → Bool) (defs : List Defined) (s : Standing) (what : What) (answer : report.Answer) (dids : List Did) (s' : Standing) → LineFits defs s what answer dids s'
    → count_by (did_put q test) dids ≡ cond (enters_on q test what answer) 1 0
line_puts q test defs s (Put r m) (Accepted id flowed acquired) dids s' fits = put_puts q test defs s r m fits.2.0 dids s' fits.2.2
line_puts q test defs s (Put r m) (Rejected depth) dids s' fits = none_put q test dids _ fits.did (refl, (refl, tt))
line_puts q test defs s (Put r m) (Blocked depth) dids s' fits = none_put q test dids _ fits.did (refl, (refl, tt))
line_puts q test defs s (Take d) Closed dids s' fits = none_put q test dids _ fits.1.did tt
line_puts q test defs s (Take d) NoCredit dids s' fits = none_put q test dids _ fits.1.did tt
line_puts q test defs s (Take d) Empty dids s' fits = none_put q test dids _ fits.did (refl, tt)
line_puts q test defs s (Take d) (Got id n) dids s' fits = none_put q test dids _ fits.did (refl, tt)
line_puts q test defs s (Close d) Closed dids s' fits = none_put q test dids _ fits.0 tt
line_puts q test defs s (Ack r named) (Acked id) dids s' fits = none_put q test dids _ fits.fact.does.did (lock_puts q test fits.hand fits.fact.load _ (refl, (refl, tt)))
line_puts q test defs s (Ack r named) (Stolen state) dids s' fits = none_put q test dids _ fits.fact.1.did (refl, tt)
line_puts q test defs s (Ack r named) NotHeld dids s' fits = none_put q test dids _ fits.1.did tt
line_puts q test defs s (Release r named) (Released id) dids s' fits = none_put q test dids _ fits.fact.does.did (lock_puts q test fits.hand fits.fact.load _ (refl, tt))
line_puts q test defs s (Release r named) (Outdated id) dids s' fits = none_put q test dids _ fits.fact.does.did (lock_puts q test fits.hand fits.fact.load _ (refl, (refl, (refl, tt))))
line_puts q test defs s (Release r named) (Stolen state) dids s' fits = none_put q test dids _ fits.fact.1.did (refl, tt)
line_puts q test defs s (Release r named) NotHeld dids s' fits = none_put q test dids _ fits.1.did tt
line_puts q test defs s (Lock r named) (Locked id) dids s' fits = none_put q test dids _ fits.fact.does.did (refl, tt)
line_puts q test defs s (Lock r named) (Stolen state) dids s' fits = none_put q test dids _ fits.fact.1.did (refl, tt)
line_puts q test defs s (Lock r named) NotHeld dids s' fits = none_put q test dids _ fits.1.did tt
line_puts q test defs s (Unlock r named) (Unlocked id) dids s' fits = none_put q test dids _ fits.fact.does.did (refl, tt)
line_puts q test defs s (Unlock r named) NotHeld dids s' fits = none_put q test dids _ fits.1.did tt
line_puts q test defs s (Steal r id) (Stole told) dids s' fits = none_put q test dids _ fits.1.does.did (refl, (refl, tt))
line_puts q test defs s (Steal r id) (NotStealable state) dids s' fits = none_put q test dids _ fits.1.did (refl, (refl, tt))
line_puts q test defs s (Steal r id) (Moved state) dids s' fits = none_put q test dids _ fits.1.did (refl, (refl, tt))
line_puts q test defs s (Steal r id) Absent dids s' fits = none_put q test dids _ fits.did (refl, tt)
line_puts q test defs s what answer dids s' fits = absurd fits

-- and those of many
lines_put : (q : ℕ) (test : ℕ → Bool) (defs : List Defined) (s : Standing) (ops : List Op) (answers : List report.Answer) (dids : List Did) (s' : Standing) → LinesFit defs s ops answers dids s'
    → count_by (did_put q test) dids ≡ entered_among q test ops answers
lines_put q test defs s [] [] dids s' fits = ap (count_by (did_put q test)) fits.0
lines_put q test defs s [] (a ∷ answers) dids s' fits = absurd fits
lines_put q test defs s (op ∷ ops) [] dids s' fits = absurd fits
lines_put q test defs s (op ∷ ops) (a ∷ answers) dids s' fits =
    let here = line_puts q test defs s op.what a fits.0 fits.1 fits.3 in
    let rest = lines_put q test defs fits.1 ops answers fits.2 s' fits.4 in
    ap (count_by (did_put q test)) fits.5 ∙ omega (arith, count_append (did_put q test) fits.0 fits.2, here, rest)

-- the unlocks after the last line put nothing
unlocks_put : (q : ℕ) (test : ℕ → Bool) (hands : List Hand) → NonePut q test (unlocks hands)
unlocks_put q test [] = tt
unlocks_put q test (k ∷ ks) = by_cargo k.cargo (unlocks_put q test ks) where
  by_cargo : (o : Option Load) → NonePut q test (unlocks ks) → NonePut q test (unlock_of k o ++ unlocks ks)
  by_cargo None rest = rest
  by_cargo (Some load) rest = (refl, rest)

-- Stories

-- the own acts of a caller are those of its calls
pub own_calls : (p : Plan) (h : ℕ) (history : List Deed) (calls : List (Call × Answer)) → Makes p h history calls → own h history ≡ deeds_of h (acts_by p calls)
own_calls p h history calls makes = makes.own_acts ∙ ap (deeds_of h) (acts_made p makes.made ∙ ap (acts_by p) makes.same)

-- the acts of a story's calls put what its lines put that were admitted
story_puts : (q : ℕ) (test : ℕ → Bool) (defs : List Defined) (s : Story) (p : Plan) (h : ℕ) (history : List Deed) → IsStory defs s → Makes p h history (calls_on q (calls_of s))
    → count_by (enters_by test) (own h history) ≡ entered_among q test s.ops s.answers
story_puts q test defs s p h history is makes =
    let all = count_append (did_put q test) s.dids (unlocks s.end.hands) in
    let none = count_none (did_put q test) (unlocks s.end.hands) (unlocks_put q test s.end.hands) in
    let lines = lines_put q test defs (begins defs s.seats) s.ops s.answers s.dids s.end is in
    ap (count_by (enters_by test)) (own_calls p h history (calls_on q (calls_of s)) makes) ∙ acts_count test h (acts_by p (calls_on q (calls_of s))) ∙ calls_enter test p q (calls_of s) ∙ omega (arith, all, none, lines)

-- what each story puts, in one sum
all_stories_put : (q : ℕ) (test : ℕ → Bool) (stories : List Story) → sum_by (λ s. puts_among q test s.ops) stories ≡ puts_by q test stories
all_stories_put q test [] = refl
all_stories_put q test (s ∷ stories) =
    omega (arith, sum_by-cons (λ (x : Story). puts_among q test x.ops) s stories, all_stories_put q test stories, count_append (λ (o : Op). puts_on q test o.what) s.ops (ops_in (actors_of stories)))

-- the actors are the callers from 1 on
pub all_among : (n : ℕ) (ds : List Deed) → AllByRecursion (IsByActor n) ds → AllByRecursion (IsAmong 0 n) ds
all_among n [] all = tt
all_among n (d ∷ ds) all = (record { first = all.0.first; last = omega (arith, all.0.last) }, all_among n ds all.1)

-- each row was there or was put
pub rows_count : (defs : List Defined) (q : ℕ) (stories : List Story) (build : Build) (opening : Queue) (history : List Deed) (test : ℕ → Bool)
    → AreStories defs stories → IsGathered q stories build opening history
    → with_ids test (after opening history).rows ≡ with_ids test opening.rows + entered_by q test stories
rows_count defs q stories build opening history test are gathered =
    let by_caller = parts (enters_by test) (λ (s : Story). entered_among q test s.ops s.answers) 0 stories history (all_among (length stories) history gathered.callers)
    (λ i s k there at.
    let same : k ≡ i + 1 = omega (arith, at) in
    ap (λ (n : ℕ). count_by (enters_by test) (own n history)) same
    ∙ story_puts q test defs s (plan_of build opening) (i + 1) history (are i s there) (joined_makes build opening (i + 1) history (calls_on q (calls_of s)) (gathered.passes i s there)))
    in
    omega (arith, after_count test opening history, by_caller)

-- Messages that were not admitted

-- a line that was admitted puts
enters_put : (q : ℕ) (test : ℕ → Bool) (what : What) (answer : report.Answer) → ◌≤◌ (cond (enters_on q test what answer) 1 0) (cond (puts_on q test what) 1 0)
enters_put q test (Put r m) (Accepted id flowed acquired) = omega arith
enters_put q test what answer = omega arith

-- of these lines no more were admitted than put
few_among : (q : ℕ) (test : ℕ → Bool) (ops : List Op) (answers : List report.Answer) → entered_among q test ops answers ≤ puts_among q test ops
few_among q test [] answers = omega arith
few_among q test (op ∷ ops) [] = omega arith
few_among q test (op ∷ ops) (a ∷ answers) =
    omega (arith, enters_put q test op.what a, few_among q test ops answers, count_cons (λ (o : Op). puts_on q test o.what) op ops)

-- and of all stories
pub few_entered : (q : ℕ) (test : ℕ → Bool) (stories : List Story) → entered_by q test stories ≤ puts_by q test stories
few_entered q test stories = omega (arith, each stories, all_stories_put q test stories) where
  each : (ss : List Story) → sum_by (λ s. entered_among q test s.ops s.answers) ss ≤ sum_by (λ s. puts_among q test s.ops) ss
  each [] = omega arith
  each (s ∷ ss) = omega (arith, few_among q test s.ops s.answers, each ss, sum_by-cons (λ (x : Story). entered_among q test x.ops x.answers) s ss, sum_by-cons (λ (x : Story). puts_among q test x.ops) s ss)
