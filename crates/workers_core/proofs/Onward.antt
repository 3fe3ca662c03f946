-- what one line leaves for those after it
use Rattle.std.proofs.Common.{◌≡◌, ◌≢◌, ◌<◌, ◌≤◌, ◌+◌, ◌-◌, ℕ, zero, suc, min, Bool, true, false, cond, nat_eq, Option, Some, None, List, [], ◌∷◌, ◌++◌, length, map, replicate, slice_get, slice_set, reverse, refl, sym, ap, ◌∙◌, subst, ⊎_elim, eq-eqb, arith, append_assoc}
use Rattle.std.specs.Prelude.{get_or}
use Rattle.std.specs.List.{AllByRecursion, count_by}
use Rattle.std.proofs.lemmas.Bool.{cases_eq}
use Rattle.std.proofs.lemmas.List.{length_push, map-append, reverse-append}
use Rattle.std.proofs.lemmas.List.Sums.{sum_by-append}
use Rattle.std.proofs.lemmas.Option.{slice_get_within, slice_get-get_or}
use mathlib.Core.List.{Mem}
use Rattle.queue_model.specs.Table.{FitsQueue}
use Rattle.acts_core.specs.Sight.{Build, Sight}
use Rattle.defs_read.specs.Defined.{Defined}
use Rattle.script_read.specs.declared.lines.What.{What}
use Rattle.script_read.specs.declared.lines.What.TheVariants.{Put, Take, Close, Ack, Release, Lock, Unlock, Steal, Begin, Commit, Rollback}
use Rattle.report_core.specs.declared.answers.Answer as report
use Rattle.report_core.specs.declared.answers.Answer.TheVariants.{Accepted, Rejected, Blocked, Got, Empty, NoCredit, Closed, Acked, NotHeld, Stolen, Released, Outdated, Unlocked, Locked, Stole, NotStealable, Moved, Absent}
use Rattle.report_core.specs.declared.answers.Dropped.{Dropped}
use Rattle.target_core.specs.Seats.{Seat, Seats, in_place, left_of, seat_at, served}
use Rattle.target_core.specs.declared.deliveries.Delivery.{Delivery}
use Rattle.script_read.specs.declared.lines.Op.{Op}
use Rattle.line_core.specs.Fits.{Did, LineFits, LinesFit, Standing, begins, unlocks}
use Rattle.line_core.specs.Hands.{Hand}
use Rattle.workers_core.specs.Held.{hands_of}
use Rattle.workers_core.specs.Phases.{HasRun, lines_of}
use Rattle.workers_core.specs.declared.held.Kept.{Kept}
use Rattle.workers_core.specs.Jobs.{SeatReady, gains, puts_to, takes_for}
use Rattle.line_core.specs.Places.{IsReady}
use Rattle.workers_core.specs.Ready.{IsSlipFor, MayPutAll, MayTakeAll, Serves, ServesJob, Spends, all_gains}
use Rattle.line_core.specs.Runs.{DidLines, Ran}
use Rattle.workers_core.specs.declared.jobs.Aid.{Aid}
use Rattle.workers_core.specs.declared.jobs.Aid.TheVariants as aid
use Rattle.workers_core.specs.declared.jobs.Job.{Job}
use Rattle.workers_core.proofs.Leaves.{ran_nothing}
use Rattle.workers_core.proofs.Ones.{set_here, set_other}
use Rattle.workers_core.proofs.Steps.{lines_append, runs_append}

-- Lists that end with one more

pub all_front : {X : Type 0} (P : X → Type 0) (xs : List X) (x : X) → AllByRecursion P (xs ++ x ∷ []) → AllByRecursion P xs
all_front P [] x each = tt
all_front P (y ∷ ys) x each = (each.0, all_front P ys x each.1)

pub all_last : {X : Type 0} (P : X → Type 0) (xs : List X) (x : X) → AllByRecursion P (xs ++ x ∷ []) → P x
all_last P [] x each = each.0
all_last P (y ∷ ys) x each = all_last P ys x each.1

pub all_with : {X : Type 0} (P Q : X → Type 0) (xs : List X) → ((x : X) → P x → Q x) → AllByRecursion P xs → AllByRecursion Q xs
all_with P Q [] step each = tt
all_with P Q (x ∷ xs) step each = (step x each.0, all_with P Q xs step each.1)

count_last : (p : Job → Bool) (xs : List Job) (x : Job) → count_by p (xs ++ x ∷ []) ≡ count_by p xs + cond (p x) 1 0
count_last p xs x = omega (arith, sum_by-append (λ (j : Job). cond (p j) 1 0) xs (x ∷ []))

pub gains_last : (xs : List Job) (x : Job) → all_gains (xs ++ x ∷ []) ≡ all_gains xs + gains x.op.what
gains_last xs x = omega (arith, sum_by-append (λ (j : Job). gains j.op.what) xs (x ∷ []))

pub reverse_last : {X : Type 0} (xs : List X) (x : X) → reverse (xs ++ x ∷ []) ≡ x ∷ reverse xs
reverse_last xs x = reverse-append xs (x ∷ [])

-- Passes

-- what a pass was before a line
was : (olds news : List Sight) (w : What) (q : ℕ) (t : Sight) → Spends w olds news → slice_get news q ≡ Some t → (s : Sight) × (slice_get olds q ≡ Some s)
was olds news w q t spends at =
    let within : q < length olds = subst (λ (n : ℕ). q < n) spends.as_many (slice_get_within news q t at) in
    (get_or olds q t, slice_get-get_or olds q t within)

-- and what it is after it
now_is : (olds news : List Sight) (w : What) (q : ℕ) (s : Sight) → Spends w olds news → slice_get olds q ≡ Some s → (t : Sight) × (slice_get news q ≡ Some t)
now_is olds news w q s spends at =
    let within : q < length news = subst (λ (n : ℕ). q < n) (sym spends.as_many) (slice_get_within olds q s at) in
    (get_or news q s, slice_get-get_or news q s within)

-- lines after this one are still served
still : (olds news : List Sight) (w v : What) (a : Aid) → Spends w olds news → Serves olds v a → Serves news v a
still olds news w (Put q m) (aid.Slip slip) spends serves =
    let s : Sight = serves.0 in
    let now = now_is olds news w q s spends serves.1 in
    let t : Sight = now.0 in
    let same = spends.opening q s t serves.1 now.1 in
    let fit : IsSlipFor s m slip = serves.2 in
    (t, now.1, record { fits = subst (λ o. FitsQueue o.lists o.consumers slip) (sym same) fit.fits; id = fit.id; size = fit.size })
still olds news w (Put q m) aid.Nothing spends serves = absurd serves
still olds news w (Put q m) (aid.Place p k) spends serves = absurd serves
still olds news w (Take c) (aid.Place q k) spends serves =
    let s : Sight = serves.0 in
    let now = now_is olds news w q s spends serves.1 in
    let t : Sight = now.0 in
    (t, now.1, serves.2, subst (λ ks. Mem k ks) (sym (spends.consumers q s t serves.1 now.1)) serves.3)
still olds news w (Take c) aid.Nothing spends serves = absurd serves
still olds news w (Take c) (aid.Slip slip) spends serves = absurd serves
still olds news w (Close c) a spends serves = serves
still olds news w (Ack q id) a spends serves = subst (λ (n : ℕ). q < n) (sym spends.as_many) serves
still olds news w (Release q id) a spends serves = subst (λ (n : ℕ). q < n) (sym spends.as_many) serves
still olds news w (Lock q id) a spends serves = subst (λ (n : ℕ). q < n) (sym spends.as_many) serves
still olds news w (Unlock q id) a spends serves = subst (λ (n : ℕ). q < n) (sym spends.as_many) serves
still olds news w (Steal q id) a spends serves = subst (λ (n : ℕ). q < n) (sym spends.as_many) serves
still olds news w Begin a spends serves = absurd serves
still olds news w Commit a spends serves = absurd serves
still olds news w Rollback a spends serves = absurd serves

pub served_on : (olds news : List Sight) (jobs : List Job) (job : Job) → Spends job.op.what olds news → AllByRecursion (ServesJob olds) (jobs ++ job ∷ []) → AllByRecursion (ServesJob news) jobs
served_on olds news jobs job spends each = all_with (ServesJob olds) (ServesJob news) jobs (λ j. still olds news job.op.what j.op.what j.aid spends) (all_front (ServesJob olds) jobs job each)

-- and may put what they put
pub rights_on : (olds news : List Sight) (jobs : List Job) (job : Job) → Spends job.op.what olds news → MayPutAll olds (jobs ++ job ∷ []) → MayPutAll news jobs
rights_on olds news jobs job spends may q t at =
    let past = was olds news job.op.what q t spends at in
    let s : Sight = past.0 in
    let m = may q s past.1 in
    let more = count_last (λ (j : Job). puts_to q j.op.what) jobs job in
    (omega (arith, m.0, more, spends.allowance q s t past.1 at), omega (arith, m.1, more, spends.share q s t past.1 at))

pub rights_last : (sights : List Sight) (jobs : List Job) (job : Job) → MayPutAll sights (jobs ++ job ∷ []) → MayPutAll sights (job ∷ [])
rights_last sights jobs job may q t at =
    let m = may q t at in
    let more = count_last (λ (j : Job). puts_to q j.op.what) jobs job in
    let one = count_last (λ (j : Job). puts_to q j.op.what) [] job in
    (omega (arith, m.0, more, one), omega (arith, m.1, more, one))

-- Targets

-- less is ready too
min_less : (a b c : ℕ) → a ≤ b → min a c ≤ min b c
min_less a b c less = grind (arith)

ready_less : (n m : ℕ) (o : Option Seat) → n ≤ m → IsReady m o → IsReady n o
ready_less n m None less ready = tt
ready_less n m (Some s) less ready = by_limit s.limit ready
  where
    by_limit : (limit : Option ℕ) → left_of limit (length s.deliveries) m ≤ s.room → left_of limit (length s.deliveries) n ≤ s.room
    by_limit None r = omega (arith, r, less)
    by_limit (Some limit) r = omega (arith, r, min_less n m (limit - length s.deliveries) less)

min_next : (n limit taken room : ℕ) → min (n + 1) (limit - taken) ≤ room → min n (limit - (taken + 1)) ≤ room - 1
min_next n limit taken room ready = grind (arith)

ready_served : (n : ℕ) (s : Seat) (d : Delivery) → IsReady (n + 1) (Some s) → IsReady n (Some (served s d))
ready_served n s d ready = by_limit s.limit ready
  where
    by_limit : (limit : Option ℕ) → left_of limit (length s.deliveries) (n + 1) ≤ s.room → left_of limit (length (s.deliveries ++ d ∷ [])) n ≤ s.room - 1
    by_limit None r = omega (arith, r)
    by_limit (Some limit) r = subst (λ (k : ℕ). min n (limit - k) ≤ s.room - 1) (sym (length_push s.deliveries d)) (min_next n limit (length s.deliveries) s.room r)

module _ (n : ℕ → ℕ) where
  -- the targets are ready for a line, and for as many takes after it
  abbrev pub IsReadyFor : What → Seats → Type 0
  IsReadyFor w seats = (c : ℕ) → IsReady (n c + cond (takes_for c w) 1 0) (seat_at seats c)

  abbrev pub IsReadyOn : Seats → Type 0
  IsReadyOn seats = (c : ℕ) → IsReady (n c) (seat_at seats c)

  ready_same : (w : What) (s s' : Standing) → s' ≡ s → IsReadyFor w s.seats → IsReadyOn s'.seats
  ready_same w s s' same ready c = subst (λ (z : Standing). IsReady (n c) (seat_at z.seats c)) (sym same) (ready_less (n c) (n c + cond (takes_for c w) 1 0) (seat_at s.seats c) (omega arith) (ready c))

  ready_hands : (w : What) (s s' : Standing) (z : Standing) → s' ≡ z → z.seats ≡ s.seats → IsReadyFor w s.seats → IsReadyOn s'.seats
  ready_hands w s s' z same kept ready c = subst (λ (x : Seats). IsReady (n c) (seat_at x c)) (sym (ap (λ (x : Standing). x.seats) same ∙ kept)) (ready_less (n c) (n c + cond (takes_for c w) 1 0) (seat_at s.seats c) (omega arith) (ready c))

  -- one place of them was set
  ready_set : (w : What) (seats : Seats) (e : ℕ) (o : Option Seat) → IsReadyFor w seats → ((x : Option Seat) → slice_get seats e ≡ Some x → IsReady (n e) o) → IsReadyOn (slice_set seats e o)
  ready_set w seats e o ready here c = ⊎_elim
      (λ (same : c ≡ e). by_get (slice_get seats e) refl same)
      (λ (other : c ≢ e). subst (λ (x : Option (Option Seat)). IsReady (n c) (in_place x)) (sym (set_other seats e c o other)) (ready_less (n c) (n c + cond (takes_for c w) 1 0) (seat_at seats c) (omega arith) (ready c)))
      (cases_eq c e)
    where
      no_set : (xs : Seats) (i : ℕ) → slice_get xs i ≡ None → slice_get (slice_set xs i o) i ≡ None
      no_set [] zero none = refl
      no_set [] (suc i) none = refl
      no_set (x ∷ xs) zero none = cc
      no_set (x ∷ xs) (suc i) none = no_set xs i none

      by_get : (g : Option (Option Seat)) → slice_get seats e ≡ g → c ≡ e → IsReady (n c) (seat_at (slice_set seats e o) c)
      by_get None none same = subst (λ (k : ℕ). IsReady (n k) (seat_at (slice_set seats e o) k)) (sym same) (subst (λ (x : Option (Option Seat)). IsReady (n e) (in_place x)) (sym (no_set seats e none)) tt)
      by_get (Some x) there same = subst (λ (k : ℕ). IsReady (n k) (seat_at (slice_set seats e o) k)) (sym same) (subst (λ (y : Option (Option Seat)). IsReady (n e) (in_place y)) (sym (set_here seats e o x there)) (here x there))

  ready_got : (s s' : Standing) (e : ℕ) (seat : Seat) (d : Delivery) (z : Standing) → s' ≡ z → z.seats ≡ slice_set s.seats e (Some (served seat d)) → seat_at s.seats e ≡ Some seat → IsReadyFor (Take e) s.seats → IsReadyOn s'.seats
  ready_got s s' e seat d z same after there ready =
      let one : cond (nat_eq e e) 1 0 ≡ cond true 1 0 = ap (λ (b : Bool). cond {A = ℕ} b 1 0) (eq-eqb e e refl) in
      let had : IsReady (n e + 1) (Some seat) = subst (λ (k : ℕ). IsReady (n e + k) (Some seat)) one (subst (λ (o : Option Seat). IsReady (n e + cond (nat_eq e e) 1 0) o) there (ready e)) in
      subst IsReadyOn (sym (ap (λ (x : Standing). x.seats) same ∙ after)) (ready_set (Take e) s.seats e (Some (served seat d)) ready (λ x at. ready_served (n e) seat d had))

  ready_closed : (s s' : Standing) (e : ℕ) → s' ≡ record s { seats = slice_set s.seats e None } → IsReadyFor (Close e) s.seats → IsReadyOn s'.seats
  ready_closed s s' e same ready = subst IsReadyOn (sym (ap (λ (x : Standing). x.seats) same)) (ready_set (Close e) s.seats e None ready (λ x at. tt))

  pub ready_after : (defs : List Defined) (s : Standing) (w : What) (a : report.Answer) (dids : List Did) (s' : Standing) → LineFits defs s w a dids s' → IsReadyFor w s.seats → IsReadyOn s'.seats
  ready_after defs s (Put q m) (Accepted id flowed acquired) dids s' fits ready = ready_hands (Put q m) s s' _ fits.2.2.leaves refl ready
  ready_after defs s (Put q m) (Rejected depth) dids s' fits ready = ready_hands (Put q m) s s' _ fits.leaves refl ready
  ready_after defs s (Put q m) (Blocked depth) dids s' fits ready = ready_hands (Put q m) s s' _ fits.leaves refl ready
  ready_after defs s (Take c) Closed dids s' fits ready = ready_same (Take c) s s' fits.1.same ready
  ready_after defs s (Take c) NoCredit dids s' fits ready = ready_same (Take c) s s' fits.1.same ready
  ready_after defs s (Take c) Empty dids s' fits ready = ready_same (Take c) s s' fits.same ready
  ready_after defs s (Take c) (Got id k) dids s' fits ready = ready_got s s' c fits.seat fits.delivery _ fits.leaves refl fits.serves.there ready
  ready_after defs s (Close c) Closed dids s' fits ready = ready_closed s s' c fits.1 ready
  ready_after defs s (Ack q named) (Acked id) dids s' fits ready = ready_hands (Ack q named) s s' _ fits.fact.does.leaves refl ready
  ready_after defs s (Ack q named) (Stolen state) dids s' fits ready = ready_hands (Ack q named) s s' _ fits.fact.1.leaves refl ready
  ready_after defs s (Ack q named) NotHeld dids s' fits ready = ready_same (Ack q named) s s' fits.1.same ready
  ready_after defs s (Release q named) (Released id) dids s' fits ready = ready_hands (Release q named) s s' _ fits.fact.does.leaves refl ready
  ready_after defs s (Release q named) (Outdated id) dids s' fits ready = ready_hands (Release q named) s s' _ fits.fact.does.leaves refl ready
  ready_after defs s (Release q named) (Stolen state) dids s' fits ready = ready_hands (Release q named) s s' _ fits.fact.1.leaves refl ready
  ready_after defs s (Release q named) NotHeld dids s' fits ready = ready_same (Release q named) s s' fits.1.same ready
  ready_after defs s (Lock q named) (Locked id) dids s' fits ready = ready_hands (Lock q named) s s' _ fits.fact.does.leaves refl ready
  ready_after defs s (Lock q named) (Stolen state) dids s' fits ready = ready_hands (Lock q named) s s' _ fits.fact.1.leaves refl ready
  ready_after defs s (Lock q named) NotHeld dids s' fits ready = ready_same (Lock q named) s s' fits.1.same ready
  ready_after defs s (Unlock q named) (Unlocked id) dids s' fits ready = ready_hands (Unlock q named) s s' _ fits.fact.does.leaves refl ready
  ready_after defs s (Unlock q named) NotHeld dids s' fits ready = ready_same (Unlock q named) s s' fits.1.same ready
  ready_after defs s (Steal q id) (Stole told) dids s' fits ready = ready_hands (Steal q id) s s' _ fits.1.does.leaves refl ready
  ready_after defs s (Steal q id) (NotStealable state) dids s' fits ready = ready_hands (Steal q id) s s' _ fits.1.leaves refl ready
  ready_after defs s (Steal q id) (Moved state) dids s' fits ready = ready_hands (Steal q id) s s' _ fits.1.leaves refl ready
  ready_after defs s (Steal q id) Absent dids s' fits ready = ready_hands (Steal q id) s s' _ fits.leaves refl ready
  ready_after defs s w a dids s' fits ready = absurd fits

-- the targets are ready for one line and those before it in the list
pub takes_last : (seats : Seats) (jobs : List Job) (job : Job) → MayTakeAll seats (jobs ++ job ∷ []) → IsReadyFor (λ c. count_by (λ (j : Job). takes_for c j.op.what) jobs) job.op.what seats
takes_last seats jobs job may c = subst (λ (k : ℕ). IsReady k (seat_at seats c)) (count_last (λ (j : Job). takes_for c j.op.what) jobs job) (may c)

-- and so is the target of a take
pub ready_line : (w : What) (seats : Seats) (n : ℕ → ℕ) → IsReadyFor n w seats → SeatReady w seats
ready_line (Take c) seats n ready =
    let one : cond (nat_eq c c) 1 0 ≡ cond true 1 0 = ap (λ (b : Bool). cond {A = ℕ} b 1 0) (eq-eqb c c refl) in
    ready_less 1 (n c + cond (nat_eq c c) 1 0) (seat_at seats c) (omega (arith, one)) (ready c)
ready_line (Put q m) seats n ready = tt
ready_line (Close c) seats n ready = tt
ready_line (Ack q id) seats n ready = tt
ready_line (Release q id) seats n ready = tt
ready_line (Lock q id) seats n ready = tt
ready_line (Unlock q id) seats n ready = tt
ready_line (Steal q id) seats n ready = tt
ready_line Begin seats n ready = tt
ready_line Commit seats n ready = tt
ready_line Rollback seats n ready = tt

-- the targets after one line of many
pub takes_on : (defs : List Defined) (builds : List Build) (olds news : List Sight) (s s' : Standing) (jobs : List Job) (job : Job) (a : report.Answer) → DidLines defs builds olds s (job.op ∷ []) (a ∷ []) news s' → MayTakeAll s.seats (jobs ++ job ∷ []) → MayTakeAll s'.seats jobs
takes_on defs builds olds news s s' jobs job a did may c =
    let n : ℕ → ℕ = λ c. count_by (λ (j : Job). takes_for c j.op.what) jobs in
    let mid : Standing = did.fits.1 in
    let after : IsReadyOn n mid.seats = ready_after n defs s job.op.what a did.fits.0 mid did.fits.3 (takes_last s.seats jobs job may) in
    subst (λ (z : Standing). IsReady (n c) (seat_at z.seats c)) (sym did.fits.4.1) (after c)

-- the jobs that were done, and one more
pub split_on : (all left done jobs : List Job) (job : Job) → all ≡ done ++ reverse jobs → jobs ≡ left ++ job ∷ [] → all ≡ (done ++ job ∷ []) ++ reverse left
split_on all left done jobs job split last =
    split ∙ ap (λ (js : List Job). done ++ reverse js) last ∙ ap (λ (js : List Job). done ++ js) (reverse_last left job) ∙ sym (append_assoc done (job ∷ []) (reverse left))

pub mapped_last : {A B : Type 0} (f : A → B) (xs : List A) (x : A) → map f (xs ++ x ∷ []) ≡ map f xs ++ f x ∷ []
mapped_last f xs x = map-append f xs (x ∷ [])

-- what a line needs, as the last of the list
pub rights_job : (sights : List Sight) (jobs left : List Job) (job : Job) → jobs ≡ left ++ job ∷ [] → MayPutAll sights jobs → MayPutAll sights (job ∷ [])
rights_job sights jobs left job is may = rights_last sights left job (subst (MayPutAll sights) is may)

pub ready_job : (seats : Seats) (jobs left : List Job) (job : Job) → jobs ≡ left ++ job ∷ [] → MayTakeAll seats jobs → SeatReady job.op.what seats
ready_job seats jobs left job is may = ready_line job.op.what seats (λ c. count_by (λ (j : Job). takes_for c j.op.what) left) (takes_last seats left job (subst (MayTakeAll seats) is may))

pub takes_job : (defs : List Defined) (builds : List Build) (olds news : List Sight) (s s' : Standing) (jobs left : List Job) (job : Job) (a : report.Answer) → jobs ≡ left ++ job ∷ [] → DidLines defs builds olds s (job.op ∷ []) (a ∷ []) news s' → MayTakeAll s.seats jobs → MayTakeAll s'.seats left
takes_job defs builds olds news s s' jobs left job a is did may = takes_on defs builds olds news s s' left job a did (subst (MayTakeAll s.seats) is may)

-- the log with one line more
pub numbers_more : (done : List Job) (job : Job) (log log' : List (ℕ × report.Answer)) (a : report.Answer) → log' ≡ log ++ (job.op.line, a) ∷ [] → map (λ e. e.0) log ≡ map (λ (j : Job). j.op.line) done → map (λ e. e.0) log' ≡ map (λ (j : Job). j.op.line) (done ++ job ∷ [])
numbers_more done job log log' a is numbers =
    ap (λ (es : List (ℕ × report.Answer)). map (λ e. e.0) es) is
    ∙ mapped_last (λ (e : ℕ × report.Answer). e.0) log (job.op.line, a)
    ∙ ap (λ (ns : List ℕ). ns ++ job.op.line ∷ []) numbers
    ∙ sym (mapped_last (λ (j : Job). j.op.line) done job)

pub did_more : (defs : List Defined) (builds : List Build) (a b c : List Sight) (s m e : Standing) (done : List Job) (job : Job) (log log' : List (ℕ × report.Answer)) (answer : report.Answer) → log' ≡ log ++ (job.op.line, answer) ∷ []
    → DidLines defs builds a s (map (λ (j : Job). j.op) done) (map (λ x. x.1) log) b m → DidLines defs builds b m (job.op ∷ []) (answer ∷ []) c e
    → DidLines defs builds a s (map (λ (j : Job). j.op) (done ++ job ∷ [])) (map (λ x. x.1) log') c e
did_more defs builds a b c s m e done job log log' answer is x y =
    subst (λ (ops : List Op). DidLines defs builds a s ops (map (λ (x : ℕ × report.Answer). x.1) log') c e) (sym (mapped_last (λ (j : Job). j.op) done job))
    (subst (λ (answers : List report.Answer). DidLines defs builds a s (map (λ (j : Job). j.op) done ++ job.op ∷ []) answers c e)
    (sym (ap (λ (es : List (ℕ × report.Answer)). map (λ (x : ℕ × report.Answer). x.1) es) is ∙ mapped_last (λ (x : ℕ × report.Answer). x.1) log (job.op.line, answer)))
    (lines_append defs builds a b c s m e (map (λ (j : Job). j.op) done) (job.op ∷ []) (map (λ (x : ℕ × report.Answer). x.1) log) (answer ∷ []) x y))

-- an actor has run its lines
map_twice : (js : List Job) → map (λ (j : Job). j.op.line) js ≡ map (λ (op : Op). op.line) (map (λ (j : Job). j.op) js)
map_twice [] = refl
map_twice (j ∷ js) = ap (λ (ns : List ℕ). j.op.line ∷ ns) (map_twice js)

pub has_run : (defs : List Defined) (builds : List Build) (olds mids news : List Sight) (jobs jobs' : List Job) (held : List Kept) (seats seats' : Seats) (stopped stopped' : List Bool) (drops drops' : List Dropped) (hands : List Hand) (log : List (ℕ × report.Answer))
    → jobs' ≡ jobs → held ≡ [] → stopped ≡ replicate (length defs) false → drops ≡ []
    → map (λ e. e.0) log ≡ map (λ (j : Job). j.op.line) (reverse jobs')
    → DidLines defs builds olds (record { hands = hands_of held; seats = seats; stopped = stopped; drops = drops }) (map (λ (j : Job). j.op) (reverse jobs')) (map (λ x. x.1) log) mids (record { hands = hands; seats = seats'; stopped = stopped'; drops = drops' })
    → Ran builds mids (unlocks hands) news → HasRun defs builds olds seats (lines_of jobs) log drops' news seats'
has_run defs builds olds mids news jobs jobs' held seats seats' stopped stopped' drops drops' hands log same none free few numbers did left =
    let start : Standing = record { hands = hands_of held; seats = seats; stopped = stopped; drops = drops } in
    let begin : start ≡ begins defs seats = rw none (rw free (rw few refl)) in
    let end : Standing = record { hands = hands; seats = seats'; stopped = stopped'; drops = drops' } in
    let ops : map (λ (j : Job). j.op) (reverse jobs') ≡ lines_of jobs = ap lines_of same in
    record {
      numbers = numbers ∙ map_twice (reverse jobs') ∙ ap (λ (os : List Op). map (λ (op : Op). op.line) os) ops;
      dids = did.dids;
      end = end;
      fits = subst (λ (s : Standing). LinesFit defs s (lines_of jobs) (map (λ (x : ℕ × report.Answer). x.1) log) did.dids end) begin (subst (λ (os : List Op). LinesFit defs start os (map (λ (x : ℕ × report.Answer). x.1) log) did.dids end) ops did.fits);
      ran = runs_append builds olds mids news did.dids (unlocks hands) did.ran left;
      targets = refl;
      dropped = refl;
    }

-- nothing was done yet
pub did_none : (defs : List Defined) (builds : List Build) (sights : List Sight) (s : Standing) (log : List (ℕ × report.Answer)) → log ≡ [] → DidLines defs builds sights s [] (map (λ x. x.1) log) sights s
did_none defs builds sights s log none = subst (λ (es : List (ℕ × report.Answer)). DidLines defs builds sights s [] (map (λ (x : ℕ × report.Answer). x.1) es) sights s) (sym none) (record { dids = []; fits = (refl, refl); ran = ran_nothing builds sights })

pub served_job : (sights : List Sight) (jobs left : List Job) (job : Job) → jobs ≡ left ++ job ∷ [] → AllByRecursion (ServesJob sights) jobs → ServesJob sights job
served_job sights jobs left job is each = all_last (ServesJob sights) left job (subst (AllByRecursion (ServesJob sights)) is each)
