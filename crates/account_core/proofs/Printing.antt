-- what is told of a phase of allowed lines can be printed
use Rattle.std.proofs.Common.{◌≡◌, ℕ, zero, suc, ◌+◌, ◌-◌, ◌*◌, ◌^◌, ◌<◌, ◌≤◌, nat_eq, Bool, true, false, cond, Option, Some, None, List, [], ◌∷◌, ◌++◌, filter, length, map, slice_get, refl, sym, ap, ◌∙◌, subst, ⊎_elim, eq-eqb, eqb-true, arith, All}
use Rattle.std.proofs.lemmas.List.{length-append, length-map}
use Rattle.std.proofs.lemmas.Option.{slice_get_cases}
use Rattle.std.proofs.lemmas.List.Elements.{All-drop, All-from_recursion, All-take}
use Rattle.std.specs.List.{AllByRecursion}
use Rattle.queue_model.specs.declared.queues.Queue.{Queue}
use Rattle.queue_model.specs.declared.rows.Row.{Row}
use Rattle.queue_model.specs.declared.rows.RowState.{RowState}
use Rattle.queue_model.specs.declared.rows.RowState.TheVariants.{Available, Locked, Unlocked, Dequeued, Deleted}
use Rattle.queue_model.specs.Sound.{IsOpening}
use Rattle.queue_model.specs.State.{row_at, row_bytes}
use Rattle.queue_model.proofs.Depths.{depth_low}
use Rattle.queue_model.proofs.KeyedLemmas.{find_passes, sum_by-le-times}
use Rattle.queue_model.proofs.SoundSteps.{sound_after, sound_opening}
use Rattle.queue_model.proofs.Prefixes.{prefix_self}
use Rattle.acts_core.specs.Rest.{Rests}
use Rattle.message_core.specs.Spelling.{Content}
use Rattle.defs_read.specs.Defined.{Defined}
use Rattle.script_read.specs.Allowed.{HasOwnOps, IsAllowedPhase, IsDefined, IsOpOf}
use Rattle.script_read.specs.Phases.{Actors}
use Rattle.script_read.specs.declared.lines.Op.{Op}
use Rattle.script_read.specs.declared.lines.What.{What}
use Rattle.script_read.specs.declared.lines.What.TheVariants.{Put, Take, Close, Ack, Release, Lock, Unlock, Steal}
use Rattle.report_core.specs.declared.answers.Answer as report
use Rattle.report_core.specs.declared.answers.Answer.TheVariants.{Accepted, Rejected, Blocked, Got, Empty, NoCredit, Closed, Acked, NotHeld, Stolen, Released, Outdated, Unlocked as LeftUnlocked, Locked as Relocked, Stole, NotStealable, Moved, Absent}
use Rattle.report_core.specs.declared.answers.Dropped.{Dropped}
use Rattle.report_core.specs.declared.answers.Resting.{Resting}
use Rattle.report_core.specs.declared.answers.Span.{Span}
use Rattle.report_core.specs.Names.{IsHolder, NamesCaller}
use Rattle.report_core.specs.Texts.{HasHolder, bytes_of}
use Rattle.report_core.specs.Words.{Fits, HasQueue, IsSpan}
use Rattle.phase_text.specs.Logs.{FitsLine, FitsLog, FitsRest}
use Rattle.phase_text.specs.declared.logs.Log.{Log}
use Rattle.phase_text.specs.declared.logs.Rest.{Rest}
use Rattle.target_core.specs.Seats.{Seats}
use Rattle.line_core.specs.Fits.{Did, On, Standing, IsTaken, LineFits, LinesFit, OnHeld, begins, span_of, unlocks}
use Rattle.line_core.specs.Hands.{Hand, is_of, is_this, meant}
use Rattle.line_core.specs.Runs.{calls_on}
use Rattle.account_core.specs.Accounts.{Account}
use Rattle.account_core.specs.Carry.{entries_of, stays}
use Rattle.account_core.specs.Phases.{AllOpen, IsPhase}
use Rattle.account_core.specs.Played.{IsByActor, IsPlayed, Played, rest_of}
use Rattle.account_core.specs.Stories.{Story, calls_of, told}
use Rattle.account_core.specs.Texts.{LogsTell, RestsTell, actor_names, holder_of, queue_names, resting, resting_in}
use Rattle.account_core.proofs.Dropping.{DropMore, IsFrom, all_parts, lines_drop, puts_from}
use Rattle.account_core.proofs.EntryCounts.{all_entries, entries_le, sum_map}
use Rattle.account_core.proofs.Handing.{in_filter, get_in}
use Rattle.account_core.proofs.Naming.{CallNamed, chain_named, rows_found, state_named}
use Rattle.account_core.proofs.Tracking.{of_this}

-- Answers

-- the state that the call showed names an actor, where its queue is one of n
abbrev DidNamed : ℕ → List (List ℕ) → Did → Type 0
DidNamed n actors (On q call answer) = q < n → CallNamed actors (call, answer)

-- what is so of the calls on each queue is so of all calls
dids_named : (n : ℕ) (actors : List (List ℕ)) (ds : List Did) → ((q : ℕ) → q < n → AllByRecursion (CallNamed actors) (calls_on q ds)) → AllByRecursion (DidNamed n actors) ds
dids_named n actors [] each = tt
dids_named n actors (On s call answer ∷ ds) each = (λ within. first s (each s within), dids_named n actors ds (λ q within. rest q (nat_eq s q) (each q within))) where
  first : (q : ℕ) → AllByRecursion (CallNamed actors) (cond (nat_eq s s) ((call, answer) ∷ calls_on s ds) (calls_on s ds)) → CallNamed actors (call, answer)
  first q all = (subst (λ (b : Bool). AllByRecursion (CallNamed actors) (cond b ((call, answer) ∷ calls_on s ds) (calls_on s ds))) (eq-eqb s s refl) all).0

  rest : (q : ℕ) (b : Bool) → AllByRecursion (CallNamed actors) (cond b ((call, answer) ∷ calls_on q ds) (calls_on q ds)) → AllByRecursion (CallNamed actors) (calls_on q ds)
  rest q true all = all.1
  rest q false all = all

-- what a line means is of the line's queue
meant_of : (q : ℕ) (named : Option ℕ) (hands : List Hand) (k : Hand) → meant q named hands ≡ Some k → k.queue ≡ q
meant_of q (Some id) hands k is = (of_this q id k (find_passes (is_this q id) hands k is)).0
meant_of q None hands k is = eqb-true k.queue q (in_filter (is_of q) k hands (get_in k (filter (is_of q) hands) (length (filter (is_of q) hands) - 1) is)).1

-- Answers with names. The drops are those of an actor in the end.

-- entries of queue q, which has a name
from_named : (n q : ℕ) (xs : List Dropped) → q < n → AllByRecursion (IsFrom q) xs → AllByRecursion (λ x. x.queue < n) xs
from_named n q [] within from = tt
from_named n q (x ∷ xs) within from = (subst (λ (k : ℕ). k < n) (sym from.0) within, from_named n q xs within from.1)

-- a queue to which a line puts has a name
put_within : (defs : List Defined) (actor : List ℕ) (what : What) (q : ℕ) (m : Content) → what ≡ Put q m → IsDefined defs actor what → q < length defs
put_within defs actor what q m is defined = subst (IsDefined defs actor) is defined

-- nothing is asked of calls
all_free : (ds : List Did) → AllByRecursion (λ d. Unit {0}) ds
all_free [] = tt
all_free (d ∷ ds) = (tt, all_free ds)

-- what lines of an actor drop is of queues that have names
lines_drop_named : (n : ℕ) (defs : List Defined) (journal : Bool) (actor : List ℕ) (s : Standing) (ops : List Op) (answers : List report.Answer) (dids : List Did) (s' : Standing) → LinesFit defs s ops answers dids s' → n ≡ length defs
    → AllByRecursion (IsOpOf defs journal actor) ops → DropMore (λ x. x.queue < n) answers s.drops s'.drops
lines_drop_named n defs journal actor s ops answers dids s' fits many own_ops = lines_drop (λ (x : Dropped). x.queue < n) (IsOpOf defs journal actor) (λ d. Unit {0}) defs
    (λ op q m own t ds t' of free is puts.
    let within = put_within defs actor op.what q m is of.defined in
    from_named n q own (omega (arith, many, within)) (puts_from defs t q m own ds t' puts))
    s ops answers dids s' fits own_ops (all_free dids)

module _ (queues : List (List ℕ)) (n : ℕ) (actors : List (List ℕ)) (drops : List Dropped) (all_named : All (HasQueue queues) drops) where
  -- a line that found its entry taken
  taken_named : (s : Standing) (q : ℕ) (named : Option ℕ) (state : RowState) (dids : List Did) (s' : Standing) → OnHeld s q named (IsTaken s state dids s') → q < n → AllByRecursion (DidNamed n actors) dids → NamesCaller actors state
  taken_named s q named state dids s' held within each =
      let all = subst (AllByRecursion (DidNamed n actors)) held.fact.1.did each in
      all.0 (subst (λ (m : ℕ). m < n) (sym (meant_of q named s.hands held.hand held.is_meant)) within) state refl

  -- the entries that a put dropped are among all
  span_named : (old own : List Dropped) (span : Span) → span ≡ span_of old own → length (old ++ own) ≤ length drops → IsSpan queues drops span
  span_named old own span is few =
      subst (IsSpan queues drops) (sym is)
      (record { ordered = omega arith; within = omega (arith, length-append old own, few); named = All-take (HasQueue queues) _ _ (All-drop (HasQueue queues) _ drops all_named) })

  -- the answer of each line
  line_named : (defs : List Defined) (actor : List ℕ) (s : Standing) (what : What) (answer : report.Answer) (dids : List Did) (s' : Standing) → LineFits defs s what answer dids s' → n ≡ length defs → IsDefined defs actor what
      → AllByRecursion (DidNamed n actors) dids → length s'.drops ≤ length drops → Fits queues actors drops answer
  line_named defs actor s (Put q m) (Accepted id flowed acquired) dids s' fits many defined each few =
      span_named s.drops fits.2.0 acquired fits.2.1 (subst (λ (xs : List Dropped). length xs ≤ length drops) (ap (λ (z : Standing). z.drops) fits.2.2.leaves) few)
  line_named defs actor s (Put q m) (Rejected depth) dids s' fits many defined each few = tt
  line_named defs actor s (Put q m) (Blocked depth) dids s' fits many defined each few = tt
  line_named defs actor s (Take c) Closed dids s' fits many defined each few = tt
  line_named defs actor s (Take c) NoCredit dids s' fits many defined each few = tt
  line_named defs actor s (Take c) Empty dids s' fits many defined each few = tt
  line_named defs actor s (Take c) (Got id d) dids s' fits many defined each few = tt
  line_named defs actor s (Close c) Closed dids s' fits many defined each few = tt
  line_named defs actor s (Ack q named) (Acked id) dids s' fits many defined each few = tt
  line_named defs actor s (Ack q named) (Stolen state) dids s' fits many defined each few = taken_named s q named state dids s' fits (omega (arith, many, defined)) each
  line_named defs actor s (Ack q named) NotHeld dids s' fits many defined each few = tt
  line_named defs actor s (Release q named) (Released id) dids s' fits many defined each few = tt
  line_named defs actor s (Release q named) (Outdated id) dids s' fits many defined each few = tt
  line_named defs actor s (Release q named) (Stolen state) dids s' fits many defined each few = taken_named s q named state dids s' fits (omega (arith, many, defined)) each
  line_named defs actor s (Release q named) NotHeld dids s' fits many defined each few = tt
  line_named defs actor s (Lock q named) (Relocked id) dids s' fits many defined each few = tt
  line_named defs actor s (Lock q named) (Stolen state) dids s' fits many defined each few = taken_named s q named state dids s' fits (omega (arith, many, defined)) each
  line_named defs actor s (Lock q named) NotHeld dids s' fits many defined each few = tt
  line_named defs actor s (Unlock q named) (LeftUnlocked id) dids s' fits many defined each few = tt
  line_named defs actor s (Unlock q named) NotHeld dids s' fits many defined each few = tt
  line_named defs actor s (Steal q id) (Stole stolen) dids s' fits many defined each few = tt
  line_named defs actor s (Steal q id) (NotStealable state) dids s' fits many defined each few =
      (subst (AllByRecursion (DidNamed n actors)) fits.1.did each).1.0 (omega (arith, many, defined)) state refl
  line_named defs actor s (Steal q id) (Moved state) dids s' fits many defined each few =
      (subst (AllByRecursion (DidNamed n actors)) fits.1.did each).1.0 (omega (arith, many, defined)) state refl
  line_named defs actor s (Steal q id) Absent dids s' fits many defined each few = tt
  line_named defs actor s what answer dids s' fits many defined each few = absurd fits

  -- the answers of lines
  lines_named : (defs : List Defined) (journal : Bool) (actor : List ℕ) (s : Standing) (ops : List Op) (answers : List report.Answer) (dids : List Did) (s' : Standing) → LinesFit defs s ops answers dids s' → n ≡ length defs
      → AllByRecursion (IsOpOf defs journal actor) ops → AllByRecursion (DidNamed n actors) dids → length s'.drops ≤ length drops → AllByRecursion (FitsLine queues actors drops) (told ops answers)
  lines_named defs journal actor s [] [] dids s' fits many own_ops each few = tt
  lines_named defs journal actor s [] (a ∷ answers) dids s' fits many own_ops each few = absurd fits
  lines_named defs journal actor s (op ∷ ops) [] dids s' fits many own_ops each few = absurd fits
  lines_named defs journal actor s (op ∷ ops) (a ∷ answers) dids s' fits many own_ops each few =
      let parts = all_parts (DidNamed n actors) fits.0 fits.2 (subst (AllByRecursion (DidNamed n actors)) fits.5 each) in
      let more = lines_drop_named n defs journal actor fits.1 ops answers fits.2 s' fits.4 many own_ops.1 in
      let longer : length s'.drops ≡ length fits.1.drops + length more.own = ap length more.all ∙ length-append fits.1.drops more.own in (
        line_named defs actor s op.what a fits.0 fits.1 fits.3 many own_ops.0.defined parts.0 (omega (arith, longer, few)),
        lines_named defs journal actor fits.1 ops answers fits.2 s' fits.4 many own_ops.1 parts.1 few,
      )

-- the logs of all actors
logs_named : (queues actors : List (List ℕ)) (logs : List Log) (stories : List Story)
    → ((i : ℕ) (s : Story) → slice_get stories i ≡ Some s → AllByRecursion (FitsLine queues actors s.end.drops) (told s.ops s.answers)) → LogsTell logs stories → AllByRecursion (FitsLog queues actors) logs
logs_named queues actors [] [] each tells = tt
logs_named queues actors [] (s ∷ stories) each tells = absurd tells
logs_named queues actors (log ∷ logs) [] each tells = absurd tells
logs_named queues actors (log ∷ logs) (s ∷ stories) each tells = (
  subst (λ (drops : List Dropped). All (FitsLine queues actors drops) log.lines.items) (sym tells.2)
      (subst (λ (lines : List (ℕ × report.Answer)). All (FitsLine queues actors s.end.drops) lines) (sym tells.1) (All-from_recursion (FitsLine queues actors s.end.drops) (told s.ops s.answers) (each 0 s refl))),
  logs_named queues actors logs stories (λ i t there. each (suc i) t there) tells.3,
)

-- Entries

-- what is told of a row
record Tells (actors : List (List ℕ)) (x : Row) : Type 0 where
  named : NamesCaller actors x.state
  rests : Rests x.state

-- what holds of rows that are found by their numbers
rows_tell : (actors : List (List ℕ)) (p : Played) (xs : List Row) → IsOpening p.plan.opening → AllByRecursion (IsByActor (length actors)) p.history
    → AllByRecursion (λ x. row_at (rest_of p) x.number ≡ Some x) xs → ((r : ℕ) (x : Row) → row_at (rest_of p) r ≡ Some x → Rests x.state) → ((r : ℕ) (x : Row) → row_at (rest_of p) r ≡ Some x → NamesCaller actors x.state)
    → AllByRecursion (Tells actors) xs
rows_tell actors p [] opens callers found rests named = tt
rows_tell actors p (x ∷ xs) opens callers found rests named = (record { named = named x.number x found.0; rests = rests x.number x found.0 }, rows_tell actors p xs opens callers found.1 rests named)

-- the holder of an entry is whom its state names
holder_named : (actors : List (List ℕ)) (s : RowState) → NamesCaller actors s → IsHolder actors (holder_of s)
holder_named actors Available named = tt
holder_named actors (Locked h) named = named
holder_named actors (Unlocked h) named = named
holder_named actors Dequeued named = tt
holder_named actors Deleted named = tt

holders_named : (actors : List (List ℕ)) (xs : List Row) → AllByRecursion (λ x. Tells actors x × (stays x.state ≡ true)) xs → AllByRecursion (HasHolder actors) (map resting xs)
holders_named actors [] each = tt
holders_named actors (x ∷ xs) each = (holder_named actors x.state each.0.0.named, holders_named actors xs each.1)

-- an entry that rests adds its size to the depth
size_counts : (x : Row) → Rests x.state → stays x.state ≡ true → x.slip.size ≤ 1 * row_bytes x
size_counts x rests there = by_state x.state refl rests there where
  by_state : (s : RowState) → x.state ≡ s → Rests s → stays s ≡ true → x.slip.size ≤ 1 * row_bytes x
  by_state Available e rests there = rw e (omega arith)
  by_state (Locked h) e rests there = absurd rests
  by_state (Unlocked h) e rests there = rw e (omega arith)
  by_state Dequeued e rests there = absurd rests
  by_state Deleted e rests there = absurd (cc)

-- and so do all
sizes_count : (actors : List (List ℕ)) (xs : List Row) → AllByRecursion (λ x. Tells actors x × (stays x.state ≡ true)) xs → AllByRecursion (λ x. x.slip.size ≤ 1 * row_bytes x) xs
sizes_count actors [] each = tt
sizes_count actors (x ∷ xs) each = (size_counts x each.0.0.rests each.0.1, sizes_count actors xs each.1)

-- the entries have what a rest is to have
record FitsRestOf (actors : List (List ℕ)) (es : List Resting) : Type 0 where
  named : AllByRecursion (HasHolder actors) es
  sizes : bytes_of es < 2 ^ 64

-- the entries of a queue at its rest
rest_named : (stories : List Story) (q : ℕ) (p : Played) → IsOpening p.plan.opening → IsPlayed q stories p → FitsRestOf (actor_names stories) (resting_in p)
rest_named stories q p opens played = record { named = holders_named actors es each; sizes = sizes } where
  actors : List (List ℕ)
  actors = actor_names stories

  state : Queue
  state = rest_of p

  es : List Row
  es = entries_of p.plan.kind state

  callers : AllByRecursion (IsByActor (length actors)) p.history
  callers = subst (λ (n : ℕ). AllByRecursion (IsByActor n) p.history) (sym (length-map stories (λ (s : Story). s.name))) played.callers

  each : AllByRecursion (λ x. Tells actors x × (stays x.state ≡ true)) es
  each = all_entries (Tells actors) p.plan.kind state
      (rows_tell actors p state.rows opens callers (rows_found p.plan.opening p.history opens played.legal) played.rests
      (λ r x found. state_named actors p.plan.opening p.history r x.state opens played.legal callers (x, found, refl)))

  sizes : bytes_of (resting_in p) < 2 ^ 64
  sizes =
      let sound = sound_after p.plan.opening p.history (sound_opening p.plan.opening opens) played.legal in
      let told_sizes = sum_map (λ (e : Resting). e.size) resting es in
      let counted = sum_by-le-times (λ (x : Row). x.slip.size) row_bytes 1 es (sizes_count actors es each) in
      let within = entries_le row_bytes p.plan.kind state in
      let low = depth_low state sound in
      omega (arith, told_sizes, counted, within, low, sound.small)

-- a rest of these entries
fits_rest : (actors : List (List ℕ)) (rest : Rest) (es : List Resting) → rest.entries.items ≡ es → FitsRestOf actors es → FitsRest actors rest
fits_rest actors rest es same fits = record {
  named = subst (λ (xs : List Resting). All (HasHolder actors) xs) (sym same) (All-from_recursion (HasHolder actors) es fits.named);
  sizes = subst (λ (xs : List Resting). bytes_of xs < 2 ^ 64) (sym same) fits.sizes;
}

-- the rests of all queues
rests_named : (actors : List (List ℕ)) (rests : List Rest) (defs : List Defined) (queues : List Played) → ((q : ℕ) (p : Played) → slice_get queues q ≡ Some p → FitsRestOf actors (resting_in p)) → RestsTell rests defs queues → AllByRecursion (FitsRest actors) rests
rests_named actors [] defs queues each tells = tt
rests_named actors (rest ∷ rests) (def ∷ defs) (p ∷ queues) each tells = (fits_rest actors rest (resting_in p) tells.1 (each 0 p refl), rests_named actors rests defs queues (λ q t there. each (suc q) t there) tells.2)
rests_named actors (rest ∷ rests) [] [] each tells = absurd tells
rests_named actors (rest ∷ rests) [] (p ∷ queues) each tells = absurd tells
rests_named actors (rest ∷ rests) (def ∷ defs) [] each tells = absurd tells

-- Phases

-- each queue of a phase began with an opening, and there are as many as definitions
all_open : (defs : List Defined) (rows : List (List Row)) (queues : List Played) → AllOpen defs rows queues → (length queues ≡ length defs) × ((q : ℕ) (p : Played) → slice_get queues q ≡ Some p → IsOpening p.plan.opening)
all_open [] [] [] are = (refl, λ q p there. absurd (cc))
all_open (def ∷ defs) (rs ∷ rows) (p ∷ queues) are =
    let rest = all_open defs rows queues are.1 in
    (ap suc rest.0, λ q t there. opening q t there rest.1)
  where
    opening : (q : ℕ) (t : Played) → slice_get (p ∷ queues) q ≡ Some t → ((i : ℕ) (u : Played) → slice_get queues i ≡ Some u → IsOpening u.plan.opening) → IsOpening t.plan.opening
    opening zero t there others = let same : p ≡ t = (cc) in subst (λ (u : Played). IsOpening u.plan.opening) same are.0.fits
    opening (suc q) t there others = others q t there
all_open [] [] (p ∷ queues) are = absurd are
all_open [] (rs ∷ rows) [] are = absurd are
all_open [] (rs ∷ rows) (p ∷ queues) are = absurd are
all_open (def ∷ defs) [] [] are = absurd are
all_open (def ∷ defs) [] (p ∷ queues) are = absurd are
all_open (def ∷ defs) (rs ∷ rows) [] are = absurd are

-- the lines of a story are those of an actor
own_lines : (defs : List Defined) (journal : Bool) (stories : List Story) → AllByRecursion (HasOwnOps defs journal) (map (λ s. (s.name, s.ops)) stories) → (i : ℕ) (s : Story) → slice_get stories i ≡ Some s → AllByRecursion (IsOpOf defs journal s.name) s.ops
own_lines defs journal [] each i s there = absurd (cc)
own_lines defs journal (t ∷ stories) each zero s there = let same : t ≡ s = (cc) in subst (λ (u : Story). AllByRecursion (IsOpOf defs journal u.name) u.ops) same each.0.own
own_lines defs journal (t ∷ stories) each (suc i) s there = own_lines defs journal stories each.1 i s there

-- a queue of the phase
queue_there : (queues : List Played) (q : ℕ) → q < length queues → (p : Played) × (slice_get queues q ≡ Some p)
queue_there queues q within = ⊎_elim (λ at. (at.0, at.2)) (λ past. absurd (omega (arith, within, past.0))) (slice_get_cases queues q).1

-- all that is told of a phase
pub states_named : (defs : List Defined) (rows : List (List Row)) (actors : Actors) (journal : Bool) (a : Account) (seats seats' : Seats) (logs : List Log) (rests : List Rest)
    → IsAllowedPhase defs journal actors → IsPhase defs rows actors a seats seats' → LogsTell logs a.stories → RestsTell rests defs a.queues
    → All (FitsLog (queue_names defs) (actor_names a.stories)) logs × All (FitsRest (actor_names a.stories)) rests
states_named defs rows actors journal a seats seats' logs rests allowed phase tell tells = (
  All-from_recursion (FitsLog (queue_names defs) names) logs (logs_named (queue_names defs) names logs a.stories story_named tell),
  All-from_recursion (FitsRest names) rests (rests_named names rests defs a.queues (λ q p there. rest_named a.stories q p (open_all.1 q p there) (phase.queues q p there)) tells),
) where
  names : List (List ℕ)
  names = actor_names a.stories

  n : ℕ
  n = length a.queues

  open_all : (length a.queues ≡ length defs) × ((q : ℕ) (p : Played) → slice_get a.queues q ≡ Some p → IsOpening p.plan.opening)
  open_all = all_open defs rows a.queues phase.opens

  calls_named : (i : ℕ) (s : Story) → slice_get a.stories i ≡ Some s → (q : ℕ) → q < n → AllByRecursion (CallNamed names) (calls_on q (calls_of s))
  calls_named i s there q within =
      let p = queue_there a.queues q within in
      let played = phase.queues q p.0 p.1 in
      let makes = played.makes i s there in
      let callers = subst (λ (m : ℕ). AllByRecursion (IsByActor m) p.0.history) (sym (length-map a.stories (λ (t : Story). t.name))) played.callers in
      subst (AllByRecursion (CallNamed names)) makes.same
      (chain_named names p.0.plan (i + 1) [] makes.made p.0.history p.0.history (open_all.1 q p.0 p.1) played.legal callers makes.chain (prefix_self p.0.history))

  story_named : (i : ℕ) (s : Story) → slice_get a.stories i ≡ Some s → AllByRecursion (FitsLine (queue_names defs) names s.end.drops) (told s.ops s.answers)
  story_named i s there =
      let own_ops = own_lines defs journal a.stories (subst (AllByRecursion (HasOwnOps defs journal)) (sym phase.lines) allowed.own) i s there in
      let dids = all_parts (DidNamed n names) s.dids (unlocks s.end.hands) (dids_named n names (calls_of s) (calls_named i s there)) in
      let dropped = lines_drop_named n defs journal s.name (begins defs s.seats) s.ops s.answers s.dids s.end (phase.stories i s there) open_all.0 own_ops in
      let long : n ≡ length (queue_names defs) = open_all.0 ∙ sym (length-map defs (λ (d : Defined). d.name)) in
      let all_dropped : All (HasQueue (queue_names defs)) s.end.drops =
      subst (All (HasQueue (queue_names defs))) (sym dropped.all)
      (subst (λ (k : ℕ). All (λ (x : Dropped). x.queue < k) dropped.own) long (All-from_recursion (λ (x : Dropped). x.queue < n) dropped.own dropped.each))
      in
      lines_named (queue_names defs) n names s.end.drops all_dropped defs journal s.name (begins defs s.seats) s.ops s.answers s.dids s.end (phase.stories i s there) open_all.0 own_ops dids.0 (omega arith)
