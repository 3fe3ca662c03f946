-- no row is left locked or dequeued when all actors are done
use Rattle.std.proofs.Common.{◌≡◌, ◌≢◌, ℕ, zero, suc, ◌+◌, ◌<◌, ◌≤◌, ◌==◌, Bool, true, false, cond, Some, List, [], ◌∷◌, find, length, map, slice_get, refl, sym, ap, ◌∙◌, subst, ⊎_elim, eq-eqb, eqb-true, arith}
use Rattle.std.proofs.lemmas.Bool.{cases_eq}
use Rattle.std.proofs.lemmas.Option.{slice_get_cases}
use Rattle.std.specs.List.{AllByRecursion, count_by}
use mathlib.Core.List.{IsPrefix}
use Rattle.queue_model.specs.declared.deeds.Act.{Act}
use Rattle.queue_model.specs.declared.deeds.Act.TheVariants.{Acq, Lock, Unlock, Steal, Rel, Deq, Del}
use Rattle.queue_model.specs.declared.deeds.Deed.{Deed}
use Rattle.queue_model.specs.declared.queues.Queue.{Queue}
use Rattle.queue_model.specs.declared.rows.Row.{Row}
use Rattle.queue_model.specs.declared.rows.RowState.{RowState}
use Rattle.queue_model.specs.declared.rows.RowState.TheVariants.{Available, Locked, Unlocked, Dequeued, Deleted}
use Rattle.queue_model.specs.declared.rows.Slip.{Slip}
use Rattle.queue_model.specs.History.{after, own}
use Rattle.queue_model.specs.Sound.{IsOpening}
use Rattle.queue_model.specs.State.{is_row, row_at, IsIn}
use Rattle.queue_model.proofs.Histories.{after-append, own-cons_other}
use Rattle.queue_model.proofs.KeyedLemmas.{all-find}
use Rattle.queue_model.proofs.Stable.{row_stays}
use Rattle.acts_core.specs.Asked.{last_on}
use Rattle.acts_core.specs.Calls.{Call, Answer}
use Rattle.acts_core.specs.Chains.{Made, Chain}
use Rattle.acts_core.specs.Rest.{Rests}
use Rattle.acts_core.specs.Sight.{Build, Plan, plan_of}
use Rattle.acts_core.proofs.Chaining.{chain_grows}
use Rattle.acts_core.proofs.Gaining.{call_gains}
use Rattle.defs_read.specs.Defined.{Defined}
use Rattle.line_core.specs.Fits.{begins, unlocks}
use Rattle.line_core.specs.Runs.{calls_on}
use Rattle.account_core.specs.Last.{leads_to}
use Rattle.account_core.specs.Played.{IsByActor, IsGathered, Makes}
use Rattle.account_core.specs.Settling.{AreStories, PutsOnce}
use Rattle.account_core.specs.Stories.{Story, IsStory, calls_of}
use Rattle.account_core.proofs.Acting.{acts_by, count_cons, last_of_acts}
use Rattle.account_core.proofs.Closing.{joined_makes}
use Rattle.account_core.proofs.Dropping.{all_parts}
use Rattle.account_core.proofs.Last.{last_touch}
use Rattle.account_core.proofs.LineTracks.{DidKnown, Known, dids_each, lines_track, tracks_end}
use Rattle.account_core.proofs.Putting.{few_entered, own_calls, rows_count}
use Rattle.account_core.proofs.Tracking.{HasRow, IdsApart, dequeues, dids_last, last_of_dids, locks, tracks_none}

-- Rows of one id

-- what is found and passes is counted
once : (t : Row → Bool) (s : ℕ) (xs : List Row) (y : Row) → find (is_row s) xs ≡ Some y → t y ≡ true → 1 ≤ count_by t xs
once t s [] y found passes = absurd (cc)
once t s (x ∷ xs) y found passes = by_test (is_row s x) found (once t s xs y) where
  by_test : (b : Bool) → cond b (Some x) (find (is_row s) xs) ≡ Some y → (find (is_row s) xs ≡ Some y → t y ≡ true → 1 ≤ count_by t xs) → 1 ≤ count_by t (x ∷ xs)
  by_test true at others =
      let same : x ≡ y = (cc) in
      let here : ◌≡◌ {A = ℕ} (cond (t x) 1 0) 1 = ap (λ (b : Bool). let n : ℕ = cond b 1 0 in n) (ap t same ∙ passes) in
      omega (arith, count_cons t x xs, here)
  by_test false at others = omega (arith, count_cons t x xs, others at passes)

-- two that are found by two numbers are counted both
twice : (t : Row → Bool) (r s : ℕ) (xs : List Row) (x y : Row) → r ≢ s → find (is_row r) xs ≡ Some x → find (is_row s) xs ≡ Some y → t x ≡ true → t y ≡ true → 2 ≤ count_by t xs
twice t r s [] x y other one two px py = absurd (cc)
twice t r s (z ∷ zs) x y other one two px py = by_tests (is_row r z) (is_row s z) refl refl one two (λ a b. twice t r s zs x y other a b px py) where
  counted : (w : Row) → z ≡ w → t w ≡ true → 1 ≤ count_by t zs → 2 ≤ count_by t (z ∷ zs)
  counted w same passes rest =
      let here : ◌≡◌ {A = ℕ} (cond (t z) 1 0) 1 = ap (λ (b : Bool). let n : ℕ = cond b 1 0 in n) (ap t same ∙ passes) in
      omega (arith, count_cons t z zs, here, rest)

  by_tests : (a b : Bool) → is_row r z ≡ a → is_row s z ≡ b → cond a (Some z) (find (is_row r) zs) ≡ Some x → cond b (Some z) (find (is_row s) zs) ≡ Some y
      → (find (is_row r) zs ≡ Some x → find (is_row s) zs ≡ Some y → 2 ≤ count_by t zs) → 2 ≤ count_by t (z ∷ zs)
  by_tests true true e f at bt rest = absurd (other (sym (eqb-true z.number r e) ∙ eqb-true z.number s f))
  by_tests true false e f at bt rest = let same : z ≡ x = (cc) in counted x same px (once t s zs y bt py)
  by_tests false true e f at bt rest = let same : z ≡ y = (cc) in counted y same py (once t r zs x at px)
  by_tests false false e f at bt rest = omega (arith, count_cons t z zs, rest at bt)

-- where no id is counted twice, no id is of two rows
ids_apart : (all : Queue) → ((id : ℕ) → count_by (λ (x : Row). x.slip.id == id) all.rows ≤ 1) → IdsApart all
ids_apart all few r s x y one two same = ⊎_elim
    (λ (e : r ≡ s). e)
    (λ (other : r ≢ s). absurd (omega (arith, few y.slip.id, twice (λ (z : Row). z.slip.id == y.slip.id) r s all.rows x y other one two (eq-eqb x.slip.id y.slip.id same) (eq-eqb y.slip.id y.slip.id refl))))
    (cases_eq r s)

-- What calls gained

-- a row stays in a longer history, with its id
row_later : (o : Queue) (s0 s1 : List Deed) (r id : ℕ) → IsPrefix s0 s1 → HasRow (after o s0) r id → HasRow (after o s1) r id
row_later o s0 s1 r id grows has =
    let t = row_stays (after o s0) grows.0 r has.0 has.1 in
    let same : after (after o s0) grows.0 ≡ after o s1 = sym (after-append o s0 grows.0) ∙ ap (after o) grows.1 in
    (t.0, subst (λ (q : Queue). row_at q r ≡ Some t.0) same t.1, ap (λ (s : Slip). s.id) t.2.slip ∙ has.2)

-- what a caller gained is a row of the whole history
pub chain_known : (p : Plan) (h : ℕ) (from : List Deed) (ms : List Made) (to : List Deed) → Chain p h from ms to → AllByRecursion (λ (c : Call × Answer). Known (after p.opening to) c.0 c.1) (map (λ m. (m.call, m.answer)) ms)
chain_known p h from [] to chain = tt
chain_known p h from (m ∷ ms) to chain = (
  λ r load e.
      let g = (call_gains p h m.before m.later m.call m.answer r load chain.1 e).0 in
      row_later p.opening m.later to r load.id (chain_grows p h m.later ms to chain.2) (g.row, g.found, sym g.same.id),
  chain_known p h m.later ms to chain.2,
)

-- Stories

-- what an actor did last to a row is neither a lock nor a dequeue
story_ends : (q : ℕ) (defs : List Defined) (s : Story) (p : Plan) (h : ℕ) (history : List Deed) (r : ℕ) → IsStory defs s → Makes p h history (calls_on q (calls_of s)) → IdsApart (after p.opening history)
    → (locks (last_on r (own h history)) ≡ false) × (dequeues (last_on r (own h history)) ≡ false)
story_ends q defs s p h history r is makes apart =
    let all : Queue = after p.opening history in
    let same : last_on r (own h history) ≡ dids_last q r (calls_of s) =
    ap (last_on r) (own_calls p h history (calls_on q (calls_of s)) makes) ∙ last_of_acts h r (acts_by p (calls_on q (calls_of s))) ∙ last_of_dids p q r (calls_of s)
    in
    let known = dids_each q (Known all) (calls_of s) (subst (AllByRecursion (λ (c : Call × Answer). Known all c.0 c.1)) makes.same (chain_known p h [] makes.made history makes.chain)) in
    let t = lines_track q all defs (begins defs s.seats) s.ops s.answers s.dids s.end [] is apart (all_parts (DidKnown q all) s.dids (unlocks s.end.hands) known).0 (tracks_none q all) in
    let ends = tracks_end q all s.dids s.end.hands r t in
    (ap locks same ∙ ends.0, ap dequeues same ∙ ends.1)

-- Callers

-- who did something is an actor
pub acts_among : (n k : ℕ) (ds : List Deed) (r : ℕ) (a : Act) → AllByRecursion (IsByActor n) ds → last_on r (own k ds) ≡ Some a → (0 < k) × (k ≤ n)
acts_among n k [] r a all last = absurd (cc)
acts_among n k (d ∷ ds) r a all last = ⊎_elim
    (λ (e : d.caller ≡ k). (subst (λ (j : ℕ). 0 < j) e all.0.first, subst (λ (j : ℕ). j ≤ n) e all.0.last))
    (λ (other : d.caller ≢ k). acts_among n k ds r a all.1 (sym (ap (last_on r) (own-cons_other k d ds other)) ∙ last))
    (cases_eq d.caller k)

-- the actor of a number
story_of : (stories : List Story) (i : ℕ) → i < length stories → (s : Story) × (slice_get stories i ≡ Some s)
story_of stories i within = ⊎_elim
    (λ at. (at.0, at.2))
    (λ past. absurd (omega (arith, within, past.0)))
    (slice_get_cases stories i).1

-- acts that lead to a lock lock, and those that lead to a dequeue dequeue
locked_by : (k h : ℕ) (a : Act) → leads_to k a ≡ Some (Locked h) → locks (Some a) ≡ true
locked_by k h (Acq r) e = refl
locked_by k h (Lock r) e = refl
locked_by k h (Steal r) e = refl
locked_by k h (Unlock r n) e = absurd (cc)
locked_by k h (Rel r n) e = absurd (cc)
locked_by k h (Deq r) e = absurd (cc)
locked_by k h (Del r) e = absurd (cc)
locked_by k h a e = absurd (cc)

dequeued_by : (k : ℕ) (a : Act) → leads_to k a ≡ Some Dequeued → dequeues (Some a) ≡ true
dequeued_by k (Deq r) e = refl
dequeued_by k (Acq r) e = absurd (cc)
dequeued_by k (Lock r) e = absurd (cc)
dequeued_by k (Steal r) e = absurd (cc)
dequeued_by k (Unlock r n) e = absurd (cc)
dequeued_by k (Rel r n) e = absurd (cc)
dequeued_by k (Del r) e = absurd (cc)
dequeued_by k a e = absurd (cc)

-- all rows rest
pub settles : (defs : List Defined) (q : ℕ) (stories : List Story) (build : Build) (opening : Queue) (history : List Deed) (r : ℕ) (x : Row)
    → IsOpening opening → AreStories defs stories → IsGathered q stories build opening history → PutsOnce q stories opening
    → row_at (after opening history) r ≡ Some x → Rests x.state
settles defs q stories build opening history r x opens are gathered once_each found = by_state x.state (x, found, refl) where
  all : Queue
  all = after opening history

  apart : IdsApart all
  apart = ids_apart all (λ id. omega (arith, rows_count defs q stories build opening history (λ i. i == id) are gathered, few_entered q (λ i. i == id) stories, once_each id))

  ends_of : (k : ℕ) (a : Act) → last_on r (own k history) ≡ Some a → (locks (Some a) ≡ false) × (dequeues (Some a) ≡ false)
  ends_of zero a last = absurd (omega (arith, (acts_among (length stories) zero history r a gathered.callers last).0))
  ends_of (suc i) a last =
      let among = acts_among (length stories) (suc i) history r a gathered.callers last in
      let s = story_of stories i (omega (arith, among.1)) in
      let number : suc i ≡ i + 1 = omega arith in
      let ends = story_ends q defs s.0 (plan_of build opening) (i + 1) history r (are i s.0 s.1) (joined_makes build opening (i + 1) history (calls_on q (calls_of s.0)) (gathered.passes i s.0 s.1)) apart in
      let here : last_on r (own (i + 1) history) ≡ Some a = ap (λ (n : ℕ). last_on r (own n history)) (sym number) ∙ last in
      (sym (ap locks here) ∙ ends.0, sym (ap dequeues here) ∙ ends.1)

  was_available : (s : RowState) → IsIn opening r s → s ≡ Available
  was_available s is = sym is.2 ∙ all-find (λ z. z.state ≡ Available) (is_row r) opening.rows is.0 opens.available is.1

  by_state : (s : RowState) → IsIn all r s → Rests s
  by_state Available is = tt
  by_state (Unlocked h) is = tt
  by_state Deleted is = tt
  by_state (Locked h) is = ⊎_elim
      (λ old. let bad : Locked h ≡ Available = was_available (Locked h) old.0 in absurd (cc))
      (λ did. let bad : true ≡ false = sym (locked_by did.0 h did.1 did.3) ∙ (ends_of did.0 did.1 did.2).0 in absurd (cc))
      (last_touch opening history r (Locked h) gathered.legal is (λ e. cc))
  by_state Dequeued is = ⊎_elim
      (λ old. let bad : Dequeued ≡ Available = was_available Dequeued old.0 in absurd (cc))
      (λ did. let bad : true ≡ false = sym (dequeued_by did.0 did.1 did.3) ∙ (ends_of did.0 did.1 did.2).1 in absurd (cc))
      (last_touch opening history r Dequeued gathered.legal is (λ e. cc))
