-- the callers that answers and entries name are actors
use Rattle.std.proofs.Common.{◌≡◌, ◌≢◌, ℕ, ◌==◌, Bool, true, false, cond, Option, Some, None, List, [], ◌∷◌, ◌++◌, find, length, map, refl, sym, ap, ◌∙◌, subst, ⊎_elim, eq-eqb, ne_eqb}
use Rattle.std.specs.List.{AllByRecursion}
use mathlib.Core.List.{IsPrefix}
use Rattle.queue_model.specs.declared.deeds.Act.{Act}
use Rattle.queue_model.specs.declared.deeds.Act.TheVariants.{Acq, Lock, Unlock, Steal, Rel, Deq, Del}
use Rattle.queue_model.specs.declared.deeds.Deed.{Deed}
use Rattle.queue_model.specs.declared.queues.Queue.{Queue}
use Rattle.queue_model.specs.declared.rows.Row.{Row}
use Rattle.queue_model.specs.declared.rows.RowState.{RowState}
use Rattle.queue_model.specs.declared.rows.RowState.TheVariants.{Available, Locked, Unlocked, Dequeued, Deleted}
use Rattle.queue_model.specs.History.{after, Legal, deeds_of}
use Rattle.queue_model.specs.Keyed.{Apart}
use Rattle.queue_model.specs.Sound.{IsOpening, same_number}
use Rattle.queue_model.specs.State.{is_row, row_at, IsIn}
use Rattle.queue_model.proofs.KeyedLemmas.{all-find, find-past, find_none-head, find_none-tail}
use Rattle.queue_model.proofs.Prefixes.{legal_prefix, prefix_trans}
use Rattle.queue_model.proofs.SoundSteps.{sound_after, sound_opening}
use Rattle.acts_core.specs.Calls.{Call, CallLock, CallSteal, Answer, IsStolen, IsNotStealable, IsMoved, acts_of}
use Rattle.acts_core.specs.Chains.{Made, Chain}
use Rattle.acts_core.specs.Meaning.{Besides, Meets}
use Rattle.acts_core.specs.Sight.{Kind, Listed, Sorted, LastValue, Plan, Forgotten}
use Rattle.acts_core.proofs.Chaining.{chain_grows}
use Rattle.report_core.specs.Names.{IsCaller, NamesCaller}
use Rattle.account_core.specs.Last.{leads_to}
use Rattle.account_core.specs.Played.{IsByActor}
use Rattle.account_core.proofs.Last.{last_touch}
use Rattle.account_core.proofs.Settled.{acts_among}

-- States

-- who left a row in a state is whom the state names
caller_of : (k : ℕ) (a : Act) (actors : List (List ℕ)) (s : RowState) → leads_to k a ≡ Some s → IsCaller actors k → NamesCaller actors s
caller_of k a actors Available leads is = tt
caller_of k a actors Dequeued leads is = tt
caller_of k a actors Deleted leads is = tt
caller_of k a actors (Locked h) leads is = subst (IsCaller actors) (by_act a leads) is where
  by_act : (a : Act) → leads_to k a ≡ Some (Locked h) → k ≡ h
  by_act (Acq r) e = (cc)
  by_act (Lock r) e = (cc)
  by_act (Steal r) e = (cc)
  by_act (Unlock r n) e = absurd (cc)
  by_act (Rel r n) e = absurd (cc)
  by_act (Deq r) e = absurd (cc)
  by_act (Del r) e = absurd (cc)
  by_act a e = absurd (cc)
caller_of k a actors (Unlocked h) leads is = subst (IsCaller actors) (by_act a leads) is where
  by_act : (a : Act) → leads_to k a ≡ Some (Unlocked h) → k ≡ h
  by_act (Unlock r n) e = (cc)
  by_act (Acq r) e = absurd (cc)
  by_act (Lock r) e = absurd (cc)
  by_act (Steal r) e = absurd (cc)
  by_act (Rel r n) e = absurd (cc)
  by_act (Deq r) e = absurd (cc)
  by_act (Del r) e = absurd (cc)
  by_act a e = absurd (cc)

-- a state that is not available, of a row of a history in which the actors alone have acts
pub state_named : (actors : List (List ℕ)) (o : Queue) (ds : List Deed) (r : ℕ) (s : RowState) → IsOpening o → Legal o ds → AllByRecursion (IsByActor (length actors)) ds → IsIn (after o ds) r s → NamesCaller actors s
state_named actors o ds r s opens legal all is = by_state s is refl where
  other_than : (t : RowState) → IsIn (after o ds) r t → t ≢ Available → NamesCaller actors t
  other_than t there differs = ⊎_elim
      (λ old. absurd (differs (sym old.0.2 ∙ all-find (λ (z : Row). z.state ≡ Available) (is_row r) o.rows old.0.0 opens.available old.0.1)))
      (λ did. let among = acts_among (length actors) did.0 ds r did.1 all did.2 in caller_of did.0 did.1 actors t did.3 (record { first = among.0; last = among.1 }))
      (last_touch o ds r t legal there differs)

  by_state : (t : RowState) → IsIn (after o ds) r t → s ≡ t → NamesCaller actors t
  by_state Available there same = tt
  by_state Dequeued there same = tt
  by_state Deleted there same = tt
  by_state (Locked h) there same = other_than (Locked h) there (λ e. cc)
  by_state (Unlocked h) there same = other_than (Unlocked h) there (λ e. cc)

-- Calls

-- the state that an answer shows, if it shows one
abbrev pub shown : Call → Answer → Option RowState
shown (CallLock r) (IsStolen s) = Some s
shown (CallSteal r) (IsNotStealable s) = Some s
shown (CallSteal r) (IsMoved s) = Some s
shown call answer = None

-- a row was in the state at some moment up to s1
record WasIn (o : Queue) (s1 : List Deed) (s : RowState) : Type 0 where
  row : ℕ
  moment : List Deed
  early : IsPrefix moment s1
  there : IsIn (after o moment) row s

-- what each of the three answers shows
stolen_was : (p : Plan) (h r : ℕ) (s0 s1 : List Deed) (s : RowState) (kind : Kind) → Besides Forgotten p h s0 s1 (CallLock r) (IsStolen s) kind → WasIn p.opening s1 s
stolen_was p h r s0 s1 s Listed b = record { row = r; moment = b.moment; early = b.saw.between.early; there = b.saw.state }
stolen_was p h r s0 s1 s Sorted b = record { row = r; moment = b.moment; early = (deeds_of h (acts_of p (CallLock r) (IsStolen s)), b.before.whole); there = b.means.1 }
stolen_was p h r s0 s1 s LastValue b = record { row = r; moment = b.moment; early = (deeds_of h (acts_of p (CallLock r) (IsStolen s)), b.before.whole); there = b.means.1 }

unstealable_was : (p : Plan) (h r : ℕ) (s0 s1 : List Deed) (s : RowState) (kind : Kind) → Besides Forgotten p h s0 s1 (CallSteal r) (IsNotStealable s) kind → WasIn p.opening s1 s
unstealable_was p h r s0 s1 s Listed b = record { row = r; moment = b.moment; early = b.saw.between.early; there = b.saw.state }
unstealable_was p h r s0 s1 s Sorted b = record { row = r; moment = b.moment; early = (deeds_of h (acts_of p (CallSteal r) (IsNotStealable s)), b.before.whole); there = b.means.1 }
unstealable_was p h r s0 s1 s LastValue b = record { row = r; moment = b.moment; early = (deeds_of h (acts_of p (CallSteal r) (IsNotStealable s)), b.before.whole); there = b.means.1 }

moved_was : (p : Plan) (h r : ℕ) (s0 s1 : List Deed) (s : RowState) (kind : Kind) → Besides Forgotten p h s0 s1 (CallSteal r) (IsMoved s) kind → WasIn p.opening s1 s
moved_was p h r s0 s1 s Listed b = record { row = r; moment = b.second; early = b.moved.between.early; there = b.moved.state }
moved_was p h r s0 s1 s Sorted b = absurd b.means
moved_was p h r s0 s1 s LastValue b = absurd b.means

-- a state that a call showed was that of a row
shown_was : (p : Plan) (h : ℕ) (s0 s1 : List Deed) (call : Call) (answer : Answer) (s : RowState) → Meets p h s0 s1 call answer → shown call answer ≡ Some s → WasIn p.opening s1 s
shown_was p h s0 s1 (CallLock r) (IsStolen t) s m e = let same : t ≡ s = (cc) in subst (WasIn p.opening s1) same (stolen_was p h r s0 s1 t p.kind m.besides)
shown_was p h s0 s1 (CallSteal r) (IsNotStealable t) s m e = let same : t ≡ s = (cc) in subst (WasIn p.opening s1) same (unstealable_was p h r s0 s1 t p.kind m.besides)
shown_was p h s0 s1 (CallSteal r) (IsMoved t) s m e = let same : t ≡ s = (cc) in subst (WasIn p.opening s1) same (moved_was p h r s0 s1 t p.kind m.besides)
shown_was p h s0 s1 call answer s m e = absurd (cc)

-- what holds of two lists in a row holds of the first
front_all : (P : Deed → Type 0) (xs ys : List Deed) → AllByRecursion P (xs ++ ys) → AllByRecursion P xs
front_all P [] ys all = tt
front_all P (x ∷ xs) ys all = (all.0, front_all P xs ys all.1)

-- a call whose shown state names an actor
abbrev pub CallNamed : List (List ℕ) → Call × Answer → Type 0
CallNamed actors c = (s : RowState) → shown c.0 c.1 ≡ Some s → NamesCaller actors s

-- the calls of a caller show states that name actors
pub chain_named : (actors : List (List ℕ)) (p : Plan) (h : ℕ) (from : List Deed) (ms : List Made) (to all : List Deed) → IsOpening p.opening → Legal p.opening all → AllByRecursion (IsByActor (length actors)) all
    → Chain p h from ms to → IsPrefix to all → AllByRecursion (CallNamed actors) (map (λ m. (m.call, m.answer)) ms)
chain_named actors p h from [] to all opens legal callers chain grows = tt
chain_named actors p h from (m ∷ ms) to all opens legal callers chain grows = (
  λ s e.
      let was = shown_was p h m.before m.later m.call m.answer s chain.1 e in
      let early = prefix_trans was.moment m.later all was.early (prefix_trans m.later to all (chain_grows p h m.later ms to chain.2) grows) in
      let front = front_all (IsByActor (length actors)) was.moment early.0 (subst (AllByRecursion (IsByActor (length actors))) (sym early.1) callers) in
      state_named actors p.opening was.moment was.row s opens (legal_prefix p.opening was.moment all early legal) front was.there,
  chain_named actors p h m.later ms to all opens legal callers chain.2 grows,
)

-- Rows

-- where none is found each fails the test
none_each : (p : Row → Bool) (xs : List Row) → find p xs ≡ None → AllByRecursion (λ x. p x ≡ false) xs
none_each p [] none = tt
none_each p (x ∷ xs) none = (find_none-head p x xs none, none_each p xs (find_none-tail p x xs none))

-- where no number stands twice each row is found by its number
pub found_each : (xs : List Row) → Apart same_number xs → AllByRecursion (λ x. find (is_row x.number) xs ≡ Some x) xs
found_each [] apart = tt
found_each (z ∷ zs) apart = (ap (λ (b : Bool). cond b (Some z) (find (is_row z.number) zs)) (eq-eqb z.number z.number refl), behind zs (none_each (is_row z.number) zs apart.0) (found_each zs apart.1)) where
  turned : (a b : ℕ) → (a == b) ≡ false → (b == a) ≡ false
  turned a b e = ne_eqb b a (λ (same : b ≡ a). let bad : true ≡ false = sym (eq-eqb a b (sym same)) ∙ e in absurd (cc))

  behind : (xs : List Row) → AllByRecursion (λ x. is_row z.number x ≡ false) xs → AllByRecursion (λ x. find (is_row x.number) zs ≡ Some x) xs → AllByRecursion (λ x. find (is_row x.number) (z ∷ zs) ≡ Some x) xs
  behind [] other found = tt
  behind (x ∷ xs) other found = (find-past (is_row x.number) z zs (turned x.number z.number other.0) ∙ found.0, behind xs other.1 found.1)

-- what is found by its number in a queue
pub rows_found : (o : Queue) (ds : List Deed) → IsOpening o → Legal o ds → AllByRecursion (λ x. row_at (after o ds) x.number ≡ Some x) (after o ds).rows
rows_found o ds opens legal = found_each (after o ds).rows (sound_after o ds (sound_opening o opens) legal).rows_apart
