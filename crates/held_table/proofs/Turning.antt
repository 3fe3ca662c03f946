-- one turn: what a call of the one-thread queue does for the history
use Rattle.std.proofs.Common.{◌≡◌, ℕ, ◌+◌, ◌-◌, ◌≤◌, List, [], ◌∷◌, ◌++◌, length, refl, sym, ap, ◌∙◌, subst, arith, Option, Some, None, append-nil, false, inl}
use Rattle.std.specs.List.{AllByRecursion}
use Rattle.queue_model.specs.declared.deeds.Act.{Act}
use Rattle.queue_model.specs.declared.deeds.Deed.{Deed}
use Rattle.queue_model.specs.declared.queues.Queue.{Queue}
use Rattle.queue_model.specs.History.{after, Legal, own, deeds_of}
use Rattle.queue_model.specs.State.{entries}
use Rattle.queue_model.proofs.Histories.{after-append, legal-append}
use Rattle.acts_core.specs.Asked.{HasDequeued}
use Rattle.acts_core.specs.Calls.{Call, CallReserve, CallGiveBack, CallPut, CallNext, CallOldest, CallLock, CallUnlock, CallRelease, CallSteal, CallDequeue, CallDelete, Answer, IsAt, IsGot, IsEmpty, IsLocked, IsReleased, HasStolen, IsFreed, displacing}
use Rattle.acts_core.specs.Held.{Means}
use Rattle.acts_core.specs.Kept.{Kept, Stands}
use Rattle.acts_core.specs.Load.{Load}
use Rattle.acts_core.specs.Meaning.{allowance_after}
use Rattle.acts_core.specs.Owed.{taken_any}
use Rattle.acts_core.specs.Serves.{CanCall, MayCall, Serves, held_acts, rows_of_call}
use Rattle.acts_core.specs.Sight.{Kind}
use Rattle.acts_core.proofs.Stepping.{taken-append}
use Rattle.history_lock.specs.declared.view.View.{View}
use Rattle.history_lock.specs.Views.{Has}
use Rattle.history_lock.specs.Plays.{Later, Took, Owes, Live, given}
use Rattle.held_table.specs.declared.view.Outset.{Outset}
use Rattle.held_table.specs.Sights.{Asks, Sits, sight_by}
use Rattle.held_table.specs.Tales.{wide, core_tale, StandsAt, IsHistory, rows_after, Enders}
use Rattle.held_table.specs.Turns.{plain, deeds_in, Turned, Passed}
use Rattle.held_table.specs.Views.{outset_in, outset_or}
use Rattle.held_table.proofs.Asking.{may_now, put_fits, may_reserve, may_draw}
use Rattle.held_table.proofs.Costs.{not_mine, cost_entries, cost_rows, plain_acts, acts_quiet}
use Rattle.held_table.proofs.Ending.{Spares, enders_step, enders_on}
use Rattle.held_table.proofs.Wide.{after_wide, legal_narrow, acts_fit, means_narrow}

displacing_spares : (d : Option (ℕ × Load)) → AllByRecursion Spares (displacing d)
displacing_spares None = tt
displacing_spares (Some x) = (tt, tt)

-- a call keeps that who dequeues a row deletes it
enders_call : (o : Queue) (ds : List Deed) (h : ℕ) (v : View Outset Deed) (call : Call) (answer : Answer) → Asks (sight_by h v) call → own h ds ≡ own h v.seen → Legal (after o ds) (deeds_of h (held_acts call answer)) → Enders o ds → Enders o (ds ++ deeds_of h (held_acts call answer))
enders_call o ds h v (CallDelete r) a asks same legal enders = enders_step o ds h (Rattle.queue_model.specs.declared.deeds.Act.TheVariants.Del r) enders legal.0 (ap (Rattle.acts_core.specs.Asked.last_on r) same ∙ asks)
enders_call o ds h v (CallReserve size) a asks same legal enders = enders_on o ds h (held_acts (CallReserve size) a) (tt, tt) legal enders
enders_call o ds h v (CallGiveBack size) a asks same legal enders = enders_on o ds h (held_acts (CallGiveBack size) a) (tt, tt) legal enders
enders_call o ds h v (CallPut slip load) (IsAt r d) asks same legal enders = enders_on o ds h (held_acts (CallPut slip load) (IsAt r d)) (tt, displacing_spares d) legal enders
enders_call o ds h v (CallNext c) (IsGot r l load) asks same legal enders = enders_on o ds h (held_acts (CallNext c) (IsGot r l load)) (tt, tt) legal enders
enders_call o ds h v (CallNext c) IsEmpty asks same legal enders = enders_on o ds h [] tt legal enders
enders_call o ds h v CallOldest (IsGot r l load) asks same legal enders = enders_on o ds h (held_acts CallOldest (IsGot r l load)) (tt, tt) legal enders
enders_call o ds h v (CallLock r) (IsLocked load) asks same legal enders = enders_on o ds h (held_acts (CallLock r) (IsLocked load)) (tt, tt) legal enders
enders_call o ds h v (CallUnlock r load) a asks same legal enders = enders_on o ds h (held_acts (CallUnlock r load) a) (tt, tt) legal enders
enders_call o ds h v (CallRelease r load) (IsReleased mask) asks same legal enders = enders_on o ds h (held_acts (CallRelease r load) (IsReleased mask)) (tt, tt) legal enders
enders_call o ds h v (CallSteal r) (HasStolen load) asks same legal enders = enders_on o ds h (held_acts (CallSteal r) (HasStolen load)) (tt, tt) legal enders
enders_call o ds h v (CallDequeue r) (IsFreed size) asks same legal enders = enders_on o ds h (held_acts (CallDequeue r) (IsFreed size)) (tt, (tt, tt)) legal enders
enders_call o ds h v call a asks same legal enders = enders_on o ds h [] tt legal enders

module _ {Q : Type 0} (keeps : Q → Kept) (kind : Kind) where
  module _ (v w : View Outset Deed) (old : Q) (h : ℕ) (call : Call) (sits : Sits v) (has : Has h v.callers) (t : Took (core_tale keeps) (outset_in v) v w old) (asks : Asks (sight_by h v) call) where
    -- the call may be made of the one-thread queue that was taken
    can : CanCall (wide (after (outset_in v).opening w.seen)) h call
    can = may_now v h w.seen sits t.later.prefix (t.later.same h has) t.legal t.allowed call asks

    pub may : MayCall (keeps old) h call
    may = (wide (after (outset_in v).opening w.seen), t.stands.stands, can)

    pub has_room : rows_of_call call ≤ (keeps old).spare
    has_room = let r = t.stands.room in let s = t.shared in let d = may_draw h v call asks in omega (arith, r, s, d)

    module _ (new : Q) (answer : Answer) (s : Serves kind (keeps old) (keeps new) h call answer) where
      abbrev P : Outset
      P = outset_in v

      abbrev ds : List Deed
      ds = deeds_of h (held_acts call answer)

      abbrev q : Queue
      q = after (outset_in v).opening w.seen

      legal_now : Legal (after (outset_in v).opening w.seen) (deeds_of h (held_acts call answer))
      legal_now = legal_narrow q h (held_acts call answer)
          (acts_fit q.lists q.consumers call answer (put_fits v h w.seen sits t.later.prefix (t.later.same h has) t.legal t.allowed call asks))
          (s.legal (wide q) t.stands.stands can)

      pub means_now : Means kind (after (outset_in v).opening w.seen) h call answer
      means_now = means_narrow kind q h call answer (s.means (wide q) t.stands.stands can)

      there : after (outset_in v).opening (w.seen ++ deeds_of h (held_acts call answer)) ≡ after (after (outset_in v).opening w.seen) (deeds_of h (held_acts call answer))
      there = after-append P.opening w.seen ds

      entries_then : entries (after (outset_in v).opening (w.seen ++ deeds_of h (held_acts call answer))) + allowance_after call v.allowance ≡ entries (after (outset_in v).opening w.seen) + v.allowance
      entries_then = ap (λ (z : Queue). entries z + allowance_after call v.allowance) there ∙ cost_entries kind q h call answer v.allowance legal_now means_now (may_reserve h v call asks)

      rows_then : rows_after (outset_in v) (w.seen ++ deeds_of h (held_acts call answer)) ≡ rows_after (outset_in v) w.seen + rows_of_call call
      rows_then = ap (λ (z : Queue). length z.rows) there ∙ cost_rows kind q h call answer means_now

      stands_then : StandsAt (keeps new) (outset_in v) (w.seen ++ deeds_of h (held_acts call answer))
      stands_then = record {
        stands = subst (Stands (keeps new)) (after_wide q ds ∙ ap wide (sym there)) (s.stands (wide q) t.stands.stands can);
        room = let r = t.stands.room in let n = s.spare in let x = rows_then in omega (arith, r, n, x);
      }

      pub history_then : IsHistory (outset_in v) (w.seen ++ deeds_of h (held_acts call answer))
      history_then = record {
        legal = legal-append P.opening w.seen ds t.legal.legal legal_now;
        quiet = λ c. taken-append c w.seen ds ∙ ap (λ (l : List Deed). l ++ taken_any c ds) (t.legal.quiet c) ∙ acts_quiet h c call answer;
        enders = enders_call P.opening w.seen h v call answer asks (t.later.same h has) legal_now t.legal.enders;
        rows = let r = stands_then.room in omega (arith, r);
      }

      same_allowance : w.allowance ≡ v.allowance
      same_allowance = ap (λ (x : View Outset Deed). x.allowance) t.view

      same_share : w.share ≡ v.share
      same_share = ap (λ (x : View Outset Deed). x.share) t.view

      pub owes : Owes (core_tale keeps) (outset_in v) h w new (deeds_of h (held_acts call answer)) (allowance_after call v.allowance) (v.share - rows_of_call call)
      owes = record {
        mine = λ k off. not_mine h k (held_acts call answer) off;
        legal = history_then;
        stands = stands_then;
        allowed = let e = entries_then in let a = same_allowance in omega (arith, e, a);
        shared = let e = rows_then in let a = same_share in let d = may_draw h v call asks in omega (arith, e, a, d);
      }

      pub turned : (u : View Outset Deed) → v.holding ≡ false → u ≡ given (deeds_of h (held_acts call answer)) (allowance_after call v.allowance) (v.share - rows_of_call call) w → Turned keeps kind (outset_in v) h v u call answer
      turned u idle is =
          let seen : u.seen ≡ w.seen ++ ds = ap (λ (x : View Outset Deed). x.seen) is in record {
            before = w.seen;
            later = t.later;
            seen = seen;
            history = subst (IsHistory P) (sym seen) history_then;
            means = means_now;
            view = is_view u idle is;
          }
        where
          is_view : (u : View Outset Deed) → v.holding ≡ false → u ≡ given (deeds_of h (held_acts call answer)) (allowance_after call v.allowance) (v.share - rows_of_call call) w
              → u ≡ record v { allowance = allowance_after call v.allowance; share = v.share - rows_of_call call; turns = v.turns + 1; told = []; seen = u.seen }
          is_view u idle is = λ i. record {
            opening = (ap (λ (y : View Outset Deed). y.opening) is ∙ ap (λ (y : View Outset Deed). y.opening) t.view) i;
            callers = (ap (λ (y : View Outset Deed). y.callers) is ∙ ap (λ (y : View Outset Deed). y.callers) t.view) i;
            made = (ap (λ (y : View Outset Deed). y.made) is ∙ ap (λ (y : View Outset Deed). y.made) t.view) i;
            consumers = (ap (λ (y : View Outset Deed). y.consumers) is ∙ ap (λ (y : View Outset Deed). y.consumers) t.view) i;
            allowance = (is i).allowance;
            share = (is i).share;
            turns = (ap (λ (y : View Outset Deed). y.turns) is ∙ ap (λ (y : View Outset Deed). y.turns + 1) t.view) i;
            holding = (ap (λ (y : View Outset Deed). y.holding) is ∙ sym idle) i;
            told = (is i).told;
            seen = u.seen;
          }

  -- by what a reply tells of the answer, and a call that is known by another name
  module _ (v w : View Outset Deed) (old new : Q) (h : ℕ) (ended : List ℕ) (call call' : Call) (answer told : Answer) (sits : Sits v) (begun : v.opening ≡ Some (outset_in v)) (is : v.callers ≡ h ∷ ended) (t : Took (core_tale keeps) (outset_in v) v w old) (asks : Asks (sight_by h v) call) (s : Serves kind (keeps old) (keeps new) h call answer) (same : call' ≡ call) (reply : plain answer ≡ told) where
    has : Has h v.callers
    has = subst (Has h) (sym is) (inl refl)

    opening_now : w.opening ≡ Some (outset_in v)
    opening_now = ap (λ (x : View Outset Deed). x.opening) t.view ∙ begun

    outset_now : outset_in w ≡ outset_in v
    outset_now = ap outset_or opening_now

    deeds_now : deeds_in (after (outset_in w).opening w.seen) h call' told ≡ deeds_of h (held_acts call answer)
    deeds_now =
        ap (λ (x : Outset). deeds_in (after x.opening w.seen) h call' told) outset_now
        ∙ (λ i. deeds_in (after (outset_in v).opening w.seen) h (same i) (sym reply i))
        ∙ ap (deeds_of h) (plain_acts kind (after (outset_in v).opening w.seen) h call answer (means_now v w old h call sits has t asks new answer s))

    allowance_now : allowance_after call' w.allowance ≡ allowance_after call v.allowance
    allowance_now = λ i. allowance_after (same i) (ap (λ (x : View Outset Deed). x.allowance) t.view i)

    share_now : w.share - rows_of_call call' ≡ v.share - rows_of_call call
    share_now = λ i. (ap (λ (x : View Outset Deed). x.share) t.view i) - rows_of_call (same i)

    pub finishes : (x : Outset) × (l : Live x w) × Owes (core_tale keeps) x l.caller w new (deeds_in (after (outset_in w).opening w.seen) h call' told) (allowance_after call' w.allowance) (w.share - rows_of_call call')
    finishes =
        let l : Live (outset_in v) w = record { opening = opening_now; caller = h; ended = ended; speaks = ap (λ (x : View Outset Deed). x.callers) t.view ∙ is } in (
          outset_in v,
          l,
          subst (λ (y : List Deed × ℕ × ℕ). Owes (core_tale keeps) (outset_in v) h w new y.0 y.1 y.2) (λ i. (sym deeds_now i, sym allowance_now i, sym share_now i)) (owes v w old h call sits has t asks new answer s),
        )

    pub ends : (u : View Outset Deed) → v.holding ≡ false → u ≡ given (deeds_in (after (outset_in w).opening w.seen) h call' told) (allowance_after call' w.allowance) (w.share - rows_of_call call') w → Turned keeps kind (outset_in v) h v u call answer
    ends u idle now = turned v w old h call sits has t asks new answer s u idle (now ∙ λ i. given (deeds_now i) (allowance_now i) (share_now i) w)

  -- A turn in which nothing is done

  module _ (v w : View Outset Deed) (object : Q) (h : ℕ) (ended : List ℕ) (begun : v.opening ≡ Some (outset_in v)) (is : v.callers ≡ h ∷ ended) (t : Took (core_tale keeps) (outset_in v) v w object) where
    none : w.seen ++ [] ≡ w.seen
    none = append-nil w.seen

    pub leaves : (x : Outset) × (l : Live x w) × Owes (core_tale keeps) x l.caller w object [] w.allowance w.share
    leaves = (
      outset_in v,
      record { opening = ap (λ (x : View Outset Deed). x.opening) t.view ∙ begun; caller = h; ended = ended; speaks = ap (λ (x : View Outset Deed). x.callers) t.view ∙ is },
      record {
        mine = λ k off. refl;
        legal = subst (IsHistory (outset_in v)) (sym none) t.legal;
        stands = subst (StandsAt (keeps object) (outset_in v)) (sym none) t.stands;
        allowed = let e = ap (λ (l : List Deed). entries (after (outset_in v).opening l)) none in omega (arith, e);
        shared = let e = ap (rows_after (outset_in v)) none in omega (arith, e);
      },
    )

    pub passed : (u : View Outset Deed) → v.holding ≡ false → u ≡ given [] w.allowance w.share w → Passed keeps (outset_in v) v u
    passed u idle now =
        let seen : u.seen ≡ w.seen = ap (λ (x : View Outset Deed). x.seen) now ∙ none in record {
          later = subst (Later (core_tale keeps) v) (sym seen) t.later;
          history = subst (IsHistory (outset_in v)) (sym seen) t.legal;
          view = λ i. record {
            opening = (ap (λ (y : View Outset Deed). y.opening) now ∙ ap (λ (y : View Outset Deed). y.opening) t.view) i;
            callers = (ap (λ (y : View Outset Deed). y.callers) now ∙ ap (λ (y : View Outset Deed). y.callers) t.view) i;
            made = (ap (λ (y : View Outset Deed). y.made) now ∙ ap (λ (y : View Outset Deed). y.made) t.view) i;
            consumers = (ap (λ (y : View Outset Deed). y.consumers) now ∙ ap (λ (y : View Outset Deed). y.consumers) t.view) i;
            allowance = (ap (λ (y : View Outset Deed). y.allowance) now ∙ ap (λ (y : View Outset Deed). y.allowance) t.view) i;
            share = (ap (λ (y : View Outset Deed). y.share) now ∙ ap (λ (y : View Outset Deed). y.share) t.view) i;
            turns = (ap (λ (y : View Outset Deed). y.turns) now ∙ ap (λ (y : View Outset Deed). y.turns + 1) t.view) i;
            holding = (ap (λ (y : View Outset Deed). y.holding) now ∙ sym idle) i;
            told = (now i).told;
            seen = u.seen;
          };
        }
