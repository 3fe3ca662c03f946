-- a turn as a call of a shared queue
use Rattle.std.proofs.Common.{◌≡◌, ℕ, ◌+◌, ◌-◌, ◌<◌, ◌≤◌, false, List, [], ◌∷◌, ◌++◌, refl, sym, ap, ◌∙◌, subst, append-nil, inl}
use mathlib.Core.List.{Mem}
use Rattle.queue_model.specs.declared.deeds.Deed.{Deed}
use Rattle.queue_model.specs.History.{after, own, deeds_of}
use Rattle.queue_model.specs.Sound.{IsOpening}
use Rattle.queue_model.proofs.Histories.{own-append}
use Rattle.queue_model.proofs.Prefixes.{prefix_trans}
use Rattle.acts_core.specs.Calls.{Call, CallPut, Answer, IsSpent, acts_of}
use Rattle.acts_core.specs.Kept.{Kept}
use Rattle.acts_core.specs.Load.{Load}
use Rattle.acts_core.specs.Meaning.{Served, Besides, Called, Shares, share_after, turns_after}
use Rattle.acts_core.specs.Owed.{taken_any}
use Rattle.acts_core.specs.Serves.{held_acts, rows_of_call}
use Rattle.acts_core.specs.Sight.{Kind, Listed, Sorted, LastValue, IsHeldKind, Build, Plan, plan_of, Showed, Evidence}
use Rattle.queue_model.specs.declared.rows.Slip.{Slip}
use Rattle.history_lock.specs.declared.view.View.{View}
use Rattle.history_lock.specs.Views.{Has}
use Rattle.held_table.specs.declared.view.Outset.{Outset}
use Rattle.held_table.specs.Sights.{Asks, Sits, sight_by}
use Rattle.held_table.specs.Tales.{IsHistory}
use Rattle.held_table.specs.Turns.{Turned, Passed}
use Rattle.held_table.specs.Views.{outset_in, rest_of}
use Rattle.held_table.proofs.Asking.{may_draw}
use Rattle.held_table.proofs.Costs.{not_mine, all_mine, acts_same, acts_quiet, shares_of}
use Rattle.held_table.proofs.Members.{ended_has}

turns_held : (kind : Kind) → IsHeldKind kind → (n : ℕ) → turns_after kind n ≡ n + 1
turns_held Listed held n = absurd held
turns_held Sorted held n = refl
turns_held LastValue held n = refl

-- what a held queue's answer tells, besides the acts
besides_of : (kind : Kind) → IsHeldKind kind → (e : Evidence) (p : Plan) (h : ℕ) (s0 s1 : List Deed) (call : Call) (answer : Answer) → Served kind p h s0 s1 call answer → Besides e p h s0 s1 call answer kind
besides_of Listed held e p h s0 s1 call answer s = absurd held
besides_of Sorted held e p h s0 s1 (CallPut slip load) (IsSpent back) s = absurd (s.means)
besides_of LastValue held e p h s0 s1 (CallPut slip load) (IsSpent back) s = absurd (s.means)
besides_of Sorted held e p h s0 s1 call answer s = s
besides_of LastValue held e p h s0 s1 call answer s = s

spent_of : (kind : Kind) → IsHeldKind kind → (e : Evidence) (p : Plan) (h : ℕ) (s0 s1 : List Deed) (slip : Slip) (load : Load) → Besides e p h s0 s1 (CallPut slip load) (IsSpent load) kind
spent_of Listed held e p h s0 s1 slip load = absurd held
spent_of Sorted held e p h s0 s1 slip load = refl
spent_of LastValue held e p h s0 s1 slip load = refl

-- a view that has seen more of the same history
pub sits_on : (v w : View Outset Deed) → w.opening ≡ v.opening → ((c : ℕ) → Mem c w.consumers → c < (outset_in v).opening.consumers) → IsHistory (outset_in v) w.seen → Sits v → Sits w
sits_on v w same few history s =
    let out : outset_in v ≡ outset_in w = ap Rattle.held_table.specs.Views.outset_or (sym same) in record {
      opening = subst (λ (o : Outset). IsOpening o.opening) out s.opening;
      lists = subst (λ (o : Outset). o.opening.lists ≡ 1) out s.lists;
      few = subst (λ (o : Outset). o.opening.consumers ≤ 64) out s.few;
      history = subst (λ (o : Outset). IsHistory o w.seen) out history;
      consumers = λ c m. subst (λ (o : Outset). c < o.opening.consumers) out (few c m);
    }

module _ {Q : Type 0} (keeps : Q → Kept) (kind : Kind) (held : IsHeldKind kind) (rows : ℕ) (h : ℕ) (v w : View Outset Deed) (is : v.callers ≡ h ∷ rest_of v.callers) (sits : Sits v) where
  abbrev build : Build
  build = record { kind = kind; bells = false; rows = rows }

  abbrev p : Plan
  p = plan_of build (outset_in v).opening

  has : Has h v.callers
  has = subst (Has h) (sym is) (inl refl)

  module _ (call : Call) (answer : Answer) (asks : Asks (sight_by h v) call) (t : Turned keeps kind (outset_in v) h v w call answer) where
    abbrev ds : List Deed
    ds = deeds_of h (held_acts call answer)

    acts : deeds_of h (acts_of p call answer) ≡ deeds_of h (held_acts call answer)
    acts = ap (deeds_of h) (acts_same p refl call answer)

    own_more : own h w.seen ≡ own h v.seen ++ deeds_of h (acts_of p call answer)
    own_more =
        ap (own h) t.seen ∙ own-append h t.before ds
        ∙ (λ i. t.later.same h has i ++ (all_mine h (held_acts call answer) ∙ sym acts) i)

    shared : Shares answer v.share × (share_after call answer v.share ≡ v.share - rows_of_call call)
    shared = shares_of kind (after (outset_in v).opening t.before) h call answer v.share (may_draw h v call asks) t.means

    served : Served kind p h v.seen w.seen call answer
    served = record {
      moment = t.before;
      before = record { later = t.later.prefix; whole = ap (λ (l : List Deed). t.before ++ l) acts ∙ sym t.seen };
      means = t.means;
    }

    pub called_turn : Called (record { kind = kind; bells = false; rows = rows }) (sight_by h v) (sight_by h w) call answer
    called_turn = record {
      added = [];
      meets = record {
        grows = prefix_trans v.seen t.before w.seen t.later.prefix (ds, sym t.seen);
        legal = t.history.legal;
        own_acts = own_more;
        besides = besides_of kind held (Showed []) p h v.seen w.seen call answer served;
      };
      shares = shared.0;
      takes = λ c m. t.history.quiet c ∙ (λ i. sym (sits.history.quiet c) i ++ (sym (acts_quiet h c call answer) ∙ ap (taken_any c) (sym acts)) i);
      ended = λ k m off. ap (own k) t.seen ∙ own-append k t.before ds ∙ ap (λ (l : List Deed). own k t.before ++ l) (not_mine h k (held_acts call answer) off) ∙ append-nil (own k t.before) ∙ t.later.same k (ended_has k h v.callers is m);
      rest = λ i. record {
        opening = (outset_in (t.view i)).opening;
        caller = h;
        consumers = (t.view i).consumers;
        allowance = (t.view i).allowance;
        share = (ap (λ (x : View Outset Deed). x.share) t.view ∙ sym shared.1) i;
        ended = rest_of (t.view i).callers;
        made = (t.view i).made;
        seen = w.seen;
        shown = [];
        turns = (ap (λ (x : View Outset Deed). x.turns) t.view ∙ sym (turns_held kind held v.turns)) i;
      };
    }

    pub sits_turn : Sits w
    sits_turn = sits_on v w (ap (λ (x : View Outset Deed). x.opening) t.view) (λ c m. sits.consumers c (subst (Mem c) (ap (λ (x : View Outset Deed). x.consumers) t.view) m)) t.history sits

  module _ (t : Passed keeps (outset_in v) v w) where
    pub called_spent : (slip : Slip) (load : Load) → v.share ≡ 0 → Called (record { kind = kind; bells = false; rows = rows }) (sight_by h v) (sight_by h w) (CallPut slip load) (IsSpent load)
    called_spent slip load empty = record {
      added = [];
      meets = record {
        grows = t.later.prefix;
        legal = t.history.legal;
        own_acts = t.later.same h has ∙ sym (append-nil (own h v.seen));
        besides = spent_of kind held (Showed []) p h v.seen w.seen slip load;
      };
      shares = empty;
      takes = λ c m. t.history.quiet c ∙ (λ i. sym (sits.history.quiet c) i ++ []);
      ended = λ k m off. t.later.same k (ended_has k h v.callers is m);
      rest = λ i. record {
        opening = (outset_in (t.view i)).opening;
        caller = h;
        consumers = (t.view i).consumers;
        allowance = (t.view i).allowance;
        share = (t.view i).share;
        ended = rest_of (t.view i).callers;
        made = (t.view i).made;
        seen = w.seen;
        shown = [];
        turns = (ap (λ (x : View Outset Deed). x.turns) t.view ∙ sym (turns_held kind held v.turns)) i;
      };
    }

    pub sits_passed : Sits w
    sits_passed = sits_on v w (ap (λ (x : View Outset Deed). x.opening) t.view) (λ c m. sits.consumers c (subst (Mem c) (ap (λ (x : View Outset Deed). x.consumers) t.view) m)) t.history sits
