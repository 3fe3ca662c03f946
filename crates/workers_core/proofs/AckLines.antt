-- lines that take an entry out of the hands
use Rattle.std.proofs.Common.{◌≡◌, ℕ, suc, false, nat_eq, Option, Some, None, List, [], ◌∷◌, ◌++◌, refl, sym, ap, ◌∙◌, subst, eq-eqb, ne_eqb, append-nil, arith}
use Rattle.queue_model.specs.declared.rows.RowState.{RowState}
use Rattle.acts_core.specs.Calls.{Call, CallDepth, CallLock, CallRelease, CallDequeue, CallDelete, Answer, IsDepth, IsStolen, IsReleased, IsOutdated, IsFreed, IsDone}
use Rattle.queue_model.specs.declared.rows.RowState.TheVariants.{Locked}
use Rattle.queue_model.specs.History.{after}
use Rattle.queue_model.specs.State.{IsIn, depth}
use Rattle.acts_core.specs.Hands.{InHand}
use Rattle.acts_core.specs.Load.{Load}
use Rattle.acts_core.specs.Meaning.{Besides, Called}
use Rattle.acts_core.specs.Sight.{Build, Kind, LastValue, Listed, Showed, Sight, Sorted, known, plan_of}
use Rattle.script_read.specs.declared.lines.What.TheVariants.{Ack, Release}
use Rattle.report_core.specs.declared.answers.Answer.TheVariants.{Acked, Outdated, Released, Stolen}
use Rattle.line_core.specs.Fits.{Did, On, lock_first, cargo_of, drop}
use Rattle.line_core.specs.Hands.{Hand, hand, meant, lost}
use Rattle.workers_core.specs.Hold.{Keeps, Mine}
use Rattle.workers_core.specs.Lines.{DidHands, LocksIt, LosesIt}
use Rattle.line_core.specs.Runs.{calls_on}
use Rattle.workers_core.proofs.Calls.{keeps_call, keeps_then}
use Rattle.line_core.proofs.LineLists.{calls_append}
use Rattle.line_core.proofs.Running.{ran_append, ran_call}

off : (r q : ℕ) → (r ≡ q → ⊥) → nat_eq q r ≡ false
off r q apart = ne_eqb q r (λ e. apart (sym e))

off_lock : (r q e id : ℕ) (cargo : Option Load) (got : Load) → (r ≡ q → ⊥) → calls_on r (lock_first (hand q e id cargo) got) ≡ []
off_lock r q e id None got apart = rw (off r q apart) refl
off_lock r q e id (Some l) got apart = refl

pub ack_keeps : (build : Build) (a b c d : Sight) (r size : ℕ) → Keeps a b r → Called build b c (CallDequeue r) (IsFreed size) → Called build c d (CallDelete r) IsDone → Keeps a d r
ack_keeps build a b c d r size locks deq del =
    keeps_then a b d r locks (keeps_then b c d r (keeps_call build b c (CallDequeue r) (IsFreed size) deq r refl) (keeps_call build c d (CallDelete r) IsDone del r refl))

pub acked : (build : Build) (a b c d : Sight) (q : ℕ) (named : Option ℕ) (hands : List Hand) (r id size : ℕ) (cargo : Option Load) (load : Load)
    → meant q named hands ≡ Some (hand q r id cargo) → LocksIt build q r id cargo load a b → Called build b c (CallDequeue r) (IsFreed size) → Called build c d (CallDelete r) IsDone
    → DidHands build q a hands (Ack q named) (Acked id) d (lost (hand q r id cargo) hands)
acked build a b c d q named hands r id size cargo load is_meant locks deq del defs s same =
    let k : Hand = hand q r id cargo in
    let first = lock_first k locks.got in
    let pairs : List (Call × Answer) = (CallDequeue r, IsFreed size) ∷ (CallDelete r, IsDone) ∷ [] in
    let dropped : calls_on q (drop q r size) ≡ pairs = rw (eq-eqb q q refl) refl in
    record {
      dids = first ++ drop q r size;
      fits = record {
        hand = k;
        is_meant = ap (meant q named) same ∙ is_meant;
        fact = record {
          same_id = refl;
          load = locks.got;
          size = size;
          does = record { did = refl; leaves = ap (λ (hs : List Hand). record s { hands = lost k hs }) (sym same) };
        };
      };
      here = rw (calls_append q first (drop q r size)) (rw dropped
          (ran_append build (calls_on q first) pairs a b d locks.ran
          (ran_append build ((CallDequeue r, IsFreed size) ∷ []) ((CallDelete r, IsDone) ∷ []) b c d
          (ran_call build b c (CallDequeue r) (IsFreed size) deq) (ran_call build c d (CallDelete r) IsDone del))));
      elsewhere = λ e apart. calls_append e first (drop q r size) ∙ ap (λ (xs : List (Call × Answer)). xs ++ calls_on e (drop q r size)) (off_lock e q r id cargo locks.got apart) ∙ rw (off e q apart) refl;
    }

-- somebody took the entry
pub taken_ack : (build : Build) (a b : Sight) (q : ℕ) (named : Option ℕ) (hands : List Hand) (r id : ℕ) (cargo : Option Load) (state : RowState)
    → meant q named hands ≡ Some (hand q r id cargo) → LosesIt build q r cargo state a b
    → DidHands build q a hands (Ack q named) (Stolen state) b (lost (hand q r id cargo) hands)
taken_ack build a b q named hands r id cargo state is_meant loses defs s same =
    let k : Hand = hand q r id cargo in
    record {
      dids = On q (CallLock r) (IsStolen state) ∷ [];
      fits = record { hand = k; is_meant = ap (meant q named) same ∙ is_meant; fact = (loses.unlocked, record { did = refl; leaves = ap (λ (hs : List Hand). record s { hands = lost k hs }) (sym same) }) };
      here = rw (eq-eqb q q refl) loses.ran;
      elsewhere = λ e apart. rw (off e q apart) refl;
    }

pub taken_release : (build : Build) (a b : Sight) (q : ℕ) (named : Option ℕ) (hands : List Hand) (r id : ℕ) (cargo : Option Load) (state : RowState)
    → meant q named hands ≡ Some (hand q r id cargo) → LosesIt build q r cargo state a b
    → DidHands build q a hands (Release q named) (Stolen state) b (lost (hand q r id cargo) hands)
taken_release build a b q named hands r id cargo state is_meant loses defs s same =
    let k : Hand = hand q r id cargo in
    record {
      dids = On q (CallLock r) (IsStolen state) ∷ [];
      fits = record { hand = k; is_meant = ap (meant q named) same ∙ is_meant; fact = (loses.unlocked, record { did = refl; leaves = ap (λ (hs : List Hand). record s { hands = lost k hs }) (sym same) }) };
      here = rw (eq-eqb q q refl) loses.ran;
      elsewhere = λ e apart. rw (off e q apart) refl;
    }

pub release_keeps : (build : Build) (a b c : Sight) (r : ℕ) (load : Load) (answer : Answer) → Keeps a b r → Called build b c (CallRelease r load) answer → Keeps a c r
release_keeps build a b c r load answer locks rel = keeps_then a b c r locks (keeps_call build b c (CallRelease r load) answer rel r refl)

pub freed : (build : Build) (a b c : Sight) (q : ℕ) (named : Option ℕ) (hands : List Hand) (r id mask : ℕ) (cargo : Option Load) (load : Load)
    → meant q named hands ≡ Some (hand q r id cargo) → LocksIt build q r id cargo load a b → Called build b c (CallRelease r load) (IsReleased mask)
    → DidHands build q a hands (Release q named) (Released id) c (lost (hand q r id cargo) hands)
freed build a b c q named hands r id mask cargo load is_meant locks rel defs s same =
    let k : Hand = hand q r id cargo in
    let first = lock_first k locks.got in
    let pairs : List (Call × Answer) = (CallRelease r (cargo_of k locks.got), IsReleased mask) ∷ [] in
    let last : List Did = On q (CallRelease r (cargo_of k locks.got)) (IsReleased mask) ∷ [] in
    let dropped : calls_on q last ≡ pairs = rw (eq-eqb q q refl) refl in
    record {
      dids = first ++ last;
      fits = record {
        hand = k;
        is_meant = ap (meant q named) same ∙ is_meant;
        fact = record {
          same_id = refl;
          load = locks.got;
          mask = mask;
          does = record { did = refl; leaves = ap (λ (hs : List Hand). record s { hands = lost k hs }) (sym same) };
        };
      };
      here = rw (calls_append q first last) (rw dropped
          (ran_append build (calls_on q first) pairs a b c locks.ran
          (ran_call build b c (CallRelease r (cargo_of k locks.got)) (IsReleased mask) (subst (λ (l : Load). Called build b c (CallRelease r l) (IsReleased mask)) locks.is_load rel))));
      elsewhere = λ e apart. calls_append e first last ∙ ap (λ (xs : List (Call × Answer)). xs ++ calls_on e last) (off_lock e q r id cargo locks.got apart) ∙ rw (off e q apart) refl;
    }

-- Releases that are outdated

-- only on a last-value queue a release is outdated, and the cargo comes back
outdated_load : (build : Build) (b c : Sight) (r : ℕ) (load back : Load) → Called build b c (CallRelease r load) (IsOutdated back) → (build.kind ≡ LastValue) × (back ≡ load)
outdated_load build b c r load back m = by_kind build.kind m.meets.besides where
  by_kind : (k : Kind) → Besides (Showed m.added) (plan_of build b.opening) b.caller b.seen c.seen (CallRelease r load) (IsOutdated back) k → (k ≡ LastValue) × (back ≡ load)
  by_kind Listed x = absurd x
  by_kind Sorted x = absurd x.means
  by_kind LastValue x = (refl, x.means.0)

-- it does nothing, as a look at the depth
as_look : (build : Build) (b c : Sight) (r : ℕ) (load back : Load) → build.kind ≡ LastValue → Called build b c (CallRelease r load) (IsOutdated back) → Called build b c CallDepth (IsDepth (depth (after b.opening c.seen)))
as_look build b c r load back kind m = record {
  added = m.added;
  meets = record {
    grows = m.meets.grows;
    legal = m.meets.legal;
    own_acts = m.meets.own_acts;
    besides = subst (λ (k : Kind). Besides (Showed m.added) (plan_of build b.opening) b.caller b.seen c.seen CallDepth (IsDepth (depth (after b.opening c.seen))) k) (sym kind)
        (record { moment = c.seen; before = record { later = m.meets.grows; whole = append-nil c.seen }; means = refl });
  };
  shares = tt;
  takes = m.takes;
  ended = m.ended;
  rest = m.rest;
}

-- so the entry stays locked, and all others stay
pub outdated_keeps : (build : Build) (b c : Sight) (r : ℕ) (load back : Load) → Called build b c (CallRelease r load) (IsOutdated back) → (e : ℕ) → Keeps b c e
outdated_keeps build b c r load back m e = keeps_call build b c CallDepth (IsDepth (depth (after b.opening c.seen))) (as_look build b c r load back (outdated_load build b c r load back m).0 m) e tt

pub outdated_mine : (build : Build) (b c : Sight) (q r id : ℕ) (load back : Load) → Called build b c (CallRelease r load) (IsOutdated back) → Mine b (hand q r id (Some load)) → Mine c (hand q r id (Some load))
outdated_mine build b c q r id load back m mine = outdated_keeps build b c r load back m (suc r) (hand q r id (Some load)) (λ e. omega (arith, e)) mine

pub outdated_locked : (build : Build) (b c : Sight) (q r id : ℕ) (load back : Load) → Called build b c (CallRelease r load) (IsOutdated back) → Mine b (hand q r id (Some load)) → IsIn (known c) r (Locked c.caller)
outdated_locked build b c q r id load back m mine =
    let stands : InHand c r (Some load) = (outdated_mine build b c q r id load back m mine).stands in
    (stands.row, stands.found, stands.held)

pub outdated_all : (build : Build) (a b c d e : Sight) (r size : ℕ) (load back : Load) → Keeps a b r → Called build b c (CallRelease r load) (IsOutdated back) → Called build c d (CallDequeue r) (IsFreed size) → Called build d e (CallDelete r) IsDone → Keeps a e r
outdated_all build a b c d e r size load back locks rel deq del = keeps_then a b e r locks (ack_keeps build b c d e r size (outdated_keeps build b c r load back rel r) deq del)

pub outdated : (build : Build) (a b c d e : Sight) (q : ℕ) (named : Option ℕ) (hands : List Hand) (r id size : ℕ) (cargo : Option Load) (load back : Load)
    → meant q named hands ≡ Some (hand q r id cargo) → LocksIt build q r id cargo load a b → Called build b c (CallRelease r load) (IsOutdated back) → Called build c d (CallDequeue r) (IsFreed size) → Called build d e (CallDelete r) IsDone
    → DidHands build q a hands (Release q named) (Outdated id) e (lost (hand q r id cargo) hands)
outdated build a b c d e q named hands r id size cargo load back is_meant locks rel deq del defs s same =
    let k : Hand = hand q r id cargo in
    let first = lock_first k locks.got in
    let l : Load = cargo_of k locks.got in
    let is_back : back ≡ load = (outdated_load build b c r load back rel).1 in
    let told : Called build b c (CallRelease r load) (IsOutdated load) = subst (λ (x : Load). Called build b c (CallRelease r load) (IsOutdated x)) is_back rel in
    let now : Called build b c (CallRelease r l) (IsOutdated l) = subst (λ (x : Load). Called build b c (CallRelease r x) (IsOutdated x)) locks.is_load told in
    let pairs : List (Call × Answer) = (CallRelease r l, IsOutdated l) ∷ (CallDequeue r, IsFreed size) ∷ (CallDelete r, IsDone) ∷ [] in
    let last : List Did = On q (CallRelease r l) (IsOutdated l) ∷ drop q r size in
    let three : calls_on q last ≡ pairs = rw (eq-eqb q q refl) refl in
    record {
      dids = first ++ last;
      fits = record {
        hand = k;
        is_meant = ap (meant q named) same ∙ is_meant;
        fact = record {
          same_id = refl;
          load = locks.got;
          size = size;
          does = record { did = refl; leaves = ap (λ (hs : List Hand). record s { hands = lost k hs }) (sym same) };
        };
      };
      here = rw (calls_append q first last) (rw three
          (ran_append build (calls_on q first) pairs a b e locks.ran
          (ran_append build ((CallRelease r l, IsOutdated l) ∷ []) ((CallDequeue r, IsFreed size) ∷ (CallDelete r, IsDone) ∷ []) b c e (ran_call build b c (CallRelease r l) (IsOutdated l) now)
          (ran_append build ((CallDequeue r, IsFreed size) ∷ []) ((CallDelete r, IsDone) ∷ []) c d e (ran_call build c d (CallDequeue r) (IsFreed size) deq) (ran_call build d e (CallDelete r) IsDone del)))));
      elsewhere = λ n apart. calls_append n first last ∙ ap (λ (xs : List (Call × Answer)). xs ++ calls_on n last) (off_lock n q r id cargo locks.got apart) ∙ rw (off n q apart) refl;
    }
