-- a put by the limits of its queue
use Rattle.std.proofs.Common.{◌≡◌, ◌≤◌, ◌<◌, ◌+◌, ◌-◌, ◌^◌, ℕ, Bool, inl, inr, true, false, cond, nat_eq, Option, Some, None, List, [], ◌∷◌, ◌++◌, length, map, slice_get, slice_set, refl, sym, ap, ap₂, ◌∙◌, subst, eq-eqb, ne_eqb, arith}
use Rattle.std.specs.Prelude.{get_or, is_some}
use Rattle.std.specs.Option.{option_map}
use Rattle.std.proofs.lemmas.List.{length-append}
use Rattle.std.proofs.lemmas.Option.{slice_get-map, slice_get_read, slice_get_within}
use Rattle.queue_model.specs.declared.queues.Depth.{Depth}
use Rattle.queue_model.specs.declared.queues.Limits.{Limits}
use Rattle.queue_model.specs.declared.queues.Policy.{Policy}
use Rattle.queue_model.specs.declared.queues.Policy.TheVariants as policy
use Rattle.queue_model.specs.declared.rows.Slip.{Slip}
use Rattle.queue_model.specs.Sound.{IsOpening}
use Rattle.queue_model.specs.Table.{FitsQueue}
use Rattle.acts_core.specs.Asked.{KeyFits, MayPut}
use Rattle.acts_core.specs.Calls.{Call, CallDelete, CallDepth, CallDequeue, CallGiveBack, CallOldest, CallPut, CallReserve, Answer, IsAt, IsDepth, IsDone, IsEmpty, IsFreed, IsGot}
use Rattle.acts_core.specs.Load.{Load}
use Rattle.acts_core.specs.Meaning.{Besides, Called}
use Rattle.acts_core.specs.Sight.{Build, Kind, LastValue, Listed, Showed, Sight, Sorted, known, plan_of}
use Rattle.acts_core.proofs.Running as running
use Rattle.acts_core.proofs.Running.{lists_stay}
use Rattle.defs_read.specs.Defined.{Defined, defined, queues_in}
use Rattle.defs_read.specs.declared.defs.Defs.{Defs}
use Rattle.defs_read.specs.declared.defs.QueueDef.{QueueDef}
use Rattle.defs_read.specs.Slips.{IsSlip, key_of}
use Rattle.defs_read.specs.declared.defs.QueueKind.{QueueKind}
use Rattle.defs_read.specs.declared.defs.QueueKind.TheVariants as asked
use Rattle.message_core.specs.Spelling.{Content, content, front}
use Rattle.std.specs.Int.{to_be_bytes, w32}
use Rattle.txn_core.specs.Shown as shows
use Rattle.overflow_core.specs.Calls.{Admits}
use Rattle.overflow_core.specs.Limits.{flow_of, is_ring, judged, judged_by}
use Rattle.overflow_core.specs.declared.verdicts.Verdict.{Verdict}
use Rattle.overflow_core.specs.declared.verdicts.Verdict.TheVariants as verdict
use Rattle.script_read.specs.declared.lines.What.TheVariants.{Put}
use Rattle.report_core.specs.declared.answers.Answer as report
use Rattle.report_core.specs.declared.answers.Answer.TheVariants.{Accepted, Blocked, Rejected}
use Rattle.report_core.specs.declared.answers.Dropped.{Dropped}
use Rattle.line_core.specs.Fits as fit
use Rattle.line_core.specs.Fits.{Did, DropsOldest, DropsOlder, LineFits, On, Standing, TrimsRing, drop, fresh, let_go, span_of}
use Rattle.line_core.specs.Hands.{Hand, hand}
use Rattle.line_core.specs.Places.{kind_of}
use Rattle.line_core.specs.Runs.{DidOn, RanOn, calls_on}
use Rattle.line_core.proofs.LineLists.{calls_append}
use Rattle.line_core.proofs.Running.{ran_append, ran_call}
use Rattle.workers_core.specs.Drops.{HasRoom, IsServedPolicy, displaced_by, droppable, left_to}
use Rattle.workers_core.specs.Hold.{Hold, HoldsAlso}
use Rattle.workers_core.specs.Lines.{Drops, Enters, EntersWith}
use Rattle.workers_core.proofs.Calls.{gains_mine, keeps_call}
use Rattle.workers_core.proofs.Deletions.{left_call}
use Rattle.workers_core.proofs.Dropping.{drops_then}
use Rattle.workers_core.proofs.Holds.{hold_gained, hold_same}
use Rattle.workers_core.proofs.OneJob.{map_length}

-- what was reserved may be put
pub put_may : (build : Build) (a b : Sight) (slip : Slip) (load : Load) (d : Depth) → IsOpening a.opening → FitsQueue a.opening.lists a.opening.consumers slip → KeyFits build.kind slip.key → (slip.id ≡ load.id) × (slip.size ≡ load.size)
    → Called build a b (CallReserve slip.size) (IsDepth d) → MayPut build.kind (known b) b.caller slip load
put_may build a b slip load d opening fits key same m =
    let stay = lists_stay a.opening a.seen in
    let now : FitsQueue (known a).lists (known a).consumers slip = subst (λ (n : ℕ). FitsQueue n (known a).consumers slip) (sym stay.0) (subst (λ (n : ℕ). FitsQueue a.opening.lists n slip) (sym stay.1) fits) in
    running.put_may build a b slip load d opening m now key same.0 same.1

-- Entering

-- the hands after a put, and what it displaced
pub put_also : (build : Build) (a b : Sight) (q row : ℕ) (slip : Slip) (load : Load) (displaced : Option (ℕ × Load)) (hands : List Hand) → Called build a b (CallPut slip load) (IsAt row displaced) → Hold a q hands → HoldsAlso b q displaced hands
put_also build a b q row slip load None hands m hold = hold_same a b q hands (λ r. keeps_call build a b (CallPut slip load) (IsAt row None) m r tt) hold
put_also build a b q row slip load (Some d) hands m hold =
    let k : Hand = hand q d.0 d.1.id (Some d.1) in (
      hold_gained build a b (CallPut slip load) (IsAt row (Some d)) q k hands m hold refl
          (gains_mine build a b (CallPut slip load) (IsAt row (Some d)) m q d.0 d.1 d.1.count refl (omega arith)) (keeps_call build a b (CallPut slip load) (IsAt row (Some d)) m d.0 refl),
      hold.apart,
    )

-- only on a last-value queue something is displaced
displaced_last : (build : Build) (a b : Sight) (slip : Slip) (load : Load) (row : ℕ) (d : ℕ × Load) → Called build a b (CallPut slip load) (IsAt row (Some d)) → displaced_by build.kind ≡ 1
displaced_last build a b slip load row d m = by_kind build.kind m.meets.besides where
  by_kind : (k : Kind) → Besides (Showed m.added) (plan_of build a.opening) a.caller a.seen b.seen (CallPut slip load) (IsAt row (Some d)) k → displaced_by k ≡ 1
  by_kind Listed x = absurd (let bad : Some d ≡ None = x in cc)
  by_kind Sorted x = absurd (let bad : Some d ≡ None = x.means in cc)
  by_kind LastValue x = refl

some_mapped : {A B : Type 0} (f : A → B) (o : Option A) → is_some o ≡ true → is_some (option_map f o) ≡ true
some_mapped f None some = absurd (cc)
some_mapped f (Some x) some = refl

-- there is room for what was displaced
pub room_older : {C : Type 0} (f : C → ℕ × Load) (o : Option C) (limits : Limits) (build : Build) (a b : Sight) (slip : Slip) (load : Load) (row n cap : ℕ)
    → Called build a b (CallPut slip load) (IsAt row (option_map f o)) → HasRoom (droppable limits build a) n cap → is_some o ≡ true → 0 < left_to build b → n < cap
room_older f None limits build a b slip load row n cap m room some left = absurd (cc)
room_older f (Some x) limits build a b slip load row n cap m room some left = by_ring (is_ring limits) room.within where
  by_ring : (r : Bool) → n + cond r (left_to build a) (displaced_by build.kind) ≤ cap → n < cap
  by_ring true fits = omega (arith, fits, left, left_call build a b (CallPut slip load) (IsAt row (Some (f x))) m)
  by_ring false fits = omega (arith, fits, displaced_last build a b slip load row (f x) m)

-- what was displaced is at most one entry
older_few : {C : Type 0} (f : C → ℕ × Load) (o : Option C) (build : Build) (a b : Sight) (slip : Slip) (load : Load) (row q : ℕ) (own : List Dropped) (dids : List Did)
    → Called build a b (CallPut slip load) (IsAt row (option_map f o)) → DropsOlder q (option_map f o) own dids → length own ≤ displaced_by build.kind
older_few f None build a b slip load row q own dids m drops = let none : length own ≡ 0 = ap length drops.0 in omega (arith, none)
older_few f (Some x) build a b slip load row q own dids m drops =
    let one : length own ≡ 1 = ap length drops.1 in
    omega (arith, one, displaced_last build a b slip load row (f x) m)

module _ {C : Type 0} (f : C → ℕ × Load) (o : Option C) (limits : Limits) (build : Build) (q : ℕ) (a b c d : Sight) (slip : Slip) (load : Load) (row : ℕ) (hs is ks : List Hand) (xs ys zs : List Dropped)
    (put : Called build a b (CallPut slip load) (IsAt row (option_map f o)))
    (older : Drops (DropsOlder q (option_map f o)) build q b hs xs c is ys)
    (oldest : Drops (TrimsRing (is_ring limits) limits q) build q c is ys d ks zs)
  where
    first_more : length ys ≡ length xs + length older.own
    first_more = ap length older.named ∙ length-append xs older.own

    then_more : length zs ≡ length ys + length oldest.own
    then_more = ap length oldest.named ∙ length-append ys oldest.own

    stays : left_to build b ≤ left_to build a
    stays = left_call build a b (CallPut slip load) (IsAt row (option_map f o)) put

    -- what was dropped is no more than there is room for
    pub enter_left : length zs + left_to build d ≤ length xs + left_to build a
    enter_left = omega (arith, first_more, then_more, older.fewer, oldest.fewer, stays)

    pub enter_few : is_ring limits ≡ false → length zs ≤ length xs + displaced_by build.kind
    enter_few plain =
        let none : (oldest.own ≡ []) × (oldest.dids ≡ []) = subst (λ (r : Bool). TrimsRing r limits q oldest.own oldest.dids) plain oldest.fact in
        let zero : length oldest.own ≡ 0 = ap length none.0 in
        omega (arith, first_more, then_more, zero, older_few f o build a b slip load row q older.own older.dids put older.fact)

    pub enter_numbered : (n cap : ℕ) → n ≡ length xs → HasRoom (droppable limits build a) n cap → length zs < 2 ^ 32
    enter_numbered n cap same room = by_ring (is_ring limits) refl room.numbered where
      by_ring : (r : Bool) → is_ring limits ≡ r → n + cond r (left_to build a) (displaced_by build.kind) < 2 ^ 32 → length zs < 2 ^ 32
      by_ring true is few = omega (arith, few, enter_left, same)
      by_ring false is few = omega (arith, few, enter_few is, same)

    abbrev Behind : List Dropped → List Did → Type 0
    Behind own dids = Enters limits q slip load own (On q (CallPut slip load) (IsAt row (option_map f o)) ∷ dids)

    abbrev both : Drops Behind build q b hs xs d ks zs
    both = drops_then (DropsOlder q (option_map f o)) (TrimsRing (is_ring limits) limits q) Behind build q b c d hs is ks xs ys zs
        (λ o1 o2 d1 d2 x y. record { row = row; displaced = option_map f o; older = o1; older_dids = d1; drops_older = x; oldest = o2; oldest_dids = d2; trims = y; all = refl; did = refl }) older oldest

    abbrev entered : Drops (Enters limits q slip load) build q a hs xs d ks zs
    entered = record {
      own = both.own;
      dids = On q (CallPut slip load) (IsAt row (option_map f o)) ∷ both.dids;
      fact = both.fact;
      ran = rw (eq-eqb q q refl) (ran_append build ((CallPut slip load, IsAt row (option_map f o)) ∷ []) (calls_on q both.dids) a b d (ran_call build a b (CallPut slip load) (IsAt row (option_map f o)) put) both.ran);
      named = both.named;
      gone = both.gone;
      fewer = omega (arith, both.fewer, stays);
    }

    pub entered_with : (answer : report.Answer) (from to : ℕ) → from ≡ length xs → to ≡ length zs → answer ≡ Accepted slip.id false (record { from = from; to = to }) → EntersWith limits slip load build q a hs xs d ks zs answer
    entered_with answer from to at until is = record {
      does = entered;
      answer = is ∙ ap₂ (λ (i j : ℕ). Accepted slip.id false (record { from = i; to = j })) at (until ∙ ap length both.named ∙ length-append xs both.own);
    }

-- Calls on other queues

off : (r q : ℕ) → (r ≡ q → ⊥) → nat_eq q r ≡ false
off r q apart = ne_eqb q r (λ e. apart (sym e))

off_one : (r q : ℕ) (call : Call) (answer : Answer) (dids : List Did) → (r ≡ q → ⊥) → calls_on r dids ≡ [] → calls_on r (On q call answer ∷ dids) ≡ []
off_one r q call answer dids apart rest = rw (off r q apart) rest

off_both : (r : ℕ) (xs ys : List Did) → calls_on r xs ≡ [] → calls_on r ys ≡ [] → calls_on r (xs ++ ys) ≡ []
off_both r xs ys first second = calls_append r xs ys ∙ ap₂ (λ (l m : List (Call × Answer)). l ++ m) first second

off_drop : (r q e size : ℕ) → (r ≡ q → ⊥) → calls_on r (drop q e size) ≡ []
off_drop r q e size apart = off_one r q (CallDequeue e) (IsFreed size) (On q (CallDelete e) IsDone ∷ []) apart (off_one r q (CallDelete e) IsDone [] apart refl)

off_older : (r q : ℕ) (o : Option (ℕ × Load)) (own : List Dropped) (dids : List Did) → (r ≡ q → ⊥) → DropsOlder q o own dids → calls_on r dids ≡ []
off_older r q None own dids apart drops = ap (calls_on r) drops.1
off_older r q (Some d) own dids apart drops = ap (calls_on r) drops.2 ∙ off_drop r q d.0 drops.0 apart

off_trims : (r q : ℕ) (limits : Limits) (own : List Dropped) (dids : List Did) → (r ≡ q → ⊥) → fit.Trims limits q own dids → calls_on r dids ≡ []
off_trims r q limits [] dids apart (depth, inl (within, did)) = ap (calls_on r) did ∙ off_one r q CallDepth (IsDepth depth) [] apart refl
off_trims r q limits [] dids apart (depth, inr (beyond, did)) = ap (calls_on r) did ∙ off_one r q CallDepth (IsDepth depth) (On q CallOldest IsEmpty ∷ []) apart (off_one r q CallOldest IsEmpty [] apart refl)
off_trims r q limits (x ∷ own) dids apart trims =
    let one : DropsOldest limits q x trims.0 = trims.2 in
    let first : calls_on r trims.0 ≡ [] =
    ap (calls_on r) one.did
    ∙ off_one r q CallDepth (IsDepth one.depth) (On q CallOldest (IsGot one.row one.list one.load) ∷ drop q one.row one.size) apart
    (off_one r q CallOldest (IsGot one.row one.list one.load) (drop q one.row one.size) apart (off_drop r q one.row one.size apart)) in
    ap (calls_on r) trims.4 ∙ off_both r trims.0 trims.1 first (off_trims r q limits own trims.1 apart trims.3)

off_ring : (r q : ℕ) (limits : Limits) (ring : Bool) (own : List Dropped) (dids : List Did) → (r ≡ q → ⊥) → TrimsRing ring limits q own dids → calls_on r dids ≡ []
off_ring r q limits true own dids apart trims = off_trims r q limits own dids apart trims
off_ring r q limits false own dids apart trims = ap (calls_on r) trims.1

off_enters : (r q : ℕ) (limits : Limits) (slip : Slip) (load : Load) (own : List Dropped) (dids : List Did) → (r ≡ q → ⊥) → Enters limits q slip load own dids → calls_on r dids ≡ []
off_enters r q limits slip load own dids apart e =
    ap (calls_on r) e.did
    ∙ off_one r q (CallPut slip load) (IsAt e.row e.displaced) (e.older_dids ++ e.oldest_dids) apart (off_both r e.older_dids e.oldest_dids (off_older r q e.displaced e.older e.older_dids apart e.drops_older) (off_ring r q limits (is_ring limits) e.oldest e.oldest_dids apart e.trims))

-- Lines

-- a put whose queue serves its policy never flows
pub never_flows : (limits : Limits) (was now persistent : Bool) (size : ℕ) (d : Depth) → IsServedPolicy limits.policy → (verdict.Flowed, now) ≡ judged limits was persistent size d → ⊥
never_flows limits was now persistent size d serves is = by_policy limits.policy _ _ serves is where
  by_flow : (s f o : Bool) → (verdict.Flowed, now) ≡ flow_of s f o d → ⊥
  by_flow true true o e = let bad : verdict.Flowed ≡ verdict.Blocked d = ap (λ (p : Verdict × Bool). p.0) e in cc
  by_flow true false true e = let bad : verdict.Flowed ≡ verdict.Blocked d = ap (λ (p : Verdict × Bool). p.0) e in cc
  by_flow false f true e = let bad : verdict.Flowed ≡ verdict.Blocked d = ap (λ (p : Verdict × Bool). p.0) e in cc
  by_flow true false false e = let bad : verdict.Flowed ≡ verdict.Admitted = ap (λ (p : Verdict × Bool). p.0) e in cc
  by_flow false f false e = let bad : verdict.Flowed ≡ verdict.Admitted = ap (λ (p : Verdict × Bool). p.0) e in cc

  by_policy : (p : Policy) (over full : Bool) → IsServedPolicy p → (verdict.Flowed, now) ≡ judged_by p over full was persistent d → ⊥
  by_policy policy.None over full s e = let bad : verdict.Flowed ≡ verdict.Admitted = ap (λ (p : Verdict × Bool). p.0) e in cc
  by_policy policy.Ring over full s e = let bad : verdict.Flowed ≡ verdict.Admitted = ap (λ (p : Verdict × Bool). p.0) e in cc
  by_policy policy.Reject true full s e = let bad : verdict.Flowed ≡ verdict.Rejected d = ap (λ (p : Verdict × Bool). p.0) e in cc
  by_policy policy.Reject false full s e = let bad : verdict.Flowed ≡ verdict.Admitted = ap (λ (p : Verdict × Bool). p.0) e in cc
  by_policy policy.FlowControl over full s e = by_flow was full over e
  by_policy policy.FlowToDisk over full s e = s

module _ (defs : List Defined) (build : Build) (q : ℕ) (s : Standing) (def : Defined) (m : Content) (slip : Slip) (was now : Bool) (limits : Limits) (persistent : Bool) (a b : Sight) (hands : List Hand) (drops : List Dropped)
    (defined : slice_get defs q ≡ Some def) (same_limits : def.limits ≡ limits) (fits : IsSlip def m slip) (same_flag : m.persistent ≡ persistent) (s_hands : s.hands ≡ hands) (s_stopped : slice_get s.stopped q ≡ Some was) (s_drops : s.drops ≡ drops)
  where
    abbrev asks : (v : Verdict) → Admits build a b limits was now persistent slip.size v → fit.Asks defs s q m v
    asks v admits = record {
      def = def;
      defined = defined;
      slip = slip;
      fits = fits;
      depth = admits.shown;
      was = was;
      before = s_stopped;
      now = now;
      verdict = subst (λ (l : Limits). (v, now) ≡ judged l was m.persistent slip.size admits.shown) (sym same_limits) (subst (λ (p : Bool). (v, now) ≡ judged limits was p slip.size admits.shown) (sym same_flag) admits.verdict);
    }

    abbrev after : List Hand → List Dropped → Standing
    after hs ds = record s { hands = hs; stopped = slice_set s.stopped q now; drops = ds }

    -- a put that was admitted
    pub admitted_did : (c : Sight) (load : Load) (hands' : List Hand) (drops' : List Dropped) (answer : report.Answer) → load ≡ fresh m → Admits build a b limits was now persistent slip.size verdict.Admitted → EntersWith limits slip load build q b hands drops c hands' drops' answer
        → DidOn defs build q a s (Put q m) answer c (after hands' drops')
    admitted_did c load hands' drops' answer is_fresh admits with =
        let same : b ≡ admits.between = admits.given in
        let reserved : Called build a b (CallReserve slip.size) (IsDepth admits.shown) = subst (λ (t : Sight). Called build a t (CallReserve slip.size) (IsDepth admits.shown)) (sym same) admits.reserved in
        let does = with.does in
        let own : List Dropped = does.own in
        let e : Enters def.limits q slip (fresh m) own does.dids = subst (λ (l : Limits). Enters l q slip (fresh m) own does.dids) (sym same_limits) (subst (λ (l : Load). Enters limits q slip l own does.dids) is_fresh does.fact) in
        let front : Did = On q (CallReserve slip.size) (IsDepth admits.shown) in
        let leaves : after hands' drops' ≡ after (let_go own s.hands) (s.drops ++ own) =
        ap₂ after (does.gone ∙ ap (let_go own) (sym s_hands)) (does.named ∙ ap (λ (ds : List Dropped). ds ++ own) (sym s_drops)) in
        let puts : fit.Puts defs s q m own (front ∷ does.dids) (after hands' drops') = record {
          asks = asks verdict.Admitted admits;
          row = e.row;
          displaced = e.displaced;
          older = e.older;
          older_dids = e.older_dids;
          drops_older = e.drops_older;
          oldest = e.oldest;
          oldest_dids = e.oldest_dids;
          trims = e.trims;
          all = e.all;
          did = ap (λ (ds : List Did). front ∷ ds) e.did;
          leaves = leaves;
        } in
        let told : LineFits defs s (Put q m) (Accepted slip.id false (span_of drops own)) (front ∷ does.dids) (after hands' drops') = (fits.id, refl, (own, ap (λ (ds : List Dropped). span_of ds own) (sym s_drops), puts)) in
        record {
          dids = front ∷ does.dids;
          fits = subst (λ (r : report.Answer). LineFits defs s (Put q m) r (front ∷ does.dids) (after hands' drops')) (sym with.answer) told;
          here = rw (eq-eqb q q refl) (ran_append build ((CallReserve slip.size, IsDepth admits.shown) ∷ []) (calls_on q does.dids) a b c (ran_call build a b (CallReserve slip.size) (IsDepth admits.shown) reserved) does.ran);
          elsewhere = λ r apart. off_one r q (CallReserve slip.size) (IsDepth admits.shown) does.dids apart (off_enters r q def.limits slip (fresh m) own does.dids apart e);
        }

    refuses : (v : Verdict) (t : Sight) (d : Depth) → Admits build a b limits was now persistent slip.size v → Called build a t (CallReserve slip.size) (IsDepth d) → Called build t b (CallGiveBack slip.size) IsDone
        → RanOn build (calls_on q (On q (CallReserve slip.size) (IsDepth d) ∷ (On q (CallGiveBack slip.size) IsDone ∷ []))) a b
    refuses v t d admits reserved given =
        let pairs : List (Call × Answer) = (CallReserve slip.size, IsDepth d) ∷ (CallGiveBack slip.size, IsDone) ∷ [] in
        let same : calls_on q (On q (CallReserve slip.size) (IsDepth d) ∷ (On q (CallGiveBack slip.size) IsDone ∷ [])) ≡ pairs = rw (eq-eqb q q refl) refl in
        rw same (ran_append build ((CallReserve slip.size, IsDepth d) ∷ []) ((CallGiveBack slip.size, IsDone) ∷ []) a t b (ran_call build a t (CallReserve slip.size) (IsDepth d) reserved) (ran_call build t b (CallGiveBack slip.size) IsDone given))

    refusal : (v : Verdict) (admits : Admits build a b limits was now persistent slip.size v)
        → fit.Refuses defs s q m v (On q (CallReserve slip.size) (IsDepth admits.shown) ∷ (On q (CallGiveBack slip.size) IsDone ∷ [])) (after hands drops)
    refusal v admits = record { asks = asks v admits; did = refl; leaves = ap₂ after (sym s_hands) (sym s_drops) }

    off_two : (r : ℕ) (d : Depth) → (r ≡ q → ⊥) → calls_on r (On q (CallReserve slip.size) (IsDepth d) ∷ (On q (CallGiveBack slip.size) IsDone ∷ [])) ≡ []
    off_two r d apart = off_one r q (CallReserve slip.size) (IsDepth d) (On q (CallGiveBack slip.size) IsDone ∷ []) apart (off_one r q (CallGiveBack slip.size) IsDone [] apart refl)

    -- a put that was refused
    pub rejected_did : (d : Depth) → Admits build a b limits was now persistent slip.size (verdict.Rejected d) → DidOn defs build q a s (Put q m) (Rejected d) b (after hands drops)
    rejected_did d admits = record {
      dids = On q (CallReserve slip.size) (IsDepth admits.shown) ∷ (On q (CallGiveBack slip.size) IsDone ∷ []);
      fits = refusal (verdict.Rejected d) admits;
      here = refuses (verdict.Rejected d) admits.between admits.shown admits admits.reserved admits.given;
      elsewhere = λ r apart. off_two r admits.shown apart;
    }

    pub blocked_did : (d : Depth) → Admits build a b limits was now persistent slip.size (verdict.Blocked d) → DidOn defs build q a s (Put q m) (Blocked d) b (after hands drops)
    blocked_did d admits = record {
      dids = On q (CallReserve slip.size) (IsDepth admits.shown) ∷ (On q (CallGiveBack slip.size) IsDone ∷ []);
      fits = refusal (verdict.Blocked d) admits;
      here = refuses (verdict.Blocked d) admits.between admits.shown admits admits.reserved admits.given;
      elsewhere = λ r apart. off_two r admits.shown apart;
    }

-- what a decision leaves of the hands, and of the rows that are left
reserved_hold : (build : Build) (a t : Sight) (size q : ℕ) (d : Depth) (hands : List Hand) → Called build a t (CallReserve size) (IsDepth d) → Hold a q hands → Hold t q hands
reserved_hold build a t size q d hands m hold = hold_same a t q hands (λ r. keeps_call build a t (CallReserve size) (IsDepth d) m r tt) hold

given_hold : (build : Build) (t b : Sight) (size q : ℕ) (hands : List Hand) → Called build t b (CallGiveBack size) IsDone → Hold t q hands → Hold b q hands
given_hold build t b size q hands m hold = hold_same t b q hands (λ r. keeps_call build t b (CallGiveBack size) IsDone m r tt) hold

module _ (build : Build) (a b : Sight) (limits : Limits) (was now persistent : Bool) (size q : ℕ) (hands : List Hand) where
  -- the reservation of a put that is admitted
  pub admitted_call : (admits : Admits build a b limits was now persistent size verdict.Admitted) → Called build a b (CallReserve size) (IsDepth admits.shown)
  admitted_call admits = subst (λ (t : Sight). Called build a t (CallReserve size) (IsDepth admits.shown)) (sym admits.given) admits.reserved

  pub admitted_hold : Admits build a b limits was now persistent size verdict.Admitted → Hold a q hands → Hold b q hands
  admitted_hold admits hold = reserved_hold build a b size q admits.shown hands (admitted_call admits) hold

  pub admitted_left : Admits build a b limits was now persistent size verdict.Admitted → left_to build b ≤ left_to build a
  admitted_left admits = left_call build a b (CallReserve size) (IsDepth admits.shown) (admitted_call admits)

  pub rejected_hold : (d : Depth) → Admits build a b limits was now persistent size (verdict.Rejected d) → Hold a q hands → Hold b q hands
  rejected_hold d admits hold = given_hold build admits.between b size q hands admits.given (reserved_hold build a admits.between size q admits.shown hands admits.reserved hold)

  pub rejected_left : (d : Depth) → Admits build a b limits was now persistent size (verdict.Rejected d) → left_to build b ≤ left_to build a
  rejected_left d admits = omega (arith, left_call build a admits.between (CallReserve size) (IsDepth admits.shown) admits.reserved, left_call build admits.between b (CallGiveBack size) IsDone admits.given)

  pub blocked_hold : (d : Depth) → Admits build a b limits was now persistent size (verdict.Blocked d) → Hold a q hands → Hold b q hands
  blocked_hold d admits hold = given_hold build admits.between b size q hands admits.given (reserved_hold build a admits.between size q admits.shown hands admits.reserved hold)

  pub blocked_left : (d : Depth) → Admits build a b limits was now persistent size (verdict.Blocked d) → left_to build b ≤ left_to build a
  blocked_left d admits = omega (arith, left_call build a admits.between (CallReserve size) (IsDepth admits.shown) admits.reserved, left_call build admits.between b (CallGiveBack size) IsDone admits.given)

-- there is room for what fewer rows allow
pub room_fewer : (limits : Limits) (build : Build) (a b : Sight) (n cap : ℕ) → left_to build b ≤ left_to build a → HasRoom (droppable limits build a) n cap → HasRoom (droppable limits build b) n cap
room_fewer limits build a b n cap fewer room = by_ring (is_ring limits) room.within room.numbered where
  by_ring : (r : Bool) → n + cond r (left_to build a) (displaced_by build.kind) ≤ cap → n + cond r (left_to build a) (displaced_by build.kind) < 2 ^ 32 → HasRoom (cond r (left_to build b) (displaced_by build.kind)) n cap
  by_ring true fits few = record { within = omega (arith, fits, fewer); numbered = omega (arith, few, fewer) }
  by_ring false fits few = record { within = fits; numbered = few }

-- a ring has room for all its rows
pub room_ring : (limits : Limits) (build : Build) (a : Sight) (n cap : ℕ) → HasRoom (droppable limits build a) n cap → is_ring limits ≡ true → n + left_to build a ≤ cap
room_ring limits build a n cap room ring = by_ring (is_ring limits) ring room.within where
  by_ring : (r : Bool) → r ≡ true → n + cond r (left_to build a) (displaced_by build.kind) ≤ cap → n + left_to build a ≤ cap
  by_ring true is fits = fits
  by_ring false is fits = absurd (cc)

pub room_some : (limits : Limits) (build : Build) (a : Sight) (n cap : ℕ) → HasRoom (droppable limits build a) n cap → n < 2 ^ 32
room_some limits build a n cap room = omega (arith, room.numbered)

-- the key of a slip fits the kind of queue that its definition asks for
pub key_fits : (def : Defined) (m : Content) (slip : Slip) (build : Build) → IsSlip def m slip → build.kind ≡ kind_of def.kind → KeyFits build.kind slip.key
key_fits def m slip build fits kind = subst (λ (k : Kind). KeyFits k slip.key) (sym kind) (by_kind def.kind fits.key) where
  by_kind : (k : QueueKind) → slip.key ≡ key_of k m → KeyFits (kind_of k) slip.key
  by_kind asked.Standard key = key
  by_kind (asked.Priority n) key = key
  by_kind (asked.Sorted name) key = tt
  by_kind (asked.LastValue name) key = tt

-- the definition that was read is that of the queue
pub def_read : (defs : Defs) (q : ℕ) (read : QueueDef) (def : Defined) → slice_get (queues_in defs) q ≡ Some def → read ≡ get_or defs.queues.items q read → defined read ≡ def
def_read defs q read def there is =
    let items : List QueueDef = defs.queues.items in
    let below : q < length (map defined items) = slice_get_within (map defined items) q def there in
    let within : q < length items = subst (λ (n : ℕ). q < n) (map_length defined items) below in
    let at : slice_get (map defined items) q ≡ Some (defined read) = slice_get-map defined items q ∙ ap (option_map defined) (slice_get_read items (length items) q read refl within is) in
    let both : Some (defined read) ≡ Some def = sym at ∙ there in
    cc

pub one_def : (defs : List Defined) (q : ℕ) (x y : Defined) → slice_get defs q ≡ Some x → slice_get defs q ≡ Some y → x ≡ y
one_def defs q x y at_x at_y = let both : Some x ≡ Some y = sym at_x ∙ at_y in cc

-- how much may be displaced, by the definition
pub displaced_kind : (build : Build) (x y : Defined) → build.kind ≡ kind_of x.kind → x ≡ y → displaced_by build.kind ≡ displaced_by (kind_of y.kind)
displaced_kind build x y kind same = ap displaced_by (kind ∙ ap (λ (d : Defined). kind_of d.kind) same)

-- the cargo of a whole message that was never handed out
pub fresh_load : (m : Content) → shows.load (shows.fresh m None 0) ≡ fresh m
fresh_load m =
    let none : length m.body + (length (content m) - length (content m)) ≡ length m.body = omega arith in
    ap (λ (n : ℕ). record { id = m.id; size = length (content m); count = 0; content = (front m ++ to_be_bytes w32 n) ++ m.body; origin = 0 ∷ [] }) none
