-- what a call gains
use Rattle.std.proofs.Common.{◌≡◌, ◌≢◌, ℕ, zero, suc, ◌-◌, Bool, true, false, cond, Some, List, [], ◌∷◌, ◌++◌, length, refl, sym, ap, ◌∙◌, subst, append_assoc, append-nil, length-append, arith}
use Rattle.std.specs.List.{AllByRecursion}
use mathlib.Core.List.{append_cancel_left}
use Rattle.queue_model.specs.declared.deeds.Act.{Act}
use Rattle.queue_model.specs.declared.deeds.Act.TheVariants.{Acq, Lock, Unlock, Steal, Rel, Deq, Del, Reserve, GiveBack, Enq, Bell, Take}
use Rattle.queue_model.specs.declared.deeds.Deed.{Deed}
use Rattle.queue_model.specs.declared.queues.Queue.{Queue}
use Rattle.queue_model.specs.declared.rows.Row.{Row}
use Rattle.queue_model.specs.declared.rows.RowState.{RowState}
use Rattle.queue_model.specs.declared.rows.RowState.TheVariants.{Available, Locked, Unlocked}
use Rattle.queue_model.specs.History.{after, Legal, own, deed, deeds_of}
use Rattle.queue_model.specs.Laws.{KeepsLock, GainsLock}
use Rattle.acts_core.specs.Load.{Load}
use Rattle.queue_model.specs.State.{is_row, row_at, IsIn}
use Rattle.queue_model.specs.Table.{Can, acted, in_state, changed}
use Rattle.queue_model.proofs.Histories.{after-append, legal_rest, legal_front, own-append, own-cons_mine}
use Rattle.queue_model.proofs.KeyedLemmas.{find-append}
use Rattle.queue_model.proofs.Owns.{lock_stays}
use Rattle.queue_model.proofs.Prefixes.{prefix_more, prefix_trans}
use Rattle.queue_model.proofs.RowFacts.{row_here, row_number}
use Rattle.queue_model.proofs.Stable.{same_state, held_row_stays}
use Rattle.acts_core.specs.Calls.{Call, CallPut, CallNext, CallOldest, CallLock, CallSteal, Answer, IsAt, IsGot, IsLocked, HasStolen, acts_of, takes_down, bells_taken}
use Rattle.acts_core.specs.Hands.{gained, Holds}
use Rattle.acts_core.specs.Lists.{ListMeans}
use Rattle.acts_core.specs.Meaning.{Meets, Besides, HeldMeans}
use Rattle.acts_core.specs.Moments.{JustBefore, BeforeAll, IsLoadOf, HandsOut}
use Rattle.acts_core.specs.Sight.{Kind, Listed, Sorted, LastValue, IsHeldKind, Plan, Evidence, Forgotten}
use Rattle.acts_core.proofs.Chaining.{deeds_append}

-- the act is a take or an enqueue
abbrev Plain : Act → Type 0
Plain (Take c l) = Unit {0}
Plain (Enq r slip content origin n) = Unit {0}
Plain a = ⊥

-- the act gains a row
abbrev is_gain : Act → Bool
is_gain (Acq r) = true
is_gain (Lock r) = true
is_gain (Steal r) = true
is_gain a = false

-- an element behind a list without such elements, found in another way
split_one : {X : Type 0} (p : X → Bool) (u f : List X) (a : X) (v : List X) → u ++ a ∷ v ≡ f ++ a ∷ [] → AllByRecursion (λ x. p x ≡ false) f → p a ≡ true → (u ≡ f) × (v ≡ [])
split_one p [] [] a v e none hit = (refl, cc)
split_one p [] (y ∷ f) a v e none hit = absurd (let same : a ≡ y = cc in let bad : true ≡ false = sym hit ∙ ap p same ∙ none.0 in cc)
split_one p (x ∷ u) [] a v e none hit = absurd (omega (arith, length-append u (a ∷ v), ap length e))
split_one p (x ∷ u) (y ∷ f) a v e none hit =
    let head : x ≡ y = cc in
    let tail : u ++ a ∷ v ≡ f ++ a ∷ [] = cc in
    let t = split_one p u f a v tail none.1 hit in
    let first : u ≡ f = t.0 in
    (cc, t.1)

-- plain acts keep every lock, and gain none
plain_keeps : (e : ℕ) (a : Act) → Plain a → KeepsLock e a
plain_keeps e (Take c l) p = tt
plain_keeps e (Enq r slip content origin n) p = tt
plain_keeps e a p = absurd p

plain_gains : (a : Act) → Plain a → is_gain a ≡ false
plain_gains (Take c l) p = refl
plain_gains (Enq r slip content origin n) p = refl
plain_gains a p = absurd p

all_keep : (e : ℕ) (acts : List Act) → AllByRecursion Plain acts → AllByRecursion (KeepsLock e) acts
all_keep e [] p = tt
all_keep e (a ∷ acts) p = (plain_keeps e a p.0, all_keep e acts p.1)

all_fail : (h : ℕ) (acts : List Act) → AllByRecursion Plain acts → AllByRecursion (λ (d : Deed). is_gain d.act ≡ false) (deeds_of h acts)
all_fail h [] p = tt
all_fail h (a ∷ acts) p = (plain_gains a p.0, all_fail h acts p.1)

gain_passes : (r : ℕ) (a : Act) → GainsLock r a → is_gain a ≡ true
gain_passes r (Acq s) g = refl
gain_passes r (Lock s) g = refl
gain_passes r (Steal s) g = refl
gain_passes r (Unlock s n) g = absurd g
gain_passes r (Rel s n) g = absurd g
gain_passes r (Deq s) g = absurd g
gain_passes r (Del s) g = absurd g
gain_passes r (Reserve size) g = absurd g
gain_passes r (GiveBack size) g = absurd g
gain_passes r (Enq s slip content origin n) g = absurd g
gain_passes r (Bell s c) g = absurd g
gain_passes r (Take c l) g = absurd g

-- a row that is gained is Locked, and was not
locks_row : (q : Queue) (h s r : ℕ) (x : Row) → s ≡ r → row_at q r ≡ Some x → row_at (changed q s (in_state (Locked h))) r ≡ Some (in_state (Locked h) x)
locks_row q h s r x e found =
    subst (λ (n : ℕ). row_at (changed q n (in_state (Locked h))) r ≡ Some (in_state (Locked h) x)) (sym e) (row_here q r (in_state (Locked h)) x found (row_number q r x found))

gain_row : (q : Queue) (h : ℕ) (a : Act) (r : ℕ) (x : Row) → GainsLock r a → row_at q r ≡ Some x → row_at (acted q h a) r ≡ Some (in_state (Locked h) x)
gain_row q h (Acq s) r x g found = locks_row q h s r x g found
gain_row q h (Lock s) r x g found = locks_row q h s r x g found
gain_row q h (Steal s) r x g found = locks_row q h s r x g found
gain_row q h (Unlock s n) r x g found = absurd g
gain_row q h (Rel s n) r x g found = absurd g
gain_row q h (Deq s) r x g found = absurd g
gain_row q h (Del s) r x g found = absurd g
gain_row q h (Reserve size) r x g found = absurd g
gain_row q h (GiveBack size) r x g found = absurd g
gain_row q h (Enq s slip content origin n) r x g found = absurd g
gain_row q h (Bell s c) r x g found = absurd g
gain_row q h (Take c l) r x g found = absurd g

not_held : (q : Queue) (h s r : ℕ) (t : RowState) → t ≢ Locked h → s ≡ r → IsIn q s t → IsIn q r (Locked h) → ⊥
not_held q h s r t differ e can held = differ (same_state q s t (Locked h) can (subst (λ (n : ℕ). IsIn q n (Locked h)) (sym e) held))

gain_new : (q : Queue) (h : ℕ) (a : Act) (r : ℕ) → Can q h a → GainsLock r a → IsIn q r (Locked h) → ⊥
gain_new q h (Acq s) r can g held = not_held q h s r Available (λ e. cc) g can held
gain_new q h (Lock s) r can g held = not_held q h s r (Unlocked h) (λ e. cc) g can held
gain_new q h (Steal s) r can g held = not_held q h s r (Unlocked can.0) (λ e. cc) g can.1 held
gain_new q h (Unlock s n) r can g held = absurd g
gain_new q h (Rel s n) r can g held = absurd g
gain_new q h (Deq s) r can g held = absurd g
gain_new q h (Del s) r can g held = absurd g
gain_new q h (Reserve size) r can g held = absurd g
gain_new q h (GiveBack size) r can g held = absurd g
gain_new q h (Enq s slip content origin n) r can g held = absurd g
gain_new q h (Bell s c) r can g held = absurd g
gain_new q h (Take c l) r can g held = absurd g

-- the cargo of a row is that of the row that is held
load_held : (h : ℕ) (x : Row) (load : Load) → IsLoadOf x load → IsLoadOf (in_state (Locked h) x) load
load_held h x load l = record { id = l.id; size = l.size; count = l.count; content = l.content; origin = l.origin }

abbrev Gained : Queue → ℕ → List Deed → List Deed → ℕ → Load → Type 0
Gained o h s0 s1 r load = Holds (after o s1) h r load × ((e : ℕ) → IsIn (after o s0) e (Locked h) → e ≢ r)

-- where the last own act gains a row, its holder has the row as it was then
gain_at : (o : Queue) (h : ℕ) (s0 s1 m : List Deed) (front : List Act) (a : Act) (r : ℕ) (load : Load) → JustBefore s0 s1 (deed h a) m → Legal o s1 → own h s1 ≡ own h s0 ++ deeds_of h (front ++ a ∷ [])
    → AllByRecursion Plain front → GainsLock r a → HandsOut (after o m) r load → Gained o h s0 s1 r load
gain_at o h s0 s1 m front a r load just legal mine plain g hands =
    let d = deed h a in
    let p0 = just.later.0 in
    let r0 = just.early.0 in
    let whole : m ++ d ∷ r0 ≡ s1 = sym (append_assoc m (d ∷ []) r0) ∙ just.early.1 in
    let parts : own h s1 ≡ own h s0 ++ (own h p0 ++ d ∷ own h r0) =
    sym (ap (own h) whole) ∙ own-append h m (d ∷ r0)
    ∙ ap (λ (ds : List Deed). own h ds ++ own h (d ∷ r0)) (sym just.later.1)
    ∙ ap (λ (ds : List Deed). ds ++ own h (d ∷ r0)) (own-append h s0 p0)
    ∙ append_assoc (own h s0) (own h p0) (own h (d ∷ r0))
    ∙ ap (λ (ds : List Deed). own h s0 ++ (own h p0 ++ ds)) (own-cons_mine d r0)
    in
    let rest : own h p0 ++ d ∷ own h r0 ≡ deeds_of h front ++ d ∷ [] =
    append_cancel_left (own h s0) (own h p0 ++ d ∷ own h r0) (deeds_of h front ++ d ∷ [])
    (sym parts ∙ mine ∙ ap (λ (ds : List Deed). own h s0 ++ ds) (deeds_append h front (a ∷ [])))
    in
    let split = split_one (λ (e : Deed). is_gain e.act) (own h p0) (deeds_of h front) d (own h r0) rest (all_fail h front plain) (gain_passes r a g) in
    let legal_whole : Legal o (m ++ d ∷ r0) = subst (Legal o) (sym whole) legal in
    let step : Legal (after o m) (d ∷ r0) = legal_rest o m (d ∷ r0) legal_whole in
    let now = gain_row (after o m) h a r hands.row g hands.found in
    let end : row_at (after o s1) r ≡ Some (in_state (Locked h) hands.row) =
    subst (λ (ds : List Deed). row_at (after o ds) r ≡ Some (in_state (Locked h) hands.row)) whole
    (ap (λ (q : Queue). row_at q r) (after-append o m (d ∷ r0))
    ∙ held_row_stays (acted (after o m) h a) r0 h r (in_state (Locked h) hands.row) split.1 step.1 now refl)
    in
    let before : own h m ≡ own h s0 ++ deeds_of h front =
    ap (own h) (sym just.later.1) ∙ own-append h s0 p0 ∙ ap (λ (ds : List Deed). own h s0 ++ ds) split.0
    in (
      record { row = in_state (Locked h) hands.row; found = end; held = refl; same = load_held h hands.row load hands.same },
      λ e held same.
          gain_new (after o m) h a r step.0 g
          (subst (λ (n : ℕ). IsIn (after o m) n (Locked h)) same
          (lock_stays o s0 m h e front just.later (legal_front o m (d ∷ r0) legal_whole) before (all_keep e front plain) held)),
    )

-- takes are plain
takes_plain : (c l n : ℕ) → AllByRecursion Plain (takes_down c l n)
takes_plain c l zero = tt
takes_plain c l (suc n) = (tt, takes_plain c l n)

taken_plain : (p : Plan) (c l : ℕ) → AllByRecursion Plain (bells_taken p c l)
taken_plain p c l = elim (p.bells) as (λ b. AllByRecursion Plain (cond b (takes_down c l (p.opening.lists - l)) [])) [ true ↦ takes_plain c l (p.opening.lists - l) | false ↦ tt ]

-- plain acts leave every row that is there
plain_row : (q : Queue) (h : ℕ) (front : List Act) (r : ℕ) (x : Row) → AllByRecursion Plain front → row_at q r ≡ Some x → row_at (after q (deeds_of h front)) r ≡ Some x
plain_row q h [] r x plain found = found
plain_row q h (Take c l ∷ front) r x plain found = plain_row (acted q h (Take c l)) h front r x plain.1 found
plain_row q h (Enq e slip content origin n ∷ front) r x plain found =
    plain_row (acted q h (Enq e slip content origin n)) h front r x plain.1
    (find-append (is_row r) q.rows (record { number = e; slip = slip; state = Available; content = content; origin = origin; count = n } ∷ []) x found)
plain_row q h (a ∷ front) r x plain found = absurd plain.0

-- where the acts of a call stand at the end, and the last one gains a row that was there before them all
gain_last : (o : Queue) (h : ℕ) (s0 s1 m : List Deed) (front : List Act) (a : Act) (r : ℕ) (load : Load) (x : Row) → BeforeAll s0 s1 (deeds_of h (front ++ a ∷ [])) m → Legal o s1
    → own h s1 ≡ own h s0 ++ deeds_of h (front ++ a ∷ []) → AllByRecursion Plain front → GainsLock r a → row_at (after o m) r ≡ Some x → IsLoadOf x load → Gained o h s0 s1 r load
gain_last o h s0 s1 m front a r load x before legal mine plain g found same =
    let later = m ++ deeds_of h front in
    let whole : later ++ deed h a ∷ [] ≡ s1 =
    append_assoc m (deeds_of h front) (deed h a ∷ [])
    ∙ ap (λ (ds : List Deed). m ++ ds) (sym (deeds_append h front (a ∷ [])))
    ∙ before.whole
    in
    let just : JustBefore s0 s1 (deed h a) later = record {
      later = prefix_trans s0 m later before.later (prefix_more m (deeds_of h front));
      early = ([], append-nil (later ++ deed h a ∷ []) ∙ whole);
    } in
    let there : row_at (after o later) r ≡ Some x =
    ap (λ (q : Queue). row_at q r) (after-append o m (deeds_of h front)) ∙ plain_row (after o m) h front r x plain found
    in
    gain_at o h s0 s1 later front a r load just legal mine plain g (record { row = x; found = there; same = same })

-- one pair for another
paired : (P : ℕ → Load → Type 0) (a b : ℕ × Load) → Some a ≡ Some b → P a.0 a.1 → P b.0 b.1
paired P a b same p = let pair : a ≡ b = cc in subst (λ (k : ℕ × Load). P k.0 k.1) pair p

-- on a listed queue
list_gains : (v : Evidence) (p : Plan) (h : ℕ) (s0 s1 : List Deed) (call : Call) (answer : Answer) (r : ℕ) (load : Load) → Legal p.opening s1 → own h s1 ≡ own h s0 ++ deeds_of h (acts_of p call answer)
    → ListMeans v p h s0 s1 call answer → gained call answer ≡ Some (r, load) → Gained p.opening h s0 s1 r load
list_gains v p h s0 s1 (CallNext c) (IsGot e l g) r load legal mine b same =
    paired (Gained p.opening h s0 s1) (e, g) (r, load) same
    (gain_at p.opening h s0 s1 b.gets.moment (bells_taken p c l) (Acq e) e g b.gets.before legal mine (taken_plain p c l) refl b.gets.hands)
list_gains v p h s0 s1 CallOldest (IsGot e l g) r load legal mine b same =
    paired (Gained p.opening h s0 s1) (e, g) (r, load) same
    (gain_at p.opening h s0 s1 b.gets.moment [] (Acq e) e g b.gets.before legal mine tt refl b.gets.hands)
list_gains v p h s0 s1 (CallLock e) (IsLocked g) r load legal mine b same =
    paired (Gained p.opening h s0 s1) (e, g) (r, load) same (gain_at p.opening h s0 s1 b.moment [] (Lock e) e g b.before legal mine tt refl b.hands)
list_gains v p h s0 s1 (CallSteal e) (HasStolen g) r load legal mine b same =
    paired (Gained p.opening h s0 s1) (e, g) (r, load) same (gain_at p.opening h s0 s1 b.moment [] (Steal e) e g b.before legal mine tt refl b.hands)
list_gains v p h s0 s1 (CallPut slip l) (IsAt e (Some d)) r load legal mine b same = absurd (cc)
list_gains v p h s0 s1 call answer r load legal mine b same = absurd (cc)

-- on a held queue
held_gains : (kind : Kind) (p : Plan) (h : ℕ) (s0 s1 : List Deed) (call : Call) (answer : Answer) (r : ℕ) (load : Load) → IsHeldKind kind → Legal p.opening s1 → own h s1 ≡ own h s0 ++ deeds_of h (acts_of p call answer)
    → HeldMeans kind p h s0 s1 call answer → gained call answer ≡ Some (r, load) → Gained p.opening h s0 s1 r load
held_gains kind p h s0 s1 (CallNext c) (IsGot e l g) r load held legal mine b same =
    paired (Gained p.opening h s0 s1) (e, g) (r, load) same
    (gain_last p.opening h s0 s1 b.moment (bells_taken p c l) (Acq e) e g b.means.hands.row b.before legal mine (taken_plain p c l) refl b.means.hands.found b.means.hands.same)
held_gains kind p h s0 s1 CallOldest (IsGot e l g) r load held legal mine b same =
    paired (Gained p.opening h s0 s1) (e, g) (r, load) same (gain_last p.opening h s0 s1 b.moment [] (Acq e) e g b.means.hands.row b.before legal mine tt refl b.means.hands.found b.means.hands.same)
held_gains kind p h s0 s1 (CallLock e) (IsLocked g) r load held legal mine b same =
    paired (Gained p.opening h s0 s1) (e, g) (r, load) same (gain_last p.opening h s0 s1 b.moment [] (Lock e) e g b.means.row b.before legal mine tt refl b.means.found b.means.same)
held_gains kind p h s0 s1 (CallSteal e) (HasStolen g) r load held legal mine b same =
    paired (Gained p.opening h s0 s1) (e, g) (r, load) same (gain_last p.opening h s0 s1 b.moment [] (Steal e) e g b.means.row b.before legal mine tt refl b.means.found b.means.same)
held_gains LastValue p h s0 s1 (CallPut slip l) (IsAt e (Some d)) r load held legal mine b same =
    paired (Gained p.opening h s0 s1) d (r, load) same
    (gain_last p.opening h s0 s1 b.moment (Enq e slip l.content l.origin l.count ∷ []) (Acq d.0) d.0 d.1 b.means.0 b.before legal mine (tt, tt) refl b.means.1 b.means.3)
held_gains Sorted p h s0 s1 (CallPut slip l) (IsAt e (Some d)) r load held legal mine b same = let none = b.means in absurd (cc)
held_gains Listed p h s0 s1 (CallPut slip l) (IsAt e (Some d)) r load held legal mine b same = absurd held
held_gains kind p h s0 s1 call answer r load held legal mine b same = absurd (cc)

gains_by : (v : Evidence) (p : Plan) (h : ℕ) (s0 s1 : List Deed) (call : Call) (answer : Answer) (kind : Kind) (r : ℕ) (load : Load) → Legal p.opening s1 → own h s1 ≡ own h s0 ++ deeds_of h (acts_of p call answer)
    → Besides v p h s0 s1 call answer kind → gained call answer ≡ Some (r, load) → Gained p.opening h s0 s1 r load
gains_by v p h s0 s1 call answer Listed r load legal mine b same = list_gains v p h s0 s1 call answer r load legal mine b same
gains_by v p h s0 s1 call answer Sorted r load legal mine b same = held_gains Sorted p h s0 s1 call answer r load tt legal mine b same
gains_by v p h s0 s1 call answer LastValue r load legal mine b same = held_gains LastValue p h s0 s1 call answer r load tt legal mine b same

-- The row that a call gained is its caller's, with the cargo that was handed out, and none that the caller held before.
pub call_gains : (p : Plan) (h : ℕ) (s0 s1 : List Deed) (call : Call) (answer : Answer) (r : ℕ) (load : Load) → Meets p h s0 s1 call answer → gained call answer ≡ Some (r, load)
    → Holds (after p.opening s1) h r load × ((e : ℕ) → IsIn (after p.opening s0) e (Locked h) → e ≢ r)
call_gains p h s0 s1 call answer r load m same = gains_by Forgotten p h s0 s1 call answer p.kind r load m.legal m.own_acts m.besides same
