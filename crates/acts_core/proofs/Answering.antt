-- the answers of walks
use Rattle.std.proofs.Common.{◌≡◌, ◌≢◌, ℕ, zero, suc, ◌+◌, ◌≤◌, ◌<◌, Bool, true, false, cond, Option, Some, None, List, [], ◌∷◌, length, refl, sym, ap, ◌∙◌, subst, ⊎_elim, arith}
use Rattle.std.proofs.lemmas.Bool.{cases_eq}
use mathlib.Core.List.{IsPrefix}
use Rattle.queue_model.specs.declared.deeds.Act.TheVariants.{Acq}
use Rattle.queue_model.specs.declared.deeds.Deed.{Deed}
use Rattle.queue_model.specs.declared.queues.Queue.{Queue}
use Rattle.queue_model.specs.declared.rows.Row.{Row}
use Rattle.queue_model.specs.declared.rows.RowState.TheVariants.{Available, Deleted}
use Rattle.queue_model.specs.declared.rows.Slip.{Slip}
use Rattle.queue_model.specs.History.{after}
use Rattle.queue_model.specs.Order.{Precedes, IsOlder, ByList}
use Rattle.queue_model.specs.State.{row_at, place_at}
use Rattle.queue_model.proofs.Prefixes.{prefix_length, prefix_trans}
use Rattle.queue_model.proofs.RowFacts.{row_number}
use Rattle.queue_model.proofs.Stable.{row_stays}
use Rattle.acts_core.specs.Calls.{CallNext, CallOldest, CallFind, IsGot, IsEmpty, IsFound}
use Rattle.acts_core.specs.Lists.{Begins, EachDue, Passed, PassedOnce, WasTaken, WasDeleted, Gets, NextGot, NextEmpty, OldestGot, OldestEmpty, FindSome, FindNone}
use Rattle.acts_core.specs.Load.{Load}
use Rattle.acts_core.specs.Meaning.{Called}
use Rattle.acts_core.specs.Moments.{Between, IsRow}
use Rattle.acts_core.specs.Owed.{is_free, last_from, marks, mark, Looked}
use Rattle.acts_core.specs.Sight.{Listed, Build, silent_lists, Plan, plan_of, Sight, Evidence, Showed}
use Rattle.acts_core.specs.Walks.{Ask, FreeTo, Ready, Named, FailedOnce, Failed, Done, Stopped}
use Rattle.acts_core.proofs.Sparing.{after_rest}
use Rattle.acts_core.proofs.Stepping.{called_by}

-- Marks

last_within : {X : Type 0} (p : X → Bool) (n m : ℕ) (xs : List X) → m ≤ n → last_from p n m xs ≤ n + length xs
last_within p n m [] low = omega (arith, low)
last_within p n m (x ∷ xs) low =
    let next : cond (p x) (n + 1) m ≤ n + 1 = elim (p x) as (λ b. cond b (n + 1) m ≤ n + 1) [ true ↦ omega arith | false ↦ omega (arith, low) ] in
    let t = last_within p (n + 1) (cond (p x) (n + 1) m) xs next in
    omega (arith, t)

-- a mark is within the history
mark_within : (c e : ℕ) (ds : List Deed) → mark c e ds ≤ length ds
mark_within c e ds = let t = last_within (λ (d : Deed). marks c e d.act) 0 0 ds (omega arith) in omega (arith, t)

-- What failed rows were

failed_looked : (o : Queue) (c r : ℕ) (b s1 : List Deed) → FailedOnce o (FreeTo c) b s1 r → Looked o c r (mark c r b) s1
failed_looked o c r b s1 f =
    let within = mark_within c r b in
    let long = prefix_length b f.moment f.later in
    record { at = f.moment; prefix = f.early; long = omega (arith, within, long); busy = (f.row, f.found, f.fails) }

-- the walk passed each row of the list that is Before
free_passed : (v : Evidence) (o : Queue) (h c l : ℕ) (s0 s1 : List Deed) (Before : Row → Type 0) → Failed v o s0 s1 (FreeTo c) l Before
    → EachDue o l (Begins v false h c l s0 s1) (λ b y. Before y → Looked o c y.number (mark c y.number b) s1)
free_passed v o h c l s0 s1 Before f = (f.0, f.1, λ y is list before. failed_looked o c y.number f.0 s1 (f.2 y is list before))

ready_passed : (v : Evidence) (p : Plan) (h l : ℕ) (s0 s1 : List Deed) (Before : Row → Type 0) → Failed v p.opening s0 s1 Ready l Before → PassedOnce v p h s0 s1 l Before (WasTaken p.opening s0 s1)
ready_passed v p h l s0 s1 Before f = (
  f.0,
  f.1,
  λ y is list before.
      let t = f.2 y is list before in
      (t.moment, record { later = prefix_trans s0 f.0 t.moment f.1.0.later t.later; early = t.early }, (t.row, t.found, t.fails)),
)

named_passed : (v : Evidence) (p : Plan) (h id l : ℕ) (s0 s1 : List Deed) (Before : Row → Type 0) → Failed v p.opening s0 s1 (Named id) l Before → PassedOnce v p h s0 s1 l (λ y. (y.slip.id ≡ id) × Before y) (WasDeleted p.opening s0 s1)
named_passed v p h id l s0 s1 Before f = (
  f.0,
  f.1,
  λ y is list both.
      let t = f.2 y is list both.1 in
      let s = row_stays (after p.opening f.0) t.later.0 y.number y is in
      let there : row_at (after p.opening t.moment) y.number ≡ Some s.0 = subst (λ (q : Queue). row_at q y.number ≡ Some s.0) (after_rest p.opening f.0 t.moment t.later) s.1 in
      let one : Some s.0 ≡ Some t.row = sym there ∙ t.found in
      let same : s.0 ≡ t.row = cc in
      let id_then : t.row.slip.id ≡ id = ap (λ (x : Row). x.slip.id) (sym same) ∙ ap (λ (x : Slip). x.id) s.2.slip ∙ both.0 in
      (t.moment, record { later = prefix_trans s0 f.0 t.moment f.1.0.later t.later; early = t.early }, (t.row, t.found, t.fails id_then)),
)

failed_less : (v : Evidence) (o : Queue) (s0 s1 : List Deed) (ask : Ask) (l : ℕ) (Before Less : Row → Type 0) → ((y : Row) → y.slip.list ≡ l → Less y → Before y) → Failed v o s0 s1 ask l Before → Failed v o s0 s1 ask l Less
failed_less v o s0 s1 ask l Before Less less f = (f.0, f.1, λ y is list before. f.2 y is list (less y list before))

-- of one list, what comes first stands first
precedes_place : (q : Queue) (l r : ℕ) (x y : Row) → x.slip.list ≡ l → x.number ≡ r → y.slip.list ≡ l → Precedes ByList q y x → place_at q y.number < place_at q r
precedes_place q l r x y here number list before = ⊎_elim
    (λ (higher : x.slip.list < y.slip.list). absurd (omega (arith, higher, here, list)))
    (λ (same : (y.slip.list ≡ x.slip.list) × (place_at q y.number < place_at q x.number)). subst (λ (n : ℕ). place_at q y.number < place_at q n) number same.1)
    before

older_place : (q : Queue) (l r : ℕ) (x y : Row) → x.slip.list ≡ l → x.number ≡ r → y.slip.list ≡ l → IsOlder ByList q y x → place_at q y.number < place_at q r
older_place q l r x y here number list before = ⊎_elim
    (λ (lower : y.slip.list < x.slip.list). absurd (omega (arith, lower, here, list)))
    (λ (same : (y.slip.list ≡ x.slip.list) × (place_at q y.number < place_at q x.number)). subst (λ (n : ℕ). place_at q y.number < place_at q n) number same.1)
    before

-- each list from the answered row's on, in queue order, was walked
lists_walked : (v : Evidence) (o : Queue) (s0 s1 : List Deed) (ask : Ask) (l high r : ℕ) (x : Row) → x.slip.list ≡ l → x.number ≡ r → ((m : ℕ) → suc l ≤ m → m < high → Failed v o s0 s1 ask m (λ y. Unit {0}))
    → Failed v o s0 s1 ask l (λ y. place_at (after o s1) y.number < place_at (after o s1) r) → (m : ℕ) → l ≤ m → m < high → Failed v o s0 s1 ask m (λ y. Precedes ByList (after o s1) y x)
lists_walked v o s0 s1 ask l high r x here number others last m low up = ⊎_elim
    (λ (same : m ≡ l).
    subst (λ (n : ℕ). Failed v o s0 s1 ask n (λ y. Precedes ByList (after o s1) y x)) (sym same)
    (failed_less v o s0 s1 ask l _ (λ y. Precedes ByList (after o s1) y x) (λ y list before. precedes_place (after o s1) l r x y here number list before) last))
    (λ (away : m ≢ l). failed_less v o s0 s1 ask m (λ y. Unit {0}) (λ y. Precedes ByList (after o s1) y x) (λ y list before. tt) (others m (omega (arith, low, away)) up))
    (cases_eq m l)

-- each list up to the answered row's, the lowest first, was walked
lists_walked_up : (v : Evidence) (o : Queue) (s0 s1 : List Deed) (ask : Ask) (l r : ℕ) (x : Row) → x.slip.list ≡ l → x.number ≡ r → ((m : ℕ) → 0 ≤ m → m < l → Failed v o s0 s1 ask m (λ y. Unit {0}))
    → Failed v o s0 s1 ask l (λ y. place_at (after o s1) y.number < place_at (after o s1) r) → (m : ℕ) → m ≤ l → Failed v o s0 s1 ask m (λ y. IsOlder ByList (after o s1) y x)
lists_walked_up v o s0 s1 ask l r x here number others last m up = ⊎_elim
    (λ (same : m ≡ l).
    subst (λ (n : ℕ). Failed v o s0 s1 ask n (λ y. IsOlder ByList (after o s1) y x)) (sym same)
    (failed_less v o s0 s1 ask l _ (λ y. IsOlder ByList (after o s1) y x) (λ y list before. older_place (after o s1) l r x y here number list before) last))
    (λ (away : m ≢ l). failed_less v o s0 s1 ask m (λ y. Unit {0}) (λ y. IsOlder ByList (after o s1) y x) (λ y list before. tt) (others m (omega arith) (omega (arith, up, away))))
    (cases_eq m l)

-- Calls

pub next_empty : (rows c : ℕ) (old new : Sight) → Done old new (FreeTo c) 0 old.opening.lists → Called (silent_lists rows) old new (CallNext c) IsEmpty
next_empty rows c old new d =
    called_by (silent_lists rows) old new (CallNext c) IsEmpty d.added refl d.steps
    (λ m high. free_passed (Showed d.added) old.opening old.caller c m old.seen new.seen (λ y. Unit {0}) (d.failed m (omega arith) high))
    tt d.rights.allowance d.rights.share

pub next_got : (rows c l r : ℕ) (load : Load) (old new : Sight) → Stopped old new (FreeTo c) (suc l) old.opening.lists l r (Acq r ∷ []) → Gets old.opening old.caller old.seen new.seen r l load (λ x. is_free c x ≡ true) → Called (silent_lists rows) old new (CallNext c) (IsGot r l load)
next_got rows c l r load old new s gets =
    let o = old.opening in
    let row = gets.hands.row in
    let number : row.number ≡ r = row_number (after o gets.moment) r row gets.hands.found in
    called_by (silent_lists rows) old new (CallNext c) (IsGot r l load) s.added refl s.steps
    (record {
      gets = gets;
      passed = λ m low high. free_passed (Showed s.added) o old.caller c m old.seen new.seen (λ y. Precedes ByList (after o new.seen) y row) (lists_walked (Showed s.added) o old.seen new.seen (FreeTo c) l o.lists r row gets.list number s.failed s.last m low high);
    })
    tt s.rights.allowance s.rights.share

pub oldest_empty : (build : Build) (old new : Sight) → build.kind ≡ Listed → Done old new Ready 0 old.opening.lists → Called build old new CallOldest IsEmpty
oldest_empty build old new listed d =
    let p = plan_of build old.opening in
    called_by build old new CallOldest IsEmpty d.added listed d.steps
    (λ m high. ready_passed (Showed d.added) p old.caller m old.seen new.seen (λ y. Unit {0}) (d.failed m (omega arith) high))
    tt d.rights.allowance d.rights.share

pub oldest_got : (build : Build) (l r : ℕ) (load : Load) (old new : Sight) → build.kind ≡ Listed → Stopped old new Ready 0 l l r (Acq r ∷ []) → Gets old.opening old.caller old.seen new.seen r l load (λ x. x.state ≡ Available) → Called build old new CallOldest (IsGot r l load)
oldest_got build l r load old new listed s gets =
    let p = plan_of build old.opening in
    let o = old.opening in
    let row = gets.hands.row in
    let number : row.number ≡ r = row_number (after o gets.moment) r row gets.hands.found in
    called_by build old new CallOldest (IsGot r l load) s.added listed s.steps
    (record {
      gets = gets;
      passed = λ m up. ready_passed (Showed s.added) p old.caller m old.seen new.seen (λ y. IsOlder ByList (after o new.seen) y row) (lists_walked_up (Showed s.added) o old.seen new.seen Ready l r row gets.list number s.failed s.last m up);
    })
    tt s.rights.allowance s.rights.share

pub find_none : (build : Build) (id : ℕ) (old new : Sight) → build.kind ≡ Listed → Done old new (Named id) 0 old.opening.lists → Called build old new (CallFind id) (IsFound None)
find_none build id old new listed d =
    let p = plan_of build old.opening in
    let all : FindNone (Showed d.added) p old.caller old.seen new.seen id = λ m high.
    let t = named_passed (Showed d.added) p old.caller id m old.seen new.seen (λ y. Unit {0}) (d.failed m (omega arith) high) in
    (t.0, t.1, λ y is list same. t.2 y is list (same, tt))
    in
    called_by build old new (CallFind id) (IsFound None) d.added listed d.steps all tt d.rights.allowance d.rights.share

-- a row of list l that has the id and was not deleted at some moment of the call
pub find_some : (build : Build) (id l r : ℕ) (old new : Sight) (moment : List Deed) (x : Row) → build.kind ≡ Listed → Stopped old new (Named id) (suc l) old.opening.lists l r [] → Between old.seen new.seen moment → row_at (after old.opening moment) r ≡ Some x
    → x.slip.list ≡ l → x.slip.id ≡ id → x.state ≢ Deleted → Called build old new (CallFind id) (IsFound (Some r))
find_some build id l r old new moment x listed s between found list same there =
    let p = plan_of build old.opening in
    let o = old.opening in
    let number : x.number ≡ r = row_number (after o moment) r x found in
    called_by build old new (CallFind id) (IsFound (Some r)) s.added listed s.steps
    (record {
      moment = moment;
      between = between;
      row = x;
      found = found;
      same = same;
      there = there;
      passed = λ m low high.
          named_passed (Showed s.added) p old.caller id m old.seen new.seen (λ y. Precedes ByList (after o new.seen) y x)
          (lists_walked (Showed s.added) o old.seen new.seen (Named id) l o.lists r x list number s.failed s.last m (subst (λ (n : ℕ). n ≤ m) list low) high);
    })
    tt s.rights.allowance s.rights.share
