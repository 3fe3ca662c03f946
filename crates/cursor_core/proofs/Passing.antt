-- a whole call of next: its lists, one after the other
use Rattle.std.proofs.Common.{◌≡◌, ◌≢◌, ℕ, ◌<◌, ◌≤◌, Bool, true, false, Some, List, [], ◌∷◌, ◌++◌, length, slice_index, slice_set, sym, ap, ◌∙◌, subst, ⊎_elim, arith}
use Rattle.std.proofs.lemmas.Bool.{cases_eq, cases_lt}
use Rattle.std.proofs.lemmas.List.{get_or-set_same, get_or-set_other}
use mathlib.Core.List.{IsPrefix}
use Rattle.queue_model.specs.declared.rows.Slip.{Slip}
use Rattle.queue_model.specs.declared.deeds.Act.TheVariants.{Take}
use Rattle.queue_model.specs.declared.deeds.Deed.{Deed}
use Rattle.queue_model.specs.declared.queues.Queue.{Queue}
use Rattle.queue_model.specs.declared.rows.Row.{Row}
use Rattle.queue_model.specs.History.{after, Legal, deed}
use Rattle.queue_model.specs.Order.{Precedes, ByList}
use Rattle.queue_model.specs.State.{row_at, place_at}
use Rattle.queue_model.proofs.Histories.{after-append}
use Rattle.queue_model.proofs.Prefixes.{prefix_length, prefix_trans}
use Rattle.queue_model.proofs.Stable.{row_stays}
use Rattle.acts_core.specs.Owed.{IsBusy, taken}
use Rattle.cursor_core.specs.Truths.{Good, TrueNow}
use Rattle.cursor_core.specs.Walked.{Answers}
use Rattle.acts_core.specs.Lists.{Begins, Passed}
use Rattle.acts_core.specs.Moments.{IsRow}
use Rattle.acts_core.specs.Sight.{Plan, Evidence}
use Rattle.cursor_core.proofs.Marks.{looked_more, mark_within}
use Rattle.cursor_core.proofs.Within.{good_more}
use Rattle.cursor_core.proofs.Carries.{place_more}

-- where a list begins is so of a longer call
begins_more : (v : Evidence) → (bells : Bool) (h c l : ℕ) (s0 s s1 b : List Deed) → IsPrefix s s1 → Begins v bells h c l s0 s b → Begins v bells h c l s0 s1 b
begins_more v true h c l s0 s s1 b p x = record { later = x.later; early = prefix_trans (b ++ deed h (Take c l) ∷ []) s s1 x.early p }
begins_more v false h c l s0 s s1 b p x = (record { later = x.0.later; early = prefix_trans b s s1 x.0.early p }, x.1)

-- what was passed in a call is passed in a longer one
passed_most : (v : Evidence) → (p : Plan) (h c l : ℕ) (s0 s s1 : List Deed) (Before : Row → Type 0) → IsPrefix s s1 → Passed v p h c s0 s l Before → Passed v p h c s0 s1 l Before
passed_most v p h c l s0 s s1 Before longer x =
    (x.0, begins_more v p.bells h c l s0 s s1 x.0 longer x.1, λ y is list before. looked_more p.opening c y.number _ s s1 longer (x.2 y is list before))

-- what all were passed of, some were
passed_less : (v : Evidence) → (p : Plan) (h c l : ℕ) (s0 s1 : List Deed) (Before Before' : Row → Type 0) → ((y : Row) → Before' y → Before y) → Passed v p h c s0 s1 l Before → Passed v p h c s0 s1 l Before'
passed_less v p h c l s0 s1 Before Before' less x = (x.0, x.1, λ y is list before. x.2 y is list (less y before))

-- a list that was passed in a call is passed in a longer one
pub passed_more : (v : Evidence) (p : Plan) (h c l : ℕ) (s0 s s1 : List Deed) → IsPrefix s s1 → Passed v p h c s0 s l (λ y. Unit {0}) → Passed v p h c s0 s1 l (λ y. Unit {0})
passed_more v p h c l s0 s s1 longer x = passed_most v p h c l s0 s s1 (λ y. Unit {0}) longer x

-- a list that was passed was passed up to any row
pub passed_some : (v : Evidence) (p : Plan) (h c l : ℕ) (s0 s1 : List Deed) (x : Row) → Passed v p h c s0 s1 l (λ y. Unit {0}) → Passed v p h c s0 s1 l (λ y. Precedes ByList (after p.opening s1) y x)
passed_some v p h c l s0 s1 x all = passed_less v p h c l s0 s1 (λ y. Unit {0}) (λ y. Precedes ByList (after p.opening s1) y x) (λ y before. tt) all

-- a row of the beginning is at its place in the end
place_end : (o : Queue) (b s : List Deed) (p : IsPrefix b s) (y : Row) → IsRow (after o b) y → place_at (after o s) y.number ≡ place_at (after o b) y.number
place_end o b s p y is = ap (λ (ds : List Deed). place_at (after o ds) y.number) (sym p.1) ∙ place_more o y.number b p.0 (y, is)

-- the list of the answered row was passed up to it
pub passed_got : (v : Evidence) → (p : Plan) (h c l : ℕ) (s0 s1 b : List Deed) (x : Row) → Begins v p.bells h c l s0 s1 b → IsPrefix b s1 → x.slip.list ≡ l
    → Answers p.opening c l (place_at (after p.opening s1) x.number) b s1 → Passed v p h c s0 s1 l (λ y. Precedes ByList (after p.opening s1) y x)
passed_got v p h c l s0 s1 b x begins within here answers = (
  b,
  begins,
  λ y is list before. ⊎_elim
      (λ (higher : x.slip.list < y.slip.list). absurd (omega (arith, higher, here, list)))
      (λ (same : (y.slip.list ≡ x.slip.list) × (place_at (after p.opening s1) y.number < place_at (after p.opening s1) x.number)).
      answers y.number (record { row = y; found = is; list = list; below = omega (arith, same.1, place_end p.opening b s1 within y is) }))
      before,
)

-- The cursor stays true where one list was walked to a stop that is good, and no bell of another list was taken.
pub true_walked : (o : Queue) (c l w : ℕ) (stops : List ℕ) (ds es : List Deed) → Legal o (ds ++ es) → l < length stops → ((m : ℕ) → m ≢ l → taken c m es ≡ [])
    → Good o c l w (ds ++ es) → TrueNow o c stops ds → TrueNow o c (slice_set stops l w) (ds ++ es)
true_walked o c l w stops ds es legal inside others good old m low = ⊎_elim
    (λ (here : m ≡ l).
    subst (λ (k : ℕ). Good o c k (slice_index (slice_set stops l w) k) (ds ++ es)) (sym here)
    (subst (λ (v : ℕ). Good o c l v (ds ++ es)) (sym (get_or-set_same stops l w 0 inside)) good))
    (λ (away : m ≢ l).
    subst (λ (v : ℕ). Good o c m v (ds ++ es)) (sym (get_or-set_other stops l m w 0 away))
    (good_more o c m (slice_index stops m) ds es legal (others m away) (old m low)))
    (cases_eq m l)

-- a list was passed up to some place, and at some moment each row of it from there on was not free
pub passed_busy : (v : Evidence) (p : Plan) (h c l n : ℕ) (s0 s1 b at : List Deed) → Begins v p.bells h c l s0 s1 b → IsPrefix b at → IsPrefix at s1
    → ((e : ℕ) (x : Row) → row_at (after p.opening at) e ≡ Some x → x.slip.list ≡ l → n ≤ place_at (after p.opening at) e → IsBusy (after p.opening at) c e)
    → Answers p.opening c l n b s1 → Passed v p h c s0 s1 l (λ y. Unit {0})
passed_busy v p h c l n s0 s1 b at begins early late busy answers = (
  b,
  begins,
  λ y is list _. ⊎_elim
      (λ (low : place_at (after p.opening b) y.number < n). answers y.number (record { row = y; found = is; list = list; below = low }))
      (λ (high : n ≤ place_at (after p.opening b) y.number).
      let t = row_stays (after p.opening b) early.0 y.number y is in
      let found : row_at (after p.opening at) y.number ≡ Some t.0 = ap (λ (ds : List Deed). row_at (after p.opening ds) y.number) (sym early.1) ∙ ap (λ (q : Queue). row_at q y.number) (after-append p.opening b early.0) ∙ t.1 in
      let there = busy y.number t.0 found (ap (λ (s : Slip). s.list) t.2.slip ∙ list) (omega (arith, high, place_end p.opening b at early y is)) in
      let within = mark_within c y.number b in
      let long = prefix_length b at early in
      record { at = at; prefix = late; long = omega (arith, within, long); busy = there })
      (cases_lt (place_at (after p.opening b) y.number) n),
)

-- what was passed since a later beginning was passed since an earlier one
begins_wider : (v : Evidence) (bells : Bool) (h c l : ℕ) (s0 s s1 b : List Deed) → IsPrefix s0 s → Begins v bells h c l s s1 b → Begins v bells h c l s0 s1 b
begins_wider v true h c l s0 s s1 b p x = record { later = prefix_trans s0 s b p x.later; early = x.early }
begins_wider v false h c l s0 s s1 b p x = (record { later = prefix_trans s0 s b p x.0.later; early = x.0.early }, x.1)

pub passed_wider : (v : Evidence) (p : Plan) (h c l : ℕ) (s0 s s1 : List Deed) (Before : Row → Type 0) → IsPrefix s0 s → Passed v p h c s s1 l Before → Passed v p h c s0 s1 l Before
passed_wider v p h c l s0 s s1 Before earlier x = (x.0, begins_wider v p.bells h c l s0 s s1 x.0 earlier x.1, x.2)

-- where bells are taken a beginning needs no other evidence
pub passed_any : (v w : Evidence) (p : Plan) (h c l : ℕ) (s0 s1 : List Deed) (Before : Row → Type 0) → p.bells ≡ true → Passed v p h c s0 s1 l Before → Passed w p h c s0 s1 l Before
passed_any v w p h c l s0 s1 Before bells x =
    (x.0, subst (λ (b : Bool). Begins w b h c l s0 s1 x.0) (sym bells) (subst (λ (b : Bool). Begins v b h c l s0 s1 x.0) bells x.1), x.2)
