-- cursors that go from pass to pass
use Rattle.std.proofs.Common.{◌≡◌, ◌≢◌, inl, inr, ℕ, zero, suc, ◌+◌, ◌<◌, ◌≤◌, Option, Some, None, List, [], ◌∷◌, ◌++◌, length, get_or, slice_set, length-set, refl, sym, ap, ◌∙◌, subst, ⊎_elim, arith}
use Rattle.std.proofs.lemmas.Bool.{cases_eq, cases_lt}
use Rattle.std.proofs.lemmas.List.{get_or-set_same, get_or-set_other}
use Rattle.std.specs.List.{AllByRecursion}
use mathlib.Core.List.{Mem}
use Rattle.acts_core.specs.Calls.{Call, CallNext, Answer}
use Rattle.acts_core.specs.declared.cargoes.Next.{Next}
use Rattle.acts_core.specs.Load.{Load}
use Rattle.acts_core.specs.Meaning.{Called}
use Rattle.acts_core.specs.Replies.{of_next}
use Rattle.acts_core.specs.Sight.{Build, Sight, plan_of}
use Rattle.entry_table.specs.Views.{Has}
use Rattle.cursor_core.specs.declared.cursor.Cursor.{Cursor}
use Rattle.cursor_core.specs.Holding.{cursor_at, IsOwn, AreTrueOf, AreFresh, or_other, AreHanded, GoesOn, WalksFrom}
use Rattle.cursor_core.specs.Listing.{IsTrueOf}
use Rattle.cursor_core.proofs.Outlasting.{call_untaken, cursor_outlasts}

-- One place

set_here : (slots : List (Option Cursor)) (c : ℕ) (o : Option Cursor) → c < length slots → cursor_at (slice_set slots c o) c ≡ o
set_here slots c o within = get_or-set_same slots c o None within

set_away : (slots : List (Option Cursor)) (c d : ℕ) (o : Option Cursor) → d ≢ c → cursor_at (slice_set slots c o) d ≡ cursor_at slots d
set_away slots c d o away = get_or-set_other slots c d o None away

-- beyond the places there is none
pub beyond : (slots : List (Option Cursor)) (c : ℕ) → length slots ≤ c → cursor_at slots c ≡ None
beyond [] c high = refl
beyond (o ∷ slots) zero high = absurd (omega (arith, high))
beyond (o ∷ slots) (suc c) high = beyond slots c (omega (arith, high))

-- an element of a list whose elements are all low
pub all_in : (m : ℕ) (cs : List ℕ) (n d : ℕ) → n < length cs → AllByRecursion (λ c. c < m) cs → get_or cs n d < m
all_in m [] n d within all = absurd (omega (arith, within))
all_in m (c ∷ cs) zero d within all = all.0
all_in m (c ∷ cs) (suc n) d within all = all_in m cs n d (omega (arith, within)) all.1

-- a consumer that has a cursor is below the number of places
pub below_places : (s : Sight) (slots : List (Option Cursor)) (n c : ℕ) → AreTrueOf s slots → length slots ≡ n → Mem c s.consumers → c < n
below_places s slots n c t long mem = ⊎_elim
    (λ (low : c < n). low)
    (λ (high : n ≤ c).
    let own = t.own c mem in
    let none : cursor_at slots c ≡ None = beyond slots c (omega (arith, long, high)) in
    let bad : None ≡ Some own.cursor = sym none ∙ own.is in
    absurd (cc))
    (cases_lt c n)

-- what stands in a place does not hang on what stands for none
pub any_default : (slots : List (Option Cursor)) (c : ℕ) (o p : Option Cursor) → c < length slots → get_or slots c o ≡ get_or slots c p
any_default [] c o p within = absurd (omega (arith, within))
any_default (x ∷ slots) zero o p within = refl
any_default (x ∷ slots) (suc c) o p within = any_default slots c o p (omega (arith, within))

-- Fresh cursors

pub fresh_none : (s : Sight) (slots : List (Option Cursor)) → ((c : ℕ) → cursor_at slots c ≡ None) → AreFresh s 0 slots
fresh_none s slots none = record { own = λ c low. absurd (omega (arith, low)); none = λ c high. none c }

pub fresh_more : (s : Sight) (n : ℕ) (slots : List (Option Cursor)) (k : Cursor) → n < length slots → k.consumer ≡ n → IsTrueOf s k → AreFresh s n slots → AreFresh s (n + 1) (slice_set slots n (Some k))
fresh_more s n slots k within own truth f = record {
  own = λ c low. ⊎_elim
      (λ (here : c ≡ n).
      subst (λ (d : ℕ). IsOwn s d (cursor_at (slice_set slots n (Some k)) d)) (sym here)
      (record { cursor = k; is = set_here slots n (Some k) within; consumer = own; truth = truth }))
      (λ (away : c ≢ n). subst (IsOwn s c) (sym (set_away slots n c (Some k) away)) (f.own c (omega (arith, low, away))))
      (cases_eq c n);
  none = λ c high. set_away slots n c (Some k) (λ e. omega (arith, e, high)) ∙ f.none c (omega (arith, high));
}

-- The next entry

-- the cursor that a call of next went on from is the consumer's own
pub first_own : (s : Sight) (c : ℕ) (slots : List (Option Cursor)) (k : Cursor) → IsOwn s c (cursor_at slots c) → cursor_at slots c ≡ Some k → k.consumer ≡ c
first_own s c slots k own from =
    let both : Some own.cursor ≡ Some k = sym own.is ∙ from in
    let is : own.cursor ≡ k = cc in
    ap (λ (z : Cursor). z.consumer) (sym is) ∙ own.consumer

-- the cursors after a call of next
pub true_next : {C : Type 0} (load : C → Load) (build : Build) (old new : Sight) (c : ℕ) (slots now : List (Option Cursor)) (o : Option Cursor) (result : Next C) → c < length slots → ((d : ℕ) → cursor_at now d ≡ cursor_at (slice_set slots c o) d) → new.consumers ≡ old.consumers → Mem c old.consumers → AreTrueOf old slots → GoesOn load build old new (cursor_at slots c) o result
    → AreTrueOf new now
true_next load build old new c slots now o result within is_now same mem t g =
    let mine : g.first.consumer ≡ c = first_own old c slots g.first (t.own c mem) g.from in
    record {
      own = λ d has.
          let had : Mem d old.consumers = subst (Mem d) same has in
          ⊎_elim
          (λ (here : d ≡ c).
          subst (λ (e : ℕ). IsOwn new e (cursor_at now e)) (sym here)
          (record { cursor = g.last; is = is_now c ∙ set_here slots c o within ∙ g.to; consumer = g.consumer ∙ mine; truth = g.truth }))
          (λ (away : d ≢ c).
          let k = t.own d had in
          subst (IsOwn new d) (sym (is_now d ∙ set_away slots c d o away))
          (record {
            cursor = k.cursor;
            is = k.is;
            consumer = k.consumer;
            truth =
                cursor_outlasts build old new (CallNext g.first.consumer) (of_next load g.called.0 result) k.cursor g.called.1 (subst (λ (e : ℕ). Mem e old.consumers) (sym k.consumer) had)
                (call_untaken (plan_of build old.opening) old.caller k.cursor.consumer (CallNext g.first.consumer) (of_next load g.called.0 result) (λ e. away (sym k.consumer ∙ next_of e ∙ mine))) k.truth;
          }))
          (cases_eq d c);
      only = λ d k found. ⊎_elim
          (λ (here : d ≡ c). subst (λ (e : ℕ). Mem e new.consumers) (sym here) (subst (Mem c) (sym same) mem))
          (λ (away : d ≢ c). subst (Mem d) (sym same) (t.only d k (sym (is_now d ∙ set_away slots c d o away) ∙ found)))
          (cases_eq d c);
    }
  where
    next_of : {a b : ℕ} → CallNext a ≡ CallNext b → b ≡ a
    next_of e = cc

pub walks_on : {C : Type 0} (load : C → Load) (build : Build) (old new : Sight) (c : ℕ) (slots now : List (Option Cursor)) (o : Option Cursor) (result : Next C) → c < length slots → ((d : ℕ) → cursor_at now d ≡ cursor_at (slice_set slots c o) d) → GoesOn load build old new (cursor_at slots c) o result → WalksFrom old new c slots now result
walks_on load build old new c slots now o result within is_now g = record { first = g.first; last = g.last; from = g.from; to = is_now c ∙ set_here slots c o within ∙ g.to; walks = g.walks }

-- a place that is emptied and then written
pub set_twice : (slots : List (Option Cursor)) (c : ℕ) (o p : Option Cursor) → c < length slots → (d : ℕ) → cursor_at (slice_set (slice_set slots c o) c p) d ≡ cursor_at (slice_set slots c p) d
set_twice slots c o p within d = ⊎_elim
    (λ (here : d ≡ c).
    ap (cursor_at (slice_set (slice_set slots c o) c p)) here ∙ set_here (slice_set slots c o) c p (subst (λ (n : ℕ). c < n) (sym (length-set slots c o)) within)
    ∙ sym (set_here slots c p within) ∙ ap (cursor_at (slice_set slots c p)) (sym here))
    (λ (away : d ≢ c). set_away (slice_set slots c o) c d p away ∙ set_away slots c d o away ∙ sym (set_away slots c d p away))
    (cases_eq d c)

-- places of which each is empty
pub none_in : (slots : List (Option Cursor)) (n : ℕ) → length slots ≡ n → ((k : ℕ) → k < n → get_or slots k None ≡ None) → (c : ℕ) → cursor_at slots c ≡ None
none_in slots n long none c = ⊎_elim (λ (low : c < n). none c low) (λ (high : n ≤ c). beyond slots c (omega (arith, long, high))) (cases_lt c n)

-- places that stay as they are where none is taken from them
pub set_same : (slots : List (Option Cursor)) (c : ℕ) (o : Option Cursor) → c < length slots → o ≡ cursor_at slots c → (d : ℕ) → cursor_at slots d ≡ cursor_at (slice_set slots c o) d
set_same slots c o within is d = ⊎_elim
    (λ (here : d ≡ c). ap (cursor_at slots) here ∙ sym is ∙ sym (set_here slots c o within) ∙ ap (cursor_at (slice_set slots c o)) (sym here))
    (λ (away : d ≢ c). sym (set_away slots c d o away))
    (cases_eq d c)

-- Other calls

-- the cursors after a call that takes no bell
pub true_last : (build : Build) (old new : Sight) (call : Call) (answer : Answer) (slots : List (Option Cursor)) → Called build old new call answer → ((c : ℕ) → call ≢ CallNext c) → AreTrueOf old slots → AreTrueOf new slots
true_last build old new call answer slots m other t =
    let same : new.consumers ≡ old.consumers = ap (λ (s : Sight). s.consumers) m.rest in
    record {
      own = λ c mem.
          let had : Mem c old.consumers = subst (Mem c) same mem in
          let k = t.own c had in
          record {
            cursor = k.cursor;
            is = k.is;
            consumer = k.consumer;
            truth =
                cursor_outlasts build old new call answer k.cursor m (subst (λ (e : ℕ). Mem e old.consumers) (sym k.consumer) had)
                (call_untaken (plan_of build old.opening) old.caller k.cursor.consumer call answer (other k.cursor.consumer)) k.truth;
          };
      only = λ c k found. subst (Mem c) (sym same) (t.only c k found);
    }

-- Handing over

pub handed_none : (slots handed : List (Option Cursor)) → ((c : ℕ) → cursor_at handed c ≡ None) → AreHanded [] slots slots handed
handed_none slots handed none c = inr ((λ has. absurd has), refl, none c)

or_none : (o : Option Cursor) → or_other o None ≡ o
or_none None = refl
or_none (Some k) = refl

-- members
has_left : (k : ℕ) (xs ys : List ℕ) → Has k xs → Has k (xs ++ ys)
has_left k [] ys h = absurd h
has_left k (x ∷ xs) ys h = ⊎_elim (λ (e : x ≡ k). inl e) (λ (t : Has k xs). inr (has_left k xs ys t)) h

has_last : (k : ℕ) (xs : List ℕ) → Has k (xs ++ k ∷ [])
has_last k [] = inl refl
has_last k (x ∷ xs) = inr (has_last k xs)

not_more : (xs : List ℕ) (c d : ℕ) → d ≢ c → (Has d xs → ⊥) → Has d (xs ++ c ∷ []) → ⊥
not_more [] c d away none h = ⊎_elim (λ (e : c ≡ d). away (sym e)) (λ z. z) h
not_more (x ∷ xs) c d away none h = ⊎_elim (λ (e : x ≡ d). none (inl e)) (λ (t : Has d (xs ++ c ∷ [])). not_more xs c d away (λ z. none (inr z)) t) h

-- one consumer more
pub handed_more : (front : List ℕ) (c : ℕ) (old now handed now' handed' : List (Option Cursor)) → c < length now → c < length handed → now' ≡ slice_set now c None → ((d : ℕ) → cursor_at handed' d ≡ cursor_at (slice_set handed c (or_other (cursor_at now c) (cursor_at handed c))) d)
    → AreHanded front old now handed → AreHanded (front ++ c ∷ []) old now' handed'
handed_more front c old now handed now' handed' in_now in_handed is is' h d = ⊎_elim
    (λ (here : d ≡ c).
    let gone : cursor_at now' d ≡ None = ap (λ (xs : List (Option Cursor)). cursor_at xs d) is ∙ ap (cursor_at (slice_set now c None)) here ∙ set_here now c None in_now in
    let got : cursor_at handed' d ≡ or_other (cursor_at now c) (cursor_at handed c) = is' d ∙ ap (cursor_at (slice_set handed c (or_other (cursor_at now c) (cursor_at handed c)))) here ∙ set_here handed c (or_other (cursor_at now c) (cursor_at handed c)) in_handed in
    let mine : or_other (cursor_at now c) (cursor_at handed c) ≡ cursor_at old c = ⊎_elim
    (λ (over : Has c front × (cursor_at now c ≡ None) × (cursor_at handed c ≡ cursor_at old c)). ap (λ (o : Option Cursor). or_other o (cursor_at handed c)) over.1 ∙ over.2)
    (λ (stay : (Has c front → ⊥) × (cursor_at now c ≡ cursor_at old c) × (cursor_at handed c ≡ None)). ap (or_other (cursor_at now c)) stay.2 ∙ or_none (cursor_at now c) ∙ stay.1)
    (h c)
    in
    inl (subst (λ (e : ℕ). Has e (front ++ c ∷ [])) (sym here) (has_last c front), gone, got ∙ mine ∙ ap (cursor_at old) (sym here)))
    (λ (away : d ≢ c).
    let same : cursor_at now' d ≡ cursor_at now d = ap (λ (xs : List (Option Cursor)). cursor_at xs d) is ∙ set_away now c d None away in
    let same' : cursor_at handed' d ≡ cursor_at handed d = is' d ∙ set_away handed c d (or_other (cursor_at now c) (cursor_at handed c)) away in
    ⊎_elim
    (λ (over : Has d front × (cursor_at now d ≡ None) × (cursor_at handed d ≡ cursor_at old d)). inl (has_left d front (c ∷ []) over.0, same ∙ over.1, same' ∙ over.2))
    (λ (stay : (Has d front → ⊥) × (cursor_at now d ≡ cursor_at old d) × (cursor_at handed d ≡ None)). inr (not_more front c d away stay.0, same ∙ stay.1, same' ∙ stay.2))
    (h d))
    (cases_eq d c)

-- Taking in

-- the cursors below place n were taken in, and the others stand where they stood
abbrev pub TakenBelow : ℕ → List (Option Cursor) → List (Option Cursor) → List (Option Cursor) → List (Option Cursor) → Type 0
TakenBelow n old gone now left =
    ((c : ℕ) → c < n → cursor_at now c ≡ or_other (cursor_at gone c) (cursor_at old c)) × ((c : ℕ) → n ≤ c → (cursor_at now c ≡ cursor_at old c) × (cursor_at left c ≡ cursor_at gone c))

pub taken_none : (old gone : List (Option Cursor)) → TakenBelow 0 old gone old gone
taken_none old gone = (λ c low. absurd (omega (arith, low)), λ c high. (refl, refl))

pub taken_more : (n : ℕ) (old gone now left now' left' : List (Option Cursor)) → n < length now → left' ≡ slice_set left n None → ((d : ℕ) → cursor_at now' d ≡ cursor_at (slice_set now n (or_other (cursor_at left n) (cursor_at now n))) d) → TakenBelow n old gone now left → TakenBelow (n + 1) old gone now' left'
taken_more n old gone now left now' left' inside is is' t = (
  λ c low. ⊎_elim
      (λ (here : c ≡ n).
      let at = t.1 n (omega arith) in
      is' c ∙ ap (cursor_at (slice_set now n (or_other (cursor_at left n) (cursor_at now n)))) here ∙ set_here now n (or_other (cursor_at left n) (cursor_at now n)) inside
      ∙ ap (λ (o : Option Cursor). or_other o (cursor_at now n)) at.1 ∙ ap (or_other (cursor_at gone n)) at.0 ∙ ap (λ (k : ℕ). or_other (cursor_at gone k) (cursor_at old k)) (sym here))
      (λ (away : c ≢ n). is' c ∙ set_away now n c (or_other (cursor_at left n) (cursor_at now n)) away ∙ t.0 c (omega (arith, low, away)))
      (cases_eq c n),
  λ c high.
      let away : c ≢ n = λ e. omega (arith, e, high) in
      let at = t.1 c (omega (arith, high)) in (
        is' c ∙ set_away now n c (or_other (cursor_at left n) (cursor_at now n)) away ∙ at.0,
        ap (λ (xs : List (Option Cursor)). cursor_at xs c) is ∙ set_away left n c None away ∙ at.1,
      ),
)

pub taken_all : (n : ℕ) (old gone now left : List (Option Cursor)) → length old ≤ n → length gone ≤ n → length now ≤ n → TakenBelow n old gone now left → (c : ℕ) → cursor_at now c ≡ or_other (cursor_at gone c) (cursor_at old c)
taken_all n old gone now left a b d t c = ⊎_elim
    (λ (low : c < n). t.0 c low)
    (λ (high : n ≤ c).
    beyond now c (omega (arith, d, high))
    ∙ sym (ap (λ (o : Option Cursor). or_other o (cursor_at old c)) (beyond gone c (omega (arith, b, high))) ∙ beyond old c (omega (arith, a, high))))
    (cases_lt c n)
