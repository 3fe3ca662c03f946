use Rattle.std.proofs.Common.{◌≡◌, ◌≢◌, inl, ◌<◌, ◌≤◌, ◌+◌, ℕ, false, Some, [], ◌∷◌, filter, ◌==◌, refl, sym, ap, ◌∙◌, subst, arith, ne_eqb, length-append}
use Rattle.std.proofs.lemmas.Bool.{cond-false}
use Rattle.history_lock.specs.declared.view.View.{View}
use Rattle.history_lock.specs.Counting.{counting}
use Rattle.history_lock.specs.Views.{Has, Leads}
use Rattle.history_lock.specs.Plays.{Live, Took, Owes, ForAll, given, opened}
use Rattle.history_lock.proofs.tests.ample.Goals as goal

-- the pass that a new lock gives is alive
alive : (v : View ℕ ℕ) → v ≡ opened 5 1 0 [] → Live 5 v
alive v is = record { opening = ap (λ (w : View ℕ ℕ). w.opening) is; caller = 0; ended = []; speaks = ap (λ (w : View ℕ ℕ). w.callers) is }

-- another has none of this event
others : (k : ℕ) → k ≢ 0 → filter (λ (e : ℕ). e == k) (0 ∷ []) ≡ []
others k off = cond-false (0 == k) (0 ∷ []) [] (ne_eqb 0 k (λ e. off (sym e)))

abbrev Owed : View ℕ ℕ → ℕ → Type 0
Owed w n = (o : ℕ) × (l : Live o w) × Owes counting o l.caller w (n + 1) (0 ∷ []) 0 0

-- what the pass owes that got the number
owes : (v w : View ℕ ℕ) (n : ℕ) → v ≡ opened 5 1 0 [] → Took counting 5 v w n → Owed w n
owes v w n is t = (
  5,
  record { opening = ap (λ (x : View ℕ ℕ). x.opening) t.view ∙ ap (λ (x : View ℕ ℕ). x.opening) is; caller = 0; ended = []; speaks = ap (λ (x : View ℕ ℕ). x.callers) t.view ∙ ap (λ (x : View ℕ ℕ). x.callers) is },
  record {
    mine = others;
    legal = tt;
    stands = (let s = t.stands in let l = length-append w.seen (0 ∷ []) in omega arith);
    allowed = (let a : w.allowance ≡ 1 = ap (λ (x : View ℕ ℕ). x.allowance) t.view ∙ ap (λ (x : View ℕ ℕ). x.allowance) is in let l = length-append w.seen (0 ∷ []) in omega arith);
    shared = omega arith;
  },
)

small : (v w : View ℕ ℕ) (n : ℕ) → v ≡ opened 5 1 0 [] → Took counting 5 v w n → n ≤ 13
small v w n is t = let a = ap (λ (x : View ℕ ℕ). x.allowance) is in let m = t.allowed in let s = t.stands in omega arith

-- the pass speaks for all
for_all : (v w : View ℕ ℕ) (n : ℕ) → v ≡ opened 5 1 0 [] → Took counting 5 v w n → ((o : ℕ) × (w.opening ≡ Some o)) × (false ≡ false) × ForAll (given (0 ∷ []) 0 0 w)
for_all v w n is t =
    let callers : w.callers ≡ 0 ∷ [] = ap (λ (x : View ℕ ℕ). x.callers) t.view ∙ ap (λ (x : View ℕ ℕ). x.callers) is in
    let made : w.made ≡ 1 = ap (λ (x : View ℕ ℕ). x.made) t.view ∙ ap (λ (x : View ℕ ℕ). x.made) is in (
      (5, ap (λ (x : View ℕ ℕ). x.opening) t.view ∙ ap (λ (x : View ℕ ℕ). x.opening) is),
      refl,
      record {
        boss = subst Leads (sym callers) refl;
        all = λ k l. subst (Has k) (sym callers) (inl (let m : k < 1 = subst (λ (z : ℕ). k < z) made l in omega arith));
      },
    )

pub lock-number-requires-clause-live : goal.lock-number-requires-clause-live
lock-number-requires-clause-live g c = (5, alive c.open.new.seat.me.0 (ap (λ m. m.0) (c.open.ensures.me 5 refl)))

pub lock-number-requires-clause-idle : goal.lock-number-requires-clause-idle
lock-number-requires-clause-idle g c = ap (λ m. m.1) (c.open.ensures.me 5 refl)

pub overflow_add-number : goal.overflow_add-number
overflow_add-number g c =
    let is = ap (λ m. m.0) (c.open.ensures.me 5 refl) in
    let s = small c.open.new.seat.me.0 c.lock-number.new.seat.me.0 c.lock-number.result is (c.lock-number.ensures.took 5 (alive c.open.new.seat.me.0 is).opening) in
    omega arith

pub unlock-requires-clause-out : goal.unlock-requires-clause-out
unlock-requires-clause-out g c =
    let is = ap (λ m. m.0) (c.open.ensures.me 5 refl) in
    (c.lock-number.ensures.out, ap (λ (x : View ℕ ℕ). x.holding) (c.lock-number.ensures.took 5 (alive c.open.new.seat.me.0 is).opening).view)

pub unlock-requires-clause-owes : goal.unlock-requires-clause-owes
unlock-requires-clause-owes g c =
    let is = ap (λ m. m.0) (c.open.ensures.me 5 refl) in
    owes c.open.new.seat.me.0 c.lock-number.new.seat.me.0 c.lock-number.result is (c.lock-number.ensures.took 5 (alive c.open.new.seat.me.0 is).opening)

pub close-requires-clause-boss : goal.close-requires-clause-boss
close-requires-clause-boss g c =
    let is = ap (λ m. m.0) (c.open.ensures.me 5 refl) in
    let f = for_all c.open.new.seat.me.0 c.lock-number.new.seat.me.0 c.lock-number.result is (c.lock-number.ensures.took 5 (alive c.open.new.seat.me.0 is).opening) in
    subst (λ (x : View ℕ ℕ). ((o : ℕ) × (x.opening ≡ Some o)) × (x.holding ≡ false) × ForAll x) (sym (ap (λ m. m.0) c.unlock.ensures.gave)) f
