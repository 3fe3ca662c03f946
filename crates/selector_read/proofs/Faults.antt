-- What the machine calls a fault is one by the grammar, and what it lets pass is none.
use Rattle.std.proofs.Common.{◌≡◌, ℕ, suc, ◌+◌, true, List, [], ◌∷◌, ◌++◌, inl, inr, refl, sym, ◌∙◌, subst, append_assoc, arith}
use Rattle.selector_tokens.specs.declared.faults.Kind.{Kind}
use Rattle.selector_tokens.specs.declared.tokens.Token.{Token}
use Rattle.selector_read.specs.Grammar.{GoesOn, GoesOnWithin, most_nested}
use Rattle.selector_read.specs.Selectors.{IsUnexpected, IsTooDeep, IsAtFault, IsFaultless, may_nest}
use Rattle.selector_read.specs.Reading.{State, Step, goes, unexpected, too_deep, open_pattern, nesting, step, start}
use Rattle.selector_read.proofs.Runs.{run}
use Rattle.selector_read.proofs.Complete.{complete}
use Rattle.selector_read.proofs.CompleteSteps.{run_on}
use Rattle.selector_read.proofs.FaultsLimits.{is_stop, stops_too, deep_is, run_too, same_end, one_goes, one_run, cut}

-- what goes on in a whole run goes on to each place in it
pub front_runs : (most : ℕ) (ts us : List Token) (s : State) → run most start (ts ++ us) ≡ goes s
    → (mid : State) × (run most start ts ≡ goes mid) × (run most mid us ≡ goes s)
front_runs most ts us s h = let c = cut most ts us start s h in (c.mid, c.front, c.back)

-- where selectors within a limit go on with a token, the machine does
goes_within : (most d : ℕ) (before : List Token) (t : Token) (s : State) → run most start before ≡ goes s
    → GoesOnWithin d (before ++ t ∷ []) → (n : State) × (step d s t ≡ goes n)
goes_within most d before t s h on =
    let whole = complete d ((before ++ t ∷ []) ++ on.0) on.1 on.2 in
    let front = cut d (before ++ t ∷ []) on.0 start whole.0 whole.1 in
    let last = cut d before (t ∷ []) start front.mid front.front in (
      front.mid,
      one_goes d s t front.mid (subst (λ x. run d x (t ∷ []) ≡ goes front.mid)
          (same_end d most before start last.mid s last.front h) last.back),
    )

stop_is : (most : ℕ) (before : List Token) (t : Token) (s : State) (one : Step) → is_stop one ≡ true
    → run most start before ≡ goes s → step most s t ≡ one → IsUnexpected before t
stop_is most before t s one stop h is on =
    let next = goes_within most on.0 before t s h on.1 in
    let e : one ≡ goes next.0 = sym (stops_too most on.0 s t one is stop) ∙ next.1 in
    let no : is_stop (goes next.0) ≡ true = subst (λ x. is_stop x ≡ true) e stop in
    cc

pub unexpected_is : (most : ℕ) (before : List Token) (t : Token) (s : State) → run most start before ≡ goes s
    → step most s t ≡ unexpected → IsUnexpected before t
unexpected_is most before t s h is = stop_is most before t s unexpected refl h is

pub open_pattern_is : (most : ℕ) (before : List Token) (t : Token) (s : State) → run most start before ≡ goes s
    → step most s t ≡ open_pattern → IsUnexpected before t
open_pattern_is most before t s h is = stop_is most before t s open_pattern refl h is

-- no selector within the limit goes on with a token that is too deep
too_deep_within : (before : List Token) (t : Token) (s : State) → run most_nested start before ≡ goes s
    → step most_nested s t ≡ too_deep → GoesOnWithin most_nested (before ++ t ∷ []) → ⊥
too_deep_within before t s h is on =
    let next = goes_within most_nested most_nested before t s h on in
    let e : too_deep ≡ goes next.0 = sym is ∙ next.1 in
    cc

-- The argument is the other half, that selectors go on where the machine does (Sound.antt has it where no number is negative, as in each text).
pub too_deep_is : (before : List Token) (t : Token) (s : State)
    → ((d : ℕ) (n : State) → run d start (before ++ t ∷ []) ≡ goes n → GoesOn (before ++ t ∷ []))
    → run most_nested start before ≡ goes s → step most_nested s t ≡ too_deep → IsTooDeep before t
too_deep_is before t s goes_on h is =
    let deep = deep_is most_nested s t is in
    let d = suc (most_nested + nesting s.begun) in
    let front : run d start before ≡ goes s = run_too most_nested d before start s (omega arith) h in
    let last : run d s (t ∷ []) ≡ goes deep.next = one_run d s t deep.next (deep.deeper d (omega arith)) in
    record {
      nests = deep.nests;
      goes_on = goes_on d deep.next (run_on d before (t ∷ []) start s deep.next front last);
      deep = too_deep_within before t s h is;
    }

-- where selectors go on with each token of a run, and within the limit where it may nest
abbrev pub GoesOnAt : List Token → Token → Type 0
GoesOnAt before t = GoesOn (before ++ t ∷ []) × (may_nest t ≡ true → GoesOnWithin most_nested (before ++ t ∷ []))

no_fault : (kind : Kind) (before : List Token) (t : Token) → GoesOnAt before t → IsAtFault kind before t → ⊥
no_fault kind before t on (inl none) = none.1 on.0
no_fault kind before t on (inr deep) = deep.1.deep (on.1 deep.1.nests)

pub faultless_is : (ts : List Token) (s : State)
    → ((before after : List Token) (t : Token) (n : State) → ts ≡ before ++ t ∷ after
    → run most_nested start (before ++ t ∷ []) ≡ goes n → GoesOnAt before t)
    → run most_nested start ts ≡ goes s → IsFaultless ts
faultless_is ts s goes_on h kind before after t is fault =
    let same : ts ≡ (before ++ t ∷ []) ++ after = is ∙ sym (append_assoc before (t ∷ []) after) in
    let all : run most_nested start ((before ++ t ∷ []) ++ after) ≡ goes s =
    subst (λ x. run most_nested start x ≡ goes s) same h in
    let front = cut most_nested (before ++ t ∷ []) after start s all in
    no_fault kind before t (goes_on before after t front.mid is front.front) fault
