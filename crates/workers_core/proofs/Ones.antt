-- one pass of many changed
use Rattle.std.proofs.Common.{◌≡◌, ◌≢◌, ◌<◌, ℕ, zero, suc, Some, List, [], ◌∷◌, ◌++◌, length, slice_get, slice_set, refl, sym, ap, ◌∙◌, subst, ⊎_elim, append-nil}
use Rattle.std.specs.List.{AllByRecursion}
use Rattle.std.proofs.lemmas.Bool.{cases_eq}
use Rattle.acts_core.specs.Calls.{Call, Answer}
use Rattle.acts_core.specs.Sight.{Build, Sight}
use Rattle.defs_read.specs.Defined.{Defined}
use Rattle.script_read.specs.declared.lines.Op.{Op}
use Rattle.report_core.specs.declared.answers.Answer as report
use Rattle.line_core.specs.Fits.{Did, Standing}
use Rattle.line_core.specs.Hands.{Hand}
use Rattle.workers_core.specs.Hold.{Hold, KeepsOthers, MineOn}
use Rattle.workers_core.specs.Ready.{Holds}
use Rattle.line_core.specs.Runs.{DidLines, DidOn, Ran, RanOn, calls_on}
use Rattle.line_core.proofs.Running.{ran_none}

module _ {X : Type 0} where
  pub set_here : (xs : List X) (i : ℕ) (x y : X) → slice_get xs i ≡ Some y → slice_get (slice_set xs i x) i ≡ Some x
  set_here [] i x y at = absurd (cc)
  set_here (z ∷ zs) zero x y at = refl
  set_here (z ∷ zs) (suc i) x y at = set_here zs i x y at

  pub set_other : (xs : List X) (i k : ℕ) (x : X) → k ≢ i → slice_get (slice_set xs i x) k ≡ slice_get xs k
  set_other [] zero k x apart = refl
  set_other [] (suc i) k x apart = refl
  set_other (z ∷ zs) zero zero x apart = absurd (apart refl)
  set_other (z ∷ zs) zero (suc k) x apart = refl
  set_other (z ∷ zs) (suc i) zero x apart = refl
  set_other (z ∷ zs) (suc i) (suc k) x apart = set_other zs i k x (λ e. apart (ap suc e))

  pub set_length : (xs : List X) (i : ℕ) (x : X) → length (slice_set xs i x) ≡ length xs
  set_length [] zero x = refl
  set_length [] (suc i) x = refl
  set_length (z ∷ zs) zero x = refl
  set_length (z ∷ zs) (suc i) x = ap suc (set_length zs i x)

-- the calls by one pass are those by all
pub did_one : (builds : List Build) (q : ℕ) (olds : List Sight) (b : Build) (old new : Sight) (dids : List Did) → slice_get builds q ≡ Some b → slice_get olds q ≡ Some old → RanOn b (calls_on q dids) old new → ((r : ℕ) → (r ≡ q → ⊥) → calls_on r dids ≡ []) → Ran builds olds dids (slice_set olds q new)
did_one builds q olds b old new dids built there here elsewhere = record { as_many = set_length olds q new; on_each = on_each } where
  on_each : (r : ℕ) (u : Build) (s t : Sight) → slice_get builds r ≡ Some u → slice_get olds r ≡ Some s → slice_get (slice_set olds q new) r ≡ Some t → RanOn u (calls_on r dids) s t
  on_each r u s t at_b at_s at_t = ⊎_elim
      (λ (e : r ≡ q).
      let bs : Some u ≡ Some b = sym at_b ∙ ap (slice_get builds) e ∙ built in
      let ss : Some s ≡ Some old = sym at_s ∙ ap (slice_get olds) e ∙ there in
      let ts : Some t ≡ Some new = sym at_t ∙ ap (slice_get (slice_set olds q new)) e ∙ set_here olds q new old there in
      let be : b ≡ u = cc in let se : old ≡ s = cc in let te : new ≡ t = cc in
      subst (λ (n : ℕ). RanOn u (calls_on n dids) s t) (sym e) (subst (λ (z : Build). RanOn z (calls_on q dids) s t) be (subst (λ (z : Sight). RanOn b (calls_on q dids) z t) se (subst (λ (z : Sight). RanOn b (calls_on q dids) old z) te here))))
      (λ (other : r ≢ q).
      let both : Some s ≡ Some t = sym at_s ∙ sym (set_other olds q r new other) ∙ at_t in
      let same : s ≡ t = cc in
      subst (λ (z : Sight). RanOn u (calls_on r dids) s z) same (subst (λ (cs : List (Call × Answer)). RanOn u cs s s) (sym (elsewhere r other)) (ran_none u s)))
      (cases_eq r q)

-- a line over one pass is a line over all
pub line_one : (defs : List Defined) (builds : List Build) (q : ℕ) (olds : List Sight) (b : Build) (old new : Sight) (s s' : Standing) (op : Op) (a : report.Answer) → slice_get builds q ≡ Some b → slice_get olds q ≡ Some old
    → DidOn defs b q old s op.what a new s' → DidLines defs builds olds s (op ∷ []) (a ∷ []) (slice_set olds q new) s'
line_one defs builds q olds b old new s s' op a built there did = record {
  dids = did.dids ++ [];
  fits = (did.dids, s', [], did.fits, (refl, refl), refl);
  ran = subst (λ (ds : List Did). Ran builds olds ds (slice_set olds q new)) (sym (append-nil did.dids)) (did_one builds q olds b old new did.dids built there did.here did.elsewhere);
}

-- the hands on one pass, and on all after a line by it
pub hold_here : (olds : List Sight) (hands : List Hand) (q : ℕ) (old : Sight) → Holds olds hands → slice_get olds q ≡ Some old → Hold old q hands
hold_here olds hands q old holds there = record { mine = holds.mine q old there; apart = holds.apart }

pub holds_after : (olds : List Sight) (hands hands' : List Hand) (q : ℕ) (old new : Sight) → Holds olds hands → slice_get olds q ≡ Some old → q < length olds → Hold new q hands' → KeepsOthers q hands hands' → Holds (slice_set olds q new) hands'
holds_after olds hands hands' q old new holds there less hold others = record {
  mine = mine;
  within = subst (λ (n : ℕ). AllByRecursion (λ k. k.queue < n) hands') (sym (set_length olds q new)) (others.within (length olds) less holds.within);
  apart = hold.apart;
} where
  mine : (r : ℕ) (t : Sight) → slice_get (slice_set olds q new) r ≡ Some t → AllByRecursion (MineOn t r) hands'
  mine r t at = ⊎_elim
      (λ (e : r ≡ q).
      let ts : Some t ≡ Some new = sym at ∙ ap (slice_get (slice_set olds q new)) e ∙ set_here olds q new old there in
      let te : new ≡ t = cc in
      subst (λ (n : ℕ). AllByRecursion (MineOn t n) hands') (sym e) (subst (λ (z : Sight). AllByRecursion (MineOn z q) hands') te hold.mine))
      (λ (other : r ≢ q). others.mine t r other (holds.mine r t (sym (set_other olds q r new other) ∙ at)))
      (cases_eq r q)

-- each pass is still one of its queue
pub serve_after : {Q P : Type 0} (serves : Q → P → Type 0) (queues : List Q) (passes : List P) (i : ℕ) (queue : Q) (old new : P) → ((k : ℕ) (q : Q) (p : P) → slice_get queues k ≡ Some q → slice_get passes k ≡ Some p → serves q p)
    → slice_get queues i ≡ Some queue → slice_get passes i ≡ Some old → serves queue new → (k : ℕ) (q : Q) (p : P) → slice_get queues k ≡ Some q → slice_get (slice_set passes i new) k ≡ Some p → serves q p
serve_after serves queues passes i queue old new each queued there now k q p at_q at_p = ⊎_elim
    (λ (e : k ≡ i).
    let qs : Some q ≡ Some queue = sym at_q ∙ ap (slice_get queues) e ∙ queued in
    let ps : Some p ≡ Some new = sym at_p ∙ ap (slice_get (slice_set passes i new)) e ∙ set_here passes i new old there in
    let qe : queue ≡ q = cc in let pe : new ≡ p = cc in
    subst (λ z. serves z p) qe (subst (λ z. serves queue z) pe now))
    (λ (other : k ≢ i). each k q p at_q (sym (set_other passes i k new other) ∙ at_p))
    (cases_eq k i)
