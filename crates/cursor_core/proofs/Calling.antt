-- a call over all lists
use Rattle.std.proofs.Common.{◌≡◌, ℕ, suc, ◌+◌, [], ◌∷◌, ap, subst, arith}
use Rattle.queue_model.specs.declared.deeds.Act.TheVariants.{Acq}
use Rattle.queue_model.specs.declared.queues.Queue.{Queue}
use Rattle.queue_model.specs.declared.rows.Row.{Row}
use Rattle.queue_model.specs.declared.rows.RowState.TheVariants.{Available}
use Rattle.acts_core.specs.Calls.{CallOldest, IsGot, IsEmpty}
use Rattle.acts_core.specs.Lists.{Gets}
use Rattle.acts_core.specs.Load.{Load}
use Rattle.acts_core.specs.Meaning.{Called}
use Rattle.acts_core.specs.Sight.{Listed, Build, Sight}
use Rattle.acts_core.specs.Walks.{Ask, Ready, Ended, Done}
use Rattle.acts_core.proofs.Answering.{oldest_empty, oldest_got}
use Rattle.acts_core.proofs.Walking.{done_up, done_got}
use Rattle.queue_model.proofs.Prefixes.{prefix_trans}
use Rattle.cursor_core.specs.Takes.{GotReady}

-- what a later part of the call got, the call got
gets_from : (old now new : Sight) (ask : Ask) (low high r l : ℕ) (load : Load) (Fits : Row → Type 0) → Done old now ask low high → Gets now.opening now.caller now.seen new.seen r l load Fits → Gets old.opening old.caller old.seen new.seen r l load Fits
gets_from old now new ask low high r l load Fits d g =
    let opening : now.opening ≡ old.opening = ap (λ (v : Sight). v.opening) d.steps.rest in
    let caller : now.caller ≡ old.caller = ap (λ (v : Sight). v.caller) d.steps.rest in
    subst (λ (o : Queue). Gets o old.caller old.seen new.seen r l load Fits) opening
    (subst (λ (h : ℕ). Gets now.opening h old.seen new.seen r l load Fits) caller
    (record { moment = g.moment; before = record { later = prefix_trans old.seen now.seen g.moment d.steps.grows g.before.later; early = g.before.early }; hands = g.hands; list = g.list; fits = g.fits }))

-- oldest, from the lowest list up
pub more_done : (old now new : Sight) (ask : Ask) (l : ℕ) → Done old now ask 0 l → Ended now new ask l → Done old new ask 0 (l + 1)
more_done old now new ask l d e = let one : suc l ≡ l + 1 = omega arith in subst (λ (n : ℕ). Done old new ask 0 n) one (done_up old now new ask 0 l (omega arith) d e)

pub oldest_answers : (build : Build) (l r : ℕ) (load : Load) (old now new : Sight) → build.kind ≡ Listed → Done old now Ready 0 l → GotReady now new l r load → (list : ℕ) × Called build old new CallOldest (IsGot r list load)
oldest_answers build l r load old now new listed d g =
    let s = done_got old now new Ready 0 l l r (Acq r ∷ []) d (d.higher l (omega arith)) g.reached in
    (l, oldest_got build l r load old new listed s (gets_from old now new Ready 0 l r l load (λ x. x.state ≡ Available) d g.gets))

pub oldest_ends : (build : Build) (l : ℕ) (old new : Sight) → build.kind ≡ Listed → l ≡ old.opening.lists → Done old new Ready 0 l → (list : ℕ) × Called build old new CallOldest IsEmpty
oldest_ends build l old new listed all d = (0, oldest_empty build old new listed (subst (λ (n : ℕ). Done old new Ready 0 n) all d))
