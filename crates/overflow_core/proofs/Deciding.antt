-- decisions as the calls that they are
use Rattle.std.proofs.Common.{◌≡◌, ℕ, Bool, true, false, refl, sym, subst}
use Rattle.acts_core.specs.Calls.{Answer, CallDepth, CallReserve, CallGiveBack, CallOldest, IsDepth, IsDone}
use Rattle.acts_core.specs.Meaning.{Called}
use Rattle.acts_core.specs.Sight.{Build, Sight}
use Rattle.queue_model.specs.declared.queues.Depth.{Depth}
use Rattle.queue_model.specs.declared.queues.Limits.{Limits}
use Rattle.overflow_core.specs.declared.verdicts.Verdict.{Verdict}
use Rattle.overflow_core.specs.Calls.{Admits, GivesBack, Trims, IsWithin}
use Rattle.overflow_core.specs.Limits.{judged, is_refusal, is_ring, is_beyond}

-- a put that is refused was reserved and given back
pub refuses : (build : Build) (a b c : Sight) (limits : Limits) (was now persistent : Bool) (size : ℕ) (v : Verdict) (d : Depth)
    → Called build a b (CallReserve size) (IsDepth d) → Called build b c (CallGiveBack size) IsDone → (v, now) ≡ judged limits was persistent size d → is_refusal v ≡ true
    → Admits build a c limits was now persistent size v
refuses build a b c limits was now persistent size v d reserve back verdict refused = record {
  shown = d;
  verdict = verdict;
  between = b;
  reserved = reserve;
  given = subst (λ (r : Bool). GivesBack build b c size r) (sym refused) back;
}

-- one that is not refused was reserved
pub admits : (build : Build) (a b : Sight) (limits : Limits) (was now persistent : Bool) (size : ℕ) (v : Verdict) (d : Depth)
    → Called build a b (CallReserve size) (IsDepth d) → (v, now) ≡ judged limits was persistent size d → is_refusal v ≡ false
    → Admits build a b limits was now persistent size v
admits build a b limits was now persistent size v d reserve verdict admitted = record {
  shown = d;
  verdict = verdict;
  between = b;
  reserved = reserve;
  given = subst (λ (r : Bool). GivesBack build b b size r) (sym admitted) refl;
}

-- a ring within its limits was looked at
pub fits : (build : Build) (a b : Sight) (limits : Limits) (d : Depth) → is_ring limits ≡ true → is_beyond limits d ≡ false → Called build a b CallDepth (IsDepth d) → IsWithin build a b limits
fits build a b limits d ring within depth = record { ring = ring; shown = d; within = within; looked = depth }

-- one beyond them was asked for its oldest entry
pub trims : (build : Build) (a b c : Sight) (limits : Limits) (answer : Answer) (d : Depth) → is_ring limits ≡ true → is_beyond limits d ≡ true
    → Called build a b CallDepth (IsDepth d) → Called build b c CallOldest answer → Trims build a c limits answer
trims build a b c limits answer d ring beyond depth oldest = record {
  ring = ring;
  shown = d;
  beyond = beyond;
  between = b;
  looked = depth;
  asked = oldest;
}
