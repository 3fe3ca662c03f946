-- a queue that was closed when all passes were joined
use Rattle.std.proofs.Common.{◌≡◌, ℕ, ◌+◌, List, [], refl, sym, ap, ◌∙◌, subst}
use mathlib.Core.List.{IsPrefix}
use Rattle.queue_model.specs.declared.deeds.Deed.{Deed}
use Rattle.queue_model.specs.declared.queues.Queue.{Queue}
use Rattle.queue_model.specs.History.{own}
use Rattle.acts_core.specs.Calls.{Call, Answer}
use Rattle.acts_core.specs.Chains.{Quiet, Chain}
use Rattle.acts_core.specs.Sight.{Build, Sight, plan_of}
use Rattle.acts_core.proofs.Chaining.{chain_append, one_history}
use Rattle.line_core.specs.Runs.{RanOn}
use Rattle.account_core.specs.Played.{IsClosed, IsPlayed, Joined, Makes}
use Rattle.account_core.specs.Stories.{Story}

-- the calls of a pass that began with no own act, in the whole history
makes_of : (build : Build) (calls : List (Call × Answer)) (old new : Sight) (all : List Deed) → RanOn build calls old new → own old.caller old.seen ≡ [] → IsPrefix new.seen all → own old.caller all ≡ own old.caller new.seen → Makes (plan_of build old.opening) old.caller all calls
makes_of build calls old new all ran fresh joined whole =
    let begun : Quiet old.caller [] old.seen = record { grows = (old.seen, refl); own_acts = fresh } in
    let chain : Chain (plan_of build old.opening) old.caller [] ran.made new.seen = chain_append (plan_of build old.opening) old.caller [] [] old.seen ran.made new.seen begun ran.chain in
    let in_all = one_history (plan_of build old.opening) old.caller ran.made new.seen all chain joined whole in
    record { made = ran.made; same = ran.same; chain = in_all.0; own_acts = in_all.1 }

pub joined_makes : (build : Build) (opening : Queue) (h : ℕ) (history : List Deed) (calls : List (Call × Answer)) → Joined build opening h history calls → Makes (plan_of build opening) h history calls
joined_makes build opening h history calls j =
    let fresh : own j.old.caller j.old.seen ≡ [] = ap (λ (k : ℕ). own k j.old.seen) j.caller ∙ j.fresh in
    let whole : own j.old.caller history ≡ own j.old.caller j.new.seen = ap (λ (k : ℕ). own k history) j.caller ∙ j.whole ∙ sym (ap (λ (k : ℕ). own k j.new.seen) j.caller) in
    subst (λ (k : ℕ). Makes (plan_of build opening) k history calls) j.caller
    (subst (λ (o : Queue). Makes (plan_of build o) j.old.caller history calls) j.opens
    (makes_of build calls j.old j.new history j.ran fresh j.joined whole))

pub closed_played : (q : ℕ) (stories : List Story) (build : Build) (opening : Queue) (history : List Deed) → IsClosed q stories build opening history → IsPlayed q stories (record { plan = plan_of build opening; history = history })
closed_played q stories build opening history closed = record {
  legal = closed.gathered.legal;
  callers = closed.gathered.callers;
  makes = λ i s there. joined_makes build opening (i + 1) history _ (closed.gathered.passes i s there);
  rests = closed.rests;
}
