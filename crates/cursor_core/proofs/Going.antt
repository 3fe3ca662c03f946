-- steps of a walk, one after the other
use Rattle.std.proofs.Common.{◌≡◌, ℕ, List, [], ◌∷◌, ◌++◌, sym, ap, ◌∙◌, subst}
use Rattle.std.proofs.lemmas.List.Elements.{filter-append}
use mathlib.Core.List.{IsPrefix, Mem, append_cancel_left}
use Rattle.queue_model.specs.declared.deeds.Act.{Act}
use Rattle.queue_model.specs.declared.deeds.Deed.{Deed}
use Rattle.queue_model.specs.declared.queues.Queue.{Queue}
use Rattle.queue_model.specs.declared.steps.Tried.{Tried}
use Rattle.queue_model.specs.History.{after, Legal, deeds_of}
use Rattle.queue_model.proofs.Prefixes.{prefix_trans}
use Rattle.acts_core.specs.Moments.{JustBefore}
use Rattle.acts_core.specs.Owed.{takes_any, taken, taken_any}
use Rattle.acts_core.specs.Sight.{Sight}
use Rattle.acts_core.specs.Walks.{reach, IsStop}
use Rattle.acts_core.proofs.Stepping.{stepped_none, stepped_trans, rights_same, rights_trans}
use Rattle.cursor_core.specs.Goes.{Goes}
use Rattle.cursor_core.specs.Walked.{Walked}
use Rattle.cursor_core.proofs.Marks.{untaken_less}
use Rattle.cursor_core.proofs.Within.{stop_more, reach_more, walk_more}

pub goes_trans : (o : Queue) (a b c : Sight) (xs ys : List Act) (us vs : List Tried) → Goes o a b xs us → Goes o b c ys vs → Goes o a c (xs ++ ys) (us ++ vs)
goes_trans o a b c xs ys us vs s t = record { begun = s.begun; steps = stepped_trans a b c xs ys us vs s.steps t.steps; rights = rights_trans a b c s.rights t.rights }

pub goes_none : (o : Queue) (a : Sight) → a.opening ≡ o → Legal o a.seen → Goes o a a [] []
goes_none o a begun legal = record { begun = begun; steps = stepped_none a (subst (λ (q : Queue). Legal q a.seen) (sym begun) legal); rights = rights_same a }

-- what was seen is legal
pub goes_legal : (o : Queue) (a b : Sight) (xs : List Act) (us : List Tried) → Goes o a b xs us → Legal o b.seen
goes_legal o a b xs us s = subst (λ (q : Queue). Legal q b.seen) s.begun s.steps.legal

pub goes_caller : (o : Queue) (a b : Sight) (xs : List Act) (us : List Tried) → Goes o a b xs us → b.caller ≡ a.caller
goes_caller o a b xs us s = ap (λ (v : Sight). v.caller) s.steps.rest

-- the consumers of the pass stay
pub goes_mem : (o : Queue) (a b : Sight) (xs : List Act) (us : List Tried) (c : ℕ) → Goes o a b xs us → Mem c a.consumers → Mem c b.consumers
goes_mem o a b xs us c s mem = subst (λ (z : List ℕ). Mem c z) (sym (ap (λ (v : Sight). v.consumers) s.steps.rest)) mem

-- what was taken beyond what was seen before
pub goes_taken : (o : Queue) (a b : Sight) (xs : List Act) (us : List Tried) (c : ℕ) (s : Goes o a b xs us) → Mem c a.consumers → taken_any c s.steps.grows.0 ≡ taken_any c (deeds_of a.caller xs)
goes_taken o a b xs us c s mem =
    let rest = s.steps.grows.0 in
    append_cancel_left (taken_any c a.seen) (taken_any c rest) (taken_any c (deeds_of a.caller xs))
    (sym (filter-append (λ (d : Deed). takes_any c d.act) a.seen rest) ∙ ap (taken_any c) s.steps.grows.1 ∙ s.steps.takes c mem)

-- steps without takes, from what was seen before
no_takes : (o : Queue) (a b : Sight) (xs : List Act) (us : List Tried) (c l : ℕ) (s : Goes o a b xs us) → Mem c a.consumers → taken_any c (deeds_of a.caller xs) ≡ [] → taken c l s.steps.grows.0 ≡ []
no_takes o a b xs us c l s mem none = untaken_less c l s.steps.grows.0 (goes_taken o a b xs us c s mem ∙ none)

-- a walk goes on over steps that take no bell
pub walked_on : (o : Queue) (a b : Sight) (xs : List Act) (us : List Tried) (c l n : ℕ) (begin : List Deed) → Mem c a.consumers → (s : Goes o a b xs us) → taken_any c (deeds_of a.caller xs) ≡ [] → Walked o c l n begin a.seen → Walked o c l n begin b.seen
walked_on o a b xs us c l n begin mem s none w =
    let grows = s.steps.grows in
    subst (λ (ds : List Deed). Walked o c l n begin ds) grows.1
    (walk_more o c l n begin a.seen grows.0 (subst (Legal o) (sym grows.1) (goes_legal o a b xs us s)) (no_takes o a b xs us c l s mem none) w)

-- stops are later ones too
pub stop_on : (o : Queue) (ds es : List Deed) (l w : ℕ) → IsPrefix ds es → IsStop (after o ds) l w → IsStop (after o es) l w
stop_on o ds es l w g s = subst (λ (xs : List Deed). IsStop (after o xs) l w) g.1 (stop_more o l w ds g.0 s)

pub reach_on : (o : Queue) (ds es : List Deed) (l w : ℕ) → IsPrefix ds es → IsStop (after o ds) l w → reach (after o es) w ≡ reach (after o ds) w
reach_on o ds es l w g s = ap (λ (xs : List Deed). reach (after o xs) w) (sym g.1) ∙ reach_more o l w ds g.0 s

pub reach_both : (o : Queue) (w l : ℕ) (s b d : List Deed) → IsPrefix s b → IsPrefix s d → IsStop (after o s) l w → reach (after o b) w ≡ reach (after o d) w
reach_both o w l s b d g k stop = reach_on o s b l w g stop ∙ sym (reach_on o s d l w k stop)

pub begins_on : (a b d : List Deed) (x : Deed) (begin : List Deed) → IsPrefix b d → JustBefore a b x begin → JustBefore a d x begin
begins_on a b d x begin g j = record { later = j.later; early = prefix_trans (begin ++ x ∷ []) b d j.early g }
