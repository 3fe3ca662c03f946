-- a walk of one list comes to a row, tries it, and goes on; and then the lists, one after the other
use Rattle.std.proofs.Common.{◌≡◌, ◌≢◌, ℕ, zero, suc, ◌+◌, ◌-◌, ◌<◌, ◌≤◌, Option, Some, None, List, [], ◌∷◌, refl, sym, ap, ◌∙◌, subst, arith}
use mathlib.Core.List.{IsPrefix}
use Rattle.queue_model.specs.declared.queues.Queue.{Queue}
use Rattle.queue_model.specs.declared.rows.Row.{Row}
use Rattle.queue_model.specs.History.{after, Legal}
use Rattle.queue_model.specs.State.{row_at, place_at}
use Rattle.acts_core.specs.Sight.{Sight}
use Rattle.acts_core.specs.Walks.{Ask, FollowsTo, IsOfList, Misses, Facing, Ended, Faces, Done}
use Rattle.acts_core.proofs.Walking.{walk_on, list_later, place_later, done_none, done_down}

pub facing : (old now : Sight) (ask : Ask) (l r : ℕ) (next : Option ℕ) → Faces old now ask l next → next ≡ Some r → Facing old now ask l r
facing old now ask l r None f is = absurd (cc)
facing old now ask l r (Some q) f is = let same : q ≡ r = cc in subst (λ (n : ℕ). Facing old now ask l n) same f

pub ended : (old now : Sight) (ask : Ask) (l : ℕ) (next : Option ℕ) → Faces old now ask l next → next ≡ None → Ended old now ask l
ended old now ask l None f is = f
ended old now ask l (Some q) f is = absurd (cc)

pub opening_of : (old now : Sight) (ask : Ask) (l r : ℕ) → Facing old now ask l r → now.opening ≡ old.opening
opening_of old now ask l r f = ap (λ (v : Sight). v.opening) f.walking.steps.rest

pub caller_of : (old now : Sight) (ask : Ask) (l r : ℕ) → Facing old now ask l r → now.caller ≡ old.caller
caller_of old now ask l r f = ap (λ (v : Sight). v.caller) f.walking.steps.rest

-- the row that the walk has come to is there
pub row_there : (old now : Sight) (ask : Ask) (l r : ℕ) (next : Option ℕ) → Faces old now ask l next → next ≡ Some r → (x : Row) × (row_at (after now.opening now.seen) r ≡ Some x)
row_there old now ask l r next f is =
    let k = facing old now ask l r next f is in
    (k.there.0, subst (λ (o : Queue). row_at (after o now.seen) r ≡ Some k.there.0) (sym (opening_of old now ask l r k)) k.there.1)

-- and a stop of the list, after it was missed
pub stop_there : (old now mid : Sight) (ask : Ask) (l r : ℕ) (next : Option ℕ) → Faces old now ask l next → next ≡ Some r → Misses now mid ask r → IsOfList (after mid.opening mid.seen) l r
stop_there old now mid ask l r next f is m =
    let k = facing old now ask l r next f is in
    let opening : mid.opening ≡ old.opening = ap (λ (v : Sight). v.opening) m.steps.rest ∙ opening_of old now ask l r k in
    subst (λ (o : Queue). IsOfList (after o mid.seen) l r) (sym opening) (list_later old.opening now.seen mid.seen l r m.steps.grows k.there)

-- the next row, or the end
pub goes_on : (old now mid last : Sight) (ask : Ask) (l r : ℕ) (next result : Option ℕ) → Faces old now ask l next → next ≡ Some r → Misses now mid ask r → FollowsTo mid last l (r + 1) result → Faces old last ask l result
goes_on old now mid last ask l r next result f is m g =
    let k = facing old now ask l r next f is in
    let e : r + 1 ≡ suc r = omega arith in
    walk_on old now mid last ask l r m.added result k m.steps m.rights m.heads
    (λ x found. m.fails x (subst (λ (o : Queue). row_at (after o mid.seen) r ≡ Some x) (sym (opening_of old now ask l r k)) found))
    (subst (λ (n : ℕ). FollowsTo mid last l n result) e g)

-- how many places are left
abbrev pub left : ℕ → Queue → Option ℕ → ℕ
left rows q None = 0
left rows q (Some r) = suc (rows - place_at q r)

-- the next row stands at a later place
later_place : (mid last : Sight) (l r q : ℕ) → IsOfList (after mid.opening mid.seen) l r → FollowsTo mid last l (suc r) (Some q) → place_at (after mid.opening mid.seen) r < place_at (after mid.opening last.seen) q
later_place mid last l r q there f =
    let same : place_at (after mid.opening last.seen) r ≡ place_at (after mid.opening mid.seen) r = place_later mid.opening mid.seen last.seen r there.0 f.0.steps.grows there.1 in
    omega (arith, same, f.2)

pub smaller : (rows : ℕ) (old now mid last : Sight) (ask : Ask) (l r : ℕ) (next result : Option ℕ) → Faces old now ask l next → next ≡ Some r → Misses now mid ask r → FollowsTo mid last l (r + 1) result → place_at (after now.opening now.seen) r < rows → left rows (after last.opening last.seen) result < left rows (after now.opening now.seen) next
smaller rows old now mid last ask l r next None f is m g low =
    subst (λ (o : Option ℕ). left rows (after last.opening last.seen) None < left rows (after now.opening now.seen) o) (sym is) (omega arith)
smaller rows old now mid last ask l r next (Some q) f is m g low =
    let k = facing old now ask l r next f is in
    let e : r + 1 ≡ suc r = omega arith in
    let there = stop_there old now mid ask l r next f is m in
    let to_mid : mid.opening ≡ now.opening = ap (λ (v : Sight). v.opening) m.steps.rest in
    let to_last : last.opening ≡ mid.opening = ap (λ (v : Sight). v.opening) g.0.steps.rest in
    let here : (x : Row) × (row_at (after now.opening now.seen) r ≡ Some x) = row_there old now ask l r next f is in
    let first : place_at (after now.opening mid.seen) r ≡ place_at (after now.opening now.seen) r = place_later now.opening now.seen mid.seen r here.0 m.steps.grows here.1 in
    let first' : place_at (after mid.opening mid.seen) r ≡ place_at (after now.opening now.seen) r = ap (λ (o : Queue). place_at (after o mid.seen) r) to_mid ∙ first in
    let second = later_place mid last l r q there (subst (λ (n : ℕ). FollowsTo mid last l n (Some q)) e g) in
    let second' : place_at (after last.opening last.seen) q ≡ place_at (after mid.opening last.seen) q = ap (λ (o : Queue). place_at (after o last.seen) q) to_last in
    subst (λ (o : Option ℕ). left rows (after last.opening last.seen) (Some q) < left rows (after now.opening now.seen) o) (sym is) (omega (arith, first', second, second', low))

-- Lists

-- nothing is walked yet
pub none_done : (old : Sight) (ask : Ask) (l : ℕ) → Legal old.opening old.seen → l ≡ old.opening.lists → Done old old ask l old.opening.lists
none_done old ask l legal all = subst (λ (n : ℕ). Done old old ask n old.opening.lists) (sym all) (done_none old ask old.opening.lists legal)

pub from_pred : (l : ℕ) → 0 < l → suc (l - 1) ≡ l
from_pred zero some = absurd (omega (arith, some))
from_pred (suc k) some = omega arith

-- a list less is left
pub less_left : (old now new : Sight) (ask : Ask) (l high : ℕ) → 0 < l → l ≤ high → Done old now ask l high → Ended now new ask (l - 1) → Done old new ask (l - 1) high
less_left old now new ask l high some low d e =
    done_down old now new ask (l - 1) high (omega (arith, some, low)) (subst (λ (n : ℕ). Done old now ask n high) (sym (from_pred l some)) d) e
