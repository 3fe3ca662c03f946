-- releases, and what is left
use Rattle.std.proofs.Common.{◌≡◌, ◌≢◌, ◌↔◌, ℕ, ◌<◌, ◌≤◌, ◌+◌, Bool, true, false, IsTrue, Option, Some, None, List, length, get_or, refl, sym, ap, ◌∙◌, subst, arith}
use Rattle.queue_model.specs.declared.queues.Queue.{Queue}
use Rattle.acts_core.specs.Calls.{CallRelease, IsReleased, IsOutdated}
use Rattle.acts_core.specs.Kept.{Kept, Stands}
use Rattle.acts_core.specs.Load.{Load}
use Rattle.acts_core.specs.Rest.{Left, Marks, AreRests}
use Rattle.acts_core.specs.Serves.{MayCall, Serves}
use Rattle.acts_core.specs.Sight as sight
use Rattle.kept_rows.specs.Resting.{RestsOf}
use Rattle.kept_rows.proofs.Resting.{are_rests}
use Rattle.kept_rows.proofs.Standing.{number_inside}
use Rattle.lastval_core.specs.Lasts.{HasLater, KeepsLast}
use Rattle.lastval_core.proofs.Lasts.{later_outdated}

pub held_inside : (k : Kept) (h r : ℕ) (load : Load) → MayCall k h (CallRelease r load) → r < length k.rows
held_inside k h r load may = number_inside k may.0 may.1 r may.2.row may.2.found

pub served_outdated : (k : Kept) (h r : ℕ) (load : Load) → r < length k.rows → HasLater k r → Serves sight.LastValue k k h (CallRelease r load) (IsOutdated load)
served_outdated k h r load l later = record { spare = omega arith; legal = λ q st x. tt; means = λ q st x. (refl, (later_outdated k q r st l).0 later); stands = λ q st x. st }

pub served_released : (k j : Kept) (h r mask : ℕ) (load : Load) → r < length k.rows → ¬ (HasLater k r) → Serves sight.Sorted k j h (CallRelease r load) (IsReleased mask) → Serves sight.LastValue k j h (CallRelease r load) (IsReleased mask)
served_released k j h r mask load l off s = record { spare = s.spare; legal = s.legal; means = λ q st x. (s.means q st x, (λ o. off ((later_outdated k q r st l).1 o))); stands = s.stands }

pub rests_last : (k : Kept) (q : Queue) (lasts : List ℕ) (marks : List Bool) (es : List Left) → KeepsLast k lasts marks → Stands k q → RestsOf false k (λ r. get_or marks r false) es → AreRests sight.LastValue q es
rests_last k q lasts marks es l st rest = are_rests false k q st (λ r. get_or marks r false) es rest
    (λ r m. ((λ t. (later_outdated k q r st m).0 ((l.marked r m).0 t)), (λ o. (l.marked r m).1 ((later_outdated k q r st m).1 o))))
