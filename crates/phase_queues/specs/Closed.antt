-- the queues of a phase, as they are closed
use Rattle.std.specs.Prelude.{◌≡◌, ℕ, ◌+◌, ◌<◌, ◌≤◌, Bool, Some, List, [], ◌∷◌, ◌++◌, length, map, slice_get, vec_capacity}
use Rattle.std.specs.List.{AllByRecursion}
use Rattle.queue_model.specs.History.{Legal, own}
use Rattle.acts_core.specs.Asked.{KeyFits}
use Rattle.acts_core.specs.Rest.{left_of}
use Rattle.acts_core.specs.declared.cargoes.RestEntry.{RestEntry}
use Rattle.txn_core.specs.declared.parcels.Parcel.{Parcel}
use Rattle.txn_core.specs.Parcels.{load_of}
use Rattle.any_queue.specs.declared.kinds.AnyPass.{AnyPass}
use Rattle.any_queue.specs.declared.kinds.AnyQueue.{AnyQueue}
use Rattle.any_queue.specs.Kinds.{build_in, sight_in}
use Rattle.any_queue.specs.Parting.{IsClosed, IsLast}
use Rattle.phase_text.specs.declared.logs.Rest.{Rest}
use Rattle.account_core.specs.Counting.{with_ids}
use Rattle.account_core.specs.Played.{Played, rest_of}
use Rattle.phase_queues.specs.Left.{Remains, ids_left, lasting_in, many_left, resting_left}

-- each pass is the last of its queue, and knows a legal history
pub record AreLast (bosses : List AnyPass) : Type 0 where
  pub last : (q : ℕ) (boss : AnyPass) → slice_get bosses q ≡ Some boss → IsLast (sight_in boss)
  pub legal : (q : ℕ) (boss : AnyPass) → slice_get bosses q ≡ Some boss
      → Legal (sight_in boss).opening (sight_in boss).seen

-- nobody has done anything on a queue but the callers that its boss made
abbrev pub NoOthers : List AnyPass → Type 0
NoOthers bosses = (q k : ℕ) (boss : AnyPass) → slice_get bosses q ≡ Some boss
    → (sight_in boss).made ≤ k → own k (sight_in boss).seen ≡ []

-- what was left of a queue are rows of it: so they are no more than these, and no more of them have an id that passes
pub record AreOfRows (queues : List Played) (lefts : List Remains) : Type 0 where
  pub many : (q : ℕ) (p : Played) → slice_get queues q ≡ Some p
      → many_left q lefts ≤ length (rest_of p).rows
  pub ids : (q : ℕ) (test : ℕ → Bool) (p : Played) → slice_get queues q ≡ Some p
      → ids_left q test lefts ≤ with_ids test (rest_of p).rows

-- these entries are what is left of the queue
pub record Leaves {R : Type 0} (queue : AnyQueue Parcel R) (boss : AnyPass) (entries : List (RestEntry Parcel)) : Type 0 where
  pub closed : IsClosed (build_in queue).kind (sight_in boss) (map (left_of load_of) entries)
  pub keys : AllByRecursion (λ e. KeyFits (build_in queue).kind e.slip.key) entries

-- and so of each queue
abbrev pub AllLeave : {R : Type 0} → List (AnyQueue Parcel R) → List AnyPass → List Remains → Type 0
AllLeave [] [] [] = Unit {0}
AllLeave (queue ∷ queues) (boss ∷ bosses) (es ∷ lefts) = Leaves queue boss es.items × AllLeave queues bosses lefts
AllLeave queues bosses lefts = ⊥

-- of each queue's entries those are left that are not outdated
abbrev pub AllLasting : List Remains → List Remains → Type 0
AllLasting [] [] = Unit {0}
AllLasting (old ∷ olds) (new ∷ news) = (new.items ≡ lasting_in old.items) × AllLasting olds news
AllLasting olds news = ⊥

-- Of the first n queues those are left, and of the others all.
pub record LastingBelow (n : ℕ) (olds news : List Remains) : Type 0 where
  pub left : (q : ℕ) (old new : Remains) → q < n
      → slice_get olds q ≡ Some old → slice_get news q ≡ Some new → new.items ≡ lasting_in old.items
  pub others : (q : ℕ) → n ≤ q → slice_get news q ≡ slice_get olds q

-- each rest has its name, and now tells of the entries that were left, behind what it told
abbrev pub TellsMore : List Rest → List Remains → List Rest → Type 0
TellsMore olds lefts news = (q : ℕ) (old new : Rest) (es : Remains)
    → slice_get olds q ≡ Some old → slice_get lefts q ≡ Some es → slice_get news q ≡ Some new
    → (new.name ≡ old.name) × (new.entries.items ≡ old.entries.items ++ map resting_left es.items)

-- there is room for that
abbrev pub RestsFit : List Rest → List Remains → Type 0
RestsFit rests lefts = (q : ℕ) (rest : Rest) (es : Remains)
    → slice_get rests q ≡ Some rest → slice_get lefts q ≡ Some es
    → length rest.entries.items + length es.items ≤ vec_capacity rest.entries

-- Of the first n rests each tells of its entries, and the others are as they were.
pub record ToldBelow (n : ℕ) (olds : List Rest) (lefts : List Remains) (news : List Rest) : Type 0 where
  pub told : (q : ℕ) (old new : Rest) (es : Remains) → q < n
      → slice_get olds q ≡ Some old → slice_get lefts q ≡ Some es → slice_get news q ≡ Some new
      → (new.name ≡ old.name) × (new.entries.items ≡ old.entries.items ++ map resting_left es.items)
  pub others : (q : ℕ) → n ≤ q → slice_get news q ≡ slice_get olds q
