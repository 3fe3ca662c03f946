-- the queues of a phase, as they are opened
use Rattle.std.specs.Prelude.{◌≡◌, ℕ, ◌+◌, ◌≤◌, max, Some, List, [], ◌∷◌, length, slice_get, slice_index, map, vec_capacity}
use Rattle.queue_model.specs.Table.{most_entries}
use Rattle.acts_core.specs.Sight.{Sight, plan_of}
use Rattle.acts_core.specs.declared.cargoes.RestEntry.{RestEntry}
use Rattle.txn_core.specs.declared.parcels.Parcel.{Parcel}
use Rattle.defs_read.specs.Defined.{Defined}
use Rattle.entry_table.specs.Rule.{below}
use Rattle.any_queue.specs.declared.kinds.AnyPass.{AnyPass}
use Rattle.any_queue.specs.declared.kinds.AnyQueue.{AnyQueue}
use Rattle.any_queue.specs.Kinds.{build_in, built, sight_in, ServesAny}
use Rattle.any_queue.specs.Parting.{kind_of}
use Rattle.phase_text.specs.declared.logs.Rest.{Rest}
use Rattle.account_core.specs.Carry.{Opens}
use Rattle.account_core.specs.Played.{Played}
use Rattle.phase_queues.specs.Left.{Remains, left_in, many_left, row_left}

-- what a queue was, as the pass of its boss knows it
abbrev pub played : {R : Type 0} → AnyQueue Parcel R → AnyPass → Played
played queue boss = record { plan = plan_of (build_in queue) (sight_in boss).opening; history = (sight_in boss).seen }

-- and each queue, with the boss in its place
abbrev pub all_played : {R : Type 0} → List (AnyQueue Parcel R) → List AnyPass → List Played
all_played (queue ∷ queues) (boss ∷ bosses) = played queue boss ∷ all_played queues bosses
all_played queues bosses = []

-- each pass is one of the queue in its place
abbrev pub AllServed : {R : Type 0} → List (AnyQueue Parcel R) → List AnyPass → Type 0
AllServed {R} queues passes = (q : ℕ) (queue : AnyQueue Parcel R) (pass : AnyPass)
    → slice_get queues q ≡ Some queue → slice_get passes q ≡ Some pass → ServesAny queue pass

-- how many rows a queue has room for that opens with so many entries, and to which so many are put: at least one
abbrev pub rows_for : ℕ → ℕ → ℕ
rows_for entries puts = max 1 (entries + puts)

-- each queue has room for its entries and for what is put to it
abbrev pub HasRoom : List Remains → List ℕ → Type 0
HasRoom lefts puts = (q : ℕ) → many_left q lefts + slice_index puts q ≤ most_entries

-- The pass of a boss that has done nothing, and that nobody was split off from: it has all consumers of the queue, and
-- may reserve and draw what is put.
pub record IsNewBoss (def : Defined) (puts : ℕ) (s : Sight) : Type 0 where
  pub caller : s.caller ≡ 0
  pub consumers : s.consumers ≡ below (length def.consumers)
  pub ended : s.ended ≡ []
  pub made : s.made ≡ 1
  pub seen : s.seen ≡ []
  pub allowance : puts ≤ s.allowance
  pub share : puts ≤ s.share

-- One queue of this definition was opened: with its entries as its rows, and with room for what will be put.
pub record IsOpened {R : Type 0} (def : Defined) (entries : List (RestEntry Parcel)) (puts : ℕ)
    (queue : AnyQueue Parcel R) (boss : AnyPass) : Type 0 where
  pub serves : ServesAny queue boss
  pub build : build_in queue ≡ built (kind_of def.kind) (rows_for (length entries) puts)
  pub opens : Opens def (map row_left entries) (played queue boss).plan
  pub new : IsNewBoss def puts (sight_in boss)

-- So many queues of the definitions were opened, in order.
pub record OpenedSoFar {R : Type 0} (n : ℕ) (defs : List Defined) (lefts : List Remains) (puts : List ℕ)
    (queues : List (AnyQueue Parcel R)) (bosses : List AnyPass) : Type 0 where
  pub as_many : length queues ≡ n
  pub passes : length bosses ≡ n
  pub each : (q : ℕ) (def : Defined) (queue : AnyQueue Parcel R) (boss : AnyPass)
      → slice_get defs q ≡ Some def → slice_get queues q ≡ Some queue → slice_get bosses q ≡ Some boss
      → IsOpened def (left_in q lefts) (slice_index puts q) queue boss

-- The queues of these definitions were made, each with room for what was left and what will be put, and for each the
-- pass of its boss. With which rows they opened is said apart.
pub record AreOpened {R : Type 0} (defs : List Defined) (lefts : List Remains) (puts : List ℕ)
    (queues : List (AnyQueue Parcel R)) (bosses : List AnyPass) : Type 0 where
  pub as_many : length queues ≡ length defs
  pub passes : length bosses ≡ length defs
  pub serves : AllServed queues bosses
  pub builds : (q : ℕ) (def : Defined) (queue : AnyQueue Parcel R)
      → slice_get defs q ≡ Some def → slice_get queues q ≡ Some queue
      → build_in queue ≡ built (kind_of def.kind) (rows_for (many_left q lefts) (slice_index puts q))
  pub new : (q : ℕ) (def : Defined) (boss : AnyPass)
      → slice_get defs q ≡ Some def → slice_get bosses q ≡ Some boss
      → IsNewBoss def (slice_index puts q) (sight_in boss)

-- there is room to tell of each row of each queue
abbrev pub RestsHold : {R : Type 0} → List Rest → List (AnyQueue Parcel R) → Type 0
RestsHold {R} rests queues = (q : ℕ) (rest : Rest) (queue : AnyQueue Parcel R)
    → slice_get rests q ≡ Some rest → slice_get queues q ≡ Some queue
    → (build_in queue).rows ≤ vec_capacity rest.entries

-- there is room to tell of as many rows as these queues will have
abbrev pub HoldRows : List Remains → List ℕ → List Rest → Type 0
HoldRows lefts puts rests = (q : ℕ) (rest : Rest)
    → slice_get rests q ≡ Some rest
    → rows_for (many_left q lefts) (slice_index puts q) ≤ vec_capacity rest.entries

-- nothing is told yet
abbrev pub TellNothing : List Rest → Type 0
TellNothing rests = (q : ℕ) (rest : Rest) → slice_get rests q ≡ Some rest → rest.entries.items ≡ []

-- the names of rests
abbrev pub rest_names : List Rest → List (List ℕ)
rest_names rests = map (λ r. r.name) rests
