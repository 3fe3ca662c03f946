-- what a phase asks of its lines and of the entries that the one before it left, and what it leaves
use Rattle.std.specs.Prelude.{◌≡◌, ℕ, ◌+◌, ◌≤◌, ◌==◌, Bool, List, map, Vec}
use Rattle.std.specs.declared.alloc.Global.{Global}
use Rattle.std.specs.List.{All}
use Rattle.queue_model.specs.Table.{most_entries}
use Rattle.acts_core.specs.declared.cargoes.RestEntry.{RestEntry}
use Rattle.txn_core.specs.declared.parcels.Parcel.{Parcel}
use Rattle.defs_read.specs.Defined.{Defined}
use Rattle.script_read.specs.Allowed.{ops_in}
use Rattle.script_read.specs.Phases.{Actors}
use Rattle.script_read.specs.declared.lines.Op.{Op}
use Rattle.target_core.specs.Seats.{Seats}
use Rattle.phase_text.specs.Logs.{FitsLog, FitsRest}
use Rattle.workers_core.specs.Made.{puts_in}
use Rattle.account_core.specs.Accounts.{Account}
use Rattle.account_core.specs.Carry.{handed_on}
use Rattle.account_core.specs.Counting.{puts_among}
use Rattle.account_core.specs.Phases.{IsPhase}
use Rattle.account_core.specs.Texts.{LogsTell, RestsTell, actor_names, queue_names}
use Rattle.phase_queues.specs.Left.{AllMayStay, ids_left, many_left, rows_left}
use Rattle.phase_core.specs.declared.phases.PhaseEnd.{PhaseEnd}

-- the lists of entries that a phase leaves, one for each queue
abbrev pub Lefts : Type 0
Lefts = List (Vec (RestEntry Parcel) Global)

-- no id is twice in a queue, among the entries that are there and the messages that these lines put there
abbrev pub IdsOnce : Lefts → List Op → Type 0
IdsOnce lefts ops =
    (q id : ℕ) → ids_left q (λ i. i == id) lefts + puts_among q (λ i. i == id) ops ≤ 1

-- each queue has room for the entries that are there and for all that these lines put there
abbrev pub FewEntries : Lefts → List Op → Type 0
FewEntries lefts ops = (q : ℕ) → many_left q lefts + puts_in q ops ≤ most_entries

-- no more entries are there than were there and were put there: as many of any ids, and as many in all
pub record GainsPuts (lefts : Lefts) (ops : List Op) (lefts' : Lefts) : Type 0 where
  pub ids : (q : ℕ) (test : ℕ → Bool)
      → ids_left q test lefts' ≤ ids_left q test lefts + puts_among q test ops
  pub many : (q : ℕ) → many_left q lefts' ≤ many_left q lefts + puts_in q ops

-- A phase of these actors' lines was played, over queues that began with these entries, and the targets went from these
-- to those. There is an account of it, of which the logs and the rests tell, in words that have names; and the entries
-- that are left are those of the account, and may stay for the next phase.
pub record PlaysPhase
    (defs : List Defined) (lefts : Lefts) (actors : Actors) (seats seats' : Seats) (e : PhaseEnd)
    : Type 0
  where
    pub account : Account
    pub is_phase : IsPhase defs (rows_left lefts) actors account seats seats'
    pub logs : LogsTell e.logs.items account.stories
    pub rests : RestsTell e.rests.items defs account.queues
    pub left : rows_left e.left.items ≡ map handed_on account.queues
    pub stay : AllMayStay defs e.left.items
    pub gains : GainsPuts lefts (ops_in actors) e.left.items
    pub named_logs : All (FitsLog (queue_names defs) (actor_names account.stories)) e.logs.items
    pub named_rests : All (FitsRest (actor_names account.stories)) e.rests.items
