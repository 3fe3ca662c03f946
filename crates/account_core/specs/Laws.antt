-- the statements of the laws, each proved as the contract of a function in src/laws.rt
use Rattle.std.specs.Prelude.{◌≡◌, ℕ, Bool, List, [], ◌∷◌, ◌++◌, map}
use Rattle.std.specs.List.{AllByRecursion}
use Rattle.queue_model.specs.declared.deeds.Act.TheVariants.{Acq, Deq}
use Rattle.queue_model.specs.declared.deeds.Deed.{Deed}
use Rattle.queue_model.specs.declared.queues.Queue.{Queue}
use Rattle.queue_model.specs.declared.rows.Row.{Row}
use Rattle.queue_model.specs.declared.rows.RowState.{RowState}
use Rattle.queue_model.specs.declared.rows.RowState.TheVariants.{Available}
use Rattle.queue_model.specs.declared.rows.Slip.{Slip}
use Rattle.queue_model.specs.History.{after, Legal, deed}
use Rattle.queue_model.specs.State.{IsIn, row_at}
use Rattle.std.specs.Prelude.{Some}
use Rattle.acts_core.specs.Calls.{CallNext, IsGot}
use Rattle.acts_core.specs.Load.{Load}
use Rattle.acts_core.specs.Meaning.{Meets}
use Rattle.acts_core.specs.Moments.{JustBefore}
use Rattle.acts_core.specs.Sight.{Build, Listed, plan_of}
use Rattle.defs_read.specs.Defined.{Defined}
use Rattle.script_read.specs.declared.lines.Op.{Op}
use Rattle.script_read.specs.declared.lines.What.TheVariants.{Take}
use Rattle.report_core.specs.declared.answers.Answer.{Answer}
use Rattle.report_core.specs.declared.answers.Answer.TheVariants.{Got}
use Rattle.phase_text.specs.Logs.{phase_text}
use Rattle.phase_text.specs.declared.logs.Log.{Log}
use Rattle.phase_text.specs.declared.logs.Rest.{Rest}
use Rattle.txn_core.specs.Shown.{number_after}
use Rattle.line_core.specs.Fits.{Did, On, Standing, LineFits}
use Rattle.account_core.specs.Accounts.{Account}
use Rattle.account_core.specs.Carry.{handed_on, lasting}
use Rattle.account_core.specs.Played.{Played, IsClosed, IsPlayed, rest_of}
use Rattle.account_core.specs.Stories.{Story, told}
use Rattle.account_core.specs.Phases.{ArePhases, IsPhase, rows_after}
use Rattle.account_core.specs.Texts.{LogsTell, RestsTell, account_text, actor_names, queue_names, run_text}
use Rattle.script_read.specs.Phases.{Actors}
use Rattle.target_core.specs.Seats.{Seats}

-- Holders

-- a row is in one state: so no entry has two holders, in a history or at a rest
abbrev pub OneState : Type 0
OneState = (q : Queue) (r : ℕ) (s t : RowState) → IsIn q r s → IsIn q r t → s ≡ t

-- no entry is dequeued twice, by anybody
abbrev pub DequeuedOnce : Type 0
DequeuedOnce =
    (o : Queue) (ds es fs : List Deed) (a b r : ℕ)
    → Legal o (ds ++ (deed a (Deq r) ∷ (es ++ (deed b (Deq r) ∷ fs)))) → ⊥

-- Deliveries

-- The number that a take answers is one more than the count of the row that it got, as it was just before: so it
-- counts the deliveries of the row, whatever happened to it between two of them.
abbrev pub GotCounts : Type 0
GotCounts =
    (defs : List Defined) (s s' : Standing) (c id n : ℕ) (dids : List Did) (q k r l h : ℕ) (load : Load)
    (o : Queue) (bells : Bool) (s0 s1 : List Deed)
    → LineFits defs s (Take c) (Got id n) dids s'
    → dids ≡ On q (CallNext k) (IsGot r l load) ∷ []
    → Meets (record { opening = o; kind = Listed; bells = bells }) h s0 s1 (CallNext k) (IsGot r l load)
    → (m : List Deed) × JustBefore s0 s1 (deed h (Acq r)) m
    × ((x : Row) × (row_at (after o m) r ≡ Some x) × (x.slip.id ≡ id) × (n ≡ number_after x.count))

-- what of an entry its holder can't change but by deliveries: its slip, its content and how often it was delivered
abbrev pub goods : Row → (Slip × List ℕ) × ℕ
goods x = ((x.slip, x.content), x.count)

-- a carry keeps the entries that are not outdated in their order, with these
abbrev pub CarryKeeps : Type 0
CarryKeeps = (p : Played) → map goods (handed_on p) ≡ map goods (lasting p.plan.kind (rest_of p))

-- and frees each
abbrev pub CarryFrees : Type 0
CarryFrees = (p : Played) → AllByRecursion (λ x. x.state ≡ Available) (handed_on p)

-- Texts

-- a log with the lines' numbers and their answers, each in order, is what is told of them
abbrev pub LogTold : Type 0
LogTold =
    (ops : List Op) (answers : List Answer) (log : List (ℕ × Answer))
    → map (λ e. e.0) log ≡ map (λ op. op.line) ops → map (λ e. e.1) log ≡ answers → log ≡ told ops answers

-- the text of logs that tell of the stories, and of rests that tell of the queues, is that of the account
abbrev pub AccountTold : Type 0
AccountTold =
    (defs : List Defined) (a : Account) (logs : List Log) (rests : List Rest)
    → LogsTell logs a.stories → RestsTell rests defs a.queues
    → phase_text (queue_names defs) (actor_names a.stories) logs rests ≡ account_text defs a

-- Runs

-- a run goes on by a phase that opens with what the one before it handed on
abbrev pub PhasesAppend : Type 0
PhasesAppend =
    (defs : List Defined) (rows : List (List Row)) (seats mid seats' : Seats) (phases : List Actors)
    (accounts : List Account) (actors : Actors) (a : Account)
    → ArePhases defs rows seats phases accounts mid → IsPhase defs (rows_after rows accounts) actors a mid seats'
    → ArePhases defs rows seats (phases ++ actors ∷ []) (accounts ++ a ∷ []) seats'

-- and its text by the text of that phase
abbrev pub TextAppend : Type 0
TextAppend =
    (defs : List Defined) (accounts : List Account) (a : Account)
    → run_text defs (accounts ++ a ∷ []) ≡ run_text defs accounts ++ account_text defs a

-- a queue that was closed when all passes were joined is one of the account
abbrev pub ClosedPlayed : Type 0
ClosedPlayed =
    (q : ℕ) (stories : List Story) (build : Build) (opening : Queue) (history : List Deed)
    → IsClosed q stories build opening history
    → IsPlayed q stories (record { plan = plan_of build opening; history = history })
