-- an actor before and after a phase
use Rattle.std.specs.Prelude.{◌≡◌, ℕ, ◌≤◌, List, ◌++◌, length, map, reverse}
use Rattle.std.specs.List.{AllByRecursion}
use Rattle.acts_core.specs.Sight.{Build, Sight}
use Rattle.defs_read.specs.Defined.{Defined}
use Rattle.script_read.specs.declared.lines.Op.{Op}
use Rattle.report_core.specs.declared.answers.Answer.{Answer}
use Rattle.report_core.specs.declared.answers.Dropped.{Dropped}
use Rattle.target_core.specs.Seats.{Seats}
use Rattle.line_core.specs.Fits.{Did, LinesFit, Standing, begins, unlocks}
use Rattle.workers_core.specs.Drops.{HasRoom, all_drops}
use Rattle.workers_core.specs.Jobs.{JobFits}
use Rattle.workers_core.specs.Ready.{MayPutAll, MayTakeAll, ServesJob, all_gains}
use Rattle.line_core.specs.Runs.{Ran}
use Rattle.workers_core.specs.declared.jobs.Job.{Job}

-- the lines of jobs that are kept with the first one last
abbrev pub lines_of : List Job → List Op
lines_of jobs = map (λ j. j.op) (reverse jobs)

-- An actor may run its lines: they are served by its passes, which may reserve and draw as much as the lines put; what
-- is beside them is what the definitions say; its targets have room for its takes; and there is room in its lists.
pub record MayRun (defs : List Defined) (sights : List Sight) (seats : Seats) (jobs : List Job)
    (room_held room_log : ℕ) : Type 0 where
  pub served : AllByRecursion (ServesJob sights) jobs
  pub fits : AllByRecursion (λ j. JobFits defs j.op.what j.aid) jobs
  pub rights : MayPutAll sights jobs
  pub ready : MayTakeAll seats jobs
  pub held : all_gains jobs ≤ room_held
  pub log : length jobs ≤ room_log

-- there is room for what the lines can drop, where queues have room for so many rows
abbrev pub MayDrop : List Defined → ℕ → List Op → ℕ → Type 0
MayDrop defs rows ops room_drops = HasRoom (all_drops defs rows ops) 0 room_drops

-- An actor has run its lines: the log has their numbers in order, and answers that fit them, which name what was dropped
-- by places in the list of drops; and the calls that the lines made, and then the unlocks of what it had locked after the
-- last one, are its calls in the histories of the queues, in this order, and it made no others.
pub record HasRun (defs : List Defined) (builds : List Build) (olds : List Sight) (seats : Seats)
    (ops : List Op) (log : List (ℕ × Answer)) (drops : List Dropped) (news : List Sight) (seats' : Seats) : Type 0 where
  pub numbers : map (λ e. e.0) log ≡ map (λ op. op.line) ops
  pub dids : List Did
  pub end : Standing
  pub fits : LinesFit defs (begins defs seats) ops (map (λ e. e.1) log) dids end
  pub ran : Ran builds olds (dids ++ unlocks end.hands) news
  pub targets : end.seats ≡ seats'
  pub dropped : end.drops ≡ drops
