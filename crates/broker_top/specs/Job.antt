-- what of an input is run, and why an input is not
use Rattle.std.specs.Prelude.{◌≡◌, ◌≤◌, ℕ, not, true, false, if◌then◌else◌, Option, Some, None, List, [], ◌∷◌, Result, Ok, Err}
use Rattle.std.specs.List.{list_all}
use Rattle.queue_model.specs.Table.{most_entries}
use Rattle.defs_read.specs.Allowed.{AreAllowed}
use Rattle.defs_read.specs.Causes.{fault_of}
use Rattle.defs_read.specs.Defined.{Defined, queues_in}
use Rattle.defs_read.specs.Values.{defs_of}
use Rattle.defs_read.specs.declared.faults.DefsFault.{DefsFault}
use Rattle.defs_read.specs.declared.faults.DefsFault.TheVariants.{NotJson}
use Rattle.script_read.specs.Allowed.{AreAllowedPhases, all_ops}
use Rattle.script_read.specs.Lines.{lines_of, numbered}
use Rattle.script_read.specs.Phases.{Actors, phases_in, phases_of}
use Rattle.script_read.specs.Scripts.{script_after}
use Rattle.script_read.specs.declared.faults.ScriptFault.{ScriptFault}
use Rattle.script_read.specs.declared.lines.Line.{Line}
use Rattle.broker_top.specs.Built.{is_built_line, is_built_queue}
use Rattle.broker_top.specs.Puts.{PassesAt, all_puts}
use Rattle.broker_top.specs.Sooner.{first_line}
use Rattle.broker_top.specs.declared.faults.InputFault.{InputFault}
use Rattle.broker_top.specs.declared.faults.InputFault.TheVariants.{Definitions, Line as LineRefused, NotBuilt, TooManyEntries, NoMemory}
use Rattle.broker_top.specs.declared.job.Job.{Job}

-- what an input says: queues, and phases of lines
pub record Script : Type 0 where
  pub defs : List Defined
  pub phases : List Actors

-- what is run, as contracts see it
abbrev pub script_in : Job → Script
script_in job = record { defs = queues_in job.defs; phases = phases_in job.script }

-- the first line that needs what isn't built: the definitions of number n, or a line behind them
abbrev pub first_unbuilt : ℕ → Script → Option ℕ
first_unbuilt n s =
    if list_all is_built_queue s.defs
    then first_line (λ op. not (is_built_line op.what)) (all_ops s.phases)
    else Some n

-- What an input says: what may be run, or the first cause for which it is refused. First the definitions and then the
-- script are read; then comes what isn't built. The number of puts is looked at last.

-- this script, unless a line needs what isn't built
abbrev pub if_built : Script → Option ℕ → Result Script InputFault
if_built s None = Ok s
if_built s (Some n) = Err (NotBuilt n)

-- definitions, which are the line of number n, and a script behind them
abbrev pub job_says : ℕ → Script → Result Script InputFault
job_says n s = if_built s (first_unbuilt n s)

-- behind definitions of number n, by what the script was read as
abbrev pub with_script : ℕ → List Defined → Result (List Line) ScriptFault → Result Script InputFault
with_script n defs (Err fault) = Err (LineRefused fault)
with_script n defs (Ok ls) = job_says n (record { defs = defs; phases = phases_of ls })

-- by the cause of the definitions, which are this text
abbrev pub with_defs : ℕ → List ℕ → List (ℕ × List ℕ) → Option DefsFault → Result Script InputFault
with_defs n text texts (Some cause) = Err (Definitions n cause)
with_defs n text texts None = with_script n (defs_of text) (script_after (defs_of text) false [] texts)

-- the definitions are the first text; where there is none, line 1 is no JSON
abbrev pub with_texts : List (ℕ × List ℕ) → Result Script InputFault
with_texts [] = Err (Definitions 1 NotJson)
with_texts (text ∷ texts) = with_defs text.0 text.1 texts (fault_of text.1)

-- what the bytes of an input say
abbrev pub input_says : List ℕ → Result Script InputFault
input_says input = with_texts (numbered 1 (lines_of input))

-- it is refused for this cause, which is the first: that which was said, or a put that makes too many
abbrev pub IsRefusedFor : Result Script InputFault → InputFault → Type 0
IsRefusedFor said (TooManyEntries n) = (script : Script) × (said ≡ Ok script) × PassesAt n (all_ops script.phases)
IsRefusedFor said fault = said ≡ Err fault

-- The answer is what the input says. Want of memory may come in place of any.
abbrev pub GivesJob : Result Job InputFault → Result Script InputFault → Type 0
GivesJob (Ok job) said = said ≡ Ok (script_in job)
GivesJob (Err NoMemory) said = Unit {0}
GivesJob (Err fault) said = IsRefusedFor said fault

-- It can be run: it is within the limits, all of it is built, and it puts no more than a queue has room for.
pub record IsRunnable (s : Script) : Type 0 where
  pub defs : AreAllowed s.defs
  pub phases : AreAllowedPhases s.defs false s.phases
  pub queues : list_all is_built_queue s.defs ≡ true
  pub lines : list_all (λ op. is_built_line op.what) (all_ops s.phases) ≡ true
  pub few : all_puts (all_ops s.phases) ≤ most_entries
