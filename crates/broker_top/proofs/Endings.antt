-- how a task ends that was not done
use Rattle.std.proofs.Common.{◌≡◌, ℕ, inl, inr, List, Result, Err, codes, refl, ap}
use Rattle.script_read.specs.declared.faults.LineFault.TheVariants as line
use Rattle.script_read.specs.declared.faults.ScriptFault.{ScriptFault}
use Rattle.broker_top.specs.declared.faults.InputFault.{InputFault}
use Rattle.broker_top.specs.declared.faults.InputFault.TheVariants as input
use Rattle.broker_top.specs.declared.input.Unread.{Unread}
use Rattle.broker_top.specs.declared.input.Unread.TheVariants as not_read
use Rattle.command_status.specs.declared.status.Status.{Status}
use Rattle.command_status.specs.declared.status.Status.TheVariants.{InputRefused, NoMemory}
use Rattle.broker_top.specs.Ends.{Comes, IsRefused, IsShort, LeavesSource, ReadFaults, Refuses, TaskEnds, TellsRefusal, WantsMemory}
use Rattle.command_status.specs.Told.{Tells}
use Rattle.broker_top.specs.Faults.{OfScript, fault_text, line_cause, line_text}
use Rattle.broker_top.specs.Input.{IsTooLarge, LeavesUnread, too_large_text}
use Rattle.broker_top.specs.Job.{GivesJob, IsRefusedFor, Script}
use Rattle.broker_top.specs.Unread.{unread_status, unread_text}
use Rattle.command_line.specs.Tasks.{Task, gen, run, select}
use Rattle.broker_top.specs.World.{World, Unserved}

-- before anything ran
wants : (task : Task) (text : List ℕ) (w w' : World) → IsShort text w w' → WantsMemory task text w w'
wants run text w w' short = inl short
wants (select selector) text w w' short = short
wants (gen number count) text w w' short = inl short

module _ (task : Task) (result : Status) (w w' : World) (unserved : Unserved w w') (unread : LeavesSource task w w') where
  pub wants_memory : w'.read_faults ≡ w.read_faults → Tells result NoMemory (codes "fault: memory\n") w.written w'.written w.write_faults w'.write_faults → TaskEnds task result w w'
  wants_memory kept tells = record { status = NoMemory; text = codes "fault: memory\n"; comes = wants task (codes "fault: memory\n") w w' (refl, unserved); source = kept; unread = unread; tells = tells }

  pub refusal : (text : List ℕ) → w'.read_faults ≡ w.read_faults → IsRefused task text w.left w'.left → Tells result InputRefused text w.written w'.written w.write_faults w'.write_faults → TaskEnds task result w w'
  refusal text kept refused tells = record { status = InputRefused; text = text; comes = (refused, unserved); source = kept; unread = unread; tells = tells }

  unread_comes : (u : Unread) → (IsTooLarge too_large_text w.left w'.left → IsRefused task too_large_text w.left w'.left) → LeavesUnread u w.left w'.left w.read_faults w'.read_faults → Comes task (unread_status u) (unread_text u) w w'
  unread_comes not_read.TooLarge refused h = (refused (record { front = h.1.0; read = h.1.1; large = h.1.2; told = refl }), unserved)
  unread_comes not_read.Fault refused h = (refl, unserved)
  unread_comes not_read.NoMemory refused h = wants task (codes "fault: memory\n") w w' (refl, unserved)

  unread_faults : (u : Unread) → LeavesUnread u w.left w'.left w.read_faults w'.read_faults → ReadFaults (unread_status u) w.read_faults w'.read_faults
  unread_faults not_read.TooLarge h = h.0
  unread_faults not_read.Fault h = h
  unread_faults not_read.NoMemory h = h

  pub unread_ends : (u : Unread) → (IsTooLarge too_large_text w.left w'.left → IsRefused task too_large_text w.left w'.left) → LeavesUnread u w.left w'.left w.read_faults w'.read_faults
      → Tells result (unread_status u) (unread_text u) w.written w'.written w.write_faults w'.write_faults → TaskEnds task result w w'
  unread_ends u refused h tells = record { status = unread_status u; text = unread_text u; comes = unread_comes u refused h; source = unread_faults u h; unread = unread; tells = tells }

  pub refusal_ends : (text : List ℕ) → w'.read_faults ≡ w.read_faults → IsRefused task text w.left w'.left → TellsRefusal text result w.written w'.written w.write_faults w'.write_faults → TaskEnds task result w w'
  refusal_ends text kept refused (inl tells) = refusal text kept refused tells
  refusal_ends text kept refused (inr tells) = wants_memory kept tells

  pub fault_ends : (fault : InputFault) → w'.read_faults ≡ w.read_faults → ((fault ≡ input.NoMemory → ⊥) → IsRefused task (fault_text fault) w.left w'.left) → Refuses fault result w.written w'.written w.write_faults w'.write_faults → TaskEnds task result w w'
  fault_ends fault kept refused (inl told) = refusal (fault_text fault) kept (refused told.0) told.1
  fault_ends fault kept refused (inr tells) = wants_memory kept tells

-- a fault of an input that is no want of memory is that for which it is refused
pub err_says : (fault : InputFault) (said : Result Script InputFault) → GivesJob (Err fault) said → (fault ≡ input.NoMemory → ⊥) → IsRefusedFor said fault
err_says (input.Definitions n cause) said h other = h
err_says (input.Line refused) said h other = h
err_says (input.NotBuilt n) said h other = h
err_says (input.TooManyEntries n) said h other = h
err_says input.NoMemory said h other = absurd (other refl)

-- a line's fault that is no want of memory is that of a script
pub of_script : (fault : ScriptFault) (told : InputFault) → OfScript fault told → (told ≡ input.NoMemory → ⊥) → (fault.cause ≡ line.NoMemory → ⊥) × (fault_text told ≡ line_text fault.line (line_cause fault.cause))
of_script fault (input.Line refused) h other = (h.1, ap (λ (s : ScriptFault). line_text s.line (line_cause s.cause)) h.0)
of_script fault input.NoMemory h other = absurd (other refl)
of_script fault (input.Definitions n cause) h other = absurd h
of_script fault (input.NotBuilt n) h other = absurd h
of_script fault (input.TooManyEntries n) h other = absurd h
