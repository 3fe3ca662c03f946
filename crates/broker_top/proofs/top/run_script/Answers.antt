use Rattle.std.proofs.Common.{inl, inr, refl, sym}
use Rattle.broker_top.specs.Job.{script_in}
use Rattle.command_line.specs.Tasks.{run}
use Rattle.broker_top.proofs.Ended.{ends_cut, ends_done, ends_short}
use Rattle.broker_top.proofs.Endings.{err_says, fault_ends, unread_ends}
use Rattle.broker_top.proofs.top.run_script.Goals as goal
use Rattle.broker_top.proofs.top.run_script.Goals.{in-Ok-run_phases, in-Err-NoMemory, in-Err-WriteFault}

pub returns-in-Err : goal.returns-in-Err
returns-in-Err g c = unread_ends run _ _ _ refl tt c.in-Err.unread (λ large. inl large) c.in-Err.ensures.unread c.tell_unread.ensures

pub returns-in-Err-read_job : goal.returns-in-Err-read_job
returns-in-Err-read_job g c =
    fault_ends run _ _ _ refl tt c.in-Err-read_job.fault c.in-Ok.ensures.kept
    (λ other. inr (record {
      input = c.in-Ok.bytes.items;
      whole = c.in-Ok.ensures.whole;
      fault = c.in-Err-read_job.fault;
      refused = err_says c.in-Err-read_job.fault _ (rw c.deref.ensures.value at c.in-Err-read_job.ensures.says) other;
      told = refl;
    }))
    c.refuse.ensures

pub returns : goal.returns
returns g c =
    let input = c.in-Ok.bytes.items in
    let script = script_in c.in-Ok-read_job.job in
    let says = rw c.deref.ensures.value at c.in-Ok-read_job.ensures.says in
    elim c.match-run_phases.branch [
      | in-Ok-run_phases w ↦ ends_done _ _ _ input script c.in-Ok.ensures.whole says c.in-Ok-read_job.ensures.runs c.in-Ok.ensures.kept _ _ c.of-roster.ensures c.finish.ensures (record {}) w.status-is (rw (sym w.out-is) at w.in-Ok-run_phases.ensures)
      | in-Err-NoMemory w ↦ ends_short _ _ _ input script c.in-Ok.ensures.whole says c.in-Ok-read_job.ensures.runs c.in-Ok.ensures.kept _ _ c.of-roster.ensures c.finish.ensures (g.K.Sink.written c.run_phases.new.out) (g.K.Sink.faults c.run_phases.new.out) (rw w.in-Err-NoMemory.field-0-is at w.in-Err-NoMemory.ensures) (rw (sym w.status-is, sym w.out-is) at w.tell_no_memory-status.ensures)
      | in-Err-WriteFault w ↦ ends_cut _ _ _ input script c.in-Ok.ensures.whole says c.in-Ok-read_job.ensures.runs c.in-Ok.ensures.kept _ _ c.of-roster.ensures c.finish.ensures w.status-is (rw (w.in-Err-WriteFault.field-0-is, sym w.out-is) at w.in-Err-WriteFault.ensures)
    ]
