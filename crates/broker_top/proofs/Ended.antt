-- how a run ends that was begun
use Rattle.std.proofs.Common.{◌≡◌, ℕ, ◌+◌, arith, inl, inr, Option, Some, Ok, Err, List, ◌++◌, codes, length, map, take, refl, sym, ap, ◌∙◌, subst}
use Rattle.std.proofs.lemmas.List.{length-append, take-append-le}
use Rattle.std.proofs.Math.Seq.{take-append-add, take-length}
use Rattle.outside_io.specs.Told.{Adds}
use Rattle.outside_io.proofs.Says.{adds_then}
use Rattle.script_read.specs.Phases.{Actors}
use Rattle.target_core.specs.Seats.{Seat, Seats, standing}
use Rattle.account_core.specs.Phases.{ArePhases, nothing}
use Rattle.account_core.specs.Runs.{Ran}
use Rattle.broker_top.specs.Ends.{TaskEnds}
use Rattle.command_status.specs.Told.{Tells}
use Rattle.broker_top.specs.Input.{IsWhole}
use Rattle.broker_top.specs.Job.{IsRunnable, Script, input_says}
use Rattle.broker_top.specs.Phases.{RanTo, RunsPhases}
use Rattle.command_line.specs.Tasks.{run}
use Rattle.broker_top.specs.World.{World}
use Rattle.broker_top.specs.declared.phases.Stopped.TheVariants as stopped
use Rattle.command_status.specs.declared.status.Status.{Status}
use Rattle.command_status.specs.declared.status.Status.TheVariants.{Done, NoMemory, WriteFault}

pub ran_of : (script : Script) (some : ℕ) (handed back : List Seat) (seats seats' : Seats) (text : List ℕ) → seats ≡ map Some handed → back ≡ standing seats' → RanTo script some seats seats' text → Ran script.defs (take some script.phases) handed back text
ran_of script some handed back seats seats' text opened closed r = record {
  accounts = r.accounts;
  seats = r.after;
  are_phases = subst (λ (s : Seats). ArePhases script.defs (nothing script.defs) s (take some script.phases) r.accounts r.after) opened r.are_phases;
  came = record { left = seats'; same = r.same; came = closed };
  told = r.told;
}

abbrev fault : List ℕ
fault = codes "fault: memory\n"

module _ (result : Status) (w w' : World) (input : List ℕ) (script : Script) (whole : IsWhole input w.left w'.left) (says : input_says input ≡ Ok script) (runs : IsRunnable script) (kept : w'.read_faults ≡ w.read_faults) (seats seats' : Seats) (opened : seats ≡ map Some w.seats) (closed : w'.seats ≡ standing seats') where
  pub ends_done : (u : Unit {0}) → result ≡ Done → RunsPhases (Ok u) script seats seats' w.written w'.written w.write_faults w'.write_faults → TaskEnds run result w w'
  ends_done u is r = record {
    status = Done;
    text = r.0;
    comes = record {
      input = input;
      whole = whole;
      script = script;
      says = says;
      runs = runs;
      ran = subst (λ (phases : List Actors). Ran script.defs phases w.seats w'.seats r.0) (take-length script.phases) (ran_of script (length script.phases) w.seats w'.seats seats seats' r.0 opened closed r.1);
    };
    source = kept;
    unread = tt;
    tells = inl (is, r.3, r.2);
  }

  pub ends_short : (mid : Option (List ℕ)) (faults : ℕ) → RunsPhases (Err stopped.NoMemory) script seats seats' w.written mid w.write_faults faults → Tells result NoMemory fault mid w'.written faults w'.write_faults → TaskEnds run result w w'
  ends_short mid faults r tells = record {
    status = NoMemory;
    text = r.1 ++ fault;
    comes = inr (record {
      input = input;
      whole = whole;
      script = script;
      says = says;
      runs = runs;
      some = r.0;
      front = r.1;
      ran = ran_of script r.0 w.seats w'.seats seats seats' r.1 opened closed r.2;
      told = refl;
    });
    source = kept;
    unread = tt;
    tells = told tells;
  } where
    told : Tells result NoMemory fault mid w'.written faults w'.write_faults → Tells result NoMemory (r.1 ++ fault) w.written w'.written w.write_faults w'.write_faults
    told (inl t) = inl (t.0, t.1 ∙ r.4, adds_then w.written mid w'.written r.1 fault r.3 t.2)
    told (inr t) = inr (
      t.0,
      t.1 ∙ ap (λ (n : ℕ). n + 1) r.4,
      (
        length r.1 + t.2.0,
        omega (arith, length-append r.1 fault, t.2.1),
        subst (Adds w.written w'.written) (sym (take-append-add r.1 fault t.2.0)) (adds_then w.written mid w'.written r.1 (take t.2.0 fault) r.3 t.2.2),
      ),
    )

  pub ends_cut : result ≡ WriteFault → RunsPhases (Err stopped.WriteFault) script seats seats' w.written w'.written w.write_faults w'.write_faults → TaskEnds run result w w'
  ends_cut is r = record {
    status = NoMemory;
    text = r.1 ++ fault;
    comes = inr (record {
      input = input;
      whole = whole;
      script = script;
      says = says;
      runs = runs;
      some = r.0;
      front = r.1;
      ran = ran_of script r.0 w.seats w'.seats seats seats' r.1 opened closed r.2;
      told = refl;
    });
    source = kept;
    unread = tt;
    tells = inr (
      is,
      r.4,
      (r.3.0, omega (arith, length-append r.1 fault, r.3.1), subst (Adds w.written w'.written) (sym (take-append-le r.3.0 r.1 fault r.3.1)) r.3.2),
    );
  }
