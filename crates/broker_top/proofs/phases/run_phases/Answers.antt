use Rattle.std.proofs.Common.{◌≡◌, ◌∙◌, [], map, refl, sym}
use Rattle.std.proofs.lemmas.List.{nil_from_length}
use Rattle.script_read.specs.Phases.{actors_in}
use Rattle.broker_top.specs.Job.{script_in}
use Rattle.broker_top.proofs.Phasing.{adds_none, begins, goes_on, may_play, ran_none}
use Rattle.broker_top.proofs.Stopping.{ended, stops}
use Rattle.broker_top.proofs.phases.run_phases.Goals as goal

pub returns-in_default : goal.returns-in_default
returns-in_default g c = (0, [], ran_none (script_in c.args.job) _, adds_none _, refl)

pub returns-in_default-none_left : goal.returns-in_default-none_left
returns-in_default-none_left g c = (0, [], ran_none (script_in c.args.job) _, adds_none _, refl)

pub phases-init : goal.phases-init
phases-init g c =
    let same : c.from-phases.result.items ≡ c.args.job.script.phases.items = c.from-phases.ensures.0 in
    record {
      defs = refl;
      names = c.in-Ok.ensures;
      runs = c.requires.runs;
      on = rw same (begins (script_in c.args.job) _ _ c.in-Ok-none_left.left.items c.requires.runs c.in-Ok-none_left.ensures);
      faults = refl;
    }

pub run_one-requires-clause-may : goal.run_one-requires-clause-may
run_one-requires-clause-may g c κs within =
    let on = rw c.in-Some.ensures.items at c.phases.invariant.on in
    may_play (script_in c.args.job) _ _ _ _ c.phases.left.items (actors_in c.in-Some.phase) (map actors_in c.pop_front.new.self.items) on c.phases.invariant.runs

pub phases-preserved : goal.phases-preserved
phases-preserved g c =
    let on = rw c.in-Some.ensures.items at c.phases.invariant.on in
    let one = c.in-Ok-run_one.ensures in
    record {
      defs = refl;
      names = c.phases.invariant.names;
      runs = c.requires.runs;
      on = goes_on (script_in c.args.job) _ _ _ _ c.phases.left.items (actors_in c.in-Some.phase) (map actors_in c.pop_front.new.self.items) on _ (g.K.Sink.written c.run_one.new.out) c.in-Ok-run_one.next.items one.0 one.1 one.2;
      faults = one.3 ∙ c.phases.invariant.faults;
    }

pub returns-in-Err : goal.returns-in-Err
returns-in-Err g c =
    let on = rw c.in-Some.ensures.items at c.phases.invariant.on in
    stops (script_in c.args.job) _ _ _ _ _ _ _ _ _ c.phases.left.items (actors_in c.in-Some.phase) (map actors_in c.pop_front.new.self.items) on c.phases.invariant.faults c.in-Err.stopped c.in-Err.ensures

pub returns : goal.returns
returns g c =
    let none : c.pop_front.new.self.items ≡ [] = nil_from_length _ (sym c.pop_front.new.self.ok.0 ∙ c.in_default-pop_front.ensures.cases.1) in
    ended (script_in c.args.job) _ _ _ _ _ _ c.phases.left.items (record {}) (rw (c.in_default-pop_front.ensures.items, none) at c.phases.invariant.on) c.phases.invariant.faults
