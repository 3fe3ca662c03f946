use Rattle.std.proofs.Common.{◌≡◌, ◌∙◌, [], map, refl, sym, arith}
use Rattle.std.proofs.lemmas.List.{nil_from_length}
use Rattle.script_read.specs.Phases.{actors_in}
use Rattle.broker_top.specs.Job.{script_in}
use Rattle.broker_top.proofs.Counting.{counts_begin, counts_end, counts_go_on, counts_stop}
use Rattle.broker_top.proofs.Phasing.{may_play, ran_none}
use Rattle.broker_top.proofs.Tallying.{as_many_lefts}
use Rattle.broker_top.proofs.generated.tally_phases.Goals as goal

pub returns-in_default : goal.returns-in_default
returns-in_default g c = (0, [], ran_none (script_in c.args.job) _)

pub phases-init : goal.phases-init
phases-init g c =
    let same : c.from-phases.result.items ≡ c.args.job.script.phases.items = c.from-phases.ensures.0 in
    record {
      defs = refl;
      runs = c.requires.runs;
      on = rw (same, c.nothing_counted-tally.ensures) (counts_begin (script_in c.args.job) _ c.in-Ok.left.items c.requires.runs c.in-Ok.ensures c.requires.few);
    }

pub tally_one-requires-clause-may : goal.tally_one-requires-clause-may
tally_one-requires-clause-may g c κs within =
    let on = rw c.in-Some.ensures.items at c.phases.invariant.on in
    may_play (script_in c.args.job) _ _ _ _ c.phases.left.items (actors_in c.in-Some.phase) (map actors_in c.pop_front.new.self.items) on.on c.phases.invariant.runs

pub phases-preserved : goal.phases-preserved
phases-preserved g c =
    let on = rw c.in-Some.ensures.items at c.phases.invariant.on in
    let one = c.in-Ok-tally_one.ensures in
    record {
      defs = refl;
      runs = c.requires.runs;
      on = counts_go_on (script_in c.args.job) _ _ _ c.phases.left.items (actors_in c.in-Some.phase) (map actors_in c.pop_front.new.self.items) on _ _ c.in-Ok-tally_one.next.items one.0 one.1 one.2;
    }

pub returns-in-Err : goal.returns-in-Err
returns-in-Err g c = counts_stop (script_in c.args.job) _ _ _ _ c.phases.left.items _ c.phases.invariant.on c.in-Err.ensures

pub entries_in-requires-clause-queues : goal.entries_in-requires-clause-queues
entries_in-requires-clause-queues g c =
    let on = c.phases.invariant.on.on in
    rw c.deref.ensures.value (omega (arith, as_many_lefts _ c.phases.left.items on.stay, c.phases.invariant.runs.defs.few))

pub returns : goal.returns
returns g c =
    let none : c.pop_front.new.self.items ≡ [] = nil_from_length _ (sym c.pop_front.new.self.ok.0 ∙ c.in_default-pop_front.ensures.cases.1) in
    counts_end (script_in c.args.job) _ _ _ c.phases.left.items c.entries_in.result
    (rw (c.in_default-pop_front.ensures.items, none) at c.phases.invariant.on)
    (rw c.deref.ensures.value at c.entries_in.ensures)
