use Rattle.std.proofs.Common.{rules, ◌∙◌, subst}
use Rattle.queue_model.specs.declared.queues.Queue.{Queue}
use Rattle.queue_model.specs.declared.steps.Step.TheVariants as steps
use Rattle.queue_model.specs.declared.steps.WordName.TheVariants as names
use Rattle.queue_model.specs.History.{after}
use Rattle.acts_core.specs.Rest.{Rests}
use Rattle.entry_table.specs.Passes.{opening, seen}
use Rattle.entry_table.specs.Plays.{Shows}
use Rattle.entry_calls.proofs.Closable.{idle_then, rests_here, rested_more}
use Rattle.entry_calls.proofs.closing_tests.saw_rest.Goals as goal

pub loop-row-preserved : goal.loop-row-preserved
loop-row-preserved c =
    let old = c.args.pass.now in
    let mid = c.loop-row.pass in
    let new = c.look-word.new.pass in
    let row = c.loop-row.row in
    let k = c.look-word.ensures in
    let i = c.loop-row.invariant in
    let rests : Rests c.state_of.result = search rules in
    let shows = subst (λ (o : Queue). Shows (steps.Load (names.State row)) c.look-word.result (after o (seen new))) (k.kept.opening ∙ i.idle.kept.opening) k.shows in
    record {
      table = record { table = k.kept.table ∙ i.table.table; shape = k.kept.shape ∙ i.table.shape };
      idle = idle_then old mid new i.idle k.kept k.did;
      below = rested_more (opening old) (seen old) (seen mid) (seen new) row i.idle.grows k.did.prefix i.below
          (λ x found. rests_here (after (opening old) (seen new)) row c.look-word.result c.state_of.result shows c.state_of.ensures rests x found);
    }
