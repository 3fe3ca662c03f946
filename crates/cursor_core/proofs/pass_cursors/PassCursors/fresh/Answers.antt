use Rattle.std.proofs.Common.{arith, length-set, ◌∙◌}
use Rattle.entry_table.specs.Sights.{sight}
use Rattle.cursor_core.proofs.Slots.{fresh_more}
use Rattle.cursor_core.proofs.pass_cursors.PassCursors.fresh.Goals as goal

pub invariant_of-result : goal.invariant_of-result
invariant_of-result c = record { places = c.loop-consumer.invariant.places }

pub loop-consumer-preserved : goal.loop-consumer-preserved
loop-consumer-preserved c =
    let i = c.loop-consumer.invariant in
    let few = c.requires.consumers in
    let long = i.places in
    record {
      fresh = fresh_more (sight c.args.pass.now) c.loop-consumer.consumer c.loop-consumer.slots c.fresh.result (omega (arith, few, long, c.loop-consumer-test.true)) c.fresh.ensures.consumer c.fresh.ensures.truth i.fresh;
      places = length-set c.loop-consumer.slots c.loop-consumer.consumer _ ∙ i.places;
    }
