use Rattle.std.proofs.Common.{◌≡◌, ◌+◌, ◌∷◌, [], ◌++◌, drop, arith}
use Rattle.std.proofs.lemmas.Grind.{common_steps}
use Rattle.serde_json.specs.View.{items_view, view}
use Rattle.defs_read.specs.Steps.{names_of}
use Rattle.defs_read.proofs.ConsumerLoop.{consumers_go_on}
use Rattle.defs_read.proofs.Lists.{next_item}
use Rattle.defs_read.proofs.consumers.read_consumers.Goals as goal

pub loop-value-preserved : goal.loop-value-preserved
loop-value-preserved c =
    let list = c.args.list.now in
    let i = c.loop-value.value-index in
    let names = names_of c.loop-value.names in
    let read = c.loop-value.consumers.items in
    let pushed : c.push.new.self.items ≡ read ++ c.in_ok-consumer.consumer ∷ [] = grind (arith, common_steps) in
    consumers_go_on (names_of c.args.names.now) (items_view list) names (names_of c.read_consumer.new.names) read c.push.new.self.items c.in_ok-consumer.consumer
    (items_view (drop i list)) (view c.value-item.result) (items_view (drop (i + 1) list))
    c.loop-value.invariant (next_item list i c.value-item.result c.loop-value-test.true c.value-item.is)
    c.in_ok-consumer.ensures.0 c.in_ok-consumer.ensures.1.0 c.in_ok-consumer.ensures.1.1 pushed
