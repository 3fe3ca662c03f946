use Rattle.std.proofs.Common.{◌≡◌, ◌+◌, ◌∷◌, [], ◌++◌, drop, arith}
use Rattle.std.proofs.lemmas.Grind.{common_steps}
use Rattle.std.proofs.lemmas.Result.{err_from_is_err_and}
use Rattle.serde_json.specs.View.{items_view, view}
use Rattle.defs_read.specs.Steps.{names_of}
use Rattle.defs_read.proofs.QueueLoop.{queues_go_on, queues_stop}
use Rattle.defs_read.proofs.Lists.{next_item}
use Rattle.defs_read.proofs.queues.read_queues.Goals as goal

pub returns-in_err-queue : goal.returns-in_err-queue
returns-in_err-queue c =
    let told = err_from_is_err_and c.from_residual.result c.from_residual.ensures.1 in
    let list = c.args.list.now in
    let i = c.loop-value.value-index in
    rw (told.1, told.2) (queues_stop (items_view list) (names_of c.loop-value.queue_names) (names_of c.loop-value.consumer_names) c.loop-value.queues.items
    (items_view (drop i list)) (view c.value-item.result) (items_view (drop (i + 1) list)) c.in_err-queue.field-0.0
    c.loop-value.invariant (next_item list i c.value-item.result c.loop-value-test.true c.value-item.is) c.in_err-queue.ensures)

pub loop-value-preserved : goal.loop-value-preserved
loop-value-preserved c =
    let list = c.args.list.now in
    let i = c.loop-value.value-index in
    let read = c.loop-value.queues.items in
    let pushed : c.push.new.self.items ≡ read ++ c.in_ok-queue.queue ∷ [] = grind (arith, common_steps) in
    queues_go_on (items_view list) (names_of c.loop-value.queue_names) (names_of c.read_queue.new.queue_names) (names_of c.loop-value.consumer_names) (names_of c.read_queue.new.consumer_names)
    read c.push.new.self.items c.in_ok-queue.queue
    (items_view (drop i list)) (view c.value-item.result) (items_view (drop (i + 1) list))
    c.loop-value.invariant (next_item list i c.value-item.result c.loop-value-test.true c.value-item.is)
    c.in_ok-queue.ensures.0 c.in_ok-queue.ensures.1.0 c.in_ok-queue.ensures.1.1 c.in_ok-queue.ensures.1.2 pushed
