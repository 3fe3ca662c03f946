use Rattle.std.proofs.Common.{◌≡◌, ◌++◌, refl, ap, ◌∙◌}
use Rattle.std.proofs.lemmas.Result.{err_from_is_err_and}
use Rattle.fields_read.specs.Forms.{first_of}
use Rattle.serde_json.specs.Data.{Items}
use Rattle.serde_json.specs.View.{items_view, view}
use Rattle.defs_read.specs.Causes.{name_in, names_in, queue_causes}
use Rattle.defs_read.specs.Defined.{defined}
use Rattle.defs_read.specs.Steps.{names_of}
use Rattle.defs_read.specs.Tables.{type_named}
use Rattle.defs_read.specs.Values.{kind_by, limits_of}
use Rattle.defs_read.specs.declared.defs.QueueDef.{QueueDef}
use Rattle.defs_read.proofs.QueueCauses.{consumers_refuse, is_queue, queue_passes, reads_from, typed_refuses}
use Rattle.defs_read.proofs.queues.read_queue.Goals as goal

pub returns-in_err-check_queue : goal.returns-in_err-check_queue
returns-in_err-check_queue c =
    let told = err_from_is_err_and c.from_residual.result c.from_residual.ensures.1 in
    let is = c.named-type_of_queue.ensures ∙ ap type_named c.text.ensures in
    rw (told.1, told.2) (typed_refuses c.named-type_of_queue.result (names_of c.args.queue_names.now) (names_of c.args.consumer_names.now) (view c.args.value.now) _ is refl c.in_err-check_queue.field-0.0 c.in_err-check_queue.ensures)

pub returns-in_err-consumers : goal.returns-in_err-consumers
returns-in_err-consumers c =
    let told = err_from_is_err_and c.from_residual-in_err-consumers.result c.from_residual-in_err-consumers.ensures.1 in
    let is = c.named-type_of_queue.ensures ∙ ap type_named c.text.ensures in
    rw (told.1, told.2) (consumers_refuse c.named-type_of_queue.result (names_of c.args.queue_names.now) (names_of c.args.consumer_names.now) (view c.args.value.now) (items_view c.items.result.now) is c.items.ensures c.in_err-consumers.field-0.0 c.in_ok-check_queue.ensures.0 c.in_err-consumers.ensures)

pub returns : goal.returns
returns c =
    let t = c.named-type_of_queue.result in
    let d = view c.args.value.now in
    let queues = names_of c.args.queue_names.now in
    let consumers = names_of c.args.consumer_names.now in
    let ds = items_view c.items.result.now in
    let read = c.in_ok-consumers.consumers.items in
    let is = c.named-type_of_queue.ensures ∙ ap type_named c.text.ensures in
    reads_from c.make_queue.result (first_of (queue_causes queues consumers d)) (λ (queue : QueueDef). defined queue ≡ record { name = name_in d; kind = kind_by t d; limits = limits_of d; consumers = read }) _
    (queue_passes t queues consumers d ds is c.items.ensures c.in_ok-check_queue.ensures.0 c.in_ok-consumers.ensures.0)
    (λ queue made. (is_queue t queues consumers d ds is c.items.ensures queue read c.in_ok-consumers.ensures.1.0 made, c.in_ok-check_queue.ensures.1.0, c.in_ok-consumers.ensures.1.1 ∙ ap (λ (xs : Items). names_of c.args.consumer_names.now ++ names_in xs) c.items.ensures))
    c.make_queue.ensures
