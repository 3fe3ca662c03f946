use Rattle.std.proofs.Common.{◌≡◌, ◌&&◌, ◌<◌, ℕ, List, Bool, length, get_or, sym, ap, ◌∙◌}
use Rattle.std.specs.Str.{bytes_eq}
use Rattle.serde_json.specs.View.{view}
use Rattle.fields_read.specs.declared.fields.Field.TheVariants.{Consumer}
use Rattle.script_read.specs.Parts.{text_or_none}
use Rattle.defs_read.specs.declared.defs.ConsumerDef.{ConsumerDef}
use Rattle.defs_read.specs.declared.defs.QueueDef.{QueueDef}
use Rattle.script_read.proofs.Names.{number_of, all_consumers, queue_has, queue_lacks}
use Rattle.script_read.proofs.checks.consumer_named.Goals as goal

abbrev is_named : List ℕ → List ℕ → ConsumerDef → Bool
is_named name actor c = bytes_eq c.name name && bytes_eq c.actor actor

pub returns-in-Some : goal.returns-in-Some
returns-in-Some c =
    let name : List ℕ = c.text_bytes-name.result.now in
    let actor : List ℕ = c.text_bytes-actor.result.now in
    let queues : List QueueDef = c.args.defs.now.queues.items in
    let has = ap (λ (cs : List ConsumerDef). number_of (is_named name actor) cs) (sym c.deref.ensures.value) ∙ sym c.consumer_among.ensures ∙ c.in-Some.is in
    let below : c.loop-queue.queue-index < length queues = rw (← c.deref-queue-items.ensures.value) c.loop-queue-test.true in
    let at : c.queue-item.result ≡ get_or queues c.loop-queue.queue-index c.queue-item.result = c.queue-item.is ∙ ap (λ (qs : List QueueDef). get_or qs c.loop-queue.queue-index c.queue-item.result) c.deref-queue-items.ensures.value in
    sym (queue_has (is_named name actor) queues c.loop-queue.queue-index c.queue-item.result c.in-Some.number below at has)
    ∙ sym c.loop-queue.invariant
    ∙ ap (λ (name : List ℕ). number_of (is_named name actor) (all_consumers queues)) c.text_bytes-name.ensures
    ∙ ap (λ (actor : List ℕ). number_of (is_named (text_or_none Consumer (view c.args.value.now)) actor) (all_consumers queues)) c.text_bytes-actor.ensures

pub loop-queue-preserved : goal.loop-queue-preserved
loop-queue-preserved c =
    let name : List ℕ = c.text_bytes-name.result.now in
    let actor : List ℕ = c.text_bytes-actor.result.now in
    let queues : List QueueDef = c.args.defs.now.queues.items in
    let lacks = ap (λ (cs : List ConsumerDef). number_of (is_named name actor) cs) (sym c.deref.ensures.value) ∙ sym c.consumer_among.ensures ∙ c.in_default.is in
    let below : c.loop-queue.queue-index < length queues = rw (← c.deref-queue-items.ensures.value) c.loop-queue-test.true in
    let at : c.queue-item.result ≡ get_or queues c.loop-queue.queue-index c.queue-item.result = c.queue-item.is ∙ ap (λ (qs : List QueueDef). get_or qs c.loop-queue.queue-index c.queue-item.result) c.deref-queue-items.ensures.value in
    c.loop-queue.invariant ∙ queue_lacks (is_named name actor) queues c.loop-queue.queue-index c.queue-item.result below at lacks
