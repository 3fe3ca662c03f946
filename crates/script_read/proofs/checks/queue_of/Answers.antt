use Rattle.std.proofs.Common.{refl, sym, ap, ◌∙◌}
use Rattle.std.specs.Prelude.{option_map}
use Rattle.serde_json.specs.Data.{Data}
use Rattle.serde_json.specs.Find.{get}
use Rattle.serde_json.specs.View.{view}
use Rattle.defs_read.specs.Defined.{queues_in}
use Rattle.script_read.proofs.Firsts.{place_named, queue_known, queue_unknown, queue_unnamed}
use Rattle.script_read.proofs.checks.queue_of.Goals as goal

pub returns-in-Some : goal.returns-in-Some
returns-in-Some c =
    let d : Data = view c.args.value.now in
    let found = c.get-named.ensures ∙ ap (λ name. get name d) c.name.ensures in
    let place = place_named (queues_in c.args.defs.now) d (option_map (λ v. view v.now) c.get-named.result) c.bytes_in.result.now c.queue_at.result found c.bytes_in.ensures c.queue_at.ensures in
    queue_known (queues_in c.args.defs.now) d c.in-Some.number (sym place ∙ c.in-Some.is)

pub returns-in-Some-named : goal.returns-in-Some-named
returns-in-Some-named c =
    let d : Data = view c.args.value.now in
    let found = c.get-named.ensures ∙ ap (λ name. get name d) c.name.ensures in
    let place = place_named (queues_in c.args.defs.now) d (option_map (λ v. view v.now) c.get-named.result) c.bytes_in.result.now c.queue_at.result found c.bytes_in.ensures c.queue_at.ensures in
    (queue_unknown (queues_in c.args.defs.now) d (view c.in-Some-named.field-0.now) (sym found ∙ ap (λ o. option_map (λ v. view v.now) o) c.in-Some-named.is) (sym place ∙ c.in-None.is), refl)

pub returns-in-None-named : goal.returns-in-None-named
returns-in-None-named c =
    let d : Data = view c.args.value.now in
    let found = c.get-named.ensures ∙ ap (λ name. get name d) c.name.ensures in
    let place = place_named (queues_in c.args.defs.now) d (option_map (λ v. view v.now) c.get-named.result) c.bytes_in.result.now c.queue_at.result found c.bytes_in.ensures c.queue_at.ensures in
    queue_unnamed (queues_in c.args.defs.now) d (sym found ∙ ap (λ o. option_map (λ v. view v.now) o) c.in-None-named.is) (sym place ∙ c.in-None.is)
