use Rattle.std.proofs.Common.{◌≡◌, ◌<◌, ◌≤◌, ℕ, Some, List, length, map, slice_get, refl, sym, ap, ◌∙◌, subst, arith}
use Rattle.std.specs.Option.{option_map}
use Rattle.std.proofs.lemmas.Option.{slice_get-map, slice_get_read}
use Rattle.defs_read.specs.declared.defs.QueueDef.{QueueDef}
use Rattle.defs_read.specs.Defined.{defined, queues_in}
use Rattle.workers_core.proofs.Served.{place_here, place_later}
use Rattle.workers_core.proofs.making.place_of.Goals as goal

pub returns-then-left-count : goal.returns-then-left-count
returns-then-left-count c =
    let items : List QueueDef = c.deref-def-items.result.now in
    let def : QueueDef = c.def-item.result in
    let q : ℕ = c.queues.number in
    let at : slice_get (map defined items) q ≡ Some (defined def) = slice_get-map defined items q ∙ ap (option_map defined) (slice_get_read items (length items) q def refl c.queues-test.true c.def-item.is) in
    let there : slice_get (queues_in c.args.defs.now) q ≡ Some (defined def) = subst (λ (ds : List QueueDef). slice_get (map defined ds) q ≡ Some (defined def)) c.deref-def-items.ensures.value at in
    let within : c.queues.left < length def.consumers.items = omega (arith, c.if-left-count.true, c.len-count.ensures, def.consumers.ok.0) in
    sym (place_here (queues_in c.args.defs.now) q c.queues.left (defined def) there within) ∙ c.queues.invariant.rest

pub queues-preserved : goal.queues-preserved
queues-preserved c =
    let items : List QueueDef = c.deref-def-items.result.now in
    let def : QueueDef = c.def-item.result in
    let q : ℕ = c.queues.number in
    let at : slice_get (map defined items) q ≡ Some (defined def) = slice_get-map defined items q ∙ ap (option_map defined) (slice_get_read items (length items) q def refl c.queues-test.true c.def-item.is) in
    let there : slice_get (queues_in c.args.defs.now) q ≡ Some (defined def) = subst (λ (ds : List QueueDef). slice_get (map defined ds) q ≡ Some (defined def)) c.deref-def-items.ensures.value at in
    let many : c.len-count.result ≡ length def.consumers.items = omega (arith, c.len-count.ensures, def.consumers.ok.0) in
    let past : length def.consumers.items ≤ c.queues.left = omega (arith, c.if-left-count.false, many) in
    record {
      rest = rw many (sym (place_later (queues_in c.args.defs.now) q c.queues.left (defined def) there past) ∙ c.queues.invariant.rest);
      less = omega (arith, c.queues.invariant.less);
    }
