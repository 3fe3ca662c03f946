use Rattle.std.proofs.Common.{ap, length, map, List, sym, ◌∙◌}
use Rattle.std.proofs.lemmas.Bool.{ltb-true}
use Rattle.defs_read.specs.declared.defs.QueueDef.{QueueDef}
use Rattle.defs_read.specs.Defined.{defined}
use Rattle.stage_core.specs.Items.{name_at, names_in}
use Rattle.stage_core.proofs.Names.{no_name_past, name_here}
use Rattle.stage_core.proofs.room.name_len.Goals as goal

pub returns-in-Some-clause-len : goal.returns-in-Some-clause-len
returns-in-Some-clause-len c =
    let h = c.in-Some.ensures.lookup in
    ap length (c.as_slice.ensures
    ∙ sym (name_here c.deref.result.now c.args.queue c.in-Some.def.now (ltb-true c.args.queue (length c.deref.result.now) (sym h.0)) h.1))
    ∙ ap (λ (items : List QueueDef). length (name_at (names_in (map defined items)) c.args.queue)) c.deref.ensures.value

pub returns-in-None-clause-len : goal.returns-in-None-clause-len
returns-in-None-clause-len c =
    let h = c.in-None.ensures.lookup in
    ap length (sym (no_name_past c.deref.result.now c.args.queue h.3))
    ∙ ap (λ (items : List QueueDef). length (name_at (names_in (map defined items)) c.args.queue)) c.deref.ensures.value
