use Rattle.std.proofs.Common.{Bool, ap, cond, length, sym, ◌∙◌}
use Rattle.journal_format.specs.declared.items.Item.TheVariants.{Entered}
use Rattle.journal_format.specs.Spelling.{item_bytes}
use Rattle.stage_core.specs.Room.{gone_bytes}
use Rattle.stage_core.proofs.room.put_bytes.Goals as goal

pub returns-else-persistent : goal.returns-else-persistent
returns-else-persistent c = λ name same.
    c.gone_size.ensures name 0 same
    ∙ sym (ap (λ (b : Bool). cond b (length (item_bytes (Entered name c.args.message.now))) (gone_bytes name)) (sym c.persistent.ensures ∙ c.if-persistent.false))
