use Rattle.std.proofs.Common.{sym, ap, ◌∙◌, ⊎_elim}
use Rattle.defs_read.specs.Defined.{queues_in}
use Rattle.stage_core.specs.Items.{name_at, names_in}
use Rattle.stage_core.specs.Room.{line_bytes}
use Rattle.stage_core.proofs.room.line_bytes.Goals as goal

pub returns-in-Ack : goal.returns-in-Ack
returns-in-Ack c =
    let names = names_in (queues_in c.args.defs.now) in
    let size = c.gone_size.ensures (name_at names c.in-Ack.queue) 0 (sym c.name_len-in-Ack.ensures.len) in
    ⊎_elim (λ t. size ∙ ap (line_bytes names) (sym t.1)) (λ t. size ∙ ap (line_bytes names) (sym t.1)) c.in-Ack.is
