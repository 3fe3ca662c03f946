use Rattle.std.proofs.Common.{rules, arith}
use Rattle.entry_table.specs.Views.{rest_of}
use Rattle.entry_table.proofs.Parting.{notes_allowed}
use Rattle.entry_table.proofs.entries.Entries.note_at.Goals as goal

pub split_seat-requires : goal.split_seat-requires
split_seat-requires g c =
    let wide = c.args.self.now.wide in (
      search rules,
      omega (arith, wide),
      notes_allowed g.C.Freight.goods c.args.self.now.table.shared.key _ c.args.seat.now.me.0 c.args.caller (rest_of c.args.seat.now.me.0.callers) c.requires.caller c.requires.idle,
    )
