use Rattle.std.proofs.Common.{arith}
use Rattle.entry_table.specs.Views.{rest_of}
use Rattle.entry_table.proofs.Drafting.{draws_allowed}
use Rattle.entry_table.proofs.entries.Entries.draw_word.Goals as goal

pub compare_exchange-requires : goal.compare_exchange-requires
compare_exchange-requires g c =
    let wide = c.args.self.now.wide in (
      c.requires.table,
      omega (arith, wide),
      draws_allowed g.C.Freight.goods c.args.self.now.table.shared.key _ _ c.args.row c.args.seat.now.me c.args.caller (rest_of c.args.seat.now.me.0.callers) c.requires.caller c.requires.idle c.requires.room,
    )
