use Rattle.std.proofs.Common.{arith}
use Rattle.entry_table.specs.Views.{rest_of}
use Rattle.entry_table.proofs.Opening.{opens_allowed}
use Rattle.entry_table.proofs.entries.Entries.open_at.Goals as goal

pub load-requires : goal.load-requires
load-requires g c =
    let wide = c.args.self.now.wide in (
      c.requires.table,
      omega (arith, wide),
      opens_allowed g.C.Freight.goods c.args.self.now.table.shared.key _ _ 1 c.args.seat.now.me c.args.caller (rest_of c.args.seat.now.me.0.callers) c.requires.caller c.requires.alone c.requires.idle,
    )
