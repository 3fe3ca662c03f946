use Rattle.std.proofs.Common.{rules, arith}
use Rattle.entry_table.specs.Views.{rest_of}
use Rattle.entry_table.proofs.Parting.{numbers_allowed}
use Rattle.entry_table.proofs.entries.Entries.number.Goals as goal

pub fetch_add-requires : goal.fetch_add-requires
fetch_add-requires g c = let wide = c.args.self.now.wide in (
  search rules,
  omega (arith, wide),
  numbers_allowed g.C.Freight.goods c.args.self.now.table.shared.key _ _ c.args.seat.now.me (rest_of c.args.seat.now.me.0.callers) c.requires.boss c.requires.idle c.requires.made,
)
