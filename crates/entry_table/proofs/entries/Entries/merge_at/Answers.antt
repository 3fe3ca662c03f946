use Rattle.std.proofs.Common.{rules, arith}
use Rattle.entry_table.specs.Views.{rest_of}
use Rattle.entry_table.proofs.Parting.{joins_allowed}
use Rattle.entry_table.proofs.entries.Entries.merge_at.Goals as goal

pub join_seat-requires : goal.join_seat-requires
join_seat-requires g c = let wide = c.args.self.now.wide in (
  search rules,
  search rules,
  search rules,
  omega (arith, wide),
  joins_allowed g.C.Freight.goods c.args.self.now.table.shared.key _ c.args.seat.now.me.0 c.args.caller (rest_of c.args.seat.now.me.0.callers) _ c.args.other.me.0 c.requires.caller c.requires.idle.1 c.requires.idle.2,
)
