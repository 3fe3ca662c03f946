use Rattle.std.proofs.Common.{refl, arith}
use Rattle.entry_table.specs.Views.{rest_of}
use Rattle.entry_table.proofs.Giving.{gives_told}
use Rattle.entry_table.proofs.entries.Entries.give_back_at.Goals as goal

pub fetch_sub-requires : goal.fetch_sub-requires
fetch_sub-requires g c = let wide = c.args.self.now.wide in (
  c.requires.table,
  omega (arith, wide),
  gives_told g.C.Freight.goods c.args.self.now.table.shared.key _ _ c.args.size c.args.seat.now.me c.args.caller (rest_of c.args.seat.now.me.0.callers) c.requires.caller c.requires.idle c.requires.reserved,
)

pub returns-clause-told : goal.returns-clause-told
returns-clause-told g c = (c.fetch_sub.result, c.fetch_sub.ensures.2 c.args.size refl)
