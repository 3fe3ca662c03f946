use Rattle.std.proofs.Common.{arith}
use Rattle.entry_table.specs.Views.{rest_of}
use Rattle.entry_table.proofs.Exchanging.{ends_at}
use Rattle.entry_table.proofs.entries.Entries.end_word.Goals as goal

pub compare_exchange-requires : goal.compare_exchange-requires
compare_exchange-requires g c =
    let low = c.requires.known.0 in let wide = c.args.self.now.wide in let f = c.requires.fits in (
      c.requires.table,
      let is = c.state_place.ensures in omega (arith, low, wide, is),
      ends_at g.C.Freight.goods c.args.self.now.table.shared.key _ _ _ _ _ c.args.row g.J.Altering.target c.args.caller c.args.change g.J.Altering.change c.args.from g.J.Altering.before c.args.to c.args.seat.now.me (rest_of c.args.seat.now.me.0.callers) c.requires.known.1.0
          c.state_place.ensures c.state_word.ensures c.state_word-2.ensures f.3 c.requires.picked.0 c.requires.picked.1 c.requires.picked.2 c.requires.caller.0 c.requires.idle f.0 c.requires.known.1.1 f.1 f.2,
    )
