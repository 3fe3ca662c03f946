use Rattle.std.proofs.Common.{rules, refl, arith, ap}
use Rattle.entry_table.specs.Views.{caller_of, rest_of}
use Rattle.entry_table.proofs.Laying.{did_reserve}
use Rattle.entry_table.proofs.Reserving.{reserves_told, told_depth}
use Rattle.entry_table.proofs.entries.Entries.reserve_at.Goals as goal

pub fetch_add-requires : goal.fetch_add-requires
fetch_add-requires g c = (
  search rules,
  search rules,
  reserves_told g.C.Freight.goods c.args.self.now.table.shared.key _ _ c.args.size c.args.seat.now.me c.args.caller (rest_of c.args.seat.now.me.0.callers) c.requires.caller c.requires.idle c.requires.allowance c.requires.size,
)

pub returns-clause-told : goal.returns-clause-told
returns-clause-told g c = c.fetch_add.ensures.2 c.args.size refl

pub returns-clause-depth : goal.returns-clause-depth
returns-clause-depth g c = told_depth c.args.caller c.args.seat.now.me.0 _ _ _ _ _ _ _ (ap caller_of c.requires.caller) (omega arith) (c.fetch_add.ensures.2 c.args.size refl).1

pub returns-clause-reserves : goal.returns-clause-reserves
returns-clause-reserves g c = did_reserve c.args.seat.now.me.0 _ c.args.size _ _ c.requires.idle (c.fetch_add.ensures.2 c.args.size refl).1
