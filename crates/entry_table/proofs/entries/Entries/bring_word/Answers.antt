use Rattle.std.proofs.Common.{arith, subst, sym, ◌^◌, ◌<◌, ℕ}
use Rattle.queue_model.specs.declared.rows.RowState.{RowState}
use Rattle.queue_model.specs.declared.steps.Change.{Change}
use Rattle.queue_model.specs.Packing.{pack_state}
use Rattle.entry_table.specs.Homes.{bringing}
use Rattle.entry_table.specs.Views.{rest_of}
use Rattle.entry_table.proofs.Bringing.{brings_at, home_packs}
use Rattle.entry_table.proofs.entries.Entries.bring_word.Goals as goal

pub state_word-requires-2 : goal.state_word-requires-2
state_word-requires-2 g c = subst (λ (s : RowState). pack_state s < 2 ^ 64) (sym c.requires.change.1) (home_packs c.args.caller c.args.change c.requires.change.0 c.requires.caller.1)

pub compare_exchange-requires : goal.compare_exchange-requires
compare_exchange-requires g c =
    let low = c.requires.low in let wide = c.args.self.now.wide in let is = c.state_place.ensures in (
      c.requires.table,
      omega (arith, low, wide, is),
      brings_at g.C.Freight.goods c.args.self.now.table.shared.key _ _ _ _ _ c.args.row g.J.Altering.target c.args.change g.J.Altering.change c.args.to c.args.seat.now.me c.args.caller (rest_of c.args.seat.now.me.0.callers)
          is c.state_word.ensures c.state_word-2.ensures (sym c.requires.change.1) c.requires.picked.0 c.requires.picked.1 c.requires.caller.0 c.requires.caller.1 c.requires.change.0 c.requires.ready,
    )

pub returns-clause-told : goal.returns-clause-told
returns-clause-told g c =
    subst (λ (z : ℕ × Change). bringing g.C.Freight.goods z.0 z.1 c.args.seat.now.me c.compare_exchange.result c.compare_exchange.new.seat.me) (λ j. (c.requires.picked.0 j, c.requires.picked.1 j)) c.compare_exchange.ensures.2
