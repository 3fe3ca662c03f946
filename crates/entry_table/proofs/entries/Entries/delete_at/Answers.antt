use Rattle.std.proofs.Common.{arith, subst, ℕ}
use Rattle.queue_model.specs.declared.rows.RowState.TheVariants.{Dequeued}
use Rattle.queue_model.specs.declared.steps.Change.TheVariants.{Del}
use Rattle.entry_table.specs.Homes.{deleted}
use Rattle.entry_table.specs.Views.{rest_of}
use Rattle.entry_table.proofs.Bringing.{deletes_at}
use Rattle.entry_table.proofs.Exchanging.{after_ended}
use Rattle.entry_table.proofs.entries.Entries.delete_at.Goals as goal

pub compare_exchange-requires : goal.compare_exchange-requires
compare_exchange-requires g c =
    let low = c.requires.low in let wide = c.args.self.now.wide in let is = c.state_place.ensures in (
      c.requires.table,
      omega (arith, low, wide, is),
      deletes_at g.C.Freight.goods c.args.self.now.table.shared.key _ _ _ _ _ c.args.row g.J.Altering.target c.args.seat.now.me c.args.caller (rest_of c.args.seat.now.me.0.callers)
          is c.state_word.ensures c.state_word-2.ensures c.requires.picked c.requires.caller c.requires.idle c.requires.dequeued,
    )

pub returns-clause-carried : goal.returns-clause-carried
returns-clause-carried g c = (subst (λ (z : ℕ). deleted z c.args.seat.now.me c.compare_exchange.result c.compare_exchange.new.seat.me) c.requires.picked c.compare_exchange.ensures.2).1

pub returns-clause-told : goal.returns-clause-told
returns-clause-told g c = let t = subst (λ (z : ℕ). deleted z c.args.seat.now.me c.compare_exchange.result c.compare_exchange.new.seat.me) c.requires.picked c.compare_exchange.ensures.2 in (t.0, t.2)

pub returns-clause-after : goal.returns-clause-after
returns-clause-after g c = let t = returns-clause-told g c in after_ended c.args.seat.now.me.0 c.compare_exchange.new.seat.me.0 c.args.row Del Dequeued t.0 c.requires.idle t.1
