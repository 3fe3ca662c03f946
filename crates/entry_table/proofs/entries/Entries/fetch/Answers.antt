use Rattle.std.proofs.Common.{rules, refl, arith, subst, sym, ℕ}
use Rattle.queue_model.specs.declared.steps.Step.TheVariants.{Load}
use Rattle.queue_model.specs.declared.steps.WordName.TheVariants.{Callers}
use Rattle.entry_table.specs.Plays.{fetched}
use Rattle.entry_table.specs.Views.{rest_of, state_in, Mine}
use Rattle.entry_table.proofs.Slots.{fetches_allowed}
use Rattle.entry_table.proofs.entries.Entries.fetch.Goals as goal

pub load-requires : goal.load-requires
load-requires g c = let wide = c.args.self.now.wide in (
  search rules,
  omega (arith, wide),
  fetches_allowed g.C.Freight.goods c.args.self.now.table.shared.key _ _ _ g.J.Placing.number (Load Callers) c.args.seat.now.me c.args.caller (rest_of c.args.seat.now.me.0.callers) (λ ws. refl) c.requires.caller c.requires.idle (subst (Mine (state_in c.args.seat.now.me.0) c.args.seat.now.me.0) (sym c.requires.picked) c.requires.mine),
)

pub returns-clause-told : goal.returns-clause-told
returns-clause-told g c = (c.load.result, subst (λ (k : ℕ). fetched k (Load Callers) c.args.seat.now.me c.load.result c.load.new.seat.me) c.requires.picked c.load.ensures.2)
