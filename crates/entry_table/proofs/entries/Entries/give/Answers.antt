use Rattle.std.proofs.Common.{rules, refl, arith}
use Rattle.queue_model.specs.declared.steps.Step.TheVariants.{Load}
use Rattle.queue_model.specs.declared.steps.WordName.TheVariants.{Callers}
use Rattle.entry_table.specs.Views.{rest_of}
use Rattle.entry_table.proofs.Slots.{gives_allowed}
use Rattle.entry_table.proofs.entries.Entries.give.Goals as goal

pub load-requires : goal.load-requires
load-requires g c = let wide = c.args.self.now.wide in (
  search rules,
  omega (arith, wide),
  gives_allowed g.C.Freight.goods c.args.self.now.table.shared.key _ _ _ c.args.row (Load Callers) c.args.seat.now.me c.args.caller (rest_of c.args.seat.now.me.0.callers) (λ ws. refl) c.requires.caller c.requires.out.1 c.requires.out.0 c.requires.mine,
)
