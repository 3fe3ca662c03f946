use Rattle.std.proofs.Common.{rules, arith, ◌++◌, ◌∙◌, ℕ, List, ap}
use Rattle.atomic_table.specs.Table.{Me}
use Rattle.entry_table.specs.declared.view.View.{View}
use Rattle.entry_table.specs.Views.{rest_of}
use Rattle.entry_table.proofs.Settling.{settles_allowed, joined_is}
use Rattle.entry_table.proofs.entries.Entries.join_at.Goals as goal

pub load-requires : goal.load-requires
load-requires g c =
    let wide = c.args.self.now.wide in
    let v = c.args.seat.now.me.0 in
    let is = ap (λ (m : Me _ View). m.0) c.merge_at.ensures.view in (
      search rules,
      omega (arith, wide),
      settles_allowed g.C.Freight.goods c.args.self.now.table.shared.key _ _ 1 c.merge_at.new.seat.me c.args.caller (rest_of v.callers ++ c.args.other.me.0.callers)
          (ap (λ (z : View). z.callers) is ∙ ap (λ (l : List ℕ). l ++ c.args.other.me.0.callers) c.requires.caller),
    )

pub returns-clause-joined : goal.returns-clause-joined
returns-clause-joined g c = joined_is c.args.seat.now.me.0 c.args.other.me.0 c.merge_at.new.seat.me c.load.new.seat.me c.load.result c.args.caller (rest_of c.args.seat.now.me.0.callers) c.requires.caller (ap (λ (m : Me _ View). m.0) c.merge_at.ensures.view) c.load.ensures.2
