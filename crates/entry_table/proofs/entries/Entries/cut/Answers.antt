use Rattle.std.proofs.Common.{rules, arith, ℕ, List, sym, subst}
use Rattle.entry_table.specs.Views.{Has, rest_of}
use Rattle.entry_table.proofs.Parting.{splits_allowed}
use Rattle.entry_table.proofs.entries.Entries.cut.Goals as goal

pub split_seat-requires : goal.split_seat-requires
split_seat-requires g c =
    let wide = c.args.self.now.wide in
    let am = c.requires.picked.0 in (
      search rules,
      omega (arith, wide),
      splits_allowed g.C.Freight.goods c.args.self.now.table.shared.key _ g.J.Portion.amount g.J.Portion.parted c.args.seat.now.me.0 0 c.args.caller (rest_of (rest_of c.args.seat.now.me.0.callers)) c.requires.callers.0 c.requires.callers.1
          (subst (λ (l : List ℕ). (k : ℕ) → Has k l → Has k c.args.seat.now.me.0.consumers) (sym c.requires.picked.1) c.requires.consumers)
          (let room = c.requires.portion.0 in omega (arith, am, room)) (let room = c.requires.portion.1 in omega (arith, am, room)) c.requires.idle c.requires.callers.2,
    )
