use Rattle.std.proofs.Common.{rules, ℕ, ◌∷◌, List, Option, Some, sym, ap, ◌∙◌}
use Rattle.atomic_table.specs.Table.{rest}
use Rattle.entry_table.proofs.entries.Entries.take_out.Goals as goal

pub exchange-requires : goal.exchange-requires
exchange-requires g c = let o = c.requires.out.0 in (search rules, (Some o.0, o.1 ∙ ap (λ (l : List (ℕ × Option g.row.C.Denot)). (c.args.row, Some o.0) ∷ l) (sym (ap rest o.1))))
