use Rattle.std.proofs.Common.{[], ◌∷◌, refl}
use Rattle.entry_table.specs.Passes.{opening, seen}
use Rattle.cursor_core.proofs.Truths.{true_heads}
use Rattle.cursor_core.proofs.cursor.Cursor.fresh.Goals as goal

pub returns-clause-truth : goal.returns-clause-truth
returns-clause-truth c =
    true_heads (opening c.args.pass.now) c.args.consumer (0 ∷ 0 ∷ 0 ∷ 0 ∷ 0 ∷ 0 ∷ 0 ∷ 0 ∷ 0 ∷ 0 ∷ []) (seen c.args.pass.now) (refl, (refl, (refl, (refl, (refl, (refl, (refl, (refl, (refl, (refl, tt))))))))))
