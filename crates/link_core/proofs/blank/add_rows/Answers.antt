use Rattle.std.proofs.Common.{List, [], ◌∷◌, ◌++◌, ◌∙◌, ap, append_assoc, ℕ}
use Rattle.link_core.specs.Fresh.{blank_rows}
use Rattle.link_core.proofs.Making.{blank_more}
use Rattle.link_core.proofs.blank.add_rows.Goals as goal

pub loop-preserved : goal.loop-preserved
loop-preserved c =
    c.in_ok-extend_from_slice.ensures.items
    ∙ ap (λ (xs : List ℕ). xs ++ 0 ∷ 1 ∷ 0 ∷ 0 ∷ 0 ∷ 0 ∷ 0 ∷ []) c.loop.invariant
    ∙ append_assoc c.args.words.now.items (blank_rows c.loop.counter) (0 ∷ 1 ∷ 0 ∷ 0 ∷ 0 ∷ 0 ∷ 0 ∷ [])
    ∙ ap (λ (xs : List ℕ). c.args.words.now.items ++ xs) (blank_more c.loop.counter)
