use Rattle.std.proofs.Common.{List, [], ◌∷◌, ◌++◌, ◌∙◌, ap, append_assoc, replicate, ℕ}
use Rattle.link_core.specs.Fresh.{empty_lists}
use Rattle.queue_model.specs.Packing.{no_bell}
use Rattle.link_core.proofs.Making.{empty_more}
use Rattle.link_core.proofs.blank.add_lists.Goals as goal

pub loop-preserved : goal.loop-preserved
loop-preserved c =
    c.in_ok-extend_from_slice-2.ensures.items
    ∙ ap (λ (xs : List ℕ). xs ++ replicate 64 no_bell) c.in_ok-extend_from_slice.ensures.items
    ∙ append_assoc c.loop.words.items (0 ∷ 0 ∷ 0 ∷ 0 ∷ []) (replicate 64 no_bell)
    ∙ ap (λ (xs : List ℕ). xs ++ 0 ∷ 0 ∷ 0 ∷ 0 ∷ replicate 64 no_bell) c.loop.invariant
    ∙ append_assoc c.args.words.now.items (empty_lists c.loop.counter) (0 ∷ 0 ∷ 0 ∷ 0 ∷ replicate 64 no_bell)
    ∙ ap (λ (xs : List ℕ). c.args.words.now.items ++ xs) (empty_more c.loop.counter)
