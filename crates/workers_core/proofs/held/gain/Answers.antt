use Rattle.std.proofs.Common.{ap, ◌∙◌, List, ◌++◌, ◌∷◌, []}
use Rattle.std.proofs.lemmas.List.{map-append}
use Rattle.line_core.specs.Hands.{Hand}
use Rattle.workers_core.specs.Held.{hands_of, hand_of}
use Rattle.workers_core.specs.declared.held.Kept.{Kept}
use Rattle.workers_core.proofs.held.gain.Goals as goal

pub returns-clause-gained : goal.returns-clause-gained
returns-clause-gained c =
    ap (λ (xs : List Kept). hands_of xs) c.push_reserved.ensures.items
    ∙ map-append hand_of c.lose.new.held.items (c.args.kept ∷ [])
    ∙ ap (λ (xs : List Hand). xs ++ hand_of c.args.kept ∷ []) c.lose.ensures.lost
