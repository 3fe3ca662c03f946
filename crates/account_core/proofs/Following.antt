-- phases, one after the other
use Rattle.std.proofs.Common.{◌≡◌, ℕ, List, [], ◌∷◌, ◌++◌, map, append-nil, refl, ap, ◌∙◌, subst}
use Rattle.std.proofs.lemmas.Grind.{flat_map-append}
use Rattle.queue_model.specs.declared.rows.Row.{Row}
use Rattle.defs_read.specs.Defined.{Defined}
use Rattle.script_read.specs.Phases.{Actors}
use Rattle.target_core.specs.Seats.{Seats}
use Rattle.account_core.specs.Accounts.{Account}
use Rattle.account_core.specs.Carry.{handed_on}
use Rattle.account_core.specs.Phases.{ArePhases, IsPhase, rows_after}
use Rattle.account_core.specs.Texts.{account_text, run_text}

pub phases_append : (defs : List Defined) (rows : List (List Row)) (seats mid seats' : Seats) (phases : List Actors) (accounts : List Account) (actors : Actors) (a : Account)
    → ArePhases defs rows seats phases accounts mid → IsPhase defs (rows_after rows accounts) actors a mid seats'
    → ArePhases defs rows seats (phases ++ actors ∷ []) (accounts ++ a ∷ []) seats'
phases_append defs rows seats mid seats' [] [] actors a same phase =
    (seats', subst (λ (s : Seats). IsPhase defs rows actors a s seats') same phase, refl)
phases_append defs rows seats mid seats' [] (b ∷ accounts) actors a are phase = absurd are
phases_append defs rows seats mid seats' (p ∷ phases) [] actors a are phase = absurd are
phases_append defs rows seats mid seats' (p ∷ phases) (b ∷ accounts) actors a are phase =
    (are.0, are.1, phases_append defs (map handed_on b.queues) are.0 mid seats' phases accounts actors a are.2 phase)

pub text_append : (defs : List Defined) (accounts : List Account) (a : Account) → run_text defs (accounts ++ a ∷ []) ≡ run_text defs accounts ++ account_text defs a
text_append defs accounts a =
    flat_map-append (account_text defs) accounts (a ∷ [])
    ∙ ap (λ (xs : List ℕ). run_text defs accounts ++ xs) (append-nil (account_text defs a))
