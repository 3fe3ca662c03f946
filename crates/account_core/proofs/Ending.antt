-- a call that ran no phase
use Rattle.std.proofs.Common.{◌≡◌, ℕ, Some, List, [], ◌∷◌, map, refl, ◌∙◌, subst}
use Rattle.defs_read.specs.Defined.{Defined}
use Rattle.target_core.specs.Seats.{Seat, Seats}
use Rattle.account_core.specs.Accounts.{Account}
use Rattle.account_core.specs.Phases.{ArePhases, nothing}
use Rattle.account_core.specs.Runs.{CameBack, Ran}
use Rattle.account_core.specs.Texts.{run_text}

no_accounts : (defs : List Defined) (handed : List Seat) (accounts : List Account) (seats : Seats) → ArePhases defs (nothing defs) (map Some handed) [] accounts seats → (run_text defs accounts ≡ []) × (seats ≡ map Some handed)
no_accounts defs handed [] seats same = (refl, same)
no_accounts defs handed (a ∷ accounts) seats are = absurd are

pub none_ran : (defs : List Defined) (handed back : List Seat) (text : List ℕ) → Ran defs [] handed back text → (text ≡ []) × CameBack (map Some handed) back
none_ran defs handed back text ran =
    let none = no_accounts defs handed ran.accounts ran.seats ran.are_phases in
    (ran.told ∙ none.0, subst (λ (seats : Seats). CameBack seats back) none.1 ran.came)
