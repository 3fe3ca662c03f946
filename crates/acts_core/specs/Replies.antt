-- the replies of a queue's calls, by what contracts see of a cargo
use Rattle.std.specs.Prelude.{ℕ}
use Rattle.std.specs.Option.{option_map}
use Rattle.acts_core.specs.declared.cargoes.Locking.{Locking}
use Rattle.acts_core.specs.declared.cargoes.Locking.TheVariants as locking
use Rattle.acts_core.specs.declared.cargoes.Next.{Next}
use Rattle.acts_core.specs.declared.cargoes.Next.TheVariants.{Got, Empty}
use Rattle.acts_core.specs.declared.cargoes.Placed.{Placed}
use Rattle.acts_core.specs.declared.cargoes.Placed.TheVariants.{At, Spent}
use Rattle.acts_core.specs.declared.cargoes.Releasing.{Releasing}
use Rattle.acts_core.specs.declared.cargoes.Releasing.TheVariants.{Released, Outdated}
use Rattle.acts_core.specs.declared.cargoes.Stealing.{Stealing}
use Rattle.acts_core.specs.declared.cargoes.Stealing.TheVariants as stealing
use Rattle.acts_core.specs.Calls.{Answer, IsAt, IsSpent, IsGot, IsEmpty, IsLocked, IsStolen, IsReleased, IsOutdated, HasStolen, IsNotStealable, IsMoved}
use Rattle.acts_core.specs.Load.{Load}

-- the answer to a put
abbrev pub of_put : {C : Type 0} → (C → Load) → Placed C → Answer
of_put load (At r displaced) = IsAt r (option_map (λ d. (d.0, load d.1)) displaced)
of_put load (Spent c) = IsSpent (load c)

-- the answer to a call for the next or the oldest entry; the list is that of the row that was got
abbrev pub of_next : {C : Type 0} → (C → Load) → ℕ → Next C → Answer
of_next load l (Got r c) = IsGot r l (load c)
of_next load l Empty = IsEmpty

-- the answer to a lock
abbrev pub of_lock : {C : Type 0} → (C → Load) → Locking C → Answer
of_lock load (locking.Locked c) = IsLocked (load c)
of_lock load (locking.Stolen s) = IsStolen s

-- the answer to a release; the mask is that of the row
abbrev pub of_release : {C : Type 0} → (C → Load) → ℕ → Releasing C → Answer
of_release load mask Released = IsReleased mask
of_release load mask (Outdated c) = IsOutdated (load c)

-- the answer to a steal
abbrev pub of_steal : {C : Type 0} → (C → Load) → Stealing C → Answer
of_steal load (stealing.Stolen c) = HasStolen (load c)
of_steal load (stealing.NotStealable s) = IsNotStealable s
of_steal load (stealing.Moved s) = IsMoved s
