-- but for what it does not tell, a reply is the answer
use Rattle.std.specs.Prelude.{◌≡◌, ℕ}
use Rattle.std.proofs.Common.{refl}
use Rattle.acts_core.specs.Load.{Load}
use Rattle.acts_core.specs.Replies.{of_next, of_release}
use Rattle.acts_core.specs.declared.cargoes.Next.{Next}
use Rattle.acts_core.specs.declared.cargoes.Next.TheVariants.{Got, Empty}
use Rattle.acts_core.specs.declared.cargoes.Releasing.{Releasing}
use Rattle.acts_core.specs.declared.cargoes.Releasing.TheVariants.{Released, Outdated}
use Rattle.held_table.specs.Turns.{plain}

pub next_alike : {C : Type 0} (load : C → Load) (x : ℕ) (r : Next C) → plain (of_next load x r) ≡ plain (of_next load 0 r)
next_alike load x (Got row c) = refl
next_alike load x Empty = refl

pub release_alike : {C : Type 0} (load : C → Load) (x : ℕ) (r : Releasing C) → plain (of_release load x r) ≡ plain (of_release load 0 r)
release_alike load x Released = refl
release_alike load x (Outdated c) = refl
