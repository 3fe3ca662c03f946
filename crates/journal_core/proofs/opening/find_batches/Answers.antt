use Rattle.std.proofs.Common.{subst}
use Rattle.std.specs.Prelude.{List, ℕ, IfOk}
use Rattle.journal_core.specs.Opening.{IsGateOf, AreBatches}
use Rattle.journal_core.proofs.ReadTo.{opened_batches}
use Rattle.journal_core.proofs.opening.find_batches.Goals as goal

pub returns-in-Ok-clause-opened : goal.returns-in-Ok-clause-opened
returns-in-Ok-clause-opened g c =
    let disk = g.met.D.Disk g.world.𝓛 g.world.𝓜 g.world.𝓡 ((λ s x. x), (λ x. x), (λ x. x), λ x. x) in
    opened_batches c.batches_of.result (λ x. x.0) (λ x. x.1.commits) (λ x. x.1.read.items) (g.D.Disk.seen c.read_synced.new.disk) (g.D.Disk.images c.read_synced.new.disk) c.in-Ok.bytes.items
    c.in-Ok.ensures.each (disk.tells c.read_synced.new.disk) (disk.within c.read_synced.new.disk) c.in-Ok.ensures.told
    (subst (λ (b : List ℕ). IfOk c.batches_of.result (λ x. IsGateOf b x.0)) c.as_slice.ensures.value c.batches_of.ensures.gate)
    (subst (λ (b : List ℕ). IfOk c.batches_of.result (λ x. AreBatches b x.1.commits x.1.read.items)) c.as_slice.ensures.value c.batches_of.ensures.batches)
