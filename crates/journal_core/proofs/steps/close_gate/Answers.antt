use Rattle.std.proofs.Common.{refl, sym, ◌∙◌}
use Rattle.journal_core.specs.Stands.{IsEither}
use Rattle.journal_core.proofs.Parts.{staged_either}
use Rattle.journal_core.proofs.Moments.{over_as, when_ok}
use Rattle.journal_core.proofs.Torn.{torn_staged, now_closed, keeps_at}
use Rattle.journal_core.proofs.steps.close_gate.Goals as goal

-- where it fails
pub returns-then-is_err-clause-moments : goal.returns-then-is_err-clause-moments
returns-then-is_err-clause-moments g c C B s =
    over_as g.D.Disk.moment g.D.Disk.since c.args.disk.now c.put.new.disk _ (IsEither C B) c.put.ensures.moments
    (λ x t. staged_either s.before C B x s.front (s.batch refl) (torn_staged s.before c.args.gate B (g.D.Disk.images c.args.disk.now) s.each x t).is)

pub returns-then-is_err-clause-err : goal.returns-then-is_err-clause-err
returns-then-is_err-clause-err g c C B s =
    record { before = s.before; front = s.front; batch = s.batch; each = λ x i. torn_staged s.before c.args.gate B (g.D.Disk.images c.args.disk.now) s.each x (c.put.ensures.images x i) }

pub returns-then-is_err-clause-front : goal.returns-then-is_err-clause-front
returns-then-is_err-clause-front g c = keeps_at _ _ _ _ c.put.ensures.torn

-- where it doesn't
pub returns-clause-moments : goal.returns-clause-moments
returns-clause-moments g c C B s =
    over_as g.D.Disk.moment g.D.Disk.since c.args.disk.now c.put.new.disk _ (IsEither C B) c.put.ensures.moments
    (λ x t. staged_either s.before C B x s.front (s.batch refl) (torn_staged s.before c.args.gate B (g.D.Disk.images c.args.disk.now) s.each x t).is)

pub returns-clause-ok : goal.returns-clause-ok
returns-clause-ok g c C B s =
    let disk = g.met.D.Disk g.world.𝓛 g.world.𝓜 g.world.𝓡 ((λ s x. x), (λ x. x), (λ x. x), λ x. x) in
    let works = sym c.is_err.ensures.value ∙ c.if-is_err.false in
    record {
      before = s.before;
      front = s.front;
      batch = λ is. s.batch refl;
      each = now_closed s.before c.args.gate B (g.D.Disk.images c.args.disk.now) (g.D.Disk.images c.put.new.disk) (g.D.Disk.seen c.args.disk.now) (g.D.Disk.seen c.put.new.disk) (disk.reads c.args.disk.now)
          (when_ok c.put.result _ works c.put.ensures.durable) s.each (when_ok c.put.result _ works c.put.ensures.written);
    }

pub returns-clause-front : goal.returns-clause-front
returns-clause-front g c = keeps_at _ _ _ _ c.put.ensures.torn
