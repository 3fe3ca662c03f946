use Rattle.std.proofs.Common.{List, ℕ, inl, sym, ◌∙◌, arith}
use Rattle.journal_core.specs.Stands.{InPlace, IsEither}
use Rattle.journal_core.specs.declared.journal.Trust.TheVariants.{Body}
use Rattle.journal_core.proofs.Parts.{shut_journal}
use Rattle.journal_core.proofs.Moments.{over_as, when_ok}
use Rattle.journal_core.proofs.Torn.{torn_shut, now_staged, clean_body, keeps_behind}
use Rattle.journal_core.proofs.steps.stage.Goals as goal

-- where it fails
pub returns-then-is_err-clause-moments : goal.returns-then-is_err-clause-moments
returns-then-is_err-clause-moments g c C A B s is =
    over_as g.D.Disk.moment g.D.Disk.since c.args.disk.now c.put.new.disk _ (IsEither C B) c.put.ensures.moments
    (λ x t. inl (shut_journal s.before C x s.front (torn_shut s.before c.args.gate B (g.D.Disk.images c.args.disk.now) c.saturating_add-behind.result _ c.saturating_add-behind.ensures (λ y i. clean_body c.args.gate s.before A B y (s.each y i)) x t).is))

pub returns-then-is_err-clause-err : goal.returns-then-is_err-clause-err
returns-then-is_err-clause-err g c C A B s is =
    record { before = s.before; front = s.front; batch = λ _. is.0; each = λ x i. torn_shut s.before c.args.gate B (g.D.Disk.images c.args.disk.now) c.saturating_add-behind.result _ c.saturating_add-behind.ensures (λ y k. clean_body c.args.gate s.before A B y (s.each y k)) x (c.put.ensures.images x i) }

pub returns-then-is_err-clause-front : goal.returns-then-is_err-clause-front
returns-then-is_err-clause-front g c = keeps_behind c.args.gate c.saturating_add-behind.result _ _ _ (omega (arith, c.ranges.gate.fits)) c.saturating_add-behind.ensures c.put.ensures.torn

-- where it doesn't
pub returns-clause-moments : goal.returns-clause-moments
returns-clause-moments g c C A B s is =
    over_as g.D.Disk.moment g.D.Disk.since c.args.disk.now c.put.new.disk _ (IsEither C B) c.put.ensures.moments
    (λ x t. inl (shut_journal s.before C x s.front (torn_shut s.before c.args.gate B (g.D.Disk.images c.args.disk.now) c.saturating_add-behind.result _ c.saturating_add-behind.ensures (λ y i. clean_body c.args.gate s.before A B y (s.each y i)) x t).is))

pub returns-clause-ok : goal.returns-clause-ok
returns-clause-ok g c C A B s is =
    let disk = g.met.D.Disk g.world.𝓛 g.world.𝓜 g.world.𝓡 ((λ s x. x), (λ x. x), (λ x. x), λ x. x) in
    let was = g.D.Disk.images c.args.disk.now in
    let each : (x : List ℕ) → was x → InPlace c.args.gate Body s.before B x = λ x i. clean_body c.args.gate s.before A B x (s.each x i) in
    let works = sym c.is_err.ensures.value ∙ c.if-is_err.false in
    record {
      before = s.before;
      front = s.front;
      batch = λ _. is.0;
      each = now_staged s.before c.args.gate B was (g.D.Disk.images c.put.new.disk) (g.D.Disk.seen c.args.disk.now) (g.D.Disk.seen c.put.new.disk) (disk.reads c.args.disk.now)
          (when_ok c.put.result _ works c.put.ensures.durable) c.saturating_add-behind.result c.args.body.now c.saturating_add-behind.ensures each is.1 (when_ok c.put.result _ works c.put.ensures.written);
    }

pub returns-clause-front : goal.returns-clause-front
returns-clause-front g c = keeps_behind c.args.gate c.saturating_add-behind.result _ _ _ (omega (arith, c.ranges.gate.fits)) c.saturating_add-behind.ensures c.put.ensures.torn
