use Rattle.std.proofs.Common.{◌≡◌, ◌≤◌, length, sym, subst, arith, rules}
use Rattle.std.specs.Prelude.{IfOk}
use Rattle.disk_core.specs.Trails.{content, up_to, IsImage}
use Rattle.disk_core.proofs.Crashes.{length-steps, image_at, content_at}
use Rattle.disk_core.proofs.memory.MemoryDisk.image.Goals as goal

pub returns-clause-image : goal.returns-clause-image
returns-clause-image c =
    let s = c.self.inside in
    let within : c.args.moment ≤ length s.moves.items = omega (arith, subst (λ v. c.args.moment ≤ length v.steps) (sym c.self.view_is) c.requires, length-steps s.written.items s.moves.items) in
    subst (λ v. IfOk c.image_after.result (λ x. IsImage v.first (up_to c.args.moment v.steps) x)) c.self.view_is
    (image_at c.image_after.result s.first c.as_slice-2.result.now s.written.items c.as_slice-3.result.now s.moves.items c.first_moves-moves.result.now c.args.moment
    c.as_slice-2.ensures c.as_slice-3.ensures.value within (search rules) c.image_after.ensures.image)

pub returns-clause-whole : goal.returns-clause-whole
returns-clause-whole c one =
    let s = c.self.inside in
    let within : c.args.moment ≤ length s.moves.items = omega (arith, subst (λ v. c.args.moment ≤ length v.steps) (sym c.self.view_is) c.requires, length-steps s.written.items s.moves.items) in
    subst (λ v. IfOk c.image_after.result (λ x. x ≡ content v.first (up_to c.args.moment v.steps))) c.self.view_is
    (content_at c.image_after.result s.first c.as_slice-2.result.now s.written.items c.as_slice-3.result.now s.moves.items c.first_moves-moves.result.now c.args.moment
    c.as_slice-2.ensures c.as_slice-3.ensures.value within (search rules) (c.image_after.ensures.whole one))
