use Rattle.std.proofs.Common.{◌≡◌, ◌∷◌, ◌++◌, [], List, length, subst, sym, ap, ◌∙◌, arith}
use Rattle.std.specs.Prelude.{Bool, IsTrue, Some, None, true, nat_lt, ◌&&◌, ◌^◌, if◌then◌else◌}
use Rattle.std.proofs.lemmas.Grind.{common_steps}
use Rattle.disk_core.specs.declared.trails.Step.{Step}
use Rattle.disk_core.specs.declared.memory.Move.TheVariants as move
use Rattle.outside_io.specs.Counts.{last_count}
use Rattle.disk_core.specs.Trails.{content, IsImage, Extends}
use Rattle.disk_core.specs.Memory.{tells, steps_of, trail_of}
use Rattle.disk_core.specs.declared.trails.Step.TheVariants.{Sync}
use Rattle.disk_core.proofs.Moves.{synced_image, tells_of, sync_push, extends_push}
use Rattle.disk_core.proofs.memory.MemoryDiskDisk.sync.Goals as goal

pub returns-clause-images : goal.returns-clause-images
returns-clause-images c x p =
    let s = c.self.inside in
    let pushed : c.push.new.self.items ≡ s.moves.items ++ (move.Sync ∷ []) = grind (arith, common_steps) in
    let e : steps_of s.written.items c.push.new.self.items ≡ Sync ∷ steps_of s.written.items s.moves.items = ap (λ l. steps_of s.written.items l) pushed ∙ sync_push s.written.items s.moves.items in
    let told : nat_lt s.faults last_count ≡ true = c.in_ok-count_call.ensures.told in
    let image = synced_image s.first (steps_of s.written.items s.moves.items) x (subst (λ l. IsImage s.first l x) e p.1) in
    subst (λ v. IsTrue (tells v) × IsImage v.first v.steps x) c.self.view_is (tells_of s.faults _ told (omega (arith, ap length c.self.invariant.0, c.self.invariant.8)), image)

pub returns-clause-trail : goal.returns-clause-trail
returns-clause-trail c =
    let s = c.self.inside in
    let pushed : c.push.new.self.items ≡ s.moves.items ++ (move.Sync ∷ []) = grind (arith, common_steps) in
    let steps = steps_of s.written.items s.moves.items in
    let e : steps_of s.written.items c.push.new.self.items ≡ Sync ∷ steps = ap (λ l. steps_of s.written.items l) pushed ∙ sync_push s.written.items s.moves.items in
    let told : nat_lt s.faults last_count ≡ true = c.in_ok-count_call.ensures.told in
    let tell = tells_of s.faults (length (content s.first steps)) told (omega (arith, ap length c.self.invariant.0, c.self.invariant.8)) in
    let b : List Step → Bool = λ l. nat_lt c.count_call.new.faults last_count && nat_lt (length (content s.first l)) (2 ^ 63) in
    subst (λ l. Extends (trail_of c.args.self.now) (if b l then Some (record { first = s.first; steps = l }) else None)) (sym e)
    (subst (λ v. Extends (trail_of v) (if b (Sync ∷ steps) then Some (record { first = s.first; steps = Sync ∷ steps }) else None)) c.self.view_is
    (extends_push (nat_lt s.faults last_count && nat_lt (length (content s.first steps)) (2 ^ 63)) (b (Sync ∷ steps)) s.first Sync steps tell))
