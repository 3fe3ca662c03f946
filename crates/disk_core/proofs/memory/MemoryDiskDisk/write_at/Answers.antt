use Rattle.std.proofs.Common.{◌≡◌, ◌≤◌, ◌∷◌, List, ℕ, length, subst, sym, ap, arith}
use Rattle.std.specs.Prelude.{Bool, IsTrue, IfSome, Some, None, true, nat_lt, ◌&&◌, ◌^◌, if◌then◌else◌}
use Rattle.disk_core.specs.declared.trails.Step.{Step}
use Rattle.outside_io.specs.Counts.{last_count}
use Rattle.outside_io.specs.Told.{WhileTold}
use Rattle.disk_core.specs.Images.{Torn}
use Rattle.disk_core.specs.Trails.{content, IsImage, Extends}
use Rattle.disk_core.specs.Memory.{tells, steps_of, seen_of, trail_of}
use Rattle.disk_core.specs.declared.trails.Step.TheVariants.{Write}
use Rattle.disk_core.proofs.Moves.{written_image, torn_write, tells_of, told_of, while_both, extends_push}
use Rattle.disk_core.proofs.memory.MemoryDiskDisk.write_at.Goals as goal

pub returns-clause-torn : goal.returns-clause-torn
returns-clause-torn c =
    let s = c.self.inside in
    let at = c.args.at in
    let bytes = c.args.bytes.now in
    let steps = steps_of s.written.items s.moves.items in
    let told : nat_lt s.faults last_count ≡ true = c.in_ok-count_call.ensures.told in
    let tell = tells_of s.faults (length (content s.first steps)) told (omega (arith, ap length c.self.invariant.0, c.self.invariant.8)) in
    let reach = told_of _ (content s.first steps) (λ b. at ≤ length b) tell (subst (λ v. IfSome (seen_of v) (λ b. at ≤ length b)) (sym c.self.view_is) c.requires) in
    let after = content s.first (steps_of c.record_write.new.written.items c.record_write.new.moves.items) in
    let tells-after = nat_lt c.count_call.new.faults last_count && nat_lt (length after) (2 ^ 63) in
    subst (λ v. WhileTold (seen_of v) (if tells-after then Some after else None) (Torn at (length bytes))) c.self.view_is
    (while_both (nat_lt s.faults last_count && nat_lt (length (content s.first steps)) (2 ^ 63)) tells-after (content s.first steps) after (Torn at (length bytes)) tell (subst (λ y. Torn at (length bytes) (content s.first steps) (content s.first y)) (sym c.record_write.ensures.steps) (torn_write at bytes (content s.first steps) reach)))

pub returns-clause-images : goal.returns-clause-images
returns-clause-images c x p =
    let s = c.self.inside in
    let at = c.args.at in
    let bytes = c.args.bytes.now in
    let steps = steps_of s.written.items s.moves.items in
    let told : nat_lt s.faults last_count ≡ true = c.in_ok-count_call.ensures.told in
    let tell = tells_of s.faults (length (content s.first steps)) told (omega (arith, ap length c.self.invariant.0, c.self.invariant.8)) in
    let reach = told_of _ (content s.first steps) (λ b. at ≤ length b) tell (subst (λ v. IfSome (seen_of v) (λ b. at ≤ length b)) (sym c.self.view_is) c.requires) in
    let image = written_image s.first steps at bytes x reach (subst (λ l. IsImage s.first l x) c.record_write.ensures.steps p.1) in
    subst (λ v. (d : List ℕ) × (IsTrue (tells v) × IsImage v.first v.steps d) × Torn at (length bytes) d x) c.self.view_is (image.0, (tell, image.1), image.2)

pub returns-clause-trail : goal.returns-clause-trail
returns-clause-trail c =
    let s = c.self.inside in
    let steps = steps_of s.written.items s.moves.items in
    let told : nat_lt s.faults last_count ≡ true = c.in_ok-count_call.ensures.told in
    let tell = tells_of s.faults (length (content s.first steps)) told (omega (arith, ap length c.self.invariant.0, c.self.invariant.8)) in
    let next = Write c.args.at c.args.bytes.now in
    let b : List Step → Bool = λ l. nat_lt c.count_call.new.faults last_count && nat_lt (length (content s.first l)) (2 ^ 63) in
    subst (λ l. Extends (trail_of c.args.self.now) (if b l then Some (record { first = s.first; steps = l }) else None)) (sym c.record_write.ensures.steps)
    (subst (λ v. Extends (trail_of v) (if b (next ∷ steps) then Some (record { first = s.first; steps = next ∷ steps }) else None)) c.self.view_is
    (extends_push (nat_lt s.faults last_count && nat_lt (length (content s.first steps)) (2 ^ 63)) (b (next ∷ steps)) s.first next steps tell))
