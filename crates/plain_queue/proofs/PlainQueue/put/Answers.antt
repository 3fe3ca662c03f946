use Rattle.std.proofs.Common.{◌≡◌, ◌++◌, ◌∷◌, [], List, ℕ, length, arith, ap, ◌<◌}
use Rattle.std.proofs.lemmas.Grind.{common_steps}
use Rattle.queue_model.specs.State.{entries}
use Rattle.plain_queue.specs.Rows.{one_list}
use Rattle.queue_model.proofs.Depths.{depth_low}
use Rattle.plain_queue.proofs.Doings.{put_does, new_row, keeps_put}
use Rattle.plain_queue.proofs.PlainQueue.put.Goals as goal

pub overflow_add-self-2 : goal.overflow_add-self-2
overflow_add-self-2 c =
    let k = c.self.invariant in
    omega (arith, k.bytes_counted, depth_low (one_list c.self.inside.rows.items) k.sound, ap entries c.self.view_is, c.requires.room, ap (λ (xs : List ℕ). length xs) c.as_slice.ensures, c.requires.size)

pub invariant_of-self-2 : goal.invariant_of-self-2
invariant_of-self-2 c =
    let rows : c.push_reserved.new.self.items ≡ c.self.inside.rows.items ++ new_row (length c.self.inside.rows.items) c.args.id c.args.content ∷ [] = grind (arith, common_steps) in
    let room : entries (one_list c.self.inside.rows.items) < 524288 = omega (arith, ap entries c.self.view_is, c.requires.room) in
    rw (rows, c.as_slice.ensures) (keeps_put c.self.inside.rows.items _ _ c.args.id c.args.content c.self.invariant c.requires.size room)

pub returns-clause-ok : goal.returns-clause-ok
returns-clause-ok c =
    let rows : c.push_reserved.new.self.items ≡ c.self.inside.rows.items ++ new_row (length c.self.inside.rows.items) c.args.id c.args.content ∷ [] = grind (arith, common_steps) in
    let room : entries (one_list c.self.inside.rows.items) < 524288 = omega (arith, ap entries c.self.view_is, c.requires.room) in
    λ h. rw (rows, ← c.self.view_is) (put_does c.self.inside.rows.items c.args.id c.args.content h c.self.invariant.numbered c.requires.size room)
