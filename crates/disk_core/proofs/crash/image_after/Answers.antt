use Rattle.std.proofs.Common.{◌∙◌, take, sym, ap, subst}
use Rattle.disk_core.specs.Trails.{content, IsImage}
use Rattle.disk_core.specs.Memory.{steps_of}
use Rattle.disk_core.proofs.Moves.{synced_image}
use Rattle.disk_core.proofs.crash.image_after.Goals as goal

pub returns-clause-image : goal.returns-clause-image
returns-clause-image c =
    let first = c.args.first.now in
    let early = steps_of c.args.written.now (take c.kept_whole-kept.result c.args.moves.now) in
    let start = synced_image first early c.replay.new.image.items (c.in_ok-replay.ensures ∙ ap (λ l. content l early) c.in_ok-image.ensures) in
    subst (λ l. IsImage first (steps_of c.args.written.now c.args.moves.now) l) (sym c.from_vec.ensures) (c.in_ok-tear.ensures.image first start)
