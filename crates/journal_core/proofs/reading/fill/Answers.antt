use Rattle.std.proofs.Common.{◌≡◌, ◌+◌, min, length, sym, ◌∙◌, arith}
use Rattle.outside_io.specs.Counts.{last_count}
use Rattle.journal_core.proofs.ReadOnly.{reads_then, fill_next, fill_all}
use Rattle.journal_core.proofs.reading.fill.Goals as goal

pub returns-in_err-add_part-clause-reads : goal.returns-in_err-add_part-clause-reads
returns-in_err-add_part-clause-reads g c =
    reads_then g.D.Disk.seen g.D.Disk.images g.D.Disk.moment g.D.Disk.since g.D.Disk.trail g.D.Disk.syncs c.args.disk.now c.chunks.disk c.add_part.new.disk c.chunks.invariant.2 c.add_part.ensures.reads

pub chunks-preserved : goal.chunks-preserved
chunks-preserved g c =
    let disk = g.met.D.Disk g.world.𝓛 g.world.𝓜 g.world.𝓡 ((λ s x. x), (λ x. x), (λ x. x), λ x. x) in
    let inv = c.chunks.invariant in
    let long = c.in_ok-add_part.ensures.len in
    let place : c.saturating_add-place.result ≡ min (c.args.at + length c.add_part.new.into.bytes) last_count = omega (arith, inv.4, long, c.saturating_add-place.ensures) in (
      omega (arith, inv.0, long, c.min-count.ensures),
      omega (arith, inv.1, c.add_part.ensures.room),
      reads_then g.D.Disk.seen g.D.Disk.images g.D.Disk.moment g.D.Disk.since g.D.Disk.trail g.D.Disk.syncs c.args.disk.now c.chunks.disk c.add_part.new.disk inv.2 c.add_part.ensures.reads,
      c.in_ok-add_part.ensures.cause.kept ∙ inv.3,
      place,
      fill_all _ _ _ _ _ (sym long) (fill_next (g.D.Disk.seen c.chunks.disk) (g.D.Disk.seen c.add_part.new.disk) c.args.at (length c.chunks.into.bytes) c.min-count.result c.chunks.place c.chunks.into.bytes c.add_part.new.into.bytes
          c.add_part.ensures.reads.still (disk.within c.chunks.disk) inv.4 inv.5 c.in_ok-add_part.ensures.given),
    )
