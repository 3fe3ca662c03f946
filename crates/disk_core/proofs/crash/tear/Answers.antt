use Rattle.std.proofs.Common.{◌+◌, take, sym, subst, arith}
use Rattle.std.proofs.lemmas.List.{take_all}
use Rattle.disk_core.specs.Trails.{IsImage}
use Rattle.disk_core.specs.Memory.{steps_of}
use Rattle.disk_core.proofs.Crashes.{torn_next, not_sync}
use Rattle.disk_core.proofs.crash.tear.Goals as goal
use Rattle.disk_core.proofs.crash.tear.Goals.{in-Write+in_ok-tear_one-in-Write, in-Sync}

pub loop-i-preserved : goal.loop-i-preserved
loop-i-preserved c = elim c.match-moves-i.branch [
  | in-Write+in_ok-tear_one-in-Write w ↦ (
    λ first start. subst (λ v. IsImage first (steps_of c.args.written.now (take (c.loop-i.i + 1) c.args.moves.now)) v.items) (sym w.image-is)
        (torn_next first c.args.written.now c.args.moves.now c.loop-i.i _ w.in-Write.at w.in-Write.from w.in-Write.len w.bytes_of-bytes.result.now c.loop-i.image.items w.tear_one.new.image.items
        w.in-Write.is c.loop-i-test.true w.bytes_of-bytes.ensures w.in_ok-tear_one-in-Write.ensures (c.loop-i.invariant.0 first start)),
    λ none. absurd (omega arith),
  )
  | in-Sync w ↦ absurd (not_sync c.args.moves.now c.args.kept c.loop-i.i _ c.requires.writes c.loop-i.auto.i c.loop-i-test.true w.in-Sync.is)
]

pub returns-clause-image : goal.returns-clause-image
returns-clause-image c first start =
    subst (λ l. IsImage first (steps_of c.args.written.now l) c.loop-i.image.items) (take_all c.loop-i.i c.args.moves.now (omega arith)) (c.loop-i.invariant.0 first start)
