use Rattle.disk_core.proofs.Crashes.{reaches}
use Rattle.disk_core.proofs.tests.write.Goals as goal

pub write_at-requires : goal.write_at-requires
write_at-requires g c = reaches _ _ _ _ c.in_ok-len.ensures.len c.len.ensures.still c.if-len-at.false
