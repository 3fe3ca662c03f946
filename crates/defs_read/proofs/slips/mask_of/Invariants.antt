use Rattle.std.proofs.Common.{◌^◌, ◌<◌, take}
use Rattle.defs_read.specs.Slips.{IsMask}
use Rattle.defs_read.proofs.slips.mask_of.Given as goal

abbrev pub invariant-loop-index : goal.invariant-loop-index
invariant-loop-index l = record {
  mask : IsMask l.mask (take l.index l.consumers) l.message;
  narrow : l.mask < 2 ^ l.index;
}
