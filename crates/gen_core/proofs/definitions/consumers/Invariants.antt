use Rattle.std.proofs.Common.{◌≡◌, map}
use Rattle.std.specs.List.{range_with_len}
use Rattle.gen_core.specs.Generated.{consumer, numbered}
use Rattle.gen_core.specs.declared.definitions.TheConstants.{TAKER}
use Rattle.gen_core.proofs.definitions.consumers.Given as goal

abbrev pub invariant-loop-number : goal.invariant-loop-number
invariant-loop-number l = l.made.items ≡ map (λ k. consumer k (numbered TAKER k)) (range_with_len 0 l.number)
