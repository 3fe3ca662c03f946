use Rattle.std.proofs.Common.{◌≡◌, ◌-◌, ◌^◌, length, min, take}
use Rattle.std.specs.List.{flat_map, All}
use Rattle.message_core.specs.Spelling.{header_bytes, IsNumber}
use Rattle.message_core.proofs.sizes.headers_size.Given as goal

abbrev pub invariant-loop-header : goal.invariant-loop-header
invariant-loop-header l = record {
  size : l.size ≡ min (length (flat_map header_bytes (take l.header-index l.headers))) (2 ^ 64 - 1);
  number : All (λ h. IsNumber h.value) (take l.header-index l.headers);
}
