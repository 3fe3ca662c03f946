use Rattle.std.proofs.Common.{ap, arith, length, length-append, take}
use Rattle.std.specs.List.{flat_map}
use Rattle.message_core.specs.Spelling.{header_bytes}
use Rattle.message_core.proofs.HeaderSizes.{size_one}
use Rattle.message_core.proofs.writing.put_headers.Goals as goal

pub put_header-requires-clause-short : goal.put_header-requires-clause-short
put_header-requires-clause-short c =
    omega (arith, size_one c.args.headers.now c.loop-header.header-index c.header-item.result c.loop-header-test.true c.header-item.is)

pub put_header-requires-clause-room : goal.put_header-requires-clause-room
put_header-requires-clause-room c =
    omega (
      arith,
      size_one c.args.headers.now c.loop-header.header-index c.header-item.result c.loop-header-test.true c.header-item.is,
      ap length c.loop-header.invariant.bytes,
      length-append c.args.into.now.bytes (flat_map header_bytes (take c.loop-header.header-index c.args.headers.now)),
    )
