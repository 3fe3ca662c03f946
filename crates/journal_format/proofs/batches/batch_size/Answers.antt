use Rattle.std.proofs.Common.{arith}
use Rattle.journal_format.specs.Batches.{lists_of}
use Rattle.journal_format.proofs.BatchBytes.{batch_size}
use Rattle.journal_format.proofs.TxnLists.{size_listed}
use Rattle.journal_format.proofs.batches.batch_size.Goals as goal

pub returns : goal.returns
returns c = omega (arith, c.txns_size.ensures.size, size_listed c.args.txns.now, batch_size (lists_of c.args.txns.now))
