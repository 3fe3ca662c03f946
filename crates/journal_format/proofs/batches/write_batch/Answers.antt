use Rattle.std.proofs.Common.{◌+◌, ap, length, length-append, arith, refl}
use Rattle.std.specs.List.{flat_map}
use Rattle.journal_format.specs.Batches.{lists_of}
use Rattle.journal_format.proofs.BatchBytes.{batch_size}
use Rattle.journal_format.proofs.TxnLists.{bytes_of, bytes_listed, size_listed, batch_made, batch_put}
use Rattle.journal_format.proofs.batches.write_batch.Goals as goal

pub put_txns-requires : goal.put_txns-requires
put_txns-requires c = record {
  room = omega (
    arith,
    c.requires.room,
    c.append.ensures.room,
    c.append-2.ensures.room,
    ap length c.append.ensures.bytes,
    length-append c.args.into.now.bytes c.to_be_bytes.result,
    ap length c.to_be_bytes.ensures,
    ap length c.append-2.ensures.bytes,
    length-append c.append.new.self.bytes c.to_be_bytes-2.result,
    ap length c.to_be_bytes-2.ensures,
    ap length (bytes_listed c.args.txns.now),
  );
}

pub append-requires-3 : goal.append-requires-3
append-requires-3 c =
    omega (
      arith,
      c.requires.room,
      c.append.ensures.room,
      c.append-2.ensures.room,
      c.put_txns.ensures.room,
      ap length c.append.ensures.bytes,
      length-append c.args.into.now.bytes c.to_be_bytes.result,
      ap length c.to_be_bytes.ensures,
      ap length c.append-2.ensures.bytes,
      length-append c.append.new.self.bytes c.to_be_bytes-2.result,
      ap length c.to_be_bytes-2.ensures,
      ap length c.put_txns.ensures.bytes,
      length-append c.append-2.new.self.bytes (flat_map bytes_of c.args.txns.now),
      ap length (bytes_listed c.args.txns.now),
    )

pub returns-clause-batch : goal.returns-clause-batch
returns-clause-batch c =
    batch_made c.args.txns.now c.requires.some c.requires.few c.requires.items c.txns_size-size.ensures.limited (omega (arith, c.txns_size-size.ensures.most, c.txns_size-size.ensures.size))

pub returns-clause-bytes : goal.returns-clause-bytes
returns-clause-bytes c =
    batch_put c.args.txns.now (4 + c.txns_size-size.result) c.args.into.now.bytes c.append.new.self.bytes c.append-2.new.self.bytes c.put_txns.new.into.bytes c.append-3.new.self.bytes c.to_be_bytes.result c.to_be_bytes-2.result
    c.append.ensures.bytes c.to_be_bytes.ensures (ap (λ n. 4 + n) c.txns_size-size.ensures.size) c.append-2.ensures.bytes c.to_be_bytes-2.ensures c.put_txns.ensures.bytes c.append-3.ensures.bytes
