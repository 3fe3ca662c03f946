use Rattle.std.proofs.Common.{◌≡◌, ◌-◌, ap, subst, sym, ◌∙◌, length, arith}
use Rattle.std.specs.List.{flat_map}
use Rattle.journal_format.specs.Spelling.{Txn, item_bytes}
use Rattle.journal_format.specs.Filled.{Filled, items_in, IsEncoded}
use Rattle.journal_format.proofs.Filling.{none_encoded}
use Rattle.journal_format.proofs.txns.Txn.clear.Goals as goal

pub invariant_of-self : goal.invariant_of-self
invariant_of-self c = record {
  encoded = subst (λ b. IsEncoded 0 b) (sym c.clear.ensures.bytes) none_encoded.1;
  fits = omega (arith, ap length c.clear.ensures.bytes);
}

pub returns-clause-items : goal.returns-clause-items
returns-clause-items c = ap (items_in 0) c.clear.ensures.bytes ∙ none_encoded.0

pub returns-clause-room : goal.returns-clause-room
returns-clause-room c =
    let room : c.self.inside.bytes.room - length c.self.inside.bytes.bytes ≡ c.args.self.now.room = ap (λ (f : Filled). f.room) c.self.view_is in
    let items : items_in c.self.inside.count c.self.inside.bytes.bytes ≡ c.args.self.now.items = ap (λ (f : Filled). f.items) c.self.view_is in
    omega (arith, room, ap (λ (t : Txn). length (flat_map item_bytes t)) items, ap length c.self.invariant.encoded.is, c.self.invariant.fits, c.clear.ensures.room, ap length c.clear.ensures.bytes)
