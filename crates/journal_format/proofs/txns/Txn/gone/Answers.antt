use Rattle.std.proofs.Common.{◌≡◌, ◌-◌, ◌≤◌, ◌++◌, ◌∷◌, [], ℕ, List, ap, subst, sym, ◌∙◌, length, arith}
use Rattle.journal_format.specs.declared.items.Item.{Item}
use Rattle.journal_format.specs.declared.items.Item.TheVariants.{Entered, Gone}
use Rattle.journal_format.specs.Spelling.{Txn, item_bytes, IsItem}
use Rattle.journal_format.specs.Filled.{Filled, HasPlace, items_in, IsKept}
use Rattle.journal_format.proofs.Filling.{place_left, kept_more, encoded_size}
use Rattle.journal_format.proofs.txns.Txn.gone.Goals as goal

pub invariant_of-self : goal.invariant_of-self
invariant_of-self c =
    let item : Item = Gone c.args.queue.now c.args.id in
    let is : IsItem item = (c.requires.name, c.ranges.id.fits) in
    let room : length (item_bytes item) ≤ c.self.inside.bytes.room - length c.self.inside.bytes.bytes = subst (λ (f : Filled). length (item_bytes item) ≤ f.room) (sym c.self.view_is) c.requires.room in
    let place = place_left c.self.inside.count c.self.inside.bytes item c.as_slice.result.now c.gone_size-size.result c.self.invariant c.as_slice.ensures (c.gone_size-size.ensures c.args.id) c.if-not-has_place.ensures.holds in
    (kept_more c.self.inside.count c.self.inside.bytes c.put_gone.new.into item c.self.invariant place is c.put_gone.ensures.bytes room c.put_gone.ensures.room).1

pub returns-clause-items : goal.returns-clause-items
returns-clause-items c =
    let item : Item = Gone c.args.queue.now c.args.id in
    let is : IsItem item = (c.requires.name, c.ranges.id.fits) in
    let room : length (item_bytes item) ≤ c.self.inside.bytes.room - length c.self.inside.bytes.bytes = subst (λ (f : Filled). length (item_bytes item) ≤ f.room) (sym c.self.view_is) c.requires.room in
    let place = place_left c.self.inside.count c.self.inside.bytes item c.as_slice.result.now c.gone_size-size.result c.self.invariant c.as_slice.ensures (c.gone_size-size.ensures c.args.id) c.if-not-has_place.ensures.holds in
    (kept_more c.self.inside.count c.self.inside.bytes c.put_gone.new.into item c.self.invariant place is c.put_gone.ensures.bytes room c.put_gone.ensures.room).0 ∙ ap (λ (f : Filled). f.items ++ item ∷ []) c.self.view_is
