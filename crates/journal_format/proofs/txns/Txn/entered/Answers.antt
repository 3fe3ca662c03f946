use Rattle.std.proofs.Common.{◌≡◌, ◌-◌, ◌+◌, ◌≤◌, ◌++◌, ◌∷◌, [], ℕ, List, ap, subst, sym, ◌∙◌, length, length-append, arith}
use Rattle.journal_format.specs.declared.items.Item.{Item}
use Rattle.journal_format.specs.declared.items.Item.TheVariants.{Entered, Gone}
use Rattle.message_core.specs.Spelling.{cut, text_bytes, content}
use Rattle.journal_format.specs.Spelling.{Txn, name_bytes, item_bytes, IsItem}
use Rattle.journal_format.specs.Filled.{Filled, HasPlace, items_in, IsKept}
use Rattle.journal_format.proofs.Filling.{place_left, kept_more, encoded_size}
use Rattle.journal_format.proofs.txns.Txn.entered.Goals as goal

pub invariant_of-self : goal.invariant_of-self
invariant_of-self c =
    let item : Item = Entered c.args.queue.now c.args.message.now in
    let is : IsItem item = (c.requires.name, c.entered_size-size.ensures.message, c.requires.persistent) in
    let room : length (item_bytes item) ≤ c.self.inside.bytes.room - length c.self.inside.bytes.bytes = subst (λ (f : Filled). length (item_bytes item) ≤ f.room) (sym c.self.view_is) c.requires.room in
    let place = place_left c.self.inside.count c.self.inside.bytes item c.as_slice.result.now c.entered_size-size.result c.self.invariant c.as_slice.ensures c.entered_size-size.ensures.size c.if-not-has_place.ensures.holds in
    (kept_more c.self.inside.count c.self.inside.bytes c.put_entered.new.into item c.self.invariant place is c.put_entered.ensures.bytes room c.put_entered.ensures.room).1

pub returns-clause-items : goal.returns-clause-items
returns-clause-items c =
    let item : Item = Entered c.args.queue.now c.args.message.now in
    let is : IsItem item = (c.requires.name, c.entered_size-size.ensures.message, c.requires.persistent) in
    let room : length (item_bytes item) ≤ c.self.inside.bytes.room - length c.self.inside.bytes.bytes = subst (λ (f : Filled). length (item_bytes item) ≤ f.room) (sym c.self.view_is) c.requires.room in
    let place = place_left c.self.inside.count c.self.inside.bytes item c.as_slice.result.now c.entered_size-size.result c.self.invariant c.as_slice.ensures c.entered_size-size.ensures.size c.if-not-has_place.ensures.holds in
    (kept_more c.self.inside.count c.self.inside.bytes c.put_entered.new.into item c.self.invariant place is c.put_entered.ensures.bytes room c.put_entered.ensures.room).0 ∙ ap (λ (f : Filled). f.items ++ item ∷ []) c.self.view_is

pub returns-clause-place : goal.returns-clause-place
returns-clause-place c =
    let q = c.args.queue.now in
    let m = c.args.message.now in
    omega (
      arith,
      c.txn_size.ensures,
      ap length c.as_slice-2.ensures,
      ap length c.body.ensures,
      ap length c.put_entered.ensures.bytes,
      length-append c.self.inside.bytes.bytes (item_bytes (Entered q m)),
      length-append (name_bytes q) (text_bytes (content m)),
      length-append (cut m) m.body,
      ap length (invariant_of-self c).encoded.is,
    )
