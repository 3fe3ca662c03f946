use Rattle.entry_calls.proofs.Turning.{can_link, turned}
use Rattle.entry_calls.proofs.appends.turn.Goals as goal

pub try_link-requires-clause-draft : goal.try_link-requires-clause-draft
try_link-requires-clause-draft g c =
    let b = c.place_behind-place.ensures in let s = c.store_draft.ensures in
    can_link g.C.Freight.goods c.args.pass.now c.place_behind-place.new.pass c.store_draft.new.pass c.args.draft c.store_draft.new.draft c.args.slip.now c.args.stop c.place_behind-place.result
    c.requires.described c.requires.enters c.requires.key c.requires.stop b.ran b.tries b.drawn b.place s.kept s.did s.view s.same.0 s.same.1 c.node_of.result c.node_of.ensures

pub returns-clause-turned : goal.returns-clause-turned
returns-clause-turned g c =
    let b = c.place_behind-place.ensures in let s = c.store_draft.ensures in
    turned g.C.Freight.goods c.args.pass.now c.place_behind-place.new.pass c.store_draft.new.pass c.args.draft c.store_draft.new.draft c.args.slip.now c.args.stop c.place_behind-place.result
    c.requires.described c.requires.enters c.requires.key c.requires.stop b.ran b.tries b.drawn b.place s.kept s.did s.view s.same.0 s.same.1 c.try_link.new.pass c.node_of.result c.try_link.result c.node_of.ensures c.try_link.ensures.kept c.try_link.ensures.rights.0 c.try_link.ensures.rights.1 c.try_link.ensures.answer
