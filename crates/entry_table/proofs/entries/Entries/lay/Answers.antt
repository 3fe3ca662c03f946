use Rattle.std.proofs.Common.{◌≡◌, ◌∙◌, ℕ, sym, subst}
use Rattle.queue_model.specs.declared.steps.Node.{Node}
use Rattle.entry_table.specs.Passes.{view}
use Rattle.entry_table.specs.Plays.{CanLink}
use Rattle.entry_table.proofs.Laying.{just_drawn, can_link, no_block, lay_done}
use Rattle.entry_table.proofs.entries.Entries.lay.Goals as goal

pub write-requires-clause-draft : goal.write-requires-clause-draft
write-requires-clause-draft g c = just_drawn (view c.reserve_depth.new.pass) (view c.draw_row.new.pass) c.in-Row.draft.row c.in-Row.ensures.answer.2

pub try_link-requires-clause-draft : goal.try_link-requires-clause-draft
try_link-requires-clause-draft g c =
    let caller : c.write.new.pass.caller ≡ 0 = c.write.ensures.caller ∙ c.draw_row.ensures.kept.caller ∙ c.reserve_depth.ensures.kept.caller ∙ c.requires.caller in
    subst (λ (z : ℕ × Node). CanLink g.C.Freight.goods (view c.write.new.pass) z.0 c.write.new.draft z.1) (λ i. (sym caller i, sym c.node_at.ensures i))
    (can_link g.C.Freight.goods (view c.args.pass.now) (view c.reserve_depth.new.pass) (view c.draw_row.new.pass) (view c.write.new.pass) c.args.stop c.args.place c.in-Row.draft.row c.args.slip c.args.cargo
    c.requires.can c.reserve_depth.ensures.reserved c.in-Row.ensures.answer.2 c.write.ensures.wrote c.write.new.draft c.write.ensures.same.0 (c.write.ensures.same.1 ∙ c.in-Row.ensures.answer.1))

pub unreachable-requires-in-Behind : goal.unreachable-requires-in-Behind
unreachable-requires-in-Behind g c =
    no_block g.C.Freight.goods (view c.args.pass.now) (view c.reserve_depth.new.pass) (view c.draw_row.new.pass) (view c.write.new.pass) c.args.stop c.args.place c.in-Row.draft.row c.args.slip c.args.cargo
    c.requires.can c.reserve_depth.ensures.reserved c.in-Row.ensures.answer.2 c.write.ensures.wrote (view c.try_link.new.pass) c.write.new.draft _ _ c.node_at.result _ c.node_at.ensures c.in-Behind.ensures.answer

pub returns-clause-laid : goal.returns-clause-laid
returns-clause-laid g c =
    lay_done g.C.Freight.goods (view c.args.pass.now) (view c.reserve_depth.new.pass) (view c.draw_row.new.pass) (view c.write.new.pass) c.args.stop c.args.place c.in-Row.draft.row c.args.slip c.args.cargo
    c.requires.can c.reserve_depth.ensures.reserved c.in-Row.ensures.answer.2 c.write.ensures.wrote (view c.try_link.new.pass) c.write.new.draft c.node_at.result c.write.ensures.same.0 (c.write.ensures.same.1 ∙ c.in-Row.ensures.answer.1) c.in-Linked.ensures.answer
