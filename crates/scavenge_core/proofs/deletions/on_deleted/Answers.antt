use Rattle.std.proofs.Common.{[], ◌∷◌, sym, arith}
use Rattle.queue_model.specs.declared.steps.DraftWord.TheVariants as drafts
use Rattle.queue_model.specs.declared.steps.Step.TheVariants as steps
use Rattle.queue_model.specs.declared.steps.WordName.TheVariants as wordnames
use Rattle.entry_table.specs.Passes.{seen, state}
use Rattle.entry_table.specs.Views.{entry}
use Rattle.scavenge_core.proofs.Lasting.{tried, row_on}
use Rattle.scavenge_core.proofs.Noting.{few_deleted, many_deleted}
use Rattle.scavenge_core.proofs.Visiting.{place_shown}
use Rattle.scavenge_core.proofs.deletions.on_deleted.Goals as goal

pub mark-requires-clause-place : goal.mark-requires-clause-place
mark-requires-clause-place g c =
    let k = c.look-place.ensures in
    let a = c.list_of-list.new.pass in
    let b = c.look-place.new.pass in
    let t = tried a b (entry (steps.Load (wordnames.Draft c.args.row drafts.Place)) c.look-place.result c.look-place.result (seen b) ∷ []) k.kept k.rights k.did k.shown in
    let there = row_on a b (entry (steps.Load (wordnames.Draft c.args.row drafts.Place)) c.look-place.result c.look-place.result (seen b) ∷ []) t c.list_of-list.result c.args.row c.list_of-list.ensures.there in
    (c.args.row, there, sym (place_shown (state b) c.args.row c.look-place.result there.0 k.shows there.1))

pub returns-then-count-clause-deleted : goal.returns-then-count-clause-deleted
returns-then-count-clause-deleted g c =
    let many = c.if-count.true in
    many_deleted c.args.pass.now c.list_of-list.new.pass c.look-place.new.pass c.mark.new.pass c.count.new.pass c.list_of-list.result c.args.row c.look-place.result c.count.result c.list_of-list.ensures.looks c.list_of-list.ensures.there
    c.look-place.ensures.kept c.look-place.ensures.rights c.look-place.ensures.did c.look-place.ensures.shows c.look-place.ensures.shown
    c.mark.ensures.kept c.mark.ensures.rights c.mark.ensures.did c.mark.ensures.shown
    c.count.ensures.kept c.count.ensures.rights c.count.ensures.did c.count.ensures.shown
    (omega (arith, many)) c.reset.new.pass c.scavenge.new.pass c.reset.result c.reset.ensures.kept c.reset.ensures.rights c.reset.ensures.did c.reset.ensures.shown c.scavenge.ensures.scavenged

pub returns-else-count-clause-deleted : goal.returns-else-count-clause-deleted
returns-else-count-clause-deleted g c =
    let few = c.if-count.false in
    few_deleted c.args.pass.now c.list_of-list.new.pass c.look-place.new.pass c.mark.new.pass c.count.new.pass c.list_of-list.result c.args.row c.look-place.result c.count.result c.list_of-list.ensures.looks c.list_of-list.ensures.there
    c.look-place.ensures.kept c.look-place.ensures.rights c.look-place.ensures.did c.look-place.ensures.shows c.look-place.ensures.shown
    c.mark.ensures.kept c.mark.ensures.rights c.mark.ensures.did c.mark.ensures.shown
    c.count.ensures.kept c.count.ensures.rights c.count.ensures.did c.count.ensures.shown
    (omega (arith, few))
