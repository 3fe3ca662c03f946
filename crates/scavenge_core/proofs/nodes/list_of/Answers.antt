use Rattle.std.proofs.Common.{arith, [], ◌∷◌}
use Rattle.queue_model.specs.declared.steps.DraftWord.TheVariants as drafts
use Rattle.queue_model.specs.declared.steps.Step.TheVariants as steps
use Rattle.queue_model.specs.declared.steps.WordName.TheVariants as wordnames
use Rattle.entry_table.specs.Passes.{seen}
use Rattle.entry_table.specs.Views.{entry}
use Rattle.entry_table.proofs.Later.{pass_of}
use Rattle.scavenge_core.proofs.Lasting.{tried}
use Rattle.scavenge_core.proofs.Noting.{list_shown, list_low}
use Rattle.scavenge_core.proofs.nodes.list_of.Goals as goal

pub overflow_cast-result : goal.overflow_cast-result
overflow_cast-result g c =
    let e = c.args.entries.now in
    let k = c.look.ensures in
    let new = c.look.new.pass in
    let low = list_low e new c.look.result c.args.row (pass_of e c.args.pass.now new c.requires.table k.kept) (list_shown c.args.pass.now new c.args.row c.look.result k.kept k.did c.requires.known k.shows) in
    let lists = e.lists in record { fits = omega (arith, low, lists) }

pub returns-clause-looks : goal.returns-clause-looks
returns-clause-looks g c =
    let k = c.look.ensures in
    let new = c.look.new.pass in
    (c.args.row, drafts.List, c.look.result, tried c.args.pass.now new (entry (steps.Load (wordnames.Draft c.args.row drafts.List)) c.look.result c.look.result (seen new) ∷ []) k.kept k.rights k.did k.shown)

pub returns-clause-there : goal.returns-clause-there
returns-clause-there g c = list_shown c.args.pass.now c.look.new.pass c.args.row c.look.result c.look.ensures.kept c.look.ensures.did c.requires.known c.look.ensures.shows

pub returns-clause-low : goal.returns-clause-low
returns-clause-low g c =
    let k = c.look.ensures in
    let new = c.look.new.pass in
    list_low c.args.entries.now new c.look.result c.args.row (pass_of c.args.entries.now c.args.pass.now new c.requires.table k.kept) (list_shown c.args.pass.now new c.args.row c.look.result k.kept k.did c.requires.known k.shows)
