use Rattle.std.proofs.Common.{◌≡◌, ◌++◌, ◌∷◌, [], ℕ, subst}
use Rattle.queue_model.specs.declared.steps.DraftWord.TheVariants as drafts
use Rattle.queue_model.specs.declared.steps.Step.TheVariants as steps
use Rattle.queue_model.specs.declared.steps.WordName.TheVariants as names
use Rattle.entry_table.specs.Passes.{shown, seen, state}
use Rattle.entry_table.specs.Plays.{Shows}
use Rattle.entry_table.specs.Sights.{sight}
use Rattle.entry_table.specs.Views.{entry}
use Rattle.entry_table.proofs.Later.{known_later}
use Rattle.entry_calls.proofs.Naming.{other_id, deleted_row, spotted_row, named_by}
use Rattle.entry_calls.proofs.finding.is_named.Goals as goal

pub returns-then-ident-id-clause-named : goal.returns-then-ident-id-clause-named
returns-then-ident-id-clause-named g c =
    let old = c.args.pass.now in
    let mid = c.look-ident.new.pass in
    let new = c.look.new.pass in
    let id = c.args.id in
    let row = c.args.row in
    let k = c.look-ident.ensures in
    let l = c.look.ensures in
    let there = known_later old mid row k.kept k.did c.requires.known in
    let shows = subst (λ (n : ℕ). Shows (steps.Load (names.Draft row drafts.Ident)) n (state mid)) c.if-ident-id.true k.shows in
    let log = subst (λ (n : ℕ). shown mid ≡ shown old ++ entry (steps.Load (names.Draft row drafts.Ident)) n n (seen mid) ∷ []) c.if-ident-id.true k.shown in
    named_by (sight old) (sight new) id row c.look.result c.state_word.result c.state_word.ensures
    (deleted_row old mid new id row c.look.result there.0 k.kept k.rights.0 k.rights.1 k.did shows log there.1 l.kept l.rights.0 l.rights.1 l.did l.shows l.shown)
    (spotted_row old mid new id row c.look.result there.0 k.kept k.rights.0 k.rights.1 k.did shows log there.1 l.kept l.rights.0 l.rights.1 l.did l.shows l.shown)

pub returns-else-ident-id-clause-named : goal.returns-else-ident-id-clause-named
returns-else-ident-id-clause-named g c =
    let k = c.look-ident.ensures in
    other_id c.args.pass.now c.look-ident.new.pass c.args.id c.args.row c.look-ident.result k.kept k.rights.0 k.rights.1 k.did k.shows k.shown c.if-ident-id.false
