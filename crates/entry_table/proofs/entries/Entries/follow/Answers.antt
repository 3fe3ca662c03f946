use Rattle.std.proofs.Common.{◌≡◌, ◌++◌, ◌∷◌, [], subst}
use Rattle.queue_model.specs.declared.steps.Node.{Node}
use Rattle.queue_model.specs.declared.steps.Step.TheVariants.{Load}
use Rattle.queue_model.specs.declared.steps.WordName.TheVariants as names
use Rattle.entry_table.specs.Passes.{state, shown, seen}
use Rattle.entry_table.specs.Plays.{Shows}
use Rattle.entry_table.specs.Views.{entry}
use Rattle.entry_table.proofs.Following.{follows_none, follows_some}
use Rattle.entry_table.proofs.entries.Entries.follow.Goals as goal

pub returns-then-word-eq0-clause-follows : goal.returns-then-word-eq0-clause-follows
returns-then-word-eq0-clause-follows g c =
    let old = c.args.pass.now in
    let new = c.look-word.new.pass in
    let n = c.look-word.result in
    let k = c.look-word.ensures in
    let node = c.node_of-node.ensures in
    follows_none old new c.args.self.now.shape c.args.list c.args.stop n c.requires.table.shape c.requires.list c.requires.stop k.kept k.rights.0 k.rights.1 k.did
    (subst (λ (m : Node). Shows (Load (names.Link m)) n (state new)) node k.shows)
    (subst (λ (m : Node). shown new ≡ shown old ++ entry (Load (names.Link m)) n n (seen new) ∷ []) node k.shown)
    c.if-word-eq0.true

pub returns-else-word-eq0-clause-follows : goal.returns-else-word-eq0-clause-follows
returns-else-word-eq0-clause-follows g c =
    let old = c.args.pass.now in
    let new = c.look-word.new.pass in
    let n = c.look-word.result in
    let k = c.look-word.ensures in
    let node = c.node_of-node.ensures in
    (follows_some old new c.args.self.now.shape c.args.list c.args.stop n c.requires.table.shape c.requires.list c.requires.stop k.kept k.rights.0 k.rights.1 k.did
    (subst (λ (m : Node). Shows (Load (names.Link m)) n (state new)) node k.shows)
    (subst (λ (m : Node). shown new ≡ shown old ++ entry (Load (names.Link m)) n n (seen new) ∷ []) node k.shown)
    c.if-word-eq0.false).0

pub returns-else-word-eq0-clause-low : goal.returns-else-word-eq0-clause-low
returns-else-word-eq0-clause-low g c =
    let old = c.args.pass.now in
    let new = c.look-word.new.pass in
    let n = c.look-word.result in
    let k = c.look-word.ensures in
    let node = c.node_of-node.ensures in
    (follows_some old new c.args.self.now.shape c.args.list c.args.stop n c.requires.table.shape c.requires.list c.requires.stop k.kept k.rights.0 k.rights.1 k.did
    (subst (λ (m : Node). Shows (Load (names.Link m)) n (state new)) node k.shows)
    (subst (λ (m : Node). shown new ≡ shown old ++ entry (Load (names.Link m)) n n (seen new) ∷ []) node k.shown)
    c.if-word-eq0.false).1
