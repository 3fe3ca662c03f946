use Rattle.std.proofs.Common.{sym, subst}
use Rattle.queue_model.specs.declared.queues.Queue.{Queue}
use Rattle.queue_model.specs.declared.steps.Step.TheVariants.{Load}
use Rattle.queue_model.specs.declared.steps.WordName.TheVariants as names
use Rattle.queue_model.specs.History.{after}
use Rattle.acts_core.specs.Walks.{node_at}
use Rattle.entry_table.specs.Passes.{seen}
use Rattle.entry_table.specs.Plays.{Shows}
use Rattle.entry_table.proofs.Following.{follows_none, follows_some}
use Rattle.entry_table.proofs.entries.Entries.watch.Goals as goal

pub returns-then-word-eq0-clause-follows : goal.returns-then-word-eq0-clause-follows
returns-then-word-eq0-clause-follows g c =
    let old = c.args.pass.now in
    let new = c.watch_link-word.new.pass in
    let n = c.watch_link-word.result in
    let k = c.watch_link-word.ensures in
    follows_none old new c.args.self.now.shape c.args.list c.args.stop n c.requires.table.shape c.requires.list c.requires.stop k.kept k.rights.0 k.rights.1 k.did
    (subst (λ (o : Queue). Shows (Load (names.Link (node_at c.args.list c.args.stop))) n (after o (seen new))) (sym k.kept.opening) k.watching.shows)
    k.watching.watches.shown
    c.if-word-eq0.true

pub returns-else-word-eq0-clause-follows : goal.returns-else-word-eq0-clause-follows
returns-else-word-eq0-clause-follows g c =
    let old = c.args.pass.now in
    let new = c.watch_link-word.new.pass in
    let n = c.watch_link-word.result in
    let k = c.watch_link-word.ensures in
    (follows_some old new c.args.self.now.shape c.args.list c.args.stop n c.requires.table.shape c.requires.list c.requires.stop k.kept k.rights.0 k.rights.1 k.did
    (subst (λ (o : Queue). Shows (Load (names.Link (node_at c.args.list c.args.stop))) n (after o (seen new))) (sym k.kept.opening) k.watching.shows)
    k.watching.watches.shown
    c.if-word-eq0.false).0

pub returns-else-word-eq0-clause-low : goal.returns-else-word-eq0-clause-low
returns-else-word-eq0-clause-low g c =
    let old = c.args.pass.now in
    let new = c.watch_link-word.new.pass in
    let n = c.watch_link-word.result in
    let k = c.watch_link-word.ensures in
    (follows_some old new c.args.self.now.shape c.args.list c.args.stop n c.requires.table.shape c.requires.list c.requires.stop k.kept k.rights.0 k.rights.1 k.did
    (subst (λ (o : Queue). Shows (Load (names.Link (node_at c.args.list c.args.stop))) n (after o (seen new))) (sym k.kept.opening) k.watching.shows)
    k.watching.watches.shown
    c.if-word-eq0.false).1
