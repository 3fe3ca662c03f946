use Rattle.std.proofs.Common.{refl, sym, ap, ◌∙◌, ℕ, subst, []}
use Rattle.acts_core.specs.Asked.{Enters}
use Rattle.entry_table.specs.Helps.{Helpable}
use Rattle.entry_table.specs.Passes.{shown, state}
use Rattle.entry_table.specs.Tries.{tries}
use Rattle.entry_table.proofs.Trying.{tries_other}
use Rattle.entry_calls.proofs.Running.{enters_later, ran_then, ran_one, stop_ran}
use Rattle.entry_calls.proofs.Putting.{tail_stop, helpable, lists_on, appended_whole}
use Rattle.entry_calls.proofs.appends.append.Goals as goal

pub link_behind-requires-clause-enters : goal.link_behind-requires-clause-enters
link_behind-requires-clause-enters g c =
    let p0 = c.args.pass.now in let p1 = c.describe.new.pass in let p2 = c.look-tail.new.pass in
    let k = c.look-tail.ensures in
    let ran = ran_then p0 p1 p2 [] c.describe.ensures.ran (ran_one p1 p2 _ k.kept k.rights.0 k.rights.1 k.did k.shown) in
    subst (λ (z : g.row.C.Denot). Enters (state p2) p2.caller c.args.slip.now (g.C.Freight.goods z)) (sym c.describe.ensures.same.1) (enters_later p0 p2 c.args.slip.now (g.C.Freight.goods c.args.draft.cargo) ran c.requires.enters)

pub link_behind-requires-clause-stop : goal.link_behind-requires-clause-stop
link_behind-requires-clause-stop g c =
    let p0 = c.args.pass.now in let p1 = c.describe.new.pass in let p2 = c.look-tail.new.pass in
    let low = lists_on p1 p2 c.args.slip.now.list c.look-tail.ensures.kept (lists_on p0 p1 c.args.slip.now.list c.describe.ensures.ran.keeps.kept c.requires.enters.fits.list) in
    tail_stop (state p2) c.args.slip.now.list c.look-tail.result low c.look-tail.ensures.shows

pub help_tail-requires-clause-helpable : goal.help_tail-requires-clause-helpable
help_tail-requires-clause-helpable g c =
    let p0 = c.args.pass.now in let p1 = c.describe.new.pass in let p2 = c.look-tail.new.pass in let p3 = c.link_behind.new.pass in
    let a = c.link_behind.ensures.appended in
    let low = lists_on p1 p2 c.args.slip.now.list c.look-tail.ensures.kept (lists_on p0 p1 c.args.slip.now.list c.describe.ensures.ran.keeps.kept c.requires.enters.fits.list) in
    let stop = tail_stop (state p2) c.args.slip.now.list c.look-tail.result low c.look-tail.ensures.shows in
    let later = (stop_ran p2 p3 c.args.slip.now.list c.look-tail.result a.ran.keeps.kept.opening a.ran.did.prefix stop).0 in
    subst (λ (r : ℕ). Helpable (state p3) c.args.slip.now.list c.node_of.result r) (sym c.row-row.ensures)
    (helpable (state p3) c.args.slip.now.list c.look-tail.result c.describe.new.draft.row c.node_of.result c.node_of.ensures (lists_on p2 p3 c.args.slip.now.list a.ran.keeps.kept low) later a.there a.behind)

pub returns-clause-appended : goal.returns-clause-appended
returns-clause-appended g c =
    let p0 = c.args.pass.now in let p1 = c.describe.new.pass in let p2 = c.look-tail.new.pass in let p3 = c.link_behind.new.pass in let p4 = c.help_tail.new.pass in
    let k = c.look-tail.ensures in let h = c.help_tail.ensures in
    let ran = ran_then p0 p1 p2 [] c.describe.ensures.ran (ran_one p1 p2 _ k.kept k.rights.0 k.rights.1 k.did k.shown) in
    appended_whole p0 p2 p3 p4 c.args.draft.row c.describe.new.draft.row c.look-tail.result c.args.slip.now (g.C.Freight.goods c.args.draft.cargo) (g.C.Freight.goods c.describe.new.draft.cargo) c.describe.ensures.same.0 (ap g.C.Freight.goods c.describe.ensures.same.1) ran
    (ap tries k.shown ∙ tries_other (shown p1) _ refl ∙ c.describe.ensures.tries) c.link_behind.ensures.appended
    (ran_one p3 p4 _ h.kept h.rights.0 h.rights.1 h.did h.shown.2) (ap tries h.shown.2 ∙ tries_other (shown p3) _ refl)
