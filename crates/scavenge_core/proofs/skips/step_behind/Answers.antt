use Rattle.std.proofs.Common.{◌≡◌, ◌<◌, ◌+◌, ◌-◌, ℕ, suc, sym, ap, ◌∙◌, subst, arith}
use Rattle.queue_model.specs.State.{place_at}
use Rattle.acts_core.specs.Walks.{IsStop}
use Rattle.entry_table.specs.Passes.{state}
use Rattle.entry_table.proofs.Later.{kept_trans, pass_of}
use Rattle.scavenge_core.proofs.Lasting.{place_on, stop_on, row_on}
use Rattle.scavenge_core.proofs.Stepping.{first_named, first_none, look_tried, looked, looked_gone, looked_live, stop_looked, may_move, moved_past, moved_later, stop_moved, reached, stop_after, row_low}
use Rattle.scavenge_core.proofs.skips.step_behind.Goals as goal

pub returns-in_default-clause-steps : goal.returns-in_default-clause-steps
returns-in_default-clause-steps g c =
    let k = c.in_default.ensures in
    first_none c.args.pass.now c.watch.new.pass c.args.list c.args.stop (stop_after c.args.pass.now c.watch.new.pass c.args.list c.args.stop k.kept k.did c.requires.stop) k.kept k.did k.follows k.watching

pub rows-init : goal.rows-init
rows-init g c =
    let k = c.in-Some.ensures in record {
      table = pass_of c.args.entries.now c.args.pass.now c.watch.new.pass c.requires.table k.kept;
      kept = k.kept;
      stop = stop_after c.args.pass.now c.watch.new.pass c.args.list c.args.stop k.kept k.did c.requires.stop;
      ahead = first_named c.args.pass.now c.watch.new.pass c.args.list c.args.stop c.in-Some.named k.kept k.did k.follows k.watching;
    }

pub look-found-requires-clause-word : goal.look-found-requires-clause-word
look-found-requires-clause-word g c =
    (row_low c.args.entries.now c.rows.pass c.args.list c.rows.row c.rows.invariant.table c.rows.invariant.ahead.there).0

pub move_on-named-requires-clause-may : goal.move_on-named-requires-clause-may
move_on-named-requires-clause-may g c =
    let old = c.args.pass.now in let now = c.rows.pass in let mid = c.look-found.new.pass in
    let l = c.args.list in let w = c.args.stop in let f = c.rows.first in let r = c.rows.row in
    let i = c.rows.invariant in let k = c.look-found.ensures in
    may_move old mid l w f r 1 1 (stop_looked old now mid l w f r c.look-found.result i.stop i.ahead k.kept k.rights k.did k.watched k.shows k.shown) (looked old now mid l w f r c.look-found.result i.stop i.ahead k.kept k.rights k.did k.watched k.shows k.shown)

pub returns-then-named-row-clause-steps : goal.returns-then-named-row-clause-steps
returns-then-named-row-clause-steps g c =
    let old = c.args.pass.now in let now = c.rows.pass in let mid = c.look-found.new.pass in
    let l = c.args.list in let w = c.args.stop in let f = c.rows.first in let r = c.rows.row in
    let i = c.rows.invariant in let k = c.look-found.ensures in
    let new = c.move_on-named.new.pass in
    reached old mid new l w f r c.move_on-named.result (stop_looked old now mid l w f r c.look-found.result i.stop i.ahead k.kept k.rights k.did k.watched k.shows k.shown) (looked old now mid l w f r c.look-found.result i.stop i.ahead k.kept k.rights k.did k.watched k.shows k.shown) (looked_live old now mid l w f r c.look-found.result i.stop i.ahead k.kept k.rights k.did k.watched k.shows k.shown (λ e. c.if-found-state_word.true (e ∙ sym c.state_word.ensures))) c.move_on-named.ensures.moved c.if-named-row.true

pub rows-smaller-then-found-state_word : goal.rows-smaller-then-found-state_word
rows-smaller-then-found-state_word g c =
    let old = c.args.pass.now in let now = c.rows.pass in let mid = c.look-found.new.pass in
    let l = c.args.list in let w = c.args.stop in let f = c.rows.first in let r = c.rows.row in
    let i = c.rows.invariant in let k = c.look-found.ensures in
    let new = c.move_on-named.new.pass in let m = c.move_on-named.ensures.moved in let u = c.move_on-named.result in
    let x = looked old now mid l w f r c.look-found.result i.stop i.ahead k.kept k.rights k.did k.watched k.shows k.shown in
    let later = moved_later old mid new l w f r u 1 1 (stop_looked old now mid l w f r c.look-found.result i.stop i.ahead k.kept k.rights k.did k.watched k.shows k.shown) x m c.if-named-row.false in
    let p0 = place_on now mid _ (look_tried old now mid l w f r c.look-found.result i.stop i.ahead k.kept k.rights k.did k.watched k.shows k.shown) r i.ahead.there.0 i.ahead.there.1 in
    let p1 = place_on mid new m.added m.tries r x.there.0 x.there.1 in
    let e = c.args.entries.now in
    let table = pass_of e now new i.table (kept_trans now mid new k.kept c.move_on-named.ensures.kept) in
    let low = (row_low e new l u table m.there).1 in
    let less : e.shape.rows - place_at (state new) u < e.shape.rows - place_at (state now) r = omega (arith, later, p0, p1, low) in less

pub rows-preserved-then-found-state_word : goal.rows-preserved-then-found-state_word
rows-preserved-then-found-state_word g c =
    let old = c.args.pass.now in let now = c.rows.pass in let mid = c.look-found.new.pass in
    let l = c.args.list in let w = c.args.stop in let f = c.rows.first in let r = c.rows.row in
    let i = c.rows.invariant in let k = c.look-found.ensures in
    let new = c.move_on-named.new.pass in let m = c.move_on-named.ensures.moved in let u = c.move_on-named.result in
    let all = kept_trans now mid new k.kept c.move_on-named.ensures.kept in record {
      table = pass_of c.args.entries.now now new i.table all;
      kept = kept_trans old now new i.kept all;
      stop = stop_on mid new m.added m.tries l w (stop_looked old now mid l w f r c.look-found.result i.stop i.ahead k.kept k.rights k.did k.watched k.shows k.shown);
      ahead = moved_past old mid new l w f r u 1 1 (stop_looked old now mid l w f r c.look-found.result i.stop i.ahead k.kept k.rights k.did k.watched k.shows k.shown) (looked old now mid l w f r c.look-found.result i.stop i.ahead k.kept k.rights k.did k.watched k.shows k.shown) m c.if-named-row.false (omega arith) (omega arith);
    }

pub go_on-requires-clause-may : goal.go_on-requires-clause-may
go_on-requires-clause-may g c =
    let old = c.args.pass.now in let now = c.rows.pass in let mid = c.look-found.new.pass in
    let l = c.args.list in let w = c.args.stop in let f = c.rows.first in let r = c.rows.row in
    let i = c.rows.invariant in let k = c.look-found.ensures in
    may_move old mid l w f r 1 1 (stop_looked old now mid l w f r c.look-found.result i.stop i.ahead k.kept k.rights k.did k.watched k.shows k.shown) (looked old now mid l w f r c.look-found.result i.stop i.ahead k.kept k.rights k.did k.watched k.shows k.shown)

pub go_on-requires-clause-gone : goal.go_on-requires-clause-gone
go_on-requires-clause-gone g c =
    let old = c.args.pass.now in let now = c.rows.pass in let mid = c.look-found.new.pass in
    let l = c.args.list in let w = c.args.stop in let f = c.rows.first in let r = c.rows.row in
    let i = c.rows.invariant in let k = c.look-found.ensures in
    looked_gone old now mid l w f r c.look-found.result i.stop i.ahead k.kept k.rights k.did k.watched k.shows k.shown (c.if-found-state_word.false ∙ c.state_word.ensures)

pub returns-in-None-clause-steps : goal.returns-in-None-clause-steps
returns-in-None-clause-steps g c =
    let old = c.args.pass.now in let now = c.rows.pass in let mid = c.look-found.new.pass in
    let l = c.args.list in let w = c.args.stop in let f = c.rows.first in let r = c.rows.row in
    let i = c.rows.invariant in let k = c.look-found.ensures in
    c.in-None.ensures.goes old c.requires.stop (looked old now mid l w f r c.look-found.result i.stop i.ahead k.kept k.rights k.did k.watched k.shows k.shown)

pub rows-smaller : goal.rows-smaller
rows-smaller g c =
    let old = c.args.pass.now in let now = c.rows.pass in let mid = c.look-found.new.pass in
    let l = c.args.list in let w = c.args.stop in let f = c.rows.first in let r = c.rows.row in
    let i = c.rows.invariant in let k = c.look-found.ensures in
    let new = c.go_on.new.pass in let t = c.in-Some-go_on.ensures in
    let x = t.goes old c.requires.stop (looked old now mid l w f r c.look-found.result i.stop i.ahead k.kept k.rights k.did k.watched k.shows k.shown) in
    let later = t.later in
    let p0 = place_on now mid _ (look_tried old now mid l w f r c.look-found.result i.stop i.ahead k.kept k.rights k.did k.watched k.shows k.shown) r i.ahead.there.0 i.ahead.there.1 in
    let e = c.args.entries.now in
    let table = pass_of e now new i.table (kept_trans now mid new k.kept t.kept) in
    let low = (row_low e new l c.in-Some-go_on.next table x.there).1 in
    let less : e.shape.rows - place_at (state new) c.in-Some-go_on.next < e.shape.rows - place_at (state now) r = omega (arith, later, p0, low) in less

pub rows-preserved : goal.rows-preserved
rows-preserved g c =
    let old = c.args.pass.now in let now = c.rows.pass in let mid = c.look-found.new.pass in
    let l = c.args.list in let w = c.args.stop in let f = c.rows.first in let r = c.rows.row in
    let i = c.rows.invariant in let k = c.look-found.ensures in
    let new = c.go_on.new.pass in let t = c.in-Some-go_on.ensures in
    let x = t.goes old c.requires.stop (looked old now mid l w f r c.look-found.result i.stop i.ahead k.kept k.rights k.did k.watched k.shows k.shown) in
    let all = kept_trans now mid new k.kept t.kept in record {
      table = pass_of c.args.entries.now now new i.table all;
      kept = kept_trans old now new i.kept all;
      stop = stop_on old new x.added x.tries l w c.requires.stop;
      ahead = x;
    }
