use Rattle.std.proofs.Common.{◌≡◌, ◌≢◌, ◌+◌, ◌-◌, ◌<◌, ℕ, suc, sym, ap, ◌∙◌, subst, arith}
use Rattle.queue_model.specs.declared.steps.Node.{Node}
use Rattle.queue_model.specs.State.{place_at}
use Rattle.acts_core.specs.Walks.{node_at}
use Rattle.entry_table.specs.Passes.{state, view}
use Rattle.entry_table.specs.Skips.{Moves, Unlinkable}
use Rattle.entry_table.proofs.Later.{kept_same, kept_trans, pass_of}
use Rattle.scavenge_core.proofs.Stepping.{unmoved, unlinkable, exchanged, moved_then, shown_some, shown_named, at_last, at_beyond, may_again, nearer, row_low}
use Rattle.scavenge_core.proofs.Lasting.{row_on}
use Rattle.scavenge_core.proofs.skips.move_on.Goals as goal

pub tries-init : goal.tries-init
tries-init g c = record {
  table = c.requires.table;
  kept = kept_same c.args.pass.now;
  moved = unmoved c.args.pass.now c.args.list c.args.stop c.args.first c.args.row c.requires.legal c.requires.may;
  may = c.requires.may;
}

pub move_link-found-requires-clause-unlinkable : goal.move_link-found-requires-clause-unlinkable
move_link-found-requires-clause-unlinkable g c =
    subst (λ (z : Node). Unlinkable (state c.tries.pass) z c.tries.from c.args.row) (sym c.node_of.ensures)
    (unlinkable c.tries.pass c.tries.pass c.args.list c.args.stop c.tries.from c.args.row 0 c.tries.invariant.may c.tries-test.true)

pub overflow_add-from : goal.overflow_add-from
overflow_add-from g c =
    let e = c.args.entries.now in
    let low = (row_low e c.tries.pass c.args.list c.tries.from c.tries.invariant.table c.tries.invariant.may.from).0 in
    let rows = e.rows in record { fits = omega (arith, low, rows) }

pub returns-then-found-from-clause-moved : goal.returns-then-found-from-clause-moved
returns-then-found-from-clause-moved g c =
    let now = c.tries.pass in let mid = c.move_link-found.new.pass in
    let k = c.move_link-found.ensures in
    let hit : c.move_link-found.result ≡ suc c.tries.from = (let is = c.if-found-from.true in omega (arith, is)) in
    let moves = subst (λ (z : Node). Moves (view now) (view mid) z c.tries.from c.args.row c.move_link-found.result) c.node_of.ensures k.moves in
    moved_then c.args.pass.now now mid c.args.list c.args.stop c.args.first c.tries.from c.args.row c.args.row c.requires.may.from c.tries.invariant.moved
    (exchanged now mid c.args.list c.args.stop c.tries.from c.args.row c.move_link-found.result c.tries.invariant.may c.tries-test.true k.kept k.rights k.did moves hit)

pub overflow_sub-named : goal.overflow_sub-named
overflow_sub-named g c =
    let now = c.tries.pass in let mid = c.move_link-found.new.pass in
    let k = c.move_link-found.ensures in
    let moves = subst (λ (z : Node). Moves (view now) (view mid) z c.tries.from c.args.row c.move_link-found.result) c.node_of.ensures k.moves in
    shown_some now mid c.args.list c.args.stop c.tries.from c.args.row c.move_link-found.result c.tries.invariant.may c.tries-test.true k.kept k.rights k.did moves (λ e. c.if-found-from.false (omega (arith, e)))

pub place_of-there-requires-clause-known : goal.place_of-there-requires-clause-known
place_of-there-requires-clause-known g c =
    let now = c.tries.pass in let mid = c.move_link-found.new.pass in
    let k = c.move_link-found.ensures in
    let moves = subst (λ (z : Node). Moves (view now) (view mid) z c.tries.from c.args.row c.move_link-found.result) c.node_of.ensures k.moves in
    let m = shown_named now mid c.args.list c.args.stop c.tries.from c.args.row c.move_link-found.result c.tries.invariant.may c.tries-test.true k.kept k.rights k.did moves (λ e. c.if-found-from.false (omega (arith, e))) in
    (m.there.0, m.there.1)

pub place_of-requires-clause-known : goal.place_of-requires-clause-known
place_of-requires-clause-known g c =
    let now = c.tries.pass in let mid = c.move_link-found.new.pass in let p = c.place_of-there.new.pass in
    let k = c.move_link-found.ensures in
    let moves = subst (λ (z : Node). Moves (view now) (view mid) z c.tries.from c.args.row c.move_link-found.result) c.node_of.ensures k.moves in
    let m = shown_named now mid c.args.list c.args.stop c.tries.from c.args.row c.move_link-found.result c.tries.invariant.may c.tries-test.true k.kept k.rights k.did moves (λ e. c.if-found-from.false (omega (arith, e))) in
    let there = row_on mid p _ c.place_of-there.ensures.knows.tries c.args.list c.args.row (row_on now mid m.added m.tries c.args.list c.args.row c.tries.invariant.may.to) in
    (there.0, there.1)

pub returns-then-there-place_of-clause-moved : goal.returns-then-there-place_of-clause-moved
returns-then-there-place_of-clause-moved g c =
    let now = c.tries.pass in let mid = c.move_link-found.new.pass in let p = c.place_of-there.new.pass in let q = c.place_of.new.pass in
    let k = c.move_link-found.ensures in
    let moves = subst (λ (z : Node). Moves (view now) (view mid) z c.tries.from c.args.row c.move_link-found.result) c.node_of.ensures k.moves in
    let miss : c.move_link-found.result ≢ suc c.tries.from = λ e. c.if-found-from.false (omega (arith, e)) in
    let far = c.if-there-place_of.true in
    at_beyond c.args.pass.now now mid p q c.args.list c.args.stop c.args.first c.tries.from c.args.row c.move_link-found.result c.place_of-there.result c.place_of.result c.requires.may.from c.requires.may.stop c.tries.invariant.moved c.tries.invariant.may c.tries-test.true k.kept k.rights k.did moves miss c.place_of-there.ensures.knows c.place_of.ensures.knows (omega (arith, far))

pub tries-smaller : goal.tries-smaller
tries-smaller g c =
    let now = c.tries.pass in let mid = c.move_link-found.new.pass in let p = c.place_of-there.new.pass in let q = c.place_of.new.pass in
    let k = c.move_link-found.ensures in
    let moves = subst (λ (z : Node). Moves (view now) (view mid) z c.tries.from c.args.row c.move_link-found.result) c.node_of.ensures k.moves in
    let miss : c.move_link-found.result ≢ suc c.tries.from = λ e. c.if-found-from.false (omega (arith, e)) in
    nearer c.args.pass.now now mid p q c.args.list c.args.stop c.args.first c.tries.from c.args.row c.move_link-found.result c.place_of-there.result c.place_of.result c.requires.may.from c.requires.may.stop c.tries.invariant.moved c.tries.invariant.may c.tries-test.true k.kept k.rights k.did moves miss c.place_of-there.ensures.knows c.place_of.ensures.knows

pub tries-preserved : goal.tries-preserved
tries-preserved g c =
    let now = c.tries.pass in let mid = c.move_link-found.new.pass in let p = c.place_of-there.new.pass in let q = c.place_of.new.pass in
    let k = c.move_link-found.ensures in
    let moves = subst (λ (z : Node). Moves (view now) (view mid) z c.tries.from c.args.row c.move_link-found.result) c.node_of.ensures k.moves in
    let miss : c.move_link-found.result ≢ suc c.tries.from = λ e. c.if-found-from.false (omega (arith, e)) in
    let near = c.if-there-place_of.false in
    let all = kept_trans now p q (kept_trans now mid p k.kept c.place_of-there.ensures.kept) c.place_of.ensures.kept in record {
      table = pass_of c.args.entries.now now q c.tries.invariant.table all;
      kept = kept_trans c.args.pass.now now q c.tries.invariant.kept all;
      moved = at_last c.args.pass.now now mid p q c.args.list c.args.stop c.args.first c.tries.from c.args.row c.move_link-found.result c.place_of-there.result c.place_of.result c.requires.may.from c.requires.may.stop c.tries.invariant.moved c.tries.invariant.may c.tries-test.true k.kept k.rights k.did moves miss c.place_of-there.ensures.knows c.place_of.ensures.knows;
      may = may_again c.args.pass.now now mid p q c.args.list c.args.stop c.args.first c.tries.from c.args.row c.move_link-found.result c.place_of-there.result c.place_of.result c.requires.may.from c.requires.may.stop c.tries.invariant.moved c.tries.invariant.may c.tries-test.true k.kept k.rights k.did moves miss c.place_of-there.ensures.knows c.place_of.ensures.knows (omega (arith, near));
    }
