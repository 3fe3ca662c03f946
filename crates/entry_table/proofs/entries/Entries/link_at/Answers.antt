use Rattle.std.proofs.Common.{[], ap, ◌∙◌, subst, arith}
use Rattle.atomic_table.specs.Table.{rest}
use Rattle.entry_table.specs.declared.view.Shape.{Shape}
use Rattle.entry_table.specs.Views.{state_in}
use Rattle.entry_table.specs.Plays.{Within}
use Rattle.entry_table.proofs.Joining.{node_low, link_ready, link_hit, link_miss, after_miss, after_went, told_link, same_cargo}
use Rattle.entry_table.proofs.entries.Entries.link_at.Goals as goal

pub link_word-found-requires-clause-place : goal.link_word-found-requires-clause-place
link_word-found-requires-clause-place g c =
    let e = c.args.self.now in
    let low = node_low e.shape (state_in c.args.seat.now.me.0) c.args.after (subst (λ (s : Shape). Within s (state_in c.args.seat.now.me.0)) c.requires.table.1 c.requires.within) c.requires.draft.linkable.known in
    let wide = e.wide in (omega (arith, low, wide), c.args.draft.low)

pub link_word-found-requires-clause-ready : goal.link_word-found-requires-clause-ready
link_word-found-requires-clause-ready g c =
    let t = c.put_in.ensures.told in
    link_ready g.C.Freight.goods c.args.seat.now.me.0 c.put_in.new.seat.me c.args.caller c.args.draft c.args.after t.0 c.requires.draft t.1 c.put_in.ensures.carried

pub take_out-cargo-requires-clause-caller : goal.take_out-cargo-requires-clause-caller
take_out-cargo-requires-clause-caller g c =
    let t = c.put_in.ensures.told in
    let x = (told_link g.C.Freight.goods c.args.seat.now.me.0 c.put_in.new.seat.me c.link_word-found.new.seat.me c.args.caller t.0 c.link_word-found.result c.args.draft c.args.after c.requires.draft t.1 c.put_in.ensures.carried c.link_word-found.ensures.told).1 c.if-found-eq0.false in
    (after_miss g.C.Freight.goods c.args.seat.now.me.0 c.put_in.new.seat.me c.link_word-found.new.seat.me c.args.caller c.link_word-found.result c.args.after c.args.draft t.0 c.requires.caller c.requires.draft t.1 c.put_in.ensures.carried x).callers

pub take_out-cargo-requires-clause-out : goal.take_out-cargo-requires-clause-out
take_out-cargo-requires-clause-out g c =
    let t = c.put_in.ensures.told in
    let x = (told_link g.C.Freight.goods c.args.seat.now.me.0 c.put_in.new.seat.me c.link_word-found.new.seat.me c.args.caller t.0 c.link_word-found.result c.args.draft c.args.after c.requires.draft t.1 c.put_in.ensures.carried c.link_word-found.ensures.told).1 c.if-found-eq0.false in
    let y = after_miss g.C.Freight.goods c.args.seat.now.me.0 c.put_in.new.seat.me c.link_word-found.new.seat.me c.args.caller c.link_word-found.result c.args.after c.args.draft t.0 c.requires.caller c.requires.draft t.1 c.put_in.ensures.carried x in
    ((c.args.draft.cargo, y.carried), y.out)

pub take_out-cargo-requires-clause-mine : goal.take_out-cargo-requires-clause-mine
take_out-cargo-requires-clause-mine g c =
    let t = c.put_in.ensures.told in
    let x = (told_link g.C.Freight.goods c.args.seat.now.me.0 c.put_in.new.seat.me c.link_word-found.new.seat.me c.args.caller t.0 c.link_word-found.result c.args.draft c.args.after c.requires.draft t.1 c.put_in.ensures.carried c.link_word-found.ensures.told).1 c.if-found-eq0.false in
    (after_miss g.C.Freight.goods c.args.seat.now.me.0 c.put_in.new.seat.me c.link_word-found.new.seat.me c.args.caller c.link_word-found.result c.args.after c.args.draft t.0 c.requires.caller c.requires.draft t.1 c.put_in.ensures.carried x).mine

pub returns-then-found-eq0-clause-table : goal.returns-then-found-eq0-clause-table
returns-then-found-eq0-clause-table g c =
    let t = c.put_in.ensures.told in
    let x = (told_link g.C.Freight.goods c.args.seat.now.me.0 c.put_in.new.seat.me c.link_word-found.new.seat.me c.args.caller t.0 c.link_word-found.result c.args.draft c.args.after c.requires.draft t.1 c.put_in.ensures.carried c.link_word-found.ensures.told).0 c.if-found-eq0.true in
    (c.link_word-found.ensures.table.0 ∙ c.put_in.ensures.table.0, c.link_word-found.ensures.table.1 ∙ c.put_in.ensures.table.1, x.0 ∙ ap rest c.put_in.ensures.carried)

pub returns-then-found-eq0-clause-answer : goal.returns-then-found-eq0-clause-answer
returns-then-found-eq0-clause-answer g c =
    let t = c.put_in.ensures.told in
    let d = c.requires.draft in
    let x = (told_link g.C.Freight.goods c.args.seat.now.me.0 c.put_in.new.seat.me c.link_word-found.new.seat.me c.args.caller t.0 c.link_word-found.result c.args.draft c.args.after d t.1 c.put_in.ensures.carried c.link_word-found.ensures.told).0 c.if-found-eq0.true in
    link_hit g.C.Freight.goods c.args.seat.now.me.0 c.put_in.new.seat.me.0 c.link_word-found.new.seat.me.0 c.args.draft c.args.after d.d t.0 c.requires.idle.1 d.drawing t.1 x.1

pub returns-then-found-eq0-clause-after : goal.returns-then-found-eq0-clause-after
returns-then-found-eq0-clause-after g c =
    let a = returns-then-found-eq0-clause-answer g c in
    after_went c.args.seat.now.me.0 c.link_word-found.new.seat.me.0 _ _ a.went a.view

pub returns-else-found-eq0-clause-answer : goal.returns-else-found-eq0-clause-answer
returns-else-found-eq0-clause-answer g c =
    let t = c.put_in.ensures.told in
    let x = (told_link g.C.Freight.goods c.args.seat.now.me.0 c.put_in.new.seat.me c.link_word-found.new.seat.me c.args.caller t.0 c.link_word-found.result c.args.draft c.args.after c.requires.draft t.1 c.put_in.ensures.carried c.link_word-found.ensures.told).1 c.if-found-eq0.false in
    let u = c.take_out-cargo.ensures.told in
    let y = after_miss g.C.Freight.goods c.args.seat.now.me.0 c.put_in.new.seat.me c.link_word-found.new.seat.me c.args.caller c.link_word-found.result c.args.after c.args.draft t.0 c.requires.caller c.requires.draft t.1 c.put_in.ensures.carried x in
    link_miss c.args.seat.now.me.0 c.put_in.new.seat.me.0 c.link_word-found.new.seat.me.0 c.take_out-cargo.new.seat.me.0 c.args.draft c.take_out-cargo.result c.args.after t.0 c.link_word-found.result u.0 c.requires.idle.1 c.if-found-eq0.false
    (same_cargo c.args.draft.cargo c.take_out-cargo.result c.args.draft.row c.link_word-found.new.seat.me.1 y.carried c.take_out-cargo.ensures.carried.0) t.1 x.1 x.2 x.3 u.1

pub returns-else-found-eq0-clause-after : goal.returns-else-found-eq0-clause-after
returns-else-found-eq0-clause-after g c =
    let a = returns-else-found-eq0-clause-answer g c in
    after_went c.args.seat.now.me.0 c.take_out-cargo.new.seat.me.0 [] _ a.went a.view
