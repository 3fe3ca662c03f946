use Rattle.std.proofs.Common.{ap, ◌∙◌}
use Rattle.entry_table.specs.Views.{caller_of}
use Rattle.entry_table.proofs.Bringing.{holds_mine, home_ready, home_brought, after_brought}
use Rattle.entry_table.proofs.entries.Entries.bring_at.Goals as goal

pub put_in-requires-clause-mine : goal.put_in-requires-clause-mine
put_in-requires-clause-mine g c = holds_mine c.args.seat.now.me.0 c.args.caller c.args.row (g.C.Freight.goods c.args.cargo) (ap caller_of c.requires.caller.0) c.requires.holding

pub bring_word-requires-clause-ready : goal.bring_word-requires-clause-ready
bring_word-requires-clause-ready g c = let t = c.put_in.ensures.told in home_ready g.C.Freight.goods c.args.seat.now.me.0 c.put_in.new.seat.me c.args.caller c.args.row t.0 c.args.cargo c.requires.holding t.1 c.put_in.ensures.carried

pub returns-clause-table : goal.returns-clause-table
returns-clause-table g c =
    let t = c.put_in.ensures.told in
    let b = home_brought g.C.Freight.goods c.args.seat.now.me.0 c.put_in.new.seat.me c.bring_word.new.seat.me c.args.row t.0 c.bring_word.result c.args.change c.args.cargo t.1 c.put_in.ensures.carried c.bring_word.ensures.told in
    (c.bring_word.ensures.table.0 ∙ c.put_in.ensures.table.0, c.bring_word.ensures.table.1 ∙ c.put_in.ensures.table.1, b.0)

pub returns-clause-brought : goal.returns-clause-brought
returns-clause-brought g c =
    let t = c.put_in.ensures.told in
    (home_brought g.C.Freight.goods c.args.seat.now.me.0 c.put_in.new.seat.me c.bring_word.new.seat.me c.args.row t.0 c.bring_word.result c.args.change c.args.cargo t.1 c.put_in.ensures.carried c.bring_word.ensures.told).1

pub returns-clause-after : goal.returns-clause-after
returns-clause-after g c = after_brought c.args.seat.now.me.0 c.bring_word.new.seat.me.0 c.args.row _ c.args.change c.requires.idle.1 (returns-clause-brought g c)
