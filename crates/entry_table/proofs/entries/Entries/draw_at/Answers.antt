use Rattle.std.proofs.Common.{◌∙◌, ℕ, sym, subst}
use Rattle.entry_table.specs.Plays.{DidDraw, Seeks}
use Rattle.entry_table.proofs.Seeking.{seeks_more, seeks_end}
use Rattle.entry_table.proofs.entries.Entries.draw_at.Goals as goal

pub returns-then-found-row-clause-drew : goal.returns-then-found-row-clause-drew
returns-then-found-row-clause-drew g c =
    let v = c.args.seat.now.me.0 in
    let u = c.tries.seat.me.0 in
    let w = c.draw_word-found.new.seat.me.0 in
    let hit = c.if-found-row.true in
    let d = c.draw_word-found.ensures.told.0 hit in
    subst (λ (k : ℕ). DidDraw v w k) hit (seeks_end v u w c.draw_word-found.result (subst (λ (k : ℕ). Seeks v u k) (sym hit) c.tries.invariant.seeks) d.1 d.2)

pub tries-preserved : goal.tries-preserved
tries-preserved g c =
    let i = c.tries.invariant in
    let d = c.draw_word-found.ensures in
    let l = d.told.1 c.if-found-row.false in record {
      table = d.table.0 ∙ i.table;
      id = d.table.1 ∙ i.id;
      carried = l.0 ∙ i.carried;
      seeks = seeks_more c.args.seat.now.me.0 c.tries.seat.me.0 c.draw_word-found.new.seat.me.0 c.tries.row c.draw_word-found.result i.seeks c.if-found-row.false l.1 l.3;
    }
