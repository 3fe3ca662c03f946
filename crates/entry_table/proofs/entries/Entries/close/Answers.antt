use Rattle.queue_model.specs.Sound.{RowFits}
use Rattle.queue_model.specs.State.{is_row}
use Rattle.queue_model.proofs.KeyedLemmas.{all-find}
use Rattle.entry_table.specs.Passes.{state}
use Rattle.entry_table.proofs.Remaining.{remains}
use Rattle.entry_table.proofs.entries.Entries.close.Goals as goal

pub returns-clause-rest : goal.returns-clause-rest
returns-clause-rest g c =
    let q = state c.args.boss in
    let sound = c.args.boss.within.sound in
    remains g.C.Freight.goods q q.lists c.gathered.result.items sound.rows_apart
    (λ x found. (all-find (RowFits q.lists q.consumers) (is_row x.number) q.rows x sound.rows_fit found).list) c.gathered.ensures.rest
