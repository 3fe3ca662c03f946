use Rattle.link_core.proofs.Making.{fresh_table}
use Rattle.link_core.proofs.store.Store.fresh.Goals as goal

pub returns-clause-table : goal.returns-clause-table
returns-clause-table c =
    fresh_table _ _ _ _ _ _ _ _ c.in_ok-fresh_words.ensures c.in_ok-no_drawers.ensures (c.in_ok-vec.ensures.items_if_clones_equal (λ y e. e)) (c.in_ok-vec-2.ensures.items_if_clones_equal (λ y e. e))
