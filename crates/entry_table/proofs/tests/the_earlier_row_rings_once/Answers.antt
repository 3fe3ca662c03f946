use Rattle.std.proofs.Common.{sym, ◌∙◌, subst, ℕ, [], ◌∷◌}
use mathlib.Core.List.{Mem, mem-cons_of_mem, mem-cons_self}
use Rattle.entry_table.proofs.tests.the_earlier_row_rings_once.Goals as goal

first : Mem {A = ℕ} 0 (0 ∷ 1 ∷ [])
first = mem-cons_self

second : Mem {A = ℕ} 1 (0 ∷ 1 ∷ [])
second = mem-cons_of_mem 0 mem-cons_self

pub take_bell-requires-clause-consumer : goal.take_bell-requires-clause-consumer
take_bell-requires-clause-consumer g c = subst (Mem {A = ℕ} 1) (sym c.in_ok-entries.ensures.served) second

pub rung_twice-requires-clause-mine : goal.rung_twice-requires-clause-mine
rung_twice-requires-clause-mine g c = subst (Mem {A = ℕ} 1) (sym (c.take_bell.ensures.kept.consumers ∙ c.in_ok-entries.ensures.served)) second

pub take_bell-requires-2-clause-consumer : goal.take_bell-requires-2-clause-consumer
take_bell-requires-2-clause-consumer g c = subst (Mem {A = ℕ} 1) (sym (c.rung_twice.ensures.kept.consumers ∙ c.take_bell.ensures.kept.consumers ∙ c.in_ok-entries.ensures.served)) second

pub take_bell-requires-3-clause-consumer : goal.take_bell-requires-3-clause-consumer
take_bell-requires-3-clause-consumer g c =
    subst (Mem {A = ℕ} 0) (sym (c.take_bell-2.ensures.kept.consumers ∙ c.rung_twice.ensures.kept.consumers ∙ c.take_bell.ensures.kept.consumers ∙ c.in_ok-entries.ensures.served)) first
