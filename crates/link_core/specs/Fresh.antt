-- the words of a table in which nothing has happened
use Rattle.std.specs.Prelude.{ℕ, suc, zero, None, List, [], ◌∷◌, ◌++◌, replicate}
use Rattle.queue_model.specs.State.{nothing}
use Rattle.queue_model.specs.Packing.{no_bell}
use Rattle.link_core.specs.Table.{Table}

-- the words of so many rows that nobody drew: the state word of each is that of an available row
abbrev pub blank_rows : ℕ → List ℕ
blank_rows zero = []
blank_rows (suc n) = 0 ∷ 1 ∷ 0 ∷ 0 ∷ 0 ∷ 0 ∷ 0 ∷ blank_rows n

-- the words of so many lists that have no row: their links, tails, marks and counts are 0, and no bell is rung
abbrev pub empty_lists : ℕ → List ℕ
empty_lists zero = []
empty_lists (suc n) = (0 ∷ 0 ∷ 0 ∷ 0 ∷ replicate 64 no_bell) ++ empty_lists n

-- all words of a table of so many callers, rows and lists
abbrev pub fresh_words : ℕ → ℕ → ℕ → List ℕ
fresh_words callers rows lists = 0 ∷ callers ∷ 0 ∷ blank_rows rows ++ empty_lists lists

-- a table of so many lists, rows, consumers and callers, in which nothing has happened
abbrev pub fresh : ℕ → ℕ → ℕ → ℕ → Table
fresh lists rows consumers callers = record { rows = rows; lists = lists; consumers = consumers; callers = callers; words = fresh_words callers rows lists; drawer = λ r. None; reserved = nothing }
