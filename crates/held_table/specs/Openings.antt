-- the opening that a one-thread queue of available rows stands for
use Rattle.std.specs.Prelude.{◌≡◌, ℕ, suc, ◌+◌, ◌-◌, Option, Some, None, List, [], ◌∷◌, length}
use Rattle.queue_model.specs.declared.queues.Queue.{Queue}
use Rattle.queue_model.specs.declared.rows.Row.{Row}
use Rattle.queue_model.specs.Sound.{IsOpening}
use Rattle.queue_model.specs.Table.{most_entries}
use Rattle.acts_core.specs.Kept.{Kept, KeptRow, Goods, Stands}
use Rattle.held_table.specs.declared.view.Outset.{Outset}
use Rattle.held_table.specs.Tales.{wide}

-- what goes with a cargo, and nothing where it is out
abbrev pub goods_or : Option Goods → Goods
goods_or None = record { content = []; origin = []; count = 0 }
goods_or (Some g) = g

-- the row of this number
abbrev pub row_from : ℕ → KeptRow → Row
row_from n k = record {
  number = n;
  slip = k.slip;
  state = k.state;
  content = (goods_or k.goods).content;
  origin = (goods_or k.goods).origin;
  count = (goods_or k.goods).count;
}

-- the rows, numbered in turn from n
abbrev pub rows_from : ℕ → List KeptRow → List Row
rows_from n [] = []
rows_from n (k ∷ ks) = row_from n k ∷ rows_from (suc n) ks

-- a queue of n consumers with what is kept as its rows
abbrev pub open_of : ℕ → Kept → Queue
open_of n k = record { lists = 1; consumers = n; rows = rows_from 0 k.rows; reserved = []; bells = [] }

-- how a held queue of n consumers begins with this one-thread queue
abbrev pub outset_of : ℕ → Kept → Outset
outset_of n k = record { opening = open_of n k; rows = k.spare + length k.rows }

-- how many entries may be reserved at the beginning
abbrev pub allowance_of : Kept → ℕ
allowance_of k = most_entries - length k.rows

-- The one-thread queue stands for an opening of n consumers: no row has a mask bit past them.
pub record Opens (n : ℕ) (k : Kept) (o : Queue) : Type 0 where
  pub opening : IsOpening o
  pub lists : o.lists ≡ 1
  pub consumers : o.consumers ≡ n
  pub stands : Stands k (wide o)
