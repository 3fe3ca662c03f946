-- rows that a queue starts with
use Rattle.std.specs.Prelude.{◌≡◌, ℕ, ◌+◌, List, [], ◌∷◌, map, length, sum_by}
use Rattle.queue_model.specs.declared.queues.Queue.{Queue}
use Rattle.queue_model.specs.declared.rows.Slip.{Slip}
use Rattle.queue_model.specs.Sound.{IsOpening}
use Rattle.queue_model.specs.Table.{FitsQueue}
use Rattle.acts_core.specs.Kept.{Kept, KeptRow, Stands}
use Rattle.acts_core.specs.Load.{Load}
use Rattle.kept_rows.specs.Rows.{new_row}

-- nothing is kept, and there is no room
abbrev pub nothing_kept : Kept
nothing_kept = record { spare = 0; depth = record { entries = 0; bytes = 0 }; rows = [] }

-- nothing is kept, and there is room for so many rows
abbrev pub room_for : ℕ → Kept
room_for n = record nothing_kept { spare = n }

module _ {C : Type 0} (load : C → Load) where
  -- a queue may start with this entry: its slip fits one of one list and 64 consumers, and the cargo agrees with it
  pub record MayStart (slip : Slip) (c : C) : Type 0 where
    pub fits : FitsQueue 1 64 slip
    pub id : (load c).id ≡ slip.id
    pub size : (load c).size ≡ slip.size

  abbrev pub AllMayStart : List (Slip × C) → Type 0
  AllMayStart [] = Unit {0}
  AllMayStart (e ∷ es) = MayStart e.0 e.1 × AllMayStart es

  -- the rows of these entries, in their order
  abbrev pub started : List (Slip × C) → List KeptRow
  started es = map (λ e. new_row e.0 (load e.1)) es

  -- these entries are the rows, all available, and they make up the depth
  pub record IsEntered (es : List (Slip × C)) (k : Kept) : Type 0 where
    pub rows : k.rows ≡ started es
    pub entries : k.depth.entries ≡ length es
    pub bytes : k.depth.bytes ≡ sum_by (λ e. e.0.size) es

  -- A queue was made with these entries: they are its rows, it has no spare, and it stands for an opening.
  pub record IsMade (es : List (Slip × C)) (k : Kept) : Type 0 where
    pub entered : IsEntered es k
    pub spare : k.spare ≡ 0
    pub opens : (q : Queue) × IsOpening q × Stands k q
