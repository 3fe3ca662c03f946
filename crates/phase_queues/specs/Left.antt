-- what the queues of a phase hand on to the next phase, as entries
use Rattle.std.specs.Prelude.{◌≡◌, ℕ, Bool, not, filter, Option, Some, None, List, [], ◌∷◌, length, map, slice_get, Vec}
use Rattle.std.specs.declared.alloc.Global.{Global}
use Rattle.std.specs.List.{AllByRecursion, count_by}
use Rattle.queue_model.specs.declared.rows.Row.{Row}
use Rattle.queue_model.specs.declared.rows.RowState.TheVariants.{Available}
use Rattle.queue_model.specs.declared.rows.Slip.{Slip}
use Rattle.acts_core.specs.declared.cargoes.RestEntry.{RestEntry}
use Rattle.report_core.specs.declared.answers.Resting.{Resting}
use Rattle.txn_core.specs.declared.parcels.Parcel.{Parcel}
use Rattle.txn_core.specs.Parcels.{load_of, shown}
use Rattle.defs_read.specs.Defined.{Defined}
use Rattle.defs_read.specs.Slips.{lists_of}
use Rattle.any_queue.specs.Parting.{MayStart, StartsApart, kind_of}
use Rattle.account_core.specs.Carry.{place_alone}
use Rattle.account_core.specs.Texts.{holder_of}

-- the entries that were left of a queue, as code has them
abbrev pub Remains : Type 0
Remains = Vec (RestEntry Parcel) Global

-- those of some entries that are not outdated
abbrev pub lasting_in : List (RestEntry Parcel) → List (RestEntry Parcel)
lasting_in es = filter (λ e. not e.outdated) es

-- An entry that was left, as the row with which its queue goes on: it is available and has no number yet, and of where
-- it came from the place of its body stays.
abbrev pub row_left : RestEntry Parcel → Row
row_left e = record {
  number = 0;
  slip = e.slip;
  state = Available;
  content = (load_of e.cargo).content;
  origin = place_alone (load_of e.cargo).origin;
  count = (load_of e.cargo).count;
}

-- and all that were left, list for list
abbrev pub rows_left : List Remains → List (List Row)
rows_left lefts = map (λ es. map row_left es.items) lefts

-- an entry that was left may stand in a queue of this definition: its slip fits, a queue of lists has no keys, and the
-- cargo agrees
abbrev pub MayStay : Defined → RestEntry Parcel → Type 0
MayStay def e = MayStart load_of (kind_of def.kind) (lists_of def.kind) (length def.consumers) e.slip e.cargo

-- the entries with their slips alone
abbrev pub goods_left : List (RestEntry Parcel) → List (Slip × Parcel)
goods_left es = map (λ e. (e.slip, e.cargo)) es

-- with these entries a queue of this definition may go on: each may stand there, and on a last-value queue no two have
-- one key
pub record MayGoOn (def : Defined) (es : List (RestEntry Parcel)) : Type 0 where
  pub each : AllByRecursion (MayStay def) es
  pub apart : StartsApart (kind_of def.kind) (goods_left es)

-- and all that were left, list for list
abbrev pub AllMayStay : List Defined → List Remains → Type 0
AllMayStay [] [] = Unit {0}
AllMayStay (def ∷ defs) (es ∷ lefts) = MayGoOn def es.items × AllMayStay defs lefts
AllMayStay defs lefts = ⊥

-- the entries that were left of queue q; none where there is no such queue
abbrev pub items_of : Option Remains → List (RestEntry Parcel)
items_of None = []
items_of (Some es) = es.items

abbrev pub left_in : ℕ → List Remains → List (RestEntry Parcel)
left_in q lefts = items_of (slice_get lefts q)

-- how many they are
abbrev pub many_left : ℕ → List Remains → ℕ
many_left q lefts = length (left_in q lefts)

-- how many of them have an id that passes
abbrev pub ids_left : ℕ → (ℕ → Bool) → List Remains → ℕ
ids_left q p lefts = count_by (λ e. p e.slip.id) (left_in q lefts)

-- the parcels go on as they were, but for their receipts
abbrev pub AreCarried : List (RestEntry Parcel) → List (Slip × Parcel) → Type 0
AreCarried [] [] = Unit {0}
AreCarried (e ∷ es) (s ∷ start) =
    (s.0 ≡ e.slip) × (shown s.1 ≡ record (shown e.cargo) { receipt = None }) × AreCarried es start
AreCarried es start = ⊥

-- what is told of an entry that is left
abbrev pub resting_left : RestEntry Parcel → Resting
resting_left e = record { id = e.slip.id; size = e.slip.size; holder = holder_of e.state }
