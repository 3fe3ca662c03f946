-- the entries with which the queues of a first phase open
use Rattle.std.specs.Prelude.{◌≡◌, ℕ, false, None, Some, List, [], ◌∷◌, length, slice_get, Vec}
use Rattle.std.specs.declared.alloc.Global.{Global}
use Rattle.queue_model.specs.declared.rows.RowState.TheVariants.{Available}
use Rattle.queue_model.specs.Table.{FitsQueue}
use Rattle.acts_core.specs.declared.cargoes.RestEntry.{RestEntry}
use Rattle.txn_core.specs.declared.parcels.Parcel.{Parcel}
use Rattle.txn_core.specs.Parcels.{shown}
use Rattle.txn_core.specs.Shown.{fresh}
use Rattle.defs_read.specs.Defined.{Defined}
use Rattle.defs_read.specs.Slips.{HasNoKey, IsSlip, lists_of}
use Rattle.recover_core.specs.declared.kept.Kept.{Kept}
use Rattle.resume_core.specs.Live.{live_in}
use Rattle.resume_core.specs.Keeping.{giving_way, staying}

-- A live entry as one of a queue of this definition: its slip is that of its message in the queue; nobody has it; and its
-- parcel is the whole message, which was never delivered, with the place of its body and no receipt.
pub record IsResumed (def : Defined) (k : Kept) (e : RestEntry Parcel) : Type 0 where
  pub slip : IsSlip def k.message e.slip
  pub fits : FitsQueue (lists_of def.kind) (length def.consumers) e.slip
  pub key : HasNoKey def.kind e.slip.key
  pub state : e.state ≡ Available
  pub last : e.outdated ≡ false
  pub parcel : shown e.cargo ≡ fresh k.message None k.body_at

-- and so of each, one by one
abbrev pub AreResumed : Defined → List Kept → List (RestEntry Parcel) → Type 0
AreResumed def [] [] = Unit {0}
AreResumed def (k ∷ ks) (e ∷ es) = IsResumed def k e × AreResumed def ks es
AreResumed def ks es = ⊥

-- what each queue goes on with
abbrev pub Remains : Type 0
Remains = List (Vec (RestEntry Parcel) Global)

-- For each queue, in the order of definition: the live entries with which it goes on, in their order, and those that give
-- way to a later one.
pub record Resumes (defs : List Defined) (live : List Kept) (left : Remains) (outdated : List (Vec Kept Global)) : Type 0 where
  pub as_many : length left ≡ length defs
  pub others : length outdated ≡ length defs
  pub entries : (q : ℕ) (def : Defined) (es : Vec (RestEntry Parcel) Global)
      → slice_get defs q ≡ Some def → slice_get left q ≡ Some es
      → AreResumed def (staying def.kind (live_in defs q live)) es.items
  pub gone : (q : ℕ) (def : Defined) (ks : Vec Kept Global)
      → slice_get defs q ≡ Some def → slice_get outdated q ≡ Some ks
      → ks.items ≡ giving_way def.kind (live_in defs q live)
