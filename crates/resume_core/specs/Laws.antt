-- the statements of the laws, each proved as the contract of a function in src/laws.rt
use Rattle.std.specs.Prelude.{◌≡◌, ℕ, ◌+◌, ◌≤◌, ◌==◌, None, Some, List, [], ◌∷◌, length, slice_get, Vec}
use Rattle.std.specs.declared.alloc.Global.{Global}
use Rattle.std.specs.List.{AllByRecursion, count_by}
use Rattle.queue_model.specs.Table.{FitsQueue, most_entries}
use Rattle.message_core.specs.Spelling.{Content, content}
use Rattle.acts_core.specs.declared.cargoes.RestEntry.{RestEntry}
use Rattle.txn_core.specs.declared.parcels.Parcel.{Parcel}
use Rattle.txn_core.specs.Parcels.{load_of}
use Rattle.txn_core.specs.Shown.{fresh, load}
use Rattle.defs_read.specs.Defined.{Defined}
use Rattle.defs_read.specs.Slips.{HasNoKey, lists_of}
use Rattle.defs_read.specs.declared.defs.QueueKind.TheVariants.{LastValue}
use Rattle.script_read.specs.Scripts.{is_put_of}
use Rattle.script_read.specs.declared.lines.Op.{Op}
use Rattle.recover_core.specs.declared.kept.Kept.{Kept}
use Rattle.resume_core.specs.Faults.{fault_of}
use Rattle.resume_core.specs.Keeping.{is_key}
use Rattle.resume_core.specs.Lines.{all_puts}
use Rattle.resume_core.specs.Live.{live_in}
use Rattle.resume_core.specs.Resumed.{Remains, Resumes}
use Rattle.resume_core.specs.Resuming.{CanResume, PutsOnce}

-- where there is no cause, and the script puts no id twice to a queue, it may go on from the live entries
abbrev pub ResumesWithoutCause : Type 0
ResumesWithoutCause =
    (defs : List Defined) (live : List Kept) (ops : List Op)
    → fault_of defs live ops ≡ None → PutsOnce ops → CanResume defs live ops

-- no id is twice in a queue, among the entries with which it opens and what is put there
abbrev pub IdsOnce : Type 0
IdsOnce =
    (defs : List Defined) (live : List Kept) (ops : List Op) (left : Remains) (outdated : List (Vec Kept Global))
    → CanResume defs live ops → Resumes defs live left outdated
    → (q id : ℕ) (es : Vec (RestEntry Parcel) Global) → slice_get left q ≡ Some es
    → count_by (λ e. e.slip.id == id) es.items + count_by (λ op. is_put_of q id op.what) ops ≤ 1

-- each queue has room for the entries with which it opens and for all that the script puts
abbrev pub FewEntries : Type 0
FewEntries =
    (defs : List Defined) (live : List Kept) (ops : List Op) (left : Remains) (outdated : List (Vec Kept Global))
    → CanResume defs live ops → Resumes defs live left outdated
    → (q : ℕ) (es : Vec (RestEntry Parcel) Global) → slice_get left q ≡ Some es
    → length es.items + all_puts ops ≤ most_entries

-- an entry may stand in a queue of this definition: its slip fits, it has a key only where the queue goes by one, and the
-- cargo agrees with it
pub record MayStand (def : Defined) (e : RestEntry Parcel) : Type 0 where
  pub fits : FitsQueue (lists_of def.kind) (length def.consumers) e.slip
  pub key : HasNoKey def.kind e.slip.key
  pub id : (load_of e.cargo).id ≡ e.slip.id
  pub size : (load_of e.cargo).size ≡ e.slip.size

-- each entry may stand in its queue
abbrev pub EntriesStand : Type 0
EntriesStand =
    (defs : List Defined) (live : List Kept) (left : Remains) (outdated : List (Vec Kept Global))
    → Resumes defs live left outdated
    → (q : ℕ) (def : Defined) (es : Vec (RestEntry Parcel) Global)
    → slice_get defs q ≡ Some def → slice_get left q ≡ Some es → AllByRecursion (MayStand def) es.items

-- no key is twice in a last-value queue
abbrev pub KeysOnce : Type 0
KeysOnce =
    (defs : List Defined) (live : List Kept) (left : Remains) (outdated : List (Vec Kept Global))
    → Resumes defs live left outdated
    → (q : ℕ) (def : Defined) (name : List ℕ) (es : Vec (RestEntry Parcel) Global)
    → slice_get defs q ≡ Some def → def.kind ≡ LastValue name → slice_get left q ≡ Some es
    → (text : List ℕ) → count_by (λ e. is_key text e.slip.key) es.items ≤ 1

-- those that stay and those that give way are the live entries of the queue, as many in all
abbrev pub NoneIsLost : Type 0
NoneIsLost =
    (defs : List Defined) (live : List Kept) (left : Remains) (outdated : List (Vec Kept Global))
    → Resumes defs live left outdated
    → (q : ℕ) (def : Defined) (es : Vec (RestEntry Parcel) Global) (ks : Vec Kept Global)
    → slice_get defs q ≡ Some def → slice_get left q ≡ Some es → slice_get outdated q ≡ Some ks
    → length es.items + length ks.items ≡ length (live_in defs q live)

-- a recovered entry has as its content the bytes of its message, the count 0, and the place of its body alone as its origin
abbrev pub RecoveredLoad : Type 0
RecoveredLoad =
    (m : Content) (at : ℕ)
    → load (fresh m None at)
    ≡ record { id = m.id; size = length (content m); count = 0; content = content m; origin = at ∷ [] }
