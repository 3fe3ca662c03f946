-- what was found of live entries so far
use Rattle.std.specs.Prelude.{◌≡◌, ℕ, Bool, false, Some, List, length, reverse, slice_get, Vec}
use Rattle.std.specs.declared.alloc.Global.{Global}
use Rattle.std.specs.BTreeSet.{BTreeSet, contains}
use Rattle.std.specs.List.{list_any}
use Rattle.std.specs.Str.{bytes_eq}
use Rattle.acts_core.specs.declared.cargoes.RestEntry.{RestEntry}
use Rattle.txn_core.specs.declared.parcels.Parcel.{Parcel}
use Rattle.defs_read.specs.Defined.{Defined}
use Rattle.defs_read.specs.declared.defs.QueueKind.{QueueKind}
use Rattle.defs_read.specs.declared.defs.QueueKind.TheVariants.{Standard, Priority, Sorted, LastValue}
use Rattle.script_read.specs.SoFar.{put_cmp}
use Rattle.script_read.specs.declared.lines.What.{What}
use Rattle.script_read.specs.declared.lines.What.TheVariants.{Put}
use Rattle.recover_core.specs.declared.kept.Kept.{Kept}
use Rattle.resume_core.specs.Keeping.{giving_way, has_key, staying}
use Rattle.resume_core.specs.Live.{live_in, lives_as}
use Rattle.resume_core.specs.Resumed.{AreResumed, Remains}

-- Keys

-- the set has the queue and the id of each of these live entries, and no others
abbrev pub HasKeys : List Defined → List Kept → BTreeSet (ℕ × ℕ) → Type 0
HasKeys defs ks keys = (q id : ℕ) → contains put_cmp keys (q, id) ≡ list_any (lives_as defs q id) ks

-- the line puts a message whose queue and id are in the set
abbrev pub puts_key : BTreeSet (ℕ × ℕ) → What → Bool
puts_key keys (Put q m) = contains put_cmp keys (q, m.id)
puts_key keys w = false

-- Queues

-- for each queue its live entries of these, the last one first
pub record AreDealt (defs : List Defined) (ks : List Kept) (lists : List (Vec Kept Global)) : Type 0 where
  pub as_many : length lists ≡ length defs
  pub each : (q : ℕ) (list : Vec Kept Global)
      → slice_get lists q ≡ Some list → reverse list.items ≡ live_in defs q ks

-- Last values

-- the text is one of the set
abbrev pub has_text : BTreeSet (Vec ℕ Global) → List ℕ → Bool
has_text texts text = list_any (λ t. bytes_eq text t.items) texts.keys

-- on a last-value queue: the set has the keys of these entries, and no others
abbrev pub HasTexts : QueueKind → List Kept → BTreeSet (Vec ℕ Global) → Type 0
HasTexts Standard ks texts = Unit {0}
HasTexts (Priority n) ks texts = Unit {0}
HasTexts (Sorted name) ks texts = Unit {0}
HasTexts (LastValue name) ks texts =
    (text : Vec ℕ Global) → has_text texts text.items ≡ has_key (LastValue name) (Some text.items) ks

-- Of these entries of a queue, which were met from the last to the first, those that stay and those that give way were
-- filed, the last one first.
pub record Files
    (def : Defined) (ks : List Kept) (left : List (RestEntry Parcel)) (outdated : List Kept) (texts : BTreeSet (Vec ℕ Global))
    : Type 0
  where
    pub stay : AreResumed def (staying def.kind ks) (reverse left)
    pub gone : reverse outdated ≡ giving_way def.kind ks
    pub met : HasTexts def.kind ks texts

-- so many queues go on with their entries, in the order of definition
pub record ResumesSoFar (n : ℕ) (defs : List Defined) (live : List Kept) (left : Remains) (outdated : List (Vec Kept Global)) : Type 0 where
  pub as_many : length left ≡ n
  pub others : length outdated ≡ n
  pub entries : (q : ℕ) (def : Defined) (es : Vec (RestEntry Parcel) Global)
      → slice_get defs q ≡ Some def → slice_get left q ≡ Some es
      → AreResumed def (staying def.kind (live_in defs q live)) es.items
  pub gone : (q : ℕ) (def : Defined) (ks : Vec Kept Global)
      → slice_get defs q ≡ Some def → slice_get outdated q ≡ Some ks
      → ks.items ≡ giving_way def.kind (live_in defs q live)
