-- the laws on live entries and what queues open with
use Rattle.std.proofs.Common.{◌≡◌, ℕ, suc, ◌+◌, ◌≤◌, Bool, true, false, cond, not, nat_lt, List, [], ◌∷◌, length, Option, Some, None, refl, sym, ap, ◌∙◌, subst, arith}
use Rattle.std.specs.Prelude.{◌==◌, ◌&&◌, option_map, slice_get, Vec}
use Rattle.std.specs.declared.alloc.Global.{Global}
use Rattle.std.specs.List.{AllByRecursion, count_by, list_all, list_any}
use Rattle.std.proofs.lemmas.Bool.{ltb-false}
use Rattle.std.proofs.lemmas.List.Sums.{count_by-le-length, length-filter}
use Rattle.std.proofs.lemmas.Slice.Eq.{bytes_eq-Decides}
use Rattle.queue_model.specs.Table.{most_entries}
use Rattle.acts_core.specs.Load.{Load}
use Rattle.acts_core.specs.declared.cargoes.RestEntry.{RestEntry}
use Rattle.txn_core.specs.declared.parcels.Parcel.{Parcel}
use Rattle.txn_core.specs.Parcels.{load_of}
use Rattle.txn_core.specs.Shown.{fresh, load}
use Rattle.fields_read.specs.Forms.{first_of}
use Rattle.fields_read.specs.Faults.{cause_if}
use Rattle.defs_read.specs.Defined.{Defined}
use Rattle.defs_read.specs.Slips.{key_of}
use Rattle.defs_read.specs.declared.defs.QueueKind.{QueueKind}
use Rattle.defs_read.specs.declared.defs.QueueKind.TheVariants.{LastValue}
use Rattle.script_read.specs.declared.lines.Op.{Op}
use Rattle.recover_core.specs.declared.kept.Kept.{Kept}
use Rattle.resume_core.specs.declared.faults.LiveFault.{LiveFault}
use Rattle.resume_core.specs.declared.faults.LiveCause.TheVariants.{JournalQueue, DoubleLive, TooManyEntries}
use Rattle.resume_core.specs.Faults.{doubling_line, fault_at, fault_of, has_double, put_fault, puts_live}
use Rattle.resume_core.specs.Keeping.{gives_way, giving_way, is_key, staying}
use Rattle.resume_core.specs.Laws.{EntriesStand, FewEntries, IdsOnce, KeysOnce, MayStand, NoneIsLost, ResumesWithoutCause}
use Rattle.resume_core.specs.Lines.{passing_line}
use Rattle.resume_core.specs.Live.{has_queue, is_of, live_in, lives_as}
use Rattle.resume_core.specs.Resumed.{AreResumed, IsResumed, Remains, Resumes}
use Rattle.resume_core.proofs.Doubling.{once_in_all}
use Rattle.resume_core.proofs.Firsts.{first_none}
use Rattle.resume_core.proofs.Named.{count_more, none_counted}
use Rattle.resume_core.proofs.Passing.{few_unless}
use Rattle.resume_core.proofs.Places.{get_low, get_some}

-- The first cause

-- the first cause, by what was found: whether each entry's queue is defined, whether two are the same, whether there are
-- too many, and the two lines
abbrev pub first_fault : Bool → Bool → Bool → Option ℕ → Option ℕ → Option LiveFault
first_fault defined double many passing doubling = first_of (
    option_map (fault_at 1) (first_of (cause_if (not defined) JournalQueue ∷ cause_if double DoubleLive ∷ cause_if many TooManyEntries ∷ []))
    ∷ put_fault passing doubling
    ∷ [])

alone : (o : Option LiveFault) → first_of (o ∷ []) ≡ o
alone None = refl
alone (Some fault) = refl

pub is_first : (defs : List Defined) (live : List Kept) (ops : List Op) (d s m : Bool) → list_all (has_queue defs) live ≡ d → has_double [] live ≡ s → nat_lt most_entries (length live) ≡ m
    → fault_of defs live ops ≡ first_fault d s m (passing_line (length live) ops) (doubling_line defs live ops)
is_first defs live ops d s m e f g = λ i. first_fault (e i) (f i) (g i) (passing_line (length live) ops) (doubling_line defs live ops)

pub at_puts : (passing doubling : Option ℕ) → first_fault true false false passing doubling ≡ put_fault passing doubling
at_puts passing doubling = alone (put_fault passing doubling)

-- no cause
pub record NoCause (d s m : Bool) (passing doubling : Option ℕ) : Type 0 where
  pub defined : d ≡ true
  pub apart : s ≡ false
  pub few : m ≡ false
  pub none_passes : passing ≡ None
  pub none_doubles : doubling ≡ None

no_cause : (d s m : Bool) (passing doubling : Option ℕ) → first_fault d s m passing doubling ≡ None → NoCause d s m passing doubling
no_cause false s m p q e = absurd (cc)
no_cause true true m p q e = absurd (cc)
no_cause true false true p q e = absurd (cc)
no_cause true false false None None e = record { defined = refl; apart = refl; few = refl; none_passes = refl; none_doubles = refl }
no_cause true false false None (Some n) e = absurd (cc)
no_cause true false false (Some m) None e = absurd (cc)
no_cause true false false (Some m) (Some n) e = absurd (cc)

pub resumes_law : ResumesWithoutCause
resumes_law defs live ops none puts =
    let n = no_cause (list_all (has_queue defs) live) (has_double [] live) (nat_lt most_entries (length live)) (passing_line (length live) ops) (doubling_line defs live ops) none in
    record {
      defined = n.defined;
      once = once_in_all defs live ops n.apart (first_none (λ (op : Op). puts_live defs live op.what) ops n.none_doubles) puts;
      few = few_unless (length live) ops (ltb-false most_entries (length live) n.few) n.none_passes;
    }

-- Entries that stay

pub as_many_resumed : (def : Defined) (ks : List Kept) (es : List (RestEntry Parcel)) → AreResumed def ks es → length es ≡ length ks
as_many_resumed def [] [] r = refl
as_many_resumed def [] (e ∷ es) r = absurd r
as_many_resumed def (k ∷ ks) [] r = absurd r
as_many_resumed def (k ∷ ks) (e ∷ es) r = ap suc (as_many_resumed def ks es r.1)

-- as many entries pass a test as live entries pass one that says the same of them
same_counts : (def : Defined) (p : RestEntry Parcel → Bool) (q : Kept → Bool) → ((k : Kept) (e : RestEntry Parcel) → IsResumed def k e → p e ≡ q k)
    → (ks : List Kept) (es : List (RestEntry Parcel)) → AreResumed def ks es → count_by p es ≡ count_by q ks
same_counts def p q same [] [] r = refl
same_counts def p q same [] (e ∷ es) r = absurd r
same_counts def p q same (k ∷ ks) [] r = absurd r
same_counts def p q same (k ∷ ks) (e ∷ es) r =
    count_more p e es
    ∙ (λ i. cond (same k e r.0 i) 1 0 + same_counts def p q same ks es r.1 i)
    ∙ sym (count_more q k ks)

module _ (kind : QueueKind) (p : Kept → Bool) where
  -- no more of those that stay pass a test than of all
  pub staying_fewer : (ks : List Kept) → count_by p (staying kind ks) ≤ count_by p ks
  staying_fewer [] = omega arith
  staying_fewer (k ∷ ks) = by_test (gives_way kind (key_of kind k.message) ks) (staying_fewer ks) where
    by_test : (b : Bool) → count_by p (staying kind ks) ≤ count_by p ks → count_by p (cond b (staying kind ks) (k ∷ staying kind ks)) ≤ count_by p (k ∷ ks)
    by_test true rest = let a = count_more p k ks in omega (arith, a, rest)
    by_test false rest = let a = count_more p k ks in let b = count_more p k (staying kind ks) in omega (arith, a, b, rest)

-- those that stay and those that give way are all
pub parted : (kind : QueueKind) (ks : List Kept) → length (staying kind ks) + length (giving_way kind ks) ≡ length ks
parted kind [] = refl
parted kind (k ∷ ks) = by_test (gives_way kind (key_of kind k.message) ks) (parted kind ks) where
  by_test : (b : Bool) → length (staying kind ks) + length (giving_way kind ks) ≡ length ks → length (cond b (staying kind ks) (k ∷ staying kind ks)) + length (cond b (k ∷ giving_way kind ks) (giving_way kind ks)) ≡ suc (length ks)
  by_test true rest = omega (arith, rest)
  by_test false rest = omega (arith, rest)

-- those of a queue that have an id
with_id : (defs : List Defined) (q id : ℕ) (live : List Kept) → count_by (λ k. k.message.id == id) (live_in defs q live) ≡ count_by (lives_as defs q id) live
with_id defs q id [] = refl
with_id defs q id (k ∷ ks) = by_test (is_of defs q k) (with_id defs q id ks) ∙ sym (count_more (lives_as defs q id) k ks) where
  by_test : (b : Bool) → count_by (λ (k : Kept). k.message.id == id) (live_in defs q ks) ≡ count_by (lives_as defs q id) ks
      → count_by (λ (k : Kept). k.message.id == id) (cond b (k ∷ live_in defs q ks) (live_in defs q ks)) ≡ cond (b && (k.message.id == id)) 1 0 + count_by (lives_as defs q id) ks
  by_test true rest = count_more (λ (k : Kept). k.message.id == id) k (live_in defs q ks) ∙ ap (λ (n : ℕ). cond (k.message.id == id) 1 0 + n) rest
  by_test false rest = omega (arith, rest)

few_in : (defs : List Defined) (q : ℕ) (live : List Kept) → length (live_in defs q live) ≤ length live
few_in defs q live = subst (λ (n : ℕ). n ≤ length live) (sym (length-filter (is_of defs q) live)) (count_by-le-length (is_of defs q) live)

-- the definition of a queue that goes on
module _ (defs : List Defined) (live : List Kept) (left : Remains) (outdated : List (Vec Kept Global)) (r : Resumes defs live left outdated) (q : ℕ) (es : Vec (RestEntry Parcel) Global) (here : slice_get left q ≡ Some es) where
  pub def_at : (def : Defined) × (slice_get defs q ≡ Some def)
  def_at = get_some defs q (let low = get_low left q es here in let many = r.as_many in omega (arith, low, many))

  pub entries_here : AreResumed def_at.0 (staying def_at.0.kind (live_in defs q live)) es.items
  entries_here = r.entries q def_at.0 es def_at.1 here

  pub ids_here : (id : ℕ) → count_by (λ e. e.slip.id == id) es.items ≤ count_by (lives_as defs q id) live
  ids_here id =
      let same = same_counts def_at.0 (λ (e : RestEntry Parcel). e.slip.id == id) (λ (k : Kept). k.message.id == id) (λ k e is. ap (λ (n : ℕ). n == id) is.slip.id) (staying def_at.0.kind (live_in defs q live)) es.items entries_here in
      let fewer = staying_fewer def_at.0.kind (λ (k : Kept). k.message.id == id) (live_in defs q live) in
      let there = with_id defs q id live in
      omega (arith, same, fewer, there)

  pub few_here : length es.items ≤ length live
  few_here =
      let same = as_many_resumed def_at.0 (staying def_at.0.kind (live_in defs q live)) es.items entries_here in
      let whole = parted def_at.0.kind (live_in defs q live) in
      let fewer = few_in defs q live in
      omega (arith, same, whole, fewer)

pub ids_law : IdsOnce
ids_law defs live ops left outdated can r q id es here =
    let fewer = ids_here defs live left outdated r q es here id in
    let once = can.once q id in
    omega (arith, fewer, once)

pub few_law : FewEntries
few_law defs live ops left outdated can r q es here =
    let fewer = few_here defs live left outdated r q es here in
    let few = can.few in
    omega (arith, fewer, few)

-- Entries that stand

may_stand : (def : Defined) (k : Kept) (e : RestEntry Parcel) → IsResumed def k e → MayStand def e
may_stand def k e r =
    let same : load_of e.cargo ≡ load (fresh k.message None k.body_at) = ap load r.parcel in
    record {
      fits = r.fits;
      key = r.key;
      id = ap (λ (z : Load). z.id) same ∙ sym r.slip.id;
      size = ap (λ (z : Load). z.size) same ∙ sym r.slip.size;
    }

all_stand : (def : Defined) (ks : List Kept) (es : List (RestEntry Parcel)) → AreResumed def ks es → AllByRecursion (MayStand def) es
all_stand def [] [] r = tt
all_stand def [] (e ∷ es) r = absurd r
all_stand def (k ∷ ks) [] r = absurd r
all_stand def (k ∷ ks) (e ∷ es) r = (may_stand def k e r.0, all_stand def ks es r.1)

pub stand_law : EntriesStand
stand_law defs live left outdated r q def es at here = all_stand def (staying def.kind (live_in defs q live)) es.items (r.entries q def es at here)

-- Keys

-- where an entry has the key and gives way to none, none behind it has the key
alone_behind : (name text : List ℕ) (o : Option (List ℕ)) (ks : List Kept) → is_key text o ≡ true → gives_way (LastValue name) o ks ≡ false → list_any (λ k. is_key text (key_of (LastValue name) k.message)) ks ≡ false
alone_behind name text None ks is none = absurd (cc)
alone_behind name text (Some key) ks is none =
    ap (λ (t : List ℕ). list_any (λ (k : Kept). is_key t (key_of (LastValue name) k.message)) ks) ((bytes_eq-Decides text key).0 is) ∙ none

module _ (name text : List ℕ) where
  abbrev has : Kept → Bool
  has k = is_key text (key_of (LastValue name) k.message)

  pub key_once : (ks : List Kept) → count_by has (staying (LastValue name) ks) ≤ 1
  key_once [] = omega arith
  key_once (k ∷ ks) = by_test (gives_way (LastValue name) (key_of (LastValue name) k.message) ks) (key_once ks) refl where
    by_key : (b : Bool) → count_by has (staying (LastValue name) ks) ≤ 1 → has k ≡ b → gives_way (LastValue name) (key_of (LastValue name) k.message) ks ≡ false → cond b 1 0 + count_by has (staying (LastValue name) ks) ≤ 1
    by_key true rest e none =
        let behind = none_counted has ks (alone_behind name text (key_of (LastValue name) k.message) ks e none) in
        let fewer = staying_fewer (LastValue name) has ks in
        omega (arith, behind, fewer)
    by_key false rest e none = omega (arith, rest)

    by_test : (b : Bool) → count_by has (staying (LastValue name) ks) ≤ 1 → gives_way (LastValue name) (key_of (LastValue name) k.message) ks ≡ b → count_by has (cond b (staying (LastValue name) ks) (k ∷ staying (LastValue name) ks)) ≤ 1
    by_test true rest e = rest
    by_test false rest e = subst (λ (n : ℕ). n ≤ 1) (sym (count_more has k (staying (LastValue name) ks))) (by_key (has k) rest refl e)

pub keys_law : KeysOnce
keys_law defs live left outdated r q def name es at kind here text =
    let resumed = subst (λ (z : QueueKind). AreResumed def (staying z (live_in defs q live)) es.items) kind (r.entries q def es at here) in
    let same = same_counts def (λ (e : RestEntry Parcel). is_key text e.slip.key) (λ (k : Kept). is_key text (key_of (LastValue name) k.message))
    (λ k e is. ap (is_key text) (is.slip.key ∙ ap (λ (z : QueueKind). key_of z k.message) kind)) (staying (LastValue name) (live_in defs q live)) es.items resumed in
    let once = key_once name text (live_in defs q live) in
    omega (arith, same, once)

pub lost_law : NoneIsLost
lost_law defs live left outdated r q def es ks at here gone =
    let same = as_many_resumed def (staying def.kind (live_in defs q live)) es.items (r.entries q def es at here) in
    let way = ap length (r.gone q def ks at gone) in
    let whole = parted def.kind (live_in defs q live) in
    omega (arith, same, way, whole)
