-- the entries of a queue that stay, and those that give way
use Rattle.std.proofs.Common.{◌≡◌, ℕ, zero, suc, ◌+◌, ◌<◌, Bool, true, false, cond, List, [], ◌∷◌, ◌++◌, append_assoc, append-nil, length, length-append, map, get_or, reverse, Option, Some, None, refl, sym, ap, ◌∙◌, subst, ⊎_elim, arith}
use Rattle.std.specs.Prelude.{◌||◌, not, slice_get, Vec}
use Rattle.std.specs.declared.alloc.Global.{Global}
use Rattle.std.specs.BTreeSet.{BTreeSet}
use Rattle.std.specs.List.{list_any}
use Rattle.std.specs.Ordering.{is_eq, nat_cmp}
use Rattle.std.specs.Cmp.Lexicographic.{slice_cmp}
use Rattle.std.specs.Str.{bytes_eq}
use Rattle.std.proofs.lemmas.Bool.Decides.{same_from_decides}
use Rattle.std.proofs.lemmas.Map.Text.{is_eq-slice_cmp}
use Rattle.std.proofs.lemmas.Slice.Eq.{bytes_eq-Decides}
use Rattle.std.proofs.lemmas.List.{reverse-append}
use Rattle.acts_core.specs.declared.cargoes.RestEntry.{RestEntry}
use Rattle.txn_core.specs.declared.parcels.Parcel.{Parcel}
use Rattle.std.proofs.lemmas.Option.{get_or_from_slice_get}
use Rattle.defs_read.specs.Allowed.{AreAllowed, GivesSlips, IsAllowed}
use Rattle.defs_read.specs.Defined.{Defined, defined}
use Rattle.defs_read.specs.declared.defs.QueueDef.{QueueDef}
use Rattle.defs_read.specs.Slips.{key_of}
use Rattle.defs_read.specs.declared.defs.QueueKind.{QueueKind}
use Rattle.defs_read.specs.declared.defs.QueueKind.TheVariants.{Standard, Priority, Sorted, LastValue}
use Rattle.recover_core.specs.declared.kept.Kept.{Kept}
use Rattle.resume_core.specs.Keeping.{gives_way, giving_way, has_key, is_key, staying}
use Rattle.resume_core.specs.Live.{live_in}
use Rattle.resume_core.specs.Resumed.{AreResumed, IsResumed, Remains, Resumes}
use Rattle.resume_core.specs.Steps.{Files, HasTexts, ResumesSoFar, has_text}
use Rattle.resume_core.proofs.Places.{get_low, get_push, one}

-- Keys

pub texts_begin : (kind : QueueKind) (texts : BTreeSet (Vec ℕ Global)) → texts.keys ≡ [] → HasTexts kind [] texts
texts_begin Standard texts none = tt
texts_begin (Priority n) texts none = tt
texts_begin (Sorted name) texts none = tt
texts_begin (LastValue name) texts none = λ text. ap (λ (ts : List (Vec ℕ Global)). list_any (λ t. bytes_eq text.items t.items) ts) none

-- the set has the key of one entry more
pub texts_more : (name : List ℕ) (ks : List Kept) (k : Kept) (key : List ℕ) (old new : BTreeSet (Vec ℕ Global)) → key_of (LastValue name) k.message ≡ Some key
    → ((other : Vec ℕ Global) → has_text new other.items ≡ (bytes_eq other.items key || has_text old other.items)) → HasTexts (LastValue name) ks old → HasTexts (LastValue name) (k ∷ ks) new
texts_more name ks k key old new is added has = λ text.
    added text ∙ (λ i. is_key text.items (sym is i) || has text i)

-- an entry without a key adds none
pub texts_same : (name : List ℕ) (ks : List Kept) (k : Kept) (texts : BTreeSet (Vec ℕ Global)) → key_of (LastValue name) k.message ≡ None → HasTexts (LastValue name) ks texts → HasTexts (LastValue name) (k ∷ ks) texts
texts_same name ks k texts is has = λ text.
    has text ∙ ap (λ (o : Option (List ℕ)). is_key text.items o || has_key (LastValue name) (Some text.items) ks) (sym is)

-- std's test of a text is that of its bytes
pub text_is : (text : List ℕ) (texts : List (Vec ℕ Global)) → list_any (λ t. is_eq (slice_cmp nat_cmp text t.items)) texts ≡ list_any (λ t. bytes_eq text t.items) texts
text_is text [] = refl
text_is text (t ∷ ts) = λ i. is_eq-slice_cmp text t.items i || text_is text ts i

pub not_not : (a b : Bool) → a ≡ not b → not a ≡ b
not_not true b e = not_is b e where
  not_is : (b : Bool) → true ≡ not b → false ≡ b
  not_is true e = absurd (cc)
  not_is false e = refl
not_not false b e = not_is b e where
  not_is : (b : Bool) → false ≡ not b → true ≡ b
  not_is true e = refl
  not_is false e = absurd (cc)

pub or_cond : (a b : Bool) → cond a true b ≡ (a || b)
or_cond true b = refl
or_cond false b = refl

-- One queue

reverse_push : {X : Type 0} (xs : List X) (x : X) → reverse (xs ++ x ∷ []) ≡ x ∷ reverse xs
reverse_push xs x = reverse-append xs (x ∷ [])

pub files_begin : (def : Defined) (texts : BTreeSet (Vec ℕ Global)) → texts.keys ≡ [] → Files def [] [] [] texts
files_begin def texts none = record { stay = tt; gone = refl; met = texts_begin def.kind texts none }

pub files_gone : (def : Defined) (ks : List Kept) (k : Kept) (left : List (RestEntry Parcel)) (outdated : List Kept) (old new : BTreeSet (Vec ℕ Global))
    → gives_way def.kind (key_of def.kind k.message) ks ≡ true → HasTexts def.kind (k ∷ ks) new → Files def ks left outdated old
    → Files def (k ∷ ks) left (outdated ++ k ∷ []) new
files_gone def ks k left outdated old new gives met f = record {
  stay = subst (λ (xs : List Kept). AreResumed def xs (reverse left)) (sym (ap (λ (b : Bool). cond b (staying def.kind ks) (k ∷ staying def.kind ks)) gives)) f.stay;
  gone = reverse_push outdated k ∙ ap (λ (xs : List Kept). k ∷ xs) f.gone ∙ sym (ap (λ (b : Bool). cond b (k ∷ giving_way def.kind ks) (giving_way def.kind ks)) gives);
  met = met;
}

pub files_stay : (def : Defined) (ks : List Kept) (k : Kept) (e : RestEntry Parcel) (left : List (RestEntry Parcel)) (outdated : List Kept) (old new : BTreeSet (Vec ℕ Global))
    → gives_way def.kind (key_of def.kind k.message) ks ≡ false → IsResumed def k e → HasTexts def.kind (k ∷ ks) new → Files def ks left outdated old
    → Files def (k ∷ ks) (left ++ e ∷ []) outdated new
files_stay def ks k e left outdated old new gives resumed met f = record {
  stay = subst (λ (z : List Kept × List (RestEntry Parcel)). AreResumed def z.0 z.1)
      (λ i. (sym (ap (λ (b : Bool). cond b (staying def.kind ks) (k ∷ staying def.kind ks)) gives) i, sym (reverse_push left e) i)) (resumed, f.stay);
  gone = f.gone ∙ sym (ap (λ (b : Bool). cond b (k ∷ giving_way def.kind ks) (giving_way def.kind ks)) gives);
  met = met;
}

-- Of all entries of a queue those behind the rest were filed.
pub record Filing (def : Defined) (all rest : List Kept) (left : List (RestEntry Parcel)) (outdated : List Kept) (texts : BTreeSet (Vec ℕ Global)) : Type 0 where
  pub done : List Kept
  pub parts : all ≡ rest ++ done
  pub files : Files def done left outdated texts

pub filing_begins : (def : Defined) (all : List Kept) (texts : BTreeSet (Vec ℕ Global)) → texts.keys ≡ [] → Filing def all all [] [] texts
filing_begins def all texts none = record { done = []; parts = sym (append-nil all); files = files_begin def texts none }

pub filing_more : (def : Defined) (all rest rest' : List Kept) (k : Kept) (left left' : List (RestEntry Parcel)) (outdated outdated' : List Kept) (texts texts' : BTreeSet (Vec ℕ Global)) → rest ≡ rest' ++ k ∷ []
    → ((ks : List Kept) → Files def ks left outdated texts → Files def (k ∷ ks) left' outdated' texts') → Filing def all rest left outdated texts → Filing def all rest' left' outdated' texts'
filing_more def all rest rest' k left left' outdated outdated' texts texts' popped step f = record {
  done = k ∷ f.done;
  parts = f.parts ∙ ap (λ (xs : List Kept). xs ++ f.done) popped ∙ append_assoc rest' (k ∷ []) f.done;
  files = step f.done f.files;
}

pub filing_ends : (def : Defined) (all rest : List Kept) (left : List (RestEntry Parcel)) (outdated : List Kept) (texts : BTreeSet (Vec ℕ Global)) → rest ≡ [] → Filing def all rest left outdated texts → Files def all left outdated texts
filing_ends def all rest left outdated texts none f = subst (λ (ks : List Kept). Files def ks left outdated texts) (sym (f.parts ∙ ap (λ (xs : List Kept). xs ++ f.done) none)) f.files

-- All queues

pub so_far_none : (defs : List Defined) (live : List Kept) → ResumesSoFar 0 defs live [] []
so_far_none defs live = record { as_many = refl; others = refl; entries = λ q def es d e. absurd (cc); gone = λ q def ks d e. absurd (cc) }

pub so_far_more : (n : ℕ) (defs : List Defined) (live : List Kept) (left : Remains) (outdated : List (Vec Kept Global)) (def : Defined) (stay : Vec (RestEntry Parcel) Global) (gone : Vec Kept Global)
    → slice_get defs n ≡ Some def → AreResumed def (staying def.kind (live_in defs n live)) stay.items → gone.items ≡ giving_way def.kind (live_in defs n live)
    → ResumesSoFar n defs live left outdated → ResumesSoFar (n + 1) defs live (left ++ stay ∷ []) (outdated ++ gone ∷ [])
so_far_more n defs live left outdated def stay gone here resumed way s = record {
  as_many = let a = length-append left (stay ∷ []) in let b = s.as_many in omega (arith, a, b);
  others = let a = length-append outdated (gone ∷ []) in let b = s.others in omega (arith, a, b);
  entries = entries;
  gone = gones;
} where
  entries : (q : ℕ) (d : Defined) (es : Vec (RestEntry Parcel) Global) → slice_get defs q ≡ Some d → slice_get (left ++ stay ∷ []) q ≡ Some es → AreResumed d (staying d.kind (live_in defs q live)) es.items
  entries q d es at e = ⊎_elim
      (λ old. s.entries q d es at old)
      (λ (t : (q ≡ length left) × (es ≡ stay)).
      let place : q ≡ n = t.0 ∙ s.as_many in
      let same : def ≡ d = one def d (slice_get defs n) here (ap (slice_get defs) (sym place) ∙ at) in
      subst (λ (z : ℕ × Defined × Vec (RestEntry Parcel) Global). AreResumed z.1 (staying z.1.kind (live_in defs z.0 live)) z.2.items) (λ i. (sym place i, same i, sym t.1 i)) resumed)
      (get_push left stay es q e)

  gones : (q : ℕ) (d : Defined) (ks : Vec Kept Global) → slice_get defs q ≡ Some d → slice_get (outdated ++ gone ∷ []) q ≡ Some ks → ks.items ≡ giving_way d.kind (live_in defs q live)
  gones q d ks at e = ⊎_elim
      (λ old. s.gone q d ks at old)
      (λ (t : (q ≡ length outdated) × (ks ≡ gone)).
      let place : q ≡ n = t.0 ∙ s.others in
      let same : def ≡ d = one def d (slice_get defs n) here (ap (slice_get defs) (sym place) ∙ at) in
      subst (λ (z : ℕ × Defined × Vec Kept Global). z.2.items ≡ giving_way z.1.kind (live_in defs z.0 live)) (λ i. (sym place i, same i, sym t.1 i)) way)
      (get_push outdated gone ks q e)

pub so_far_all : (n : ℕ) (defs : List Defined) (live : List Kept) (left : Remains) (outdated : List (Vec Kept Global)) → n ≡ length defs → ResumesSoFar n defs live left outdated → Resumes defs live left outdated
so_far_all n defs live left outdated all s = record { as_many = s.as_many ∙ all; others = s.others ∙ all; entries = s.entries; gone = s.gone }

-- The turn of a queue

taken_at : {B : Type 0} (lefts done rest : List B) (x : B) → done ++ x ∷ rest ≡ lefts → slice_get lefts (length done) ≡ Some x
taken_at {B} lefts done rest x all = ap (λ (l : List B). slice_get l (length done)) (sym all) ∙ get_mid done rest where
  get_mid : (xs ys : List B) → slice_get (xs ++ x ∷ ys) (length xs) ≡ Some x
  get_mid [] ys = refl
  get_mid (z ∷ xs) ys = get_mid xs ys

pub turn_low : {A B : Type 0} (defs : List A) (lefts done rest : List B) (x : B) (n : ℕ) → length lefts ≡ length defs → done ++ x ∷ rest ≡ lefts → n ≡ length done → n < length defs
turn_low defs lefts done rest x n same all at =
    let a = ap length all in
    let b = length-append done (x ∷ rest) in
    omega (arith, same, at, a, b)

pub turn_here : {B : Type 0} (lefts done rest : List B) (x : B) (n : ℕ) → done ++ x ∷ rest ≡ lefts → n ≡ length done → slice_get lefts n ≡ Some x
turn_here lefts done rest x n all at = ap (slice_get lefts) at ∙ taken_at lefts done rest x all

pub defined_at : (items : List QueueDef) (i : ℕ) (def : QueueDef) → i < length items → def ≡ get_or items i def → slice_get (map defined items) i ≡ Some (defined def)
defined_at [] i def low e = absurd (omega (arith, low))
defined_at (x ∷ items) zero def low e = ap (λ (d : QueueDef). Some (defined d)) (sym e)
defined_at (x ∷ items) (suc i) def low e = defined_at items i def (omega (arith, low)) e

-- queues within their limits give slips
pub gives_slips : (defs : List Defined) (n : ℕ) (def : Defined) → AreAllowed defs → slice_get defs n ≡ Some def → GivesSlips def
gives_slips defs n def a e = (subst IsAllowed (get_or_from_slice_get defs n def def e) (a.each n def (get_low defs n def e))).slips

pub swapped_text : (a b : List ℕ) → bytes_eq a b ≡ bytes_eq b a
swapped_text a b = same_from_decides (bytes_eq a b) (bytes_eq b a) (bytes_eq-Decides a b) (λ e. sym ((bytes_eq-Decides b a).0 e), λ e. (bytes_eq-Decides b a).1 (sym e))
