-- lemmas on lists of names, of causes and of values
use Rattle.std.proofs.Common.{◌≡◌, ℕ, ◌+◌, ◌<◌, Bool, true, false, not, List, [], ◌∷◌, ◌++◌, length, map, get_or, drop, Option, Some, None, refl, sym, ap, ◌∙◌, inl, inr, arith, add-one}
use Rattle.std.specs.List.{list_any, position_or_len}
use Rattle.std.specs.Str.{bytes_eq}
use Rattle.std.proofs.Math.Seq.{drop-cons}
use Rattle.std.proofs.lemmas.Bool.{not-false, not-true}
use Rattle.std.proofs.lemmas.List.{map_push, length-map}
use denote.Ref.{Bor}
use Rattle.indexmap.specs.IndexSet.{insert_key}
use Rattle.serde_json.specs.Data.{item}
use Rattle.serde_json.specs.View.{view, items_view}
use Rattle.serde_json.specs.declared.value.Value.{Value}
use Rattle.fields_read.specs.Faults.{cause_if}
use Rattle.fields_read.specs.Forms.{first_of}
use Rattle.defs_read.specs.Causes.{is_among}
use Rattle.defs_read.specs.Steps.{Refuses}
use Rattle.defs_read.specs.declared.faults.DefsFault.{DefsFault}
use Rattle.defs_read.specs.declared.faults.DefsFault.TheVariants.{DoubleName}

-- ---- names in a set that borrows them

abbrev same : Bor (List ℕ) → Bor (List ℕ) → Bool
same x y = bytes_eq x.now y.now

abbrev texts : List (Bor (List ℕ)) → List (List ℕ)
texts keys = map (λ k. k.now) keys

among_texts : (name : Bor (List ℕ)) (keys : List (Bor (List ℕ))) → is_among name.now (texts keys) ≡ list_any (same name) keys
among_texts name [] = refl
among_texts name (k ∷ ks) = rw (among_texts name ks) refl

absent_last : (name : Bor (List ℕ)) (keys : List (Bor (List ℕ))) → list_any (same name) keys ≡ false → position_or_len (same name) keys ≡ length keys
absent_last name [] absent = refl
absent_last name (k ∷ ks) absent = grind (arith, absent_last name ks)

-- a name that is new goes last, and its index is the number of those before it
pub new_name : (name : Bor (List ℕ)) (old new : List (Bor (List ℕ))) (index : ℕ)
    → true ≡ not (list_any (same name) old) → new ≡ insert_key same old name → index ≡ position_or_len (same name) old
    → (cause_if (is_among name.now (texts old)) DoubleName ≡ None) × ((index ≡ length (texts old)) × (texts new ≡ texts old ++ name.now ∷ []))
new_name name old new index added keys at =
    let absent : list_any (same name) old ≡ false = not-true (list_any (same name) old) (sym added) in (
      rw (among_texts name old, absent) refl,
      (
        at ∙ absent_last name old absent ∙ sym (length-map old (λ k. k.now)),
        ap texts (keys ∙ rw absent refl) ∙ map_push (λ k. k.now) old name,
      ),
    )

-- a name that is not new is a double
pub old_name : (name : Bor (List ℕ)) (old : List (Bor (List ℕ))) → false ≡ not (list_any (same name) old) → cause_if (is_among name.now (texts old)) DoubleName ≡ Some DoubleName
old_name name old added =
    let present : list_any (same name) old ≡ true = not-false (list_any (same name) old) (sym added) in
    rw (among_texts name old, present) refl

-- ---- causes, one list of them after another

front_some : (xs ys : List (Option DefsFault)) (cause : DefsFault) → first_of xs ≡ Some cause → first_of (xs ++ ys) ≡ Some cause
front_some [] ys cause is = cc
front_some (None ∷ xs) ys cause is = front_some xs ys cause is
front_some (Some c ∷ xs) ys cause is = is

-- the first cause of a front is that of all
pub front_refuses : (fault : DefsFault) (xs ys : List (Option DefsFault)) → Refuses fault (first_of xs) → Refuses fault (first_of (xs ++ ys))
front_refuses fault xs ys (inl memory) = inl memory
front_refuses fault xs ys (inr is) = inr (front_some xs ys fault is)

-- a front with no cause is passed over
pub front_passes : (xs ys : List (Option DefsFault)) → first_of xs ≡ None → first_of (xs ++ ys) ≡ first_of ys
front_passes [] ys is = refl
front_passes (None ∷ xs) ys is = front_passes xs ys is
front_passes (Some c ∷ xs) ys is = cc

-- the same of two causes

pub stops : (fault : DefsFault) (x y : Option DefsFault) → Refuses fault x → Refuses fault (first_of (x ∷ y ∷ []))
stops fault x y (inl memory) = inl memory
stops fault None y (inr is) = cc
stops fault (Some c) y (inr is) = inr is

pub passes : (x y : Option DefsFault) → x ≡ None → first_of (x ∷ y ∷ []) ≡ y
passes None None is = refl
passes None (Some c) is = refl
passes (Some c) y is = cc

-- ---- the values of a list

pub next_item : (vs : List Value) (i : ℕ) (v : Value) → i < length vs → v ≡ get_or vs i v → items_view (drop i vs) ≡ item (view v) (items_view (drop (i + 1) vs))
next_item vs i v below is =
    let all : items_view (drop i vs) ≡ item (view (get_or vs i v)) (items_view (drop (i + 1) vs)) = rw (drop-cons vs i v, add-one) refl in
    all ∙ ap (λ (x : Value). item (view x) (items_view (drop (i + 1) vs))) (sym is)
