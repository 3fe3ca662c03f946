-- the actors of a phase, and the table that has them
use Rattle.std.proofs.Common.{◌≡◌, ℕ, zero, suc, Bool, true, false, cond, ◌||◌, List, [], ◌∷◌, ◌++◌, map, slice_get, position, Option, Some, is_some, Vec, Global, nat_eq, refl, sym, ap, ◌∙◌, arith}
use Rattle.std.specs.Cmp.Lexicographic.{pointwise}
use Rattle.std.specs.Map.{keys_of, values_of, lookup}
use Rattle.std.specs.Str.{bytes_eq}
use Rattle.std.proofs.lemmas.Cmp.{nat_list_eq_equiv}
use Rattle.indexmap.specs.IndexMap.{insert_entry, set_value_at}
use Rattle.queue_model.proofs.Positions.{IsFirstAt, first_at}
use Rattle.script_read.specs.Phases.{Actors, filed}
use Rattle.script_read.specs.Scripts.{is_in_phase}
use Rattle.script_read.specs.declared.lines.Op.{Op}

abbrev pub Entries : Type 0
Entries = List (Vec ℕ Global × Vec Op Global)

abbrev pub seen : Entries → Actors
seen es = map (λ e. (e.0.items, e.1.items)) es

-- how a name is looked up
abbrev pub is_named : List ℕ → Vec ℕ Global → Bool
is_named name k = pointwise nat_eq name k.items

same_swapped : (name : List ℕ) (k : Vec ℕ Global) → bytes_eq k.items name ≡ is_named name k
same_swapped name k = nat_list_eq_equiv.symm k.items name

-- an actor has a line where the table finds the name

pub in_table : (name : List ℕ) (es : Entries) → is_some (lookup (is_named name) es) ≡ is_in_phase name (seen es)
in_table name [] = refl
in_table name (e ∷ es) = by_test (is_named name e.0) (is_in_phase name (seen es)) (in_table name es) ∙ ap (λ b. b || is_in_phase name (seen es)) (sym (same_swapped name e.0))
  where
    by_test : (b c : Bool) → is_some (lookup (is_named name) es) ≡ c → is_some (cond b (Some e.1) (lookup (is_named name) es)) ≡ (b || c)
    by_test true c rest = refl
    by_test false c rest = rest

-- a line is filed at its actor's entry

tail_first : (p : Vec ℕ Global → Bool) (x : Vec ℕ Global) (xs : List (Vec ℕ Global)) (i : ℕ) (d : Vec ℕ Global) → IsFirstAt p (x ∷ xs) (suc i) d → IsFirstAt p xs i d
tail_first p x xs i d h = record { inside = omega (arith, h.inside); passes = h.passes; before = λ k l. h.before (suc k) (omega arith) }

same_ops : (a b : Vec Op Global) → ◌≡◌ {A = Option (Vec Op Global)} (Some a) (Some b) → a ≡ b
same_ops a b e = cc

filed_first : (op : Op) (es : Entries) (i : ℕ) (d : Vec ℕ Global) (old w : Vec Op Global) → IsFirstAt (is_named op.actor) (keys_of es) i d → slice_get (values_of es) i ≡ Some old → w.items ≡ old.items ++ op ∷ [] → seen (set_value_at es i w) ≡ filed op (seen es)
filed_first op [] i d old w h e more = absurd (omega (arith, h.inside))
filed_first op (x ∷ xs) zero d old w h e more =
    ap (λ (ops : List Op). (x.0.items, ops) ∷ seen xs) (more ∙ ap (λ (v : Vec Op Global). v.items ++ op ∷ []) (sym (same_ops x.1 old e)))
    ∙ sym (ap (λ b. cond b ((x.0.items, x.1.items ++ op ∷ []) ∷ seen xs) ((x.0.items, x.1.items) ∷ filed op (seen xs))) (same_swapped op.actor x.0 ∙ h.passes))
filed_first op (x ∷ xs) (suc i) d old w h e more =
    ap (λ (actors : Actors). (x.0.items, x.1.items) ∷ actors) (filed_first op xs i d old w (tail_first (is_named op.actor) x.0 (keys_of xs) i d h) e more)
    ∙ sym (ap (λ b. cond b ((x.0.items, x.1.items ++ op ∷ []) ∷ seen xs) ((x.0.items, x.1.items) ∷ filed op (seen xs))) (same_swapped op.actor x.0 ∙ h.before 0 (omega arith)))

pub filed_at : (op : Op) (es : Entries) (i : ℕ) (old w : Vec Op Global) → position (is_named op.actor) (keys_of es) ≡ Some i → slice_get (values_of es) i ≡ Some old → w.items ≡ old.items ++ op ∷ [] → seen (set_value_at es i w) ≡ filed op (seen es)
filed_at op [] i old w at e more = absurd (cc)
filed_at op (x ∷ xs) i old w at e more = filed_first op (x ∷ xs) i x.0 old w (first_at (is_named op.actor) (keys_of (x ∷ xs)) i x.0 at) e more

-- a new actor comes last

abbrev pub same_key : Vec ℕ Global → Vec ℕ Global → Bool
same_key a b = pointwise nat_eq a.items b.items

neither : (b c : Bool) → (b || c) ≡ false → (b ≡ false) × (c ≡ false)
neither true c e = absurd (cc)
neither false c e = (refl, e)

pub filed_new : (op : Op) (es : Entries) (name : Vec ℕ Global) (ops : Vec Op Global) → name.items ≡ op.actor → ops.items ≡ op ∷ [] → is_in_phase op.actor (seen es) ≡ false → seen (insert_entry same_key es name ops) ≡ filed op (seen es)
filed_new op [] name ops named one none = ap (λ (n : List ℕ). (n, ops.items) ∷ []) named ∙ ap (λ (os : List Op). (op.actor, os) ∷ []) one
filed_new op (x ∷ xs) name ops named one none =
    let apart = neither (bytes_eq x.0.items op.actor) (is_in_phase op.actor (seen xs)) none in
    ap (λ b. seen (cond b ((x.0, ops) ∷ xs) (x ∷ insert_entry same_key xs name ops))) (ap (λ (n : List ℕ). pointwise nat_eq n x.0.items) named ∙ sym (same_swapped op.actor x.0) ∙ apart.0)
    ∙ ap (λ (actors : Actors). (x.0.items, x.1.items) ∷ actors) (filed_new op xs name ops named one apart.1)
    ∙ sym (ap (λ b. cond b ((x.0.items, x.1.items ++ op ∷ []) ∷ seen xs) ((x.0.items, x.1.items) ∷ filed op (seen xs))) apart.0)
