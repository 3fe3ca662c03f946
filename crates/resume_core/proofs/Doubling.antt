-- live entries that stand twice, and puts of what is live
use Rattle.std.proofs.Common.{◌≡◌, ℕ, ◌+◌, ◌<◌, ◌≤◌, Bool, true, false, cond, nat_eq, arith, eqb-true, Option, Some, List, [], ◌∷◌, ◌++◌, append_assoc, append-nil, length, take, drop, get_or, drop-cons, refl, sym, ap, ◌∙◌, subst, add-one}
use Rattle.std.specs.Prelude.{◌==◌, ◌&&◌, ◌||◌}
use Rattle.std.specs.List.{AllByRecursion, count_by, list_any}
use Rattle.std.specs.Ordering.{is_eq, nat_cmp}
use Rattle.std.specs.BTreeSet.{BTreeSet, contains}
use Rattle.std.specs.Cmp.{both_tied, unsigned_tied}
use Rattle.std.proofs.lemmas.List.{take_more}
use Rattle.std.proofs.lemmas.List.Folds.{list_any-append}
use Rattle.defs_read.specs.Defined.{Defined}
use Rattle.script_read.specs.SoFar.{put_cmp}
use Rattle.script_read.specs.Scripts.{is_put_of}
use Rattle.script_read.specs.declared.lines.Op.{Op}
use Rattle.script_read.specs.declared.lines.What.{What}
use Rattle.script_read.specs.declared.lines.What.TheVariants.{Put, Take, Close, Ack, Release, Lock, Unlock, Steal, Begin, Commit, Rollback}
use Rattle.recover_core.specs.declared.kept.Kept.{Kept}
use Rattle.resume_core.specs.Faults.{has_double, is_same, puts_live}
use Rattle.resume_core.specs.Live.{is_number, lives_as, number_of}
use Rattle.resume_core.specs.Resuming.{PutsOnce}
use Rattle.resume_core.specs.Steps.{HasKeys, puts_key}
use Rattle.resume_core.proofs.Named.{any_same, count_more, first_fails, lives_id, lives_number, none_counted, rest_fails}

-- One more entry

or_none_after : (a b c : Bool) → a ≡ false → b ≡ c → (a || b) ≡ c
or_none_after true b c e f = absurd (cc)
or_none_after false b c e f = f

or_true : (a b : Bool) → a ≡ true → (a || b) ≡ true
or_true true b e = refl
or_true false b e = absurd (cc)

module _ (defs : List Defined) (live : List Kept) (i : ℕ) (k : Kept) (q : ℕ) (keys : BTreeSet (ℕ × ℕ))
    (low : i < length live) (is : k ≡ get_or live i k) (number : number_of defs k ≡ Some q) (has : HasKeys defs (take i live) keys)
    (same : has_double (take i live) (drop i live) ≡ has_double [] live) where
  here : has_double (take i live) (drop i live) ≡ (list_any (is_same k) (take i live) || has_double (take i live ++ k ∷ []) (drop (i + 1) live))
  here = ap (has_double (take i live)) (drop-cons live i k low ∙ (λ j. sym is j ∷ drop (sym (add-one i) j) live))

  found : list_any (is_same k) (take i live) ≡ contains put_cmp keys (q, k.message.id)
  found = any_same defs q k (take i live) number ∙ sym (has q k.message.id)

  pub taken_more : take (i + 1) live ≡ take i live ++ k ∷ []
  taken_more = take_more live i k low ∙ ap (λ (x : Kept). take i live ++ x ∷ []) (sym is)

  pub double_found : contains put_cmp keys (q, k.message.id) ≡ true → has_double [] live ≡ true
  double_found e = sym same ∙ here ∙ or_true (list_any (is_same k) (take i live)) (has_double (take i live ++ k ∷ []) (drop (i + 1) live)) (found ∙ e)

  pub double_later : contains put_cmp keys (q, k.message.id) ≡ false → has_double (take (i + 1) live) (drop (i + 1) live) ≡ has_double [] live
  double_later e =
      ap (λ (ks : List Kept). has_double ks (drop (i + 1) live)) taken_more
      ∙ sym (or_none_after (list_any (is_same k) (take i live)) (has_double (take i live ++ k ∷ []) (drop (i + 1) live)) (has_double (take i live ++ k ∷ []) (drop (i + 1) live)) (found ∙ e) refl)
      ∙ sym here ∙ same

-- the set of keys with one more
same_put : (q i queue id : ℕ) → is_eq (put_cmp (q, i) (queue, id)) ≡ (nat_eq q queue && nat_eq i id)
same_put q i queue id = sym (both_tied (nat_eq q queue) (nat_eq i id) (nat_cmp q queue) (nat_cmp i id) (sym (unsigned_tied q queue)) (sym (unsigned_tied i id)))

or_last : (a b : Bool) → cond a true b ≡ (b || (a || false))
or_last true true = refl
or_last true false = refl
or_last false true = refl
or_last false false = refl

pub keys_more : (defs : List Defined) (ks : List Kept) (k : Kept) (q : ℕ) (keys new : BTreeSet (ℕ × ℕ)) → number_of defs k ≡ Some q → HasKeys defs ks keys
    → ((x : ℕ × ℕ) → contains put_cmp new x ≡ cond (is_eq (put_cmp (q, k.message.id) x)) true (contains put_cmp keys x)) → HasKeys defs (ks ++ k ∷ []) new
keys_more defs ks k q keys new number has more p id =
    more (p, id)
    ∙ ap (λ (b : Bool). cond b true (contains put_cmp keys (p, id))) (same_put q k.message.id p id ∙ ap (λ (o : Option ℕ). is_number p o && nat_eq k.message.id id) (sym number))
    ∙ ap (cond (lives_as defs p id k) true) (has p id)
    ∙ or_last (lives_as defs p id k) (list_any (lives_as defs p id) ks)
    ∙ sym (list_any-append (lives_as defs p id) ks (k ∷ []))

-- Puts

pub key_live : (defs : List Defined) (live : List Kept) (keys : BTreeSet (ℕ × ℕ)) (w : What) → HasKeys defs live keys → puts_key keys w ≡ puts_live defs live w
key_live defs live keys (Put q m) has = has q m.id
key_live defs live keys (Take c) has = refl
key_live defs live keys (Close c) has = refl
key_live defs live keys (Ack q i) has = refl
key_live defs live keys (Release q i) has = refl
key_live defs live keys (Lock q i) has = refl
key_live defs live keys (Unlock q i) has = refl
key_live defs live keys (Steal q i) has = refl
key_live defs live keys Begin has = refl
key_live defs live keys Commit has = refl
key_live defs live keys Rollback has = refl

-- Once

count_last : {X : Type 0} (p : X → Bool) (xs : List X) (x : X) → count_by p (xs ++ x ∷ []) ≡ count_by p xs + cond (p x) 1 0
count_last p [] x = let e = count_more p x [] in omega (arith, e)
count_last p (y ∷ ys) x = let a = count_more p y (ys ++ x ∷ []) in let b = count_more p y ys in let c = count_last p ys x in omega (arith, a, b, c)

-- entries of which none stands twice, behind others of which none does
once_after : (defs : List Defined) (q id : ℕ) (before ks : List Kept) → has_double before ks ≡ false → count_by (lives_as defs q id) before ≤ 1 → count_by (lives_as defs q id) (before ++ ks) ≤ 1
once_after defs q id before [] none few = subst (λ (xs : List Kept). count_by (lives_as defs q id) xs ≤ 1) (sym (append-nil before)) few
once_after defs q id before (k ∷ ks) none few =
    subst (λ (xs : List Kept). count_by (lives_as defs q id) xs ≤ 1) (append_assoc before (k ∷ []) ks)
    (once_after defs q id (before ++ k ∷ []) ks (rest_fails (list_any (is_same k) before) (has_double (before ++ k ∷ []) ks) none) (by_test (lives_as defs q id k) refl))
  where
    by_test : (b : Bool) → lives_as defs q id k ≡ b → count_by (lives_as defs q id) (before ++ k ∷ []) ≤ 1
    by_test true e =
        let number = lives_number defs q id k e in
        let one = lives_id defs q id k e in
        let free = sym (any_same defs q k before number) ∙ first_fails (list_any (is_same k) before) (has_double (before ++ k ∷ []) ks) none in
        let zero_before = none_counted (lives_as defs q id) before (ap (λ (n : ℕ). list_any (lives_as defs q n) before) (sym one) ∙ free) in
        let last = count_last (lives_as defs q id) before k ∙ ap (λ (b : Bool). count_by (lives_as defs q id) before + cond b 1 0) e in
        omega (arith, zero_before, last)
    by_test false e =
        let last = count_last (lives_as defs q id) before k ∙ ap (λ (b : Bool). count_by (lives_as defs q id) before + cond b 1 0) e in
        omega (arith, few, last)

pub live_once : (defs : List Defined) (q id : ℕ) (live : List Kept) → has_double [] live ≡ false → count_by (lives_as defs q id) live ≤ 1
live_once defs q id live none = once_after defs q id [] live none (omega arith)

both_true : (a b : Bool) → (a && b) ≡ true → (a ≡ true) × (b ≡ true)
both_true true b e = (refl, e)
both_true false b e = absurd (cc)

-- what is live isn't put
not_put : (defs : List Defined) (live : List Kept) (q id : ℕ) (w : What) → list_any (lives_as defs q id) live ≡ true → puts_live defs live w ≡ false → is_put_of q id w ≡ false
not_put defs live q id (Put r m) lives none = by_test (is_put_of q id (Put r m)) refl where
  by_test : (b : Bool) → ((r == q) && (m.id == id)) ≡ b → b ≡ false
  by_test true e =
      let two = both_true (r == q) (m.id == id) e in
      let queue = eqb-true r q two.0 in
      let one = eqb-true m.id id two.1 in
      sym lives ∙ sym (λ i. list_any (lives_as defs (queue i) (one i)) live) ∙ none
  by_test false e = refl
not_put defs live q id (Take c) lives none = refl
not_put defs live q id (Close c) lives none = refl
not_put defs live q id (Ack r i) lives none = refl
not_put defs live q id (Release r i) lives none = refl
not_put defs live q id (Lock r i) lives none = refl
not_put defs live q id (Unlock r i) lives none = refl
not_put defs live q id (Steal r i) lives none = refl
not_put defs live q id Begin lives none = refl
not_put defs live q id Commit lives none = refl
not_put defs live q id Rollback lives none = refl

none_put : (defs : List Defined) (live : List Kept) (q id : ℕ) (ops : List Op) → list_any (lives_as defs q id) live ≡ true → AllByRecursion (λ op. puts_live defs live op.what ≡ false) ops → count_by (λ op. is_put_of q id op.what) ops ≡ 0
none_put defs live q id [] lives all = refl
none_put defs live q id (op ∷ ops) lives all =
    let more = count_more (λ (op : Op). is_put_of q id op.what) op ops ∙ ap (λ (b : Bool). cond b 1 0 + count_by (λ (op : Op). is_put_of q id op.what) ops) (not_put defs live q id op.what lives all.0) in
    let rest = none_put defs live q id ops lives all.1 in
    omega (arith, more, rest)

pub once_in_all : (defs : List Defined) (live : List Kept) (ops : List Op) → has_double [] live ≡ false → AllByRecursion (λ op. puts_live defs live op.what ≡ false) ops → PutsOnce ops
    → (q id : ℕ) → count_by (lives_as defs q id) live + count_by (λ op. is_put_of q id op.what) ops ≤ 1
once_in_all defs live ops none all puts q id = by_test (list_any (lives_as defs q id) live) refl where
  by_test : (b : Bool) → list_any (lives_as defs q id) live ≡ b → count_by (lives_as defs q id) live + count_by (λ op. is_put_of q id op.what) ops ≤ 1
  by_test true e = let few = live_once defs q id live none in let zero_put = none_put defs live q id ops e all in omega (arith, few, zero_put)
  by_test false e = let zero_live = none_counted (lives_as defs q id) live e in let few = puts q id in omega (arith, few, zero_live)
