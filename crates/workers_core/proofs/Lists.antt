-- hands in their list
use Rattle.std.proofs.Common.{◌≡◌, ◌<◌, ℕ, zero, suc, ◌-◌, ◌==◌, ◌&&◌, not, Bool, true, false, cond, Some, None, List, [], ◌∷◌, length, take, drop, filter, find, slice_get, refl, sym, ap, ◌∙◌, subst, ⊎_elim, eq-eqb, eqb-true, arith}
use Rattle.std.specs.List.{remove}
use Rattle.std.specs.Prelude.{get_or}
use Rattle.std.specs.Option.{option_map}
use Rattle.std.proofs.lemmas.Option.{slice_get-map, slice_get_read}
use Rattle.std.proofs.lemmas.Bool.{cases_Bool}
use Rattle.queue_model.specs.Keyed.{Apart}
use Rattle.queue_model.proofs.KeyedLemmas.{find-here, find-past, find_none-head, find_none-tail}
use Rattle.line_core.specs.Hands.{Hand, is_this, last_of, without, replaced, same_hand}
use Rattle.workers_core.specs.Held.{hand_of, hands_of}
use Rattle.workers_core.specs.declared.held.Kept.{Kept}

module _ {X : Type 0} where
  pub find_at : (p : X → Bool) (xs : List X) (i : ℕ) (x : X) → find p (take i xs) ≡ None → slice_get xs i ≡ Some x → p x ≡ true → find p xs ≡ Some x
  find_at p [] i x none at hit = absurd (cc)
  find_at p (y ∷ ys) zero x none at hit = let same : x ≡ y = cc in subst (λ (z : X). find p (y ∷ ys) ≡ Some z) (sym same) (find-here p y ys (subst (λ (z : X). p z ≡ true) same hit))
  find_at p (y ∷ ys) (suc i) x none at hit =
      find-past p y ys (find_none-head p y (take i ys) none) ∙ find_at p ys i x (find_none-tail p y (take i ys) none) at hit

  pub find_next : (p : X → Bool) (xs : List X) (i : ℕ) (x : X) → find p (take i xs) ≡ None → slice_get xs i ≡ Some x → p x ≡ false → find p (take (suc i) xs) ≡ None
  find_next p [] i x none at miss = absurd (cc)
  find_next p (y ∷ ys) zero x none at miss = let same : x ≡ y = cc in find-past p y [] (subst (λ (z : X). p z ≡ false) same miss)
  find_next p (y ∷ ys) (suc i) x none at miss =
      find-past p y (take (suc i) ys) (find_none-head p y (take i ys) none) ∙ find_next p ys i x (find_none-tail p y (take i ys) none) at miss

  pub filter_here : (p : X → Bool) (x : X) (xs : List X) → p x ≡ true → filter p (x ∷ xs) ≡ x ∷ filter p xs
  filter_here p x xs hit = ap (λ (b : Bool). cond b (x ∷ filter p xs) (filter p xs)) hit

  pub filter_past : (p : X → Bool) (x : X) (xs : List X) → p x ≡ false → filter p (x ∷ xs) ≡ filter p xs
  filter_past p x xs miss = ap (λ (b : Bool). cond b (x ∷ filter p xs) (filter p xs)) miss

  -- from an index on none passes
  pub filter_more : (p : X → Bool) (xs : List X) (i : ℕ) (x : X) → filter p (drop (suc i) xs) ≡ [] → slice_get xs i ≡ Some x → p x ≡ false → filter p (drop i xs) ≡ []
  filter_more p [] i x none at miss = absurd (cc)
  filter_more p (y ∷ ys) zero x none at miss = let same : x ≡ y = cc in filter_past p y ys (subst (λ (z : X). p z ≡ false) same miss) ∙ none
  filter_more p (y ∷ ys) (suc i) x none at miss = filter_more p ys i x none at miss

last_cons : (y x : Hand) (zs : List Hand) → last_of zs ≡ Some x → last_of (y ∷ zs) ≡ Some x
last_cons y x [] e = absurd (cc)
last_cons y x (z ∷ zs) e =
    let a : length (y ∷ z ∷ zs) - 1 ≡ suc (length zs) = omega arith in
    let b : length (z ∷ zs) - 1 ≡ length zs = omega arith in
    ap (slice_get (y ∷ z ∷ zs)) a ∙ sym (ap (slice_get (z ∷ zs)) b) ∙ e

pub last_at : (p : Hand → Bool) (xs : List Hand) (i : ℕ) (x : Hand) → filter p (drop (suc i) xs) ≡ [] → slice_get xs i ≡ Some x → p x ≡ true → last_of (filter p xs) ≡ Some x
last_at p [] i x none at hit = absurd (cc)
last_at p (y ∷ ys) zero x none at hit =
    let same : y ≡ x = cc in
    ap last_of (filter_here p y ys (subst (λ (z : Hand). p z ≡ true) (sym same) hit) ∙ ap (λ (zs : List Hand). y ∷ zs) none) ∙ ap Some same
last_at p (y ∷ ys) (suc i) x none at hit =
    let later = last_at p ys i x none at hit in
    elim (p y) as (λ b. last_of (cond b (y ∷ filter p ys) (filter p ys)) ≡ Some x) [ true ↦ last_cons y x (filter p ys) later | false ↦ later ]

-- Removal

-- a hand is itself
pub same_self : (k : Hand) → same_hand k k ≡ true
same_self k = rw (eq-eqb k.queue k.queue refl) (rw (eq-eqb k.id k.id refl) refl)

-- where none is this entry, none is taken
pub without_none : (q id : ℕ) (ks : List Hand) → find (is_this q id) ks ≡ None → without q id ks ≡ ks
without_none q id [] none = refl
without_none q id (k ∷ ks) none =
    filter_here (λ j. not (is_this q id j)) k ks (ap not (find_none-head (is_this q id) k ks none)) ∙ ap (λ (zs : List Hand). k ∷ zs) (without_none q id ks (find_none-tail (is_this q id) k ks none))

-- the two tests of one entry agree
pub same_key : (j k : Hand) (q id : ℕ) → is_this q id k ≡ true → (k.queue ≡ q) × (k.id ≡ id)
same_key j k q id e = ⊎_elim
    (λ (a : (k.queue == q) ≡ true). (eqb-true k.queue q a, eqb-true k.id id (sym (ap (λ (b : Bool). b && (k.id == id)) a) ∙ e)))
    (λ (a : (k.queue == q) ≡ false). absurd (let bad : false ≡ true = sym (ap (λ (b : Bool). b && (k.id == id)) a) ∙ e in cc))
    (cases_Bool (k.queue == q))

-- what is removed at an index is the entry of its id
pub find_none_get : (p : Hand → Bool) (ks : List Hand) (i : ℕ) (k : Hand) → find p ks ≡ None → slice_get ks i ≡ Some k → p k ≡ false
find_none_get p [] i k none at = absurd (cc)
find_none_get p (j ∷ ks) zero k none at = let same : j ≡ k = cc in subst (λ (z : Hand). p z ≡ false) same (find_none-head p j ks none)
find_none_get p (j ∷ ks) (suc i) k none at = find_none_get p ks i k (find_none-tail p j ks none) at

-- sameness goes both ways
pub same_sym : (j k : Hand) → same_hand j k ≡ false → same_hand k j ≡ false
same_sym j k e = ⊎_elim
    (λ (a : same_hand k j ≡ true). absurd (let t = same_key k j k.queue k.id a in let bad : true ≡ false = sym (rw (sym t.0) (rw (sym t.1) (same_self j))) ∙ e in cc))
    (λ (a : same_hand k j ≡ false). a)
    (cases_Bool (same_hand k j))

pub remove_lost : (ks : List Hand) (i : ℕ) (k : Hand) → Apart same_hand ks → slice_get ks i ≡ Some k → remove ks i ≡ without k.queue k.id ks
remove_lost [] i k apart at = absurd (cc)
remove_lost (j ∷ ks) zero k apart at =
    let same : j ≡ k = cc in
    let hit : is_this k.queue k.id j ≡ true = subst (λ (z : Hand). is_this k.queue k.id z ≡ true) (sym same) (same_self k) in
    sym (filter_past (λ z. not (is_this k.queue k.id z)) j ks (ap not hit) ∙ without_none k.queue k.id ks (subst (λ (z : Hand). find (same_hand z) ks ≡ None) same apart.0))
remove_lost (j ∷ ks) (suc i) k apart at =
    let miss : is_this k.queue k.id j ≡ false = same_sym j k (find_none_get (same_hand j) ks i k apart.0 at) in
    ap (λ (zs : List Hand). j ∷ zs) (remove_lost ks i k apart.1 at) ∙ sym (filter_here (λ z. not (is_this k.queue k.id z)) j ks (ap not miss))

-- the hand at a place of the held list
pub hand_got : (xs : List Kept) (i : ℕ) (x : Kept) → i < length xs → x ≡ get_or xs i x → slice_get (hands_of xs) i ≡ Some (hand_of x)
hand_got xs i x within read = slice_get-map hand_of xs i ∙ ap (option_map hand_of) (slice_get_read xs (length xs) i x refl within read)

-- where none is this entry, none is replaced
pub replaced_none : (j : Hand) (ks : List Hand) → find (is_this j.queue j.id) ks ≡ None → replaced j ks ≡ ks
replaced_none j [] none = refl
replaced_none j (k ∷ ks) none =
    ap (λ (b : Bool). cond b j k ∷ replaced j ks) (find_none-head (is_this j.queue j.id) k ks none) ∙ ap (λ (zs : List Hand). k ∷ zs) (replaced_none j ks (find_none-tail (is_this j.queue j.id) k ks none))
