-- masks, one consumer after another
use Rattle.std.proofs.Common.{◌≡◌, ◌≢◌, ℕ, suc, zero, ◌+◌, ◌*◌, ◌%◌, ◌^◌, ◌<◌, ◌≤◌, List, [], ◌∷◌, ◌++◌, length, take, get_or, Some, None, refl, arith, add-one, inl, inr, true, false}
use Rattle.std.specs.Prelude.{IsSomeAnd, slice_get, ◌↔◌, ◌⊎◌, bit_or}
use Rattle.std.specs.Int.{bit_at, w64}
use Rattle.std.proofs.lemmas.Bool.{cases_order}
use Rattle.std.proofs.lemmas.Nat.{or_lt}
use Rattle.std.proofs.lemmas.Nat.Bits.{bit_at_set_same, bit_at_set_other}
use Rattle.std.proofs.lemmas.List.{length-take-le}
use Rattle.std.proofs.lemmas.Option.{slice_get_past}
use Rattle.std.proofs.Math.Pow.{pow-lt}
use Rattle.std.proofs.Math.Seq.{take-suc}
use Rattle.message_core.specs.Spelling.{Content}
use Rattle.defs_read.specs.declared.defs.ConsumerDef.{ConsumerDef}
use Rattle.defs_read.specs.Slips.{IsMask, Wants}

get_front : {A : Type 0} (xs : List A) (x : A) (c : ℕ) → c < length xs → slice_get (xs ++ x ∷ []) c ≡ slice_get xs c
get_front [] x c below = absurd (omega arith)
get_front (y ∷ ys) x zero below = refl
get_front (y ∷ ys) x (suc c) below = get_front ys x c (omega arith)

get_last : {A : Type 0} (xs : List A) (x : A) → slice_get (xs ++ x ∷ []) (length xs) ≡ Some x
get_last [] x = refl
get_last (y ∷ ys) x = get_last ys x

get_behind : {A : Type 0} (xs : List A) (x : A) (c : ℕ) → length xs < c → slice_get (xs ++ x ∷ []) c ≡ None
get_behind [] x zero above = absurd (omega arith)
get_behind [] x (suc c) above = refl
get_behind (y ∷ ys) x zero above = absurd (omega arith)
get_behind (y ∷ ys) x (suc c) above = get_behind ys x c (omega arith)

-- a consumer behind those that the mask tells of
module _ (mask mask' : ℕ) (front : List ConsumerDef) (x : ConsumerDef) (m : Content) (was : IsMask mask front m)
    (own : (bit_at mask' (length front) ≡ 1) ↔ Wants x.selector m)
    (others : (c : ℕ) → c ≢ length front → bit_at mask' c ≡ bit_at mask c) where
  at_place : (c : ℕ) → (c ≡ length front) ⊎ ((c < length front) ⊎ (length front < c)) → (bit_at mask' c ≡ 1) ↔ IsSomeAnd (slice_get (front ++ x ∷ []) c) (λ consumer. Wants consumer.selector m)
  at_place c (inl same) = rw (same, get_last front x) own
  at_place c (inr (inl below)) =
      let other : c ≢ length front = omega arith in
      rw (others c other, get_front front x c below) (was c)
  at_place c (inr (inr above)) =
      let other : c ≢ length front = omega arith in
      let past : length front ≤ c = omega arith in
      rw (others c other, get_behind front x c above) (rw (slice_get_past front c past) at (was c))

  pub grown : IsMask mask' (front ++ x ∷ []) m
  grown c = at_place c (cases_order c (length front))

-- its bit is set, as it wants the message
pub set_bit : (mask : ℕ) (front : List ConsumerDef) (x : ConsumerDef) (m : Content) → length front < 64 → IsMask mask front m → Wants x.selector m → IsMask (bit_or mask (1 * 2 ^ length front % 2 ^ 64)) (front ++ x ∷ []) m
set_bit mask front x m within was wanted =
    grown mask (bit_or mask (1 * 2 ^ length front % 2 ^ 64)) front x m was (λ set. wanted, λ w. bit_at_set_same w64 mask (length front) within) (λ c other. bit_at_set_other w64 mask (length front) within c other)

-- or not, as it doesn't
pub left_bit : (mask : ℕ) (front : List ConsumerDef) (x : ConsumerDef) (m : Content) → IsMask mask front m → (Wants x.selector m → ⊥) → IsMask mask (front ++ x ∷ []) m
left_bit mask front x m was unwanted =
    let none : (bit_at mask (length front) ≡ 1) ↔ ⊥ = rw (slice_get_past front (length front) (omega arith)) at (was (length front)) in
    grown mask mask front x m was (λ set. absurd (none.0 set), λ w. absurd (unwanted w)) (λ c other. refl)

-- a mask of the consumers before the one at i is below 2 ^ i
pub still_narrow : (mask i : ℕ) → mask < 2 ^ i → mask < 2 ^ (i + 1)
still_narrow mask i narrow =
    let less : i < i + 1 = omega arith in
    let grows : 2 ^ i < 2 ^ (i + 1) = pow-lt less in
    omega arith

pub with_bit : (mask i : ℕ) → i < 64 → mask < 2 ^ i → bit_or mask (1 * 2 ^ i % 2 ^ 64) < 2 ^ (i + 1)
with_bit mask i below narrow =
    let less : i < i + 1 = omega arith in
    let grows : 2 ^ i < 2 ^ (i + 1) = pow-lt less in
    let bit : 1 * 2 ^ i % 2 ^ 64 < 2 ^ (i + 1) = omega arith in
    or_lt (i + 1) mask (1 * 2 ^ i % 2 ^ 64) (still_narrow mask i narrow) bit

-- the same at an index
pub more_consumers : (consumers : List ConsumerDef) (i : ℕ) (x : ConsumerDef) → i < length consumers → x ≡ get_or consumers i x → take (i + 1) consumers ≡ take i consumers ++ x ∷ []
more_consumers consumers i x below is = rw (add-one, take-suc consumers i x below, ← is) refl

pub set_next : (mask i : ℕ) (consumers : List ConsumerDef) (x : ConsumerDef) (m : Content) → i < length consumers → length consumers ≤ 64 → x ≡ get_or consumers i x
    → IsMask mask (take i consumers) m → Wants x.selector m → IsMask (bit_or mask (1 * 2 ^ i % 2 ^ 64)) (take (i + 1) consumers) m
set_next mask i consumers x m below few is was wanted =
    let count : length (take i consumers) ≡ i = length-take-le i consumers (omega arith) in
    let within : length (take i consumers) < 64 = omega arith in
    rw (more_consumers consumers i x below is) (rw count at (set_bit mask (take i consumers) x m within was wanted))

pub leave_next : (mask i : ℕ) (consumers : List ConsumerDef) (x : ConsumerDef) (m : Content) → i < length consumers → x ≡ get_or consumers i x
    → IsMask mask (take i consumers) m → (Wants x.selector m → ⊥) → IsMask mask (take (i + 1) consumers) m
leave_next mask i consumers x m below is was unwanted = rw (more_consumers consumers i x below is) (left_bit mask (take i consumers) x m was unwanted)

pub false_true : false ≡ true → ⊥
false_true same = cc
