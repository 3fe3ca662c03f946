-- the numbers of queues, and entries that are the same
use Rattle.std.proofs.Common.{◌≡◌, ℕ, suc, ◌+◌, ◌<◌, ◌≤◌, Bool, true, false, cond, arith, eqb-true, eq-eqb, Option, Some, None, List, [], ◌∷◌, length, refl, sym, ap, ◌∙◌}
use Rattle.std.specs.Prelude.{◌==◌, ◌&&◌, ◌||◌}
use Rattle.std.specs.List.{count_by, list_any}
use Rattle.std.specs.Str.{bytes_eq}
use Rattle.std.proofs.lemmas.Slice.Eq.{bytes_eq-Decides}
use Rattle.std.proofs.lemmas.List.Sums.{sum_by-cons}
use Rattle.defs_read.specs.Defined.{Defined}
use Rattle.recover_core.specs.declared.kept.Kept.{Kept}
use Rattle.resume_core.specs.Faults.{is_same}
use Rattle.resume_core.specs.Live.{is_number, is_of, lives_as, number_from, number_of}

-- a number that was found is not below the first, and within the list
pub number_low : (n q : ℕ) (name : List ℕ) (defs : List Defined) → number_from n name defs ≡ Some q → n ≤ q
number_low n q name [] e = absurd (cc)
number_low n q name (def ∷ defs) e = by_test (bytes_eq def.name name) (number_low (n + 1) q name defs) e where
  by_test : (b : Bool) → (number_from (n + 1) name defs ≡ Some q → n + 1 ≤ q) → cond b (Some n) (number_from (n + 1) name defs) ≡ Some q → n ≤ q
  by_test true later h = let is : n ≡ q = cc in omega (arith, is)
  by_test false later h = let low = later h in omega (arith, low)

pub number_within : (n q : ℕ) (name : List ℕ) (defs : List Defined) → number_from n name defs ≡ Some q → q < n + length defs
number_within n q name [] e = absurd (cc)
number_within n q name (def ∷ defs) e = by_test (bytes_eq def.name name) (number_within (n + 1) q name defs) e where
  by_test : (b : Bool) → (number_from (n + 1) name defs ≡ Some q → q < n + 1 + length defs) → cond b (Some n) (number_from (n + 1) name defs) ≡ Some q → q < n + suc (length defs)
  by_test true later h = let is : n ≡ q = cc in omega (arith, is)
  by_test false later h = let low = later h in omega (arith, low)

-- two names with one number are one name
pub one_name : (n q : ℕ) (a b : List ℕ) (defs : List Defined) → number_from n a defs ≡ Some q → number_from n b defs ≡ Some q → a ≡ b
one_name n q a b [] e f = absurd (cc)
one_name n q a b (def ∷ defs) e f = by_test (bytes_eq def.name a) (bytes_eq def.name b) (one_name (n + 1) q a b defs) refl refl e f where
  by_test : (x y : Bool) → (number_from (n + 1) a defs ≡ Some q → number_from (n + 1) b defs ≡ Some q → a ≡ b) → bytes_eq def.name a ≡ x → bytes_eq def.name b ≡ y → cond x (Some n) (number_from (n + 1) a defs) ≡ Some q → cond y (Some n) (number_from (n + 1) b defs) ≡ Some q → a ≡ b
  by_test true true later s t g h = sym ((bytes_eq-Decides def.name a).0 s) ∙ (bytes_eq-Decides def.name b).0 t
  by_test true false later s t g h = let is : n ≡ q = cc in let low = number_low (n + 1) q b defs h in absurd (omega (arith, is, low))
  by_test false true later s t g h = let is : n ≡ q = cc in let low = number_low (n + 1) q a defs g in absurd (omega (arith, is, low))
  by_test false false later s t g h = later g h

-- Entries

pub eqb_swap : (a b : ℕ) → (a == b) ≡ (b == a)
eqb_swap a b = by_test (a == b) refl where
  by_test : (x : Bool) → (a == b) ≡ x → x ≡ (b == a)
  by_test true e = sym (eq-eqb b a (sym (eqb-true a b e)))
  by_test false e = other (b == a) refl where
    other : (y : Bool) → (b == a) ≡ y → false ≡ y
    other true f = sym e ∙ eq-eqb a b (sym (eqb-true b a f))
    other false f = refl

and_swap : (a b : Bool) → (a && b) ≡ (b && a)
and_swap true true = refl
and_swap true false = refl
and_swap false true = refl
and_swap false false = refl

number_here : (q : ℕ) → is_number q (Some q) ≡ true
number_here q = eq-eqb q q refl

pub number_is : (q : ℕ) (o : Option ℕ) → is_number q o ≡ true → o ≡ Some q
number_is q None e = absurd (cc)
number_is q (Some p) e = ap (λ (n : ℕ). Some n) (eqb-true p q e)

-- an entry is of queue q where it has the name of one that is
of_name : (defs : List Defined) (q : ℕ) (j k : Kept) → number_of defs k ≡ Some q → bytes_eq k.queue j.queue ≡ is_of defs q j
of_name defs q j k e = by_test (bytes_eq k.queue j.queue) refl where
  by_test : (b : Bool) → bytes_eq k.queue j.queue ≡ b → b ≡ is_of defs q j
  by_test true s =
      let same : k.queue ≡ j.queue = (bytes_eq-Decides k.queue j.queue).0 s in
      sym (ap (is_number q) (sym (ap (λ (name : List ℕ). number_from 0 name defs) same) ∙ e) ∙ number_here q)
  by_test false s = other (is_of defs q j) refl where
    other : (y : Bool) → is_of defs q j ≡ y → false ≡ y
    other true f = sym s ∙ (bytes_eq-Decides k.queue j.queue).1 (one_name 0 q k.queue j.queue defs e (number_is q (number_of defs j) f))
    other false f = refl

-- an entry is the same as one of queue q where it is of queue q and has its id
pub same_as : (defs : List Defined) (q : ℕ) (k j : Kept) → number_of defs k ≡ Some q → is_same k j ≡ lives_as defs q k.message.id j
same_as defs q k j e =
    (λ i. eqb_swap k.message.id j.message.id i && of_name defs q j k e i)
    ∙ and_swap (j.message.id == k.message.id) (is_of defs q j)

pub any_same : (defs : List Defined) (q : ℕ) (k : Kept) (ks : List Kept) → number_of defs k ≡ Some q → list_any (is_same k) ks ≡ list_any (lives_as defs q k.message.id) ks
any_same defs q k ks e = ap (λ (test : Kept → Bool). list_any test ks) (λ i j. same_as defs q k j e i)

-- who lives as this is of the queue and has the id
and_first : (a b : Bool) → (a && b) ≡ true → a ≡ true
and_first true b e = refl
and_first false b e = e

and_second : (a b : Bool) → (a && b) ≡ true → b ≡ true
and_second true b e = e
and_second false b e = absurd (cc)

pub lives_number : (defs : List Defined) (q id : ℕ) (k : Kept) → lives_as defs q id k ≡ true → number_of defs k ≡ Some q
lives_number defs q id k e = number_is q (number_of defs k) (and_first (is_of defs q k) (k.message.id == id) e)

pub lives_id : (defs : List Defined) (q id : ℕ) (k : Kept) → lives_as defs q id k ≡ true → k.message.id ≡ id
lives_id defs q id k e = eqb-true k.message.id id (and_second (is_of defs q k) (k.message.id == id) e)

-- Counts

pub count_more : {X : Type 0} (p : X → Bool) (x : X) (xs : List X) → count_by p (x ∷ xs) ≡ cond (p x) 1 0 + count_by p xs
count_more {X} p x xs = sum_by-cons (λ (y : X). cond (p y) 1 0) x xs

or_none : (a b : Bool) → (a || b) ≡ false → a ≡ false
or_none true b e = e
or_none false b e = refl

or_rest : (a b : Bool) → (a || b) ≡ false → b ≡ false
or_rest true b e = absurd (cc)
or_rest false b e = e

pub none_counted : {X : Type 0} (p : X → Bool) (xs : List X) → list_any p xs ≡ false → count_by p xs ≡ 0
none_counted p [] e = refl
none_counted p (x ∷ xs) e =
    let more = count_more p x xs ∙ ap (λ (b : Bool). cond b 1 0 + count_by p xs) (or_none (p x) (list_any p xs) e) in
    let rest = none_counted p xs (or_rest (p x) (list_any p xs) e) in
    omega (arith, more, rest)

pub first_fails : (a b : Bool) → (a || b) ≡ false → a ≡ false
first_fails a b e = or_none a b e

pub rest_fails : (a b : Bool) → (a || b) ≡ false → b ≡ false
rest_fails a b e = or_rest a b e
