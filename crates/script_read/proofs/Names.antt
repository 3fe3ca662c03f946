-- the queue and the consumer of a name, place by place
use Rattle.std.proofs.Common.{◌≡◌, ℕ, ◌<◌, ◌+◌, List, [], ◌∷◌, ◌++◌, length, map, Bool, true, false, cond, not, Option, Some, None, drop, get_or, refl, ap, add-one, drop-cons}
use Rattle.std.specs.Prelude.{option_map}
use Rattle.std.specs.List.{find, position, prefix_len}
use Rattle.std.proofs.lemmas.List.{length-map}
use Rattle.defs_read.specs.Defined.{Defined, defined, consumers_in}
use Rattle.defs_read.specs.declared.defs.QueueDef.{QueueDef}
use Rattle.defs_read.specs.declared.defs.ConsumerDef.{ConsumerDef}

-- ---- the first that passes a test

found_by : (b : Bool) (x : ConsumerDef) (rest : Option ConsumerDef) → b ≡ true → cond b (Some x) rest ≡ Some x
found_by true x rest is = refl
found_by false x rest is = cc

passed_by : (b : Bool) (x : ConsumerDef) (rest : Option ConsumerDef) → b ≡ false → cond b (Some x) rest ≡ rest
passed_by true x rest is = cc
passed_by false x rest is = refl

pub found_at : (test : ConsumerDef → Bool) (xs : List ConsumerDef) (i : ℕ) (x : ConsumerDef) → i < length xs → x ≡ get_or xs i x → test x ≡ true → find test (drop i xs) ≡ Some x
found_at test xs i x below is passes = rw (drop-cons xs i x below, ← is) (found_by (test x) x _ passes)

pub passed_at : (test : ConsumerDef → Bool) (xs : List ConsumerDef) (i : ℕ) (x : ConsumerDef) → i < length xs → x ≡ get_or xs i x → test x ≡ false → find test (drop i xs) ≡ find test (drop (i + 1) xs)
passed_at test xs i x below is passes = rw (drop-cons xs i x below, ← is, add-one) (passed_by (test x) x _ passes)

-- ---- consumers of one queue after another

-- the number of the first that passes
abbrev pub number_of : (ConsumerDef → Bool) → List ConsumerDef → Option ℕ
number_of test xs = option_map (λ c. c.number) (find test xs)

first_by : (b : Bool) (x : ConsumerDef) (xs ys : List ConsumerDef) (test : ConsumerDef → Bool) (n : ℕ) → (number_of test xs ≡ Some n → number_of test (xs ++ ys) ≡ Some n) → option_map (λ c. c.number) (cond b (Some x) (find test xs)) ≡ Some n → option_map (λ c. c.number) (cond b (Some x) (find test (xs ++ ys))) ≡ Some n
first_by true x xs ys test n later is = is
first_by false x xs ys test n later is = later is

found_first : (test : ConsumerDef → Bool) (xs ys : List ConsumerDef) (n : ℕ) → number_of test xs ≡ Some n → number_of test (xs ++ ys) ≡ Some n
found_first test [] ys n is = cc
found_first test (x ∷ xs) ys n is = first_by (test x) x xs ys test n (found_first test xs ys n) is

later_by : (b : Bool) (x : ConsumerDef) (xs ys : List ConsumerDef) (test : ConsumerDef → Bool) → (number_of test xs ≡ None → number_of test (xs ++ ys) ≡ number_of test ys) → option_map (λ c. c.number) (cond b (Some x) (find test xs)) ≡ None → option_map (λ c. c.number) (cond b (Some x) (find test (xs ++ ys))) ≡ number_of test ys
later_by true x xs ys test later is = cc
later_by false x xs ys test later is = later is

found_later : (test : ConsumerDef → Bool) (xs ys : List ConsumerDef) → number_of test xs ≡ None → number_of test (xs ++ ys) ≡ number_of test ys
found_later test [] ys is = refl
found_later test (x ∷ xs) ys is = later_by (test x) x xs ys test (found_later test xs ys) is

-- the consumers of these queues
abbrev pub all_consumers : List QueueDef → List ConsumerDef
all_consumers queues = consumers_in (map defined queues)

pub queue_has : (test : ConsumerDef → Bool) (queues : List QueueDef) (i : ℕ) (q : QueueDef) (n : ℕ) → i < length queues → q ≡ get_or queues i q → number_of test q.consumers.items ≡ Some n → number_of test (all_consumers (drop i queues)) ≡ Some n
queue_has test queues i q n below is has = rw (drop-cons queues i q below, ← is) (found_first test q.consumers.items _ n has)

pub queue_lacks : (test : ConsumerDef → Bool) (queues : List QueueDef) (i : ℕ) (q : QueueDef) → i < length queues → q ≡ get_or queues i q → number_of test q.consumers.items ≡ None → number_of test (all_consumers (drop i queues)) ≡ number_of test (all_consumers (drop (i + 1) queues))
queue_lacks test queues i q below is lacks = rw (drop-cons queues i q below, ← is, add-one) (found_later test q.consumers.items _ lacks)

-- ---- the place of a queue

prefix_of : (test : Defined → Bool) (queues : List QueueDef) → prefix_len test (map defined queues) ≡ prefix_len (λ q. test (defined q)) queues
prefix_of test [] = refl
prefix_of test (q ∷ queues) = ap (λ (n : ℕ). cond (test (defined q)) (1 + n) 0) (prefix_of test queues)

pub position_of : (test : Defined → Bool) (queues : List QueueDef) → position test (map defined queues) ≡ position (λ q. test (defined q)) queues
position_of test queues = rw (prefix_of (λ q. not (test q)) queues, length-map queues defined) refl
