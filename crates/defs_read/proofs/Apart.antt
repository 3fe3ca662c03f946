-- definitions that have no cause: names are distinct, and consumers numbered in order
use Rattle.std.proofs.Common.{◌≡◌, ℕ, zero, suc, ◌+◌, Bool, true, false, ◌||◌, List, [], ◌∷◌, ◌++◌, length, map, Option, Some, None, refl, sym, ap, subst, ◌∙◌, arith, append_assoc}
use Rattle.std.specs.Prelude.{slice_get}
use Rattle.std.specs.List.{AllByRecursion, IsDistinct}
use Rattle.std.specs.Str.{bytes_eq}
use Rattle.std.proofs.lemmas.Cmp.{nat_list_eq_equiv}
use Rattle.std.proofs.lemmas.List.{append-nil, map-append}
use Rattle.serde_json.specs.Data.{Data, Items, no_items, item}
use Rattle.fields_read.specs.Fields.{items_at}
use Rattle.fields_read.specs.Forms.{count_items, first_of}
use Rattle.fields_read.specs.declared.fields.Field.TheVariants.{Consumers}
use Rattle.defs_read.specs.Causes.{consumer_causes, consumers_fault, is_among, name_in, names_in, queue_causes, queues_fault}
use Rattle.defs_read.specs.Defined.{Defined, consumers_in}
use Rattle.defs_read.specs.Values.{consumers_of, queues_of}
use Rattle.defs_read.specs.declared.defs.ConsumerDef.{ConsumerDef}
use Rattle.defs_read.specs.declared.faults.DefsFault.TheVariants.{DoubleName}
use Rattle.defs_read.proofs.NoCauses.{later_cause, no_cause, no_consumer_cause, own_cause, untested}

-- ---- distinct names

pub none_distinct : IsDistinct bytes_eq []
unfolding IsDistinct
none_distinct = tt

neither : (a b : Bool) → (a || b) ≡ false → (a ≡ false) × (b ≡ false)
neither true b none = cc
neither false b none = (refl, none)

all_more : (P : List ℕ → Type 0) (names : List (List ℕ)) (name : List ℕ) → AllByRecursion P names → P name → AllByRecursion P (names ++ name ∷ [])
all_more P [] name each last = (last, tt)
all_more P (n ∷ names) name each last = (each.0, all_more P names name each.1 last)

-- a name that is not among distinct ones comes behind them
pub distinct_more : (names : List (List ℕ)) (name : List ℕ) → IsDistinct bytes_eq names → is_among name names ≡ false → IsDistinct bytes_eq (names ++ name ∷ [])
unfolding IsDistinct
distinct_more [] name distinct new = (tt, tt)
distinct_more (n ∷ names) name distinct new =
    let apart = neither (bytes_eq name n) (is_among name names) new in
    (all_more (λ y. bytes_eq n y ≡ false) names name distinct.0 (nat_list_eq_equiv.symm n name ∙ apart.0), distinct_more names name distinct.1 apart.1)

-- the names of consumers behind those before them
names_apart : (names : List (List ℕ)) (ds : Items) → consumers_fault names ds ≡ None → IsDistinct bytes_eq names → IsDistinct bytes_eq (names ++ names_in ds)
names_apart names no_items none distinct = subst (IsDistinct bytes_eq) (sym (append-nil names)) distinct
names_apart names (item d ds) none distinct =
    let causes = first_of (consumer_causes names d) ∷ consumers_fault (names ++ name_in d ∷ []) ds ∷ [] in
    let new : is_among (name_in d) names ≡ false = untested (is_among (name_in d) names) DoubleName (no_cause (consumer_causes names d) 3 (no_cause causes 0 none)) in
    subst (IsDistinct bytes_eq) (append_assoc names (name_in d ∷ []) (names_in ds)) (names_apart (names ++ name_in d ∷ []) ds (no_cause causes 1 none) (distinct_more names (name_in d) distinct new))

names_of_consumers : (n : ℕ) (ds : Items) → map (λ c. c.name) (consumers_of n ds) ≡ names_in ds
names_of_consumers n no_items = refl
names_of_consumers n (item d ds) = ap (λ (names : List (List ℕ)). name_in d ∷ names) (names_of_consumers (n + 1) ds)

-- and those of all queues
pub consumers_apart : (n : ℕ) (queues consumers : List (List ℕ)) (ds : Items) → queues_fault queues consumers ds ≡ None → IsDistinct bytes_eq consumers → IsDistinct bytes_eq (consumers ++ map (λ c. c.name) (consumers_in (queues_of n ds)))
consumers_apart n queues consumers no_items none distinct = subst (IsDistinct bytes_eq) (sym (append-nil consumers)) distinct
consumers_apart n queues consumers (item d ds) none distinct =
    let list = items_at Consumers d in
    let rest = consumers_in (queues_of (n + count_items list) ds) in
    let behind = map (λ (c : ConsumerDef). c.name) rest in
    let names : map (λ c. c.name) (consumers_of n list ++ rest) ≡ names_in list ++ behind =
    map-append (λ (c : ConsumerDef). c.name) (consumers_of n list) rest ∙ ap (λ (names : List (List ℕ)). names ++ behind) (names_of_consumers n list) in
    let own : IsDistinct bytes_eq (consumers ++ names_in list) = names_apart consumers list (no_consumer_cause queues consumers d (own_cause queues consumers d ds none)) distinct in
    let all : IsDistinct bytes_eq ((consumers ++ names_in list) ++ behind) =
    consumers_apart (n + count_items list) (queues ++ name_in d ∷ []) (consumers ++ names_in list) ds (later_cause queues consumers d ds none) own in
    subst (IsDistinct bytes_eq) (append_assoc consumers (names_in list) behind ∙ ap (λ (names : List (List ℕ)). consumers ++ names) (sym names)) all

-- the names of queues
pub queue_names_of : (n : ℕ) (ds : Items) → map (λ q. q.name) (queues_of n ds) ≡ names_in ds
queue_names_of n no_items = refl
queue_names_of n (item d ds) = ap (λ (names : List (List ℕ)). name_in d ∷ names) (queue_names_of (n + count_items (items_at Consumers d)) ds)

pub queues_apart : (queues consumers : List (List ℕ)) (ds : Items) → queues_fault queues consumers ds ≡ None → IsDistinct bytes_eq queues → IsDistinct bytes_eq (queues ++ names_in ds)
queues_apart queues consumers no_items none distinct = subst (IsDistinct bytes_eq) (sym (append-nil queues)) distinct
queues_apart queues consumers (item d ds) none distinct =
    let new : is_among (name_in d) queues ≡ false = untested (is_among (name_in d) queues) DoubleName (no_cause (queue_causes queues consumers d) 3 (own_cause queues consumers d ds none)) in
    subst (IsDistinct bytes_eq) (append_assoc queues (name_in d ∷ []) (names_in ds))
    (queues_apart (queues ++ name_in d ∷ []) (consumers ++ names_in (items_at Consumers d)) ds (later_cause queues consumers d ds none) (distinct_more queues (name_in d) distinct new))

-- ---- numbers

-- consumers are numbered from n
abbrev pub NumberedFrom : ℕ → List ConsumerDef → Type 0
NumberedFrom n [] = Unit {0}
NumberedFrom n (c ∷ cs) = (c.number ≡ n) × NumberedFrom (n + 1) cs

numbered_consumers : (n : ℕ) (ds : Items) → NumberedFrom n (consumers_of n ds)
numbered_consumers n no_items = tt
numbered_consumers n (item d ds) = (refl, numbered_consumers (n + 1) ds)

numbered_append : (n m : ℕ) (xs ys : List ConsumerDef) → n + length xs ≡ m → NumberedFrom n xs → NumberedFrom m ys → NumberedFrom n (xs ++ ys)
numbered_append n m [] ys same numbers behind = let is : m ≡ n = omega arith in subst (λ k. NumberedFrom k ys) is behind
numbered_append n m (x ∷ xs) ys same numbers behind = (numbers.0, numbered_append (n + 1) m xs ys (omega arith) numbers.1 behind)

count_consumers : (n : ℕ) (ds : Items) → length (consumers_of n ds) ≡ count_items ds
count_consumers n no_items = refl
count_consumers n (item d ds) = ap suc (count_consumers (n + 1) ds)

pub numbered_queues : (n : ℕ) (ds : Items) → NumberedFrom n (consumers_in (queues_of n ds))
numbered_queues n no_items = tt
numbered_queues n (item d ds) =
    let list = items_at Consumers d in
    numbered_append n (n + count_items list) (consumers_of n list) (consumers_in (queues_of (n + count_items list) ds)) (ap (λ k. n + k) (count_consumers n list)) (numbered_consumers n list) (numbered_queues (n + count_items list) ds)

pub numbered_at : (n : ℕ) (cs : List ConsumerDef) (i : ℕ) (c : ConsumerDef) → NumberedFrom n cs → slice_get cs i ≡ Some c → c.number ≡ n + i
numbered_at n [] i c numbers found = cc
numbered_at n (x ∷ xs) zero c numbers found = let same : x ≡ c = cc in omega (arith, ap (λ (k : ConsumerDef). k.number) same, numbers.0)
numbered_at n (x ∷ xs) (suc i) c numbers found = omega (arith, numbered_at (n + 1) xs i c numbers.1 found)
