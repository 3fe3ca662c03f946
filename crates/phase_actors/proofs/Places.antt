-- the places of an actor's consumers
use Rattle.std.proofs.Common.{◌≡◌, ℕ, zero, suc, ◌+◌, ◌<◌, ◌≤◌, Bool, true, false, cond, Some, List, [], ◌∷◌, ◌++◌, length, drop, get_or, slice_get, refl, sym, ap, ◌∙◌, subst, arith, add-one, drop-cons, append-nil, append_assoc, ⊎_elim}
use Rattle.std.specs.Str.{bytes_eq}
use Rattle.std.proofs.lemmas.Bool.{cases_Bool, cond-true, cond-false}
use Rattle.std.proofs.lemmas.List.{drop_all}
use mathlib.Core.List.{Mem, mem-cons_self, mem-cons_of_mem}
use Rattle.entry_table.specs.Views.{Has}
use Rattle.defs_read.specs.declared.defs.ConsumerDef.{ConsumerDef}
use Rattle.phase_actors.specs.Passes.{places_from, places_of}

-- Members

mem_behind : (b : Bool) (n j : ℕ) (rest : List ℕ) → Mem n rest → Mem n (cond b (j ∷ rest) rest)
mem_behind true n j rest m = mem-cons_of_mem j m
mem_behind false n j rest m = m

has_place : (j i : ℕ) (name : List ℕ) (cs : List ConsumerDef) (c : ConsumerDef) → slice_get cs i ≡ Some c → bytes_eq c.actor name ≡ true → Mem (j + i) (places_from j name cs)
has_place j i name [] c at same = absurd (cc)
has_place j zero name (x ∷ xs) c at same =
    let e : c ≡ x = cc in
    let rest : List ℕ = places_from (j + 1) name xs in
    let hit : bytes_eq x.actor name ≡ true = subst (λ (z : ConsumerDef). bytes_eq z.actor name ≡ true) e same in
    let here : j ≡ j + 0 = omega arith in
    subst (Mem (j + 0)) (sym (cond-true (bytes_eq x.actor name) (j ∷ rest) rest hit)) (subst (λ (n : ℕ). Mem n (j ∷ rest)) here mem-cons_self)
has_place j (suc i) name (x ∷ xs) c at same =
    let later : Mem (j + 1 + i) (places_from (j + 1) name xs) = has_place (j + 1) i name xs c at same in
    let e : j + 1 + i ≡ j + suc i = omega arith in
    mem_behind (bytes_eq x.actor name) (j + suc i) j (places_from (j + 1) name xs) (subst (λ (n : ℕ). Mem n (places_from (j + 1) name xs)) e later)

-- each consumer of the actor has its place there
pub own_place : (i : ℕ) (name : List ℕ) (cs : List ConsumerDef) (c : ConsumerDef) → slice_get cs i ≡ Some c → bytes_eq c.actor name ≡ true → Mem i (places_of name cs)
own_place i name cs c at same = let e : 0 + i ≡ i = omega arith in subst (λ (n : ℕ). Mem n (places_of name cs)) e (has_place 0 i name cs c at same)

-- the number is that of the place of a consumer of this actor, the first of which is j
record IsPlace (j k : ℕ) (name : List ℕ) (cs : List ConsumerDef) : Type 0 where
  pub i : ℕ
  pub c : ConsumerDef
  pub number : k ≡ j + i
  pub there : slice_get cs i ≡ Some c
  pub same : bytes_eq c.actor name ≡ true

is_later : (j k : ℕ) (name : List ℕ) (x : ConsumerDef) (xs : List ConsumerDef) → IsPlace (j + 1) k name xs → IsPlace j k name (x ∷ xs)
is_later j k name x xs p = record { i = suc p.i; c = p.c; number = omega (arith, p.number); there = p.there; same = p.same }

is_place : (j k : ℕ) (name : List ℕ) (cs : List ConsumerDef) → Has k (places_from j name cs) → IsPlace j k name cs
is_place j k name [] has = absurd has
is_place j k name (x ∷ xs) has =
    let rest : List ℕ = places_from (j + 1) name xs in
    ⊎_elim
    (λ (hit : bytes_eq x.actor name ≡ true). ⊎_elim
    (λ (e : j ≡ k). record { i = 0; c = x; number = omega (arith, e); there = refl; same = hit })
    (λ (h : Has k rest). is_later j k name x xs (is_place (j + 1) k name xs h))
    (subst (Has k) (cond-true (bytes_eq x.actor name) (j ∷ rest) rest hit) has))
    (λ (miss : bytes_eq x.actor name ≡ false). is_later j k name x xs (is_place (j + 1) k name xs (subst (Has k) (cond-false (bytes_eq x.actor name) (j ∷ rest) rest miss) has)))
    (cases_Bool (bytes_eq x.actor name))

-- in the place stands a consumer of this actor
pub record IsOwn (k : ℕ) (name : List ℕ) (cs : List ConsumerDef) : Type 0 where
  pub c : ConsumerDef
  pub there : slice_get cs k ≡ Some c
  pub same : bytes_eq c.actor name ≡ true

pub of_place : (k : ℕ) (name : List ℕ) (cs : List ConsumerDef) → Has k (places_of name cs) → IsOwn k name cs
of_place k name cs has =
    let p : IsPlace 0 k name cs = is_place 0 k name cs has in
    let e : k ≡ p.i = omega (arith, p.number) in
    record { c = p.c; there = ap (slice_get cs) e ∙ p.there; same = p.same }

-- One consumer after the other

pub places_step : (name : List ℕ) (cs : List ConsumerDef) (i : ℕ) (c : ConsumerDef) → i < length cs → c ≡ get_or cs i c → places_from i name (drop i cs) ≡ cond (bytes_eq c.actor name) (i ∷ places_from (i + 1) name (drop (i + 1) cs)) (places_from (i + 1) name (drop (i + 1) cs))
places_step name cs i c below is = rw (drop-cons cs i c below, ← is, add-one) refl

pub places_hit : (name : List ℕ) (cs : List ConsumerDef) (i : ℕ) (c : ConsumerDef) (before : List ℕ) → i < length cs → c ≡ get_or cs i c → bytes_eq c.actor name ≡ true
    → (before ++ i ∷ []) ++ places_from (i + 1) name (drop (i + 1) cs) ≡ before ++ places_from i name (drop i cs)
places_hit name cs i c before below is hit =
    let rest : List ℕ = places_from (i + 1) name (drop (i + 1) cs) in
    append_assoc before (i ∷ []) rest
    ∙ ap (λ (l : List ℕ). before ++ l) (sym (places_step name cs i c below is ∙ cond-true (bytes_eq c.actor name) (i ∷ rest) rest hit))

pub places_miss : (name : List ℕ) (cs : List ConsumerDef) (i : ℕ) (c : ConsumerDef) (before : List ℕ) → i < length cs → c ≡ get_or cs i c → bytes_eq c.actor name ≡ false
    → before ++ places_from (i + 1) name (drop (i + 1) cs) ≡ before ++ places_from i name (drop i cs)
places_miss name cs i c before below is miss =
    let rest : List ℕ = places_from (i + 1) name (drop (i + 1) cs) in
    ap (λ (l : List ℕ). before ++ l) (sym (places_step name cs i c below is ∙ cond-false (bytes_eq c.actor name) (i ∷ rest) rest miss))

pub places_end : (name : List ℕ) (cs : List ConsumerDef) (i : ℕ) (before : List ℕ) → length cs ≤ i → before ++ places_from i name (drop i cs) ≡ before
places_end name cs i before past = ap (λ (l : List ConsumerDef). before ++ places_from i name l) (drop_all i cs past) ∙ append-nil before
