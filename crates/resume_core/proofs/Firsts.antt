-- the first of lines, part by part
use Rattle.std.proofs.Common.{◌≡◌, ℕ, Bool, true, false, min, arith, cond, Option, Some, None, List, [], ◌∷◌, ◌++◌, filter, map, ◌+◌, ◌<◌, drop, get_or, length, refl, sym, ap, ◌∙◌}
use Rattle.std.specs.List.{AllByRecursion}
use Rattle.std.proofs.lemmas.List.{at_drop_more}
use Rattle.script_read.specs.declared.lines.Op.{Op}
use Rattle.resume_core.specs.Lines.{first_line, least, sooner}

pub sooner_none : (o : Option ℕ) → sooner o None ≡ o
sooner_none None = refl
sooner_none (Some n) = refl

min_assoc : (a b c : ℕ) → min (min a b) c ≡ min a (min b c)
min_assoc a b c = omega arith

pub sooner_assoc : (a b c : Option ℕ) → sooner (sooner a b) c ≡ sooner a (sooner b c)
sooner_assoc None b c = refl
sooner_assoc (Some a) None c = refl
sooner_assoc (Some a) (Some b) None = refl
sooner_assoc (Some a) (Some b) (Some c) = ap (λ (n : ℕ). Some n) (min_assoc a b c)

pub first_append : (test : Op → Bool) (xs ys : List Op) → first_line test (xs ++ ys) ≡ sooner (first_line test xs) (first_line test ys)
first_append test [] ys = refl
first_append test (x ∷ xs) ys = by_test (test x) (first_append test xs ys) where
  by_test : (b : Bool) → first_line test (xs ++ ys) ≡ sooner (first_line test xs) (first_line test ys) → least (map (λ (op : Op). op.line) (cond b (x ∷ filter test (xs ++ ys)) (filter test (xs ++ ys)))) ≡ sooner (least (map (λ (op : Op). op.line) (cond b (x ∷ filter test xs) (filter test xs)))) (first_line test ys)
  by_test true h = ap (sooner (Some x.line)) h ∙ sym (sooner_assoc (Some x.line) (first_line test xs) (first_line test ys))
  by_test false h = h

-- a part, and what was found before it
part_next : (test : Op → Bool) (found : Option ℕ) (xs ys : List Op) (whole : Option ℕ) → sooner found (first_line test (xs ++ ys)) ≡ whole → sooner (sooner found (first_line test xs)) (first_line test ys) ≡ whole
part_next test found xs ys whole e = sooner_assoc found (first_line test xs) (first_line test ys) ∙ sym (ap (sooner found) (first_append test xs ys)) ∙ e

-- the lines of the element in place i, and what was found before it
pub item_next : {X : Type 0} (test : Op → Bool) (part : X → List Op) (all : List X → List Op) (xs : List X) (i : ℕ) (d : X) (found whole : Option ℕ)
    → ((x : X) (ys : List X) → all (x ∷ ys) ≡ part x ++ all ys) → i < length xs → sooner found (first_line test (all (drop i xs))) ≡ whole
    → sooner (sooner found (first_line test (part (get_or xs i d)))) (first_line test (all (drop (i + 1) xs))) ≡ whole
item_next {X} test part all xs i d found whole step low e =
    let here = at_drop_more (λ (ys : List X). first_line test (all ys)) xs i d low in
    part_next test found (part (get_or xs i d)) (all (drop (i + 1) xs)) whole
    (ap (sooner found) (sym (here ∙ ap (first_line test) (step (get_or xs i d) (drop (i + 1) xs)))) ∙ e)

-- where none is the first, none passes
none_sooner : (n : ℕ) (o : Option ℕ) → sooner (Some n) o ≡ None → ⊥
none_sooner n None e = absurd (cc)
none_sooner n (Some m) e = absurd (cc)

pub least_none : (ns : List ℕ) → least ns ≡ None → ns ≡ []
least_none [] e = refl
least_none (n ∷ ns) e = absurd (none_sooner n (least ns) e)

none_map : (ops : List Op) → map (λ (op : Op). op.line) ops ≡ [] → ops ≡ []
none_map [] e = refl
none_map (op ∷ ops) e = absurd (cc)

pub filter_none : {X : Type 0} (test : X → Bool) (xs : List X) → filter test xs ≡ [] → AllByRecursion (λ x. test x ≡ false) xs
filter_none test [] e = tt
filter_none {X} test (x ∷ xs) e = by_test (test x) (filter_none test xs) refl e where
  by_test : (b : Bool) → (filter test xs ≡ [] → AllByRecursion (λ x. test x ≡ false) xs) → test x ≡ b → cond b (x ∷ filter test xs) (filter test xs) ≡ [] → AllByRecursion (λ x. test x ≡ false) (x ∷ xs)
  by_test true later is h = absurd (cc)
  by_test false later is h = (is, later h)

pub first_none : (test : Op → Bool) (ops : List Op) → first_line test ops ≡ None → AllByRecursion (λ op. test op ≡ false) ops
first_none test ops e = filter_none test ops (none_map (filter test ops) (least_none (map (λ (op : Op). op.line) (filter test ops)) e))
