-- a phase has its actors by first appearance, each with its own lines; rests split phases
use Rattle.std.proofs.Common.{◌≡◌, ℕ, Bool, true, false, cond, not, ◌||◌, List, [], ◌∷◌, ◌++◌, map, filter, refl, sym, ap, ap₂, subst, ◌∙◌, append_assoc}
use Rattle.std.specs.List.{AllByRecursion, IsDistinct}
use Rattle.std.specs.Str.{bytes_eq}
use Rattle.std.proofs.lemmas.Cmp.{nat_list_eq_equiv}
use Rattle.std.proofs.lemmas.List.{append-nil, map-append}
use Rattle.std.proofs.lemmas.List.Elements.{filter-append}
use Rattle.std.proofs.lemmas.Slice.Eq.{bytes_eq-Decides}
use Rattle.defs_read.specs.Causes.{is_among}
use Rattle.script_read.specs.Laws.{PhaseIsByFirstAppearance, PhasesSplitAtRest, PhasesWithoutRest, actors_of, firsts, own_lines}
use Rattle.script_read.specs.Phases.{Actors, filed, phase_with, phases_with, phases_of}
use Rattle.script_read.specs.declared.lines.Line.{Line}
use Rattle.script_read.specs.declared.lines.Line.TheVariants.{Rest, Doing}
use Rattle.script_read.specs.declared.lines.Op.{Op}

-- ---- names

-- the names other than this one
abbrev others : List ℕ → List (List ℕ) → List (List ℕ)
others name names = filter (λ other. not (bytes_eq name other)) names

-- the names, and one more if it is not known
abbrev with_name : Bool → List ℕ → List (List ℕ) → List (List ℕ)
with_name known name names = cond known names (names ++ name ∷ [])

all_others : (P : List ℕ → Type 0) (name : List ℕ) (names : List (List ℕ)) → AllByRecursion P names → AllByRecursion P (others name names)
all_others P name [] each = tt
all_others P name (n ∷ names) each = by_test (bytes_eq name n) (all_others P name names each.1)
  where
    by_test : (b : Bool) → AllByRecursion P (others name names) → AllByRecursion P (cond (not b) (n ∷ others name names) (others name names))
    by_test true rest = rest
    by_test false rest = (each.0, rest)

distinct_others : (name : List ℕ) (names : List (List ℕ)) → IsDistinct bytes_eq names → IsDistinct bytes_eq (others name names)
unfolding IsDistinct
distinct_others name [] distinct = tt
distinct_others name (n ∷ names) distinct = by_test (bytes_eq name n) (distinct_others name names distinct.1)
  where
    by_test : (b : Bool) → IsDistinct bytes_eq (others name names) → IsDistinct bytes_eq (cond (not b) (n ∷ others name names) (others name names))
    by_test true rest = rest
    by_test false rest = (all_others (λ y. bytes_eq n y ≡ false) name names distinct.0, rest)

apart_others : (name : List ℕ) (names : List (List ℕ)) → AllByRecursion (λ y. bytes_eq name y ≡ false) (others name names)
apart_others name [] = tt
apart_others name (n ∷ names) = by_test (bytes_eq name n) refl (apart_others name names)
  where
    by_test : (b : Bool) → bytes_eq name n ≡ b → AllByRecursion (λ y. bytes_eq name y ≡ false) (others name names)
        → AllByRecursion (λ y. bytes_eq name y ≡ false) (cond (not b) (n ∷ others name names) (others name names))
    by_test true is rest = rest
    by_test false is rest = (is, rest)

distinct_firsts : (names : List (List ℕ)) → IsDistinct bytes_eq (firsts names)
unfolding IsDistinct
distinct_firsts [] = tt
distinct_firsts (name ∷ names) = (apart_others name (firsts names), distinct_others name (firsts names) (distinct_firsts names))

among_others : (name known : List ℕ) (names : List (List ℕ)) → bytes_eq name known ≡ false → is_among name (others known names) ≡ is_among name names
among_others name known [] apart = refl
among_others name known (n ∷ names) apart = by_test (bytes_eq known n) refl (among_others name known names apart)
  where
    by_test : (b : Bool) → bytes_eq known n ≡ b → is_among name (others known names) ≡ is_among name names
        → is_among name (cond (not b) (n ∷ others known names) (others known names)) ≡ (bytes_eq name n || is_among name names)
    by_test true is rest =
        let same : known ≡ n = (bytes_eq-Decides known n).0 is in
        let no : bytes_eq name n ≡ false = subst (λ (m : List ℕ). bytes_eq name m ≡ false) same apart in
        rest ∙ sym (ap (λ (b : Bool). b || is_among name names) no)
    by_test false is rest = ap (λ (b : Bool). bytes_eq name n || b) rest

among_firsts : (name : List ℕ) (names : List (List ℕ)) → is_among name (firsts names) ≡ is_among name names
among_firsts name [] = refl
among_firsts name (n ∷ names) = by_test (bytes_eq name n) refl (among_firsts name names)
  where
    by_test : (b : Bool) → bytes_eq name n ≡ b → is_among name (firsts names) ≡ is_among name names → (b || is_among name (others n (firsts names))) ≡ (b || is_among name names)
    by_test true is rest = refl
    by_test false is rest = among_others name n (firsts names) is ∙ rest

-- a name behind others is a first one unless it is known
firsts_more : (names : List (List ℕ)) (name : List ℕ) → firsts (names ++ name ∷ []) ≡ with_name (is_among name names) name (firsts names)
firsts_more [] name = refl
firsts_more (n ∷ names) name = ap (λ (ns : List (List ℕ)). n ∷ others n ns) (firsts_more names name) ∙ by_tests (bytes_eq name n) (is_among name names) (nat_list_eq_equiv.symm n name)
  where
    by_tests : (b c : Bool) → bytes_eq n name ≡ b → ◌≡◌ {A = List (List ℕ)} (n ∷ others n (with_name c name (firsts names))) (with_name (b || c) name (n ∷ others n (firsts names)))
    by_tests true true is = refl
    by_tests false true is = refl
    by_tests true false is = ap (λ (ns : List (List ℕ)). n ∷ ns) (filter-append (λ other. not (bytes_eq n other)) (firsts names) (name ∷ []) ∙ ap (λ (b : Bool). others n (firsts names) ++ cond (not b) (name ∷ []) []) is ∙ append-nil (others n (firsts names)))
    by_tests false false is = ap (λ (ns : List (List ℕ)). n ∷ ns) (filter-append (λ other. not (bytes_eq n other)) (firsts names) (name ∷ []) ∙ ap (λ (b : Bool). others n (firsts names) ++ cond (not b) (name ∷ []) []) is)

-- ---- the actors' lines

abbrev entry : List Op → List ℕ → List ℕ × List Op
entry ops name = (name, own_lines ops name)

own_more : (ops : List Op) (op : Op) (name : List ℕ) (b : Bool) → bytes_eq name op.actor ≡ b → own_lines (ops ++ op ∷ []) name ≡ own_lines ops name ++ cond b (op ∷ []) []
own_more ops op name b is = filter-append (λ o. bytes_eq name o.actor) ops (op ∷ []) ∙ ap (λ (b : Bool). own_lines ops name ++ cond b (op ∷ []) []) is

own_none : (name : List ℕ) (ops : List Op) → is_among name (map (λ op. op.actor) ops) ≡ false → own_lines ops name ≡ []
own_none name [] new = refl
own_none name (op ∷ ops) new = by_test (bytes_eq name op.actor) new (own_none name ops)
  where
    by_test : (b : Bool) → (b || is_among name (map (λ op. op.actor) ops)) ≡ false → (is_among name (map (λ op. op.actor) ops) ≡ false → own_lines ops name ≡ []) → cond b (op ∷ own_lines ops name) (own_lines ops name) ≡ []
    by_test true is rest = absurd (cc)
    by_test false is rest = rest is

-- the actors of other names keep their lines
untouched : (ops : List Op) (op : Op) (names : List (List ℕ)) → AllByRecursion (λ name. bytes_eq op.actor name ≡ false) names → map (entry (ops ++ op ∷ [])) names ≡ map (entry ops) names
untouched ops op [] apart = refl
untouched ops op (n ∷ names) apart =
    let same : own_lines (ops ++ op ∷ []) n ≡ own_lines ops n = own_more ops op n false (nat_list_eq_equiv.symm n op.actor ∙ apart.0) ∙ append-nil (own_lines ops n) in
    ap₂ (λ (own : List Op) (rest : Actors). (n, own) ∷ rest) same (untouched ops op names apart.1)

filed_names : (ops : List Op) (op : Op) (names : List (List ℕ)) → IsDistinct bytes_eq names → (is_among op.actor names ≡ false → own_lines ops op.actor ≡ [])
    → filed op (map (entry ops) names) ≡ map (entry (ops ++ op ∷ [])) (with_name (is_among op.actor names) op.actor names)
unfolding IsDistinct
filed_names ops op [] distinct new =
    let one : own_lines (ops ++ op ∷ []) op.actor ≡ op ∷ [] = own_more ops op op.actor true (nat_list_eq_equiv.refl op.actor) ∙ ap (λ (own : List Op). own ++ op ∷ []) (new refl) in
    ap (λ (own : List Op). (op.actor, own) ∷ []) (sym one)
filed_names ops op (n ∷ names) distinct new = by_tests (bytes_eq n op.actor) refl (bytes_eq op.actor n) (nat_list_eq_equiv.symm op.actor n) new (filed_names ops op names distinct.1)
  where
    behind : (c : Bool) → ◌≡◌ {A = Actors} (entry (ops ++ op ∷ []) n ∷ map (entry (ops ++ op ∷ [])) (with_name c op.actor names)) (map (entry (ops ++ op ∷ [])) (with_name c op.actor (n ∷ names)))
    behind true = refl
    behind false = refl

    by_tests : (b : Bool) → bytes_eq n op.actor ≡ b → (d : Bool) → d ≡ bytes_eq n op.actor → ((d || is_among op.actor names) ≡ false → own_lines ops op.actor ≡ [])
        → ((is_among op.actor names ≡ false → own_lines ops op.actor ≡ []) → filed op (map (entry ops) names) ≡ map (entry (ops ++ op ∷ [])) (with_name (is_among op.actor names) op.actor names))
        → cond b ((n, own_lines ops n ++ op ∷ []) ∷ map (entry ops) names) ((n, own_lines ops n) ∷ filed op (map (entry ops) names))
        ≡ map (entry (ops ++ op ∷ [])) (with_name (d || is_among op.actor names) op.actor (n ∷ names))
    by_tests true is false e none rest = absurd (cc)
    by_tests false is true e none rest = absurd (cc)
    by_tests true is true e none rest =
        let same : n ≡ op.actor = (bytes_eq-Decides n op.actor).0 is in
        let apart : AllByRecursion (λ y. bytes_eq op.actor y ≡ false) names = subst (λ (m : List ℕ). AllByRecursion (λ y. bytes_eq m y ≡ false) names) same distinct.0 in
        ap₂ (λ (own : List Op) (later : Actors). (n, own) ∷ later) (sym (own_more ops op n true is)) (sym (untouched ops op names apart))
    by_tests false is false e none rest =
        let kept : own_lines (ops ++ op ∷ []) n ≡ own_lines ops n = own_more ops op n false is ∙ append-nil (own_lines ops n) in
        ap₂ (λ (own : List Op) (later : Actors). (n, own) ∷ later) (sym kept) (rest none) ∙ behind (is_among op.actor names)

filed_actors : (ops : List Op) (op : Op) → filed op (actors_of ops) ≡ actors_of (ops ++ op ∷ [])
filed_actors ops op =
    let names : List (List ℕ) = map (λ op. op.actor) ops in
    let known : is_among op.actor (firsts names) ≡ is_among op.actor names = among_firsts op.actor names in
    let all : firsts (map (λ op. op.actor) (ops ++ op ∷ [])) ≡ with_name (is_among op.actor (firsts names)) op.actor (firsts names) = ap firsts (map-append (λ (o : Op). o.actor) ops (op ∷ [])) ∙ firsts_more names op.actor ∙ ap (λ (b : Bool). with_name b op.actor (firsts names)) (sym known) in
    filed_names ops op (firsts names) (distinct_firsts names) (λ new. own_none op.actor ops (sym known ∙ new)) ∙ ap (map (entry (ops ++ op ∷ []))) (sym all)

phase_from : (before ops : List Op) → phase_with (actors_of before) (map Doing ops) ≡ actors_of (before ++ ops)
phase_from before [] = ap actors_of (sym (append-nil before))
phase_from before (op ∷ ops) = ap (λ (begun : Actors). phase_with begun (map Doing ops)) (filed_actors before op) ∙ phase_from (before ++ op ∷ []) ops ∙ ap actors_of (append_assoc before (op ∷ []) ops)

pub by_first_appearance : PhaseIsByFirstAppearance
by_first_appearance ops = phase_from [] ops

-- ---- rests

one_phase : (begun : Actors) (ops : List Op) → phases_with begun (map Doing ops) ≡ phase_with begun (map Doing ops) ∷ []
one_phase begun [] = refl
one_phase begun (op ∷ ops) = one_phase (filed op begun) ops

first_phase : (begun : Actors) (ops : List Op) (ls : List Line) → phases_with begun (map Doing ops ++ Rest ∷ ls) ≡ phase_with begun (map Doing ops) ∷ phases_of ls
first_phase begun [] ls = refl
first_phase begun (op ∷ ops) ls = first_phase (filed op begun) ops ls

pub without_rest : PhasesWithoutRest
without_rest ops = one_phase [] ops ∙ ap (λ (phase : Actors). phase ∷ []) (phase_from [] ops)

pub split_at_rest : PhasesSplitAtRest
split_at_rest ops ls = first_phase [] ops ls ∙ ap (λ (phase : Actors). phase ∷ phases_of ls) (phase_from [] ops)
