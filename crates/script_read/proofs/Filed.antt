-- what filing a line keeps of a phase
use Rattle.std.proofs.Common.{◌≡◌, ℕ, ◌+◌, ◌<◌, ◌≤◌, suc, Bool, true, false, cond, not, ◌||◌, List, [], ◌∷◌, ◌++◌, length, map, refl, sym, ap, ap₂, subst, ◌∙◌, arith}
use Rattle.std.specs.Prelude.{◌&&◌, nat_le}
use Rattle.std.specs.List.{AllByRecursion, IsDistinct, count_by}
use Rattle.std.specs.Str.{bytes_eq}
use Rattle.std.proofs.lemmas.Bool.Decides.{nat_tests}
use Rattle.std.proofs.lemmas.Cmp.{nat_list_eq_equiv}
use Rattle.std.proofs.lemmas.List.{length_push}
use Rattle.std.proofs.lemmas.List.Sums.{sum_by-append}
use Rattle.std.proofs.lemmas.Slice.Eq.{bytes_eq-Decides}
use Rattle.defs_read.specs.Causes.{is_among}
use Rattle.defs_read.specs.Defined.{Defined}
use Rattle.defs_read.proofs.Apart.{distinct_more}
use Rattle.script_read.specs.Allowed.{HasOwnOps, IsOpOf, all_ops, ops_in}
use Rattle.script_read.specs.Phases.{Actors, filed, phases_with}
use Rattle.script_read.specs.Scripts.{is_in_phase, is_put_of, puts_this}
use Rattle.script_read.specs.declared.lines.Line.{Line}
use Rattle.script_read.specs.declared.lines.Line.TheVariants.{Rest, Doing}
use Rattle.script_read.specs.declared.lines.Op.{Op}

abbrev pub names : Actors → List (List ℕ)
names actors = map (λ actor. actor.0) actors

-- the names of actors, and that of one more if it is new
abbrev with_name : Bool → List ℕ → List (List ℕ) → List (List ℕ)
with_name known name ns = cond known ns (ns ++ name ∷ [])

names_filed : (op : Op) (actors : Actors) → names (filed op actors) ≡ with_name (is_in_phase op.actor actors) op.actor (names actors)
names_filed op [] = refl
names_filed op (a ∷ actors) = by_test (bytes_eq a.0 op.actor) (is_in_phase op.actor actors) (names_filed op actors)
  where
    by_test : (b c : Bool) → names (filed op actors) ≡ with_name c op.actor (names actors)
        → names (cond b ((a.0, a.1 ++ op ∷ []) ∷ actors) ((a.0, a.1) ∷ filed op actors)) ≡ with_name (b || c) op.actor (a.0 ∷ names actors)
    by_test true c rest = refl
    by_test false true rest = ap (λ (ns : List (List ℕ)). a.0 ∷ ns) rest
    by_test false false rest = ap (λ (ns : List (List ℕ)). a.0 ∷ ns) rest

among_names : (name : List ℕ) (actors : Actors) → is_among name (names actors) ≡ is_in_phase name actors
among_names name [] = refl
among_names name (a ∷ actors) = ap₂ (λ (b c : Bool). b || c) (nat_list_eq_equiv.symm name a.0) (among_names name actors)

-- distinct names stay so
pub distinct_filed : (op : Op) (actors : Actors) → IsDistinct bytes_eq (names actors) → IsDistinct bytes_eq (names (filed op actors))
distinct_filed op actors distinct = subst (IsDistinct bytes_eq) (sym (names_filed op actors)) (by_test (is_in_phase op.actor actors) refl)
  where
    by_test : (known : Bool) → is_in_phase op.actor actors ≡ known → IsDistinct bytes_eq (with_name known op.actor (names actors))
    by_test true is = distinct
    by_test false is = distinct_more (names actors) op.actor distinct (among_names op.actor actors ∙ is)

length_names : (actors : Actors) → length (names actors) ≡ length actors
length_names [] = refl
length_names (a ∷ actors) = ap suc (length_names actors)

-- one actor more comes only with a new name
length_with : (known : Bool) (op : Op) (actors : Actors) → (not known && nat_le 32 (length actors)) ≡ false → length actors ≤ 32 → length (with_name known op.actor (names actors)) ≤ 32
length_with true op actors room few = omega (arith, length_names actors)
length_with false op actors room few =
    let below : length actors < 32 = grind (arith, nat_tests) in
    omega (arith, length_push (names actors) op.actor, length_names actors)

pub few_filed : (op : Op) (actors : Actors) → (not (is_in_phase op.actor actors) && nat_le 32 (length actors)) ≡ false → length actors ≤ 32 → length (filed op actors) ≤ 32
few_filed op actors room few =
    let short : length (with_name (is_in_phase op.actor actors) op.actor (names actors)) ≤ 32 = length_with (is_in_phase op.actor actors) op actors room few in
    let same : length (filed op actors) ≡ length (with_name (is_in_phase op.actor actors) op.actor (names actors)) = sym (length_names (filed op actors)) ∙ ap length (names_filed op actors) in
    omega arith

-- ---- lines

all_more : {A : Type 0} (P : A → Type 0) (xs : List A) (x : A) → AllByRecursion P xs → P x → AllByRecursion P (xs ++ x ∷ [])
all_more P [] x each last = (last, tt)
all_more P (y ∷ ys) x each last = (each.0, all_more P ys x each.1 last)

pub own_filed : (queues : List Defined) (journal : Bool) (op : Op) (actors : Actors) → IsOpOf queues journal op.actor op → AllByRecursion (HasOwnOps queues journal) actors → AllByRecursion (HasOwnOps queues journal) (filed op actors)
own_filed queues journal op [] mine each = (record { own = (mine, tt) }, tt)
own_filed queues journal op (a ∷ actors) mine each = by_test (bytes_eq a.0 op.actor) refl (own_filed queues journal op actors mine each.1)
  where
    by_test : (b : Bool) → bytes_eq a.0 op.actor ≡ b → AllByRecursion (HasOwnOps queues journal) (filed op actors) → AllByRecursion (HasOwnOps queues journal) (cond b ((a.0, a.1 ++ op ∷ []) ∷ actors) ((a.0, a.1) ∷ filed op actors))
    by_test true is rest =
        let same : a.0 ≡ op.actor = (bytes_eq-Decides a.0 op.actor).0 is in
        (record { own = all_more (IsOpOf queues journal a.0) a.1 op each.0.own (subst (λ (n : List ℕ). IsOpOf queues journal n op) (sym same) mine) }, each.1)
    by_test false is rest = (record { own = each.0.own }, rest)

-- how many of a phase's lines pass a test
abbrev how_many : (Op → Bool) → List Op → ℕ
how_many p ops = count_by p ops

abbrev pub one_if : Bool → ℕ
one_if b = cond b 1 0

pub count_cons : {A : Type 0} (p : A → Bool) (x : A) (xs : List A) → count_by p (x ∷ xs) ≡ one_if (p x) + count_by p xs
count_cons {A} p x xs = omega (arith, sum_by-append (λ (y : A). cond (p y) 1 0) (x ∷ []) xs)

count_filed : (p : Op → Bool) (op : Op) (actors : Actors) → how_many p (ops_in (filed op actors)) ≡ how_many p (ops_in actors) + one_if (p op)
count_filed p op [] = omega arith
count_filed p op (a ∷ actors) = by_test (bytes_eq a.0 op.actor) (count_filed p op actors)
  where
    by_test : (b : Bool) → how_many p (ops_in (filed op actors)) ≡ how_many p (ops_in actors) + one_if (p op)
        → how_many p (ops_in (cond b ((a.0, a.1 ++ op ∷ []) ∷ actors) ((a.0, a.1) ∷ filed op actors))) ≡ how_many p (a.1 ++ ops_in actors) + one_if (p op)
    by_test true rest = omega (arith, sum_by-append (λ (x : Op). cond (p x) 1 0) (a.1 ++ op ∷ []) (ops_in actors), sum_by-append (λ (x : Op). cond (p x) 1 0) a.1 (op ∷ []), sum_by-append (λ (x : Op). cond (p x) 1 0) a.1 (ops_in actors))
    by_test false rest = omega (arith, sum_by-append (λ (x : Op). cond (p x) 1 0) a.1 (ops_in (filed op actors)), sum_by-append (λ (x : Op). cond (p x) 1 0) a.1 (ops_in actors))

-- each put of lines is one of their phases
pub count_phases : (queue id : ℕ) (begun : Actors) (ls : List Line)
    → count_by (λ op. is_put_of queue id op.what) (all_ops (phases_with begun ls)) ≡ count_by (λ op. is_put_of queue id op.what) (ops_in begun) + count_by (puts_this queue id) ls
count_phases queue id begun [] = omega (arith, sum_by-append (λ (x : Op). cond (is_put_of queue id x.what) 1 0) (ops_in begun) [])
count_phases queue id begun (Rest ∷ ls) =
    let more : count_by (puts_this queue id) (Rest ∷ ls) ≡ count_by (puts_this queue id) ls = omega (arith, count_cons (puts_this queue id) Rest ls) in
    omega (arith, sum_by-append (λ (x : Op). cond (is_put_of queue id x.what) 1 0) (ops_in begun) (all_ops (phases_with [] ls)), count_phases queue id [] ls, more)
count_phases queue id begun (Doing op ∷ ls) =
    let more : count_by (puts_this queue id) (Doing op ∷ ls) ≡ one_if (is_put_of queue id op.what) + count_by (puts_this queue id) ls = count_cons (puts_this queue id) (Doing op) ls in
    let later : count_by (λ (o : Op). is_put_of queue id o.what) (all_ops (phases_with begun (Doing op ∷ ls))) ≡ count_by (λ (o : Op). is_put_of queue id o.what) (ops_in (filed op begun)) + count_by (puts_this queue id) ls = count_phases queue id (filed op begun) ls in
    omega (arith, later, more, count_filed (λ o. is_put_of queue id o.what) op begun)
