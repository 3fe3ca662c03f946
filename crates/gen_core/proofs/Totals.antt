-- sums over all lines of the phases
use Rattle.std.proofs.Common.{◌≡◌, ℕ, zero, suc, ◌+◌, ◌*◌, ◌%◌, ◌<◌, ◌≤◌, Bool, true, false, cond, List, [], ◌∷◌, length, refl, ap, ◌∙◌, arith, mod-lt}
use Rattle.std.specs.Prelude.{◌&&◌, ◌==◌, ◌/◌}
use Rattle.std.specs.List.{flat_map, range_with_len, sum_by}
use Rattle.std.proofs.lemmas.Bool.{eqb-true}
use Rattle.std.proofs.lemmas.List.Sums.{sum_by-append, sum_by-cons}
use Rattle.std.proofs.lemmas.List.FromFn.{length-range_with_len}
use Rattle.script_read.specs.Allowed.{all_ops, ops_in}
use Rattle.script_read.specs.declared.lines.Op.{Op}
use Rattle.gen_core.specs.Generated.{drainer, first_phase, numbered, phases, put_line, put_lines, round, rounds, second_phase}
use Rattle.gen_core.specs.declared.definitions.TheConstants.{PUTTERS, TAKER, TAKERS}
use Rattle.gen_core.specs.declared.lines.TheConstants.{LINES_OF_A_ROUND}
use Rattle.gen_core.specs.declared.phases.TheConstants.{SHARES}

-- a sum over lists that stand behind one another
sum_lists : {X Y : Type 0} (g : Y → ℕ) (f : X → List Y) (xs : List X) → sum_by g (flat_map f xs) ≡ sum_by (λ x. sum_by g (f x)) xs
sum_lists g f [] = refl
sum_lists {X} g f (x ∷ xs) = omega (arith, sum_by-append g (f x) (flat_map f xs), sum_lists g f xs, sum_by-cons (λ (y : X). sum_by g (f y)) x xs)

-- ---- the puts: each message is that of one actor

one_line : (g : Op → ℕ) (op : Op) (b : Bool) → sum_by g (cond b (op ∷ []) []) ≡ cond b (g op) 0
one_line g op true = omega arith
one_line g op false = refl

in_one : (m v : ℕ) → m < 4 → cond (m == 0) v 0 + (cond (m == 1) v 0 + (cond (m == 2) v 0 + cond (m == 3) v 0)) ≡ v
in_one zero v small = omega arith
in_one (suc zero) v small = omega arith
in_one (suc (suc zero)) v small = omega arith
in_one (suc (suc (suc zero))) v small = omega arith
in_one (suc (suc (suc (suc m)))) v small = absurd (omega arith)

one_more : (g : Op → ℕ) (first k i : ℕ) (row : List ℕ)
    → sum_by g (flat_map (put_lines first k) (i ∷ row)) ≡ cond (i % PUTTERS == k) (g (put_line first i)) 0 + sum_by g (flat_map (put_lines first k) row)
one_more g first k i row = omega (arith, sum_by-append g (put_lines first k i) (flat_map (put_lines first k) row), one_line g (put_line first i) (i % PUTTERS == k))

sum_puts : (g : Op → ℕ) (first : ℕ) (row : List ℕ)
    → sum_by g (flat_map (put_lines first 0) row) + (sum_by g (flat_map (put_lines first 1) row) + (sum_by g (flat_map (put_lines first 2) row) + sum_by g (flat_map (put_lines first 3) row)))
    ≡ sum_by (λ i. g (put_line first i)) row
sum_puts g first [] = refl
sum_puts g first (i ∷ row) =
    omega (
      arith,
      one_more g first 0 i row,
      one_more g first 1 i row,
      one_more g first 2 i row,
      one_more g first 3 i row,
      in_one (i % PUTTERS) (g (put_line first i)) (mod-lt i (omega arith)),
      sum_puts g first row,
      sum_by-cons (λ (j : ℕ). g (put_line first j)) i row,
    )

-- ---- the rounds

pub same_each : (f : ℕ → ℕ) (t : ℕ) → ((j : ℕ) → f j ≡ t) → (row : List ℕ) → sum_by f row ≡ length row * t
same_each f t same [] = omega arith
same_each f t same (j ∷ row) =
    let more : suc (length row) * t ≡ t + length row * t = grind arith in
    omega (arith, more, sum_by-cons f j row, same j, same_each f t same row)

sum_rounds : (g : Op → ℕ) (t : ℕ) → ((actor : List ℕ) (consumer at : ℕ) → sum_by g (round actor consumer at) ≡ t)
    → (actor : List ℕ) (consumer line stride times : ℕ) → sum_by g (rounds actor consumer line stride times) ≡ times * t
sum_rounds g t same actor consumer line stride times =
    sum_lists g (λ j. round actor consumer (line + stride * j)) (range_with_len 0 times)
    ∙ same_each (λ j. sum_by g (round actor consumer (line + stride * j))) t (λ j. same actor consumer (line + stride * j)) (range_with_len 0 times)
    ∙ ap (λ n. n * t) (length-range_with_len 0 times)

-- ---- the phases

sum_taker : (g : Op → ℕ) (t : ℕ) → ((actor : List ℕ) (consumer at : ℕ) → sum_by g (round actor consumer at) ≡ t)
    → (count k : ℕ) → sum_by g (rounds (numbered TAKER k) k (count + 2 + LINES_OF_A_ROUND * k) (LINES_OF_A_ROUND * TAKERS) (count / SHARES)) ≡ count / SHARES * t
sum_taker g t same count k = sum_rounds g t same (numbered TAKER k) k (count + 2 + LINES_OF_A_ROUND * k) (LINES_OF_A_ROUND * TAKERS) (count / SHARES)

pub sum_first : (g : Op → ℕ) (t : ℕ) → ((actor : List ℕ) (consumer at : ℕ) → sum_by g (round actor consumer at) ≡ t)
    → (first count : ℕ) → sum_by g (ops_in (first_phase first count)) ≡ sum_by (λ i. g (put_line first i)) (range_with_len 1 count) + TAKERS * (count / SHARES * t)
sum_first g t same first count =
    omega (
      arith,
      sum_lists g (λ (actor : List ℕ × List Op). actor.1) (first_phase first count),
      sum_puts g first (range_with_len 1 count),
      sum_taker g t same count 0,
      sum_taker g t same count 1,
      sum_taker g t same count 2,
      sum_taker g t same count 3,
    )

pub sum_second : (g : Op → ℕ) (t : ℕ) → ((actor : List ℕ) (consumer at : ℕ) → sum_by g (round actor consumer at) ≡ t)
    → (count : ℕ) → sum_by g (ops_in (second_phase count)) ≡ count * t
sum_second g t same count =
    omega (
      arith,
      sum_lists g (λ (actor : List ℕ × List Op). actor.1) (second_phase count),
      sum_rounds g t same drainer TAKERS (count + 3 + LINES_OF_A_ROUND * TAKERS * (count / SHARES)) LINES_OF_A_ROUND count,
    )

pub sum_all : (g : Op → ℕ) (t : ℕ) → ((actor : List ℕ) (consumer at : ℕ) → sum_by g (round actor consumer at) ≡ t)
    → (first count : ℕ) → sum_by g (all_ops (phases first count)) ≡ sum_by (λ i. g (put_line first i)) (range_with_len 1 count) + TAKERS * (count / SHARES * t) + count * t
sum_all g t same first count =
    omega (arith, sum_lists g ops_in (phases first count), sum_first g t same first count, sum_second g t same count)

-- ---- what is counted of the messages

not_this : (c : Bool) (id a rest : ℕ) (b : Bool) → (a == id) ≡ b → id < a → rest ≡ 0 → cond (c && b) 1 0 + rest ≡ 0
not_this c id a rest true is below none = absurd (omega (arith, eqb-true a id is))
not_this true id a rest false is below none = omega arith
not_this false id a rest false is below none = omega arith

-- of the messages from a on none has a lower id
none_below : (c : Bool) (id a n : ℕ) → id < a → sum_by (λ i. cond (c && (i == id)) 1 0) (range_with_len a n) ≡ 0
none_below c id a zero below = refl
none_below c id a (suc n) below =
    sum_by-cons (λ (i : ℕ). cond (c && (i == id)) 1 0) a (range_with_len (a + 1) n)
    ∙ not_this c id a (sum_by (λ (i : ℕ). cond (c && (i == id)) 1 0) (range_with_len (a + 1) n)) (a == id) refl below (none_below c id (a + 1) n (omega arith))

this_or_later : (c : Bool) (id a rest : ℕ) (b : Bool) → (a == id) ≡ b → (id < a + 1 → rest ≡ 0) → rest ≤ 1 → cond (c && b) 1 0 + rest ≤ 1
this_or_later true id a rest true is none later = omega (arith, none (omega (arith, eqb-true a id is)))
this_or_later false id a rest true is none later = omega arith
this_or_later true id a rest false is none later = omega arith
this_or_later false id a rest false is none later = omega arith

-- no two have one id
pub at_most_one : (c : Bool) (id a n : ℕ) → sum_by (λ i. cond (c && (i == id)) 1 0) (range_with_len a n) ≤ 1
at_most_one c id a zero = omega arith
at_most_one c id a (suc n) =
    let later = this_or_later c id a (sum_by (λ (i : ℕ). cond (c && (i == id)) 1 0) (range_with_len (a + 1) n)) (a == id) refl (none_below c id (a + 1) n) (at_most_one c id (a + 1) n) in
    omega (arith, sum_by-cons (λ (i : ℕ). cond (c && (i == id)) 1 0) a (range_with_len (a + 1) n), later)
