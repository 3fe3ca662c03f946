-- the definitions and the phases keep the limits of those that are read from a text
use Rattle.std.proofs.Common.{◌≡◌, ℕ, zero, suc, ◌+◌, ◌*◌, ◌%◌, ◌<◌, ◌≤◌, Bool, true, false, cond, List, [], ◌∷◌, ◌++◌, map, Option, Some, None, refl, sym, ap, arith}
use Rattle.std.specs.Prelude.{◌==◌, ◌/◌, slice_get}
use Rattle.std.specs.List.{AllByRecursion, IsDistinct, count_by, flat_map, range_with_len}
use Rattle.std.specs.Str.{bytes_eq}
use Rattle.std.proofs.lemmas.Bool.{eqb-true}
use Rattle.std.proofs.lemmas.List.Elements.{All-from_recursion}
use Rattle.defs_read.specs.Allowed.{AreAllowed, IsAllowed, IsNamed}
use Rattle.defs_read.specs.Causes.{most_consumers}
use Rattle.defs_read.specs.Defined.{consumers_in}
use Rattle.defs_read.specs.declared.defs.ConsumerDef.{ConsumerDef}
use Rattle.script_read.specs.Allowed.{AreAllowedPhases, HasConsumer, HasOwnOps, IsAllowedPhase, IsOpOf, all_ops}
use Rattle.script_read.specs.Scripts.{is_put_of}
use Rattle.script_read.specs.declared.lines.Op.{Op}
use Rattle.gen_core.specs.Generated.{consumers, drainer, first_phase, numbered, phases, put_line, put_lines, queue, round, second_phase}
use Rattle.gen_core.specs.declared.definitions.TheConstants.{PUTTER, PUTTERS, TAKER, TAKERS}
use Rattle.gen_core.specs.declared.lines.TheConstants.{LINES_OF_A_ROUND}
use Rattle.gen_core.specs.declared.phases.TheConstants.{SHARES}
use Rattle.gen_core.proofs.Totals.{at_most_one, sum_all}

-- ---- the definitions

abbrev number_in : Option ConsumerDef → ℕ
number_in None = 0
number_in (Some c) = c.number

in_order : (i : ℕ) (c : ConsumerDef) → slice_get (consumers_in (queue ∷ [])) i ≡ Some c → c.number ≡ i
in_order zero c is = ap number_in (sym is)
in_order (suc zero) c is = ap number_in (sym is)
in_order (suc (suc zero)) c is = ap number_in (sym is)
in_order (suc (suc (suc zero))) c is = ap number_in (sym is)
in_order (suc (suc (suc (suc zero)))) c is = ap number_in (sym is)
in_order (suc (suc (suc (suc (suc i))))) c is = absurd (cc)

names_differ : IsDistinct bytes_eq (map (λ c. c.name) (consumers_in (queue ∷ [])))
unfolding IsDistinct
names_differ = ((refl, (refl, (refl, (refl, tt)))), ((refl, (refl, (refl, tt))), ((refl, (refl, tt)), ((refl, tt), (tt, tt)))))

one_queue : IsDistinct bytes_eq (map (λ q. q.name) (queue ∷ []))
unfolding IsDistinct
one_queue = (tt, tt)

named : AllByRecursion IsNamed consumers
named = (record { name = refl; actor = refl }, (record { name = refl; actor = refl }, (record { name = refl; actor = refl }, (record { name = refl; actor = refl }, (record { name = refl; actor = refl }, tt)))))

low : AllByRecursion (λ c. c.number < most_consumers) (consumers_in (queue ∷ []))
low = (omega arith, (omega arith, (omega arith, (omega arith, (omega arith, tt)))))

five : 5 ≤ 64
five = omega arith

is_allowed : IsAllowed queue
is_allowed = record {
  name = refl;
  slips = record { consumers = five; priorities = (omega arith, omega arith) };
  key = tt;
  entries = tt;
  bytes = tt;
  named = All-from_recursion IsNamed consumers named;
}

pub allowed : AreAllowed (queue ∷ [])
allowed = record {
  some = omega arith;
  few = omega arith;
  consumers = five;
  numbers = All-from_recursion (λ c. c.number < most_consumers) (consumers_in (queue ∷ [])) low;
  numbered = in_order;
  queue_names = one_queue;
  consumer_names = names_differ;
  each = All-from_recursion IsAllowed (queue ∷ []) (is_allowed, tt);
}

-- ---- the lines of an actor

some_queue : 0 < 1
some_queue = omega arith

own_after : (first k i : ℕ) (rest : List Op) (b : Bool) → (i % PUTTERS == k) ≡ b → AllByRecursion (IsOpOf (queue ∷ []) false (numbered PUTTER k)) rest
    → AllByRecursion (IsOpOf (queue ∷ []) false (numbered PUTTER k)) (cond b (put_line first i ∷ []) [] ++ rest)
own_after first k i rest true is own = (record { actor = ap (numbered PUTTER) (eqb-true _ _ is); defined = some_queue; kept = λ e. e }, own)
own_after first k i rest false is own = own

own_puts : (first k : ℕ) (row : List ℕ) → AllByRecursion (IsOpOf (queue ∷ []) false (numbered PUTTER k)) (flat_map (put_lines first k) row)
own_puts first k [] = tt
own_puts first k (i ∷ row) = own_after first k i (flat_map (put_lines first k) row) (i % PUTTERS == k) refl (own_puts first k row)

own_rounds : (actor : List ℕ) (consumer line stride : ℕ) → HasConsumer (queue ∷ []) actor consumer → (row : List ℕ)
    → AllByRecursion (IsOpOf (queue ∷ []) false actor) (flat_map (λ j. round actor consumer (line + stride * j)) row)
own_rounds actor consumer line stride has [] = tt
own_rounds actor consumer line stride has (j ∷ row) =
    (record { actor = refl; defined = has; kept = tt }, (record { actor = refl; defined = some_queue; kept = tt }, own_rounds actor consumer line stride has row))

own_putter : (first count k : ℕ) → HasOwnOps (queue ∷ []) false (numbered PUTTER k, flat_map (put_lines first k) (range_with_len 1 count))
own_putter first count k = record { own = own_puts first k (range_with_len 1 count) }

own_taker : (k line stride times : ℕ) → HasConsumer (queue ∷ []) (numbered TAKER k) k
    → HasOwnOps (queue ∷ []) false (numbered TAKER k, flat_map (λ j. round (numbered TAKER k) k (line + stride * j)) (range_with_len 0 times))
own_taker k line stride times has = record { own = own_rounds (numbered TAKER k) k line stride has (range_with_len 0 times) }

-- ---- the phases

actors_differ : (first count : ℕ) → IsDistinct bytes_eq (map (λ actor. actor.0) (first_phase first count))
unfolding IsDistinct
actors_differ first count = ((refl, (refl, (refl, (refl, (refl, (refl, (refl, tt))))))), ((refl, (refl, (refl, (refl, (refl, (refl, tt)))))), ((refl, (refl, (refl, (refl, (refl, tt))))), ((refl, (refl, (refl, (refl, tt)))), ((refl, (refl, (refl, tt))), ((refl, (refl, tt)), ((refl, tt), (tt, tt))))))))

drainer_alone : (count : ℕ) → IsDistinct bytes_eq (map (λ actor. actor.0) (second_phase count))
unfolding IsDistinct
drainer_alone count = (tt, tt)

eight : 8 ≤ 32
eight = omega arith

one : 1 ≤ 32
one = omega arith

first_allowed : (first count : ℕ) → IsAllowedPhase (queue ∷ []) false (first_phase first count)
first_allowed first count = record {
  few = eight;
  distinct = actors_differ first count;
  own = (own_putter first count 0, (own_putter first count 1, (own_putter first count 2, (own_putter first count 3, (own_taker 0 (count + 2 + LINES_OF_A_ROUND * 0) (LINES_OF_A_ROUND * TAKERS) (count / SHARES) refl, (own_taker 1 (count + 2 + LINES_OF_A_ROUND * 1) (LINES_OF_A_ROUND * TAKERS) (count / SHARES) refl, (own_taker 2 (count + 2 + LINES_OF_A_ROUND * 2) (LINES_OF_A_ROUND * TAKERS) (count / SHARES) refl, (own_taker 3 (count + 2 + LINES_OF_A_ROUND * 3) (LINES_OF_A_ROUND * TAKERS) (count / SHARES) refl, tt))))))));
}

second_allowed : (count : ℕ) → IsAllowedPhase (queue ∷ []) false (second_phase count)
second_allowed count = record {
  few = one;
  distinct = drainer_alone count;
  own = (record { own = own_rounds drainer TAKERS (count + 3 + LINES_OF_A_ROUND * TAKERS * (count / SHARES)) LINES_OF_A_ROUND refl (range_with_len 0 count) }, tt);
}

once : (first count q id : ℕ) → count_by (λ op. is_put_of q id op.what) (all_ops (phases first count)) ≤ 1
once first count q id =
    omega (arith, sum_all (λ op. cond (is_put_of q id op.what) 1 0) 0 (λ actor c at. refl) first count, at_most_one (0 == q) id 1 count)

pub runs : (first count : ℕ) → AreAllowedPhases (queue ∷ []) false (phases first count)
runs first count = record { each = (first_allowed first count, (second_allowed count, tt)); once = once first count }
