-- the definitions and the phases that a number makes (docs/SCRIPT.md, "The generator")
use Rattle.std.specs.Prelude.{ℕ, ◌+◌, ◌*◌, ◌/◌, ◌%◌, ◌==◌, if◌then◌else◌, List, [], ◌∷◌, ◌++◌, map, flat_map, None}
use Rattle.std.specs.List.{range_with_len, sum_by}
use Rattle.queue_model.specs.declared.queues.Policy.TheVariants as policy
use Rattle.defs_read.specs.Defined.{Defined}
use Rattle.defs_read.specs.declared.defs.ConsumerDef.{ConsumerDef}
use Rattle.defs_read.specs.declared.defs.QueueKind.TheVariants.{Priority}
use Rattle.script_read.specs.Phases.{Actors}
use Rattle.script_read.specs.declared.lines.Op.{Op}
use Rattle.script_read.specs.declared.lines.What.TheVariants.{Put, Take, Ack}
use Rattle.gen_core.specs.Draws.{length_of, message_of, number_after}
use Rattle.gen_core.specs.declared.definitions.TheConstants.{CONSUMER, DRAINER, PRIORITIES, PUTTER, PUTTERS, QUEUE, TAKER, TAKERS, ZERO}
use Rattle.gen_core.specs.declared.lines.TheConstants.{LINES_OF_A_ROUND}
use Rattle.gen_core.specs.declared.phases.TheConstants.{SHARES}

-- ---- the definitions

-- a name of a letter and a digit
abbrev pub numbered : ℕ → ℕ → List ℕ
numbered letter digit = letter ∷ (ZERO + digit) ∷ []

-- the name of the actor that takes what is left
abbrev pub drainer : List ℕ
drainer = DRAINER ∷ []

-- the consumer of this number, which this actor takes for; it wants every message
abbrev pub consumer : ℕ → List ℕ → ConsumerDef
consumer number actor = record { name = numbered CONSUMER number; actor = actor; number = number; selector = None }

-- the consumers c0 to c3 of the actors a0 to a3, and c4 of the actor d
abbrev pub consumers : List ConsumerDef
consumers = map (λ k. consumer k (numbered TAKER k)) (range_with_len 0 TAKERS) ++ consumer TAKERS drainer ∷ []

-- the priority queue q, without limits
abbrev pub queue : Defined
queue = record { name = QUEUE ∷ []; kind = Priority PRIORITIES; limits = record { policy = policy.None; entries = None; bytes = None }; consumers = consumers }

-- ---- the lines, which are numbered as if they were written out behind the definitions

-- the line that puts message i: the actor goes by the remainder of i
abbrev pub put_line : ℕ → ℕ → Op
put_line first i = record { line = i + 1; actor = numbered PUTTER (i % PUTTERS); what = Put 0 (message_of i (number_after first i)) }

-- the line that puts message i, where it is one of the actor of number k
abbrev pub put_lines : ℕ → ℕ → ℕ → List Op
put_lines first k i = if i % PUTTERS == k then put_line first i ∷ [] else []

-- the puts of the actor of number k among those of the messages 1 to count, in order
abbrev pub puts : ℕ → ℕ → ℕ → List Op
puts first count k = flat_map (put_lines first k) (range_with_len 1 count)

-- a take, and an acknowledgement of what was taken last
abbrev pub round : List ℕ → ℕ → ℕ → List Op
round actor consumer line = record { line = line; actor = actor; what = Take consumer } ∷ record { line = line + 1; actor = actor; what = Ack 0 None } ∷ []

-- so many rounds of an actor, each of which begins so many lines behind the one before
abbrev pub rounds : List ℕ → ℕ → ℕ → ℕ → ℕ → List Op
rounds actor consumer line stride times = flat_map (λ j. round actor consumer (line + stride * j)) (range_with_len 0 times)

-- ---- the phases

-- the actor of number k among p0 to p3, who put the messages
abbrev pub putter : ℕ → ℕ → ℕ → List ℕ × List Op
putter first count k = (numbered PUTTER k, puts first count k)

abbrev pub putters : ℕ → ℕ → Actors
putters first count = map (putter first count) (range_with_len 0 PUTTERS)

-- the rounds of the actor of number k among a0 to a3, who take a half together; their rounds are written in turn
abbrev pub taker : ℕ → ℕ → List ℕ × List Op
taker count k = (numbered TAKER k, rounds (numbered TAKER k) k (count + 2 + LINES_OF_A_ROUND * k) (LINES_OF_A_ROUND * TAKERS) (count / SHARES))

abbrev pub takers : ℕ → Actors
takers count = map (taker count) (range_with_len 0 TAKERS)

-- the first phase: the takers beside the putters
abbrev pub first_phase : ℕ → ℕ → Actors
first_phase first count = putters first count ++ takers count

-- the second phase, behind a rest: as many rounds as there were messages
abbrev pub second_phase : ℕ → Actors
second_phase count = (drainer, rounds drainer TAKERS (count + 3 + LINES_OF_A_ROUND * TAKERS * (count / SHARES)) LINES_OF_A_ROUND count) ∷ []

-- the phases of the script that the number makes
abbrev pub phases : ℕ → ℕ → List Actors
phases first count = first_phase first count ∷ second_phase count ∷ []

-- how many bytes the bodies of the messages 1 to count have together
abbrev pub body_bytes : ℕ → ℕ → ℕ
body_bytes first count = sum_by (λ i. length_of (number_after first i)) (range_with_len 1 count)
