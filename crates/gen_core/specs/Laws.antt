-- the statements of the laws, each proved as the contract of a function in src/laws.rt
use Rattle.std.specs.Prelude.{◌≡◌, ℕ, ◌*◌, ◌/◌, Bool, true, false, length}
use Rattle.std.specs.List.{count_by, sum_by}
use Rattle.script_read.specs.Allowed.{all_ops, ops_in}
use Rattle.script_read.specs.declared.lines.What.{What}
use Rattle.script_read.specs.declared.lines.What.TheVariants.{Put, Take, Ack}
use Rattle.gen_core.specs.Generated.{body_bytes, first_phase, phases, second_phase}
use Rattle.gen_core.specs.declared.definitions.TheConstants.{TAKERS}
use Rattle.gen_core.specs.declared.phases.TheConstants.{SHARES}

-- whether a line puts, takes or acknowledges
abbrev pub is_put : What → Bool
is_put (Put q m) = true
is_put w = false

abbrev pub is_take : What → Bool
is_take (Take c) = true
is_take w = false

abbrev pub is_ack : What → Bool
is_ack (Ack q id) = true
is_ack w = false

-- how many bytes the body has that a line puts
abbrev pub bytes_put : What → ℕ
bytes_put (Put q m) = length m.body
bytes_put w = 0

-- as many messages are put as were asked for
abbrev pub PutsAll : Type 0
PutsAll = (first count : ℕ) → count_by (λ op. is_put op.what) (all_ops (phases first count)) ≡ count

-- their bodies have the bytes of the messages that are drawn
abbrev pub PutsBytes : Type 0
PutsBytes = (first count : ℕ) → sum_by (λ op. bytes_put op.what) (all_ops (phases first count)) ≡ body_bytes first count

-- the first phase takes a share for each taker, and acknowledges as often
abbrev pub TakesShares : Type 0
TakesShares =
    (first count : ℕ)
    → (count_by (λ op. is_take op.what) (ops_in (first_phase first count)) ≡ TAKERS * (count / SHARES))
    × (count_by (λ op. is_ack op.what) (ops_in (first_phase first count)) ≡ TAKERS * (count / SHARES))

-- the second phase takes and acknowledges as often as there were messages
abbrev pub TakesAll : Type 0
TakesAll =
    (count : ℕ)
    → (count_by (λ op. is_take op.what) (ops_in (second_phase count)) ≡ count)
    × (count_by (λ op. is_ack op.what) (ops_in (second_phase count)) ≡ count)
