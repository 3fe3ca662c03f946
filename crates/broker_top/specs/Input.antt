-- reading the whole input, up to its limit
use Rattle.std.specs.Prelude.{◌≡◌, ℕ, ◌+◌, ◌<◌, ◌≤◌, Option, List, [], ◌++◌, length, codes, ⊤}
use Rattle.outside_io.specs.Told.{Takes, AtEnd}
use Rattle.broker_top.specs.declared.input.Unread.{Unread}
use Rattle.broker_top.specs.declared.input.Unread.TheVariants.{TooLarge, Fault, NoMemory}
use Rattle.broker_top.specs.declared.input.Turn as turn
use Rattle.broker_top.specs.declared.input.Turn.TheVariants as turns

-- the greatest input, in bytes
abbrev pub input_limit : ℕ
input_limit = 67108864

-- This is all of the input: it was read to its end, and is within the limit.
pub record IsWhole (input : List ℕ) (left left' : Option (List ℕ)) : Type 0 where
  pub read : Takes left left' input
  pub end : AtEnd left'
  pub fits : length input ≤ input_limit

-- what is told of an input that is too large
abbrev pub too_large_text : List ℕ
too_large_text = codes "fault: input too large\n"

-- The input has a byte too many, which was read.
pub record IsTooLarge (text : List ℕ) (left left' : Option (List ℕ)) : Type 0 where
  pub front : List ℕ
  pub read : Takes left left' front
  pub large : length front ≡ input_limit + 1
  pub told : text ≡ too_large_text

-- Why a source was not read whole: one byte more than the limit was read, or the source failed, once. It failed in no other case.
abbrev pub LeavesUnread : Unread → Option (List ℕ) → Option (List ℕ) → ℕ → ℕ → Type 0
LeavesUnread TooLarge left left' faults faults' = (faults' ≡ faults) × ((front : List ℕ) × Takes left left' front × (length front ≡ input_limit + 1))
LeavesUnread Fault left left' faults faults' = faults' ≡ faults + 1
LeavesUnread NoMemory left left' faults faults' = faults' ≡ faults

-- One read: some bytes came, at least one and at most so many, and are kept; or nothing is left.
abbrev pub ReadsTurn : ℕ → turn.Turn → Option (List ℕ) → Option (List ℕ) → List ℕ → List ℕ → Type 0
ReadsTurn most turns.More left left' kept kept' = (bytes : List ℕ) × Takes left left' bytes × (kept' ≡ kept ++ bytes) × (0 < length bytes) × (length bytes ≤ most)
ReadsTurn most turns.End left left' kept kept' = Takes left left' [] × AtEnd left' × (kept' ≡ kept)
ReadsTurn most turns.Fault left left' kept kept' = ⊤
ReadsTurn most turns.NoMemory left left' kept kept' = ⊤

-- over one read the source's count of faults rose by one where the read failed, and else stayed
abbrev pub TurnFaults : turn.Turn → ℕ → ℕ → Type 0
TurnFaults turns.More faults faults' = faults' ≡ faults
TurnFaults turns.End faults faults' = faults' ≡ faults
TurnFaults turns.Fault faults faults' = faults' ≡ faults + 1
TurnFaults turns.NoMemory faults faults' = faults' ≡ faults
