use Rattle.std.specs.Prelude.{◌≡◌, ℕ, ◌+◌, ◌-◌, ◌^◌, ◌<◌, min, List, Contains}

-- the last value of a counter
abbrev pub last_count : ℕ
last_count = 2 ^ 64 - 1

-- the number of the call after this one; at its last value it stays
abbrev pub next_call : ℕ → ℕ
next_call call = min (call + 1) last_count

-- this count of faults is at its last value: no call reaches anything any more
abbrev pub IsSpent : ℕ → Type 0
IsSpent faults = faults ≡ last_count

-- the list has the call's number, which is below its last value
abbrev pub IsListed : List ℕ → ℕ → Type 0
IsListed failing call = (call < last_count) × Contains failing call
