use Rattle.std.specs.Prelude.{◌≡◌, ℕ, ◌+◌, ◌<◌, ◌≤◌, List, [], ◌++◌, length, take, Option, Some, None, Result, MatchResult, IfSome, OnOk, OnErr, ⊤}

-- what is told after a call was told before it, and then P holds of the two
abbrev pub WhileTold : {A : Type 0} → Option A → Option A → (A → A → Type 0) → Type 0
WhileTold old None P = ⊤
WhileTold None (Some y) P = ⊥
WhileTold (Some x) (Some y) P = P x y

-- these bytes were taken from the front of what was left
abbrev pub Takes : Option (List ℕ) → Option (List ℕ) → List ℕ → Type 0
Takes old new bytes = WhileTold old new (λ x y. x ≡ bytes ++ y)

-- these bytes were put at the end of what was written
abbrev pub Adds : Option (List ℕ) → Option (List ℕ) → List ℕ → Type 0
Adds old new bytes = WhileTold old new (λ x y. y ≡ x ++ bytes)

-- nothing is left
abbrev pub AtEnd : Option (List ℕ) → Type 0
AtEnd left = IfSome left (λ x. x ≡ [])

-- over a call the count of faults rose by one where the call failed, and else stayed
pub record HasCause {T E : Type 0} (before now : ℕ) (result : Result T E) : Type 0 where
  pub kept : OnOk result (now ≡ before)
  pub failed : OnErr result (now ≡ before + 1)

-- a read took the n bytes in front of the buffer, 0 only at the end; where it failed it took nothing
abbrev pub Reads : {E : Type 0} → Option (List ℕ) → Option (List ℕ) → Result ℕ E → List ℕ → Type 0
Reads old new result buffer =
    MatchResult result
    (λ n. Takes old new (take n buffer) × (n ≡ 0 → AtEnd new))
    (λ _. Takes old new [])

-- a write added the first n of these bytes, at least one; where it failed it added nothing
abbrev pub Writes : {E : Type 0} → Option (List ℕ) → Option (List ℕ) → Result ℕ E → List ℕ → Type 0
Writes old new result bytes =
    MatchResult result
    (λ n. Adds old new (take n bytes) × (0 < n) × (n ≤ length bytes))
    (λ _. Adds old new [])

-- what two calls in a row took, they took together
abbrev pub TakesThen : Type 0
TakesThen = (a b c : Option (List ℕ)) (xs ys : List ℕ) → Takes a b xs → Takes b c ys → Takes a c (xs ++ ys)

-- what two calls in a row added, they added together
abbrev pub AddsThen : Type 0
AddsThen = (a b c : Option (List ℕ)) (xs ys : List ℕ) → Adds a b xs → Adds b c ys → Adds a c (xs ++ ys)
