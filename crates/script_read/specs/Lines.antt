-- the lines of an input, and which of them are blank
use Rattle.std.specs.Prelude.{ℕ, ◌+◌, ◌==◌, ◌||◌, if◌then◌else◌, List, [], ◌∷◌, Bool}
use Rattle.std.specs.List.{list_all}

-- a byte in front of the first line
abbrev pub onto_first : ℕ → List (List ℕ) → List (List ℕ)
onto_first b [] = (b ∷ []) ∷ []
onto_first b (l ∷ ls) = (b ∷ l) ∷ ls

-- the bytes between line feeds; the last line may lack its line feed
abbrev pub lines_of : List ℕ → List (List ℕ)
lines_of [] = []
lines_of (b ∷ rest) = if b == 10 then [] ∷ lines_of rest else onto_first b (lines_of rest)

-- a line that has only spaces, tabs and carriage returns
abbrev pub is_blank : List ℕ → Bool
is_blank line = list_all (λ b. (b == 32) || ((b == 9) || (b == 13))) line

-- the lines that are not blank, each with its number; the first line has the number n
abbrev pub numbered : ℕ → List (List ℕ) → List (ℕ × List ℕ)
numbered n [] = []
numbered n (l ∷ ls) = if is_blank l then numbered (n + 1) ls else (n, l) ∷ numbered (n + 1) ls
