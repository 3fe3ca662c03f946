-- where a text parts into lines
use Rattle.std.proofs.Common.{◌≡◌, ℕ, zero, suc, ◌==◌, Bool, true, false, cond, List, [], ◌∷◌, length, get_or, ◌<◌, take, drop, refl, ap, ◌∙◌, arith, Some, None, Option, find}
use Rattle.memchr.specs.Find.{IsFirstByte}
use Rattle.queue_model.proofs.Positions.{IsFirstAt}
use Rattle.script_read.specs.Lines.{lines_of, onto_first}

abbrev pub is_feed : ℕ → Bool
is_feed b = b == 10

tail_first : (x : ℕ) (xs : List ℕ) (i d : ℕ) → IsFirstAt is_feed (x ∷ xs) (suc i) d → IsFirstAt is_feed xs i d
tail_first x xs i d h = record { inside = omega (arith, h.inside); passes = h.passes; before = λ k l. h.before (suc k) (omega arith) }

-- at the first line feed the first line ends
lines_at : (xs : List ℕ) (i d : ℕ) → IsFirstAt is_feed xs i d → lines_of xs ≡ take i xs ∷ lines_of (drop (suc i) xs)
lines_at [] i d h = absurd (omega (arith, h.inside))
lines_at (x ∷ xs) zero d h = ap (λ b. cond b ([] ∷ lines_of xs) (onto_first x (lines_of xs))) h.passes
lines_at (x ∷ xs) (suc i) d h =
    ap (λ b. cond b ([] ∷ lines_of xs) (onto_first x (lines_of xs))) (h.before 0 (omega arith)) ∙ ap (onto_first x) (lines_at xs i d (tail_first x xs i d h))

cond_none : {A : Type 0} (b : Bool) (x : A) (o : Option A) → cond b (Some x) o ≡ None → (b ≡ false) × (o ≡ None)
cond_none true x o e = absurd (cc)
cond_none false x o e = (refl, e)

-- without a line feed all is one line
lines_none : (x : ℕ) (xs : List ℕ) → find is_feed (x ∷ xs) ≡ None → lines_of (x ∷ xs) ≡ (x ∷ xs) ∷ []
lines_none x [] e = ap (λ b. cond b ([] ∷ []) ((x ∷ []) ∷ [])) (cond_none _ _ _ e).0
lines_none x (y ∷ ys) e =
    ap (λ b. cond b ([] ∷ lines_of (y ∷ ys)) (onto_first x (lines_of (y ∷ ys)))) (cond_none _ _ _ e).0
    ∙ ap (onto_first x) (lines_none y ys (cond_none _ _ _ e).1)

not_true : (b : Bool) → ¬ (b ≡ true) → b ≡ false
not_true true h = absurd (h refl)
not_true false h = refl

none_found : (xs : List ℕ) → ((k : ℕ) → k < length xs → ¬ (is_feed (get_or xs k 0) ≡ true)) → find is_feed xs ≡ None
none_found [] h = refl
none_found (x ∷ xs) h = ap (λ b. cond b (Some x) (find is_feed xs)) (not_true (is_feed x) (h 0 (omega arith))) ∙ none_found xs (λ k below. h (suc k) (omega (arith, below)))

-- The two answers of a search for the first line feed

pub line_at : (xs : List ℕ) (i : ℕ) → IsFirstByte is_feed xs (Some i) → lines_of xs ≡ take i xs ∷ lines_of (drop (suc i) xs)
line_at xs i h = lines_at xs i 0 (record { inside = h.0.high; passes = h.1; before = λ k below. not_true (is_feed (get_or xs k 0)) (h.0.before k (omega arith) below) })

pub line_all : (xs : List ℕ) → 0 < length xs → IsFirstByte is_feed xs None → lines_of xs ≡ xs ∷ []
line_all [] some h = absurd (omega (arith, some))
line_all (x ∷ xs) some h = lines_none x xs (none_found (x ∷ xs) (λ k below. h k (omega arith) below))
