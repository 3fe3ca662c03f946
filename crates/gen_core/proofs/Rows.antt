-- numbers in a row, and what is made of one more of them
use Rattle.std.proofs.Common.{◌≡◌, ℕ, zero, suc, ◌+◌, ◌*◌, ◌≤◌, List, [], ◌∷◌, ◌++◌, map, sym, ap, ◌∙◌, append_assoc, arith, mul-le-mul_right}
use Rattle.std.specs.List.{flat_map, range_with_len, sum_by}
use Rattle.std.proofs.lemmas.Grind.{flat_map-append}
use Rattle.std.proofs.lemmas.List.{append-nil}
use Rattle.std.proofs.lemmas.List.FromFn.{map-range_with_len_more}
use Rattle.std.proofs.lemmas.List.Sums.{sum_by_push}
use Rattle.gen_core.specs.Draws.{length_of, next_of, number_after}
use Rattle.gen_core.specs.Generated.{body_bytes, put_lines, puts, round, rounds}

last : (a n j : ℕ) → a + n ≡ j → range_with_len a (suc n) ≡ range_with_len a n ++ j ∷ []
last a zero j e = let same : a ≡ j = omega arith in ap (λ k. k ∷ []) same
last a (suc n) j e = ap (λ l. a ∷ l) (last (a + 1) n j (omega arith))

row_more : (a n j : ℕ) → a + n ≡ j → range_with_len a (n + 1) ≡ range_with_len a n ++ j ∷ []
row_more a n j e = let on : n + 1 ≡ suc n = omega arith in ap (range_with_len a) on ∙ last a n j e

-- of lists in a row, one list more
lists_more : {X : Type 0} (f : ℕ → List X) → (a n j : ℕ) → a + n ≡ j → flat_map f (range_with_len a (n + 1)) ≡ flat_map f (range_with_len a n) ++ f j
lists_more f a n j e = ap (flat_map f) (row_more a n j e) ∙ flat_map-append f (range_with_len a n) (j ∷ []) ∙ ap (λ l. flat_map f (range_with_len a n) ++ l) (append-nil (f j))

pub number_after_more : (first n : ℕ) → number_after first (n + 1) ≡ next_of (number_after first n)
number_after_more first n = let on : n + 1 ≡ suc n = omega arith in ap (number_after first) on

pub puts_more : (first n k : ℕ) → puts first (n + 1) k ≡ puts first n k ++ put_lines first k (n + 1)
puts_more first n k = lists_more (put_lines first k) 1 n (n + 1) (omega arith)

pub rounds_more : (actor : List ℕ) (consumer line stride n : ℕ) → rounds actor consumer line stride (n + 1) ≡ rounds actor consumer line stride n ++ round actor consumer (line + stride * n)
rounds_more actor consumer line stride n = lists_more (λ j. round actor consumer (line + stride * j)) 0 n n (omega arith)

pub stride_low : (stride n : ℕ) → stride ≤ 8 → stride * n ≤ 8 * n
stride_low stride n low = mul-le-mul_right n low

pub body_bytes_more : (first n : ℕ) → body_bytes first (n + 1) ≡ body_bytes first n + length_of (number_after first (n + 1))
body_bytes_more first n =
    let bytes_of : ℕ → ℕ = λ i. length_of (number_after first i) in
    ap (sum_by bytes_of) (row_more 1 n (n + 1) (omega arith)) ∙ sum_by_push bytes_of (range_with_len 1 n) (n + 1)

-- of a map of a row, one more
pub map_row_more : {X : Type 0} (f : ℕ → X) → (n : ℕ) → map f (range_with_len 0 (n + 1)) ≡ map f (range_with_len 0 n) ++ f n ∷ []
map_row_more f n = map-range_with_len_more f 0 n n (omega arith)

-- the same behind a list
pub map_row_more_behind : {X : Type 0} (f : ℕ → X) → (xs : List X) (n : ℕ) → xs ++ map f (range_with_len 0 (n + 1)) ≡ (xs ++ map f (range_with_len 0 n)) ++ f n ∷ []
map_row_more_behind f xs n = ap (λ l. xs ++ l) (map_row_more f n) ∙ sym (append_assoc xs (map f (range_with_len 0 n)) (f n ∷ []))
