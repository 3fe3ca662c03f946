-- the laws on what is generated
use Rattle.std.proofs.Common.{◌≡◌, ℕ, cond, List, [], ◌∷◌, refl, arith}
use Rattle.std.specs.List.{range_with_len, sum_by}
use Rattle.std.proofs.lemmas.List.{length-replicate}
use Rattle.std.proofs.lemmas.List.FromFn.{length-range_with_len}
use Rattle.std.proofs.lemmas.List.Sums.{sum_by-cons}
use Rattle.gen_core.specs.Draws.{length_of, number_after}
use Rattle.gen_core.specs.Generated.{put_line}
use Rattle.gen_core.specs.Laws.{PutsAll, PutsBytes, TakesAll, TakesShares, bytes_put, is_ack, is_put, is_take}
use Rattle.gen_core.specs.declared.draws.TheConstants.{LETTER}
use Rattle.gen_core.proofs.Totals.{same_each, sum_all, sum_first, sum_second}

each_as : (f g : ℕ → ℕ) → ((i : ℕ) → f i ≡ g i) → (row : List ℕ) → sum_by f row ≡ sum_by g row
each_as f g same [] = refl
each_as f g same (i ∷ row) = omega (arith, sum_by-cons f i row, sum_by-cons g i row, same i, each_as f g same row)

pub puts_all : PutsAll
puts_all first count =
    omega (arith, sum_all (λ op. cond (is_put op.what) 1 0) 0 (λ actor c at. refl) first count, same_each (λ (i : ℕ). 1) 1 (λ i. refl) (range_with_len 1 count), length-range_with_len 1 count)

pub puts_bytes : PutsBytes
puts_bytes first count =
    omega (
      arith,
      sum_all (λ op. bytes_put op.what) 0 (λ actor c at. refl) first count,
      each_as (λ i. bytes_put (put_line first i).what) (λ i. length_of (number_after first i)) (λ i. length-replicate (length_of (number_after first i)) LETTER) (range_with_len 1 count),
    )

none_put : (f : ℕ → ℕ) → ((i : ℕ) → f i ≡ 0) → (row : List ℕ) → sum_by f row ≡ 0
none_put f none row = omega (arith, same_each f 0 none row)

pub takes_shares : TakesShares
takes_shares first count = (
  omega (arith, sum_first (λ op. cond (is_take op.what) 1 0) 1 (λ actor c at. refl) first count, none_put (λ (i : ℕ). 0) (λ i. refl) (range_with_len 1 count)),
  omega (arith, sum_first (λ op. cond (is_ack op.what) 1 0) 1 (λ actor c at. refl) first count, none_put (λ (i : ℕ). 0) (λ i. refl) (range_with_len 1 count)),
)

pub takes_all : TakesAll
takes_all count = (
  omega (arith, sum_second (λ op. cond (is_take op.what) 1 0) 1 (λ actor c at. refl) count),
  omega (arith, sum_second (λ op. cond (is_ack op.what) 1 0) 1 (λ actor c at. refl) count),
)
