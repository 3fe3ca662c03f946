-- the number that digits write
use Rattle.std.proofs.Common.{◌≡◌, ℕ, suc, ◌+◌, ◌-◌, ◌*◌, ◌^◌, ◌<◌, ◌≤◌, ◌&&◌, arith, ◌==◌, true, not, List, ◌∷◌, drop, length, drop-cons, get_or, nat_le, refl, sym, ap, ◌∙◌, subst}
use Rattle.std.specs.List.{list_all}
use Rattle.std.proofs.Math.ListN.{drop_of_length-le}
use Rattle.std.proofs.Math.Nat.{pow-le-pow_right, pow-suc}
use Rattle.std.proofs.lemmas.Bool.{le-leb, leb-true}
use Rattle.command_line.specs.Numbers.{is_count, is_digit, is_numeral, number_behind, number_of}
use Rattle.command_line.proofs.Both.{both, both_first, both_second}

-- The digits from here on, of which so many were read, and the number of these
pub record Reads (digits : List ℕ) (at number : ℕ) : Type 0 where
  pub all : list_all is_digit (drop at digits) ≡ true
  pub low : number < 10 ^ at
  pub same : number_behind number (drop at digits) ≡ number_behind 0 digits

pub reads_none : (digits : List ℕ) → list_all is_digit digits ≡ true → Reads digits 0 0
reads_none digits all = record { all = all; low = omega arith; same = refl }

next : (i : ℕ) → suc i ≡ i + 1
next i = omega arith

module _ (digits : List ℕ) (at number : ℕ) (r : Reads digits at number) (within : at < length digits) where
  here : drop at digits ≡ get_or digits at 0 ∷ drop (suc at) digits
  here = drop-cons digits at 0 within

  is : (is_digit (get_or digits at 0) && list_all is_digit (drop (suc at) digits)) ≡ true
  is = subst (λ (xs : List ℕ). list_all is_digit xs ≡ true) here r.all

  digit : is_digit (get_or digits at 0) ≡ true
  digit = both_first (is_digit (get_or digits at 0)) (list_all is_digit (drop (suc at) digits)) is

  pub above_zero : 48 ≤ get_or digits at 0
  above_zero = leb-true 48 (get_or digits at 0) (both_first (nat_le 48 (get_or digits at 0)) (nat_le (get_or digits at 0) 57) digit)

  pub below_ten : get_or digits at 0 ≤ 57
  below_ten = leb-true (get_or digits at 0) 57 (both_second (nat_le 48 (get_or digits at 0)) (nat_le (get_or digits at 0) 57) digit)

  pub tens_fit : length digits ≤ 19 → number * 10 + 10 ≤ 10 ^ 19
  tens_fit few =
      let most : 10 ^ at ≤ 10 ^ 18 = pow-le-pow_right (omega arith) {j = 18} (omega arith) in
      omega (arith, most, r.low)

  more : Reads digits (suc at) (number * 10 + (get_or digits at 0 - 48))
  more = record {
    all = both_second (is_digit (get_or digits at 0)) (list_all is_digit (drop (suc at) digits)) is;
    low = omega (arith, pow-suc 10 at, r.low, above_zero, below_ten);
    same = sym (ap (number_behind number) here) ∙ r.same;
  }

  pub reads_more : Reads digits (at + 1) (number * 10 + (get_or digits at 0 - 48))
  reads_more = subst (λ (i : ℕ). Reads digits i (number * 10 + (get_or digits at 0 - 48))) (next at) more

pub reads_all : (digits : List ℕ) (at number : ℕ) → Reads digits at number → length digits ≤ at → number ≡ number_behind 0 digits
reads_all digits at number r all = ap (number_behind number) (sym (drop_of_length-le digits {i = at} all)) ∙ r.same

-- a count is a numeral of at most as many digits as a number
pub count_is_numeral : (text : List ℕ) → is_count text ≡ true → is_numeral 19 text ≡ true
count_is_numeral text e =
    let short = both_first (is_numeral 6 text) (nat_le 1 (number_of text) && nat_le (number_of text) 100000) e in
    let rest = both_second (not (length text == 0)) (nat_le (length text) 6 && list_all is_digit text) short in
    both (not (length text == 0)) (nat_le (length text) 19 && list_all is_digit text)
    (both_first (not (length text == 0)) (nat_le (length text) 6 && list_all is_digit text) short)
    (both (nat_le (length text) 19) (list_all is_digit text)
    (le-leb (length text) 19 (omega (arith, leb-true (length text) 6 (both_first (nat_le (length text) 6) (list_all is_digit text) rest))))
    (both_second (nat_le (length text) 6) (list_all is_digit text) rest))
