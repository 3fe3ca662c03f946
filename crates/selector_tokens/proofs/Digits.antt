-- What digits write.
use Rattle.std.proofs.Common.{◌≡◌, ℕ, ◌+◌, ◌-◌, ◌*◌, ◌^◌, ◌<◌, ◌≤◌, true, List, length, get_or, take, refl, sym, arith}
use Rattle.std.specs.Prelude.{ℤ, pos, Option, Some, None, nat_lt, if◌then◌else◌}
use Rattle.std.specs.Char.{is_ascii_digit, digit_value}
use Rattle.std.specs.List.{AllPass}
use Rattle.std.specs.Str.Parse.{digits_value}
use Rattle.std.proofs.lemmas.Bool.{and_parts, leb-true, le-ltb, lt-ltb}
use Rattle.std.proofs.lemmas.Int.Digits.{digits_value_more}
use Rattle.std.proofs.lemmas.Str.Parse.{digits_value-take-le}

pub digit_bounds : (c : ℕ) → is_ascii_digit c ≡ true → (48 ≤ c) × (c ≤ 57)
digit_bounds c h = let p = and_parts _ _ h in (leb-true _ _ p.0, leb-true _ _ p.1)

pub digit_value_is : (c : ℕ) → is_ascii_digit c ≡ true → digit_value c ≡ c - 48
digit_value_is c h =
    let b = digit_bounds c h in
    rw (le-ltb c 48 b.0, lt-ltb c 58 (omega (arith, b.1))) refl

-- the number so far, with one more digit
pub value_more : (ds : List ℕ) (i v : ℕ) → AllPass is_ascii_digit ds → i < length ds → v ≡ digits_value 10 (take i ds)
    → digits_value 10 (take (i + 1) ds) ≡ v * 10 + (get_or ds i 0 - 48)
value_more ds i v all lt e = rw (digits_value_more 10 ds i lt, digit_value_is (get_or ds i 0) (all i 0 lt), e) refl

abbrev pub number_within : ℕ → Option ℤ
number_within n = if nat_lt n (2 ^ 63) then Some (pos n) else None

-- where the number so far is past the limit, the whole number is
pub value_past : (ds : List ℕ) (i n : ℕ) → n ≡ digits_value 10 (take i ds) → 2 ^ 63 ≤ n → None ≡ number_within (digits_value 10 ds)
value_past ds i n e past = rw (le-ltb (digits_value 10 ds) (2 ^ 63) (omega (arith, digits_value-take-le 10 ds i (omega arith)))) refl

-- and so it is where one more digit goes past the range of 64 bits
pub more_is_past : (ds : List ℕ) (i v : ℕ) → AllPass is_ascii_digit ds → i < length ds → v ≡ digits_value 10 (take i ds)
    → (v * 10 + (get_or ds i 0 - 48) < 2 ^ 64 → ⊥) → None ≡ number_within (digits_value 10 ds)
more_is_past ds i v all lt e past =
    value_past ds (i + 1) (v * 10 + (get_or ds i 0 - 48)) (sym (value_more ds i v all lt e)) (omega arith)
