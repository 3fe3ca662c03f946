-- rows that are numbered by their places
use Rattle.std.proofs.Common.{◌≡◌, ℕ, zero, suc, ◌+◌, ◌<◌, ◌≤◌, cond, List, [], ◌∷◌, ◌++◌, length, get_or, set, refl, sym, ap, ◌∙◌, subst, arith, Some, None, eq-eqb, ne_eqb, find}
use Rattle.std.specs.Option.{option_map}
use Rattle.std.specs.List.{position_or_len}
use Rattle.queue_model.specs.declared.rows.Row.{Row}
use Rattle.queue_model.specs.Keyed.{alter}
use Rattle.queue_model.specs.State.{is_row}
use Rattle.queue_model.proofs.KeyedLemmas.{position-here, position-past}
use Rattle.queue_model.proofs.Positions.{IsFirstAt, find_first, alter_set}
use Rattle.acts_core.specs.Kept.{NumberedFrom}

pub number_at : (n i m : ℕ) (xs : List Row) (d : Row) → NumberedFrom n xs → i < length xs → m ≡ n + i → (get_or xs i d).number ≡ m
number_at n i m [] d w l e = absurd (omega arith)
number_at n zero m (x ∷ xs) d w l e = w.0 ∙ omega arith
number_at n (suc i) m (x ∷ xs) d w l e = number_at (suc n) i m xs d w.1 (omega arith) (omega arith)

-- the row at i is the first one, and the only one, that has its number
pub numbered_first : (i : ℕ) (xs : List Row) (d : Row) → NumberedFrom 0 xs → i < length xs → IsFirstAt (is_row i) xs i d
numbered_first i xs d w l = record {
  inside = l;
  passes = eq-eqb _ _ (number_at 0 i i xs d w l (omega arith));
  before = λ k b. ne_eqb _ _ (λ e. omega (arith, e, number_at 0 k k xs d w (omega arith) (omega arith)));
}

-- no row has the next number
pub next_is_new : (n m : ℕ) (xs : List Row) → NumberedFrom n xs → n + length xs ≤ m → find (is_row m) xs ≡ None
next_is_new n m [] w l = refl
next_is_new n m (x ∷ xs) w l =
    ap (λ b. cond b (Some x) (find (is_row m) xs)) (ne_eqb x.number m (λ e. omega (arith, w.0, e, l)))
    ∙ next_is_new (suc n) m xs w.1 (omega (arith, l))

pub numbered_set : (n i : ℕ) (xs : List Row) (d y : Row) → NumberedFrom n xs → y.number ≡ (get_or xs i d).number → NumberedFrom n (set xs i y)
numbered_set n i [] d y w e = w
numbered_set n zero (x ∷ xs) d y w e = (e ∙ w.0, w.1)
numbered_set n (suc i) (x ∷ xs) d y w e = (w.0, numbered_set (suc n) i xs d y w.1 e)

pub numbered_push : (n : ℕ) (xs : List Row) (y : Row) → NumberedFrom n xs → y.number ≡ n + length xs → NumberedFrom n (xs ++ y ∷ [])
numbered_push n [] y w e = (e ∙ omega arith, tt)
numbered_push n (x ∷ xs) y w e = (w.0, numbered_push (suc n) xs y w.1 (e ∙ omega arith))

-- the row at a place is found by its number
pub found_by_number : (i : ℕ) (xs : List Row) (x : Row) → NumberedFrom 0 xs → i < length xs → x ≡ get_or xs i x → find (is_row x.number) xs ≡ Some x
found_by_number i xs x w l e =
    ap (λ n. find (is_row n) xs) (ap (λ (y : Row). y.number) e ∙ number_at 0 i i xs x w l (omega arith))
    ∙ find_first (is_row i) xs i x (numbered_first i xs x w l) ∙ ap Some (sym e)

-- a change of the row of its number is a write at its place
pub changed_by_number : (f : Row → Row) (i : ℕ) (xs : List Row) (x : Row) → NumberedFrom 0 xs → i < length xs → x ≡ get_or xs i x → alter (is_row x.number) (option_map f) xs ≡ set xs i (f x)
changed_by_number f i xs x w l e =
    ap (λ n. alter (is_row n) (option_map f) xs) (ap (λ (y : Row). y.number) e ∙ number_at 0 i i xs x w l (omega arith))
    ∙ alter_set (is_row i) (option_map f) xs i x (f x) (numbered_first i xs x w l) (ap (λ y. Some (f y)) (sym e))

-- a row stands at the place of its number
pub position_numbered : (n i : ℕ) (xs : List Row) → NumberedFrom n xs → i < length xs → position_or_len (is_row (n + i)) xs ≡ i
position_numbered n i [] w l = absurd (omega arith)
position_numbered n zero (x ∷ xs) w l = position-here (is_row (n + 0)) x xs (eq-eqb x.number (n + 0) (let e = w.0 in omega arith))
position_numbered n (suc i) (x ∷ xs) w l =
    let r = position_numbered (suc n) i xs w.1 (omega arith) in
    let same : suc n + i ≡ n + suc i = omega arith in
    let r' : position_or_len (is_row (n + suc i)) xs ≡ i = subst (λ (k : ℕ). position_or_len (is_row k) xs ≡ i) same r in
    position-past (is_row (n + suc i)) x xs (ne_eqb x.number (n + suc i) (λ z. let e = w.0 in omega arith)) ∙ (ap (λ (k : ℕ). 1 + k) r' ∙ omega arith)
