-- chains that grow by a row at the end
use Rattle.std.proofs.Common.{◌≡◌, ◌≢◌, ◌⊎◌, inl, inr, ℕ, suc, ◌+◌, ◌<◌, true, false, Some, None, List, [], ◌∷◌, ◌++◌, cond, filter, find, length, refl, sym, ap, ◌∙◌, subst, ⊎_elim, ne_eqb, eqb-true, arith}
use Rattle.std.specs.Prelude.{slice_index, slice_set}
use Rattle.std.specs.List.{position_or_len, AllByRecursion}
use Rattle.std.proofs.lemmas.Bool.{cases_Bool, cond-false, eqb-false}
use Rattle.queue_model.specs.declared.rows.Row.{Row}
use Rattle.queue_model.specs.declared.rows.RowState.TheVariants.{Deleted}
use Rattle.queue_model.specs.Keyed.{Apart}
use Rattle.queue_model.specs.Sound.{same_number}
use Rattle.queue_model.specs.State.{is_row, is_of_list}
use Rattle.queue_model.proofs.KeyedLemmas.{find-here, find-past, find_none-head, find_none-tail, all-filter, position-here, position-past}
use Rattle.link_core.specs.Layout.{row_link_of}
use Rattle.link_core.specs.Laws.{LinkNames}
use Rattle.link_core.specs.Stands.{Points, Chain}
use Rattle.link_core.proofs.Frames.{set_here, set_else}

-- a link before rows is not empty
pub points_somewhere : (w : ℕ) (y : Row) (ys : List Row) → Points w (y ∷ ys) → w ≢ 0
points_somewhere w y ys (inl e) zero_is = omega (arith, e, zero_is)
points_somewhere w y ys (inr p) zero_is = p.1 zero_is

-- a link that is not empty points as before where a row comes behind the others
points_more : (w : ℕ) (rows : List Row) (x : Row) → w ≢ 0 → Points w rows → Points w (rows ++ x ∷ [])
points_more w [] x some points = absurd (some points)
points_more w (y ∷ ys) x some (inl e) = inl e
points_more w (y ∷ ys) x some (inr p) = inr (p.0, p.1, points_more w ys x some p.2)

-- the word i is the link at n, or that of one of these rows
abbrev pub Among : ℕ → ℕ → List Row → Type 0
Among i n [] = i ≡ n
Among i n (y ∷ ys) = (i ≡ n) ⊎ Among i (row_link_of y.number) ys

pub among_start : (i n : ℕ) (rows : List Row) → i ≡ n → Among i n rows
among_start i n [] e = e
among_start i n (y ∷ ys) e = inl e

-- the link of a row that is found
pub among_found : (a n : ℕ) (rows : List Row) (y : Row) → find (is_row a) rows ≡ Some y → Among (row_link_of a) n rows
among_found a n [] y found = absurd (cc)
among_found a n (z ∷ zs) y found = ⊎_elim
    (λ (hit : is_row a z ≡ true). inr (among_start (row_link_of a) (row_link_of z.number) zs (ap (λ (k : ℕ). row_link_of k) (sym (eqb-true z.number a hit)))))
    (λ (miss : is_row a z ≡ false). inr (among_found a (row_link_of z.number) zs y (sym (find-past (is_row a) z zs miss) ∙ found)))
    (cases_Bool (is_row a z))

-- The empty link of a node comes to name a new row. So the node is the last, and the row comes behind it.
pub chain_more : (words : List ℕ) (i n : ℕ) (rows : List Row) (x : Row) → i < length words → slice_index words i ≡ 0 → slice_index words (row_link_of x.number) ≡ 0 → row_link_of x.number ≢ i
    → Among i n rows → Chain words (slice_index words n) rows
    → Chain (slice_set words i (suc x.number)) (slice_index (slice_set words i (suc x.number)) n) (rows ++ x ∷ [])
chain_more words i n [] x long empty own other among chain =
    (inl (ap (λ (k : ℕ). slice_index (slice_set words i (suc x.number)) k) (sym among) ∙ set_here words i (suc x.number) long), set_else words i (suc x.number) (row_link_of x.number) other ∙ own)
chain_more words i n (y ∷ ys) x long empty own other among chain =
    let some : slice_index words n ≢ 0 = points_somewhere (slice_index words n) y ys chain.0 in
    let past : n ≢ i = λ e. some (ap (λ (k : ℕ). slice_index words k) e ∙ empty) in (
      subst (λ (w : ℕ). Points w ((y ∷ ys) ++ x ∷ [])) (sym (set_else words i (suc x.number) n past)) (points_more (slice_index words n) (y ∷ ys) x some chain.0),
      chain_more words i (row_link_of y.number) ys x long empty own other
          (⊎_elim (λ (e : i ≡ n). absurd (past (sym e))) (λ (rest : Among i (row_link_of y.number) ys). rest) among) chain.1,
    )

-- behind an empty link there is no row
nothing_behind : (w : ℕ) (words : List ℕ) (rows : List Row) → w ≡ 0 → Chain words w rows → length rows ≡ 0
nothing_behind w words [] e chain = refl
nothing_behind w words (y ∷ ys) e chain = absurd (points_somewhere w y ys chain.0 e)

-- a list whose head has an empty link has no row
pub empty_list : (words : List ℕ) (w : ℕ) (rows : List Row) → w ≡ 0 → Chain words w rows → length rows ≡ 0
empty_list words w rows e chain = nothing_behind w words rows e chain

-- a row whose link is empty is the last of its list
pub last_place : (words : List ℕ) (w a : ℕ) (rows : List Row) (y : Row) → find (is_row a) rows ≡ Some y → slice_index words (row_link_of a) ≡ 0 → Chain words w rows → position_or_len (is_row a) rows + 1 ≡ length rows
last_place words w a [] y found empty chain = absurd (cc)
last_place words w a (z ∷ zs) y found empty chain = ⊎_elim
    (λ (hit : is_row a z ≡ true).
    let none : length zs ≡ 0 = nothing_behind (slice_index words (row_link_of z.number)) words zs (ap (λ (k : ℕ). slice_index words (row_link_of k)) (eqb-true z.number a hit) ∙ empty) chain.1 in
    omega (arith, position-here (is_row a) z zs hit, none))
    (λ (miss : is_row a z ≡ false).
    omega (arith, position-past (is_row a) z zs miss, last_place words (slice_index words (row_link_of z.number)) a zs y (sym (find-past (is_row a) z zs miss) ∙ found) empty chain.1))
    (cases_Bool (is_row a z))

-- no row has a number that is not found
pub none_numbered : (a : ℕ) (xs : List Row) → find (is_row a) xs ≡ None → AllByRecursion (λ y. y.number ≢ a) xs
none_numbered a [] e = tt
none_numbered a (x ∷ xs) e = (eqb-false x.number a (find_none-head (is_row a) x xs e), none_numbered a xs (find_none-tail (is_row a) x xs e))

-- a row of one list is not among those of another
pub others_numbered : (a l : ℕ) (xs : List Row) (z : Row) → Apart same_number xs → find (is_row a) xs ≡ Some z → z.slip.list ≢ l → AllByRecursion (λ y. y.number ≢ a) (filter (is_of_list l) xs)
others_numbered a l [] z apart found other = tt
others_numbered a l (x ∷ xs) z apart found other = ⊎_elim
    (λ (hit : is_row a x ≡ true).
    let both : Some x ≡ Some z = sym (find-here (is_row a) x xs hit) ∙ found in
    let same : x ≡ z = cc in
    let gone : find (is_row a) xs ≡ None = subst (λ (n : ℕ). find (is_row n) xs ≡ None) (eqb-true x.number a hit) apart.0 in
    let out : is_of_list l x ≡ false = ne_eqb x.slip.list l (λ e. other (ap (λ (y : Row). y.slip.list) (sym same) ∙ e)) in
    subst (λ (ys : List Row). AllByRecursion (λ y. y.number ≢ a) ys) (sym (cond-false (is_of_list l x) (x ∷ filter (is_of_list l) xs) (filter (is_of_list l) xs) out))
    (all-filter (λ (y : Row). y.number ≢ a) (is_of_list l) xs (none_numbered a xs gone)))
    (λ (miss : is_row a x ≡ false).
    let rest = others_numbered a l xs z apart.1 (sym (find-past (is_row a) x xs miss) ∙ found) other in
    elim (is_of_list l x) as (λ b. AllByRecursion (λ y. y.number ≢ a) (cond b (x ∷ filter (is_of_list l) xs) (filter (is_of_list l) xs)))
    [ true ↦ (eqb-false x.number a miss, rest) | false ↦ rest ])
    (cases_Bool (is_row a x))

-- where a link leads
pub link_names : LinkNames
link_names w [] points = inl (points, refl)
link_names w (x ∷ xs) (inl e) = inr ([], x, xs, refl, tt, e)
link_names w (x ∷ xs) (inr p) = ⊎_elim
    (λ (none : (w ≡ 0) × (xs ≡ [])). absurd (p.1 none.0))
    (λ (some : (front : List Row) × (y : Row) × (back : List Row) × (xs ≡ front ++ y ∷ back) × AllByRecursion (λ y. y.state ≡ Deleted) front × (w ≡ suc y.number)).
    inr (x ∷ some.0, some.1, some.2, ap (λ (ys : List Row). x ∷ ys) some.3, (p.0, some.4), some.5))
    (link_names w xs p.2)
