-- links that skip deleted rows
use Rattle.std.proofs.Common.{◌≡◌, ◌≢◌, inl, inr, ℕ, suc, ◌+◌, ◌<◌, true, false, Some, None, List, [], ◌∷◌, find, length, refl, sym, ap, ◌∙◌, subst, ⊎_elim, eq-eqb, eqb-true, arith}
use Rattle.std.specs.Prelude.{slice_index, slice_set}
use Rattle.std.specs.List.{position_or_len, AllByRecursion}
use Rattle.std.proofs.lemmas.Bool.{cases_Bool, cases_eq}
use Rattle.queue_model.specs.declared.rows.Row.{Row}
use Rattle.queue_model.specs.declared.rows.RowState.TheVariants.{Deleted}
use Rattle.queue_model.specs.Keyed.{Apart}
use Rattle.queue_model.specs.Sound.{same_number}
use Rattle.queue_model.specs.State.{is_row}
use Rattle.queue_model.proofs.KeyedLemmas.{find-here, find-past, position-here, position-past}
use Rattle.link_core.specs.Layout.{row_link_of}
use Rattle.link_core.specs.Stands.{Points, Chain}
use Rattle.link_core.proofs.Chaining.{none_numbered}
use Rattle.link_core.proofs.Frames.{set_here, set_else}

-- where row a stands among these rows it is deleted, and the link w points into what stands behind it
abbrev pub Leads : ℕ → ℕ → List Row → Type 0
Leads a w [] = Unit {0}
Leads a w (y ∷ ys) = (y.number ≡ a → (y.state ≡ Deleted) × Points w ys) × Leads a w ys

-- so it is where no row has that number
pub leads_none : (a w : ℕ) (rows : List Row) → AllByRecursion (λ y. y.number ≢ a) rows → Leads a w rows
leads_none a w [] all = tt
leads_none a w (y ∷ ys) all = ((λ e. absurd (all.0 e)), leads_none a w ys all.1)

-- a row that stands behind another has another number
past_row : (r : ℕ) (x : Row) (xs : List Row) (z : Row) → Apart same_number (x ∷ xs) → find (is_row r) xs ≡ Some z → is_row r x ≡ false
past_row r x xs z apart found = ⊎_elim
    (λ (hit : is_row r x ≡ true).
    let none : find (is_row r) xs ≡ None = subst (λ (n : ℕ). find (is_row n) xs ≡ None) (eqb-true x.number r hit) apart.0 in
    let bad : Some z ≡ None = sym found ∙ none in absurd (cc))
    (λ (miss : is_row r x ≡ false). miss)
    (cases_Bool (is_row r x))

-- a row that is found behind the first is found
pub find_behind : (r : ℕ) (x : Row) (xs : List Row) (z : Row) → Apart same_number (x ∷ xs) → find (is_row r) xs ≡ Some z → find (is_row r) (x ∷ xs) ≡ Some z
find_behind r x xs z apart found = find-past (is_row r) x xs (past_row r x xs z apart found) ∙ found

-- and its place is one more
pub place_behind_first : (r : ℕ) (x : Row) (xs : List Row) (z : Row) → Apart same_number (x ∷ xs) → find (is_row r) xs ≡ Some z → position_or_len (is_row r) (x ∷ xs) ≡ 1 + position_or_len (is_row r) xs
place_behind_first r x xs z apart found = position-past (is_row r) x xs (past_row r x xs z apart found)

-- a link that names row b points there, where each row before it is deleted
pub points_to : (b : ℕ) (rows : List Row) (y : Row) → Apart same_number rows → find (is_row b) rows ≡ Some y
    → ((r : ℕ) (z : Row) → find (is_row r) rows ≡ Some z → position_or_len (is_row r) rows < position_or_len (is_row b) rows → z.state ≡ Deleted)
    → Points (suc b) rows
points_to b [] y apart found gone = absurd (cc)
points_to b (x ∷ xs) y apart found gone = ⊎_elim
    (λ (hit : is_row b x ≡ true). inl (ap (λ (n : ℕ). suc n) (sym (eqb-true x.number b hit))))
    (λ (miss : is_row b x ≡ false).
    let self : is_row x.number x ≡ true = eq-eqb x.number x.number refl in
    let back : find (is_row b) xs ≡ Some y = sym (find-past (is_row b) x xs miss) ∙ found in
    let far = position-past (is_row b) x xs miss in
    let near = position-here (is_row x.number) x xs self in inr (
      gone x.number x (find-here (is_row x.number) x xs self) (omega (arith, far, near)),
      (λ e. omega (arith, e)),
      points_to b xs y apart.1 back (λ r z f less. gone r z (find_behind r x xs z apart f) (let one = place_behind_first r x xs z apart f in omega (arith, one, far, less))),
    ))
    (cases_Bool (is_row b x))

-- a link that names row b leads on from row a, where b comes later, and a and each row between is deleted
pub leads_to : (a b : ℕ) (rows : List Row) (x y : Row) → Apart same_number rows → find (is_row a) rows ≡ Some x → x.state ≡ Deleted → find (is_row b) rows ≡ Some y
    → position_or_len (is_row a) rows < position_or_len (is_row b) rows
    → ((r : ℕ) (z : Row) → find (is_row r) rows ≡ Some z → position_or_len (is_row a) rows < position_or_len (is_row r) rows → position_or_len (is_row r) rows < position_or_len (is_row b) rows → z.state ≡ Deleted)
    → Leads a (suc b) rows
leads_to a b [] x y apart out gone next later between = absurd (cc)
leads_to a b (z ∷ zs) x y apart out gone next later between = ⊎_elim
    (λ (hit : is_row a z ≡ true).
    let both : Some z ≡ Some x = sym (find-here (is_row a) z zs hit) ∙ out in
    let same : z ≡ x = cc in
    let start = position-here (is_row a) z zs hit in
    let none : find (is_row a) zs ≡ None = subst (λ (n : ℕ). find (is_row n) zs ≡ None) (eqb-true z.number a hit) apart.0 in
    let other : is_row b z ≡ false = not_first start in
    let back : find (is_row b) zs ≡ Some y = sym (find-past (is_row b) z zs other) ∙ next in
    let far = position-past (is_row b) z zs other in (
      (λ e. (ap (λ (w : Row). w.state) same ∙ gone, points_to b zs y apart.1 back (λ r w f less. between r w (find_behind r z zs w apart f) (let one = place_behind_first r z zs w apart f in omega (arith, one, start)) (let one = place_behind_first r z zs w apart f in omega (arith, one, far, less))))),
      leads_none a (suc b) zs (none_numbered a zs none),
    ))
    (λ (miss : is_row a z ≡ false).
    let start = position-past (is_row a) z zs miss in
    let other : is_row b z ≡ false = later_first start in
    let far = position-past (is_row b) z zs other in (
      (λ e. let bad : true ≡ false = sym (eq-eqb z.number a e) ∙ miss in absurd (cc)),
      leads_to a b zs x y apart.1 (sym (find-past (is_row a) z zs miss) ∙ out) gone (sym (find-past (is_row b) z zs other) ∙ next) (omega (arith, start, far, later))
          (λ r w f l m. between r w (find_behind r z zs w apart f) (let one = place_behind_first r z zs w apart f in omega (arith, one, start, l)) (let one = place_behind_first r z zs w apart f in omega (arith, one, far, m))),
    ))
    (cases_Bool (is_row a z)) where
      by_position : (n : ℕ) → position_or_len (is_row a) (z ∷ zs) ≡ n → is_row b z ≡ false
      by_position n start = ⊎_elim
          (λ (hit : is_row b z ≡ true). let zero_is = position-here (is_row b) z zs hit in absurd (omega (arith, zero_is, later)))
          (λ (miss : is_row b z ≡ false). miss)
          (cases_Bool (is_row b z))

      not_first : position_or_len (is_row a) (z ∷ zs) ≡ 0 → is_row b z ≡ false
      not_first start = by_position 0 start

      later_first : position_or_len (is_row a) (z ∷ zs) ≡ 1 + position_or_len (is_row a) zs → is_row b z ≡ false
      later_first start = by_position (1 + position_or_len (is_row a) zs) start

-- a link that pointed at row a, or past it, points on where w leads on from there
points_past : (a w : ℕ) (rows : List Row) → w ≢ 0 → Leads a w rows → Points (suc a) rows → Points w rows
points_past a w [] some lead p = absurd (omega (arith, p))
points_past a w (y ∷ ys) some lead (inl e) = let t = lead.0 (omega (arith, e)) in inr (t.0, some, t.1)
points_past a w (y ∷ ys) some lead (inr p) = inr (p.0, some, points_past a w ys some lead.1 p.2)

-- the word i, which led to row a, comes to be w
pub chain_past : (words : List ℕ) (i a w : ℕ) → i < length words → w ≢ 0 → slice_index words i ≡ suc a → (rows : List Row) (j : ℕ) → Leads a w rows
    → Chain words (slice_index words j) rows → Chain (slice_set words i w) (slice_index (slice_set words i w) j) rows
chain_past words i a w long some here [] j lead chain = ⊎_elim
    (λ (hit : j ≡ i). let none : slice_index words i ≡ 0 = ap (λ (k : ℕ). slice_index words k) (sym hit) ∙ chain in absurd (omega (arith, none, here)))
    (λ (miss : j ≢ i). set_else words i w j miss ∙ chain)
    (cases_eq j i)
chain_past words i a w long some here (y ∷ ys) j lead chain =
    let more = chain_past words i a w long some here ys (row_link_of y.number) lead.1 chain.1 in ⊎_elim
    (λ (hit : j ≡ i).
    let now : slice_index (slice_set words i w) j ≡ w = ap (λ (k : ℕ). slice_index (slice_set words i w) k) hit ∙ set_here words i w long in
    let was : slice_index words j ≡ suc a = ap (λ (k : ℕ). slice_index words k) hit ∙ here in
    (subst (λ (k : ℕ). Points k (y ∷ ys)) (sym now) (points_past a w (y ∷ ys) some lead (subst (λ (k : ℕ). Points k (y ∷ ys)) was chain.0)), more))
    (λ (miss : j ≢ i). (subst (λ (k : ℕ). Points k (y ∷ ys)) (sym (set_else words i w j miss)) chain.0, more))
    (cases_eq j i)
