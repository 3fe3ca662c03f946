-- a change of one row's state: the other rows, places and chains
use Rattle.std.proofs.Common.{◌≡◌, ◌≢◌, ◌⊎◌, inl, inr, ℕ, suc, ◌==◌, Bool, true, false, Some, None, List, [], ◌∷◌, cond, filter, find, option_map, refl, sym, ap, ◌∙◌, subst, ⊎_elim}
use Rattle.std.specs.Prelude.{slice_index}
use Rattle.std.specs.List.{position_or_len}
use Rattle.std.proofs.lemmas.Bool.{cases_eq, cases_Bool}
use Rattle.queue_model.specs.declared.queues.Queue.{Queue}
use Rattle.queue_model.specs.declared.rows.Row.{Row}
use Rattle.queue_model.specs.declared.rows.RowState.TheVariants.{Deleted}
use Rattle.queue_model.specs.declared.rows.Slip.{Slip}
use Rattle.queue_model.specs.Keyed.{alter}
use Rattle.queue_model.specs.Laws.{SameGoods}
use Rattle.queue_model.specs.State.{is_row, row_at, is_of_list, rows_of, list_at, place_at}
use Rattle.queue_model.specs.Table.{changed}
use Rattle.queue_model.proofs.KeyedLemmas.{find-here, find-past, alter-here, alter-past, position-filter_alter}
use Rattle.queue_model.proofs.RowFacts.{row_number, row_here, row_elsewhere}
use Rattle.queue_model.proofs.SoundSteps.{list_found}
use Rattle.link_core.specs.Layout.{row_link_of}
use Rattle.link_core.specs.Stands.{Points, Chain}

-- Rows

-- a row after the change is the changed row, or another that is as before
pub found_before : (q : Queue) (r s : ℕ) (f : Row → Row) (x y : Row) → ((z : Row) → SameGoods z (f z)) → row_at q r ≡ Some x → row_at (changed q r f) s ≡ Some y
    → ((s ≡ r) × (y ≡ f x)) ⊎ ((s ≢ r) × (row_at q s ≡ Some y))
found_before q r s f x y kept found e = ⊎_elim
    (λ (same : s ≡ r).
    let here : row_at (changed q r f) r ≡ Some (f x) = row_here q r f x found ((kept x).number ∙ row_number q r x found) in
    let both : Some y ≡ Some (f x) = sym e ∙ ap (row_at (changed q r f)) same ∙ here in
    inl (same, cc))
    (λ (other : s ≢ r). inr (other, sym (row_elsewhere q r s f (λ back. other (sym back)) (λ z. (kept z).number)) ∙ e))
    (cases_eq s r)

-- it has the goods of a row from before
pub goods_before : (q : Queue) (r s : ℕ) (f : Row → Row) (x y : Row) → ((z : Row) → SameGoods z (f z)) → row_at q r ≡ Some x → row_at (changed q r f) s ≡ Some y
    → (z : Row) × (row_at q s ≡ Some z) × (y.slip ≡ z.slip)
goods_before q r s f x y kept found e = ⊎_elim
    (λ (p : (s ≡ r) × (y ≡ f x)). (x, ap (row_at q) p.0 ∙ found, ap (λ (z : Row). z.slip) p.1 ∙ (kept x).slip))
    (λ (p : (s ≢ r) × (row_at q s ≡ Some y)). (y, p.1, refl))
    (found_before q r s f x y kept found e)

-- no row is new
pub none_before : (q : Queue) (r s : ℕ) (f : Row → Row) (x : Row) → ((z : Row) → SameGoods z (f z)) → row_at q r ≡ Some x → row_at (changed q r f) s ≡ None
    → (s ≢ r) × (row_at q s ≡ None)
none_before q r s f x kept found e = ⊎_elim
    (λ (same : s ≡ r).
    let here : row_at (changed q r f) r ≡ Some (f x) = row_here q r f x found ((kept x).number ∙ row_number q r x found) in
    let bad : None ≡ Some (f x) = sym e ∙ ap (row_at (changed q r f)) same ∙ here in absurd (cc))
    (λ (other : s ≢ r). (other, sym (row_elsewhere q r s f (λ back. other (sym back)) (λ z. (kept z).number)) ∙ e))
    (cases_eq s r)

-- a row from before is there, with the same slip
pub row_after : (q : Queue) (r s : ℕ) (f : Row → Row) (x : Row) → ((z : Row) → SameGoods z (f z)) → row_at q s ≡ Some x → (y : Row) × (row_at (changed q r f) s ≡ Some y) × (y.slip ≡ x.slip)
row_after q r s f x kept found = ⊎_elim
    (λ (same : r ≡ s).
    let here : row_at q r ≡ Some x = ap (row_at q) same ∙ found in
    (f x, subst (λ (n : ℕ). row_at (changed q r f) n ≡ Some (f x)) same (row_here q r f x here ((kept x).number ∙ row_number q r x here)), (kept x).slip))
    (λ (other : r ≢ s). (x, row_elsewhere q r s f other (λ z. (kept z).number) ∙ found, refl))
    (cases_eq r s)

-- no row moves in its list
pub place_after : (q : Queue) (r s : ℕ) (f : Row → Row) (x : Row) → ((z : Row) → SameGoods z (f z)) → row_at q s ≡ Some x → place_at (changed q r f) s ≡ place_at q s
place_after q r s f x kept found =
    let a = row_after q r s f x kept found in
    let list : list_at (changed q r f) s ≡ list_at q s = list_found (changed q r f) s a.0 a.1 ∙ ap (λ (t : Slip). t.list) a.2 ∙ sym (list_found q s x found) in
    ap (λ (l : ℕ). position_or_len (is_row s) (rows_of (changed q r f) l)) list
    ∙ position-filter_alter (is_row r) (is_row s) (is_of_list (list_at q s)) f q.rows (λ z. ap (λ (n : ℕ). n == s) (kept z).number) (λ z. ap (λ (t : Slip). t.list == list_at q s) (kept z).slip)

-- Chains

-- the same rows in turn, with the same slips; those that were deleted still are
abbrev pub Softens : List Row → List Row → Type 0
Softens [] [] = Unit {0}
Softens [] (y ∷ ys) = ⊥
Softens (x ∷ xs) [] = ⊥
Softens (x ∷ xs) (y ∷ ys) = (y.number ≡ x.number) × (y.slip ≡ x.slip) × (x.state ≡ Deleted → y.state ≡ Deleted) × Softens xs ys

softens_self : (xs : List Row) → Softens xs xs
softens_self [] = tt
softens_self (x ∷ xs) = (refl, refl, λ gone. gone, softens_self xs)

-- a change of a row that is not deleted
softens_alter : (r : ℕ) (f : Row → Row) (xs : List Row) (x : Row) → ((z : Row) → SameGoods z (f z)) → x.state ≢ Deleted → find (is_row r) xs ≡ Some x → Softens xs (alter (is_row r) (option_map f) xs)
softens_alter r f [] x kept alive found = absurd (cc)
softens_alter r f (z ∷ zs) x kept alive found = ⊎_elim
    (λ (hit : is_row r z ≡ true).
    let both : Some z ≡ Some x = sym (find-here (is_row r) z zs hit) ∙ found in
    let same : z ≡ x = cc in
    subst (Softens (z ∷ zs)) (sym (alter-here (is_row r) (option_map f) z zs hit))
    ((kept z).number, (kept z).slip, λ gone. absurd (alive (ap (λ (y : Row). y.state) (sym same) ∙ gone)), softens_self zs))
    (λ (miss : is_row r z ≡ false).
    subst (Softens (z ∷ zs)) (sym (alter-past (is_row r) (option_map f) z zs miss))
    (refl, refl, λ gone. gone, softens_alter r f zs x kept alive (sym (find-past (is_row r) z zs miss) ∙ found)))
    (cases_Bool (is_row r z))

-- the rows of one list alone
softens_filter : (l : ℕ) (xs ys : List Row) → Softens xs ys → Softens (filter (is_of_list l) xs) (filter (is_of_list l) ys)
softens_filter l [] [] soft = tt
softens_filter l [] (y ∷ ys) soft = absurd soft
softens_filter l (x ∷ xs) [] soft = absurd soft
softens_filter l (x ∷ xs) (y ∷ ys) soft =
    let rest = softens_filter l xs ys soft.3 in
    let same : is_of_list l y ≡ is_of_list l x = ap (λ (s : Slip). s.list == l) soft.1 in
    subst (λ (b : Bool). Softens (filter (is_of_list l) (x ∷ xs)) (cond b (y ∷ filter (is_of_list l) ys) (filter (is_of_list l) ys))) (sym same)
    (elim (is_of_list l x) as (λ b. Softens (cond b (x ∷ filter (is_of_list l) xs) (filter (is_of_list l) xs)) (cond b (y ∷ filter (is_of_list l) ys) (filter (is_of_list l) ys)))
    [ true ↦ (soft.0, soft.1, soft.2, rest) | false ↦ rest ])

points_softens : (w : ℕ) (xs ys : List Row) → Softens xs ys → Points w xs → Points w ys
points_softens w [] [] soft points = points
points_softens w [] (y ∷ ys) soft points = absurd soft
points_softens w (x ∷ xs) [] soft points = absurd soft
points_softens w (x ∷ xs) (y ∷ ys) soft (inl e) = inl (e ∙ ap (λ (n : ℕ). suc n) (sym soft.0))
points_softens w (x ∷ xs) (y ∷ ys) soft (inr p) = inr (soft.2 p.0, p.1, points_softens w xs ys soft.3 p.2)

chain_softens : (words : List ℕ) (w : ℕ) (xs ys : List Row) → Softens xs ys → Chain words w xs → Chain words w ys
chain_softens words w [] [] soft chain = chain
chain_softens words w [] (y ∷ ys) soft chain = absurd soft
chain_softens words w (x ∷ xs) [] soft chain = absurd soft
chain_softens words w (x ∷ xs) (y ∷ ys) soft chain = (
  points_softens w (x ∷ xs) (y ∷ ys) soft chain.0,
  subst (λ (n : ℕ). Chain words (slice_index words (row_link_of n)) ys) (sym soft.0) (chain_softens words (slice_index words (row_link_of x.number)) xs ys soft.3 chain.1),
)

-- a change of a row that is not deleted keeps each chain
pub chain_after : (words : List ℕ) (w l : ℕ) (q : Queue) (r : ℕ) (f : Row → Row) (x : Row) → ((z : Row) → SameGoods z (f z)) → x.state ≢ Deleted → row_at q r ≡ Some x
    → Chain words w (rows_of q l) → Chain words w (rows_of (changed q r f) l)
chain_after words w l q r f x kept alive found chain =
    chain_softens words w (rows_of q l) (rows_of (changed q r f) l) (softens_filter l q.rows (changed q r f).rows (softens_alter r f q.rows x kept alive found)) chain
