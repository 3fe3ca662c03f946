-- how often a pass tried to draw a row, and to link one
use Rattle.std.proofs.Common.{◌≡◌, ℕ, ◌+◌, ◌≤◌, Bool, true, false, cond, List, [], ◌∷◌, ◌++◌, filter, length, length-append, ap, ◌∙◌, arith}
use Rattle.std.proofs.lemmas.List.Elements.{filter-append}
use Rattle.queue_model.specs.declared.steps.Node.{Node}
use Rattle.queue_model.specs.declared.steps.Step.TheVariants as steps
use Rattle.queue_model.specs.declared.steps.Tried.{Tried}
use Rattle.entry_table.specs.declared.view.View.{View}
use Rattle.entry_table.specs.Plays.{DidDraw, LinkShown, quiet}
use Rattle.entry_table.specs.Tries.{is_try, tries}
use Rattle.entry_table.specs.Views.{entry}

pub tries-append : (xs ys : List Tried) → tries (xs ++ ys) ≡ tries xs + tries ys
tries-append xs ys =
    ap length (filter-append (λ t. is_try t.step) xs ys)
    ∙ length-append (filter (λ t. is_try t.step) xs) (filter (λ t. is_try t.step) ys)

-- a step that is no try
pub tries_other : (xs : List Tried) (t : Tried) → is_try t.step ≡ false → tries (xs ++ t ∷ []) ≡ tries xs
tries_other xs t off =
    let none : tries (t ∷ []) ≡ 0 = ap (λ (b : Bool). length (cond b (t ∷ []) [])) off in
    omega (arith, tries-append xs (t ∷ []), none)

-- tries are steps
pub tries_few : (xs : List Tried) → tries xs ≤ length xs
tries_few [] = omega arith
tries_few (x ∷ xs) =
    let few = tries_few xs in
    elim (is_try x.step) as (λ b. length (cond b (x ∷ filter (λ t. is_try t.step) xs) (filter (λ t. is_try t.step) xs)) ≤ length (x ∷ xs))
    [ true ↦ omega (arith, few) | false ↦ omega (arith, few) ]

-- a draw tries at most once a row
pub drew_tries : (v w : View) (row : ℕ) → DidDraw v w row → tries w.shown ≤ tries v.shown + v.shape.rows
drew_tries v w row d =
    let few = d.few in
    omega (arith, ap tries d.shown_is ∙ tries-append v.shown d.added, tries_few d.added, few)

-- a link is one try, whatever slot was taken and given back for it
pub linked_tries : (v w : View) (row : ℕ) (node : Node) (n m : ℕ) (back : List Tried) → LinkShown v w row node n m back → tries w.shown ≡ tries v.shown + 1 + tries back
linked_tries v w row node n m back l =
    let added : List Tried = quiet l.first v.seen ∷ entry (steps.Link row node) n m w.seen ∷ back in
    omega (arith, ap tries l.shown_is ∙ tries-append v.shown added)
