-- members of lists of numbers
use Rattle.std.proofs.Common.{◌⊎◌, ◌≡◌, ◌≢◌, ℕ, Bool, true, false, cond, eqb, List, [], ◌∷◌, ◌++◌, not, sym, ap, ◌∙◌, subst, ⊎_elim, inl, inr, eq-eqb, ne_eqb}
use Rattle.std.proofs.lemmas.Bool.{cases_eq, cases_Bool, cond-true, cond-false}
use mathlib.Core.HLevel.{⊥_prop}
use mathlib.Core.List.{Mem, mem-cons, mem-cons_of_mem, mem-cons_self, not-mem-nil}
use mathlib.Core.Logic.Or
use Rattle.history_lock.specs.Views.{Has}
use Rattle.held_table.specs.Views.{is_in, not_in, rest_of}

absent : (k : ℕ) (xs : List ℕ) → is_in k xs ≡ false → Mem k xs → ⊥
absent k [] e m = not-mem-nil m
absent k (x ∷ xs) e m = ⊎_elim
    (λ (hit : x ≡ k). let bad : true ≡ false = sym (cond-true (eqb x k) true (is_in k xs) (eq-eqb x k hit)) ∙ e in absurd (cc))
    (λ (other : x ≢ k).
    let rest : is_in k xs ≡ false = sym (cond-false (eqb x k) true (is_in k xs) (ne_eqb x k other)) ∙ e in
    Or.elim ⊥_prop (mem-cons.0 m) (λ same. other (sym same)) (λ tail. absent k xs rest tail))
    (cases_eq x k)

pub mem_in : (k : ℕ) (xs : List ℕ) → Mem k xs → is_in k xs ≡ true
mem_in k xs m = ⊎_elim (λ (yes : is_in k xs ≡ true). yes) (λ (none : is_in k xs ≡ false). absurd (absent k xs none m)) (cases_Bool (is_in k xs))

in_has : (k : ℕ) (xs : List ℕ) → is_in k xs ≡ true → Has k xs
in_has k [] e = absurd (cc)
in_has k (x ∷ xs) e = ⊎_elim
    (λ (hit : x ≡ k). inl hit)
    (λ (other : x ≢ k). inr (in_has k xs (sym (cond-false (eqb x k) true (is_in k xs) (ne_eqb x k other)) ∙ e)))
    (cases_eq x k)

pub mem_has : (k : ℕ) (xs : List ℕ) → Mem k xs → Has k xs
mem_has k xs m = in_has k xs (mem_in k xs m)

pub has_mem : (k : ℕ) (xs : List ℕ) → Has k xs → Mem k xs
has_mem k [] h = absurd h
has_mem k (x ∷ xs) h = ⊎_elim
    (λ (e : x ≡ k). subst (λ (n : ℕ). Mem n (x ∷ xs)) e mem-cons_self)
    (λ (t : Has k xs). mem-cons_of_mem x (has_mem k xs t))
    h

pub has_in : (k : ℕ) (xs : List ℕ) → Has k xs → is_in k xs ≡ true
has_in k xs h = mem_in k xs (has_mem k xs h)

-- who ended is among the callers
pub ended_has : (k h : ℕ) (callers : List ℕ) → callers ≡ h ∷ rest_of callers → Mem k (rest_of callers) → Has k callers
ended_has k h callers is m = subst (Has k) (sym is) (inr (mem_has k (rest_of callers) m))

-- what is left of a list without others
pub kept_has : (c : ℕ) (cs xs : List ℕ) → Has c (not_in cs xs) → Has c xs × (is_in c cs ≡ false)
kept_has c cs [] h = absurd h
kept_has c cs (x ∷ xs) h = ⊎_elim
    (λ (gone : is_in x cs ≡ true).
    let rest = kept_has c cs xs (subst (Has c) (ap (λ (b : Bool). cond (not b) (x ∷ not_in cs xs) (not_in cs xs)) gone) h) in (inr rest.0, rest.1))
    (λ (stays : is_in x cs ≡ false).
    ⊎_elim
    (λ (e : x ≡ c). (inl e, ap (λ (n : ℕ). is_in n cs) (sym e) ∙ stays))
    (λ (t : Has c (not_in cs xs)). let rest = kept_has c cs xs t in (inr rest.0, rest.1))
    (subst (Has c) (ap (λ (b : Bool). cond (not b) (x ∷ not_in cs xs) (not_in cs xs)) stays) h))
    (cases_Bool (is_in x cs))

pub has_append : (k : ℕ) (xs ys : List ℕ) → Has k (xs ++ ys) → (Has k xs) ⊎ (Has k ys)
has_append k [] ys h = inr h
has_append k (x ∷ xs) ys h = ⊎_elim
    (λ (e : x ≡ k). inl (inl e))
    (λ (t : Has k (xs ++ ys)). ⊎_elim (λ (l : Has k xs). inl (inr l)) (λ (l : Has k ys). inr l) (has_append k xs ys t))
    h
