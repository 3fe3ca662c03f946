-- The tables of three truths, over values.
use Rattle.std.proofs.Common.{◌≡◌, [], ◌∷◌, List, ℕ, true, false, refl, sym, ◌∙◌, ap}
use Rattle.selector_tokens.specs.declared.tokens.CompareOp.TheVariants.{Equal}
use Rattle.selector_eval.specs.declared.truths.Truth.{Truth}
use Rattle.selector_eval.specs.declared.truths.Truth.TheVariants.{True, False, Unknown}
use Rattle.selector_eval.specs.Values.{Value, truth, text, truth_in, value_in}
use Rattle.selector_eval.specs.Truths.{truth_and, truth_or, value_and, value_or}
use Rattle.selector_eval.specs.Comparing.{compared}
use Rattle.selector_eval.specs.Evaluation.{equals_some}

pub truth_again : (t : Truth) → truth_in (value_in t) ≡ t
truth_again True = refl
truth_again False = refl
truth_again Unknown = refl

pub or_false : (t : Truth) → truth_or t False ≡ t
or_false True = refl
or_false False = refl
or_false Unknown = refl

pub false_or : (t : Truth) → truth_or False t ≡ t
false_or True = refl
false_or False = refl
false_or Unknown = refl

pub or_assoc : (a b c : Truth) → truth_or a (truth_or b c) ≡ truth_or (truth_or a b) c
or_assoc True True c = elim c as (λ x. truth_or True (truth_or True x) ≡ truth_or (truth_or True True) x) [ True ↦ refl | False ↦ refl | Unknown ↦ refl ]
or_assoc True False c = elim c as (λ x. truth_or True (truth_or False x) ≡ truth_or (truth_or True False) x) [ True ↦ refl | False ↦ refl | Unknown ↦ refl ]
or_assoc True Unknown c = elim c as (λ x. truth_or True (truth_or Unknown x) ≡ truth_or (truth_or True Unknown) x) [ True ↦ refl | False ↦ refl | Unknown ↦ refl ]
or_assoc False True c = elim c as (λ x. truth_or False (truth_or True x) ≡ truth_or (truth_or False True) x) [ True ↦ refl | False ↦ refl | Unknown ↦ refl ]
or_assoc False False c = elim c as (λ x. truth_or False (truth_or False x) ≡ truth_or (truth_or False False) x) [ True ↦ refl | False ↦ refl | Unknown ↦ refl ]
or_assoc False Unknown c = elim c as (λ x. truth_or False (truth_or Unknown x) ≡ truth_or (truth_or False Unknown) x) [ True ↦ refl | False ↦ refl | Unknown ↦ refl ]
or_assoc Unknown True c = elim c as (λ x. truth_or Unknown (truth_or True x) ≡ truth_or (truth_or Unknown True) x) [ True ↦ refl | False ↦ refl | Unknown ↦ refl ]
or_assoc Unknown False c = elim c as (λ x. truth_or Unknown (truth_or False x) ≡ truth_or (truth_or Unknown False) x) [ True ↦ refl | False ↦ refl | Unknown ↦ refl ]
or_assoc Unknown Unknown c = elim c as (λ x. truth_or Unknown (truth_or Unknown x) ≡ truth_or (truth_or Unknown Unknown) x) [ True ↦ refl | False ↦ refl | Unknown ↦ refl ]

-- false AND anything, and true OR anything
pub and_decided : (v w : Value) (t : Truth) → t ≡ truth_in v → t ≡ False → truth false ≡ value_and v w
and_decided v w t is decided = rw (sym is ∙ decided) (by_cases (truth_in w))
  where
    by_cases : (t : Truth) → truth false ≡ value_in (truth_and False t)
    by_cases True = refl
    by_cases False = refl
    by_cases Unknown = refl

pub or_decided : (v w : Value) (t : Truth) → t ≡ truth_in v → t ≡ True → truth true ≡ value_or v w
or_decided v w t is decided = rw (sym is ∙ decided) (by_cases (truth_in w))
  where
    by_cases : (t : Truth) → truth true ≡ value_in (truth_or True t)
    by_cases True = refl
    by_cases False = refl
    by_cases Unknown = refl

-- one text more of a list
pub some_more : (found : Truth) (v : Value) (s : List ℕ) (list : List (List ℕ)) → truth_or found (truth_in (equals_some v (s ∷ list))) ≡ truth_or (truth_or found (truth_in (compared Equal v (text s)))) (truth_in (equals_some v list))
some_more found v s list = ap (truth_or found) (truth_again (truth_or (truth_in (compared Equal v (text s))) (truth_in (equals_some v list)))) ∙ or_assoc found (truth_in (compared Equal v (text s))) (truth_in (equals_some v list))

-- what IN gives is known from its truth
pub some_again : (v : Value) (list : List (List ℕ)) → value_in (truth_in (equals_some v list)) ≡ equals_some v list
some_again v [] = refl
some_again v (s ∷ list) = ap value_in (truth_again (truth_or (truth_in (compared Equal v (text s))) (truth_in (equals_some v list))))

pub some_of_all : (found : Truth) (v : Value) (list rest : List (List ℕ)) → truth_or found (truth_in (equals_some v rest)) ≡ truth_in (equals_some v list) → rest ≡ [] → value_in found ≡ equals_some v list
some_of_all found v list rest kept ended = ap value_in (sym (or_false found) ∙ (rw ended at kept)) ∙ some_again v list
