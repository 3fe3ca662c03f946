-- lines that are staged
use Rattle.std.proofs.Common.{◌≡◌, ℕ, List, [], ◌∷◌, ◌++◌, append-nil, append_assoc, refl, sym, ap, ◌∙◌, subst}
use Rattle.journal_format.specs.Spelling.{Txn}
use Rattle.txn_core.specs.declared.staging.Staged.{Staged}
use Rattle.stage_core.specs.Items.{AreWithin, IsWithin, Stages, items_of, txn_of}
use Rattle.stage_core.specs.Laws.{StagesAppend}

pub txn_append : StagesAppend
txn_append names [] ys = refl
txn_append names (s ∷ ss) ys = ap (λ (t : Txn). items_of names s ++ t) (txn_append names ss ys) ∙ sym (append_assoc (items_of names s) (txn_of names ss) (txn_of names ys))

within_last : (names : List (List ℕ)) (before : Txn) (ss : List Staged) (s : Staged) → AreWithin names before ss → IsWithin names (before ++ txn_of names ss) s → AreWithin names before (ss ++ s ∷ [])
within_last names before [] s all one = (subst (λ (t : Txn). IsWithin names t s) (append-nil before) one, tt)
within_last names before (x ∷ ss) s all one =
    (all.0, within_last names (before ++ items_of names x) ss s all.1 (subst (λ (t : Txn). IsWithin names t s) (sym (append_assoc before (items_of names x) (txn_of names ss))) one))

-- a line more, which adds its items and knows its place
pub stages_more : (names : List (List ℕ)) (ss : List Staged) (s : Staged) (items new : Txn) → Stages names ss items → new ≡ items ++ items_of names s → IsWithin names items s → Stages names (ss ++ s ∷ []) new
stages_more names ss s items new h is within = record {
  are = is ∙ ap (λ (t : Txn). t ++ items_of names s) h.are ∙ sym (txn_append names ss (s ∷ []) ∙ ap (λ (t : Txn). txn_of names ss ++ t) (append-nil (items_of names s)));
  within = within_last names [] ss s h.within (subst (λ (t : Txn). IsWithin names t s) h.are within);
}

pub nothing_staged : (names : List (List ℕ)) → Stages names [] []
nothing_staged names = record { are = refl; within = tt }
