-- what a pass knows of rows it knows later
use Rattle.std.proofs.Common.{◌≡◌, ℕ, zero, suc, Some, List, [], ◌++◌, refl, sym, ap, ◌∙◌, subst}
use Rattle.queue_model.specs.declared.queues.Queue.{Queue}
use Rattle.queue_model.specs.declared.rows.Row.{Row}
use Rattle.queue_model.specs.declared.rows.RowState.TheVariants.{Deleted}
use Rattle.queue_model.specs.declared.steps.Tried.{Tried}
use Rattle.queue_model.specs.History.{after, Legal}
use Rattle.queue_model.specs.State.{row_at, place_at, IsIn}
use Rattle.queue_model.proofs.Histories.{legal_rest}
use Rattle.queue_model.proofs.Stable.{deleted_stays}
use Rattle.acts_core.specs.Walks.{reach, IsOfList, IsStop, AreDeleted}
use Rattle.acts_core.proofs.Sparing.{after_rest}
use Rattle.acts_core.proofs.Stepping.{stepped_trans, rights_trans}
use Rattle.acts_core.proofs.Walking.{list_later, place_later}
use Rattle.entry_table.specs.declared.pass.Pass.{Pass}
use Rattle.entry_table.specs.Passes.{Kept, Did, KeepsRights, opening, seen, shown, state}
use Rattle.entry_table.specs.Sights.{sight}
use Rattle.entry_table.proofs.Lasting.{deleted_later}
use Rattle.entry_table.proofs.Later.{kept_trans}
use Rattle.entry_table.proofs.Sighting.{stepped, same_rights}
use Rattle.scavenge_core.specs.Skips.{Tries}

pub tries_trans : (a b c : Pass) (xs ys : List Tried) → Tries a b xs → Tries b c ys → Tries a c (xs ++ ys)
tries_trans a b c xs ys t u = record {
  kept = kept_trans a b c t.kept u.kept;
  steps = stepped_trans (sight a) (sight b) (sight c) [] [] xs ys t.steps u.steps;
  rights = rights_trans (sight a) (sight b) (sight c) t.rights u.rights;
}

-- a call of the table tried this step
pub tried : (old new : Pass) (added : List Tried) → Kept old new → KeepsRights old new → Did old new [] → shown new ≡ shown old ++ added → Tries old new added
tried old new added k r d e = record { kept = k; steps = stepped old new [] added k d e; rights = same_rights old new r.0 r.1 }

-- What a pass knows of rows
module _ (old new : Pass) (added : List Tried) (t : Tries old new added) where
  -- the state is the same from either opening
  pub state_is : after (opening old) (seen new) ≡ state new
  state_is = ap (λ (o : Queue). after o (seen new)) (sym t.kept.opening)

  legal : Legal (state old) t.steps.grows.0
  legal = legal_rest (opening old) (seen old) t.steps.grows.0 (subst (Legal (opening old)) (sym t.steps.grows.1) t.steps.legal)

  -- the state is what comes of the one before
  grown : after (state old) t.steps.grows.0 ≡ state new
  grown = after_rest (opening old) (seen old) (seen new) t.steps.grows ∙ state_is

  pub row_on : (l r : ℕ) → IsOfList (state old) l r → IsOfList (state new) l r
  row_on l r there = subst (λ (q : Queue). IsOfList q l r) state_is (list_later (opening old) (seen old) (seen new) l r t.steps.grows there)

  pub place_on : (r : ℕ) (x : Row) → row_at (state old) r ≡ Some x → place_at (state new) r ≡ place_at (state old) r
  place_on r x found = ap (λ (q : Queue). place_at q r) (sym state_is) ∙ place_later (opening old) (seen old) (seen new) r x t.steps.grows found

  pub stop_on : (l w : ℕ) → IsStop (state old) l w → IsStop (state new) l w
  stop_on l zero stop = tt
  stop_on l (suc r) stop = row_on l r stop

  pub reach_on : (l w : ℕ) → IsStop (state old) l w → reach (state new) w ≡ reach (state old) w
  reach_on l zero stop = refl
  reach_on l (suc r) stop = ap (λ (n : ℕ). suc n) (place_on r stop.0 stop.1)

  pub deleted_on : (r : ℕ) → IsIn (state old) r Deleted → IsIn (state new) r Deleted
  deleted_on r gone = subst (λ (q : Queue). IsIn q r Deleted) grown (deleted_stays (state old) t.steps.grows.0 r legal gone)

  -- rows that are deleted, before a row that is known
  pub gone_on : (l n r : ℕ) → IsOfList (state old) l r → AreDeleted (state old) l n (place_at (state old) r) → AreDeleted (state new) l n (place_at (state new) r)
  gone_on l n r there gone =
      subst (λ (m : ℕ). AreDeleted (state new) l n m) (sym (place_on r there.0 there.1))
      (subst (λ (q : Queue). AreDeleted q l n (place_at (state old) r)) grown (deleted_later (state old) t.steps.grows.0 l n r there.0 old.within.sound.rows_apart legal there.1 there.2 gone))
