-- what looking for an id comes to
use Rattle.std.specs.Prelude.{◌≡◌, ◌≢◌, ℕ, Bool, true, false, Option, Some, None, List, []}
use Rattle.queue_model.specs.declared.rows.Row.{Row}
use Rattle.queue_model.specs.declared.rows.RowState.TheVariants.{Deleted}
use Rattle.queue_model.specs.declared.steps.Tried.{Tried}
use Rattle.queue_model.specs.History.{after}
use Rattle.queue_model.specs.State.{row_at}
use Rattle.acts_core.specs.Sight.{Sight}
use Rattle.acts_core.specs.Steps.{Stepped, SameRights, NoHeads}
use Rattle.acts_core.specs.Walks.{Named, Misses, Ended, Reached}

-- row r is there, in the state that is known; it has the id, and is not deleted
pub record HasName (s : Sight) (old : Sight) (id r : ℕ) : Type 0 where
  pub row : Row
  pub found : row_at (after old.opening s.seen) r ≡ Some row
  pub same : row.slip.id ≡ id
  pub there : row.state ≢ Deleted

-- row r was looked at, and had the id and was not deleted
pub record Spotted (old new : Sight) (id r : ℕ) : Type 0 where
  pub added : List Tried
  pub steps : Stepped old new [] added
  pub rights : SameRights old new
  pub heads : NoHeads added
  pub named : HasName new old id r

-- or it had not
abbrev pub Spots : Sight → Sight → ℕ → ℕ → Bool → Type 0
Spots old new id r true = Spotted old new id r
Spots old new id r false = Misses old new (Named id) r

-- a walk of list l came to such a row
pub record Comes (old new : Sight) (id l r : ℕ) : Type 0 where
  pub reached : Reached old new (Named id) l r []
  pub named : HasName new old id r
  pub list : named.row.slip.list ≡ l

-- or to the list's end
abbrev pub FindsIn : Sight → Sight → ℕ → ℕ → Option ℕ → Type 0
FindsIn old new id l None = Ended old new (Named id) l
FindsIn old new id l (Some r) = Comes old new id l r
