-- queues of all kinds, and their passes, as contracts see them
use Rattle.std.specs.Prelude.{ℕ, Bool, true, false}
use Rattle.acts_core.specs.Asked.{IsSightOf}
use Rattle.acts_core.specs.Sight.{Kind, Listed, Sorted, LastValue, Build, Sight}
use Rattle.entry_table.specs.declared.entries.Entries.{Entries}
use Rattle.entry_table.specs.Sights.{build_of, sight, Serves}
use Rattle.entry_table.proofs.Sighting.{is_sight}
use Rattle.cursor_core.specs.Holding.{AreTrueOf}
use Rattle.held_table.specs.Sights as held
use Rattle.any_queue.specs.declared.kinds.AnyPass.{AnyPass}
use Rattle.any_queue.specs.declared.kinds.AnyPass.TheVariants as passes
use Rattle.any_queue.specs.declared.kinds.AnyQueue.{AnyQueue}
use Rattle.any_queue.specs.declared.kinds.AnyQueue.TheVariants as queues
use Rattle.any_queue.specs.declared.kinds.ListedPass.{ListedPass}

-- whether the calls of a kind of queue ring and take bells
abbrev pub rings : Kind → Bool
rings Listed = true
rings kind = false

-- how a queue of this kind is built that has room for so many rows
abbrev pub built : Kind → ℕ → Build
built kind rows = record { kind = kind; bells = rings kind; rows = rows }

-- how the queue is built
abbrev pub build_in : {C R : Type 0} → AnyQueue C R → Build
build_in (queues.Listed e) = build_of e
build_in (queues.Sorted h) = held.build_by Sorted h.value
build_in (queues.LastValue h) = held.build_by LastValue h.value

-- what the pass shows
abbrev pub sight_in : AnyPass → Sight
sight_in (passes.Listed p) = sight p.pass
sight_in (passes.Held p) = held.sight p

-- the pass is one of this table, and its cursors are true of it
pub record ServesListed {C : Type 0} (e : Entries C) (p : ListedPass) : Type 0 where
  pub table : Serves e p.pass
  pub cursors : AreTrueOf (sight p.pass) p.cursors.slots

-- the pass is one of this queue
abbrev pub ServesAny : {C R : Type 0} → AnyQueue C R → AnyPass → Type 0
ServesAny (queues.Listed e) (passes.Listed p) = ServesListed e p
ServesAny (queues.Sorted h) (passes.Held p) = held.Serves h.value p
ServesAny (queues.LastValue h) (passes.Held p) = held.Serves h.value p
ServesAny queue pass = ⊥

-- what holds of each pass of the queue
pub any_opens : {C R : Type 0} (queue : AnyQueue C R) (pass : AnyPass) → ServesAny queue pass → IsSightOf (build_in queue) (sight_in pass)
any_opens (queues.Listed e) (passes.Listed p) s = is_sight e p.pass s.table
any_opens (queues.Listed e) (passes.Held p) s = absurd s
any_opens (queues.Sorted h) (passes.Listed p) s = absurd s
any_opens (queues.Sorted h) (passes.Held p) s = held.held_opens Sorted h.value p s
any_opens (queues.LastValue h) (passes.Listed p) s = absurd s
any_opens (queues.LastValue h) (passes.Held p) s = held.held_opens LastValue h.value p s
