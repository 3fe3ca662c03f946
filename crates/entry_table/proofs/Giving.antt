-- what is given back, by the operand of the step
use Rattle.std.proofs.Common.{◌≡◌, ℕ, ◌+◌, ◌-◌, ◌%◌, ◌^◌, ◌<◌, List, ◌∷◌, Option, None, sym, ap, subst, arith}
use Rattle.std.specs.Prelude.{slice_index}
use mathlib.Core.Option as maybe
use Rattle.atomic_table.specs.Table.{Me, Allows, step, carried_after}
use Rattle.queue_model.specs.declared.queues.Queue.{Queue}
use Rattle.queue_model.specs.History.{after}
use Rattle.queue_model.specs.Packing.{entry_worth}
use Rattle.queue_model.specs.Sound.{Sound}
use Rattle.queue_model.specs.State.{reserved_by}
use Rattle.queue_model.specs.Table.{CanGive}
use Rattle.queue_model.proofs.Depths.{depth_giving, depth_low}
use Rattle.acts_core.specs.Load.{Load}
use Rattle.entry_table.specs.declared.view.Shape.{Shape}
use Rattle.entry_table.specs.declared.view.View.{View}
use Rattle.entry_table.specs.Views.{caller_of}
use Rattle.entry_table.specs.Rule.{Ruled}
use Rattle.entry_table.specs.Plays.{gave_back}
use Rattle.entry_table.specs.Givings.{giving}
use Rattle.entry_table.proofs.Reserving.{gives_allowed}

-- what can be given back has fewer bytes than an entry's worth
pub give_small : (q : Queue) (h size : ℕ) → Sound q → CanGive (reserved_by q h) size → size < entry_worth
give_small q h size sound can =
    let less = (depth_giving q h size can).1 in
    let low = depth_low q sound in
    let few = sound.small in omega (arith, less, low, few)

module _ {C : Type 0} (load : C → Load) (shape : Shape) where
  pub gives_told : (slots id size : ℕ) (m : Me (Option C) View) (h : ℕ) (ended : List ℕ) → m.0.callers ≡ h ∷ ended → m.0.slot ≡ None → CanGive (reserved_by (after m.0.opening m.0.seen) h) size
      → Allows (Ruled load shape) slots id m 2 (λ n. (n + (2 ^ 64 - (entry_worth + size))) % 2 ^ 64) (giving (step slots 2 (entry_worth + size) 0 maybe.none) m)
  gives_told slots id size m h ended is idle can s ruled len at low =
      let mine = subst (λ (k : ℕ). CanGive (reserved_by (after m.0.opening m.0.seen) k) size) (sym (ap caller_of is)) can in
      let o = gives_allowed load shape slots id size m h ended is idle mine s ruled len at low in
      (o.0, o.1, o.2, o.3, λ size' e. let same : size ≡ size' = omega (arith, e) in subst (λ (z : ℕ). gave_back {S = Option C} z m (slice_index s.words 2) (o.0, carried_after m.1 o.1)) same o.4)
