-- the pass that speaks for all
use Rattle.std.proofs.Common.{◌≡◌, ◌∷◌, sym, subst, Some, false}
use Rattle.queue_model.specs.declared.deeds.Deed.{Deed}
use Rattle.history_lock.specs.declared.view.View.{View}
use Rattle.history_lock.specs.Plays.{ForAll}
use Rattle.history_lock.specs.Views.{Has, Leads}
use Rattle.held_table.specs.declared.pass.HeldPass.{HeldPass}
use Rattle.held_table.specs.declared.view.Outset.{Outset}
use Rattle.held_table.specs.Parts.{IsLast}
use Rattle.held_table.specs.Sights.{sight, view}
use Rattle.held_table.specs.Views.{outset_in}
use Rattle.held_table.proofs.Members.{mem_has}

pub speaks_all : (p : HeldPass) (v : View Outset Deed) → v ≡ view p → IsLast (sight p) → ((O : Outset) × (v.opening ≡ Some O)) × (v.holding ≡ false) × ForAll v
speaks_all p v is last = subst (λ (z : View Outset Deed). ((O : Outset) × (z.opening ≡ Some O)) × (z.holding ≡ false) × ForAll z) (sym is) (
  (outset_in (view p), p.begun),
  p.idle,
  record {
    boss = subst Leads (sym p.speaks) last.boss;
    all = λ k low. subst (Has k) (sym p.speaks) (mem_has k (p.caller ∷ _) (last.every k low));
  },
)
