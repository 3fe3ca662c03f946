-- stores by their operands, and what splits and notes leave
use Rattle.std.proofs.Common.{◌≡◌, ℕ, ◌<◌, List, ◌∷◌, Option, Some, None, sym, subst, arith}
use Rattle.atomic_table.specs.Table.{Me, Allows}
use Rattle.queue_model.specs.declared.steps.DraftWord.{DraftWord}
use Rattle.acts_core.specs.Load.{Load}
use Rattle.link_core.specs.Layout.{draft_of, words_of}
use Rattle.link_core.proofs.Frames.{draft_high}
use Rattle.entry_table.specs.declared.view.Drawing.{Drawing}
use Rattle.entry_table.specs.declared.view.Shape.{Shape}
use Rattle.entry_table.specs.declared.view.View.{View}
use Rattle.entry_table.specs.Views.{drawing_at}
use Rattle.entry_table.specs.Rule.{Ruled}
use Rattle.entry_table.specs.Plays.{stored}
use Rattle.entry_table.proofs.Drafting.{stores_allowed}

-- Stores

-- a draft word of a row of the table is one of its words
pub draft_inside : (row : ℕ) (word : DraftWord) (rows lists : ℕ) → row < rows → draft_of row word < words_of rows lists
draft_inside row word rows lists low = let high = draft_high row word in omega arith

module _ {C : Type 0} (load : C → Load) (shape : Shape) where
  -- the store, by the row, the word and the value that were picked
  pub stores_at : (slots id i row target value chosen : ℕ) (word part : DraftWord) (m : Me (Option C) View) (h : ℕ) (ended : List ℕ) (d : Drawing) → i ≡ draft_of row word → target ≡ row → part ≡ word → chosen ≡ value → m.0.callers ≡ h ∷ ended → m.0.slot ≡ None → drawing_at m.0 row ≡ Some d
      → Allows (Ruled load shape) slots id m i (λ _. value) (λ _. stored target part chosen m)
  stores_at slots id i row target value chosen word part m h ended d ei et ep ec is idle drawing =
      subst (λ (z : ℕ × DraftWord × ℕ). Allows (Ruled load shape) slots id m i (λ _. value) (λ _. stored z.0 z.1 z.2 m)) (λ j. (sym et j, sym ep j, sym ec j))
      (subst (λ (z : ℕ). Allows (Ruled load shape) slots id m z (λ _. value) (λ _. stored row word value m)) (sym ei) (stores_allowed load shape slots id row value word m h ended d is idle drawing))
