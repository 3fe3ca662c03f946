-- passes that are made, split off, joined and told serve their table
use Rattle.std.proofs.Common.{◌≡◌, ℕ, ◌+◌, ◌-◌, List, [], ◌∷◌, ◌++◌, sym, ap, ◌∙◌, subst}
use Rattle.queue_model.specs.declared.queues.Queue.{Queue}
use Rattle.queue_model.specs.declared.rows.Slip.{Slip}
use Rattle.queue_model.specs.History.{Legal}
use Rattle.queue_model.specs.Sound.{IsOpening}
use Rattle.acts_core.specs.Load.{Load}
use Rattle.entry_table.specs.declared.entries.Entries.{Entries}
use Rattle.entry_table.specs.declared.pass.Pass.{Pass}
use Rattle.entry_table.specs.declared.view.View.{View}
use Rattle.entry_table.specs.Passes.{IsPassOf, view, opening, seen}
use Rattle.entry_table.specs.Plays.{DidSplit, Joined, Met, not_in, noted_left}
use Rattle.entry_table.specs.Sights.{sight, Serves}
use Rattle.entry_table.specs.Starting.{IsMade}
use Rattle.entry_table.specs.Views.{rest_of}

module _ {C : Type 0} (e : Entries C) where
  served : (p q : Pass) → IsPassOf e q → opening q ≡ opening p → Legal (opening p) (seen q) → Serves e p → Serves e q
  served p q pass same legal s = record {
    pass = pass;
    legal = subst (λ (o : Queue). Legal o (seen q)) (sym same) legal;
    opening = subst IsOpening (sym same) s.opening;
  }

  -- the boss's pass of a new table
  pub serves_made : (load : C → Load) (lists rows consumed : ℕ) (start : List (Slip × C)) (p : Pass) → IsMade load lists rows consumed start e p → Serves e p
  serves_made load lists rows consumed start p m = record { pass = m.pass; legal = subst (Legal (opening p)) (sym m.seen_is) tt; opening = m.opened }

  -- the boss's pass, and the pass that was split off
  pub serves_split : (old new made : Pass) (cs : List ℕ) (n : ℕ) → Serves e old → IsPassOf e new → IsPassOf e made → DidSplit (view old) (view new) (view made) cs n → Serves e new × Serves e made
  serves_split old new made cs n s boss other d = (
    served old new boss (ap (λ (z : View). z.opening) d.boss) d.went.steps.legal s,
    served old made other (ap (λ (z : View). z.opening) d.new) (subst (Legal (opening old)) (sym (ap (λ (z : View). z.seen) d.new)) d.went.steps.legal) s,
  )

  -- the pass to which another was joined
  pub serves_joined : (into gone new : Pass) → Serves e into → IsPassOf e new → Joined (view into) (view gone) (view new) → Serves e new
  serves_joined into gone new s pass j = served into new pass (ap (λ (z : View). z.opening) j.view) j.mine.legal s

  -- the pass that was told, and the one that told
  pub serves_met : (to from new : Pass) → Serves e to → IsPassOf e new → Met (view to) (view from) (view new) → Serves e new
  serves_met to from new s pass m = served to new pass (ap (λ (z : View). z.opening) m.view) m.mine.legal s

  pub serves_told : (old new : Pass) → Serves e old → IsPassOf e new → view new ≡ noted_left (view old) → Serves e new
  serves_told old new s pass e' = served old new pass (ap (λ (z : View). z.opening) e') (subst (Legal (opening old)) (sym (ap (λ (z : View). z.seen) e')) s.legal) s

-- Sights

-- what contracts see of the boss's pass after a split, and of the new one
pub sight_boss : (old new made : Pass) (cs : List ℕ) (n : ℕ) → new.caller ≡ old.caller → DidSplit (view old) (view new) (view made) cs n
    → sight new ≡ record (sight old) { consumers = not_in cs (view old).consumers; allowance = (view old).allowance - n; share = (view old).share - n; made = (view old).made + 1; seen = seen new }
sight_boss old new made cs n caller d = λ i. record (sight old) {
  opening = (d.boss i).opening;
  caller = caller i;
  consumers = (d.boss i).consumers;
  allowance = (d.boss i).allowance;
  share = (d.boss i).share;
  ended = rest_of (d.boss i).callers;
  made = (d.boss i).made;
  seen = seen new;
  shown = (d.boss i).shown;
}

pub sight_made : (old new made : Pass) (cs : List ℕ) (n : ℕ) → made.caller ≡ (view old).made → DidSplit (view old) (view new) (view made) cs n
    → sight made ≡ record { opening = opening old; caller = (view old).made; consumers = cs; allowance = n; share = n; ended = []; made = 0; seen = seen new; shown = []; turns = 0 }
sight_made old new made cs n caller d = λ i. record {
  opening = (d.new i).opening;
  caller = caller i;
  consumers = (d.new i).consumers;
  allowance = (d.new i).allowance;
  share = (d.new i).share;
  ended = rest_of (d.new i).callers;
  made = (d.new i).made;
  seen = (d.new i).seen;
  shown = (d.new i).shown;
  turns = 0;
}

-- what contracts see of the pass to which another was joined
pub sight_joined : (into gone new : Pass) → new.caller ≡ into.caller → (view into).callers ≡ into.caller ∷ rest_of (view into).callers → Joined (view into) (view gone) (view new)
    → sight new ≡ record (sight into) {
      consumers = (view into).consumers ++ (view gone).consumers;
      allowance = (view into).allowance + (view gone).allowance;
      share = (view into).share + (view gone).share;
      ended = rest_of (view into).callers ++ (view gone).callers;
      seen = seen new;
    }
sight_joined into gone new caller is j =
    let ended : rest_of ((view into).callers ++ (view gone).callers) ≡ rest_of (view into).callers ++ (view gone).callers = ap (λ (l : List ℕ). rest_of (l ++ (view gone).callers)) is in
    (λ i. record (sight into) {
      opening = (j.view i).opening;
      caller = caller i;
      consumers = (j.view i).consumers;
      allowance = (j.view i).allowance;
      share = (j.view i).share;
      ended = rest_of (j.view i).callers;
      made = (j.view i).made;
      seen = seen new;
      shown = (j.view i).shown;
    }) ∙ ap (λ (l : List ℕ). record (sight into) { consumers = (view into).consumers ++ (view gone).consumers; allowance = (view into).allowance + (view gone).allowance; share = (view into).share + (view gone).share; ended = l; seen = seen new }) ended

-- what contracts see of a pass that was told
pub sight_met : (to from new : Pass) → new.caller ≡ to.caller → Met (view to) (view from) (view new) → sight new ≡ record (sight to) { seen = seen new }
sight_met to from new caller m = λ i. record (sight to) {
  opening = (m.view i).opening;
  caller = caller i;
  consumers = (m.view i).consumers;
  allowance = (m.view i).allowance;
  share = (m.view i).share;
  ended = rest_of (m.view i).callers;
  made = (m.view i).made;
  seen = seen new;
  shown = (m.view i).shown;
}
