-- a pass later, after steps that leave it what it is
use Rattle.std.proofs.Common.{◌≡◌, ℕ, Option, Some, None, [], refl, sym, ap, ◌∙◌, subst}
use Rattle.std.specs.Prelude.{IfSome}
use Rattle.queue_model.specs.declared.queues.Queue.{Queue}
use Rattle.queue_model.specs.declared.rows.Row.{Row}
use Rattle.queue_model.specs.History.{after, Legal}
use Rattle.queue_model.specs.Sound.{IsOpening}
use Rattle.queue_model.specs.State.{row_at}
use Rattle.queue_model.proofs.Stable.{row_stays}
use Rattle.acts_core.proofs.Running.{lists_stay}
use Rattle.acts_core.proofs.Sparing.{after_rest}
use Rattle.entry_table.specs.declared.entries.Entries.{Entries}
use Rattle.entry_table.specs.declared.pass.Pass.{Pass}
use Rattle.entry_table.specs.declared.view.Shape.{Shape}
use Rattle.entry_table.specs.Passes.{Kept, Did, IsPassOf, opening, seen}
use Rattle.entry_table.specs.Sights.{Serves}

pub kept_same : (p : Pass) → Kept p p
kept_same p = record { table = refl; caller = refl; shape = refl; opening = refl; callers = refl; made = refl; consumers = refl }

pub kept_trans : (a b c : Pass) → Kept a b → Kept b c → Kept a c
kept_trans a b c k l = record {
  table = l.table ∙ k.table;
  caller = l.caller ∙ k.caller;
  shape = l.shape ∙ k.shape;
  opening = l.opening ∙ k.opening;
  callers = l.callers ∙ k.callers;
  made = l.made ∙ k.made;
  consumers = l.consumers ∙ k.consumers;
}

pub pass_of : {C : Type 0} (e : Entries C) (old new : Pass) → IsPassOf e old → Kept old new → IsPassOf e new
pass_of e old new s k = record { table = k.table ∙ s.table; shape = k.shape ∙ s.shape }

pub served : {C : Type 0} (e : Entries C) (old new : Pass) → Serves e old → Kept old new → Legal (opening old) (seen new) → Serves e new
served e old new s k legal = record {
  pass = pass_of e old new s.pass k;
  legal = subst (λ (o : Queue). Legal o (seen new)) (sym k.opening) legal;
  opening = subst IsOpening (sym k.opening) s.opening;
}

-- a table has the lists of its queue
pub opening_lists : {C : Type 0} (e : Entries C) (p : Pass) → IsPassOf e p → (opening p).lists ≡ e.shape.lists
opening_lists e p s = sym (lists_stay (opening p) (seen p)).0 ∙ p.within.lists ∙ ap (λ (z : Shape). z.lists) s.shape

-- and its consumers
pub opening_consumers : {C : Type 0} (e : Entries C) (p : Pass) → IsPassOf e p → (opening p).consumers ≡ e.shape.consumers
opening_consumers e p s = sym (lists_stay (opening p) (seen p)).1 ∙ p.within.consumers ∙ ap (λ (z : Shape). z.consumers) s.shape

-- a row that was known is known later
pub known_later : (old new : Pass) (row : ℕ) → Kept old new → Did old new [] → (x : Row) × (row_at (after (opening old) (seen old)) row ≡ Some x) → (y : Row) × (row_at (after (opening new) (seen new)) row ≡ Some y)
known_later old new row k d there =
    let t = row_stays (after (opening old) (seen old)) d.prefix.0 row there.0 there.1 in
    let found : row_at (after (opening old) (seen new)) row ≡ Some t.0 = subst (λ (q : Queue). row_at q row ≡ Some t.0) (after_rest (opening old) (seen old) (seen new) d.prefix) t.1 in
    (t.0, subst (λ (o : Queue). row_at (after o (seen new)) row ≡ Some t.0) (sym k.opening) found)

-- what holds of the value, if there is one
pub some_of : (P : ℕ → Type 0) (o : Option ℕ) (r : ℕ) → IfSome o P → o ≡ Some r → P r
some_of P None r p e = absurd (cc)
some_of P (Some q) r p e = let same : q ≡ r = cc in subst P same p
