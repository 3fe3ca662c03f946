-- what a consumer is owed, and what it was shown of it
use Rattle.std.specs.Prelude.{◌≡◌, ℕ, ◌+◌, ◌≤◌, Bool, true, false, ◌&&◌, ◌==◌, if◌then◌else◌, Some, List, [], ◌∷◌, length, filter}
use Rattle.std.specs.Int.{bit_at}
use mathlib.Core.List.{IsPrefix}
use Rattle.queue_model.specs.declared.deeds.Act.{Act}
use Rattle.queue_model.specs.declared.deeds.Act.TheVariants.{Enq, Bell, Take}
use Rattle.queue_model.specs.declared.deeds.Deed.{Deed}
use Rattle.queue_model.specs.declared.queues.Queue.{Queue}
use Rattle.queue_model.specs.declared.rows.Row.{Row}
use Rattle.queue_model.specs.declared.rows.RowState.{RowState}
use Rattle.queue_model.specs.declared.rows.RowState.TheVariants.{Available}
use Rattle.queue_model.specs.History.{after}
use Rattle.queue_model.specs.State.{row_at}

-- Free

-- nobody has the row
abbrev pub is_available : RowState → Bool
is_available Available = true
is_available s = false

-- nobody has the row, and consumer c may take it
abbrev pub is_free : ℕ → Row → Bool
is_free c x = is_available x.state && (bit_at x.slip.mask c == 1)

-- the queue has row e
abbrev pub Has : Queue → ℕ → Type 0
Has q e = (x : Row) × (row_at q e ≡ Some x)

-- the queue has row e, and it is not free to consumer c
abbrev pub IsBusy : Queue → ℕ → ℕ → Type 0
IsBusy q c e = (x : Row) × (row_at q e ≡ Some x) × (is_free c x ≡ false)

-- Marks

-- the length, where each element counts from n on, of the longest prefix whose last element passes, and m where there is none
abbrev pub last_from : {X : Type 0} → (X → Bool) → ℕ → ℕ → List X → ℕ
last_from p n m [] = m
last_from p n m (x ∷ xs) = last_from p (n + 1) (if p x then n + 1 else m) xs

-- the act brings row e, or rings the bell of consumer c for it
abbrev pub marks : ℕ → ℕ → Act → Bool
marks c e (Enq r slip content origin n) = r == e
marks c e (Bell r d) = (r == e) && (d == c)
marks c e a = false

-- where row e came, or where its bell was last rung for consumer c; 0 for a row of the opening that was not rung
abbrev pub mark : ℕ → ℕ → List Deed → ℕ
mark c e ds = last_from (λ d. marks c e d.act) 0 0 ds

-- Looked

-- after some beginning of at least n deeds the row was not free to consumer c
pub record Looked (o : Queue) (c e n : ℕ) (ds : List Deed) : Type 0 where
  pub at : List Deed
  pub prefix : IsPrefix at ds
  pub long : n ≤ length at
  pub busy : IsBusy (after o at) c e

-- Takes

-- the act takes the bell of consumer c at list l
abbrev pub takes : ℕ → ℕ → Act → Bool
takes c l (Take d m) = (d == c) && (m == l)
takes c l a = false

-- the act takes a bell of consumer c
abbrev pub takes_any : ℕ → Act → Bool
takes_any c (Take d m) = d == c
takes_any c a = false

-- the deeds that take the bell of consumer c at list l
abbrev pub taken : ℕ → ℕ → List Deed → List Deed
taken c l ds = filter (λ d. takes c l d.act) ds

-- the deeds that take a bell of consumer c
abbrev pub taken_any : ℕ → List Deed → List Deed
taken_any c ds = filter (λ d. takes_any c d.act) ds
