-- passes of held queues that are split off and joined, and what held queues leave
use Rattle.std.proofs.Common.{◌≡◌, ◌≢◌, ℕ, suc, ◌+◌, ◌-◌, ◌<◌, ◌≤◌, Bool, Option, List, [], ◌∷◌, map, get_or, length, refl, sym, ap, ◌∙◌, subst, arith}
use Rattle.std.specs.List.{AllByRecursion}
use mathlib.Core.List.{Mem}
use Rattle.queue_model.specs.declared.queues.Queue.{Queue}
use Rattle.queue_model.specs.declared.rows.Row.{Row}
use Rattle.queue_model.specs.declared.rows.RowState.{RowState}
use Rattle.queue_model.specs.declared.rows.RowState.TheVariants.{Available, Locked, Unlocked, Dequeued, Deleted}
use Rattle.queue_model.specs.Order.{Order, Precedes}
use Rattle.queue_model.specs.State.{is_row, row_at}
use Rattle.acts_core.specs.Asked.{KeyFits}
use Rattle.acts_core.specs.Kept.{Kept, KeptRow, Stands, keep}
use Rattle.acts_core.specs.Moments.{IsRow}
use Rattle.acts_core.specs.Rest.{AreLeft, AreRests, AtRest, InOrder, IsLeft, IsLive, Left, Marks, Rests}
use Rattle.acts_core.specs.Sight.{Kind, Listed, Sorted, LastValue, IsHeldKind, Sight, known, order_of}
use Rattle.acts_core.specs.declared.cargoes.RestEntry.{RestEntry}
use Rattle.entry_table.specs.Resting.{Settled}
use Rattle.held_table.specs.Parts as held
use Rattle.held_table.specs.Tales.{wide}
use Rattle.held_table.proofs.Wide.{outdated_narrow, outdated_wide, precedes_narrow}
use Rattle.kept_rows.proofs.Numbered.{found_by_number}
use Rattle.any_queue.specs.Parting.{IsClosed, IsJoined, IsLast, IsSplit, MayPart}
use Rattle.any_queue.proofs.Numbers.{not_in_same}

-- Passes

pub may_part : (s : Sight) (cs : List ℕ) (n : ℕ) → MayPart s cs n → held.MayPart s cs n
may_part s cs n may = record { boss = may.boss; made = may.made; has = may.has; allowance = may.allowance; share = may.share }

pub is_split : (old boss new : Sight) (cs : List ℕ) (n : ℕ) → held.IsSplit old boss new cs n → IsSplit old boss new cs n
is_split old boss new cs n t = record {
  grows = t.grows;
  legal = t.legal;
  own_acts = t.own_acts;
  unmade = t.unmade;
  boss_is = t.boss_is ∙ ap (λ (l : List ℕ). record old {
    consumers = l;
    allowance = old.allowance - n;
    share = old.share - n;
    made = old.made + 1;
    seen = boss.seen;
  }) (not_in_same cs old.consumers);
  new_is = t.new_is;
}

pub is_joined : (old gone new : Sight) → held.IsJoined old gone new → IsJoined old gone new
is_joined old gone new j = record {
  grows = j.grew.grows;
  tells = j.tells;
  legal = j.grew.legal;
  own_acts = j.grew.own_acts;
  ended_acts = j.grew.ended_acts;
  unmade = j.grew.unmade;
  gone_acts = j.gone_acts;
  sight = j.sight;
}

pub is_last : (s : Sight) → IsLast s → held.IsLast s
is_last s last = record { boss = last.boss; every = last.every }

-- What is left

rests_state : (s : RowState) → s ≢ Dequeued → ((h : ℕ) → s ≢ Locked h) → Rests s
rests_state Available a b = tt
rests_state (Locked h) a b = b h refl
rests_state (Unlocked h) a b = tt
rests_state Dequeued a b = a refl
rests_state Deleted a b = tt

all_rest : (xs : List Row) → AllByRecursion (λ (x : Row). Rests x.state) xs → AllByRecursion (λ (k : KeptRow). Rests k.state) (map keep xs)
all_rest [] all = tt
all_rest (x ∷ xs) all = (all.0, all_rest xs all.1)

-- what holds of each row that is found by its number holds of each
by_numbers : (P : Row → Type 0) (xs : List Row) → ((i : ℕ) (x : Row) → i < length xs → x ≡ get_or xs i x → P x) → AllByRecursion P xs
by_numbers P [] each = tt
by_numbers P (x ∷ xs) each = (each 0 x (omega arith) refl, by_numbers P xs (λ i y low is. each (suc i) y (omega (arith, low)) is))

-- where no row is held or about to go, each rests
pub at_rest : (k : Kept) (q : Queue) → Stands k (wide q) → Settled q → AtRest k
at_rest k q s settled =
    subst (AllByRecursion (λ (r : KeptRow). Rests r.state)) (sym s.rows) (all_rest q.rows (by_numbers (λ (x : Row). Rests x.state) q.rows (λ i x low is.
    let free = settled x.number x (found_by_number i q.rows x s.numbered low is) in
    rests_state x.state free.0 free.1)))

marks_narrow : (kind : Kind) (q : Queue) (r : ℕ) (b : Bool) → Marks kind (wide q) r b → Marks kind q r b
marks_narrow Listed q r b m = m
marks_narrow Sorted q r b m = m
marks_narrow LastValue q r b m = (λ t. outdated_narrow q r (m.0 t), λ o. m.1 (outdated_wide q r o))

left_narrow : (kind : Kind) (q : Queue) (e : Left) (x : Row) → IsLeft kind (wide q) e x → IsLeft kind q e x
left_narrow kind q e x l = record { slip = l.slip; state = l.state; same = l.same; marks = marks_narrow kind q x.number e.outdated l.marks }

all_narrow : (kind : Kind) (q : Queue) (es : List Left) (xs : List Row) → AreLeft kind (wide q) es xs → AreLeft kind q es xs
all_narrow kind q [] [] a = tt
all_narrow kind q [] (x ∷ xs) a = absurd a
all_narrow kind q (e ∷ es) [] a = absurd a
all_narrow kind q (e ∷ es) (x ∷ xs) a = (left_narrow kind q e x a.0, all_narrow kind q es xs a.1)

live_narrow : (q : Queue) (xs : List Row) → AllByRecursion (IsLive (wide q)) xs → AllByRecursion (IsLive q) xs
live_narrow q [] all = tt
live_narrow q (x ∷ xs) all = (record { there = all.0.there; live = all.0.live }, live_narrow q xs all.1)

before_narrow : (o : Order) (q : Queue) (x : Row) (ys : List Row) → AllByRecursion (λ y. Precedes o (wide q) x y) ys → AllByRecursion (λ y. Precedes o q x y) ys
before_narrow o q x [] all = tt
before_narrow o q x (y ∷ ys) all = (precedes_narrow o q x y all.0, before_narrow o q x ys all.1)

order_narrow : (kind : Kind) (q : Queue) (xs : List Row) → InOrder kind (wide q) xs → InOrder kind q xs
order_narrow kind q [] order = tt
order_narrow kind q (x ∷ xs) order = (before_narrow (order_of kind) q x xs order.0, order_narrow kind q xs order.1)

pub rests_narrow : (kind : Kind) (q : Queue) (es : List Left) → AreRests kind (wide q) es → AreRests kind q es
rests_narrow kind q es r = record {
  rows = r.rows;
  left = all_narrow kind q es r.rows r.left;
  live = live_narrow q r.rows r.live;
  whole = λ x l. r.whole x (record { there = l.there; live = l.live });
  ordered = order_narrow kind q r.rows r.ordered;
}

-- a held queue takes any key
key_fits : (kind : Kind) (key : Option (List ℕ)) → IsHeldKind kind → KeyFits kind key
key_fits Listed key held = absurd held
key_fits Sorted key held = tt
key_fits LastValue key held = tt

pub keys_fit : {C : Type 0} (kind : Kind) (es : List (RestEntry C)) → IsHeldKind kind → AllByRecursion (λ (e : RestEntry C). KeyFits kind e.slip.key) es
keys_fit kind [] held = tt
keys_fit kind (e ∷ es) held = (key_fits kind e.slip.key held, keys_fit kind es held)
