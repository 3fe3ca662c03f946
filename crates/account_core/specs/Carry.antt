-- from what a phase leaves to what the next opens with
use Rattle.std.specs.Prelude.{◌≡◌, ℕ, zero, suc, Bool, true, false, not, nat_lt, ◌&&◌, if◌then◌else◌, Option, Some, None, List, [], ◌∷◌, ◌++◌, filter, length, map}
use Rattle.std.specs.Cmp.Lexicographic.{slice_cmp}
use Rattle.std.specs.List.{list_any}
use Rattle.std.specs.Ordering.{is_lt, nat_cmp}
use Rattle.std.specs.Str.{bytes_eq}
use Rattle.queue_model.specs.declared.queues.Queue.{Queue}
use Rattle.queue_model.specs.declared.rows.Row.{Row}
use Rattle.queue_model.specs.declared.rows.RowState.{RowState}
use Rattle.queue_model.specs.declared.rows.RowState.TheVariants.{Available, Locked, Unlocked, Dequeued, Deleted}
use Rattle.queue_model.specs.Order.{arrival}
use Rattle.queue_model.specs.Sound.{IsOpening}
use Rattle.queue_model.specs.State.{rows_of}
use Rattle.acts_core.specs.Sight.{Kind, Listed, Sorted, LastValue, Plan}
use Rattle.defs_read.specs.Defined.{Defined}
use Rattle.defs_read.specs.Slips.{lists_of}
use Rattle.line_core.specs.Places.{kind_of}
use Rattle.account_core.specs.Played.{Played, rest_of}

-- Entries

-- the rows of n lists, the highest list first
abbrev pub from_highest : Queue → ℕ → List Row
from_highest q zero = []
from_highest q (suc n) = rows_of q n ++ from_highest q n

-- the state is that of an entry: its row is not deleted
abbrev pub stays : RowState → Bool
stays Available = true
stays (Locked h) = true
stays (Unlocked h) = true
stays Dequeued = true
stays Deleted = false

-- the first key is before the second in byte order; no key is after every key
abbrev pub is_before : Option (List ℕ) → Option (List ℕ) → Bool
is_before (Some a) (Some b) = is_lt (slice_cmp nat_cmp a b)
is_before (Some a) None = true
is_before None k = false

-- these rows, with one that came before all of them, which goes before each that its key is not behind
abbrev pub with_row : Row → List Row → List Row
with_row x [] = x ∷ []
with_row x (y ∷ ys) = if is_before y.slip.key x.slip.key then y ∷ with_row x ys else x ∷ y ∷ ys

-- rows that stand in the order in which they came, by key, and those of one key in that order
abbrev pub by_key : List Row → List Row
by_key [] = []
by_key (x ∷ xs) = with_row x (by_key xs)

-- the entries of a queue, in queue order: from the highest list on, by key, or as they came
abbrev pub entries_of : Kind → Queue → List Row
entries_of Listed q = filter (λ x. stays x.state) (from_highest q q.lists)
entries_of Sorted q = by_key (filter (λ x. stays x.state) q.rows)
entries_of LastValue q = filter (λ x. stays x.state) q.rows

-- both are keys, and one
abbrev pub same_key : Option (List ℕ) → Option (List ℕ) → Bool
same_key (Some a) (Some b) = bytes_eq a b
same_key a b = false

-- on a last-value queue an entry is outdated where a later row of its key has come, be it deleted since
abbrev pub is_outdated : Kind → Queue → Row → Bool
is_outdated LastValue q x =
    list_any (λ y. same_key x.slip.key y.slip.key && nat_lt (arrival q x) (arrival q y)) q.rows
is_outdated kind q x = false

-- The carry

-- the place of a body, without the receipt of a commit, which is good for one phase alone
abbrev pub place_alone : List ℕ → List ℕ
place_alone [] = []
place_alone (at ∷ receipt) = at ∷ []

-- a row without its number, which each opening gives anew
abbrev pub unnumbered : Row → Row
unnumbered x = record x { number = 0 }

-- an entry that is carried: nobody has it; its slip, its count and its content stay
abbrev pub carried : Row → Row
carried x = record (unnumbered x) { state = Available; origin = place_alone x.origin }

-- the entries of a queue that are not outdated, in their order
abbrev pub lasting : Kind → Queue → List Row
lasting kind q = filter (λ x. not (is_outdated kind q x)) (entries_of kind q)

-- what a queue hands on to the next phase: its entries in their order, but for those that are outdated
abbrev pub handed_on : Played → List Row
handed_on p = map carried (lasting p.plan.kind (rest_of p))

-- Openings

-- whether queues of a kind ring and take bells
abbrev pub uses_bells : Kind → Bool
uses_bells Listed = true
uses_bells kind = false

-- a queue of this definition opens with these rows; all are available, and there are no bells and no reservations
pub record Opens (def : Defined) (rows : List Row) (p : Plan) : Type 0 where
  pub kind : p.kind ≡ kind_of def.kind
  pub rings : p.bells ≡ uses_bells p.kind
  pub lists : p.opening.lists ≡ lists_of def.kind
  pub consumers : p.opening.consumers ≡ length def.consumers
  pub kept : map unnumbered p.opening.rows ≡ rows
  pub fits : IsOpening p.opening
