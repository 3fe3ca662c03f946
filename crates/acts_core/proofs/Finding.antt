-- rows that a call found, or that were there before it
use Rattle.std.proofs.Common.{◌≡◌, ℕ, Some, List, ap, ◌∙◌, subst}
use mathlib.Core.List.{IsPrefix}
use Rattle.queue_model.specs.declared.deeds.Deed.{Deed}
use Rattle.queue_model.specs.declared.queues.Queue.{Queue}
use Rattle.queue_model.specs.declared.rows.Row.{Row}
use Rattle.queue_model.specs.declared.rows.Slip.{Slip}
use Rattle.queue_model.specs.History.{after, deeds_of}
use Rattle.queue_model.specs.Laws.{SameGoods}
use Rattle.queue_model.specs.State.{row_at}
use Rattle.queue_model.proofs.Stable.{row_stays}
use Rattle.acts_core.specs.Calls.{Call, CallFind, Answer, IsFound, acts_of}
use Rattle.acts_core.specs.Meaning.{Besides, Meets}
use Rattle.acts_core.specs.Sight.{Kind, Listed, Sorted, LastValue, Plan, Forgotten}
use Rattle.acts_core.proofs.Sparing.{after_rest}

-- a row stays in a longer history, with its goods
row_later : (o : Queue) (s0 s1 : List Deed) (r : ℕ) (x : Row) → IsPrefix s0 s1 → row_at (after o s0) r ≡ Some x → (y : Row) × (row_at (after o s1) r ≡ Some y) × SameGoods x y
row_later o s0 s1 r x grows found =
    let t = row_stays (after o s0) grows.0 r x found in
    (t.0, subst (λ (q : Queue). row_at q r ≡ Some t.0) (after_rest o s0 s1 grows) t.1, t.2)

-- a row that was there before a call is there after it, with its goods
pub call_rows : (p : Plan) (h : ℕ) (s0 s1 : List Deed) (call : Call) (answer : Answer) (r : ℕ) (x : Row) → Meets p h s0 s1 call answer → row_at (after p.opening s0) r ≡ Some x
    → (y : Row) × (row_at (after p.opening s1) r ≡ Some y) × SameGoods x y
call_rows p h s0 s1 call answer r x m found = row_later p.opening s0 s1 r x m.grows found

-- a row of the id is there
later_id : (o : Queue) (s0 s1 : List Deed) (id r : ℕ) (x : Row) → IsPrefix s0 s1 → row_at (after o s0) r ≡ Some x → x.slip.id ≡ id → (y : Row) × (row_at (after o s1) r ≡ Some y) × (y.slip.id ≡ id)
later_id o s0 s1 id r x grows found same =
    let t = row_later o s0 s1 r x grows found in
    (t.0, t.1, ap (λ (s : Slip). s.id) t.2.slip ∙ same)

finds : (p : Plan) (h id r : ℕ) (s0 s1 : List Deed) (kind : Kind) → Besides Forgotten p h s0 s1 (CallFind id) (IsFound (Some r)) kind → (x : Row) × (row_at (after p.opening s1) r ≡ Some x) × (x.slip.id ≡ id)
finds p h id r s0 s1 Listed b = later_id p.opening b.moment s1 id r b.row b.between.early b.found b.same
finds p h id r s0 s1 Sorted b = later_id p.opening b.moment s1 id r b.means.0 (deeds_of h (acts_of p (CallFind id) (IsFound (Some r))), b.before.whole) b.means.1 b.means.2.same
finds p h id r s0 s1 LastValue b = later_id p.opening b.moment s1 id r b.means.0 (deeds_of h (acts_of p (CallFind id) (IsFound (Some r))), b.before.whole) b.means.1 b.means.2.same

-- what find found is a row of that id
pub call_finds : (p : Plan) (h id r : ℕ) (s0 s1 : List Deed) → Meets p h s0 s1 (CallFind id) (IsFound (Some r)) → (x : Row) × (row_at (after p.opening s1) r ≡ Some x) × (x.slip.id ≡ id)
call_finds p h id r s0 s1 m = finds p h id r s0 s1 p.kind m.besides
