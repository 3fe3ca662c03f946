-- what is left of a queue, as rows and as what is told
use Rattle.std.proofs.Common.{◌≡◌, ℕ, ◌≤◌, Bool, true, false, cond, not, filter, List, [], ◌∷◌, length, map, refl, sym, ap, ◌∙◌, subst, arith}
use Rattle.std.specs.List.{AllByRecursion, count_by, sum_by}
use Rattle.std.proofs.lemmas.List.Filters.{sum_by-filter_both}
use Rattle.std.proofs.lemmas.List.Sums.{sum_by-cons}
use Rattle.queue_model.specs.declared.queues.Queue.{Queue}
use Rattle.queue_model.specs.declared.rows.Row.{Row}
use Rattle.queue_model.specs.declared.rows.RowState.TheVariants.{Available}
use Rattle.queue_model.specs.declared.rows.Slip.{Slip}
use Rattle.queue_model.specs.Sound.{Sound}
use Rattle.queue_model.specs.Table.{FitsQueue}
use Rattle.queue_model.proofs.KeyedLemmas.{all-filter}
use Rattle.queue_model.proofs.SoundSteps.{row_fits}
use Rattle.acts_core.specs.Asked.{KeyFits}
use Rattle.acts_core.specs.Moments.{IsRow}
use Rattle.acts_core.specs.Rest.{AreLeft, AreRests, InOrder, IsLeft, IsLive, Marks, left_of}
use Rattle.acts_core.specs.Sight.{Kind, Listed, Sorted, LastValue}
use Rattle.acts_core.specs.declared.cargoes.RestEntry.{RestEntry}
use Rattle.txn_core.specs.declared.parcels.Parcel.{Parcel}
use Rattle.txn_core.specs.Parcels.{load_of}
use Rattle.defs_read.specs.Defined.{Defined}
use Rattle.defs_read.specs.Slips.{lists_of}
use Rattle.defs_read.specs.declared.defs.QueueKind.{QueueKind}
use Rattle.defs_read.specs.declared.defs.QueueKind.TheVariants as asked
use Rattle.line_core.specs.Places as lines
use Rattle.any_queue.specs.Parting.{StartsApart, kind_of}
use Rattle.account_core.specs.Carry.{carried, entries_of, is_outdated, lasting, place_alone}
use Rattle.account_core.specs.Counting.{with_ids}
use Rattle.account_core.specs.Texts.{holder_of, resting}
use Rattle.account_core.proofs.EntryCounts.{entries_le, sum_map}
use Rattle.phase_queues.specs.Left.{MayGoOn, MayStay, goods_left, lasting_in, resting_left, row_left}
use Rattle.phase_queues.proofs.Entries.{rest_entries}
use Rattle.phase_queues.proofs.Outdated.{keys_apart, mark_is}
use Rattle.phase_queues.proofs.Starting.{of_kind}

-- those of some entries that are not outdated weigh no more
lasting_few : (w : RestEntry Parcel → ℕ) (es : List (RestEntry Parcel)) → sum_by w (lasting_in es) ≤ sum_by w es
lasting_few w es = omega (arith, sum_by-filter_both (λ (e : RestEntry Parcel). not e.outdated) (λ e. not (not e.outdated)) (λ e. refl) w es)

-- a last-value queue has one list
pub one_list : (k : QueueKind) → lines.kind_of k ≡ LastValue → lists_of k ≡ 1
one_list asked.Standard e = refl
one_list (asked.Priority n) e = absurd (cc)
one_list (asked.Sorted key) e = refl
one_list (asked.LastValue key) e = refl

-- a list has as many elements as ones
ones : {X : Type 0} (xs : List X) → sum_by (λ x. 1) xs ≡ length xs
ones [] = refl
ones (x ∷ xs) = omega (arith, sum_by-cons (λ y. 1) x xs, ones xs)

module _ (kind : Kind) (q : Queue) where
  row_is : (e : RestEntry Parcel) (x : Row) → IsLeft kind q (left_of load_of e) x → row_left e ≡ carried x
  row_is e x l = λ i. record {
    number = 0;
    slip = l.slip i;
    state = Available;
    content = l.same.content i;
    origin = place_alone (l.same.origin i);
    count = l.same.count i;
  }

  rows_are : (es : List (RestEntry Parcel)) (xs : List Row) → AreLeft kind q (map (left_of load_of) es) xs → map row_left es ≡ map carried xs
  rows_are [] [] a = refl
  rows_are [] (x ∷ xs) a = absurd a
  rows_are (e ∷ es) [] a = absurd a
  rows_are (e ∷ es) (x ∷ xs) a = let first = row_is e x a.0 in let rest = rows_are es xs a.1 in λ i. first i ∷ rest i

  told_are : (es : List (RestEntry Parcel)) (xs : List Row) → AreLeft kind q (map (left_of load_of) es) xs → map resting_left es ≡ map resting xs
  told_are [] [] a = refl
  told_are [] (x ∷ xs) a = absurd a
  told_are (e ∷ es) [] a = absurd a
  told_are (e ∷ es) (x ∷ xs) a =
      let l : IsLeft kind q (left_of load_of e) x = a.0 in
      let rest = told_are es xs a.1 in
      λ i. record { id = (l.slip i).id; size = (l.slip i).size; holder = holder_of (l.state i) } ∷ rest i

  -- The entries that are not outdated

  marks_are : Sound q → (kind ≡ LastValue → q.lists ≡ 1) → (x : Row) (b : Bool) → IsRow q x → Marks kind q x.number b → b ≡ is_outdated kind q x
  marks_are sound one x b there marks = mark_is kind q sound one x b there marks

  lasting_rows : Sound q → (kind ≡ LastValue → q.lists ≡ 1) → (es : List (RestEntry Parcel)) (xs : List Row)
      → AreLeft kind q (map (left_of load_of) es) xs → AllByRecursion (IsLive q) xs → map row_left (filter (λ e. not e.outdated) es) ≡ map carried (filter (λ x. not (is_outdated kind q x)) xs)
  lasting_rows sound one [] [] a lives = refl
  lasting_rows sound one [] (x ∷ xs) a lives = absurd a
  lasting_rows sound one (e ∷ es) [] a lives = absurd a
  lasting_rows sound one (e ∷ es) (x ∷ xs) a lives =
      let first = row_is e x a.0 in
      let rest = lasting_rows sound one es xs a.1 lives.1 in
      let same = marks_are sound one x e.outdated lives.0.there a.0.marks in
      ap (λ (b : Bool). map row_left (cond (not b) (e ∷ filter (λ z. not z.outdated) es) (filter (λ z. not z.outdated) es))) same
      ∙ by_test (is_outdated kind q x) first rest
    where
      by_test : (b : Bool) → row_left e ≡ carried x → map row_left (filter (λ z. not z.outdated) es) ≡ map carried (filter (λ y. not (is_outdated kind q y)) xs)
          → map row_left (cond (not b) (e ∷ filter (λ z. not z.outdated) es) (filter (λ z. not z.outdated) es)) ≡ map carried (cond (not b) (x ∷ filter (λ y. not (is_outdated kind q y)) xs) (filter (λ y. not (is_outdated kind q y)) xs))
      by_test true first rest = rest
      by_test false first rest = λ i. first i ∷ rest i

  module _ (sound : Sound q) where
    stay_all : (def : Defined) → kind ≡ kind_of def.kind → q.lists ≡ lists_of def.kind → q.consumers ≡ length def.consumers → (es : List (RestEntry Parcel)) (xs : List Row)
        → AreLeft kind q (map (left_of load_of) es) xs → AllByRecursion (IsLive q) xs → AllByRecursion (λ (e : RestEntry Parcel). KeyFits kind e.slip.key) es
        → AllByRecursion (MayStay def) es
    stay_all def is lists consumers [] xs a lives keys = tt
    stay_all def is lists consumers (e ∷ es) [] a lives keys = absurd a
    stay_all def is lists consumers (e ∷ es) (x ∷ xs) a lives keys =
        let l : IsLeft kind q (left_of load_of e) x = a.0 in
        let fit : FitsQueue q.lists q.consumers x.slip = row_fits q x.number x sound lives.0.there in (
          record {
            fits = subst (λ (t : ℕ × ℕ × Slip). FitsQueue t.0 t.1 t.2) (λ i. (lists i, consumers i, sym l.slip i)) fit;
            key = subst (λ (k : Kind). KeyFits k e.slip.key) is keys.0;
            id = l.same.id ∙ ap (λ (s : Slip). s.id) (sym l.slip);
            size = l.same.size ∙ ap (λ (s : Slip). s.size) (sym l.slip);
          },
          stay_all def is lists consumers es xs a.1 lives.1 keys.1,
        )

    module _ (es : List (RestEntry Parcel)) (r : AreRests kind q (map (left_of load_of) es)) where
      entries_are : r.rows ≡ entries_of kind q
      entries_are = rest_entries kind q r.rows sound r.live r.whole r.ordered

      -- what is told is that of all entries, in queue order
      pub told-is : map resting_left es ≡ map resting (entries_of kind q)
      told-is = told_are es r.rows r.left ∙ ap (map resting) entries_are

      -- what goes on is what is not outdated
      pub rows_left-is : (kind ≡ LastValue → q.lists ≡ 1) → map row_left (lasting_in es) ≡ map carried (lasting kind q)
      rows_left-is one = lasting_rows sound one es r.rows r.left r.live ∙ ap (λ (xs : List Row). map carried (filter (λ x. not (is_outdated kind q x)) xs)) entries_are

      -- it may stay in a queue of the same kind, lists and consumers
      pub may_stay : (def : Defined) → lines.kind_of def.kind ≡ kind → q.lists ≡ lists_of def.kind → q.consumers ≡ length def.consumers → AllByRecursion (λ (e : RestEntry Parcel). KeyFits kind e.slip.key) es → MayGoOn def (lasting_in es)
      may_stay def same lists consumers keys =
          let is : kind ≡ kind_of def.kind = sym (of_kind def.kind ∙ same) in
          record {
            each = all-filter (MayStay def) (λ e. not e.outdated) es (stay_all def is lists consumers es r.rows r.left r.live keys);
            apart = subst (λ (k : Kind). StartsApart k (goods_left (lasting_in es))) is (apart_left kind refl (λ last. lists ∙ one_list def.kind (same ∙ last)));
          }
        where
          apart_left : (k : Kind) → kind ≡ k → (kind ≡ LastValue → q.lists ≡ 1) → StartsApart k (goods_left (lasting_in es))
          apart_left Listed e one = tt
          apart_left Sorted e one = tt
          apart_left LastValue e one = keys_apart q sound (one e) es r.rows (subst (λ (z : Kind). AreLeft z q (map (left_of load_of) es) r.rows) e r.left) r.live (subst (λ (z : Kind). InOrder z q r.rows) e r.ordered)

      -- all entries are no more than the rows, and no more of them have an id that passes
      few : (w : Row → ℕ) → sum_by (λ (e : RestEntry Parcel). w (row_left e)) es ≡ sum_by (λ (x : Row). w (carried x)) (entries_of kind q)
      few w = sym (sum_map w row_left es) ∙ ap (sum_by w) (rows_are es r.rows r.left ∙ ap (map carried) entries_are) ∙ sum_map w carried (entries_of kind q)

      pub few_left : length es ≤ length q.rows
      few_left = omega (arith, few (λ x. 1), ones es, ones q.rows, entries_le (λ x. 1) kind q)

      few_ids : (test : ℕ → Bool) → count_by (λ e. test e.slip.id) es ≤ with_ids test q.rows
      few_ids test =
          let w : Row → ℕ = λ x. cond (test x.slip.id) 1 0 in
          omega (arith, few w, entries_le w kind q)

      -- and so are those that go on
      pub few_lasting : length (lasting_in es) ≤ length q.rows
      few_lasting = let l = lasting_few (λ e. 1) es in omega (arith, ones es, ones (lasting_in es), l, few_left)

      pub few_lasting_ids : (test : ℕ → Bool) → count_by (λ e. test e.slip.id) (lasting_in es) ≤ with_ids test q.rows
      few_lasting_ids test = let l = lasting_few (λ (e : RestEntry Parcel). cond (test e.slip.id) 1 0) es in omega (arith, l, few_ids test)
