-- changes of a row's state
use Rattle.std.proofs.Common.{◌≡◌, ◌≢◌, inl, inr, ℕ, suc, ◌<◌, Option, Some, None, IsSome, List, length, refl, sym, ap, ap₂, ◌∙◌, subst, ⊎_elim, arith}
use Rattle.std.specs.Prelude.{slice_index, slice_set}
use Rattle.queue_model.specs.declared.deeds.Act.TheVariants as acts
use Rattle.queue_model.specs.declared.queues.Queue.{Queue}
use Rattle.queue_model.specs.declared.queues.Reservation.{Reservation}
use Rattle.queue_model.specs.declared.rows.Row.{Row}
use Rattle.queue_model.specs.declared.rows.RowState.{RowState}
use Rattle.queue_model.specs.declared.rows.RowState.TheVariants.{Available, Locked, Unlocked, Dequeued, Deleted}
use Rattle.queue_model.specs.declared.rows.Slip.{Slip}
use Rattle.queue_model.specs.declared.steps.Change.{Change}
use Rattle.queue_model.specs.declared.steps.Change.TheVariants.{Acq, Lock, Unlock, Steal, Rel, Deq, Del}
use Rattle.queue_model.specs.declared.steps.Step.TheVariants.{State}
use Rattle.queue_model.specs.Laws.{SameGoods}
use Rattle.queue_model.specs.Sound.{Sound}
use Rattle.queue_model.specs.State.{row_at, IsIn, place_at, size_at, reserved_by, BellsRing}
use Rattle.queue_model.specs.Table.{Can, in_state, left_in, changed, acted, with_more}
use Rattle.queue_model.proofs.Depths.{SameDepth, depth_kept, size_found}
use Rattle.queue_model.proofs.Owns.{own_dequeue_reserves}
use Rattle.queue_model.proofs.SoundSteps.{sound_step}
use Rattle.link_core.specs.Layout.{row_link_of, state_of, head_of, tail_of, mark_of}
use Rattle.queue_model.specs.Packing.{pack_state, pack_depth}
use Rattle.link_core.specs.Stands.{States, Drafts, IsDrafted, Links, StandsIn, Tails, Marks, Draws, Stands}
use Rattle.link_core.specs.Steps.{FitsState, goes_to, reserved_after, act_with, changed_by, size_in}
use Rattle.link_core.specs.Table.{Table, but, IsLinked}
use Rattle.link_core.proofs.Frames.{but_same, set_here, set_else, drafts_else, links_else, tails_else, marks_else, bells_else, depth_else, shaped_set, stands_low, draft_low, draft_high}
use Rattle.link_core.proofs.Packing.{pack_same}
use Rattle.link_core.proofs.Reserving.{reserved_after_act}
use Rattle.link_core.proofs.Softening.{found_before, goods_before, none_before, row_after, place_after, chain_after}

-- what is none is not some
not_some : (o : Option ℕ) → o ≡ None → IsSome o → ⊥
not_some None e some = absurd (cc)
not_some (Some x) e some = let bad : Some x ≡ None = e in absurd (cc)

-- a linked row is a row of the queue
pub linked_row : (t : Table) (q : Queue) (r : ℕ) → Stands t q → IsLinked t r → (x : Row) × (row_at q r ≡ Some x)
linked_row t q r s linked = by_found (row_at q r) refl where
  by_found : (o : Option Row) → row_at q r ≡ o → (x : Row) × (row_at q r ≡ Some x)
  by_found None e = absurd (not_some (t.drawer r) linked.free (s.draws.drawn r e linked.drawn))
  by_found (Some x) e = (x, e)

-- the state with one row changed, and these reservations
abbrev left : Queue → ℕ → (Row → Row) → List Reservation → Queue
left q r f reserved = record q { rows = (changed q r f).rows; reserved = reserved }

-- One change of the row r, which is x. The change f keeps the row's goods.
module _ (q : Queue) (r : ℕ) (f : Row → Row) (x : Row) (kept : (z : Row) → SameGoods z (f z)) (found : row_at q r ≡ Some x) where
  -- the state word that packs the new state
  states_after : (words : List ℕ) (v : ℕ) → state_of r < length words → v ≡ pack_state (f x).state → States words q → States (slice_set words (state_of r) v) (changed q r f)
  states_after words v long packs states s y e = ⊎_elim
      (λ (p : (s ≡ r) × (y ≡ f x)).
      ap (λ (n : ℕ). slice_index (slice_set words (state_of r) v) (state_of n)) p.0 ∙ set_here words (state_of r) v long ∙ packs ∙ ap (λ (z : Row). pack_state z.state) (sym p.1))
      (λ (p : (s ≢ r) × (row_at q s ≡ Some y)). let ne = p.0 in set_else words (state_of r) v (state_of s) (omega (arith, ne)) ∙ states s y p.1)
      (found_before q r s f x y kept found e)

  drafts_after : (words : List ℕ) → Drafts words q → Drafts words (changed q r f)
  drafts_after words drafted s y e =
      let before = goods_before q r s f x y kept found e in
      let place : place_at (changed q r f) s ≡ place_at q s = place_after q r s f before.0 kept before.1 in
      subst (λ (slip : Slip). IsDrafted words s (place_at (changed q r f) s) slip) (sym before.2)
      (subst (λ (n : ℕ). IsDrafted words s n before.0.slip) (sym place) (drafted s before.0 before.1))

  links_after : (rows lists : ℕ) (words : List ℕ) → x.state ≢ Deleted → Links rows lists words q → Links rows lists words (changed q r f)
  links_after rows lists words alive links l lt = chain_after words (slice_index words (head_of rows l)) l q r f x kept alive found (links l lt)

  -- a row that stands in a list still does
  in_list_after : (l s : ℕ) → StandsIn (row_at q) l s → StandsIn (row_at (changed q r f)) l s
  in_list_after l s stands =
      let a = row_after q r s f stands.row kept stands.found in
      record { row = a.0; found = a.1; list = ap (λ (slip : Slip). slip.list) a.2 ∙ stands.list }

  tails_after : (rows lists : ℕ) (words : List ℕ) → Tails rows lists words q → Tails rows lists words (changed q r f)
  tails_after rows lists words tails l lt = ⊎_elim (λ (e : slice_index words (tail_of rows l) ≡ 0). inl e)
      (λ (p : (s : ℕ) × StandsIn (row_at q) l s × (slice_index words (tail_of rows l) ≡ suc s)). inr (p.0, in_list_after l p.0 p.1, p.2))
      (tails l lt)

  marks_after : (rows lists : ℕ) (words : List ℕ) → Marks rows lists words q → Marks rows lists words (changed q r f)
  marks_after rows lists words marks l lt = ⊎_elim (λ (e : slice_index words (mark_of rows l) ≡ 0). inl e)
      (λ (p : (s : ℕ) × StandsIn (row_at q) l s × (slice_index words (mark_of rows l) ≡ place_at q s)).
      inr (p.0, in_list_after l p.0 p.1, p.2 ∙ sym (place_after q r p.0 f p.1.row kept p.1.found)))
      (marks l lt)

  draws_after : (rows v : ℕ) (words : List ℕ) (drawer : ℕ → Option ℕ) → Draws rows words drawer (row_at q) → Draws rows (slice_set words (state_of r) v) drawer (row_at (changed q r f))
  draws_after rows v words drawer draws =
      let same : slice_index (slice_set words (state_of r) v) 0 ≡ slice_index words 0 = set_else words (state_of r) v 0 (omega arith) in record {
        top = omega (arith, same, draws.top);
        below = λ s y e. let before = goods_before q r s f x y kept found e in omega (arith, same, draws.below s before.0 before.1);
        free = λ s y e. let before = goods_before q r s f x y kept found e in draws.free s before.0 before.1;
        drawn = λ s none lt. draws.drawn s (none_before q r s f x kept found none).1 (omega (arith, same));
        low = λ s h e. omega (arith, same, draws.low s h e);
        unset = λ s lt none. let before = none_before q r s f x kept found none in let ne = before.0 in set_else words (state_of r) v (state_of s) (omega (arith, ne)) ∙ draws.unset s lt before.1;
        unlinked = λ s lt none. let before = none_before q r s f x kept found none in set_else words (state_of r) v (row_link_of s) (omega arith) ∙ draws.unlinked s lt before.1;
      }

  -- a bell of a row still is of it
  rung_after : (reserved : List Reservation) → BellsRing q → BellsRing (left q r f reserved)
  rung_after reserved rung c l b e =
      let of = rung c l b e in
      let y = row_after q r b.row f of.rung kept of.found in
      record { rung = y.0; found = y.1; list = ap (λ (z : Slip). z.list) y.2 ∙ of.list; place = of.place ∙ sym (place_after q r b.row f of.rung kept of.found) }

  -- all of it, with the reservations afterwards
  state_kept : (t : Table) (h : ℕ) (change : Change) (from : RowState) (reserved : List Reservation) → Stands t q → (f x).state ≡ goes_to h change → x.state ≢ Deleted
      → Sound (left q r f reserved) → SameDepth (left q r f reserved) q
      → ((k : ℕ) → reserved_by (left q r f reserved) k ≡ but t.reserved h (reserved_after change (t.reserved h) (size_in t r)) k)
      → Stands (changed_by t h (State r change from)) (left q r f reserved)
  state_kept t h change from reserved s goes alive sound same reserves =
      let v : ℕ = pack_state (goes_to h change) in
      let inside : r < t.rows = stands_low t q s r x found in
      let fewer = s.shaped.few_consumers in
      let long : state_of r < length t.words = omega (arith, s.shaped.long, s.draws.below r x found, s.draws.top) in record {
        sound = sound;
        shaped = let shape = shaped_set t q (state_of r) v t.drawer t.reserved s.shaped in
            record { lists = shape.lists; consumers = shape.consumers; few_consumers = shape.few_consumers; few_rows = shape.few_rows; few_callers = shape.few_callers; long = shape.long };
        states = states_after t.words v long (ap pack_state (sym goes)) s.states;
        drafted = drafts_after (slice_set t.words (state_of r) v) (drafts_else t.rows t.words (state_of r) v q (λ k y e w. omega (arith, draft_low k w, draft_high k w)) s.drafted);
        links = links_after t.rows t.lists (slice_set t.words (state_of r) v) alive (links_else t.rows t.words (state_of r) v t.lists q (stands_low t q s) (λ l lt. omega arith) (λ k less. omega arith) s.links);
        tails = tails_after t.rows t.lists (slice_set t.words (state_of r) v) (tails_else t.rows t.words (state_of r) v t.lists q (λ l lt. omega arith) s.tails);
        marks = marks_after t.rows t.lists (slice_set t.words (state_of r) v) (marks_else t.rows t.words (state_of r) v t.lists q (λ l lt. omega arith) s.marks);
        bells = bells_else t.rows t.words (state_of r) v t.consumers t.lists q (λ c l less lt. omega arith) s.bells;
        rung = rung_after reserved s.rung;
        depth = depth_else t.rows t.words (state_of r) v q (omega arith) s.depth ∙ ap₂ pack_depth (sym same.0) (sym same.1);
        draws = draws_after t.rows v t.words t.drawer s.draws;
        reserved = reserves;
      }

-- a change keeps the goods
goods_in : (s : RowState) (z : Row) → SameGoods z (in_state s z)
goods_in s z = record { number = refl; slip = refl; content = refl; origin = refl }

goods_left : (s : RowState) (n : ℕ) (z : Row) → SameGoods z (left_in s n z)
goods_left s n z = record { number = refl; slip = refl; content = refl; origin = refl }

-- the row of a change that hits: it is in the state that the change goes from
pub row_of_change : (t : Table) (q : Queue) (h r : ℕ) (change : Change) (from : RowState) → Stands t q → FitsState t h r change from → slice_index t.words (state_of r) ≡ pack_state from → IsIn q r from
row_of_change t q h r change from s fits hit =
    let row = linked_row t q r s fits.row in (row.0, row.1, pack_same row.0.state from (sym (s.states r row.0 row.1) ∙ hit))

-- a step on a state word that shows the expected state
pub state_step : (t : Table) (q : Queue) (h r n : ℕ) (change : Change) (from : RowState) → Stands t q → FitsState t h r change from → slice_index t.words (state_of r) ≡ pack_state from
    → Can q h (act_with n change r) × Stands (changed_by t h (State r change from)) (acted q h (act_with n change r))
state_step t q h r n Acq from s fits hit =
    let row = row_of_change t q h r Acq from s fits hit in
    let can : Can q h (acts.Acq r) = (row.0, row.1, row.2 ∙ fits.goes) in (
      can,
      state_kept q r (in_state (Locked h)) row.0 (goods_in (Locked h)) row.1 t h Acq from q.reserved s refl (λ gone. let bad : Available ≡ Deleted = sym can.2 ∙ gone in absurd (cc))
          (sound_step q h (acts.Acq r) can s.sound) (depth_kept q h (acts.Acq r) can tt) (λ k. s.reserved k ∙ sym (but_same t.reserved h k)),
    )
state_step t q h r n Lock from s fits hit =
    let row = row_of_change t q h r Lock from s fits hit in
    let can : Can q h (acts.Lock r) = (row.0, row.1, row.2 ∙ fits.goes) in (
      can,
      state_kept q r (in_state (Locked h)) row.0 (goods_in (Locked h)) row.1 t h Lock from q.reserved s refl (λ gone. let bad : Unlocked h ≡ Deleted = sym can.2 ∙ gone in absurd (cc))
          (sound_step q h (acts.Lock r) can s.sound) (depth_kept q h (acts.Lock r) can tt) (λ k. s.reserved k ∙ sym (but_same t.reserved h k)),
    )
state_step t q h r n Unlock from s fits hit =
    let row = row_of_change t q h r Unlock from s fits hit in
    let can : Can q h (acts.Unlock r n) = (row.0, row.1, row.2 ∙ fits.goes) in (
      can,
      state_kept q r (left_in (Unlocked h) n) row.0 (goods_left (Unlocked h) n) row.1 t h Unlock from q.reserved s refl (λ gone. let bad : Locked h ≡ Deleted = sym can.2 ∙ gone in absurd (cc))
          (sound_step q h (acts.Unlock r n) can s.sound) (depth_kept q h (acts.Unlock r n) can tt) (λ k. s.reserved k ∙ sym (but_same t.reserved h k)),
    )
state_step t q h r n Steal from s fits hit =
    let row = row_of_change t q h r Steal from s fits hit in
    let can : Can q h (acts.Steal r) = (fits.goes.0, (row.0, row.1, row.2 ∙ fits.goes.1)) in (
      can,
      state_kept q r (in_state (Locked h)) row.0 (goods_in (Locked h)) row.1 t h Steal from q.reserved s refl (λ gone. let bad : Unlocked fits.goes.0 ≡ Deleted = sym can.1.2 ∙ gone in absurd (cc))
          (sound_step q h (acts.Steal r) can s.sound) (depth_kept q h (acts.Steal r) can tt) (λ k. s.reserved k ∙ sym (but_same t.reserved h k)),
    )
state_step t q h r n Rel from s fits hit =
    let row = row_of_change t q h r Rel from s fits hit in
    let can : Can q h (acts.Rel r n) = (row.0, row.1, row.2 ∙ fits.goes) in (
      can,
      state_kept q r (left_in Available n) row.0 (goods_left Available n) row.1 t h Rel from q.reserved s refl (λ gone. let bad : Locked h ≡ Deleted = sym can.2 ∙ gone in absurd (cc))
          (sound_step q h (acts.Rel r n) can s.sound) (depth_kept q h (acts.Rel r n) can tt) (λ k. s.reserved k ∙ sym (but_same t.reserved h k)),
    )
state_step t q h r n Deq from s fits hit =
    let row = row_of_change t q h r Deq from s fits hit in
    let can : Can q h (acts.Deq r) = (row.0, row.1, row.2 ∙ fits.goes) in
    let size : size_at q r ≡ size_in t r = size_found q r row.0 row.1 ∙ sym (s.drafted r row.0 row.1).size in (
      can,
      state_kept q r (in_state Dequeued) row.0 (goods_in Dequeued) row.1 t h Deq from (acted q h (acts.Deq r)).reserved s refl (λ gone. let bad : Locked h ≡ Deleted = sym can.2 ∙ gone in absurd (cc))
          (sound_step q h (acts.Deq r) can s.sound) (depth_kept q h (acts.Deq r) can tt)
          (reserved_after_act t q h (acts.Deq r) (with_more (t.reserved h) (size_in t r)) s.reserved (own_dequeue_reserves q h r ∙ ap₂ with_more (s.reserved h) size)),
    )
state_step t q h r n Del from s fits hit =
    let row = row_of_change t q h r Del from s fits hit in
    let can : Can q h (acts.Del r) = (row.0, row.1, row.2 ∙ fits.goes) in (
      can,
      state_kept q r (in_state Deleted) row.0 (goods_in Deleted) row.1 t h Del from q.reserved s refl (λ gone. let bad : Dequeued ≡ Deleted = sym can.2 ∙ gone in absurd (cc))
          (sound_step q h (acts.Del r) can s.sound) (depth_kept q h (acts.Del r) can tt) (λ k. s.reserved k ∙ sym (but_same t.reserved h k)),
    )
