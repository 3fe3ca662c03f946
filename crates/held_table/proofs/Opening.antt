-- a one-thread queue of available rows stands for one opening
use Rattle.std.proofs.Common.{◌⊎◌, ⊎_elim, ◌≡◌, ℕ, zero, suc, ◌+◌, ◌<◌, ◌≤◌, List, [], ◌∷◌, length, map, refl, sym, ap, ◌∙◌, subst, arith, Some, None, false, if◌then◌else◌}
use Rattle.std.specs.List.{AllByRecursion, sum_by}
use Rattle.queue_model.specs.declared.queues.Depth.{Depth}
use Rattle.queue_model.specs.declared.queues.Queue.{Queue}
use Rattle.queue_model.specs.declared.queues.Reservation.{Reservation}
use Rattle.queue_model.specs.declared.rows.Row.{Row}
use Rattle.queue_model.specs.declared.rows.RowState.{RowState}
use Rattle.queue_model.specs.declared.rows.RowState.TheVariants.{Available}
use Rattle.queue_model.specs.declared.deeds.Deed.{Deed}
use Rattle.queue_model.specs.Sound.{IsOpening}
use Rattle.queue_model.specs.State.{entries, depth, counts, row_entries}
use Rattle.queue_model.specs.Table.{most_entries}
use Rattle.acts_core.specs.Calls.{CallDepth, IsDepth}
use Rattle.acts_core.specs.Kept.{Kept, KeptRow, keep, goods_of, at_home, NumberedFrom, Stands}
use Rattle.acts_core.specs.Serves.{MayCall, Serves}
use Rattle.acts_core.specs.Sight.{Kind}
use Rattle.history_lock.specs.declared.view.View.{View}
use Rattle.history_lock.specs.Plays.{Begins, opened}
use Rattle.history_lock.specs.Views.{Has}
use Rattle.held_table.specs.declared.view.Outset.{Outset}
use Rattle.held_table.specs.Openings.{goods_or, row_from, rows_from, open_of, outset_of, allowance_of, Opens}
use Rattle.held_table.specs.Parts.{IsFresh}
use Rattle.held_table.specs.Sights.{Sits, sight_by}
use Rattle.held_table.specs.Tales.{wide, core_tale, StandsAt, IsHistory}
use Rattle.held_table.specs.Views.{below}
use Rattle.held_table.proofs.Members.{mem_has, has_append}

row_back : (n : ℕ) (x : Row) → x.number ≡ n → x.state ≡ Available → row_from n (keep x) ≡ x
row_back n x num free =
    let goods : (if at_home x.state then Some (goods_of x) else None) ≡ Some (goods_of x) = ap (λ (s : RowState). if at_home s then Some (goods_of x) else None) free in
    λ i. record {
      number = sym num i;
      slip = x.slip;
      state = x.state;
      content = (goods_or (goods i)).content;
      origin = (goods_or (goods i)).origin;
      count = (goods_or (goods i)).count;
    }

rows_back : (n : ℕ) (xs : List Row) → NumberedFrom n xs → AllByRecursion (λ x. x.state ≡ Available) xs → rows_from n (map keep xs) ≡ xs
rows_back n [] w all = refl
rows_back n (x ∷ xs) w all = λ i. row_back n x w.0 all.0 i ∷ rows_back (suc n) xs w.1 all.1 i

map_long : {X Y : Type 0} (f : X → Y) (xs : List X) → length (map f xs) ≡ length xs
map_long f [] = refl
map_long f (x ∷ xs) = ap suc (map_long f xs)

-- all rows of an opening count, and nothing is reserved
all_count : (xs : List Row) → AllByRecursion (λ x. x.state ≡ Available) xs → sum_by row_entries xs ≡ length xs
all_count [] all = refl
all_count (x ∷ xs) all =
    let one : row_entries x ≡ 1 = ap (λ (s : RowState). if counts s then 1 else 0) all.0 in
    let rest = all_count xs all.1 in omega (arith, one, rest, Rattle.std.proofs.lemmas.List.Sums.sum_by-cons row_entries x xs)

opening_entries : (o : Queue) → IsOpening o → entries o ≡ length o.rows
opening_entries o opens =
    let rows = all_count o.rows opens.available in
    let none = ap (λ (vs : List Reservation). sum_by (λ (v : Reservation). v.entries) vs) opens.reserved in
    omega (arith, rows, none)

-- the numbers below n are below n
below_low : (c n : ℕ) → Has c (below n) → c < n
below_low c zero has = absurd has
below_low c (suc n) has = ⊎_elim
    (λ (x : Has c (below n)). let r = below_low c n x in omega (arith, r))
    (λ (x : (n ≡ c) ⊎ ⊥). ⊎_elim (λ (e : n ≡ c). omega (arith, e)) (λ (z : ⊥). absurd z) x)
    (has_append c (below n) (n ∷ []) has)

module _ (n : ℕ) (k : Kept) (o : Queue) (opens : Opens n k o) where
  pub opening_is : open_of n k ≡ o
  opening_is =
      let s = opens.stands in
      let rows : rows_from 0 k.rows ≡ o.rows = ap (rows_from 0) s.rows ∙ rows_back 0 o.rows s.numbered opens.opening.available in
      λ i. record { lists = sym opens.lists i; consumers = sym opens.consumers i; rows = rows i; reserved = sym opens.opening.reserved i; bells = sym opens.opening.bells i }

  pub long : length (open_of n k).rows ≡ length k.rows
  long = ap (λ (q : Queue). length q.rows) opening_is ∙ (sym (map_long keep o.rows) ∙ ap (λ (l : List KeptRow). length l) (sym opens.stands.rows))

  pub few : length k.rows ≤ most_entries
  few = let l = long in let e = ap (λ (q : Queue). length q.rows) opening_is in let f = opens.opening.few in omega (arith, l, e, f)

  pub history_none : IsHistory (outset_of n k) []
  history_none = record { legal = tt; quiet = λ c. refl; enders = λ h r out. let z : None ≡ Some (Rattle.queue_model.specs.declared.deeds.Act.TheVariants.Deq r) = out in absurd (cc); rows = let l = long in omega (arith, l) }

  -- its entries
  pub told_entries : (d : Depth) → d ≡ depth (wide o) → d.entries ≡ length k.rows
  told_entries d is = ap (λ (x : Depth). x.entries) is ∙ opening_entries o opens.opening ∙ sym (ap (λ (q : Queue). length q.rows) opening_is) ∙ long

  pub begins : {Q : Type 0} (keeps : Q → Kept) (core : Q) → keeps core ≡ k → Begins (core_tale keeps) (outset_of n k) core (allowance_of k) k.spare
  begins keeps core is =
      let l = long in
      let e : entries (open_of n k) ≡ length k.rows = ap entries opening_is ∙ opening_entries o opens.opening ∙ sym (ap (λ (q : Queue). length q.rows) opening_is) ∙ long in
      let f = few in
      record {
        legal = history_none;
        stands = subst (λ (x : Kept). StandsAt x (outset_of n k) []) (sym is) (record { stands = subst (λ (q : Queue). Stands k (wide q)) (sym opening_is) opens.stands; room = omega (arith, l) });
        allowed = omega (arith, e, f);
        shared = omega (arith, l);
      }

  pub sits_first : (v : View Outset Deed) → n ≤ 64 → v ≡ opened (outset_of n k) (allowance_of k) k.spare (below n) → Sits v
  sits_first v low is = subst Sits (sym is) (record {
    opening = subst IsOpening (sym opening_is) opens.opening;
    lists = refl;
    few = low;
    history = history_none;
    consumers = λ c m. below_low c n (mem_has c (below n) m);
  })

  -- of another that keeps the same, as contracts see the pass
  pub is_fresh : (kind : Kind) (old : Kept) (rows : ℕ) (v : View Outset Deed) → Opens n old o → k.spare ≡ old.spare → rows ≡ k.spare + length k.rows → v ≡ opened (outset_of n k) (allowance_of k) k.spare (below n)
      → length old.rows ≡ length k.rows → IsFresh kind old n (record { kind = kind; bells = false; rows = rows }) (sight_by 0 v)
  is_fresh kind old rows v was spare all is same = subst (λ (z : View Outset Deed). IsFresh kind old n (record { kind = kind; bells = false; rows = rows }) (sight_by 0 z)) (sym is) (record {
    build_is = λ i. record { kind = kind; bells = false; rows = (let e : rows ≡ old.spare + length old.rows = omega (arith, spare, all, same) in e i) };
    opens = subst (Opens n old) (sym opening_is) was;
    allowance = let f = few in omega (arith, same, f);
    sight = λ i. record {
      opening = open_of n k;
      caller = 0;
      consumers = below n;
      allowance = allowance_of k;
      share = spare i;
      ended = [];
      made = 1;
      seen = [];
      shown = [];
      turns = 0;
    };
  })

-- after the depth was told
module _ (n : ℕ) (kind : Kind) (old new : Kept) (o : Queue) (opens : Opens n old o) (d : Depth) (s : Serves kind old new 0 CallDepth (IsDepth d)) where
  pub may_tell : MayCall old 0 CallDepth
  may_tell = (wide o, opens.stands, tt)

  pub opens_still : Opens n new o
  opens_still = record { opening = opens.opening; lists = opens.lists; consumers = opens.consumers; stands = s.stands (wide o) opens.stands tt }

  pub spare_still : new.spare ≡ old.spare
  spare_still = let e = s.spare in omega (arith, e)

  pub tells : d.entries ≡ length old.rows
  tells = told_entries n old o opens d (s.means (wide o) opens.stands tt)

  pub long_still : length old.rows ≡ length new.rows
  long_still = sym (long n old o opens) ∙ ap (λ (q : Queue). length q.rows) (opening_is n old o opens ∙ sym (opening_is n new o opens_still)) ∙ long n new o opens_still
