-- rows that a queue starts with
use Rattle.std.proofs.Common.{◌≡◌, ◌≢◌, ℕ, ◌+◌, ◌-◌, ◌*◌, ◌<◌, ◌≤◌, Bool, true, false, List, [], ◌∷◌, ◌++◌, length, map, find, Some, None, refl, sym, ap, ◌∙◌, subst, arith, zero, suc, length-append, append-nil, append_assoc, reverse, ne_eqb, take, drop}
use Rattle.std.specs.List.{AllByRecursion, sum_by}
use Rattle.std.proofs.lemmas.List.{map-append, reverse-append, reverse-reverse, length-reverse, take_all, drop_all}
use Rattle.std.proofs.lemmas.List.Sums.{sum_by_push, sum_by-cons}
use Rattle.queue_model.specs.declared.queues.Depth.{Depth}
use Rattle.queue_model.specs.declared.queues.Queue.{Queue}
use Rattle.queue_model.specs.declared.rows.Row.{Row}
use Rattle.queue_model.specs.declared.rows.RowState.TheVariants.{Available}
use Rattle.queue_model.specs.declared.rows.Slip.{Slip}
use Rattle.queue_model.specs.Keyed.{Apart}
use Rattle.queue_model.specs.Sound.{IsOpening, RowFits, same_number}
use Rattle.queue_model.specs.State.{is_row, row_entries, row_bytes, entries, bytes, depth}
use Rattle.queue_model.specs.Table.{most_bytes, most_entries}
use Rattle.queue_model.proofs.KeyedLemmas.{find-past}
use Rattle.queue_model.proofs.SoundSteps.{sound_opening}
use Rattle.acts_core.specs.Kept.{Kept, KeptRow, keep, NumberedFrom, Stands}
use Rattle.acts_core.specs.Load.{Load}
use Rattle.kept_rows.specs.Rows.{new_row, with_new, more_deep}
use Rattle.kept_rows.specs.Starting.{nothing_kept, room_for, MayStart, AllMayStart, started, IsEntered, IsMade}

module _ {C : Type 0} (load : C → Load) where
  -- The opening

  -- the rows of the entries, numbered from n
  abbrev rows_from : ℕ → List (Slip × C) → List Row
  rows_from n [] = []
  rows_from n (e ∷ es) =
      record { number = n; slip = e.0; state = Available; content = (load e.1).content; origin = (load e.1).origin; count = (load e.1).count } ∷ rows_from (suc n) es

  abbrev opening : List (Slip × C) → Queue
  opening es = record { lists = 1; consumers = 64; rows = rows_from 0 es; reserved = []; bells = [] }

  rows_long : (n : ℕ) (es : List (Slip × C)) → length (rows_from n es) ≡ length es
  rows_long n [] = refl
  rows_long n (e ∷ es) = ap suc (rows_long (suc n) es)

  numbered : (n : ℕ) (es : List (Slip × C)) → NumberedFrom n (rows_from n es)
  numbered n [] = tt
  numbered n (e ∷ es) = (refl, numbered (suc n) es)

  none_low : (m n : ℕ) (es : List (Slip × C)) → m < n → find (is_row m) (rows_from n es) ≡ None
  none_low m n [] l = refl
  none_low m n (e ∷ es) l = find-past (is_row m) _ (rows_from (suc n) es) (ne_eqb n m (λ z. omega arith)) ∙ none_low m (suc n) es (omega arith)

  apart : (n : ℕ) (es : List (Slip × C)) → Apart same_number (rows_from n es)
  apart n [] = tt
  apart n (e ∷ es) = (none_low n (suc n) es (omega arith), apart (suc n) es)

  fit : (n : ℕ) (es : List (Slip × C)) → AllMayStart load es → AllByRecursion (RowFits 1 64) (rows_from n es)
  fit n [] may = tt
  fit n (e ∷ es) may = (may.0.fits, fit (suc n) es may.1)

  ready : (n : ℕ) (es : List (Slip × C)) → AllByRecursion (λ x. x.state ≡ Available) (rows_from n es)
  ready n [] = tt
  ready n (e ∷ es) = (refl, ready (suc n) es)

  kept_rows : (n : ℕ) (es : List (Slip × C)) → started load es ≡ map keep (rows_from n es)
  kept_rows n [] = refl
  kept_rows n (e ∷ es) = ap (λ (l : List KeptRow). new_row e.0 (load e.1) ∷ l) (kept_rows (suc n) es)

  count_of : (n : ℕ) (es : List (Slip × C)) → sum_by row_entries (rows_from n es) ≡ length es
  count_of n [] = refl
  count_of n (e ∷ es) =
      let r = count_of (suc n) es in
      let y : Row = record { number = n; slip = e.0; state = Available; content = (load e.1).content; origin = (load e.1).origin; count = (load e.1).count } in
      let c : sum_by row_entries (y ∷ rows_from (suc n) es) ≡ 1 + sum_by row_entries (rows_from (suc n) es) = sum_by-cons row_entries y (rows_from (suc n) es) in
      c ∙ omega arith

  size_of : (n : ℕ) (es : List (Slip × C)) → sum_by row_bytes (rows_from n es) ≡ sum_by (λ e. e.0.size) es
  size_of n [] = refl
  size_of n (e ∷ es) =
      let y : Row = record { number = n; slip = e.0; state = Available; content = (load e.1).content; origin = (load e.1).origin; count = (load e.1).count } in
      let c : sum_by row_bytes (y ∷ rows_from (suc n) es) ≡ e.0.size + sum_by row_bytes (rows_from (suc n) es) = sum_by-cons row_bytes y (rows_from (suc n) es) in
      let d : sum_by (λ (x : Slip × C). x.0.size) (e ∷ es) ≡ e.0.size + sum_by (λ (x : Slip × C). x.0.size) es = sum_by-cons (λ (x : Slip × C). x.0.size) e es in
      c ∙ (ap (λ (m : ℕ). e.0.size + m) (size_of (suc n) es) ∙ sym d)

  opens : (es : List (Slip × C)) → AllMayStart load es → length es ≤ most_entries → IsOpening (opening es)
  opens es may few = record { rows_apart = apart 0 es; rows_fit = fit 0 es may; available = ready 0 es; reserved = refl; bells = refl; few = (let n = rows_long 0 es in omega arith) }

  pub made : (es : List (Slip × C)) (k : Kept) → AllMayStart load es → length es ≤ most_entries → IsEntered load es k → k.spare ≡ 0 → IsMade load es k
  made es k may few e none = record {
    entered = e;
    spare = none;
    opens = (
      opening es,
      opens es may few,
      record {
        lists = refl;
        consumers = refl;
        sound = sound_opening (opening es) (opens es may few);
        numbered = numbered 0 es;
        rows = e.rows ∙ kept_rows 0 es;
        depth =
            let x : k.depth.entries ≡ entries (opening es) = (let a = e.entries in let b = count_of 0 es in omega arith) in
            let y : k.depth.bytes ≡ bytes (opening es) = (let a = e.bytes in let b = size_of 0 es in omega arith) in
            λ i. record { entries = x i; bytes = y i };
      },
    );
  }

  -- Entries that come one by one

  -- those that have come, and those that wait, last first
  pub record Entering (all waiting : List (Slip × C)) (k : Kept) : Type 0 where
    pub done : List (Slip × C)
    pub whole : all ≡ done ++ reverse waiting
    pub entered : IsEntered load done k
    pub may : AllMayStart load (reverse waiting)
    pub few : length all ≤ most_entries
    pub small : k.depth.bytes ≤ most_bytes * k.depth.entries
    pub spare : k.spare ≡ length waiting

  pub entering_begins : (all waiting : List (Slip × C)) (k : Kept) → waiting ≡ reverse all → AllMayStart load all → length all ≤ most_entries → k ≡ room_for (length all) → Entering all waiting k
  entering_begins all waiting k turned may few is =
      let back : all ≡ reverse waiting = sym (ap reverse turned ∙ reverse-reverse all) in
      let long : length waiting ≡ length all = ap length turned ∙ length-reverse all in
      let spare : k.spare ≡ length all = ap (λ (z : Kept). z.spare) is in
      let none : k.depth.bytes ≡ 0 = ap (λ (z : Kept). z.depth.bytes) is in record {
        done = [];
        whole = back;
        entered = record { rows = ap (λ (z : Kept). z.rows) is; entries = ap (λ (z : Kept). z.depth.entries) is; bytes = none };
        may = subst (AllMayStart load) back may;
        few = few;
        small = omega arith;
        spare = spare ∙ sym long;
      }

  -- the next one
  pub record Next (all left : List (Slip × C)) (k : Kept) (slip : Slip) (c : C) : Type 0 where
    pub may : MayStart load slip c
    pub few : k.depth.entries < most_entries
    pub small : k.depth.bytes ≤ most_bytes * k.depth.entries
    pub spare : 0 < k.spare
    pub goes : Entering all left (record (with_new k (k.spare - 1) slip (load c)) { depth = more_deep k.depth slip.size })

  pub entering_next : (all old left : List (Slip × C)) (k : Kept) (slip : Slip) (c : C) → old ≡ left ++ (slip, c) ∷ [] → Entering all old k → Next all left k slip c
  entering_next all old left k slip c last g =
      let front : reverse old ≡ (slip, c) ∷ reverse left = ap reverse last ∙ reverse-append left ((slip, c) ∷ []) in
      let whole : all ≡ g.done ++ (slip, c) ∷ reverse left = g.whole ∙ ap (λ (l : List (Slip × C)). g.done ++ l) front in
      let may = subst (AllMayStart load) front g.may in
      let long = length-append g.done ((slip, c) ∷ reverse left) in
      let all_long = ap (λ (l : List (Slip × C)). length l) whole in
      let few = g.few in
      let entries = g.entered.entries in
      let less : k.depth.entries < most_entries = omega arith in
      let small = g.small in
      let size = may.0.fits.size in
      let waits : length old ≡ length left + 1 = ap (λ (l : List (Slip × C)). length l) last ∙ length-append left ((slip, c) ∷ []) in
      let spare = g.spare in record {
        may = may.0;
        few = less;
        small = small;
        spare = omega arith;
        goes = record {
          done = g.done ++ (slip, c) ∷ [];
          whole = whole ∙ sym (append_assoc g.done ((slip, c) ∷ []) (reverse left));
          entered = record {
            rows = ap (λ (l : List KeptRow). l ++ new_row slip (load c) ∷ []) g.entered.rows ∙ sym (map-append (λ (e : Slip × C). new_row e.0 (load e.1)) g.done ((slip, c) ∷ []));
            entries = (let n = length-append g.done ((slip, c) ∷ []) in omega arith);
            bytes = (let b = g.entered.bytes in let s = sum_by_push (λ (e : Slip × C). e.0.size) g.done (slip, c) in omega arith);
          };
          may = may.1;
          few = few;
          small = omega arith;
          spare = omega arith;
        };
      }

  pub entering_ends : (all left : List (Slip × C)) (k : Kept) → left ≡ [] → Entering all left k → IsEntered load all k × (k.spare ≡ 0)
  entering_ends all left k none g =
      let whole : all ≡ g.done = g.whole ∙ (ap (λ (l : List (Slip × C)). g.done ++ reverse l) none ∙ append-nil g.done) in
      (subst (λ (l : List (Slip × C)). IsEntered load l k) (sym whole) g.entered, g.spare ∙ ap (λ (l : List (Slip × C)). length l) none)

-- the items of a vector that was turned round
pub turned_items : {X : Type 0} (items new : List X) (len : ℕ) → length items ≡ len → new ≡ reverse items → take len (new ++ drop (length new) items) ≡ reverse items
turned_items items new len long e =
    let same : length new ≡ length items = ap length e ∙ length-reverse items in
    ap (λ (l : List _). take len (new ++ l)) (drop_all (length new) items (omega (arith, same))) ∙ (ap (take len) (append-nil new) ∙ (take_all len new (omega (arith, same, long)) ∙ e))

-- a list that has no length has nothing
pub no_items : {X : Type 0} (xs : List X) → length xs ≡ 0 → xs ≡ []
no_items [] e = refl
no_items (x ∷ xs) e = absurd (omega arith)
