-- entries that queues of all kinds start with
use Rattle.std.proofs.Common.{◌≡◌, ℕ, ◌+◌, ◌<◌, ◌≤◌, ◌^◌, Bool, false, true, if◌then◌else◌, Some, None, Option, List, [], ◌∷◌, length, map, refl, sym, ap, ◌∙◌, subst, arith}
use Rattle.std.specs.List.{AllByRecursion}
use Rattle.std.proofs.Math.Pow.{pow_mono}
use Rattle.std.proofs.lemmas.List.{length-map}
use Rattle.queue_model.specs.declared.queues.Queue.{Queue}
use Rattle.queue_model.specs.declared.rows.Row.{Row}
use Rattle.queue_model.specs.declared.rows.RowState.{RowState}
use Rattle.queue_model.specs.declared.rows.RowState.TheVariants.{Available}
use Rattle.queue_model.specs.declared.rows.Slip.{Slip}
use Rattle.queue_model.specs.Sound.{IsOpening}
use Rattle.acts_core.specs.Kept.{Kept, KeptRow, Goods, Stands, at_home, goods_of, keep}
use Rattle.acts_core.specs.Load.{Load}
use Rattle.acts_core.specs.Sight.{Kind, Listed, Build, Sight}
use Rattle.entry_table.specs.Starting as listed
use Rattle.held_table.specs.Openings.{Opens, goods_or}
use Rattle.held_table.specs.Parts as held
use Rattle.held_table.proofs.Narrowing.{AllMasks, masks_of, opens_narrow, opens_spare}
use Rattle.kept_rows.specs.Rows.{new_row}
use Rattle.kept_rows.specs.Starting as kept
use Rattle.any_queue.specs.Kinds.{built, rings}
use Rattle.any_queue.specs.Parting.{AllMayStart, IsFresh, MayStart}
use Rattle.any_queue.proofs.Numbers.{below_same}

module _ {C : Type 0} (load : C → Load) where
  -- what a listed queue may start with
  pub start_listed : (lists consumers : ℕ) (es : List (Slip × C)) → AllMayStart load Listed lists consumers es → listed.AllMayStart load lists consumers es
  start_listed lists consumers [] all = tt
  start_listed lists consumers (e ∷ es) all =
      (record { fits = all.0.fits; key = all.0.key; id = all.0.id; size = all.0.size }, start_listed lists consumers es all.1)

  -- what a one-thread queue may start with
  pub start_held : (kind : Kind) (n : ℕ) (es : List (Slip × C)) → n ≤ 64 → AllMayStart load kind 1 n es → kept.AllMayStart load es
  start_held kind n [] few all = tt
  start_held kind n (e ∷ es) few all =
      let wide : 2 ^ n ≤ 2 ^ 64 = pow_mono few in
      let mask = all.0.fits.mask in (
        record {
          fits = record { size = all.0.fits.size; list = all.0.fits.list; mask = omega (arith, wide, mask) };
          id = all.0.id;
          size = all.0.size;
        },
        start_held kind n es few all.1,
      )

  start_masks : (kind : Kind) (n : ℕ) (es : List (Slip × C)) → AllMayStart load kind 1 n es → AllMasks n es
  start_masks kind n [] all = tt
  start_masks kind n (e ∷ es) all = (all.0.fits.mask, start_masks kind n es all.1)

  -- an available row of which this is kept is the entry
  row_started : (kind : Kind) (n : ℕ) (slip : Slip) (c : C) (x : Row) → x.state ≡ Available → keep x ≡ new_row slip (load c) → MayStart load kind 1 n slip c → listed.IsStarted load slip c x
  row_started kind n slip c x free same may =
      let slip_is : x.slip ≡ slip = ap (λ (k : KeptRow). k.slip) same in
      let home : ◌≡◌ {A = Option Goods} (if at_home x.state then Some (goods_of x) else None) (Some (goods_of x)) =
      ap (λ (s : RowState). let o : Option Goods = if at_home s then Some (goods_of x) else None in o) free
      in
      let goods : Some (goods_of x) ≡ (new_row slip (load c)).goods = sym home ∙ ap (λ (k : KeptRow). k.goods) same in
      let content : x.content ≡ (load c).content = ap (λ (o : Option Goods). (goods_or o).content) goods in
      let origin : x.origin ≡ (load c).origin = ap (λ (o : Option Goods). (goods_or o).origin) goods in
      let count : x.count ≡ (load c).count = ap (λ (o : Option Goods). (goods_or o).count) goods in
      record {
        slip_is = slip_is;
        state = free;
        same = record {
          id = may.id ∙ ap (λ (s : Slip). s.id) (sym slip_is);
          size = may.size ∙ ap (λ (s : Slip). s.size) (sym slip_is);
          count = sym count;
          content = sym content;
          origin = sym origin;
        };
      }

  rows_started : (kind : Kind) (n : ℕ) (es : List (Slip × C)) (xs : List Row) → AllByRecursion (λ (x : Row). x.state ≡ Available) xs → map keep xs ≡ kept.started load es → AllMayStart load kind 1 n es → listed.AreStarted load es xs
  rows_started kind n [] [] free same may = tt
  rows_started kind n [] (x ∷ xs) free same may = absurd (cc)
  rows_started kind n (e ∷ es) [] free same may = absurd (cc)
  rows_started kind n (e ∷ es) (x ∷ xs) free same may =
      let first : keep x ≡ new_row e.0 (load e.1) = cc in
      let rest : map keep xs ≡ kept.started load es = cc in
      (row_started kind n e.0 e.1 x free.0 first may.0, rows_started kind n es xs free.1 rest may.1)

  -- A one-thread queue was made with these entries, and then it got this spare.
  module _ (kind : Kind) (n spare : ℕ) (es : List (Slip × C)) (old new : Kept) (made : kept.IsMade load es old) (grown : new ≡ record old { spare = spare }) (may : AllMayStart load kind 1 n es) where
    pub opens_grown : (o : Queue) × Opens n new o
    opens_grown =
        let same : new ≡ record old { spare = new.spare } = grown ∙ ap (λ (m : ℕ). record old { spare = m }) (sym (ap (λ (k : Kept). k.spare) grown)) in
        opens_spare n old new same (opens_narrow n old made.opens.0 made.opens.1 made.opens.2 (masks_of load n old es es made.entered refl (start_masks kind n es may)))

    rows_grown : new.rows ≡ kept.started load es
    rows_grown = ap (λ (k : Kept). k.rows) grown ∙ made.entered.rows

    long_grown : length new.rows ≡ length es
    long_grown = ap (λ (ks : List KeptRow). length ks) rows_grown ∙ length-map es (λ (e : Slip × C). new_row e.0 (load e.1))

    pub fresh_grown : (rows : ℕ) (build : Build) (s : Sight) → rings kind ≡ false → spare + length es ≡ rows → held.IsFresh kind new n build s → IsFresh load kind 1 rows n es build s
    fresh_grown rows build s silent room f =
        let long = long_grown in
        let spare_is : new.spare ≡ spare = ap (λ (k : Kept). k.spare) grown in
        let rows_is : new.spare + length new.rows ≡ rows = omega (arith, long, spare_is, room) in
        let allowance = f.allowance in
        let share : s.share ≡ new.spare = ap (λ (z : Sight). z.share) f.sight in
        record {
          build_is = f.build_is ∙ (λ i. record { kind = kind; bells = sym silent i; rows = rows_is i });
          lists_is = f.opens.lists;
          consumers_is = f.opens.consumers;
          opened = f.opens.opening;
          started = rows_started kind n es s.opening.rows f.opens.opening.available (sym f.opens.stands.rows ∙ rows_grown) may;
          allowance = omega (arith, allowance, long);
          share = omega (arith, share, spare_is, room);
          sight = f.sight ∙ (λ i. record {
            opening = s.opening;
            caller = 0;
            consumers = below_same n i;
            allowance = s.allowance;
            share = sym share i;
            ended = [];
            made = 1;
            seen = [];
            shown = [];
            turns = 0;
          });
        }
