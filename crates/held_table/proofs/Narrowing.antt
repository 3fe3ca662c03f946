-- an opening of 64 consumers with no mask bit past n of them
use Rattle.std.proofs.Common.{◌≡◌, ℕ, ◌<◌, ◌^◌, List, [], ◌∷◌, map, refl, sym, ap, ◌∙◌, subst}
use Rattle.std.specs.List.{AllByRecursion}
use Rattle.queue_model.specs.declared.queues.Queue.{Queue}
use Rattle.queue_model.specs.declared.rows.Row.{Row}
use Rattle.queue_model.specs.Sound.{IsOpening, RowFits}
use Rattle.queue_model.specs.declared.rows.Slip.{Slip}
use Rattle.acts_core.specs.Kept.{Kept, KeptRow, keep, Stands}
use Rattle.acts_core.specs.Load.{Load}
use Rattle.kept_rows.specs.Starting.{started, IsEntered}
use Rattle.held_table.specs.Openings.{Opens}
use Rattle.held_table.specs.Tales.{wide}

-- no mask has a bit past n consumers
abbrev pub MasksFit : ℕ → List KeptRow → Type 0
MasksFit n ks = AllByRecursion (λ (k : KeptRow). k.slip.mask < 2 ^ n) ks

-- the masks of entries that a queue starts with
abbrev pub AllMasks : {C : Type 0} → ℕ → List (Slip × C) → Type 0
AllMasks n [] = Unit {0}
AllMasks n (e ∷ es) = (e.0.mask < 2 ^ n) × AllMasks n es

masks_started : {C : Type 0} (load : C → Load) (n : ℕ) (es : List (Slip × C)) → AllMasks n es → MasksFit n (started load es)
masks_started load n [] all = tt
masks_started load n (e ∷ es) all = (all.0, masks_started load n es all.1)

-- those of a queue that was made with these entries fit where theirs do
pub masks_of : {C : Type 0} (load : C → Load) (n : ℕ) (k : Kept) (es fs : List (Slip × C)) → IsEntered load es k → es ≡ fs → AllMasks n fs → MasksFit n k.rows
masks_of load n k es fs made same all = subst (MasksFit n) (sym (made.rows ∙ ap (started load) same)) (masks_started load n fs all)

rows_narrow : (n : ℕ) (xs : List Row) → MasksFit n (map keep xs) → AllByRecursion (RowFits 1 64) xs → AllByRecursion (RowFits 1 n) xs
rows_narrow n [] masks fit = tt
rows_narrow n (x ∷ xs) masks fit = (record { size = fit.0.size; list = fit.0.list; mask = masks.0 }, rows_narrow n xs masks.1 fit.1)

-- it is the opening of a queue of n consumers
pub opens_narrow : (n : ℕ) (k : Kept) (q : Queue) → IsOpening q → Stands k q → MasksFit n k.rows → (o : Queue) × Opens n k o
opens_narrow n k q opening s masks =
    let o : Queue = record q { consumers = n } in
    let back : wide o ≡ q = λ i. record q { consumers = sym s.consumers i } in (
      o,
      record {
        opening = record {
          rows_apart = opening.rows_apart;
          rows_fit = subst (λ (l : ℕ). AllByRecursion (RowFits l n) q.rows) (sym s.lists)
              (rows_narrow n q.rows (subst (MasksFit n) s.rows masks) (subst (λ (z : ℕ × ℕ). AllByRecursion (RowFits z.0 z.1) q.rows) (λ i. (s.lists i, s.consumers i)) opening.rows_fit));
          available = opening.available;
          reserved = opening.reserved;
          bells = opening.bells;
          few = opening.few;
        };
        lists = s.lists;
        consumers = refl;
        stands = subst (Stands k) (sym back) s;
      },
    )

-- with another spare it stands for the same
pub opens_spare : (n : ℕ) (k new : Kept) → new ≡ record k { spare = new.spare } → (o : Queue) × Opens n k o → (o : Queue) × Opens n new o
opens_spare n k new same x = (
  x.0,
  record {
    opening = x.1.opening;
    lists = x.1.lists;
    consumers = x.1.consumers;
    stands = record {
      lists = x.1.stands.lists;
      consumers = x.1.stands.consumers;
      sound = x.1.stands.sound;
      numbered = x.1.stands.numbered;
      rows = ap (λ (z : Kept). z.rows) same ∙ x.1.stands.rows;
      depth = ap (λ (z : Kept). z.depth) same ∙ x.1.stands.depth;
    };
  },
)
