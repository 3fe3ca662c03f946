-- names, and lists that are empty
use Rattle.std.proofs.Common.{◌≡◌, ℕ, zero, suc, ◌+◌, arith, Bool, Option, Some, None, List, [], ◌∷◌, ◌++◌, length, map, slice_get, Vec, refl, sym, ap, ap₂, ◌∙◌, subst}
use Rattle.std.specs.declared.alloc.Global.{Global}
use Rattle.std.specs.List.{AllByRecursion, count_by}
use Rattle.acts_core.specs.declared.cargoes.RestEntry.{RestEntry}
use Rattle.defs_read.specs.Defined.{Defined, defined}
use Rattle.defs_read.specs.declared.defs.QueueDef.{QueueDef}
use Rattle.queue_model.specs.declared.rows.Row.{Row}
use Rattle.script_read.specs.declared.lines.Op.{Op}
use Rattle.txn_core.specs.declared.parcels.Parcel.{Parcel}
use Rattle.account_core.specs.Phases.{nothing}
use Rattle.account_core.specs.Texts.{queue_names}
use Rattle.phase_core.specs.Phased.{Lefts}
use Rattle.acts_core.specs.Sight as kinds
use Rattle.acts_core.specs.Sight.{Kind}
use Rattle.any_queue.specs.Parting.{StartsApart, kind_of}
use Rattle.phase_queues.specs.Left.{AllMayStay, MayGoOn, goods_left, ids_left, many_left, row_left, rows_left}
use Rattle.broker_top.specs.OnePhase.{IsEmpty}

pub names_of : (queues : List QueueDef) → map (λ q. q.name) queues ≡ queue_names (map defined queues)
names_of [] = refl
names_of (q ∷ queues) = ap (λ (names : List (List ℕ)). q.name ∷ names) (names_of queues)

pub actors_named : (actors : List (List ℕ × Vec Op Global)) → map (λ (a : List ℕ × Vec Op Global). a.0) actors ≡ map (λ (a : List ℕ × List Op). a.0) (map (λ (a : List ℕ × Vec Op Global). (a.0, a.1.items)) actors)
actors_named [] = refl
actors_named (a ∷ actors) = ap (λ (names : List (List ℕ)). a.0 ∷ names) (actors_named actors)

-- each list is empty
abbrev pub AreEmpty : Lefts → Type 0
AreEmpty lefts = AllByRecursion (λ es. es.items ≡ []) lefts

pub one_more : (lefts : Lefts) (es : Vec (RestEntry Parcel) Global) → AreEmpty lefts → es.items ≡ [] → AreEmpty (lefts ++ es ∷ [])
one_more [] es all none = (none, tt)
one_more (l ∷ lefts) es all none = (all.0, one_more lefts es all.1 none)

rows_none : (defs : List Defined) (lefts : Lefts) → length lefts ≡ length defs → AreEmpty lefts → rows_left lefts ≡ nothing defs
rows_none [] [] e all = refl
rows_none [] (l ∷ lefts) e all = absurd (omega (arith, e))
rows_none (d ∷ defs) [] e all = absurd (omega (arith, e))
rows_none (d ∷ defs) (l ∷ lefts) e all = ap₂ (λ (x : List Row) (xs : List (List Row)). x ∷ xs) (ap (map row_left) all.0) (rows_none defs lefts (omega (arith, e)) all.1)

none_apart : (kind : Kind) → StartsApart kind (goods_left [])
none_apart kinds.Listed = tt
none_apart kinds.Sorted = tt
none_apart kinds.LastValue = λ i j less low. absurd (omega (arith, low))

stay_none : (defs : List Defined) (lefts : Lefts) → length lefts ≡ length defs → AreEmpty lefts → AllMayStay defs lefts
stay_none [] [] e all = tt
stay_none [] (l ∷ lefts) e all = absurd (omega (arith, e))
stay_none (d ∷ defs) [] e all = absurd (omega (arith, e))
stay_none (d ∷ defs) (l ∷ lefts) e all = (
  subst (MayGoOn d) (sym all.0) (record { each = tt; apart = none_apart (kind_of d.kind) }),
  stay_none defs lefts (omega (arith, e)) all.1,
)

ids_none : (lefts : Lefts) (q : ℕ) (test : ℕ → Bool) → AreEmpty lefts → ids_left q test lefts ≡ 0
ids_none [] q test all = refl
ids_none (l ∷ lefts) zero test all = ap (count_by (λ (e : RestEntry Parcel). test e.slip.id)) all.0
ids_none (l ∷ lefts) (suc q) test all = ids_none lefts q test all.1

many_none : (lefts : Lefts) (q : ℕ) → AreEmpty lefts → many_left q lefts ≡ 0
many_none [] q all = refl
many_none (l ∷ lefts) zero all = ap (λ (es : List (RestEntry Parcel)). length es) all.0
many_none (l ∷ lefts) (suc q) all = many_none lefts q all.1

pub is_empty : (defs : List Defined) (lefts : Lefts) → length lefts ≡ length defs → AreEmpty lefts → IsEmpty defs lefts
is_empty defs lefts e all = record {
  rows = rows_none defs lefts e all;
  stay = stay_none defs lefts e all;
  no_ids = λ q test. ids_none lefts q test all;
  none = λ q. many_none lefts q all;
}
