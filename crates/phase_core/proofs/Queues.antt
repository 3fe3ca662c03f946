-- the queues of a phase, from their openings to what their bosses know in the end
use Rattle.std.proofs.Common.{◌≡◌, ℕ, zero, suc, Some, List, [], ◌∷◌, map, slice_get, refl, sym, ap, ◌∙◌, subst}
use Rattle.std.proofs.lemmas.Option.{same_Some}
use Rattle.queue_model.specs.declared.queues.Queue.{Queue}
use Rattle.queue_model.specs.declared.rows.Row.{Row}
use Rattle.acts_core.specs.Sight.{plan_of}
use Rattle.txn_core.specs.declared.parcels.Parcel.{Parcel}
use Rattle.defs_read.specs.Defined.{Defined}
use Rattle.any_queue.specs.declared.kinds.AnyPass.{AnyPass}
use Rattle.any_queue.specs.declared.kinds.AnyQueue.{AnyQueue}
use Rattle.any_queue.specs.Kinds.{build_in, sight_in}
use Rattle.account_core.specs.Carry.{Opens}
use Rattle.account_core.specs.Phases.{AllOpen}
use Rattle.account_core.specs.Played.{Played}
use Rattle.phase_queues.specs.Opened.{all_played, played}

-- Openings

-- a queue opens as it did, whatever its boss came to know
pub open_later : {R : Type 0} (defs : List Defined) (rows : List (List Row)) (queues : List (AnyQueue Parcel R)) (opened lasts : List AnyPass)
    → map (λ s. s.opening) (map sight_in lasts) ≡ map (λ s. s.opening) (map sight_in opened)
    → AllOpen defs rows (all_played queues opened) → AllOpen defs rows (all_played queues lasts)
open_later defs rows [] opened lasts same opens = opens
open_later defs rows (queue ∷ queues) [] [] same opens = opens
open_later defs rows (queue ∷ queues) [] (l ∷ lasts) same opens = absurd (cc)
open_later defs rows (queue ∷ queues) (o ∷ opened) [] same opens = absurd (cc)
open_later [] [] (queue ∷ queues) (o ∷ opened) (l ∷ lasts) same opens = absurd opens
open_later [] (row ∷ rows) (queue ∷ queues) (o ∷ opened) (l ∷ lasts) same opens = absurd opens
open_later (def ∷ defs) [] (queue ∷ queues) (o ∷ opened) (l ∷ lasts) same opens = absurd opens
open_later (def ∷ defs) (row ∷ rows) (queue ∷ queues) (o ∷ opened) (l ∷ lasts) same opens =
    let first : (sight_in l).opening ≡ (sight_in o).opening = (cc) in
    let others : map (λ s. s.opening) (map sight_in lasts) ≡ map (λ s. s.opening) (map sight_in opened) = (cc) in (
      subst (λ (z : Queue). Opens def row (plan_of (build_in queue) z)) (sym first) opens.0,
      open_later defs rows queues opened lasts others opens.1,
    )

-- the queue and the boss of one of them
pub record PlayedBy {R : Type 0} (queues : List (AnyQueue Parcel R)) (bosses : List AnyPass) (q : ℕ) (p : Played) : Type 0 where
  pub queue : AnyQueue Parcel R
  pub boss : AnyPass
  pub queue_at : slice_get queues q ≡ Some queue
  pub boss_at : slice_get bosses q ≡ Some boss
  pub is : played queue boss ≡ p

pub played_by : {R : Type 0} (queues : List (AnyQueue Parcel R)) (bosses : List AnyPass) (q : ℕ) (p : Played) → slice_get (all_played queues bosses) q ≡ Some p → PlayedBy queues bosses q p
played_by [] bosses q p at = absurd (cc)
played_by (queue ∷ queues) [] q p at = absurd (cc)
played_by (queue ∷ queues) (boss ∷ bosses) zero p at = record { queue = queue; boss = boss; queue_at = refl; boss_at = refl; is = same_Some (played queue boss) p at }
played_by (queue ∷ queues) (boss ∷ bosses) (suc q) p at =
    let later = played_by queues bosses q p at in
    record { queue = later.queue; boss = later.boss; queue_at = later.queue_at; boss_at = later.boss_at; is = later.is }

pub played_at : {R : Type 0} (queues : List (AnyQueue Parcel R)) (bosses : List AnyPass) (q : ℕ) (queue : AnyQueue Parcel R) (boss : AnyPass) → slice_get queues q ≡ Some queue → slice_get bosses q ≡ Some boss → slice_get (all_played queues bosses) q ≡ Some (played queue boss)
played_at [] bosses q queue boss at_q at_b = absurd (cc)
played_at (x ∷ queues) [] q queue boss at_q at_b = absurd (cc)
played_at {R} (x ∷ queues) (y ∷ bosses) zero queue boss at_q at_b =
    let same : x ≡ queue = same_Some x queue at_q in
    let mine : y ≡ boss = same_Some y boss at_b in
    ap Some (ap (λ (z : AnyQueue Parcel R). played z y) same ∙ ap (λ (z : AnyPass). played queue z) mine)
played_at (x ∷ queues) (y ∷ bosses) (suc q) queue boss at_q at_b = played_at queues bosses q queue boss at_q at_b

-- how one of them opened
pub record OpensAt (defs : List Defined) (rows : List (List Row)) (q : ℕ) (p : Played) : Type 0 where
  pub def : Defined
  pub row : List Row
  pub def_at : slice_get defs q ≡ Some def
  pub row_at : slice_get rows q ≡ Some row
  pub opens : Opens def row p.plan

pub opens_at : (defs : List Defined) (rows : List (List Row)) (queues : List Played) (q : ℕ) (p : Played) → AllOpen defs rows queues → slice_get queues q ≡ Some p → OpensAt defs rows q p
opens_at [] rows [] q p opens at = absurd (cc)
opens_at (def ∷ defs) rows [] q p opens at = absurd (cc)
opens_at [] [] (x ∷ queues) q p opens at = absurd opens
opens_at [] (row ∷ rows) (x ∷ queues) q p opens at = absurd opens
opens_at (def ∷ defs) [] (x ∷ queues) q p opens at = absurd opens
opens_at (def ∷ defs) (row ∷ rows) (x ∷ queues) zero p opens at = record {
  def = def;
  row = row;
  def_at = refl;
  row_at = refl;
  opens = subst (λ (z : Played). Opens def row z.plan) (same_Some x p at) opens.0;
}
opens_at (def ∷ defs) (row ∷ rows) (x ∷ queues) (suc q) p opens at =
    let later = opens_at defs rows queues q p opens.1 at in
    record { def = later.def; row = later.row; def_at = later.def_at; row_at = later.row_at; opens = later.opens }
