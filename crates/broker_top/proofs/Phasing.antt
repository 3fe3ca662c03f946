-- phases that go on, one after the other
use Rattle.std.proofs.Common.{◌≡◌, ℕ, zero, suc, ◌+◌, ◌≤◌, ◌==◌, ◌&&◌, arith, Bool, true, false, cond, Option, Some, None, List, [], ◌∷◌, ◌++◌, append-nil, append_assoc, length, map, take, filter, refl, sym, ap, ap₂, ◌∙◌, subst}
use Rattle.std.specs.List.{All, AllByRecursion, count_by, list_all}
use Rattle.std.proofs.lemmas.List.Folds.{list_all-append}
use Rattle.std.proofs.lemmas.List.Sums.{sum_by-append, sum_by-cons}
use Rattle.std.proofs.Math.Seq.{take-append_seam}
use Rattle.queue_model.specs.declared.queues.Policy.{Policy}
use Rattle.queue_model.specs.declared.queues.Policy.TheVariants as policy
use Rattle.queue_model.specs.declared.rows.Row.{Row}
use Rattle.defs_read.specs.Allowed.{HasPriorities, IsAllowed}
use Rattle.defs_read.specs.Defined.{Defined}
use Rattle.outside_io.specs.Told.{Adds}
use Rattle.outside_io.proofs.Says.{adds_then}
use Rattle.script_read.specs.Allowed.{IsAllowedPhase, all_ops, ops_in}
use Rattle.script_read.specs.Phases.{Actors}
use Rattle.script_read.specs.Scripts.{is_put_of}
use Rattle.script_read.specs.declared.lines.Op.{Op}
use Rattle.script_read.specs.declared.lines.What.{What}
use Rattle.script_read.specs.declared.lines.What.TheVariants.{Put, Take, Close, Ack, Release, Lock, Unlock, Steal, Begin, Commit, Rollback}
use Rattle.target_core.specs.Seats.{Seat, Seats, seat_at}
use Rattle.workers_core.specs.Drops.{IsServedPolicy, ServesPolicies}
use Rattle.workers_core.specs.Jobs.{puts_to}
use Rattle.workers_core.specs.Made.{IsServed, puts_in}
use Rattle.account_core.specs.Accounts.{Account, SameSeats, SameTarget}
use Rattle.account_core.specs.Carry.{handed_on}
use Rattle.account_core.specs.Counting.{puts_among, puts_on}
use Rattle.account_core.specs.Phases.{ArePhases, IsPhase, nothing, rows_after}
use Rattle.account_core.specs.Texts.{account_text, run_text}
use Rattle.account_core.proofs.Following.{phases_append, text_append}
use Rattle.phase_queues.specs.Left.{AllMayStay, rows_left}
use Rattle.phase_core.specs.Phased.{FewEntries, IdsOnce, Lefts}
use Rattle.phase_actors.specs.Cast.{HasServedOps}
use Rattle.broker_top.specs.Built.{is_built_line, is_built_policy, is_built_queue}
use Rattle.broker_top.specs.Job.{IsRunnable, Script}
use Rattle.broker_top.specs.OnePhase.{IsEmpty, Leaves, MayPlay}
use Rattle.broker_top.specs.Phases.{RanTo}
use Rattle.broker_top.specs.Puts.{all_puts, is_put}
use Rattle.command_line.proofs.Both.{both_first, both_second}

-- What is built

policy_built : (p : Policy) → is_built_policy p ≡ true → IsServedPolicy p
policy_built policy.None e = tt
policy_built policy.Ring e = tt
policy_built policy.FlowControl e = tt
policy_built policy.Reject e = tt
policy_built policy.FlowToDisk e = absurd (cc)

policies_built : (defs : List Defined) → list_all is_built_queue defs ≡ true → ServesPolicies defs
policies_built [] e q def at = absurd (cc)
policies_built (d ∷ defs) e zero def at =
    let same : d ≡ def = (cc) in
    subst (λ (x : Defined). IsServedPolicy x.limits.policy) same
    (policy_built d.limits.policy (both_first (is_built_queue d) (list_all is_built_queue defs) e))
policies_built (d ∷ defs) e (suc q) def at = policies_built defs (both_second (is_built_queue d) (list_all is_built_queue defs) e) q def at

line_built : (w : What) → is_built_line w ≡ true → IsServed w
line_built (Put q m) e = tt
line_built (Take c) e = tt
line_built (Close c) e = tt
line_built (Ack q id) e = tt
line_built (Release q id) e = tt
line_built (Lock q id) e = tt
line_built (Unlock q id) e = tt
line_built (Steal q id) e = tt
line_built Begin e = absurd (cc)
line_built Commit e = absurd (cc)
line_built Rollback e = absurd (cc)

abbrev built_ops : List Op → Bool
built_ops ops = list_all (λ (op : Op). is_built_line op.what) ops

ops_built : (ops : List Op) → built_ops ops ≡ true → AllByRecursion (λ op. IsServed op.what) ops
ops_built [] e = tt
ops_built (op ∷ ops) e = (line_built op.what (both_first (is_built_line op.what) (built_ops ops) e), ops_built ops (both_second (is_built_line op.what) (built_ops ops) e))

actors_built : (actors : Actors) → built_ops (ops_in actors) ≡ true → AllByRecursion HasServedOps actors
actors_built [] e = tt
actors_built (a ∷ actors) e =
    let parts : (built_ops a.1 && built_ops (ops_in actors)) ≡ true = sym (list_all-append (λ (op : Op). is_built_line op.what) a.1 (ops_in actors)) ∙ e in
    (ops_built a.1 (both_first (built_ops a.1) (built_ops (ops_in actors)) parts), actors_built actors (both_second (built_ops a.1) (built_ops (ops_in actors)) parts))

phases_built : (phases : List Actors) → built_ops (all_ops phases) ≡ true → AllByRecursion (λ actors. AllByRecursion HasServedOps actors) phases
phases_built [] e = tt
phases_built (p ∷ phases) e =
    let parts : (built_ops (ops_in p) && built_ops (all_ops phases)) ≡ true = sym (list_all-append (λ (op : Op). is_built_line op.what) (ops_in p) (all_ops phases)) ∙ e in
    (actors_built p (both_first (built_ops (ops_in p)) (built_ops (all_ops phases)) parts), phases_built phases (both_second (built_ops (ops_in p)) (built_ops (all_ops phases)) parts))

-- Counts

count_append : (p : Op → Bool) (xs ys : List Op) → count_by p (xs ++ ys) ≡ count_by p xs + count_by p ys
count_append p xs ys = sum_by-append (λ (op : Op). cond (p op) 1 0) xs ys

same_put : (q id : ℕ) (w : What) → puts_on q (λ i. i == id) w ≡ is_put_of q id w
same_put q id (Put r m) = refl
same_put q id (Take c) = refl
same_put q id (Close c) = refl
same_put q id (Ack r named) = refl
same_put q id (Release r named) = refl
same_put q id (Lock r named) = refl
same_put q id (Unlock r named) = refl
same_put q id (Steal r i) = refl
same_put q id Begin = refl
same_put q id Commit = refl
same_put q id Rollback = refl

same_puts : (q id : ℕ) (ops : List Op) → puts_among q (λ i. i == id) ops ≡ count_by (λ op. is_put_of q id op.what) ops
same_puts q id [] = refl
same_puts q id (op ∷ ops) =
    sum_by-cons (λ (o : Op). cond (puts_on q (λ i. i == id) o.what) 1 0) op ops
    ∙ ap₂ (λ (b : Bool) (n : ℕ). cond b 1 0 + n) (same_put q id op.what) (same_puts q id ops)
    ∙ sym (sum_by-cons (λ (o : Op). cond (is_put_of q id o.what) 1 0) op ops)

puts_few : (q : ℕ) (ops : List Op) → puts_in q ops ≤ all_puts ops
puts_few q [] = omega arith
puts_few q (op ∷ ops) = subst (λ (n : ℕ). n ≤ all_puts (op ∷ ops)) (sym (sum_by-cons (λ (o : Op). cond (puts_to q o.what) 1 0) op ops)) (by_what op.what (puts_few q ops)) where
  by_what : (w : What) → puts_in q ops ≤ all_puts ops
      → cond (puts_to q w) 1 0 + puts_in q ops ≤ length (map (λ (o : Op). o.line) (cond (is_put w) (op ∷ filter (λ (o : Op). is_put o.what) ops) (filter (λ (o : Op). is_put o.what) ops)))
  by_what (Put r m) h = by_test (r == q) where
    by_test : (b : Bool) → cond b 1 0 + puts_in q ops ≤ suc (all_puts ops)
    by_test true = omega (arith, h)
    by_test false = omega (arith, h)
  by_what (Take c) h = omega (arith, h)
  by_what (Close c) h = omega (arith, h)
  by_what (Ack r id) h = omega (arith, h)
  by_what (Release r id) h = omega (arith, h)
  by_what (Lock r id) h = omega (arith, h)
  by_what (Unlock r id) h = omega (arith, h)
  by_what (Steal r id) h = omega (arith, h)
  by_what Begin h = omega (arith, h)
  by_what Commit h = omega (arith, h)
  by_what Rollback h = omega (arith, h)

-- Phases

rows_append : (rows : List (List Row)) (accounts : List Account) (a : Account) → rows_after rows (accounts ++ a ∷ []) ≡ map handed_on a.queues
rows_append rows [] a = refl
rows_append rows (b ∷ accounts) a = rows_append (map handed_on b.queues) accounts a

pub adds_none : (w : Option (List ℕ)) → Adds w w []
adds_none None = tt
adds_none (Some x) = sym (append-nil x)

same_target : (o : Option Seat) → SameTarget o o
same_target None = tt
same_target (Some s) = (refl, refl)

pub same_seats : (seats : Seats) → SameSeats seats seats
same_seats seats c = same_target (seat_at seats c)

-- the phases in front of these ran, and queues open with these entries
pub record GoesOn (script : Script) (seats seats' : Seats) (w w' : Option (List ℕ)) (lefts : Lefts) (rest : List Actors) : Type 0 where
  pub done : List Actors
  pub parts : script.phases ≡ done ++ rest
  pub accounts : List Account
  pub are : ArePhases script.defs (nothing script.defs) seats done accounts seats'
  pub rows : rows_left lefts ≡ rows_after (nothing script.defs) accounts
  pub stay : AllMayStay script.defs lefts
  pub each : AllByRecursion (IsAllowedPhase script.defs false) rest
  pub served : AllByRecursion (λ actors. AllByRecursion HasServedOps actors) rest
  pub once : IdsOnce lefts (all_ops rest)
  pub few : FewEntries lefts (all_ops rest)
  pub told : Adds w w' (run_text script.defs accounts)

pub begins : (script : Script) (seats : Seats) (w : Option (List ℕ)) (lefts : Lefts) → IsRunnable script → IsEmpty script.defs lefts → GoesOn script seats seats w w lefts script.phases
begins script seats w lefts runs empty = record {
  done = [];
  parts = refl;
  accounts = [];
  are = refl;
  rows = empty.rows;
  stay = empty.stay;
  each = runs.phases.each;
  served = phases_built script.phases runs.lines;
  once = λ q id. omega (arith, empty.no_ids q (λ i. i == id), same_puts q id (all_ops script.phases), runs.phases.once q id);
  few = λ q. omega (arith, empty.none q, puts_few q (all_ops script.phases), runs.few);
  told = adds_none w;
}

pub begins_accounts : (script : Script) (seats : Seats) (w : Option (List ℕ)) (lefts : Lefts) (runs : IsRunnable script) (empty : IsEmpty script.defs lefts) → (begins script seats w lefts runs empty).accounts ≡ []
unfolding begins
begins_accounts script seats w lefts runs empty = refl

module _ (script : Script) (seats mid : Seats) (w w1 : Option (List ℕ)) (lefts : Lefts) (p : Actors) (rest : List Actors) (g : GoesOn script seats mid w w1 lefts (p ∷ rest)) where
  pub may_play : IsRunnable script → MayPlay script.defs lefts p
  may_play runs = record {
    allowed = runs.defs;
    policies = policies_built script.defs runs.queues;
    phase = g.each.0;
    served = g.served.0;
    stay = g.stay;
    once = λ q id. (let all = count_append (λ op. puts_on q (λ i. i == id) op.what) (ops_in p) (all_ops rest) in omega (arith, all, g.once q id));
    few = λ q. (let all = count_append (λ op. puts_to q op.what) (ops_in p) (all_ops rest) in omega (arith, all, g.few q));
  }

  next_phases : (seats' : Seats) (account : Account) → IsPhase script.defs (rows_left lefts) p account mid seats' → ArePhases script.defs (nothing script.defs) seats (g.done ++ p ∷ []) (g.accounts ++ account ∷ []) seats'
  next_phases seats' account is =
      phases_append script.defs (nothing script.defs) seats mid seats' g.done g.accounts p account g.are
      (subst (λ (rows : List (List Row)). IsPhase script.defs rows p account mid seats') g.rows is)

  next_parts : script.phases ≡ (g.done ++ p ∷ []) ++ rest
  next_parts = g.parts ∙ sym (append_assoc g.done (p ∷ []) rest)

  pub goes_on : (seats' : Seats) (w2 : Option (List ℕ)) (lefts' : Lefts) (account : Account) → Leaves script.defs lefts p mid seats' account lefts' → Adds w1 w2 (account_text script.defs account) → GoesOn script seats seats' w w2 lefts' rest
  goes_on seats' w2 lefts' account leaves adds = record {
    done = g.done ++ p ∷ [];
    parts = next_parts;
    accounts = g.accounts ++ account ∷ [];
    are = next_phases seats' account leaves.is_phase;
    rows = leaves.left ∙ sym (rows_append (nothing script.defs) g.accounts account);
    stay = leaves.stay;
    each = g.each.1;
    served = g.served.1;
    once = λ q id. (let all = count_append (λ op. puts_on q (λ i. i == id) op.what) (ops_in p) (all_ops rest) in let gains = leaves.gains.ids q (λ i. i == id) in omega (arith, all, gains, g.once q id));
    few = λ q. (let all = count_append (λ op. puts_to q op.what) (ops_in p) (all_ops rest) in omega (arith, all, leaves.gains.many q, g.few q));
    told = subst (Adds w w2) (sym (text_append script.defs g.accounts account)) (adds_then w w1 w2 (run_text script.defs g.accounts) (account_text script.defs account) g.told adds);
  }

  pub goes_on_accounts : (seats' : Seats) (w2 : Option (List ℕ)) (lefts' : Lefts) (account : Account) (leaves : Leaves script.defs lefts p mid seats' account lefts') (adds : Adds w1 w2 (account_text script.defs account)) → (goes_on seats' w2 lefts' account leaves adds).accounts ≡ g.accounts ++ account ∷ []
  unfolding goes_on
  goes_on_accounts seats' w2 lefts' account leaves adds = refl

  -- the phases in front, and this one
  pub ran_with : (seats' : Seats) (account : Account) → IsPhase script.defs (rows_left lefts) p account mid seats' → RanTo script (length (g.done ++ p ∷ [])) seats seats' (run_text script.defs g.accounts ++ account_text script.defs account)
  ran_with seats' account is = record {
    accounts = g.accounts ++ account ∷ [];
    after = seats';
    are_phases = subst (λ (phases : List Actors). ArePhases script.defs (nothing script.defs) seats phases (g.accounts ++ account ∷ []) seats') (sym (ap (take (length (g.done ++ p ∷ []))) next_parts ∙ take-append_seam (g.done ++ p ∷ []) rest)) (next_phases seats' account is);
    same = same_seats seats';
    told = sym (text_append script.defs g.accounts account);
  }

-- the phases in front of those that are left
pub ran_so_far : (script : Script) (seats mid seats' : Seats) (w w1 : Option (List ℕ)) (lefts : Lefts) (rest : List Actors) (g : GoesOn script seats mid w w1 lefts rest) → SameSeats mid seats' → RanTo script (length g.done) seats seats' (run_text script.defs g.accounts)
ran_so_far script seats mid seats' w w1 lefts rest g same = record {
  accounts = g.accounts;
  after = mid;
  are_phases = subst (λ (phases : List Actors). ArePhases script.defs (nothing script.defs) seats phases g.accounts mid) (sym (ap (take (length g.done)) g.parts ∙ take-append_seam g.done rest)) g.are;
  same = same;
  told = refl;
}

-- before the first phase
pub ran_none : (script : Script) (seats : Seats) → RanTo script 0 seats seats []
ran_none script seats = record { accounts = []; after = seats; are_phases = refl; same = same_seats seats; told = refl }
