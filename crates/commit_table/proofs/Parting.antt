-- Tables that are made, and passes that part and join.
use Rattle.std.proofs.Common.{◌≡◌, ◌≤◌, ◌+◌, ℕ, List, ◌∷◌, ◌++◌, ap, ◌∙◌, subst, arith, Some}
use Rattle.std.specs.Prelude.{Option, IfSome}
use Rattle.disk_core.specs.declared.trails.Trail.{Trail}
use Rattle.disk_core.specs.Images.{IsTold}
use Rattle.journal_format.specs.Spelling.{Txn}
use Rattle.journal_format.specs.declared.events.Event.{Event}
use Rattle.journal_core.specs.declared.journal.Trust.TheVariants.{Clean}
use Rattle.journal_core.specs.Stands.{Stands}
use Rattle.history_lock.specs.declared.view.View.{View}
use Rattle.history_lock.specs.Plays.{Live, Looked, Begins, merged}
use Rattle.commit_table.specs.declared.begun.Begun.{Begun}
use Rattle.commit_table.specs.declared.desk.Desk.{Desk}
use Rattle.commit_table.specs.Tale.{commit_tale}
use Rattle.commit_table.specs.Passes.{begun_in, begun_of, rest_of}
use Rattle.commit_table.specs.Tables.{DidJoin}
use Rattle.commit_table.proofs.Beginning.{carries_first}

module _ {D : Type 0} (seen : D → Option (List ℕ)) (images : D → List ℕ → Type 0) (moment : D → ℕ) (since : D → ℕ → List ℕ → Type 0) (trail : D → Option Trail) (faults syncs : D → ℕ) where
  -- a desk that comes into the lock
  pub begins_desk : (only_now : (d : D) (c : List ℕ) → since d (moment d) c → images d c) (from_later : (d : D) (t u : ℕ) (c : List ℕ) → t ≤ u → since d u c → since d t c) (desk : Desk D) (C A : List Txn) (callers tickets each : ℕ)
      → desk.journal.trust ≡ Clean → Stands (images desk.journal.disk) desk.journal.gate desk.journal.trust C A → IfSome (seen desk.journal.disk) (images desk.journal.disk) → ((c : List ℕ) → images desk.journal.disk c → IsTold (seen desk.journal.disk))
      → desk.count ≡ 0 → each + 13 ≤ desk.scratch.room → tickets ≤ 4294967295
      → Begins (commit_tale seen images moment since trail faults syncs) (begun_of seen moment trail faults syncs desk.journal callers tickets each) desk 0 tickets
  begins_desk only_now from_later desk C A callers tickets each clean s reads tells none room few = record {
    legal = tt;
    stands = record { carries = carries_first seen images moment since trail faults syncs only_now from_later desk.journal C A callers tickets each clean s reads tells; room = room; count = none; few = few };
    allowed = omega arith;
    shared = omega arith;
  }

  -- a pass that another was joined into is alive
  pub live_merged : (v w m : View Begun Event) (caller : ℕ) → m ≡ merged v w → (v.opening ≡ Some (begun_in v)) × (v.callers ≡ caller ∷ rest_of v.callers) → (b : Begun) × Live b m
  live_merged v w m caller is l = (
    begun_in v,
    record {
      opening = ap (λ (x : View Begun Event). x.opening) is ∙ l.0;
      caller = caller;
      ended = rest_of v.callers ++ w.callers;
      speaks = ap (λ (x : View Begun Event). x.callers) is ∙ ap (λ (ks : List ℕ). ks ++ w.callers) l.1;
    },
  )

  -- what a look tells of the two
  pub joined_by : (v w m u : View Begun Event) → m ≡ merged v w → Looked (commit_tale seen images moment since trail faults syncs) (begun_in v) m u → DidJoin seen images moment since trail faults syncs v w u
  joined_by v w m u is looked =
      let x : Looked (commit_tale seen images moment since trail faults syncs) (begun_in v) (merged v w) u = subst (λ (y : View Begun Event). Looked (commit_tale seen images moment since trail faults syncs) (begun_in v) y u) is looked in
      let view = x.waited.view in
      record {
        mine = record { prefix = x.learned.0.prefix; same = x.learned.0.same };
        theirs = record { prefix = x.learned.1.0.prefix; same = x.learned.1.0.same };
        legal = x.legal;
        callers = ap (λ (y : View Begun Event). y.callers) view;
        share = ap (λ (y : View Begun Event). y.share) view;
        within = (
            let same : u.share ≡ v.share + w.share = ap (λ (y : View Begun Event). y.share) view in
            let most : (begun_in u).tickets ≡ (begun_in v).tickets = ap (λ (y : View Begun Event). (begun_in y).tickets) view in
            let shared = x.shared in
            omega (arith, same, most, shared)
            );
        made = ap (λ (y : View Begun Event). y.made) view;
        turns = ap (λ (y : View Begun Event). y.turns) view;
        opening = ap (λ (y : View Begun Event). y.opening) view;
      }

  pub joined_share : (v w m u : View Begun Event) → m ≡ merged v w → Looked (commit_tale seen images moment since trail faults syncs) (begun_in v) m u → u.share ≤ (begun_in v).tickets
  joined_share v w m u is looked =
      let same : u.share ≡ m.share = ap (λ (y : View Begun Event). y.share) looked.waited.view in
      let s = looked.shared in
      omega (arith, same, s)
