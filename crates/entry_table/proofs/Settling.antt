-- the load that tells of the passes that were joined
use Rattle.std.proofs.Common.{◌≡◌, ℕ, ◌+◌, ◌≤◌, List, [], ◌∷◌, ◌++◌, set, Option, refl, sym, ap, ◌∙◌, subst, arith, append-nil, inl, inr}
use Rattle.std.specs.Prelude.{slice_index}
use Rattle.std.specs.List.{sum_by}
use Rattle.std.proofs.lemmas.List.{set-get_or}
use Rattle.std.proofs.lemmas.List.Elements.{filter-append}
use Rattle.atomic_table.specs.Table.{Me, keeps, Allows}
use Rattle.queue_model.specs.declared.deeds.Deed.{Deed}
use Rattle.queue_model.specs.History.{after, own}
use Rattle.acts_core.specs.Load.{Load}
use Rattle.queue_model.specs.State.{entries}
use Rattle.queue_model.proofs.Owns.{own_rest}
use Rattle.entry_table.specs.declared.view.Shape.{Shape}
use Rattle.entry_table.specs.declared.view.Told.{Told}
use Rattle.entry_table.specs.declared.view.View.{View}
use Rattle.entry_table.specs.Views.{Has, caller_of, told_of, concerns, concerning, AllEnd}
use Rattle.entry_table.specs.Rule.{IsTold, RuledAt, Ruled, allowance, share}
use Rattle.entry_table.specs.Plays.{Went, Learns, Joined, merged, settled, settled_view}
use Rattle.entry_table.proofs.Concerning.{none_concern}
use Rattle.entry_table.proofs.Frames.{sum_views, in_sum}
use Rattle.entry_table.proofs.Keeping.{opened, now, went, no_takes, first_has}
use Rattle.entry_table.proofs.Onwards.{links_same, watches_set}
use Rattle.entry_table.proofs.Looking.{plain}

learns : (H : List Deed) (v : View) (t : Told) → IsTold H v t → Learns t H
learns H v t x = record {
  prefix = x.prefix;
  callers = λ k has. (x.callers k has).1;
  consumers = λ c has. (x.consumers c has).1;
  concerned = ap (concerning t.callers t.consumers) (sym x.prefix.1) ∙ filter-append (concerns t.callers t.consumers) t.seen x.prefix.0
      ∙ ap (λ (l : List Deed). concerning t.callers t.consumers t.seen ++ l) (none_concern t.callers t.consumers x.prefix.0
      (λ k has. own_rest k t.seen H [] x.prefix ((x.callers k has).1 ∙ sym (append-nil (own k t.seen))))
      (λ c has. no_takes t.seen H c x.prefix (x.consumers c has).1)) ∙ append-nil (concerning t.callers t.consumers t.seen);
}

module _ {C : Type 0} (load : C → Load) (shape : Shape) where
  pub settles_allowed : (slots id i : ℕ) (m : Me (Option C) View) (h : ℕ) (ended : List ℕ) → m.0.callers ≡ h ∷ ended
      → Allows (Ruled load shape) slots id m i (λ n. n) (settled m)
  settles_allowed slots id i m h ended is s ruled len at low =
      let v : View = m.0 in
      let r = opened load shape s id v h ended is at ruled in
      let H : List Deed = r.history in
      let w : View = settled_view v H in
      let all : H ≡ H ++ [] = sym (append-nil H) in
      let sums = sum_views allowance s.views id v w at in
      let allowed : sum_by allowance s.views + entries (after v.opening H) ≤ 524288 = r.allowed in
      let reached = r.reaches id v at in
      let shared : sum_by share s.views + slice_index s.words 0 ≤ shape.rows = r.shared in
      let shaped : v.shape.rows ≡ shape.rows = ap (λ (z : Shape). z.rows) ((r.knows id v at).opens h (subst (Has h) (sym is) (inl refl))).1 in
      let mine = in_sum share s.views id v at in
      let shares : v.share ≤ v.shape.rows = omega (arith, shared, shaped, mine) in (
        w,
        keeps,
        tt,
        (
          v.opening,
          subst (λ (l : List ℕ). RuledAt load shape v.opening record { words = l; homes = s.homes; views = set s.views id w }) (sym (set-get_or s.words i 0))
              (plain load shape s id v h ended is at r [] w s.words r.reserved r.enders all (record { shape = refl; opening = refl; callers = refl; made = refl; alone = refl; consumers = refl }) refl refl refl (r.held id v at) refl reached tt (λ k ne. refl) (λ c ne. refl) (subst (AllEnd r.enders) all r.ends)
              refl refl (λ k x less. refl) r.stands r.cargoes (omega (arith, sums, allowed))
              (watches_set shape (now load shape s id v h ended is at r) [] s.words s.words s.views id v w at refl (links_same shape (now load shape s id v h ended is at r) s.words) r.watches)),
        ),
        (
          refl,
          went load shape s id v h ended is at r w [] s.words r.drawer r.reserved all tt refl (λ k ne. refl) r.stands (omega arith) reached,
          (λ t has. learns H v t (r.tells id v at t has)),
          shares,
          refl,
        ),
      )

-- what the load tells of two passes that were just joined
pub joined_is : {S : Type 0} (v w : View) (m m' : Me S View) (n h : ℕ) (ended : List ℕ) → v.callers ≡ h ∷ ended → m.0 ≡ merged v w → settled m n m' → Joined v w m'.0
joined_is v w m m' n h ended is e told = from_merged (subst (λ (z : View). Went z m'.0 [] × ((t : Told) → Has t z.told → Learns t m'.0.seen) × (m'.0.share ≤ z.shape.rows) × (m'.0 ≡ settled_view z m'.0.seen)) e (told.1, told.2, told.3, told.4)) where
  from_merged : Went (merged v w) m'.0 [] × ((t : Told) → Has t (merged v w).told → Learns t m'.0.seen) × (m'.0.share ≤ v.shape.rows) × (m'.0 ≡ settled_view (merged v w) m'.0.seen) → Joined v w m'.0
  from_merged x =
      let into = x.1 (told_of v) (inl refl) in record {
        went = x.0;
        mine = record {
          prefix = into.prefix;
          legal = x.0.steps.legal;
          own_more = into.callers (caller_of v.callers) (first_has v.callers h ended is) ∙ sym (append-nil (own (caller_of v.callers) v.seen));
          concern_more = into.concerned ∙ sym (append-nil (concerning v.callers v.consumers v.seen));
        };
        gone = x.1 (told_of w) (inr (inl refl));
        room = x.2;
        view = x.3;
      }
