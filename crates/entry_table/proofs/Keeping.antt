-- the rule after a step of one seat, from what the step says of its own seat
use Rattle.std.proofs.Common.{true, ◌≡◌, ◌≢◌, ℕ, ◌+◌, ◌<◌, ◌≤◌, List, [], ◌∷◌, ◌++◌, length, set, Option, Some, length-append, refl, sym, ap, ap₂, ◌∙◌, subst, arith, append-nil, inl}
use Rattle.std.specs.Prelude.{slice_index}
use Rattle.std.specs.List.{sum_by}
use mathlib.Core.Option as maybe
use mathlib.Core.List.{IsPrefix}
use lib.ListN.{get_elem?}
use Rattle.atomic_table.specs.Table.{State}
use Rattle.queue_model.specs.declared.deeds.Act.{Act}
use Rattle.queue_model.specs.declared.deeds.Deed.{Deed}
use Rattle.queue_model.specs.declared.queues.Queue.{Queue}
use Rattle.queue_model.specs.declared.queues.Reservation.{Reservation}
use Rattle.queue_model.specs.declared.rows.RowState.TheVariants.{Locked}
use Rattle.queue_model.specs.History.{after, Legal, own, deed}
use Rattle.acts_core.specs.Load.{Load}
use Rattle.queue_model.specs.State.{entries, IsIn, reserved_by}
use Rattle.queue_model.proofs.Histories.{own-append, own-other, after-append, legal-append, legal_rest}
use Rattle.queue_model.proofs.Prefixes.{prefix_more, prefix_self, prefix_trans}
use Rattle.queue_model.proofs.Stable.{held_stays, reserved_stays}
use Rattle.queue_model.proofs.Owns.{own_rest}
use Rattle.link_core.specs.Stands.{Stands}
use Rattle.entry_table.specs.declared.view.Shape.{Shape}
use Rattle.entry_table.specs.declared.view.View.{View}
use Rattle.entry_table.specs.Views.{Has, caller_of, takes_of, concerns, concerning, AllEnd}
use Rattle.std.proofs.lemmas.List.Elements.{filter-append}
use Rattle.entry_table.proofs.Concerning.{has_in, none_concern, all_concern}
use Rattle.entry_table.specs.Rule.{table_at, Cargoes, Knows, Drafted, Unwritten, Takes, Watches, Holds, Away, Each, RuledAt, Ruled, allowance, share}
use Rattle.entry_table.specs.Plays.{Within, Went}
use Rattle.entry_table.proofs.Frames.{takes-append, knows_set, serves_set, tells_set, reaches_set, holds_set, alone_set, counts_set}

-- what a view keeps in a step that changes neither callers nor consumers
pub record Same (v w : View) : Type 0 where
  pub shape : w.shape ≡ v.shape
  pub opening : w.opening ≡ v.opening
  pub callers : w.callers ≡ v.callers
  pub made : w.made ≡ v.made
  pub alone : w.alone ≡ v.alone
  pub consumers : w.consumers ≡ v.consumers

-- the caller's own number is among those that it speaks for
pub first_has : (l : List ℕ) (h : ℕ) (ended : List ℕ) → l ≡ h ∷ ended → Has (caller_of l) l
first_has l h ended is = subst (λ (k : List ℕ). Has (caller_of k) k) (sym is) (inl refl)

-- deeds of a caller that it did not do before, by its view
pub no_more : (shape : Shape) (O : Queue) (H : List Deed) (seats : ℕ → ℕ) (callers id : ℕ) (v : View) (k : ℕ) → Has k v.callers → (knows : Knows shape O H seats callers id v) → own k knows.prefix.0 ≡ []
no_more shape O H seats callers id v k has knows = own_rest k v.seen H [] knows.prefix ((knows.mine k has).2 ∙ sym (append-nil (own k v.seen)))

-- Takes that were not before
pub no_takes : (seen H : List Deed) (c : ℕ) (p : IsPrefix seen H) → takes_of c H ≡ takes_of c seen → takes_of c p.0 ≡ []
no_takes seen H c p same = nothing_added (takes_of c seen) (takes_of c p.0) (sym (takes-append c seen p.0) ∙ ap (takes_of c) p.1 ∙ same) where
  nothing_added : (xs ys : List Deed) → xs ++ ys ≡ xs → ys ≡ []
  nothing_added xs [] e = refl
  nothing_added xs (y ∷ ys) e = let l = ap length e in absurd (omega (arith, length-append xs (y ∷ ys), l))

-- what stands for a state of the queue keeps it within the table
pub within_table : (shape : Shape) (words : List ℕ) (drawer : ℕ → Option ℕ) (reserved : ℕ → Reservation) (q : Queue) → Stands (table_at shape words drawer reserved) q → Within shape q
within_table shape words drawer reserved q s = record {
  sound = s.sound;
  lists = sym s.shaped.lists;
  consumers = sym s.shaped.consumers;
  low = λ k x found. let b = s.draws.below k x found in let t = s.draws.top in omega (arith, b, t);
}

module _ {C : Type 0} (load : C → Load) (shape : Shape) where
  -- the rule, at the opening that the pass knows
  pub opened : (s : State (Option C) View) (id : ℕ) (v : View) (h : ℕ) (ended : List ℕ) → v.callers ≡ h ∷ ended → get_elem? s.views id ≡ maybe.some v → Ruled load shape s → RuledAt load shape v.opening s
  opened s id v h ended is at r = subst (λ (O : Queue). RuledAt load shape O s) (sym ((r.1.knows id v at).opens h (subst (Has h) (sym is) (inl refl))).0) r.1

  -- One seat steps, whose view is v.
  module _ (s : State (Option C) View) (id : ℕ) (v : View) (h : ℕ) (ended : List ℕ) (is : v.callers ≡ h ∷ ended) (at : get_elem? s.views id ≡ maybe.some v) (r : RuledAt load shape v.opening s) where
    -- the state of the queue before the step
    abbrev pub now : Queue
    now = after v.opening r.history

    abbrev pub me : ℕ
    me = caller_of v.callers

    pub knows_me : Knows shape v.opening r.history r.seats (slice_index s.words 1) id v
    knows_me = r.knows id v at

    pub has_me : Has me v.callers
    has_me = first_has v.callers h ended is

    pub after_seen : after (after v.opening v.seen) knows_me.prefix.0 ≡ now
    after_seen = sym (after-append v.opening v.seen knows_me.prefix.0) ∙ ap (after v.opening) knows_me.prefix.1

    -- a row that somebody drew is one of the table
    pub drawn_low : (j k : ℕ) → r.drawer j ≡ Some k → j < shape.rows
    drawn_low j k e = let under = r.stands.draws.low j k e in let tops = r.stands.draws.top in omega (arith, under, tops)

    pub legal_more : Legal (after v.opening v.seen) knows_me.prefix.0
    legal_more = legal_rest v.opening v.seen knows_me.prefix.0 (subst (Legal v.opening) (sym knows_me.prefix.1) r.legal)

    -- what the caller holds by its own view it holds in the whole history
    pub held_now : (k row : ℕ) → Has k v.callers → IsIn (after v.opening v.seen) row (Locked k) → IsIn now row (Locked k)
    held_now k row has held = subst (λ (q : Queue). IsIn q row (Locked k)) after_seen
        (held_stays (after v.opening v.seen) knows_me.prefix.0 k row (no_more shape v.opening r.history r.seats (slice_index s.words 1) id v k has knows_me) legal_more held)

    -- and it has reserved what it knows
    pub reserved_now : reserved_by now me ≡ reserved_by (after v.opening v.seen) me
    reserved_now = ap (λ (q : Queue). reserved_by q me) (sym after_seen)
        ∙ reserved_stays (after v.opening v.seen) knows_me.prefix.0 me (no_more shape v.opening r.history r.seats (slice_index s.words 1) id v me has_me knows_me)

    -- What a pass has seen after a step begins the history with the deeds ds, and has all in it that is its own.
    pub record Sees (ds : List Deed) (w : View) : Type 0 where
      pub prefix : IsPrefix w.seen (r.history ++ ds)
      pub mine : (k : ℕ) → Has k v.callers → own k (r.history ++ ds) ≡ own k w.seen
      pub takes : (c : ℕ) → Has c v.consumers → takes_of c (r.history ++ ds) ≡ takes_of c w.seen
      pub alone : v.alone ≡ true → w.seen ≡ r.history ++ ds

    -- it has seen all
    pub sees_all : (ds : List Deed) (w : View) → w.seen ≡ r.history ++ ds → Sees ds w
    sees_all ds w seen = record {
      prefix = subst (λ (l : List Deed). IsPrefix l (r.history ++ ds)) (sym seen) (prefix_self (r.history ++ ds));
      mine = λ k has. ap (own k) (sym seen);
      takes = λ c has. ap (takes_of c) (sym seen);
      alone = λ one. seen;
    }

    -- it has seen what it had, and did nothing
    pub sees_same : (w : View) → w.seen ≡ v.seen → Sees [] w
    sees_same w seen =
        let all : r.history ++ [] ≡ r.history = append-nil r.history in record {
          prefix = subst (λ (x : List Deed × List Deed). IsPrefix x.0 x.1) (λ i. (sym seen i, sym all i)) knows_me.prefix;
          mine = λ k has. ap (own k) all ∙ (knows_me.mine k has).2 ∙ ap (own k) (sym seen);
          takes = λ c has. ap (takes_of c) all ∙ (r.serves id v at c has).2 ∙ ap (takes_of c) (sym seen);
          alone = λ one. seen ∙ (r.alone id v at one).1 ∙ sym all;
        }

    -- What a step says of its own seat, and of the words and slots, after deeds ds of its caller.
    pub record Next (ds : List Deed) (w : View) (words : List ℕ) (homes : List (maybe.Option (Option C))) (drawer : ℕ → Option ℕ) (reserved : ℕ → Reservation) (outs enders : ℕ → ℕ) : Type 0 where
      pub seen : Sees ds w
      pub same : Same v w
      pub legal : Legal now ds
      pub mine : (k : ℕ) → me ≢ k → own k ds ≡ []
      pub bells : (c : ℕ) → r.owners c ≢ id → takes_of c ds ≡ []
      pub told : w.told ≡ []
      pub ends : AllEnd enders (r.history ++ ds)
      pub rows : length homes ≡ shape.rows
      pub callers : slice_index words 1 ≡ slice_index s.words 1
      pub stands : Stands (table_at shape words drawer reserved) (after now ds)
      pub cargoes : Cargoes load homes (after now ds)
      pub drafts : Each (Drafted words drawer) (set s.views id w)
      pub unwritten : Unwritten shape.rows words
      pub top : slice_index s.words 0 ≤ slice_index words 0
      pub reaches : w.reached ≤ slice_index words 0
      pub watches : Each (Watches shape words (after now ds)) (set s.views id w)
      pub takes : Each (Takes homes outs) (set s.views id w)
      pub held : Holds (after now ds) id w
      pub away : Away homes outs (set s.views id w)
      pub allowed : sum_by allowance (set s.views id w) + entries (after now ds) ≤ 524288
      pub shared : sum_by share (set s.views id w) + slice_index words 0 ≤ shape.rows

    pub ruled_next : (ds : List Deed) (w : View) (words : List ℕ) (homes : List (maybe.Option (Option C))) (drawer : ℕ → Option ℕ) (reserved : ℕ → Reservation) (outs enders : ℕ → ℕ)
        → Next ds w words homes drawer reserved outs enders → RuledAt load shape v.opening record { words = words; homes = homes; views = set s.views id w }
    ruled_next ds w words homes drawer reserved outs enders n =
        let H : List Deed = r.history in
        let moved : after now ds ≡ after v.opening (H ++ ds) = sym (after-append v.opening H ds) in
        let idle : (k : ℕ) → r.seats k ≢ id → own k ds ≡ [] = λ k apart. n.mine k (λ (e : me ≡ k). apart (ap r.seats (sym e) ∙ (knows_me.mine me has_me).0)) in record {
          history = H ++ ds;
          drawer = drawer;
          reserved = reserved;
          seats = r.seats;
          owners = r.owners;
          outs = outs;
          enders = enders;
          rows = n.rows;
          legal = legal-append v.opening H ds r.legal n.legal;
          stands = subst (λ (q : Queue). Stands (table_at shape words drawer reserved) q) moved n.stands;
          cargoes = subst (λ (q : Queue). Cargoes load homes q) moved n.cargoes;
          knows = subst (λ (k : ℕ). Each (Knows shape v.opening (H ++ ds) r.seats k) (set s.views id w)) (sym n.callers) (knows_set shape v.opening H ds r.seats (slice_index s.words 1) s.views id v w at idle n.seen.prefix n.seen.mine n.same.callers n.same.opening n.same.shape r.knows);
          serves = serves_set H ds r.owners shape.consumers s.views id v w at n.bells n.seen.takes n.same.consumers r.serves;
          tells = tells_set shape v.opening H ds r.seats r.owners (slice_index s.words 1) shape.consumers s.views id w idle n.bells r.knows r.serves n.told r.tells;
          drafts = n.drafts;
          unwritten = n.unwritten;
          reaches = reaches_set (slice_index s.words 0) (slice_index words 0) s.views id w n.top n.reaches r.reaches;
          watches = subst (λ (q : Queue). Each (Watches shape words q) (set s.views id w)) moved n.watches;
          takes = n.takes;
          held = subst (λ (q : Queue). Each (Holds q) (set s.views id w)) moved (holds_set shape v.opening now r.seats (slice_index s.words 1) id H ds s.views w n.legal idle r.knows n.held r.held);
          away = n.away;
          allowed = subst (λ (q : Queue). sum_by allowance (set s.views id w) + entries q ≤ 524288) moved n.allowed;
          shared = n.shared;
          ends = n.ends;
          alone = alone_set s.views H (H ++ ds) id v w at n.same.alone n.seen.alone r.alone;
          counted = subst (λ (k : ℕ). Each (Rattle.entry_table.specs.Rule.Counts k) (set s.views id w)) (sym n.callers) (counts_set (slice_index s.words 1) s.views id v w at n.same.callers n.same.made r.counted);
          later = λ k high. let high' : slice_index s.words 1 ≤ k = subst (λ (x : ℕ). x ≤ k) n.callers high in
              own-append k H ds ∙ ap₂ (λ (a b : List Deed). a ++ b) (r.later k high') (n.mine k (λ (e : me ≡ k). let under = (knows_me.mine me has_me).1 in omega arith));
        }

    -- nothing concerns the pass that it has not seen
    concern_seen : concerning v.callers v.consumers r.history ≡ concerning v.callers v.consumers v.seen
    concern_seen =
        ap (concerning v.callers v.consumers) (sym knows_me.prefix.1) ∙ filter-append (concerns v.callers v.consumers) v.seen knows_me.prefix.0
        ∙ ap (λ (l : List Deed). concerning v.callers v.consumers v.seen ++ l) (none_concern v.callers v.consumers knows_me.prefix.0
        (λ k has. no_more shape v.opening r.history r.seats (slice_index s.words 1) id v k has knows_me)
        (λ c has. no_takes v.seen r.history c knows_me.prefix (r.serves id v at c has).2)) ∙ append-nil (concerning v.callers v.consumers v.seen)

    -- The boss has seen no deed of a caller that was not made.
    none_later : (w : View) (ds : List Deed) → w.seen ≡ r.history ++ ds → ((k : ℕ) → me ≢ k → own k ds ≡ []) → me ≡ 0 → (k : ℕ) → v.made ≤ k → own k w.seen ≡ []
    none_later w ds seen mine zero_me k high =
        let zero_h : h ≡ 0 = sym (ap caller_of is) ∙ zero_me in
        let made : v.made ≡ slice_index s.words 1 = r.counted id v at ended (is ∙ ap (λ (z : ℕ). z ∷ ended) zero_h) in
        let low = (knows_me.mine me has_me).1 in
        ap (own k) seen ∙ own-append k r.history ds ∙ ap₂ (λ (a b : List Deed). a ++ b) (r.later k (omega (arith, made, high))) (mine k (λ (e : me ≡ k). omega (arith, low, made, high, e)))

    -- What the pass learns: it has seen all so far, and its own deeds.
    pub went : (w : View) (ds : List Deed) (words : List ℕ) (drawer : ℕ → Option ℕ) (reserved : ℕ → Reservation) → w.seen ≡ r.history ++ ds → Legal now ds → own me ds ≡ ds → ((k : ℕ) → me ≢ k → own k ds ≡ []) → Stands (table_at shape words drawer reserved) (after now ds) → v.reached ≤ w.reached → w.reached ≤ slice_index words 0 → Went v w ds
    went w ds words drawer reserved seen legal own_ds mine stands more most = record {
      steps = record {
        prefix = subst (λ (l : List Deed). IsPrefix v.seen l) (sym seen) (prefix_trans v.seen r.history (r.history ++ ds) knows_me.prefix (prefix_more r.history ds));
        legal = subst (Legal v.opening) (sym seen) (legal-append v.opening r.history ds r.legal legal);
        own_more = ap (own me) seen ∙ own-append me r.history ds ∙ ap₂ (λ (a b : List Deed). a ++ b) (knows_me.mine me has_me).2 own_ds;
        concern_more = ap (concerning v.callers v.consumers) seen ∙ filter-append (concerns v.callers v.consumers) r.history ds
            ∙ ap₂ (λ (a b : List Deed). a ++ b) concern_seen (all_concern v.callers v.consumers me ds (has_in me v.callers has_me) mine);
      };
      within = subst (λ (z : Shape). Within z (after v.opening w.seen)) (sym (knows_me.opens me has_me).1)
          (subst (λ (q : Queue). Within shape q) (sym (after-append v.opening r.history ds) ∙ ap (after v.opening) (sym seen)) (within_table shape words drawer reserved (after now ds) stands));
      more = more;
      most = let shaped : v.shape.rows ≡ shape.rows = ap (λ (z : Shape). z.rows) (knows_me.opens me has_me).1 in let tops = stands.draws.top in omega (arith, shaped, most, tops);
      alone = λ one. seen ∙ ap (λ (l : List Deed). l ++ ds) (sym (r.alone id v at one).1);
      bound = none_later w ds seen mine;
    }

    -- the step's one deed
    pub mine_alone : (a : Act) (k : ℕ) → me ≢ k → own k (deed me a ∷ []) ≡ []
    mine_alone a k ne = own-other k (deed me a) ne
