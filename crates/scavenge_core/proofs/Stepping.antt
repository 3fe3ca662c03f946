-- steps over runs of deleted rows
use Rattle.std.proofs.Common.{◌≡◌, ◌≢◌, ◌⊎◌, inl, inr, ℕ, zero, suc, ◌+◌, ◌-◌, ◌*◌, ◌<◌, ◌≤◌, true, false, Option, Some, None, List, [], ◌∷◌, ◌++◌, length, refl, sym, ap, ◌∙◌, subst, ⊎_elim, arith, append_assoc, append-nil}
use Rattle.std.proofs.lemmas.Bool.{cases_order}
use Rattle.queue_model.specs.declared.deeds.Deed.{Deed}
use Rattle.queue_model.specs.declared.queues.Queue.{Queue}
use Rattle.queue_model.specs.declared.rows.Row.{Row}
use Rattle.queue_model.specs.declared.rows.RowState.TheVariants.{Deleted}
use Rattle.queue_model.specs.declared.steps.DraftWord.TheVariants as drafts
use Rattle.queue_model.specs.declared.steps.Node.TheVariants as nodes
use Rattle.queue_model.specs.declared.steps.Step.{Step}
use Rattle.queue_model.specs.declared.steps.Step.TheVariants as steps
use Rattle.queue_model.specs.declared.steps.Tried.{Tried}
use Rattle.queue_model.specs.declared.steps.WordName.TheVariants as wordnames
use Rattle.queue_model.specs.History.{after, Legal}
use Rattle.queue_model.specs.Packing.{pack_state}
use Rattle.queue_model.specs.State.{is_row, row_at, rows_of, list_at, place_at, IsIn}
use Rattle.queue_model.proofs.KeyedLemmas.{find-here, find-append}
use Rattle.queue_model.proofs.Orders.{place_same}
use Rattle.queue_model.proofs.Prefixes.{prefix_self, prefix_trans}
use Rattle.queue_model.proofs.RowFacts.{row_number}
use Rattle.queue_model.proofs.SoundSteps.{list_found, row_fits}
use Rattle.queue_model.proofs.Stable.{found_in_list}
use Rattle.link_core.proofs.Fewer.{position_in}
use Rattle.link_core.proofs.Packing.{pack_same}
use Rattle.acts_core.specs.Sight.{on_head}
use Rattle.acts_core.specs.Steps.{NoHead}
use Rattle.acts_core.specs.Walks.{node_at, reach, IsOfList, IsStop, AreDeleted, FollowsTo}
use Rattle.acts_core.proofs.Stepping.{no_head-append}
use Rattle.entry_table.specs.declared.entries.Entries.{Entries}
use Rattle.entry_table.specs.declared.pass.Pass.{Pass}
use Rattle.entry_table.specs.declared.view.Shape.{Shape}
use Rattle.entry_table.specs.Passes.{IsPassOf, Kept, Did, KeepsRights, opening, seen, shown, state, view}
use Rattle.entry_table.specs.Plays.{Shows}
use Rattle.entry_table.specs.Rule.{IsOnward}
use Rattle.entry_table.specs.Sights.{sight}
use Rattle.entry_table.specs.Skips.{watched, watch_of, Watching, Unlinkable, Moves}
use Rattle.entry_table.specs.Views.{entry}
use Rattle.entry_table.proofs.Following.{link_tells, place_low, stop_later}
use Rattle.entry_table.proofs.Later.{kept_same}
use Rattle.entry_table.proofs.Sighting.{stepped}
use Rattle.entry_table.proofs.Skipped.{stop_known}
use Rattle.scavenge_core.specs.Shown.{looks, hops, link_after, counted}
use Rattle.scavenge_core.specs.Skips.{Tries, Early, Begun, Ahead, WasLive, Reaches, Ends, MayMove, Moved, KnowsPlace}
use Rattle.scavenge_core.proofs.Lasting.{tries_trans, tried, state_is, row_on, place_on, stop_on, reach_on, deleted_on, gone_on}
use Rattle.scavenge_core.proofs.Logs.{looks-append, hops-append, countless-append, link_last, link_first, node_self, link_one, link_other, link_neither, other_stop, other_node, head_off, head_load, head_unlink, head_here}

-- the step of a load of the link behind a stop
abbrev pub hop : ℕ → ℕ → Step
hop l w = steps.Load (wordnames.Link (node_at l w))

-- the load of the link behind a stop, as steps of the pass
pub hopped : (old new : Pass) (l w n : ℕ) (result : Option ℕ) → Kept old new → Did old new [] → shown new ≡ shown old ++ entry (hop l w) n n (seen new) ∷ [] → FollowsTo (sight old) (sight new) l w result → Tries old new (entry (hop l w) n n (seen new) ∷ [])
hopped old new l w n None k d e f = record { kept = k; steps = stepped old new [] (entry (hop l w) n n (seen new) ∷ []) k d e; rights = f.0.rights }
hopped old new l w n (Some r) k d e f = record { kept = k; steps = stepped old new [] (entry (hop l w) n n (seen new) ∷ []) k d e; rights = f.0.rights }

-- what the link names, in the state that is then known
named : (old new : Pass) (added : List Tried) (l w r : ℕ) → Tries old new added → FollowsTo (sight old) (sight new) l w (Some r)
    → IsOfList (state new) l r × (reach (state new) w ≤ place_at (state new) r) × AreDeleted (state new) l (reach (state new) w) (place_at (state new) r)
named old new added l w r t f =
    subst (λ (q : Queue). IsOfList q l r × (reach q w ≤ place_at q r) × AreDeleted q l (reach q w) (place_at q r)) (state_is old new added t) (f.1, f.2, f.3)

-- the list of a row is one of the queue
inside : (p : Pass) (l r : ℕ) → IsOfList (state p) l r → l < (state p).lists
inside p l r there = let low = (row_fits (state p) r there.0 p.within.sound there.1).list in let list = there.2 in omega (arith, low, list)

-- steps on the link behind the stop leave those behind earlier ones
early_here : (old : Pass) (l w v : ℕ) → reach (state old) v < reach (state old) w → v ≢ w
early_here old l w v less same = let e : reach (state old) v ≡ reach (state old) w = ap (reach (state old)) same in omega (arith, less, e)

-- a load of the link behind another stop
hop_off : (l v w n : ℕ) (seen : List Deed) → v ≢ w → link_after (node_at l v) (entry (hop l w) n n seen ∷ []) ≡ None
hop_off l v w n seen ne = link_other (node_at l v) (entry (hop l w) n n seen) (other_stop l v w ne)

-- Rows of a list

-- a row of a list has a place among the list's rows
pub row_within : (q : Queue) (l r : ℕ) → IsOfList q l r → place_at q r < length (rows_of q l)
row_within q l r there =
    let list : list_at q r ≡ l = list_found q r there.0 there.1 ∙ there.2 in
    subst (λ (m : ℕ). place_at q r < length (rows_of q m)) list
    (position_in (is_row r) (rows_of q (list_at q r)) there.0 (found_in_list q r there.0 there.1))

-- and so has a stop
pub stop_within : (q : Queue) (l w : ℕ) → IsStop q l w → reach q w ≤ length (rows_of q l)
stop_within q l zero stop = omega arith
stop_within q l (suc r) stop = let low = row_within q l r stop in omega (arith, low)

-- The first step on a head link

-- a load of the link behind the stop, as the first step
begun_here : (old new : Pass) (l w n : ℕ) → Tries old new (entry (hop l w) n n (seen new) ∷ []) → Begun old new l w (entry (hop l w) n n (seen new) ∷ [])
begun_here old new l w n t =
    let e : Tried = entry (hop l w) n n (seen new) in record {
      others = λ m away. head_off m e (head_load l w m away);
      starts = λ head. (
        seen new,
        record { later = t.steps.grows; early = prefix_self (seen new) },
        (e, find-here (λ (x : Tried). on_head l x.step) e [] (head_here l w head), refl),
      );
    }

-- further steps, none on the head link of another list
pub begun_on : (old mid new : Pass) (l w : ℕ) (us vs : List Tried) → Tries mid new vs → ((m : ℕ) → m ≢ l → NoHead m vs) → Begun old mid l w us → Begun old new l w (us ++ vs)
begun_on old mid new l w us vs t none b = record {
  others = λ m away. no_head-append m us vs (b.others m away) (none m away);
  starts = λ head.
      let s = b.starts head in (
        s.0,
        record { later = s.1.later; early = prefix_trans s.0 (seen mid) (seen new) s.1.early t.steps.grows },
        (s.2.0, find-append (λ (x : Tried). on_head l x.step) us vs s.2.0 s.2.1, s.2.2),
      );
}

-- The first load

pub first_named : (old new : Pass) (l w r : ℕ) → Kept old new → Did old new [] → FollowsTo (sight old) (sight new) l w (Some r) → Watching (view old) (view new) (node_at l w) (hop l w) (suc r) → Ahead old new l w r r 0 1
first_named old new l w r k d f watch =
    let e : Tried = entry (hop l w) (suc r) (suc r) (seen new) in
    let t = hopped old new l w (suc r) (Some r) k d watch.watches.shown f in
    let at = named old new (e ∷ []) l w r t f in
    let behind = at.1 in record {
      added = e ∷ [];
      tries = t;
      first = at.0;
      there = at.0;
      behind = at.1;
      onward = omega arith;
      gone = at.2;
      link = link_one (node_at l w) e (node_self (node_at l w));
      watched = watch.watches.watched;
      early = λ v known less. hop_off l v w (suc r) (seen new) (early_here old l w v less);
      begun = begun_here old new l w (suc r) t;
      countless = refl;
      looks = omega (arith, behind);
      hops = omega (arith, behind);
    }

pub first_none : (old new : Pass) (l w : ℕ) → IsStop (state new) l w → Kept old new → Did old new [] → FollowsTo (sight old) (sight new) l w None → Watching (view old) (view new) (node_at l w) (hop l w) 0 → Ends old new l w
first_none old new l w stop k d f watch =
    let e : Tried = entry (hop l w) 0 0 (seen new) in
    let within = stop_within (state new) l w stop in
    let t = hopped old new l w 0 None k d watch.watches.shown f in record {
      added = e ∷ [];
      tries = t;
      gone = subst (λ (q : Queue). (m : ℕ) → AreDeleted q l (reach q w) m) (state_is old new (e ∷ []) t) f.1;
      shown = inl (link_one (node_at l w) e (node_self (node_at l w)));
      early = λ v known less. hop_off l v w 0 (seen new) (early_here old l w v less);
      begun = begun_here old new l w 0 t;
      countless = refl;
      looks = omega (arith, within);
      hops = omega (arith, within);
    }

-- Steps on other links

-- what is known of a step over a run, after steps that leave the link behind the stop
module _ (old now new : Pass) (l w f r a h : ℕ) (stop : IsStop (state now) l w) (x : Ahead old now l w f r a h) (vs : List Tried) (t : Tries now new vs) (same : watched new ≡ watched now)
    (off : link_after (node_at l w) vs ≡ None) (early : Early old l w vs) (others : (m : ℕ) → m ≢ l → NoHead m vs) (count : counted vs ≡ []) where
  abbrev pub ahead_on : (b k : ℕ) → looks vs + a ≤ b → hops vs + h ≤ k → Ahead old new l w f r b k
  ahead_on b k few few_hops =
      let pf = place_on now new vs t f x.first.0 x.first.1 in
      let pr = place_on now new vs t r x.there.0 x.there.1 in
      let start = reach_on now new vs t l w stop in
      let behind = x.behind in let onward = x.onward in
      let so_far = x.looks in let hops_so_far = x.hops in record {
        added = x.added ++ vs;
        tries = tries_trans old now new x.added vs x.tries t;
        first = row_on now new vs t l f x.first;
        there = row_on now new vs t l r x.there;
        behind = omega (arith, pf, start, behind);
        onward = omega (arith, pf, pr, onward);
        gone = subst (λ (n : ℕ). AreDeleted (state new) l n (place_at (state new) r)) (sym start) (gone_on now new vs t l (reach (state now) w) r x.there x.gone);
        link = link_first (node_at l w) x.added vs off ∙ x.link;
        watched = same ∙ x.watched;
        early = λ v known less. link_neither (node_at l v) x.added vs (x.early v known less) (early v known less);
        begun = begun_on old now new l w x.added vs t others x.begun;
        countless = countless-append x.added vs x.countless count;
        looks = omega (arith, looks-append x.added vs, pr, start, so_far, few);
        hops = omega (arith, hops-append x.added vs, pf, pr, start, hops_so_far, few_hops);
      }

-- the state word shows the state
state_shown : (q : Queue) (r n : ℕ) (x : Row) → Shows (steps.Load (wordnames.State r)) n q → row_at q r ≡ Some x → n ≡ pack_state x.state
state_shown q r n x s found = sym s.2 ∙ s.1.states r x found

-- A look at the state of the row
module _ (old now new : Pass) (l w f r n : ℕ) (stop : IsStop (state now) l w) (x : Ahead old now l w f r 0 1) (k : Kept now new) (rights : KeepsRights now new) (d : Did now new []) (same : watched new ≡ watched now)
    (shows : Shows (steps.Load (wordnames.State r)) n (state new)) (e : shown new ≡ shown now ++ entry (steps.Load (wordnames.State r)) n n (seen new) ∷ []) where
  abbrev look : List Tried
  look = entry (steps.Load (wordnames.State r)) n n (seen new) ∷ []

  pub look_tried : Tries now new look
  look_tried = tried now new look k rights d e

  pub looked : Ahead old new l w f r 1 1
  looked = ahead_on old now new l w f r 0 1 stop x look look_tried same refl (λ v known less. refl) (λ m away. refl) refl 1 1 (omega arith) (omega arith)

  pub stop_looked : IsStop (state new) l w
  stop_looked = stop_on now new look look_tried l w stop

  -- it is deleted
  pub looked_gone : n ≡ pack_state Deleted → IsIn (state new) r Deleted
  looked_gone gone =
      let y = looked.there in
      (y.0, y.1, pack_same y.0.state Deleted (sym (state_shown (state new) r n y.0 shows y.1) ∙ gone))

  -- or it is not
  pub looked_live : n ≢ pack_state Deleted → WasLive old new r
  looked_live other =
      let y = looked.there in record {
        moment = seen new;
        later = looked.tries.steps.grows;
        early = prefix_self (seen new);
        row = y.0;
        found = subst (λ (q : Queue). row_at q r ≡ Some y.0) (sym (state_is old new looked.added looked.tries)) y.1;
        live = λ gone. other (state_shown (state new) r n y.0 shows y.1 ∙ ap pack_state gone);
      }

-- The link may move on
pub may_move : (old now : Pass) (l w f r a h : ℕ) → IsStop (state now) l w → Ahead old now l w f r a h → MayMove now l w f r
may_move old now l w f r a h stop x = record { stop = stop; watched = x.watched; from = x.first; to = x.there; behind = x.behind; onward = x.onward; gone = x.gone }

pub legal_now : (old now : Pass) (added : List Tried) → Tries old now added → Legal (opening now) (seen now)
legal_now old now added t = subst (λ (o : Queue). Legal o (seen now)) (sym t.kept.opening) t.steps.legal

-- the row that a link names is behind the row of the link
pub follow_later : (now new : Pass) (l r b m : ℕ) (result : Option ℕ) → Kept now new → Did now new [] → shown new ≡ shown now ++ entry (hop l (suc r)) m m (seen new) ∷ [] → FollowsTo (sight now) (sight new) l (suc r) result → result ≡ Some b → place_at (state new) r < place_at (state new) b
follow_later now new l r b m result k d e f is =
    let t = hopped now new l (suc r) m result k d e f in
    let at = named now new (entry (hop l (suc r)) m m (seen new) ∷ []) l (suc r) b t (subst (λ (o : Option ℕ). FollowsTo (sight now) (sight new) l (suc r) o) is f) in
    let later = at.1 in omega (arith, later)

-- A load of the link behind the row, which is deleted
module _ (old now new : Pass) (l w f r m : ℕ) (result : Option ℕ) (begins : IsStop (state old) l w) (stop : IsStop (state now) l w) (x : Ahead old now l w f r 1 1) (gone : IsIn (state now) r Deleted)
    (k : Kept now new) (d : Did now new []) (same : watched new ≡ watched now) (e : shown new ≡ shown now ++ entry (hop l (suc r)) m m (seen new) ∷ []) (f' : FollowsTo (sight now) (sight new) l (suc r) result) where
  abbrev step : List Tried
  step = entry (hop l (suc r)) m m (seen new) ∷ []

  pub hop_tried : Tries now new step
  hop_tried = hopped now new l (suc r) m result k d e f'

  -- the stop is another node than the row
  pub apart : w ≢ suc r
  apart is =
      let behind = x.behind in let onward = x.onward in
      let own : reach (state now) w ≡ suc (place_at (state now) r) = ap (reach (state now)) is in omega (arith, behind, onward, own)

  pub hop_early : Early old l w step
  hop_early v known less =
      let other : v ≢ suc r = λ is.
      let there : IsOfList (state old) l r = subst (IsStop (state old) l) is known in
      let place = place_on old now x.added x.tries r there.0 there.1 in
      let start = reach_on old now x.added x.tries l w begins in
      let behind = x.behind in let onward = x.onward in
      let own : reach (state old) v ≡ suc (place_at (state old) r) = ap (reach (state old)) is in
      omega (arith, less, own, place, start, behind, onward) in
      hop_off l v (suc r) m (seen new) other

  abbrev pub past : Ahead old new l w f r 1 2
  past =
      ahead_on old now new l w f r 1 1 stop x step hop_tried same (link_other (node_at l w) (entry (hop l (suc r)) m m (seen new)) (other_node l w r apart)) hop_early
      (λ i away. head_off i (entry (hop l (suc r)) m m (seen new)) (head_load l (suc r) i away)) refl 1 2 (omega arith) (omega arith)

  pub stop_past : IsStop (state new) l w
  stop_past = stop_on now new step hop_tried l w stop

  pub gone_past : IsIn (state new) r Deleted
  gone_past = deleted_on now new step hop_tried r gone

  -- rows up to the row, with it, are deleted
  with_row : (j : ℕ) (b : ℕ) → ((y : ℕ) (z : Row) → row_at (state new) y ≡ Some z → z.slip.list ≡ l → place_at (state new) r < place_at (state new) y → place_at (state new) y < b → z.state ≡ Deleted) → j ≡ reach (state new) w → AreDeleted (state new) l j b
  with_row j b behind is y z found list low high = ⊎_elim
      (λ (here : place_at (state new) y ≡ place_at (state new) r).
      let one_row : z ≡ past.there.0 = place_same (state new) y r z past.there.0 found past.there.1 (list ∙ sym past.there.2) here in
      let both : Some gone_past.0 ≡ Some past.there.0 = sym gone_past.1 ∙ past.there.1 in
      let other : gone_past.0 ≡ past.there.0 = cc in
      ap (λ (v : Row). v.state) (one_row ∙ sym other) ∙ gone_past.2)
      (λ (rest : (place_at (state new) y < place_at (state new) r) ⊎ (place_at (state new) r < place_at (state new) y)). ⊎_elim
      (λ (before : place_at (state new) y < place_at (state new) r). past.gone y z found list (omega (arith, is, low)) before)
      (λ (later : place_at (state new) r < place_at (state new) y). behind y z found list later high) rest)
      (cases_order (place_at (state new) y) (place_at (state new) r))

  -- row b stands behind it
  pub next_row : (b : ℕ) → result ≡ Some b → Ahead old new l w f b 0 1
  next_row b some =
      let p = past in
      let at = named now new step l (suc r) b hop_tried (subst (λ (o : Option ℕ). FollowsTo (sight now) (sight new) l (suc r) o) some f') in
      let later = at.1 in let onward = p.onward in let few = p.looks in let few_hops = p.hops in record {
        added = p.added;
        tries = p.tries;
        first = p.first;
        there = at.0;
        behind = p.behind;
        onward = omega (arith, onward, later);
        gone = with_row (reach (state new) w) (place_at (state new) b) (λ y z found list low high. at.2 y z found list low high) refl;
        link = p.link;
        watched = p.watched;
        early = p.early;
        begun = p.begun;
        countless = p.countless;
        looks = omega (arith, few, later);
        hops = omega (arith, few_hops, later);
      }

  -- no row does, and the link behind the stop names it
  pub end_row : result ≡ None → m ≡ 0 → f ≡ r → Ends old new l w
  end_row none empty whole =
      let p = past in
      let behind : (j : ℕ) → AreDeleted (state new) l (reach (state new) (suc r)) j =
      subst (λ (q : Queue). (j : ℕ) → AreDeleted q l (reach q (suc r)) j) (state_is now new step hop_tried) (subst (λ (o : Option ℕ). FollowsTo (sight now) (sight new) l (suc r) o) none f').1 in
      let last : link_after (nodes.Row r) step ≡ Some m = link_one (nodes.Row r) (entry (hop l (suc r)) m m (seen new)) (node_self (nodes.Row r)) in
      let within = row_within (state new) l r p.there in
      let place = ap (place_at (state new)) whole in
      let few = p.looks in let few_hops = p.hops in record {
        added = p.added;
        tries = p.tries;
        gone = λ j. with_row (reach (state new) w) j (λ y z found list low high. behind j y z found list low high) refl;
        shown = inr (r, gone_past, p.link ∙ ap (λ (i : ℕ). Some (suc i)) whole, link_last (nodes.Row r) x.added step 0 (last ∙ ap (λ (z : ℕ). Some z) empty));
        early = p.early;
        begun = p.begun;
        countless = p.countless;
        looks = omega (arith, few, within);
        hops = omega (arith, few_hops, within, place);
      }

-- The link behind the stop has moved on

-- rows at one place are one
one_place : (q : Queue) (l r s : ℕ) → IsOfList q l r → IsOfList q l s → place_at q r ≡ place_at q s → r ≡ s
one_place q l r s a b same =
    let one : a.0 ≡ b.0 = place_same q r s a.0 b.0 a.1 b.1 (a.2 ∙ sym b.2) same in
    sym (row_number q r a.0 a.1) ∙ ap (λ (x : Row). x.number) one ∙ row_number q s b.0 b.1

-- another row that is no earlier is later
pub row_later : (p : Pass) (l r u : ℕ) → IsOfList (state p) l r → IsOfList (state p) l u → place_at (state p) r ≤ place_at (state p) u → u ≢ r → place_at (state p) r < place_at (state p) u
row_later p l r u a b onward other =
    let apart : place_at (state p) u ≢ place_at (state p) r = λ e. other (one_place (state p) l u r b a e) in omega (arith, onward, apart)

module _ (old now new : Pass) (l w f r u a h : ℕ) (stop : IsStop (state now) l w) (x : Ahead old now l w f r a h) (m : Moved now new l w f r u) where
  place_first : place_at (state new) f ≡ place_at (state now) f
  place_first = place_on now new m.added m.tries f x.first.0 x.first.1

  place_row : place_at (state new) r ≡ place_at (state now) r
  place_row = place_on now new m.added m.tries r x.there.0 x.there.1

  moved_ahead : (b k : ℕ) → place_at (state new) r + a ≤ place_at (state new) u + b → place_at (state new) f + place_at (state new) r + h ≤ 2 * place_at (state new) u + k → Ahead old new l w u u b k
  moved_ahead b k less fewer =
      let pf = place_first in let pr = place_row in
      let start = reach_on now new m.added m.tries l w stop in
      let behind = x.behind in let onward = x.onward in let later = m.onward in
      let few = x.looks in let few_hops = x.hops in let none = m.looks in let turns = m.hops in record {
        added = x.added ++ m.added;
        tries = tries_trans old now new x.added m.added x.tries m.tries;
        first = m.there;
        there = m.there;
        behind = omega (arith, pf, pr, start, behind, onward, later);
        onward = omega arith;
        gone = m.gone;
        link = m.link x.added x.link;
        watched = m.watched;
        early = λ v known early. link_neither (node_at l v) x.added m.added (x.early v known early) (m.alone v (early_here old l w v early));
        begun = begun_on old now new l w x.added m.added m.tries m.others x.begun;
        countless = countless-append x.added m.added x.countless m.countless;
        looks = omega (arith, looks-append x.added m.added, pr, start, few, none, less);
        hops = omega (arith, hops-append x.added m.added, pf, pr, start, few_hops, turns, fewer);
      }

  pub stop_moved : IsStop (state new) l w
  stop_moved = stop_on now new m.added m.tries l w stop

  pub moved_later : u ≢ r → place_at (state new) r < place_at (state new) u
  moved_later other = row_later new l r u (row_on now new m.added m.tries l r x.there) m.there m.onward other

  -- to another row, behind the one that was come to
  pub moved_past : u ≢ r → a ≤ 1 → h ≤ 3 → Ahead old new l w u u 0 1
  moved_past other few few_hops =
      let pf = place_first in let pr = place_row in let onward = x.onward in let later = m.onward in
      let there : IsOfList (state new) l r = row_on now new m.added m.tries l r x.there in
      let apart : place_at (state new) u ≢ place_at (state new) r = λ e. other (one_place (state new) l u r m.there there e) in
      moved_ahead 0 1 (omega (arith, later, apart, few)) (omega (arith, pf, pr, onward, later, apart, few_hops))

  -- to the row that was come to
  pub moved_here : u ≡ r → (k : ℕ) → place_at (state now) f + h ≤ place_at (state now) r + k → Ahead old new l w r r a k
  moved_here is k fewer =
      let pf = place_first in let pr = place_row in let pu = ap (place_at (state new)) is in
      subst (λ (z : ℕ). Ahead old new l w z z a k) is (moved_ahead a k (omega (arith, pu)) (omega (arith, pf, pr, pu, fewer)))

-- the link behind the stop names another row than the one that was come to, and moves on to it
pub moved_up : (old now new : Pass) (l w f r u : ℕ) → IsStop (state now) l w → Ahead old now l w f r 1 2 → Moved now new l w f r u → f ≢ r → u ≡ r → Ahead old new l w r r 1 1
moved_up old now new l w f r u stop x m other is =
    let onward = x.onward in
    let apart : place_at (state now) f ≢ place_at (state now) r = λ e. other (one_place (state now) l f r x.first x.there e) in
    moved_here old now new l w f r u 1 2 stop x m is 1 (omega (arith, onward, apart))

-- it was come to a row that was not deleted
pub reached : (old now new : Pass) (l w f r u : ℕ) → IsStop (state now) l w → Ahead old now l w f r 1 1 → WasLive old now r → Moved now new l w f r u → u ≡ r → Reaches old new l w r
reached old now new l w f r u stop x live m is =
    let onward = x.onward in
    let y : Ahead old new l w r r 1 1 = moved_here old now new l w f r u 1 1 stop x m is 1 (omega (arith, onward)) in
    let few = y.looks in let few_hops = y.hops in record {
      added = y.added;
      tries = y.tries;
      names = record { there = y.there; behind = y.behind; gone = y.gone; link = y.link };
      live = record { moment = live.moment; later = live.later; early = prefix_trans live.moment (seen now) (seen new) live.early m.tries.steps.grows; row = live.row; found = live.found; live = live.live };
      early = y.early;
      begun = y.begun;
      countless = y.countless;
      looks = omega (arith, few);
      hops = omega (arith, few_hops);
    }

-- Moves

-- nothing was tried yet
pub unmoved : (p : Pass) (l w f r : ℕ) → Legal (opening p) (seen p) → MayMove p l w f r → Moved p p l w f f f
unmoved p l w f r legal may =
    let onward = may.onward in record {
      added = [];
      tries = tried p p [] (kept_same p) (refl, refl, refl) (record { prefix = prefix_self (seen p); legal = legal; own_more = sym (append-nil _); concern_more = sym (append-nil _) }) (sym (append-nil (shown p)));
      there = may.from;
      onward = omega arith;
      gone = λ y z found list low high. may.gone y z found list low (omega (arith, high, onward));
      link = λ known e. ap (link_after (node_at l w)) (append-nil known) ∙ e;
      watched = may.watched;
      alone = λ v ne. refl;
      others = λ m away. refl;
      countless = refl;
      looks = refl;
      hops = omega arith;
    }

-- one move after the other
pub moved_then : (a b c : Pass) (l w f s r u : ℕ) → IsOfList (state a) l f → Moved a b l w f s s → Moved b c l w s r u → Moved a c l w f r u
moved_then a b c l w f s r u there m n =
    let there' = row_on a b m.added m.tries l f there in
    let pf = place_on b c n.added n.tries f there'.0 there'.1 in
    let ps = place_on b c n.added n.tries s m.there.0 m.there.1 in
    let few = m.hops in let few_more = n.hops in
    let none = m.looks in let none_more = n.looks in record {
      added = m.added ++ n.added;
      tries = tries_trans a b c m.added n.added m.tries n.tries;
      there = n.there;
      onward = n.onward;
      gone = n.gone;
      link = λ known e. ap (link_after (node_at l w)) (sym (append_assoc known m.added n.added)) ∙ n.link (known ++ m.added) (m.link known e);
      watched = n.watched;
      alone = λ v ne. link_neither (node_at l v) m.added n.added (m.alone v ne) (n.alone v ne);
      others = λ i away. no_head-append i m.added n.added (m.others i away) (n.others i away);
      countless = countless-append m.added n.added m.countless n.countless;
      looks = omega (arith, looks-append m.added n.added, none, none_more);
      hops = omega (arith, hops-append m.added n.added, pf, ps, few, few_more);
    }

-- the place of a row was looked up
pub moved_looked : (a b c : Pass) (l w f u s n : ℕ) → IsOfList (state a) l f → IsStop (state a) l w → Moved a b l w f u u → KnowsPlace b c s n → Moved a c l w f u u
moved_looked a b c l w f u s n there stop m k =
    let vs : List Tried = entry (steps.Load (wordnames.Draft s drafts.Place)) n n (seen c) ∷ [] in
    let there' = row_on a b m.added m.tries l f there in
    let pf = place_on b c vs k.tries f there'.0 there'.1 in
    let pu = place_on b c vs k.tries u m.there.0 m.there.1 in
    let start = reach_on b c vs k.tries l w (stop_on a b m.added m.tries l w stop) in
    let few = m.hops in let none = m.looks in record {
      added = m.added ++ vs;
      tries = tries_trans a b c m.added vs m.tries k.tries;
      there = row_on b c vs k.tries l u m.there;
      onward = omega arith;
      gone = subst (λ (i : ℕ). AreDeleted (state c) l i (place_at (state c) u)) (sym start) (gone_on b c vs k.tries l (reach (state b) w) u m.there m.gone);
      link = λ known e. ap (link_after (node_at l w)) (sym (append_assoc known m.added vs)) ∙ (link_first (node_at l w) (known ++ m.added) vs refl ∙ m.link known e);
      watched = k.watched ∙ m.watched;
      alone = λ v ne. link_neither (node_at l v) m.added vs (m.alone v ne) refl;
      others = λ i away. no_head-append i m.added vs (m.others i away) refl;
      countless = countless-append m.added vs m.countless refl;
      looks = omega (arith, looks-append m.added vs, none);
      hops = omega (arith, hops-append m.added vs, pf, pu, few);
    }

-- beyond another row
pub moved_beyond : (a b : Pass) (l w f r s u : ℕ) → place_at (state b) s ≤ place_at (state b) u → Moved a b l w f r u → Moved a b l w f s u
moved_beyond a b l w f r s u far m = record {
  added = m.added;
  tries = m.tries;
  there = m.there;
  onward = far;
  gone = m.gone;
  link = m.link;
  watched = m.watched;
  alone = m.alone;
  others = m.others;
  countless = m.countless;
  looks = m.looks;
  hops = m.hops;
}

-- what may move still may, after steps that leave the link
pub may_still : (now new : Pass) (l w s r : ℕ) (vs : List Tried) → Tries now new vs → watched new ≡ watched now → MayMove now l w s r → MayMove new l w s r
may_still now new l w s r vs t same may =
    let start = reach_on now new vs t l w may.stop in
    let ps = place_on now new vs t s may.from.0 may.from.1 in
    let pr = place_on now new vs t r may.to.0 may.to.1 in
    let behind = may.behind in let onward = may.onward in record {
      stop = stop_on now new vs t l w may.stop;
      watched = same ∙ may.watched;
      from = row_on now new vs t l s may.from;
      to = row_on now new vs t l r may.to;
      behind = omega (arith, start, ps, behind);
      onward = omega (arith, ps, pr, onward);
      gone = subst (λ (i : ℕ). AreDeleted (state new) l i (place_at (state new) r)) (sym start) (gone_on now new vs t l (reach (state now) w) r may.to may.gone);
    }

-- An exchange of the link
module _ (now new : Pass) (l w s r n : ℕ) (may : MayMove now l w s r) (other : s ≢ r) where
  -- the rows are not at one place
  pub ahead_of : place_at (state now) s < place_at (state now) r
  ahead_of =
      let onward = may.onward in
      let apart : place_at (state now) s ≢ place_at (state now) r = λ e. other (one_place (state now) l s r may.from may.to e) in
      omega (arith, onward, apart)

  -- it may be tried
  pub unlinkable : Unlinkable (state now) (node_at l w) s r
  unlinkable =
      let l_s : list_at (state now) s ≡ l = list_found (state now) s may.from.0 may.from.1 ∙ may.from.2 in
      let l_r : list_at (state now) r ≡ l = list_found (state now) r may.to.0 may.to.1 ∙ may.to.2 in
      let behind = may.behind in let less = ahead_of in record {
        known = stop_known (state now) l w (inside now l s may.from) may.stop;
        gone = (may.from.0, may.from.1, may.gone s may.from.0 may.from.1 may.from.2 behind less);
        there = (may.to.0, may.to.1);
        list = l_r ∙ sym l_s;
        later = less;
        between = λ y z found list low high. may.gone y z found (list ∙ l_s) (omega (arith, low, behind)) high;
      }

  module _ (k : Kept now new) (rights : KeepsRights now new) (d : Did now new []) (moves : Moves (view now) (view new) (node_at l w) s r n) where
    -- the link was moved
    pub exchanged : n ≡ suc s → Moved now new l w s r r
    exchanged hit =
        let watch = moves.0 hit in
        let e : Tried = entry (steps.Unlink (node_at l w) s r) (suc s) (suc r) (seen new) in
        let t = tried now new (e ∷ []) k rights d watch.shown in
        let ps = place_on now new (e ∷ []) t s may.from.0 may.from.1 in
        let pr = place_on now new (e ∷ []) t r may.to.0 may.to.1 in
        let start = reach_on now new (e ∷ []) t l w may.stop in
        let less = ahead_of in record {
          added = e ∷ [];
          tries = t;
          there = row_on now new (e ∷ []) t l r may.to;
          onward = omega arith;
          gone = subst (λ (i : ℕ). AreDeleted (state new) l i (place_at (state new) r)) (sym start) (gone_on now new (e ∷ []) t l (reach (state now) w) r may.to may.gone);
          link = λ known x. link_last (node_at l w) known (e ∷ []) (suc r) (link_one (node_at l w) e (node_self (node_at l w)));
          watched = watch.watched;
          alone = λ v ne. link_other (node_at l v) e (other_stop l v w ne);
          others = λ m away. head_off m e (head_unlink l w s r m away);
          countless = refl;
          looks = refl;
          hops = omega (arith, ps, pr, less);
        }

    module _ (miss : n ≢ suc s) where
      abbrev missed : Tried
      missed = entry (steps.Unlink (node_at l w) s r) n n (seen new)

      miss_tried : Tries now new (missed ∷ [])
      miss_tried = tried now new (missed ∷ []) k rights d (moves.1 miss).watches.shown

      -- the row that it names
      pub shown_row : (u : ℕ) × (n ≡ suc u) × IsOnward (state new) s u
      shown_row =
          let x = (moves.1 miss).onward (suc s) may.watched s refl in
          (x.0, x.1, subst (λ (q : Queue). IsOnward q s x.0) (state_is now new (missed ∷ []) miss_tried) x.2)

      -- comes later, and all rows before it are deleted
      pub shown_moved : Moved now new l w s s shown_row.0
      shown_moved =
          let u : ℕ = shown_row.0 in
          let row = shown_row in
          let away : s ≢ u = λ same. miss (row.1 ∙ ap (λ (i : ℕ). suc i) (sym same)) in
          let Q : Queue = state new in
          let shows : Shows (steps.Unlink (node_at l w) s r) n Q = subst (λ (o : Queue). Shows (steps.Unlink (node_at l w) s r) n (after o (seen new))) (sym k.opening) (moves.1 miss).shows in
          let stop = stop_on now new (missed ∷ []) miss_tried l w may.stop in
          let from = row_on now new (missed ∷ []) miss_tried l s may.from in
          let low = inside new l s from in
          let lists = shows.1.shaped.lists in
          let tells = (link_tells shows.0 Q l w shows.1 (omega (arith, lists, low)) stop).leads u (shows.2 ∙ row.1) in
          let on = row.2.later in
          let apart : place_at Q s ≢ place_at Q u = λ e. away (one_place Q l s u from tells.0 e) in
          let named : link_after (node_at l w) (missed ∷ []) ≡ Some (suc u) = link_one (node_at l w) missed (node_self (node_at l w)) ∙ ap (λ (z : ℕ). Some z) row.1 in record {
            added = missed ∷ [];
            tries = miss_tried;
            there = tells.0;
            onward = on;
            gone = tells.2;
            link = λ known x. link_last (node_at l w) known (missed ∷ []) (suc u) named;
            watched = (moves.1 miss).watches.watched ∙ ap (λ (z : ℕ). watch_of (node_at l w) z) row.1;
            alone = λ v ne. link_other (node_at l v) missed (other_stop l v w ne);
            others = λ m away. head_off m missed (head_unlink l w s r m away);
            countless = refl;
            looks = refl;
            hops = omega (arith, on, apart);
          }

      pub shown_some : 1 ≤ n
      shown_some = let row = shown_row.1 in omega (arith, row)

      pub shown_named : Moved now new l w s s (n - 1)
      shown_named = let row = shown_row.1 in subst (λ (u : ℕ). Moved now new l w s s u) (let e : shown_row.0 ≡ n - 1 = omega (arith, row) in e) shown_moved

      pub shown_later : place_at (state new) s < place_at (state new) (n - 1)
      shown_later =
          let m = shown_named in
          let row = shown_row.1 in
          let away : s ≢ n - 1 = λ same. miss (omega (arith, row, same)) in
          let from = row_on now new m.added m.tries l s may.from in
          let onward = m.onward in
          let apart : place_at (state new) s ≢ place_at (state new) (n - 1) = λ e. away (one_place (state new) l s (n - 1) from m.there e) in
          omega (arith, onward, apart)

-- An exchange that somebody else was before, and then the places were looked up
module _ (old now mid p q : Pass) (l w f s r n there here : ℕ) (from : IsOfList (state old) l f) (stop : IsStop (state old) l w) (moved : Moved old now l w f s s) (may : MayMove now l w s r) (other : s ≢ r)
    (k : Kept now mid) (rights : KeepsRights now mid) (d : Did now mid []) (moves : Moves (view now) (view mid) (node_at l w) s r n) (miss : n ≢ suc s) (one : KnowsPlace mid p (n - 1) there) (two : KnowsPlace p q r here) where
  shown_at : Moved now mid l w s s (n - 1)
  shown_at = shown_named now mid l w s r n may other k rights d moves miss

  at_mid : Moved old mid l w f (n - 1) (n - 1)
  at_mid = moved_beyond old mid l w f s (n - 1) (n - 1) (omega arith) (moved_then old now mid l w f s s (n - 1) from moved shown_at)

  at_p : Moved old p l w f (n - 1) (n - 1)
  at_p = moved_looked old mid p l w f (n - 1) (n - 1) there from stop at_mid one

  -- the link names that row still
  pub at_last : Moved old q l w f (n - 1) (n - 1)
  at_last = moved_looked old p q l w f (n - 1) r here from stop at_p two

  pub row_mid : IsOfList (state mid) l r
  row_mid = row_on now mid shown_at.added shown_at.tries l r may.to

  pub row_p : IsOfList (state p) l r
  row_p = row_on mid p (entry (steps.Load (wordnames.Draft (n - 1) drafts.Place)) there there (seen p) ∷ []) one.tries l r row_mid

  place_named : place_at (state q) (n - 1) ≡ there
  place_named = place_on p q (entry (steps.Load (wordnames.Draft r drafts.Place)) here here (seen q) ∷ []) two.tries (n - 1) at_p.there.0 at_p.there.1 ∙ sym one.place

  -- it is behind the row that was to be named
  pub at_beyond : here < there → Moved old q l w f r (n - 1)
  at_beyond far =
      let named = place_named in let place = two.place in
      moved_beyond old q l w f (n - 1) r (n - 1) (omega (arith, far, named, place)) at_last

  -- it is not
  pub may_again : there ≤ here → MayMove q l w (n - 1) r
  may_again near =
      let us : List Tried = entry (steps.Load (wordnames.Draft (n - 1) drafts.Place)) there there (seen p) ∷ [] in
      let vs : List Tried = entry (steps.Load (wordnames.Draft r drafts.Place)) here here (seen q) ∷ [] in
      let pu = place_on mid p us one.tries (n - 1) at_mid.there.0 at_mid.there.1 in
      let p1 = place_on mid p us one.tries r row_mid.0 row_mid.1 in
      let p2 = place_on p q vs two.tries r row_p.0 row_p.1 in
      let named = one.place in let place = two.place in
      let low : place_at (state mid) (n - 1) ≤ place_at (state mid) r = omega (arith, near, pu, p1, p2, named, place) in
      let start = reach_on now mid shown_at.added shown_at.tries l w may.stop in
      let ps = place_on now mid shown_at.added shown_at.tries s may.from.0 may.from.1 in
      let behind = may.behind in let onward = shown_at.onward in
      let may_mid : MayMove mid l w (n - 1) r = record {
        stop = stop_on now mid shown_at.added shown_at.tries l w may.stop;
        watched = shown_at.watched;
        from = shown_at.there;
        to = row_mid;
        behind = omega (arith, start, ps, behind, onward);
        onward = low;
        gone = subst (λ (i : ℕ). AreDeleted (state mid) l i (place_at (state mid) r)) (sym start) (gone_on now mid shown_at.added shown_at.tries l (reach (state now) w) r may.to may.gone);
      } in
      may_still p q l w (n - 1) r vs two.tries two.watched (may_still mid p l w (n - 1) r us one.tries one.watched may_mid)

  -- fewer places are between
  pub nearer : place_at (state q) r - place_at (state q) (n - 1) < place_at (state now) r - place_at (state now) s
  nearer =
      let us : List Tried = entry (steps.Load (wordnames.Draft (n - 1) drafts.Place)) there there (seen p) ∷ [] in
      let vs : List Tried = entry (steps.Load (wordnames.Draft r drafts.Place)) here here (seen q) ∷ [] in
      let m0 = place_on now mid shown_at.added shown_at.tries r may.to.0 may.to.1 in
      let m1 = place_on mid p us one.tries r row_mid.0 row_mid.1 in
      let m2 = place_on p q vs two.tries r row_p.0 row_p.1 in
      let s0 = place_on now mid shown_at.added shown_at.tries s may.from.0 may.from.1 in
      let u1 = place_on mid p us one.tries (n - 1) at_mid.there.0 at_mid.there.1 in
      let u2 = place_on p q vs two.tries (n - 1) at_p.there.0 at_p.there.1 in
      let later = shown_later now mid l w s r n may other k rights d moves miss in
      let less = ahead_of now mid l w s r n may other in
      omega (arith, m0, m1, m2, s0, u1, u2, later, less)

-- The turns of the loops

-- a stop is one later
pub stop_after : (old new : Pass) (l w : ℕ) → Kept old new → Did old new [] → IsStop (state old) l w → IsStop (state new) l w
stop_after old new l w k d stop = subst (λ (o : Queue). IsStop (after o (seen new)) l w) (sym k.opening) (stop_later (opening old) (seen old) (seen new) l w d.prefix stop)

-- a row that a pass knows is one of the table
pub row_low : {C : Type 0} (e : Entries C) (p : Pass) (l r : ℕ) → IsPassOf e p → IsOfList (state p) l r → (r < e.shape.rows) × (place_at (state p) r < e.shape.rows)
row_low e p l r table there =
    let same : (view p).shape.rows ≡ e.shape.rows = ap (λ (s : Shape). s.rows) table.shape in
    let low = p.within.low r there.0 there.1 in
    let place = place_low (view p).shape (state p) r there.0 p.within there.1 in (omega (arith, same, low), omega (arith, same, place))
