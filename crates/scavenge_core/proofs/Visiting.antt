-- what the links of a list visit
use Rattle.std.proofs.Common.{◌≡◌, inl, inr, ℕ, suc, ◌-◌, ◌<◌, ◌≤◌, Option, Some, None, List, [], ◌∷◌, ◌++◌, refl, sym, ap, ◌∙◌, subst, arith}
use Rattle.queue_model.specs.declared.queues.Queue.{Queue}
use Rattle.queue_model.specs.declared.rows.Row.{Row}
use Rattle.queue_model.specs.declared.steps.DraftWord.TheVariants as drafts
use Rattle.queue_model.specs.declared.steps.Node.TheVariants as nodes
use Rattle.queue_model.specs.declared.steps.Step.TheVariants as steps
use Rattle.queue_model.specs.declared.steps.Tried.{Tried}
use Rattle.queue_model.specs.declared.steps.WordName.{WordName}
use Rattle.queue_model.specs.declared.steps.WordName.TheVariants as wordnames
use Rattle.queue_model.specs.History.{after}
use Rattle.queue_model.specs.State.{row_at, place_at}
use Rattle.queue_model.proofs.Prefixes.{prefix_trans, prefix_self}
use Rattle.acts_core.specs.Walks.{node_at, reach, IsOfList, IsStop}
use Rattle.entry_table.specs.declared.entries.Entries.{Entries}
use Rattle.entry_table.specs.declared.pass.Pass.{Pass}
use Rattle.entry_table.specs.Passes.{IsPassOf, Kept, Did, KeepsRights, opening, seen, shown, state}
use Rattle.entry_table.specs.Plays.{Shows}
use Rattle.entry_table.specs.Views.{entry}
use Rattle.entry_table.proofs.Later.{pass_of}
use Rattle.scavenge_core.specs.Shown.{link_after}
use Rattle.scavenge_core.specs.Skips.{Tries, Early, Reaches, Ends, EndShown, StepsOver, WasLive}
use Rattle.scavenge_core.specs.Scavenges.{Visits, last_stop, MarkShown, Scavenged, Scavenging}
use Rattle.scavenge_core.proofs.Lasting.{tries_trans, tried, state_is, row_on, place_on, reach_on}
use Rattle.scavenge_core.proofs.Logs.{link_first, link_last, countless-append}
use Rattle.scavenge_core.proofs.Stepping.{row_low}

-- the last stop is behind the first
last_far : (old new : Pass) (added : List Tried) (l w : ℕ) (rows : List ℕ) → Visits old new added l w rows → reach (state new) w ≤ reach (state new) (last_stop w rows)
last_far old new added l w [] v = omega arith
last_far old new added l w (r ∷ rows) v =
    let rest = last_far old new added l (suc r) rows v.4 in let here = v.2 in omega (arith, rest, here)

-- and a stop of the list
pub last_stops : (old new : Pass) (added : List Tried) (l w : ℕ) (rows : List ℕ) → IsStop (state new) l w → Visits old new added l w rows → IsStop (state new) l (last_stop w rows)
last_stops old new added l w [] stop v = stop
last_stops old new added l w (r ∷ rows) stop v = last_stops old new added l (suc r) rows v.1 v.4

live_on : (old now new : Pass) (us : List Tried) (r : ℕ) → Tries now new us → WasLive old now r → WasLive old new r
live_on old now new us r t x = record { moment = x.moment; later = x.later; early = prefix_trans x.moment (seen now) (seen new) x.early t.steps.grows; row = x.row; found = x.found; live = x.live }

-- or a moment before began
live_from : (old now new : Pass) (us : List Tried) (r : ℕ) → Tries old now us → WasLive now new r → WasLive old new r
live_from old now new us r t x = record { moment = x.moment; later = prefix_trans (seen old) (seen now) x.moment t.steps.grows x.later; early = x.early; row = x.row; found = ap (λ (o : Queue). row_at (after o x.moment) r) (sym t.kept.opening) ∙ x.found; live = x.live }

-- steps on no link behind an earlier stop leave what is visited
pub visits_on : (old now new : Pass) (added us : List Tried) (l w k : ℕ) (rows : List ℕ) → Tries now new us → Early now l k us → IsStop (state now) l w → reach (state now) (last_stop w rows) ≤ reach (state now) k → Visits old now added l w rows → Visits old new (added ++ us) l w rows
visits_on old now new added us l w k [] t early stop far v = tt
visits_on old now new added us l w k (r ∷ rows) t early stop far v =
    let rest = last_far old now added l (suc r) rows v.4 in
    let here = v.2 in
    let place = place_on now new us t r v.1.0 v.1.1 in
    let start = reach_on now new us t l w stop in (
      link_first (node_at l w) added us (early w stop (omega (arith, rest, here, far))) ∙ v.0,
      row_on now new us t l r v.1,
      omega (arith, place, start, here),
      live_on old now new us r t v.3,
      visits_on old now new added us l (suc r) k rows t early v.1 far v.4,
    )

-- one row more
pub visits_more : (old new : Pass) (added : List Tried) (l w r : ℕ) (rows : List ℕ) → Visits old new added l w rows → link_after (node_at l (last_stop w rows)) added ≡ Some (suc r) → IsOfList (state new) l r → reach (state new) (last_stop w rows) ≤ place_at (state new) r → WasLive old new r → Visits old new added l w (rows ++ r ∷ [])
visits_more old new added l w r [] v named there behind live = (named, there, behind, live, tt)
visits_more old new added l w r (x ∷ rows) v named there behind live = (v.0, v.1, v.2, v.3, visits_more old new added l (suc x) r rows v.4 named there behind live)

pub last_more : (w r : ℕ) (rows : List ℕ) → last_stop w (rows ++ r ∷ []) ≡ suc r
last_more w r [] = refl
last_more w r (x ∷ rows) = last_more (suc x) r rows

mark_on : (added us : List Tried) (l mark : ℕ) → MarkShown added l mark → MarkShown (added ++ us) l mark
mark_on added us l mark m = record { first = m.first; rest = m.rest ++ us; added_is = ap (λ (xs : List Tried). xs ++ us) m.added_is; step = m.step; before = m.before }

-- The turns of the loop

-- nothing is visited yet
pub begins : (old now : Pass) (l n : ℕ) → Kept old now → KeepsRights old now → Did old now [] → shown now ≡ shown old ++ entry (steps.Load (wordnames.Mark l)) n n (seen now) ∷ [] → Scavenging old now l n 0
begins old now l n k rights d e = record {
  added = entry (steps.Load (wordnames.Mark l)) n n (seen now) ∷ [];
  tries = tried old now (entry (steps.Load (wordnames.Mark l)) n n (seen now) ∷ []) k rights d e;
  marked = record { first = entry (steps.Load (wordnames.Mark l)) n n (seen now); rest = []; added_is = refl; step = refl; before = refl };
  countless = refl;
  rows = [];
  visits = tt;
  last = refl;
}

-- a step over came to row r
pub visited : (old now new : Pass) (l mark w r : ℕ) → IsStop (state now) l w → Scavenging old now l mark w → Reaches now new l w r → Scavenging old new l mark (suc r)
visited old now new l mark w r stop s t =
    let on = visits_on old now new s.added t.added l 0 w s.rows t.tries t.early tt (subst (λ (i : ℕ). reach (state now) i ≤ reach (state now) w) (sym s.last) (let z : reach (state now) w ≤ reach (state now) w = omega arith in z)) s.visits in
    let live : WasLive old new r = live_from old now new s.added r s.tries t.live in record {
      added = s.added ++ t.added;
      tries = tries_trans old now new s.added t.added s.tries t.tries;
      marked = mark_on s.added t.added l mark s.marked;
      countless = countless-append s.added t.added s.countless t.countless;
      rows = s.rows ++ r ∷ [];
      visits = visits_more old new (s.added ++ t.added) l 0 r s.rows on
          (subst (λ (i : ℕ). link_after (node_at l i) (s.added ++ t.added) ≡ Some (suc r)) (sym s.last) (link_last (node_at l w) s.added t.added (suc r) t.names.link))
          t.names.there (subst (λ (i : ℕ). reach (state new) i ≤ place_at (state new) r) (sym s.last) t.names.behind) live;
      last = last_more 0 r s.rows;
    }

-- a load of another word
pub passed_look : (old now new : Pass) (l mark w n : ℕ) (word : WordName) → IsStop (state now) l w → Scavenging old now l mark w → Kept now new → KeepsRights now new → Did now new [] → shown new ≡ shown now ++ entry (steps.Load word) n n (seen new) ∷ []
    → ((v : ℕ) → link_after (node_at l v) (entry (steps.Load word) n n (seen new) ∷ []) ≡ None) → Scavenging old new l mark w
passed_look old now new l mark w n word stop s k rights d e off =
    let us : List Tried = entry (steps.Load word) n n (seen new) ∷ [] in
    let t = tried now new us k rights d e in record {
      added = s.added ++ us;
      tries = tries_trans old now new s.added us s.tries t;
      marked = mark_on s.added us l mark s.marked;
      countless = countless-append s.added us s.countless refl;
      rows = s.rows;
      visits = visits_on old now new s.added us l 0 w s.rows t (λ v known less. off v) tt (subst (λ (i : ℕ). reach (state now) i ≤ reach (state now) w) (sym s.last) (let z : reach (state now) w ≤ reach (state now) w = omega arith in z)) s.visits;
      last = s.last;
    }

-- the end was shown
pub scavenged_end : (old now new : Pass) (l mark w : ℕ) → IsStop (state now) l w → Scavenging old now l mark w → Ends now new l w → Scavenged old new l
scavenged_end old now new l mark w stop s t = record {
  added = s.added ++ t.added;
  tries = tries_trans old now new s.added t.added s.tries t.tries;
  mark = mark;
  marked = mark_on s.added t.added l mark s.marked;
  countless = countless-append s.added t.added s.countless t.countless;
  rows = s.rows;
  visits = visits_on old now new s.added t.added l 0 w s.rows t.tries t.early tt (subst (λ (i : ℕ). reach (state now) i ≤ reach (state now) w) (sym s.last) (let z : reach (state now) w ≤ reach (state now) w = omega arith in z)) s.visits;
  end = inr (subst (EndShown new (s.added ++ t.added) l) (sym s.last) (end_on t.shown));
}
  where
    end_on : EndShown new t.added l w → EndShown new (s.added ++ t.added) l w
    end_on (inl e) = inl (link_last (node_at l w) s.added t.added 0 e)
    end_on (inr x) = inr (x.0, x.1, link_last (node_at l w) s.added t.added (suc x.0) x.2, link_last (nodes.Row x.0) s.added t.added 0 x.3)

-- or the mark was reached
pub scavenged_mark : (old now : Pass) (l mark w : ℕ) → Scavenging old now l mark w → mark < reach (state now) w → Scavenged old now l
scavenged_mark old now l mark w s far = record {
  added = s.added;
  tries = s.tries;
  mark = mark;
  marked = s.marked;
  countless = s.countless;
  rows = s.rows;
  visits = s.visits;
  end = inl (subst (λ (i : ℕ). mark < reach (state now) i) (sym s.last) far);
}

-- the place word of a row shows its place
pub place_shown : (q : Queue) (r n : ℕ) (x : Row) → Shows (steps.Load (wordnames.Draft r drafts.Place)) n q → row_at q r ≡ Some x → n ≡ place_at q r
place_shown q r n x s found = sym s.2 ∙ (s.1.drafted r x found).place

pub reaches_of : (old new : Pass) (l w r : ℕ) (o : Option ℕ) → StepsOver old new l w o → o ≡ Some r → Reaches old new l w r
reaches_of old new l w r o s is = subst (λ (p : Option ℕ). StepsOver old new l w p) is s

pub ends_over : (old new : Pass) (l w : ℕ) (o : Option ℕ) → StepsOver old new l w o → o ≡ None → Ends old new l w
ends_over old new l w o s is = subst (λ (p : Option ℕ). StepsOver old new l w p) is s

-- A turn: a step over came to row r, and its place was loaded.
module _ {C : Type 0} (e : Entries C) (old now mid new : Pass) (l mark w r n : ℕ) (table : IsPassOf e now) (stop : IsStop (state now) l w) (s : Scavenging old now l mark w) (k1 : Kept now mid) (t : Reaches now mid l w r)
    (k : Kept mid new) (rights : KeepsRights mid new) (d : Did mid new []) (shows : Shows (steps.Load (wordnames.Draft r drafts.Place)) n (state new)) (log : shown new ≡ shown mid ++ entry (steps.Load (wordnames.Draft r drafts.Place)) n n (seen new) ∷ []) where
  abbrev us : List Tried
  us = entry (steps.Load (wordnames.Draft r drafts.Place)) n n (seen new) ∷ []

  look : Tries mid new us
  look = tried mid new us k rights d log

  there : IsOfList (state new) l r
  there = row_on mid new us look l r t.names.there

  pub links_turn : Scavenging old new l mark (suc r)
  links_turn = passed_look old mid new l mark (suc r) n (wordnames.Draft r drafts.Place) t.names.there (visited old now mid l mark w r stop s t) k rights d log (λ v. refl)

  pub stop_turn : IsStop (state new) l (suc r)
  stop_turn = there

  pub mark_turn : mark ≤ n → Scavenged old new l
  mark_turn far = let place = place_shown (state new) r n there.0 shows there.1 in scavenged_mark old new l mark (suc r) links_turn (omega (arith, place, far))

  pub less_turn : e.shape.rows - reach (state new) (suc r) < e.shape.rows - reach (state now) w
  less_turn =
      let low = (row_low e mid l r (pass_of e now mid table k1) t.names.there).1 in
      let start = reach_on now mid t.added t.tries l w stop in
      let behind = t.names.behind in
      let place = place_on mid new us look r t.names.there.0 t.names.there.1 in omega (arith, low, start, behind, place)
