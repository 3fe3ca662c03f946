-- what is told of a deleted row
use Rattle.std.proofs.Common.{◌≡◌, inl, inr, ℕ, suc, ◌+◌, ◌^◌, ◌<◌, ◌≤◌, max, Option, Some, None, List, [], ◌∷◌, ◌++◌, refl, sym, ap, ◌∙◌, arith}
use Rattle.std.specs.Prelude.{◌%◌}
use Rattle.queue_model.specs.declared.queues.Queue.{Queue}
use Rattle.queue_model.specs.declared.rows.Row.{Row}
use Rattle.queue_model.specs.declared.steps.DraftWord.TheVariants as drafts
use Rattle.queue_model.specs.declared.steps.Node.TheVariants as nodes
use Rattle.queue_model.specs.declared.steps.Step.TheVariants as steps
use Rattle.queue_model.specs.declared.steps.Tried.{Tried}
use Rattle.queue_model.specs.declared.steps.WordName.TheVariants as wordnames
use Rattle.queue_model.specs.History.{after}
use Rattle.queue_model.specs.State.{row_at, list_at, place_at}
use Rattle.queue_model.proofs.SoundSteps.{list_found, row_fits}
use Rattle.queue_model.proofs.Prefixes.{prefix_trans}
use Rattle.acts_core.specs.Sight.{on_head}
use Rattle.acts_core.specs.Walks.{node_at, IsOfList, IsStop}
use Rattle.acts_core.proofs.Stepping.{no_head-append}
use Rattle.acts_core.proofs.Walking.{find-behind}
use Rattle.entry_table.specs.declared.entries.Entries.{Entries}
use Rattle.entry_table.specs.declared.pass.Pass.{Pass}
use Rattle.entry_table.specs.declared.view.Shape.{Shape}
use Rattle.entry_table.specs.Passes.{IsPassOf, Kept, Did, KeepsRights, seen, shown, state}
use Rattle.entry_table.specs.Plays.{Shows}
use Rattle.entry_table.specs.Views.{entry}
use Rattle.entry_table.proofs.Later.{known_later}
use Rattle.scavenge_core.specs.Skips.{Tries, Early, Begun, EndShown, StepsOver}
use Rattle.scavenge_core.specs.Scavenges.{LooksUp, Noted, OnDeleted, Scavenged}
use Rattle.scavenge_core.proofs.Lasting.{tries_trans, tried, row_on, place_on, stop_on, reach_on}
use Rattle.scavenge_core.proofs.Logs.{looks-append, hops-append, countless-append, link_last, link_neither}
use Rattle.scavenge_core.proofs.Visiting.{place_shown}

-- the list word of a row shows its list
pub list_shown : (old new : Pass) (row n : ℕ) → Kept old new → Did old new [] → (x : Row) × (row_at (state old) row ≡ Some x) → Shows (steps.Load (wordnames.Draft row drafts.List)) n (state new) → IsOfList (state new) n row
list_shown old new row n k d known shows =
    let y = known_later old new row k d known in
    (y.0, y.1, sym (shows.1.drafted row y.0 y.1).list ∙ shows.2)

-- the list of a row is one of the table
pub list_low : {C : Type 0} (e : Entries C) (p : Pass) (l row : ℕ) → IsPassOf e p → IsOfList (state p) l row → l < e.shape.lists
list_low e p l row table there =
    let low = (row_fits (state p) row there.0 p.within.sound there.1).list in
    let list = there.2 in
    let lists = p.within.lists in
    let same = ap (λ (s : Shape). s.lists) table.shape in omega (arith, low, list, lists, same)

-- The mark was raised to the row's place, and the count went up.
module _ (old a b m new : Pass) (l row place n : ℕ) (looked : LooksUp old a) (there : IsOfList (state a) l row)
    (k1 : Kept a b) (r1 : KeepsRights a b) (d1 : Did a b []) (shows : Shows (steps.Load (wordnames.Draft row drafts.Place)) place (state b)) (e1 : shown b ≡ shown a ++ entry (steps.Load (wordnames.Draft row drafts.Place)) place place (seen b) ∷ [])
    (k2 : Kept b m) (r2 : KeepsRights b m) (d2 : Did b m []) (e2 : (x : ℕ) × (shown m ≡ shown b ++ entry (steps.Mark l place) x (max x place) (seen m) ∷ []))
    (k3 : Kept m new) (r3 : KeepsRights m new) (d3 : Did m new []) (e3 : shown new ≡ shown m ++ entry (steps.Count l) n ((n + 1) % 2 ^ 64) (seen new) ∷ []) where
  abbrev zeroth : Tried
  zeroth = entry (steps.Load (wordnames.Draft looked.0 looked.1)) looked.2 looked.2 (seen a)

  abbrev first : Tried
  first = entry (steps.Load (wordnames.Draft row drafts.Place)) place place (seen b)

  abbrev second : Tried
  second = entry (steps.Mark l place) e2.0 (max e2.0 place) (seen m)

  abbrev third : Tried
  third = entry (steps.Count l) n ((n + 1) % 2 ^ 64) (seen new)

  t1 : Tries a b (first ∷ [])
  t1 = tried a b (first ∷ []) k1 r1 d1 e1

  t2 : Tries b m (second ∷ [])
  t2 = tried b m (second ∷ []) k2 r2 d2 e2.1

  t3 : Tries m new (third ∷ [])
  t3 = tried m new (third ∷ []) k3 r3 d3 e3

  there_b : IsOfList (state b) l row
  there_b = row_on a b (first ∷ []) t1 l row there

  there_m : IsOfList (state m) l row
  there_m = row_on b m (second ∷ []) t2 l row there_b

  place_is : place ≡ place_at (state new) row
  place_is =
      place_shown (state b) row place there_b.0 shows there_b.1 ∙ sym (place_on b m (second ∷ []) t2 row there_b.0 there_b.1) ∙ sym (place_on m new (third ∷ []) t3 row there_m.0 there_m.1)

  pub noted : Noted old new l row n
  noted = record {
    added = zeroth ∷ first ∷ second ∷ third ∷ [];
    tries = tries_trans old m new (zeroth ∷ first ∷ second ∷ []) (third ∷ []) (tries_trans old b m (zeroth ∷ first ∷ []) (second ∷ []) (tries_trans old a b (zeroth ∷ []) (first ∷ []) looked.3 t1) t2) t3;
    there = row_on m new (third ∷ []) t3 l row there_m;
    front = zeroth ∷ first ∷ [];
    mark = second;
    back = third ∷ [];
    marks = refl;
    raised = (ap (λ (i : ℕ). steps.Mark l i) place_is, ap (λ (i : ℕ). max e2.0 i) place_is);
    counted = refl;
  }

  -- few were deleted
  pub few_deleted : n < 49 → OnDeleted old new row
  few_deleted few = (l, n, inl (few, noted))

  -- many were
  pub many_deleted : 49 ≤ n → (late last : Pass) (before : ℕ) → Kept new late → KeepsRights new late → Did new late [] → shown late ≡ shown new ++ entry (steps.Reset l) before 0 (seen late) ∷ [] → Scavenged late last l → OnDeleted old last row
  many_deleted many late last before k r d e s = (l, n, inr (many, record { mid = new; noted = noted; late = late; before = before; reset = tried new late (entry (steps.Reset l) before 0 (seen late) ∷ []) k r d e; scavenged = s }))

-- what was done for a deleted row are steps of the pass, and no act
pub deleted_tries : (old new : Pass) (row : ℕ) → OnDeleted old new row → (added : List Tried) × Tries old new added
deleted_tries old new row (l, n, inl few) = (few.1.added, few.1.tries)
deleted_tries old new row (l, n, inr many) =
    let c = many.1 in
    let set_back : List Tried = entry (steps.Reset l) c.before 0 (seen c.late) ∷ [] in
    ((c.noted.added ++ set_back) ++ c.scavenged.added, tries_trans old c.late new (c.noted.added ++ set_back) c.scavenged.added (tries_trans old c.mid c.late c.noted.added set_back c.noted.tries c.reset) c.scavenged.tries)

-- A step over, from a row whose list was looked up

-- the list that was looked up is that of the row
pub list_of_row : (old mid : Pass) (l row : ℕ) (x : Row) → LooksUp old mid → row_at (state old) row ≡ Some x → IsOfList (state mid) l row → l ≡ list_at (state old) row
list_of_row old mid l row x looked found there =
    let us : List Tried = entry (steps.Load (wordnames.Draft looked.0 looked.1)) looked.2 looked.2 (seen mid) ∷ [] in
    let still = row_on old mid us looked.3 x.slip.list row (x, found, refl) in
    let both : Some there.0 ≡ Some still.0 = sym there.1 ∙ still.1 in
    let same : there.0 ≡ still.0 = cc in
    sym there.2 ∙ ap (λ (y : Row). y.slip.list) same ∙ still.2 ∙ sym (list_found (state old) row x found)

module _ (old mid new : Pass) (l w : ℕ) (stop : IsStop (state old) l w) (looked : LooksUp old mid) where
  abbrev before : List Tried
  before = entry (steps.Load (wordnames.Draft looked.0 looked.1)) looked.2 looked.2 (seen mid) ∷ []

  early_before : (added : List Tried) → Early mid l w added → Early old l w (before ++ added)
  early_before added early v known less =
      let rv = reach_on old mid before looked.3 l v known in
      let rw = reach_on old mid before looked.3 l w stop in
      link_neither (node_at l v) before added refl (early v (stop_on old mid before looked.3 l v known) (omega (arith, rv, rw, less)))

  begun_before : (added : List Tried) → Begun mid new l w added → Begun old new l w (before ++ added)
  begun_before added b = record {
    others = λ m away. no_head-append m before added refl (b.others m away);
    starts = λ head.
        let s = b.starts head in (
          s.0,
          record { later = prefix_trans (seen old) (seen mid) s.0 looked.3.steps.grows s.1.later; early = s.1.early },
          (s.2.0, find-behind (λ (x : Tried). on_head l x.step) before added refl ∙ s.2.1, s.2.2),
        );
  }

  pub steps_over_on : (result : Option ℕ) → StepsOver mid new l w result → StepsOver old new l w result
  steps_over_on None t = let few = t.looks in let few_hops = t.hops in record {
    added = before ++ t.added;
    tries = tries_trans old mid new before t.added looked.3 t.tries;
    gone = t.gone;
    shown = end_on t.shown;
    early = early_before t.added t.early;
    begun = begun_before t.added t.begun;
    countless = countless-append before t.added refl t.countless;
    looks = omega (arith, looks-append before t.added, few);
    hops = omega (arith, hops-append before t.added, few_hops);
  }
    where
      end_on : EndShown new t.added l w → EndShown new (before ++ t.added) l w
      end_on (inl e) = inl (link_last (node_at l w) before t.added 0 e)
      end_on (inr x) = inr (x.0, x.1, link_last (node_at l w) before t.added (suc x.0) x.2, link_last (nodes.Row x.0) before t.added 0 x.3)
  steps_over_on (Some r) t = let few = t.looks in let few_hops = t.hops in record {
    added = before ++ t.added;
    tries = tries_trans old mid new before t.added looked.3 t.tries;
    names = record { there = t.names.there; behind = t.names.behind; gone = t.names.gone; link = link_last (node_at l w) before t.added (suc r) t.names.link };
    live = record { moment = t.live.moment; later = prefix_trans (seen old) (seen mid) t.live.moment looked.3.steps.grows t.live.later; early = t.live.early; row = t.live.row; found = ap (λ (o : Queue). row_at (after o t.live.moment) r) (sym looked.3.kept.opening) ∙ t.live.found; live = t.live.live };
    early = early_before t.added t.early;
    begun = begun_before t.added t.begun;
    countless = countless-append before t.added refl t.countless;
    looks = omega (arith, looks-append before t.added, few);
    hops = omega (arith, hops-append before t.added, few_hops);
  }
