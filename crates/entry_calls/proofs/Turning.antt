-- one turn of a put, and the turns together
use Rattle.std.proofs.Common.{◌≡◌, ◌≢◌, ℕ, suc, ◌-◌, ◌^◌, ◌≤◌, ◌<◌, Some, None, [], ◌∷◌, ◌++◌, find, length, refl, sym, ap, ◌∙◌, subst, arith}
use Rattle.queue_model.specs.declared.deeds.Act.{Act}
use Rattle.queue_model.specs.declared.deeds.Deed.{Deed}
use Rattle.queue_model.specs.declared.queues.Queue.{Queue}
use Rattle.queue_model.specs.declared.rows.Row.{Row}
use Rattle.queue_model.specs.declared.rows.Slip.{Slip}
use Rattle.queue_model.specs.declared.steps.DraftWord.TheVariants as drafts
use Rattle.queue_model.specs.declared.steps.Node.{Node}
use Rattle.queue_model.specs.declared.steps.Step.TheVariants as steps
use Rattle.queue_model.specs.declared.steps.WordName.TheVariants as names
use Rattle.queue_model.specs.History.{after, Legal, deed}
use Rattle.queue_model.specs.State.{row_at, rows_of, place_at}
use Rattle.queue_model.specs.Table.{Can, acted}
use Rattle.queue_model.proofs.Histories.{after-append, legal_rest}
use Rattle.queue_model.proofs.Owns.{own_enqueued, own_enqueued_last}
use Rattle.acts_core.specs.Asked.{Enters}
use Rattle.acts_core.specs.Load.{Load}
use Rattle.acts_core.specs.Walks.{node_at, reach, IsStop}
use Rattle.entry_table.specs.declared.draft.Draft.{Draft}
use Rattle.entry_table.specs.declared.draft.Linking.{Linking}
use Rattle.entry_table.specs.declared.draft.Linking.TheVariants.{Linked, Behind}
use Rattle.entry_table.specs.declared.pass.Pass.{Pass}
use Rattle.entry_table.specs.declared.view.Drawing.{Drawing}
use Rattle.entry_table.specs.declared.view.Shape.{Shape}
use Rattle.entry_table.specs.declared.view.View.{View}
use Rattle.entry_table.specs.Passes.{Kept, Did, view, opening, seen, shown, state, callers, consumers, allowance, share, drawn}
use Rattle.entry_table.specs.Plays.{Steps, Shows, CanLink, LinkAnswer, DidEnter, Blocked, Linkable, stored_view, by_me, enters as enters_row, quiet}
use Rattle.entry_table.specs.Views.{caller_of, drawing_at, with_word, slip_of, entry}
use Rattle.entry_table.specs.Tries.{tries}
use Rattle.entry_table.proofs.Following.{link_tells, place_low}
use Rattle.entry_table.proofs.Trying.{linked_tries}
use Rattle.entry_calls.specs.Appends.{Ran, Described, Appended, Passed, Turned, enters}
use Rattle.entry_calls.proofs.Running.{ran_then, ran_store, drawing_stored, stop_ran, stop_on, known_stop, list_stop, place_stop, reach_some, row_stop, reach_low, enters_later}

-- the place word of a row
pub place_shown : (q : Queue) (row n : ℕ) (x : Row) → row_at q row ≡ Some x → Shows (steps.Load (names.Draft row drafts.Place)) n q → n ≡ place_at q row
place_shown q row n x found shows = sym shows.2 ∙ (shows.1.drafted row x found).place

-- p is the pass at the beginning of a turn, q the one when the place is known, and r the one when it is stored.
module _ {C : Type 0} (load : C → Load) (p q r : Pass) (draft given : Draft C) (slip : Slip) (stop place : ℕ) (described : Described p draft.row slip) (may : Enters (state p) p.caller slip (load draft.cargo)) (unkeyed : slip.key ≡ None) (stands : IsStop (state p) slip.list stop)
    (before : Ran p q []) (tries_same : tries (shown q) ≡ tries (shown p)) (drafts_same : drawn q ≡ drawn p) (place_is : place ≡ reach (state q) stop) (kept : Kept q r) (did : Did q r []) (is : view r ≡ stored_view (view q) draft.row drafts.Place place (seen r)) (same_row : given.row ≡ draft.row) (same_cargo : given.cargo ≡ draft.cargo) where
  abbrev d : Drawing
  d = with_word drafts.Place place described.d

  ran_here : Ran p r []
  ran_here = ran_then p q r [] before (ran_store q r draft.row place drafts.Place kept did is)

  drawing_here : drawing_at (view r) draft.row ≡ Some d
  drawing_here = drawing_stored q r draft.row place drafts.Place described.d is (ap (find (Rattle.entry_table.specs.Views.is_drawing draft.row)) drafts_same ∙ described.drawing)

  tries_here : tries (shown r) ≡ tries (shown p)
  tries_here = ap (λ (z : View). tries z.shown) is ∙ tries_same

  enters_here : Enters (state r) r.caller slip (load draft.cargo)
  enters_here = enters_later p r slip (load draft.cargo) ran_here may

  stop_here : IsStop (state r) slip.list stop
  stop_here = (stop_ran p r slip.list stop ran_here.keeps.kept.opening ran_here.did.prefix stands).0

  place_here : place ≡ reach (state r) stop
  place_here =
      let mid = stop_ran p q slip.list stop before.keeps.kept.opening before.did.prefix stands in
      place_is ∙ sym (stop_ran q r slip.list stop kept.opening did.prefix mid.0).1

  pub can_link : (node : Node) → node ≡ node_at slip.list stop → CanLink load (view r) r.caller given node
  can_link node at =
      let e = enters_here in
      let s = state r in record {
        d = d;
        drawing = ap (drawing_at (view r)) same_row ∙ drawing_here;
        linkable = subst (Linkable s r.caller d) (sym at) (record {
          known = known_stop s slip.list stop e.fits.list stop_here;
          list = described.list ∙ sym (list_stop s slip.list stop stop_here);
          place = place_here ∙ sym (place_stop s slip.list stop);
          mask = subst (λ (n : ℕ). n < 2 ^ s.consumers) (sym described.mask) e.fits.mask;
          size = subst (λ (n : ℕ). n ≤ Rattle.queue_model.specs.Table.most_bytes) (sym described.size) e.fits.size;
          reserved = subst (Rattle.queue_model.specs.Table.CanGive (Rattle.queue_model.specs.State.reserved_by s r.caller)) (sym described.size) e.reserved;
        });
        id = ap (λ (c : C). (load c).id) same_cargo ∙ sym e.id ∙ sym described.ident;
        size = ap (λ (c : C). (load c).size) same_cargo ∙ sym e.size ∙ sym described.size;
      }

  slip_is : slip_of d ≡ slip
  slip_is = λ i. record { id = described.ident i; size = described.size i; mask = described.mask i; list = described.list i; key = sym unkeyed i }

  -- the row was linked
  did_append : (new : Pass) (node : Node) → Kept r new → allowance new ≡ allowance r → share new ≡ share r → DidEnter load (view r) (view new) given node → Appended p new draft.row stop slip (load draft.cargo)
  did_append new node k a s e =
      let h : ℕ = r.caller in
      let act : Act = enters draft.row slip (load draft.cargo) in
      let me : caller_of (callers r) ≡ h = ap caller_of r.speaks in
      let both : Some e.d ≡ Some d = sym (sym (ap (drawing_at (view r)) same_row) ∙ e.drawing) ∙ drawing_here in
      let one : e.d ≡ d = cc in
      let act_is : enters_row given.row e.d (load given.cargo) ≡ act =
      (λ i. enters_row (same_row i) (one i) (load (same_cargo i))) ∙ ap (λ (z : Slip). enters draft.row z (load draft.cargo)) slip_is in
      let deed_is : by_me (view r) (enters_row given.row e.d (load given.cargo)) ≡ deed h act = (λ i. deed (me i) (act_is i)) in
      let last : seen new ≡ e.before ++ deed h act ∷ [] = e.seen ∙ ap (λ (x : Deed). e.before ++ x ∷ []) deed_is in
      let ran : Ran r new (act ∷ []) = record {
        keeps = record { kept = k; allowance = a; share = s };
        did = subst (λ (z : ℕ × Deed). Steps (opening r) z.0 (callers r) (consumers r) (seen r) (seen new) (z.1 ∷ [])) (λ i. (me i, deed_is i)) e.went.steps;
        added = _;
        shown_is = e.shown.shown_is;
      } in
      let O : Queue = opening r in
      let q0 : Queue = after O e.before in
      let legal : Legal O (e.before ++ deed h act ∷ []) = subst (Legal O) last ran.did.legal in
      let can : Can q0 h act = (legal_rest O e.before (deed h act ∷ []) legal).0 in
      let now : state new ≡ acted q0 h act = ap (λ (o : Queue). after o (seen new)) k.opening ∙ ap (after O) last ∙ after-append O e.before (deed h act ∷ []) in
      let l : Load = load draft.cargo in
      let found : row_at (state new) draft.row ≡ Some (record { number = draft.row; slip = slip; state = Rattle.queue_model.specs.declared.rows.RowState.TheVariants.Available; content = l.content; origin = l.origin; count = l.count }) =
      ap (λ (z : Queue). row_at z draft.row) now ∙ own_enqueued q0 h draft.row slip l.content l.origin l.count can in
      let place_new : place_at (state new) draft.row ≡ length (rows_of q0 slip.list) = ap (λ (z : Queue). place_at z draft.row) now ∙ own_enqueued_last q0 h draft.row slip l.content l.origin l.count can in
      let was = stop_on O (seen r) e.before slip.list stop e.prefix stop_here in
      let late : reach (state new) stop ≡ reach q0 stop = ap (λ (o : Queue). reach (after o (seen new)) stop) k.opening ∙ (stop_on O e.before (seen new) slip.list stop (deed h act ∷ [], sym last) was.0).1 in
      let low = reach_low q0 slip.list stop was.0 in
      let tried = linked_tries (view r) (view new) given.row node 0 (suc given.row) [] e.shown in record {
        ran = ran_then p r new (act ∷ []) ran_here ran;
        there = (_, found, refl);
        behind = omega (arith, late, low, place_new);
        tries = omega (arith, late, low, place_new, tried, tries_here);
      }

  -- another row was there
  did_pass : (new : Pass) (node : Node) (next : ℕ) (back : Draft C) → node ≡ node_at slip.list stop → Kept r new → allowance new ≡ allowance r → share new ≡ share r → Blocked (view r) (view new) given back.row back.cargo node next → Passed p new draft back stop next slip
  did_pass new node next back at k a s b =
      let me : caller_of (callers r) ≡ r.caller = ap caller_of r.speaks in
      let ran : Ran r new [] = record {
        keeps = record { kept = k; allowance = a; share = s };
        did = subst (λ (h : ℕ). Steps (opening r) h (callers r) (consumers r) (seen r) (seen new) []) me b.went.steps;
        added = _;
        shown_is = b.shown.shown_is;
      } in
      let Q : Queue = state new in
      let all = ran_then p r new [] ran_here ran in
      let here = stop_ran p new slip.list stop all.keeps.kept.opening all.did.prefix stands in
      let e = enters_later p new slip (load draft.cargo) all may in
      let shows : Shows (steps.Link given.row (node_at slip.list stop)) next Q = subst (λ (z : Queue × Node). Shows (steps.Link given.row z.1) next z.0) (λ i. (ap (λ (o : Queue). after o (seen new)) (sym k.opening) i, at i)) b.shows in
      let lists = shows.1.shaped.lists in
      let inside = e.fits.list in
      let tells = link_tells shows.0 Q slip.list stop shows.1 (omega (arith, lists, inside)) here.0 in
      let some : next ≢ 0 = b.other in
      let number : next ≡ suc (next - 1) = omega (arith, some) in
      let t = tells.leads (next - 1) (shows.2 ∙ number) in
      let far = reach_some Q next some in
      let tried = linked_tries (view r) (view new) given.row node next next (quiet b.last (seen new) ∷ []) b.shown in
      let behind = t.1 in
      let place_in = place_low (view new).shape Q (next - 1) t.0.0 new.within t.0.1 in record {
        ran = all;
        same_row = b.same_row ∙ same_row;
        same_cargo = b.same_cargo ∙ same_cargo;
        described = record {
          d = d;
          drawing = ap (λ (z : View). drawing_at z draft.row) b.view ∙ drawing_here;
          low = subst (λ (z : Shape). draft.row < z.rows) (sym all.keeps.kept.shape) described.low;
          mask = described.mask;
          ident = described.ident;
          size = described.size;
          list = described.list;
        };
        stands = row_stop Q slip.list next some t.0;
        more = omega (arith, far, behind);
        low = omega (arith, far, place_in);
        tries = omega (arith, far, behind, tried, tries_here);
      }

  pub turned : (new : Pass) (node : Node) (answer : Linking C) → node ≡ node_at slip.list stop → Kept r new → allowance new ≡ allowance r → share new ≡ share r → LinkAnswer load node given (view r) (view new) answer → Turned load p new draft stop slip answer
  turned new node Linked at k a s e = did_append new node k a s e
  turned new node (Behind next back) at k a s b = did_pass new node next back at k a s b
