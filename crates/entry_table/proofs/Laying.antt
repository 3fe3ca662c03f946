-- entries that are laid down by a pass that is alone
use Rattle.std.proofs.Common.{true, ◌≡◌, ℕ, ◌+◌, ◌-◌, ◌<◌, ◌≤◌, ◌==◌, List, [], ◌∷◌, ◌++◌, find, Option, Some, None, option_map, refl, sym, ap, ◌∙◌, subst, arith, append-nil, eq-eqb, eqb-true}
use Rattle.std.specs.Prelude.{slice_index, unwrap_or}
use Rattle.queue_model.specs.declared.deeds.Act.{Act}
use Rattle.queue_model.specs.declared.deeds.Act.TheVariants as acts
use Rattle.queue_model.specs.declared.deeds.Deed.{Deed}
use Rattle.queue_model.specs.declared.queues.Queue.{Queue}
use Rattle.queue_model.specs.declared.queues.Reservation.{Reservation}
use Rattle.queue_model.specs.declared.rows.Row.{Row}
use Rattle.queue_model.specs.declared.rows.Slip.{Slip}
use Rattle.queue_model.specs.declared.steps.DraftWord.{DraftWord}
use Rattle.queue_model.specs.declared.steps.DraftWord.TheVariants as drafts
use Rattle.queue_model.specs.declared.steps.Node.{Node}
use Rattle.queue_model.specs.declared.steps.Node.TheVariants as nodes
use Rattle.queue_model.specs.declared.steps.Step.TheVariants as steps
use Rattle.queue_model.specs.History.{after, Legal, deed}
use Rattle.queue_model.specs.Keyed.{alter}
use Rattle.queue_model.specs.State.{row_at, list_at, is_holder, nothing, reserved_by}
use Rattle.queue_model.specs.Table.{acted, reserving, more, less, CanGive}
use Rattle.queue_model.proofs.Histories.{after-append, legal_rest}
use Rattle.queue_model.proofs.KeyedLemmas.{find-here, find_passes, find-alter}
use Rattle.acts_core.specs.Load.{Load}
use Rattle.link_core.specs.Layout.{link_of, row_link_of}
use Rattle.link_core.specs.Stands.{Stands, Chain}
use Rattle.link_core.specs.Steps.{shown}
use Rattle.link_core.specs.Table.{Table}
use Rattle.entry_table.specs.declared.draft.Draft.{Draft}
use Rattle.entry_table.specs.declared.view.Drawing.{Drawing}
use Rattle.entry_table.specs.declared.view.View.{View}
use Rattle.entry_table.specs.Views.{caller_of, is_drawing, drawing_at, blank_drawing, with_word, drawn_without, slip_of, state_in}
use Rattle.entry_table.specs.Plays.{Went, by_me, Deepens, depth_view, DidReserve, DidDraw, stored_view, IsDrawnBy, IsKnown, list_at_node, place_at_node, Linkable, CanLink, DidEnter, Blocked, enters}
use Rattle.entry_table.specs.Starting.{node_of, NoneBehind, laid, drawing_of, Wrote, CanLay, DidLay}
use Rattle.entry_table.proofs.Entering.{entered}
use Rattle.entry_table.proofs.Joining.{went_trans}
use Rattle.entry_table.proofs.Keeping.{Same}

-- Reservations

pub did_reserve : (v w : View) (size n n' : ℕ) → v.slot ≡ None → Deepens v w (steps.Reserve size) (acts.Reserve size) (v.allowance - 1) n n' → DidReserve v w size
did_reserve v w size n n' idle d =
    let m : View = depth_view v (steps.Reserve size) (acts.Reserve size) (v.allowance - 1) n n' d.before in
    record {
      went = d.went;
      view = d.view ∙ ap (λ (o : Option ℕ). record m { slot = o }) (sym idle) ∙ ap (λ (z : View). record v { allowance = v.allowance - 1; told = []; seen = z.seen; shown = z.shown }) (sym d.view);
    }

-- What is seen alone

-- a pass that is alone sees no deeds but its own
pub state_more : (v w : View) (ds : List Deed) → v.alone ≡ true → Went v w ds → w.opening ≡ v.opening → state_in w ≡ after (state_in v) ds
state_more v w ds one went same = ap (λ (o : Queue). after o w.seen) same ∙ ap (after v.opening) (went.alone one) ∙ after-append v.opening v.seen ds

-- Draft words

-- the words of a row's draft so far
pub record Writes (v w : View) (row : ℕ) (d : Drawing) : Type 0 where
  pub went : Went v w []
  pub drawing : drawing_at w row ≡ Some d
  pub view : w ≡ record v { drawn = w.drawn; told = []; seen = w.seen }

same_stored : (v w : View) (row : ℕ) (word : DraftWord) (value : ℕ) → w ≡ stored_view v row word value w.seen → Same v w
same_stored v w row word value e = record { shape = ap (λ (z : View). z.shape) e; opening = ap (λ (z : View). z.opening) e; callers = ap (λ (z : View). z.callers) e; made = ap (λ (z : View). z.made) e; alone = ap (λ (z : View). z.alone) e; consumers = ap (λ (z : View). z.consumers) e }

row_kept : (word : DraftWord) (value : ℕ) (d : Drawing) → (with_word word value d).row ≡ d.row
row_kept drafts.Mask n d = refl
row_kept drafts.Place n d = refl
row_kept drafts.Ident n d = refl
row_kept drafts.Size n d = refl
row_kept drafts.List n d = refl

-- the drawing after a store
stored_drawing : (v w : View) (row : ℕ) (word : DraftWord) (value : ℕ) (d : Drawing) → drawing_at v row ≡ Some d → w ≡ stored_view v row word value w.seen → drawing_at w row ≡ Some (with_word word value d)
stored_drawing v w row word value d drawing e =
    let new : Drawing = with_word word value d in
    let is_row_new : is_drawing row new ≡ true = ap (λ (z : ℕ). z == row) (row_kept word value d) ∙ find_passes (is_drawing row) v.drawn d drawing in
    ap (λ (z : View). drawing_at z row) e ∙ find-alter (is_drawing row) (option_map (with_word word value)) v.drawn new (ap (option_map (with_word word value)) drawing) is_row_new

pub first_word : (v w : View) (row : ℕ) (word : DraftWord) (value : ℕ) (d : Drawing) → drawing_at v row ≡ Some d → Went v w [] → w ≡ stored_view v row word value w.seen → Writes v w row (with_word word value d)
first_word v w row word value d drawing went e = record {
  went = went;
  drawing = stored_drawing v w row word value d drawing e;
  view = e ∙ ap (λ (z : View). record v { drawn = z.drawn; told = []; seen = z.seen }) (sym e);
}

pub next_word : (v u w : View) (row : ℕ) (word : DraftWord) (value : ℕ) (d : Drawing) → Writes v u row d → Went u w [] → w ≡ stored_view u row word value w.seen → Writes v w row (with_word word value d)
next_word v u w row word value d s went e =
    let before : Same v u = record { shape = ap (λ (z : View). z.shape) s.view; opening = ap (λ (z : View). z.opening) s.view; callers = ap (λ (z : View). z.callers) s.view; made = ap (λ (z : View). z.made) s.view; alone = ap (λ (z : View). z.alone) s.view; consumers = ap (λ (z : View). z.consumers) s.view } in
    let is : w ≡ stored_view (record v { drawn = u.drawn; told = []; seen = u.seen }) row word value w.seen = e ∙ ap (λ (z : View). stored_view z row word value w.seen) s.view in
    record {
      went = went_trans v u w [] [] before s.went went;
      drawing = stored_drawing u w row word value d s.drawing e;
      view = is ∙ ap (λ (z : View). record v { drawn = z.drawn; told = []; seen = z.seen }) (sym is);
    }

-- all five words were written
pub all_words : (v w : View) (row place : ℕ) (slip : Slip) (d : Drawing) → drawing_at v row ≡ Some d
    → Writes v w row (with_word drafts.List slip.list (with_word drafts.Size slip.size (with_word drafts.Ident slip.id (with_word drafts.Place place (with_word drafts.Mask slip.mask d))))) → Wrote v w row place slip
all_words v w row place slip d drawing s =
    let number : d.row ≡ row = eqb-true d.row row (find_passes (is_drawing row) v.drawn d drawing) in record {
      went = s.went;
      drawing = s.drawing ∙ ap (λ (r : ℕ). Some (drawing_of r place slip)) number;
      view = s.view;
    }

-- a row that was just drawn
pub just_drawn : (v w : View) (row : ℕ) → DidDraw v w row → IsDrawnBy w row
just_drawn v w row d =
    let shape : w.shape.rows ≡ v.shape.rows = ap (λ (z : View). z.shape.rows) d.view in
    let low = d.low in record {
      d = blank_drawing row;
      drawing = ap (λ (z : View). drawing_at z row) d.view ∙ find-here (is_drawing row) (blank_drawing row) v.drawn (eq-eqb row row refl);
      low = omega (arith, low, shape);
    }

-- Nodes

-- a reservation leaves rows as they are
known_reserving : (q : Queue) (h size : ℕ) (node : Node) → IsKnown q node → IsKnown (reserving q h size) node
known_reserving q h size (nodes.Head l) known = known
known_reserving q h size (nodes.Row a) known = known

list_reserving : (q : Queue) (h size : ℕ) (node : Node) → list_at_node (reserving q h size) node ≡ list_at_node q node
list_reserving q h size (nodes.Head l) = refl
list_reserving q h size (nodes.Row a) = refl

place_reserving : (q : Queue) (h size : ℕ) (node : Node) → place_at_node (reserving q h size) node ≡ place_at_node q node
place_reserving q h size (nodes.Head l) = refl
place_reserving q h size (nodes.Row a) = refl

none_reserving : (q : Queue) (h size : ℕ) (node : Node) → NoneBehind q node → NoneBehind (reserving q h size) node
none_reserving q h size (nodes.Head l) last = last
none_reserving q h size (nodes.Row a) last = last

-- the link of the last row is empty
chain_last : (w : ℕ) (words : List ℕ) (xs : List Row) (x : Row) → Chain words w (xs ++ x ∷ []) → slice_index words (row_link_of x.number) ≡ 0
chain_last w words [] x c = c.1
chain_last w words (y ∷ ys) x c = chain_last (slice_index words (row_link_of y.number)) words ys x c.1

-- nothing stands behind the node, so its link is empty
empty_link : (t : Table) (q : Queue) (row : ℕ) (node : Node) → Stands t q → IsKnown q node → NoneBehind q node → shown t (steps.Link row node) ≡ 0
empty_link t q row (nodes.Head l) s known last =
    let same = s.shaped.lists in
    let few : l < t.lists = let lt : l < q.lists = known in omega (arith, same, lt) in
    subst (λ (xs : List Row). Chain t.words (slice_index t.words (link_of t.rows (nodes.Head l))) xs) last (s.links l few)
empty_link t q row (nodes.Row a) s known last =
    let same = s.shaped.lists in
    let l : ℕ = list_at q a in
    let low = last.2 in
    let few : l < t.lists = omega (arith, same, low) in
    subst (λ (k : ℕ). slice_index t.words (row_link_of k) ≡ 0) last.4
    (chain_last (slice_index t.words (link_of t.rows (nodes.Head l))) t.words last.0 last.1 (subst (λ (xs : List Row). Chain t.words (slice_index t.words (link_of t.rows (nodes.Head l))) xs) last.3 (s.links l few)))

-- One entry

-- what is reserved of nothing
one_reserved : (size : ℕ) → size ≤ 1048576 → CanGive (record { holder = 0; entries = 0 + 1; bytes = 0 + size }) size
one_reserved size few = record { entry = omega arith; bytes = omega arith; rest = omega (arith, few) }

-- what a pass that is alone has reserved right after it
reserved_one : (q : Queue) (size : ℕ) → q.reserved ≡ [] → size ≤ 1048576 → CanGive (reserved_by (reserving q 0 size) 0) size
reserved_one q size none_yet few = subst (λ (l : List Reservation). CanGive (unwrap_or (find (is_holder 0) (alter (is_holder 0) (more 0 size) l)) (nothing 0)) size) (sym none_yet) (one_reserved size few)

-- what an Enq right behind it makes
entered_one : (q : Queue) (row : ℕ) (slip : Slip) (content origin : List ℕ) (n : ℕ) → q.reserved ≡ [] → acted (reserving q 0 slip.size) 0 (acts.Enq row slip content origin n) ≡ laid q (entered row slip content origin n)
entered_one q row slip content origin n none_yet = ap (λ (l : List Reservation). record q { rows = q.rows ++ entered row slip content origin n ∷ []; reserved = alter (is_holder 0) (less slip.size) (alter (is_holder 0) (more 0 slip.size) l) }) none_yet

module _ {C : Type 0} (load : C → Load) where
  module _ (v v1 v2 v3 : View) (w n row : ℕ) (slip : Slip) (c : C) (can : CanLay load v w n slip c) (r : DidReserve v v1 slip.size) (d : DidDraw v1 v2 row) (t : Wrote v2 v3 row n slip) where
    zero_caller : caller_of v.callers ≡ 0
    zero_caller = ap caller_of can.caller

    alone_1 : v1.alone ≡ true
    alone_1 = ap (λ (z : View). z.alone) r.view ∙ can.alone

    alone_2 : v2.alone ≡ true
    alone_2 = ap (λ (z : View). z.alone) d.view ∙ alone_1

    alone_3 : v3.alone ≡ true
    alone_3 = ap (λ (z : View). z.alone) t.view ∙ alone_2

    callers_3 : v3.callers ≡ v.callers
    callers_3 = ap (λ (z : View). z.callers) t.view ∙ (ap (λ (z : View). z.callers) d.view ∙ ap (λ (z : View). z.callers) r.view)

    -- the state right before the link
    pub state_3 : state_in v3 ≡ reserving (state_in v) 0 slip.size
    state_3 = state_more v2 v3 [] alone_2 t.went (ap (λ (z : View). z.opening) t.view)
        ∙ (state_more v1 v2 [] alone_1 d.went (ap (λ (z : View). z.opening) d.view)
        ∙ (state_more v v1 (by_me v (acts.Reserve slip.size) ∷ []) can.alone r.went (ap (λ (z : View). z.opening) r.view)
        ∙ ap (λ (k : ℕ). reserving (state_in v) k slip.size) zero_caller))

    pub can_link : (draft : Draft C) → draft.row ≡ row → draft.cargo ≡ c → CanLink load v3 0 draft (node_of slip.list w)
    can_link draft same_row same_cargo =
        let q : Queue = state_in v in
        let node : Node = node_of slip.list w in
        record {
          d = drawing_of row n slip;
          drawing = ap (drawing_at v3) same_row ∙ t.drawing;
          linkable = subst (λ (z : Queue). Linkable z 0 (drawing_of row n slip) node) (sym state_3) (record {
            known = known_reserving q 0 slip.size node can.end.known;
            list = sym (list_reserving q 0 slip.size node ∙ can.end.list);
            place = sym (place_reserving q 0 slip.size node ∙ can.end.place);
            mask = can.may.fits.mask;
            size = can.may.fits.size;
            reserved = reserved_one q slip.size can.reserved can.may.fits.size;
          });
          id = ap (λ (z : C). (load z).id) same_cargo ∙ can.may.id;
          size = ap (λ (z : C). (load z).size) same_cargo ∙ can.may.size;
        }

    -- no other link can be there
    pub no_block : (u : View) (draft : Draft C) (back : ℕ) (cargo : C) (node : Node) (k : ℕ) → node ≡ node_of slip.list w → Blocked v3 u draft back cargo node k → ⊥
    no_block u draft back cargo node k is b =
        let q : Queue = state_in v in
        let known : IsKnown q node = subst (IsKnown q) (sym is) can.end.known in
        let last : NoneBehind q node = subst (NoneBehind q) (sym is) can.end.last in
        let now : after v3.opening u.seen ≡ reserving q 0 slip.size = ap (after v3.opening) (b.went.alone alone_3 ∙ append-nil v3.seen) ∙ state_3 in
        let stands : Stands b.shows.0 (reserving q 0 slip.size) = subst (Stands b.shows.0) now b.shows.1 in
        b.other (sym b.shows.2 ∙ empty_link b.shows.0 (reserving q 0 slip.size) draft.row node stands (known_reserving q 0 slip.size node known) (none_reserving q 0 slip.size node last))

    -- the entry is laid down
    pub lay_done : (u : View) (draft : Draft C) (node : Node) → draft.row ≡ row → draft.cargo ≡ c → DidEnter load v3 u draft node → DidLay load v u slip c draft.row
    lay_done u draft node same_row same_cargo e = subst (DidLay load v u slip c) (sym same_row) done where
      done : DidLay load v u slip c row
      done =
          let q : Queue = state_in v in
          let l : Load = load c in
          let both : Some e.d ≡ Some (drawing_of row n slip) = sym e.drawing ∙ (ap (drawing_at v3) same_row ∙ t.drawing) in
          let is_d : e.d ≡ drawing_of row n slip = cc in
          let slip' : Slip = slip_of (drawing_of row n slip) in
          let is_slip : slip' ≡ slip = λ i. record slip { key = sym can.may.key i } in
          let a : Act = enters draft.row e.d (load draft.cargo) in
          let a' : Act = acts.Enq row slip' l.content l.origin l.count in
          let is_a : a ≡ a' = λ i. enters (same_row i) (is_d i) (load (same_cargo i)) in
          let x : Row = entered row slip' l.content l.origin l.count in
          let k_3 : caller_of v3.callers ≡ 0 = ap caller_of callers_3 ∙ zero_caller in
          let deeds : by_me v3 a ∷ [] ≡ deed 0 a' ∷ [] = λ i. deed (k_3 i) (is_a i) ∷ [] in
          let now : state_in u ≡ acted (reserving q 0 slip.size) 0 a' =
          state_more v3 u (by_me v3 a ∷ []) alone_3 e.went (ap (λ (z : View). z.opening) e.view)
          ∙ (ap (after (state_in v3)) deeds ∙ ap (λ (z : Queue). acted z 0 a') state_3) in
          let legal : Legal v3.opening (v3.seen ++ deed 0 a' ∷ []) = subst (Legal v3.opening) (e.went.alone alone_3 ∙ ap (λ (ds : List Deed). v3.seen ++ ds) deeds) e.went.steps.legal in
          let fits = (legal_rest v3.opening v3.seen (deed 0 a' ∷ []) legal).0 in
          let G3 : View → View = λ z. record z { reached = u.reached; drawn = drawn_without draft.row v3.drawn; told = []; seen = u.seen; shown = u.shown } in
          let G2 : View → View = λ z. record z { drawn = v3.drawn; told = []; seen = v3.seen } in
          let G1 : View → View = λ z. record z { share = z.share - 1; reached = row + 1; drawn = blank_drawing row ∷ z.drawn; told = []; seen = v2.seen; shown = v2.shown } in
          let nested : u ≡ G3 (G2 (G1 (record v { allowance = v.allowance - 1; told = []; seen = v1.seen; shown = v1.shown }))) = e.view ∙ ap G3 (t.view ∙ ap G2 (d.view ∙ ap G1 r.view)) in
          record {
            x = x;
            started = record {
              slip_is = is_slip;
              state = refl;
              same = record { id = can.may.id; size = can.may.size; count = refl; content = refl; origin = refl };
            };
            number = refl;
            new = ap (λ (z : Queue). row_at z row) (sym state_3) ∙ fits.new;
            state = now ∙ ap (λ (s : Slip). acted (reserving q 0 s.size) 0 (acts.Enq row slip' l.content l.origin l.count)) (sym is_slip) ∙ entered_one q row slip' l.content l.origin l.count can.reserved;
            view = nested ∙ ap (λ (z : View). record v { allowance = v.allowance - 1; share = v.share - 1; reached = z.reached; drawn = z.drawn; told = []; seen = z.seen; shown = z.shown }) (sym nested);
          }

-- the row stays drawn over a store
pub still_drawn : (v w : View) (row r : ℕ) (word : DraftWord) (value : ℕ) → IsDrawnBy v row → w ≡ stored_view v row word value w.seen → r ≡ row → IsDrawnBy w r
still_drawn v w row r word value d e same =
    let shape : w.shape.rows ≡ v.shape.rows = ap (λ (z : View). z.shape.rows) e in
    let low = d.low in record {
      d = with_word word value d.d;
      drawing = ap (λ (k : ℕ). drawing_at w k) same ∙ stored_drawing v w row word value d.d d.drawing e;
      low = omega (arith, low, shape, same);
    }

-- one word more, of a row that is named otherwise
pub word_more : (v u w : View) (row r : ℕ) (word : DraftWord) (value : ℕ) (d : Drawing) → r ≡ row → Writes v u row d → Went u w [] → w ≡ stored_view u r word value w.seen → Writes v w row (with_word word value d)
word_more v u w row r word value d same s went e = next_word v u w row word value d s went (subst (λ (k : ℕ). w ≡ stored_view u k word value w.seen) same e)
