-- The rule: one history exists for which the words and slots stand, and which begins with what each pass has seen.
use Rattle.std.specs.Prelude.{◌≡◌, ℕ, zero, suc, ◌+◌, ◌<◌, ◌≤◌, true, Option, Some, None, ◌⊎◌, List, [], ◌∷◌, ◌++◌, length, slice_index}
use Rattle.std.specs.List.{sum_by}
use mathlib.Core.Option.{some, none}
use mathlib.Core.Option as maybe
use mathlib.Core.List.{IsPrefix}
use lib.ListN.{get_elem?}
use Rattle.atomic_table.specs.Table.{State}
use Rattle.queue_model.specs.declared.deeds.Deed.{Deed}
use Rattle.queue_model.specs.declared.queues.Queue.{Queue}
use Rattle.queue_model.specs.declared.queues.Reservation.{Reservation}
use Rattle.queue_model.specs.declared.rows.Row.{Row}
use Rattle.queue_model.specs.declared.rows.RowState.{RowState}
use Rattle.queue_model.specs.declared.rows.RowState.TheVariants.{Available, Locked, Unlocked, Dequeued, Deleted}
use Rattle.queue_model.specs.declared.steps.DraftWord.{DraftWord}
use Rattle.queue_model.specs.declared.steps.Node.{Node}
use Rattle.queue_model.specs.declared.steps.Node.TheVariants as nodes
use Rattle.queue_model.specs.History.{after, Legal, own}
use Rattle.acts_core.specs.Load.{Load}
use Rattle.acts_core.specs.Moments.{IsLoadOf}
use Rattle.queue_model.specs.Table.{most_entries}
use Rattle.acts_core.specs.Asked.{most_callers}
use Rattle.queue_model.specs.State.{empty, row_at, place_at, IsIn, entries}
use Rattle.link_core.specs.Layout.{link_of, draft_of}
use Rattle.link_core.specs.Stands.{Stands}
use Rattle.link_core.specs.Table.{Table}
use Rattle.entry_table.specs.declared.view.Drawing.{Drawing}
use Rattle.entry_table.specs.declared.view.Shape.{Shape}
use Rattle.entry_table.specs.declared.view.Told.{Told}
use Rattle.entry_table.specs.declared.view.View.{View}
use Rattle.entry_table.specs.declared.view.Watched.{Watched}
use Rattle.entry_table.specs.Views.{Has, caller_of, drawing_at, word_in, takes_of, AllEnd}

-- the numbers below n
abbrev pub below : ℕ → List ℕ
below zero = []
below (suc n) = below n ++ n ∷ []

-- the view of the boss when the table is made
abbrev pub boss : Shape → View
boss shape = record { shape = shape; opening = empty shape.lists shape.consumers; callers = 0 ∷ []; made = 1; alone = true; consumers = below shape.consumers; allowance = most_entries; share = shape.rows; reached = 0; drawn = []; slot = None; told = []; watched = None; seen = []; shown = [] }

-- the words of a table of this shape, with who drew each row that is not linked, and what each caller has reserved
abbrev pub table_at : Shape → List ℕ → (ℕ → Option ℕ) → (ℕ → Reservation) → Table
table_at shape words drawer reserved = record { rows = shape.rows; lists = shape.lists; consumers = shape.consumers; callers = most_callers; words = words; drawer = drawer; reserved = reserved }

-- Cargo

module _ {C : Type 0} (load : C → Load) where
  -- the cargo of the row is at home, in slot r
  abbrev pub Full : List (maybe.Option (Option C)) → ℕ → Row → Type 0
  Full homes r x = (c : C) × (get_elem? homes r ≡ some (some (Some c))) × IsLoadOf x (load c)

  -- slot r is out with a seat, or at home and empty
  abbrev pub Bare : List (maybe.Option (Option C)) → ℕ → Type 0
  Bare homes r = (get_elem? homes r ≡ some none) ⊎ (get_elem? homes r ≡ some (some None))

  -- a cargo is at home exactly where its row is available or unlocked
  abbrev pub Lies : List (maybe.Option (Option C)) → ℕ → Row → RowState → Type 0
  Lies homes r x Available = Full homes r x
  Lies homes r x (Unlocked h) = Full homes r x
  Lies homes r x (Locked h) = Bare homes r
  Lies homes r x Dequeued = Bare homes r
  Lies homes r x Deleted = Bare homes r

  -- the slots of a state of the queue
  pub record Cargoes (homes : List (maybe.Option (Option C))) (q : Queue) : Type 0 where
    pub rows : (r : ℕ) (x : Row) → row_at q r ≡ Some x → Lies homes r x x.state
    pub others : (r : ℕ) → r < length homes → row_at q r ≡ None → Bare homes r

-- Views

abbrev pub Each : {V : Type 0} → (ℕ → V → Type 0) → List V → Type 0
Each {V} P views = (id : ℕ) (v : V) → get_elem? views id ≡ some v → P id v

-- The pass has seen a prefix of the history, and all deeds of the callers that it speaks for. No other seat speaks for them.
pub record Knows (shape : Shape) (O : Queue) (H : List Deed) (seats : ℕ → ℕ) (callers id : ℕ) (v : View) : Type 0 where
  pub prefix : IsPrefix v.seen H
  pub opens : (k : ℕ) → Has k v.callers → (v.opening ≡ O) × (v.shape ≡ shape)
  pub mine : (k : ℕ) → Has k v.callers → (seats k ≡ id) × (k < callers) × (own k H ≡ own k v.seen)

-- Of the consumers that it has, it has seen all Takes. No other seat has them.
abbrev pub Serves : List Deed → (ℕ → ℕ) → ℕ → ℕ → View → Type 0
Serves H owners consumers id v = (c : ℕ) → Has c v.consumers → (owners c ≡ id) × (c < consumers) × (takes_of c H ≡ takes_of c v.seen)

-- What a joined pass had seen begins the history, which has no other deed of its callers and no other Take of its
-- consumers. The pass v speaks for them now.
pub record IsTold (H : List Deed) (v : View) (t : Told) : Type 0 where
  pub prefix : IsPrefix t.seen H
  pub callers : (k : ℕ) → Has k t.callers → Has k v.callers × (own k H ≡ own k t.seen)
  pub consumers : (c : ℕ) → Has c t.consumers → Has c v.consumers × (takes_of c H ≡ takes_of c t.seen)

abbrev pub Tells : List Deed → ℕ → View → Type 0
Tells H id v = (t : Told) → Has t v.told → IsTold H v t

-- a row that the pass drew and has not linked: its words are those that the pass stored
pub record IsDraft (words : List ℕ) (drawer : ℕ → Option ℕ) (v : View) (r : ℕ) (d : Drawing) : Type 0 where
  pub mine : Has (caller_of v.callers) v.callers
  pub drew : drawer r ≡ Some (caller_of v.callers)
  pub written : (w : DraftWord) → slice_index words (draft_of r w) ≡ word_in d w

abbrev pub Drafted : List ℕ → (ℕ → Option ℕ) → ℕ → View → Type 0
Drafted words drawer id v = (r : ℕ) (d : Drawing) → drawing_at v r ≡ Some d → IsDraft words drawer v r d

-- the draft words of each of so many rows that nobody drew
abbrev pub Unwritten : ℕ → List ℕ → Type 0
Unwritten rows words = (r : ℕ) (w : DraftWord) → r < rows → slice_index words 0 ≤ r → slice_index words (draft_of r w) ≡ 0

-- so many rows were drawn, and maybe more
abbrev pub Reaches : ℕ → ℕ → View → Type 0
Reaches top id v = v.reached ≤ top

-- the table has this node
abbrev pub HasNode : Shape → Node → Type 0
HasNode shape (nodes.Head l) = l < shape.lists
HasNode shape (nodes.Row r) = r < shape.rows

-- row s is row r, or a later one of its list
pub record IsOnward (q : Queue) (r s : ℕ) : Type 0 where
  pub from : Row
  pub from_found : row_at q r ≡ Some from
  pub to : Row
  pub to_found : row_at q s ≡ Some to
  pub list : to.slip.list ≡ from.slip.list
  pub later : place_at q r ≤ place_at q s

-- a link that named a row names that row, or a later one of its list
abbrev pub MovesOn : Queue → ℕ → ℕ → Type 0
MovesOn q n m = (r : ℕ) → n ≡ suc r → (s : ℕ) × (m ≡ suc s) × IsOnward q r s

-- the link that the pass watches moved on at most
abbrev pub Watches : Shape → List ℕ → Queue → ℕ → View → Type 0
Watches shape words q id v = (w : Watched) → v.watched ≡ Some w → HasNode shape w.node × MovesOn q w.link (slice_index words (link_of shape.rows w.node))

-- the slot that the pass has out
abbrev pub Takes : {S : Type 0} → List (maybe.Option S) → (ℕ → ℕ) → ℕ → View → Type 0
Takes homes outs id v = (r : ℕ) → v.slot ≡ Some r → (outs r ≡ id) × (get_elem? homes r ≡ some none)

-- who has a slot out drew its row, or holds it
abbrev pub Holds : Queue → ℕ → View → Type 0
Holds q id v = (r : ℕ) → v.slot ≡ Some r → ((d : Drawing) × (drawing_at v r ≡ Some d)) ⊎ ((k : ℕ) × Has k v.callers × IsIn q r (Locked k))

-- a slot that is out is out with one seat
abbrev pub Away : {S : Type 0} → List (maybe.Option S) → (ℕ → ℕ) → List View → Type 0
Away homes outs views = (r : ℕ) → get_elem? homes r ≡ some none → (v : View) × (get_elem? views (outs r) ≡ some v) × (v.slot ≡ Some r)

-- a pass that is alone has seen all
abbrev pub Alone : List View → List Deed → ℕ → View → Type 0
Alone views H id v = v.alone ≡ true → (length views ≡ 1) × (v.seen ≡ H)

-- the boss knows how many callers were made
abbrev pub Counts : ℕ → ℕ → View → Type 0
Counts n id v = (ended : List ℕ) → v.callers ≡ 0 ∷ ended → v.made ≡ n

abbrev pub allowance : View → ℕ
allowance v = v.allowance

abbrev pub share : View → ℕ
share v = v.share

module _ {C : Type 0} (load : C → Load) where
  -- The rule at an opening. seats, owners and outs say which seat speaks for a caller, has a consumer and has a slot out;
  -- enders, who dequeued a row.
  pub record RuledAt (shape : Shape) (O : Queue) (s : State (Option C) View) : Type 0 where
    pub history : List Deed
    pub drawer : ℕ → Option ℕ
    pub reserved : ℕ → Reservation
    pub seats : ℕ → ℕ
    pub owners : ℕ → ℕ
    pub outs : ℕ → ℕ
    pub enders : ℕ → ℕ
    pub rows : length s.homes ≡ shape.rows
    pub legal : Legal O history
    pub stands : Stands (table_at shape s.words drawer reserved) (after O history)
    pub cargoes : Cargoes load s.homes (after O history)
    pub knows : Each (Knows shape O history seats (slice_index s.words 1)) s.views
    pub serves : Each (Serves history owners shape.consumers) s.views
    pub tells : Each (Tells history) s.views
    pub drafts : Each (Drafted s.words drawer) s.views
    pub unwritten : Unwritten shape.rows s.words
    pub reaches : Each (Reaches (slice_index s.words 0)) s.views
    pub watches : Each (Watches shape s.words (after O history)) s.views
    pub takes : Each (Takes s.homes outs) s.views
    pub held : Each (Holds (after O history)) s.views
    pub away : Away s.homes outs s.views
    pub allowed : sum_by allowance s.views + entries (after O history) ≤ most_entries
    pub shared : sum_by share s.views + slice_index s.words 0 ≤ shape.rows
    pub ends : AllEnd enders history
    pub alone : Each (Alone s.views history) s.views
    pub counted : Each (Counts (slice_index s.words 1)) s.views
    pub later : (k : ℕ) → slice_index s.words 1 ≤ k → own k history ≡ []

  abbrev pub Ruled : Shape → State (Option C) View → Type 0
  Ruled shape s = (O : Queue) × RuledAt shape O s
