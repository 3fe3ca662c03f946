-- what a table starts with
use Rattle.std.specs.Prelude.{◌≡◌, ℕ, zero, suc, ◌+◌, ◌-◌, ◌<◌, ◌≤◌, true, Some, None, List, [], ◌∷◌, ◌++◌, length, slice_index}
use Rattle.queue_model.specs.declared.queues.Queue.{Queue}
use Rattle.queue_model.specs.declared.rows.Row.{Row}
use Rattle.queue_model.specs.declared.rows.RowState.TheVariants.{Available}
use Rattle.queue_model.specs.declared.rows.Slip.{Slip}
use Rattle.queue_model.specs.declared.steps.Node.{Node}
use Rattle.queue_model.specs.declared.steps.Node.TheVariants as nodes
use Rattle.queue_model.specs.Sound.{IsOpening}
use Rattle.queue_model.specs.State.{row_at, rows_of, list_at}
use Rattle.queue_model.specs.Table.{FitsQueue, most_entries}
use Rattle.acts_core.specs.Load.{Load}
use Rattle.acts_core.specs.Moments.{IsLoadOf}
use Rattle.entry_table.specs.declared.entries.Entries.{Entries}
use Rattle.entry_table.specs.declared.pass.Pass.{Pass}
use Rattle.entry_table.specs.declared.view.Drawing.{Drawing}
use Rattle.entry_table.specs.declared.view.View.{View}
use Rattle.entry_table.specs.Views.{drawing_at, state_in}
use Rattle.entry_table.specs.Rule.{below}
use Rattle.entry_table.specs.Plays.{Went, IsKnown, list_at_node, place_at_node}
use Rattle.entry_table.specs.Passes.{IsPassOf, view, opening, seen, shown, callers, consumers, allowance, share}

-- Entries

module _ {C : Type 0} (load : C → Load) where
  -- a table of so many lists and consumers may start with this entry: its slip fits and has no key, and the cargo agrees
  pub record MayStart (lists consumers : ℕ) (slip : Slip) (c : C) : Type 0 where
    pub fits : FitsQueue lists consumers slip
    pub key : slip.key ≡ None
    pub id : (load c).id ≡ slip.id
    pub size : (load c).size ≡ slip.size

  abbrev pub AllMayStart : ℕ → ℕ → List (Slip × C) → Type 0
  AllMayStart lists consumers [] = Unit {0}
  AllMayStart lists consumers (e ∷ es) = MayStart lists consumers e.0 e.1 × AllMayStart lists consumers es

  -- the row is the entry, available
  pub record IsStarted (slip : Slip) (c : C) (x : Row) : Type 0 where
    pub slip_is : x.slip ≡ slip
    pub state : x.state ≡ Available
    pub same : IsLoadOf x (load c)

  -- the rows are the entries, in their order
  abbrev pub AreStarted : List (Slip × C) → List Row → Type 0
  AreStarted [] [] = Unit {0}
  AreStarted [] (x ∷ xs) = ⊥
  AreStarted (e ∷ es) [] = ⊥
  AreStarted (e ∷ es) (x ∷ xs) = IsStarted e.0 e.1 x × AreStarted es xs

  -- A table was made with these entries: they are the rows of its opening, and nothing has happened. The pass is the
  -- boss's, of caller 0, and has all consumers.
  pub record IsMade (lists rows consumed : ℕ) (start : List (Slip × C)) (e : Entries C) (p : Pass) : Type 0 where
    pub pass : IsPassOf e p
    pub rows_is : e.shape.rows ≡ rows
    pub lists_is : e.shape.lists ≡ lists
    pub consumers_is : e.shape.consumers ≡ consumed
    pub caller : p.caller ≡ 0
    pub opened : IsOpening (opening p)
    pub started : AreStarted start (opening p).rows
    pub seen_is : seen p ≡ []
    pub shown_is : shown p ≡ []
    pub callers_is : callers p ≡ 0 ∷ []
    pub made : (view p).made ≡ 1
    pub served : consumers p ≡ below consumed
    pub allowed : allowance p + length start ≡ most_entries
    pub shared : share p + length start ≡ rows

-- The ends of lists

-- the node of a list that a number names: 0 the head, else the row of which it is the number plus 1
abbrev pub node_of : ℕ → ℕ → Node
node_of l zero = nodes.Head l
node_of l (suc r) = nodes.Row r

-- nothing stands behind the node
abbrev pub NoneBehind : Queue → Node → Type 0
NoneBehind q (nodes.Head l) = rows_of q l ≡ []
NoneBehind q (nodes.Row a) = (front : List Row) × (x : Row) × (list_at q a < q.lists) × (rows_of q (list_at q a) ≡ front ++ x ∷ []) × (x.number ≡ a)

-- the node that w names is the last of list l, which has n rows
pub record IsEnd (q : Queue) (l w n : ℕ) : Type 0 where
  pub known : IsKnown q (node_of l w)
  pub list : list_at_node q (node_of l w) ≡ l
  pub place : place_at_node q (node_of l w) ≡ n
  pub last : NoneBehind q (node_of l w)
  pub long : length (rows_of q l) ≡ n

-- Laying entries down

-- the queue with one row more, and with nothing reserved
abbrev pub laid : Queue → Row → Queue
laid q x = record q { rows = q.rows ++ x ∷ []; reserved = [] }

-- the draft words of a slip at a place
abbrev pub drawing_of : ℕ → ℕ → Slip → Drawing
drawing_of row place slip = record { row = row; mask = slip.mask; place = place; ident = slip.id; size = slip.size; list = slip.list }

-- all draft words of a row were written: those of this slip at this place
pub record Wrote (v w : View) (row place : ℕ) (slip : Slip) : Type 0 where
  pub went : Went v w []
  pub drawing : drawing_at w row ≡ Some (drawing_of row place slip)
  pub view : w ≡ record v { drawn = w.drawn; told = []; seen = w.seen }

module _ {C : Type 0} (load : C → Load) where
  -- the pass, which is alone, may lay the entry down behind the last node of its list
  pub record CanLay (v : View) (w n : ℕ) (slip : Slip) (c : C) : Type 0 where
    pub alone : v.alone ≡ true
    pub caller : v.callers ≡ 0 ∷ []
    pub room : 1 ≤ v.allowance
    pub rows : 1 ≤ v.share
    pub reserved : (state_in v).reserved ≡ []
    pub may : MayStart load (state_in v).lists (state_in v).consumers slip c
    pub end : IsEnd (state_in v) slip.list w n

  -- the entry was laid down, in this row
  pub record DidLay (v w : View) (slip : Slip) (c : C) (row : ℕ) : Type 0 where
    pub x : Row
    pub started : IsStarted load slip c x
    pub number : x.number ≡ row
    pub new : row_at (state_in v) row ≡ None
    pub state : state_in w ≡ laid (state_in v) x
    pub view : w ≡ record v { allowance = v.allowance - 1; share = v.share - 1; reached = w.reached; drawn = w.drawn; told = []; seen = w.seen; shown = w.shown }

  -- the pass is alone, and has laid these entries down and nothing else
  pub record IsLaid (done : List (Slip × C)) (v : View) : Type 0 where
    pub alone : v.alone ≡ true
    pub caller : v.callers ≡ 0 ∷ []
    pub made : v.made ≡ 1
    pub served : v.consumers ≡ below v.shape.consumers
    pub rows : AreStarted load done (state_in v).rows
    pub reserved : (state_in v).reserved ≡ []
    pub bells : (state_in v).bells ≡ []
    pub allowed : v.allowance + length done ≡ most_entries
    pub shared : v.share + length done ≡ v.shape.rows

  -- the same, and which node each list ends with
  pub record Laying (done : List (Slip × C)) (v : View) (stops places : List ℕ) : Type 0 where
    pub base : IsLaid done v
    pub ends : (l : ℕ) → l < v.shape.lists → IsEnd (state_in v) l (slice_index stops l) (slice_index places l)
    pub few : (l : ℕ) → l < v.shape.lists → slice_index places l ≤ length done
    pub long_stops : length stops ≡ 10
    pub long_places : length places ≡ 10
