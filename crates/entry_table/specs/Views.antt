-- what stands in a view
use Rattle.std.specs.Prelude.{◌≡◌, ℕ, Bool, true, false, ◌==◌, nat_le, not, if◌then◌else◌, Option, Some, None, ◌⊎◌, List, [], ◌∷◌, length, filter, find}
use Rattle.std.specs.Option.{option_map}
use Rattle.queue_model.specs.declared.deeds.Act.{Act}
use Rattle.queue_model.specs.declared.deeds.Act.TheVariants.{Deq, Del, Take}
use Rattle.queue_model.specs.declared.deeds.Deed.{Deed}
use Rattle.queue_model.specs.declared.queues.Queue.{Queue}
use Rattle.queue_model.specs.declared.rows.Slip.{Slip}
use Rattle.queue_model.specs.declared.steps.DraftWord.{DraftWord}
use Rattle.queue_model.specs.declared.steps.DraftWord.TheVariants as drafts
use Rattle.queue_model.specs.declared.steps.Step.{Step}
use Rattle.queue_model.specs.declared.steps.Step.TheVariants.{Draw, Load}
use Rattle.queue_model.specs.declared.steps.WordName.TheVariants.{Top}
use Rattle.queue_model.specs.History.{after}
use Rattle.queue_model.specs.Keyed.{alter}
use Rattle.queue_model.specs.State.{empty, IsIn}
use Rattle.queue_model.specs.declared.rows.RowState.TheVariants.{Locked}
use Rattle.entry_table.specs.declared.view.Drawing.{Drawing}
use Rattle.entry_table.specs.declared.view.Told.{Told}
use Rattle.queue_model.specs.declared.steps.Tried.{Tried}
use Rattle.entry_table.specs.declared.view.View.{View}

-- k is in the list
abbrev pub Has : {X : Type 0} → X → List X → Type 0
Has k [] = ⊥
Has k (x ∷ xs) = (x ≡ k) ⊎ Has k xs

-- whether k is in the list
abbrev pub is_in : ℕ → List ℕ → Bool
is_in k [] = false
is_in k (x ∷ xs) = if x == k then true else is_in k xs

-- the first of a pass's callers is its own number
abbrev pub caller_of : List ℕ → ℕ
caller_of [] = 0
caller_of (k ∷ ks) = k

-- the callers behind it
abbrev pub rest_of : List ℕ → List ℕ
rest_of [] = []
rest_of (k ∷ ks) = ks

-- the view of a badge that has one
abbrev pub spent : View
spent = record { shape = record { rows = 0; lists = 0; consumers = 0 }; opening = empty 0 0; callers = []; made = 0; alone = false; consumers = []; allowance = 0; share = 0; reached = 0; drawn = []; slot = None; told = []; watched = None; seen = []; shown = [] }

abbrev pub view_in : List View → View
view_in [] = spent
view_in (v ∷ vs) = v

-- the state of the queue that the pass knows
abbrev pub state_in : View → Queue
state_in v = after v.opening v.seen

-- what a pass has seen, for who joins it
abbrev pub told_of : View → Told
told_of v = record { callers = v.callers; consumers = v.consumers; seen = v.seen }

-- Drawn rows

-- the drawing is of row r
abbrev pub is_drawing : ℕ → Drawing → Bool
is_drawing r d = d.row == r

-- the drawing of a row that the pass drew and has not linked
abbrev pub drawing_at : View → ℕ → Option Drawing
drawing_at v r = find (is_drawing r) v.drawn

-- a row that was just drawn: its draft words are all 0
abbrev pub blank_drawing : ℕ → Drawing
blank_drawing r = record { row = r; mask = 0; place = 0; ident = 0; size = 0; list = 0 }

-- a draft word of the drawing
abbrev pub word_in : Drawing → DraftWord → ℕ
word_in d drafts.Mask = d.mask
word_in d drafts.Place = d.place
word_in d drafts.Ident = d.ident
word_in d drafts.Size = d.size
word_in d drafts.List = d.list

-- the drawing with one draft word stored
abbrev pub with_word : DraftWord → ℕ → Drawing → Drawing
with_word drafts.Mask n d = record d { mask = n }
with_word drafts.Place n d = record d { place = n }
with_word drafts.Ident n d = record d { ident = n }
with_word drafts.Size n d = record d { size = n }
with_word drafts.List n d = record d { list = n }

-- the drawings with one draft word of a row stored
abbrev pub drawn_with : ℕ → DraftWord → ℕ → List Drawing → List Drawing
drawn_with r w n drawn = alter (is_drawing r) (option_map (with_word w n)) drawn

-- the drawings without that of a row
abbrev pub drawn_without : ℕ → List Drawing → List Drawing
drawn_without r drawn = filter (λ d. not (is_drawing r d)) drawn

-- the slip that the draft words tell
abbrev pub slip_of : Drawing → Slip
slip_of d = record { id = d.ident; size = d.size; mask = d.mask; list = d.list; key = None }

-- the pass drew the row, or its caller holds it
abbrev pub Mine : Queue → View → ℕ → Type 0
Mine q v row = ((d : Drawing) × (drawing_at v row ≡ Some d)) ⊎ IsIn q row (Locked (caller_of v.callers))

-- Deeds

-- the act takes a bell of consumer c
abbrev pub takes_bell : ℕ → Act → Bool
takes_bell c (Take d l) = d == c
takes_bell c a = false

-- the deed is a Take of consumer c
abbrev pub is_take_of : ℕ → Deed → Bool
is_take_of c d = takes_bell c d.act

-- the Takes of a consumer, in order
abbrev pub takes_of : ℕ → List Deed → List Deed
takes_of c ds = filter (is_take_of c) ds

-- the act takes a bell of one of the consumers
abbrev pub takes_one : List ℕ → Act → Bool
takes_one cs (Take d l) = is_in d cs
takes_one cs a = false

-- the deed concerns a pass: one of its callers did it, or it takes a bell of one of its consumers
abbrev pub concerns : List ℕ → List ℕ → Deed → Bool
concerns callers consumers d = if is_in d.caller callers then true else takes_one consumers d.act

-- the deeds that concern a pass, in order
abbrev pub concerning : List ℕ → List ℕ → List Deed → List Deed
concerning callers consumers ds = filter (concerns callers consumers) ds

-- whoever dequeues or deletes a row is the one that ends it
abbrev pub EndsBy : (ℕ → ℕ) → ℕ → Act → Type 0
EndsBy enders h (Deq r) = enders r ≡ h
EndsBy enders h (Del r) = enders r ≡ h
EndsBy enders h a = Unit {0}

abbrev pub AllEnd : (ℕ → ℕ) → List Deed → Type 0
AllEnd enders [] = Unit {0}
AllEnd enders (d ∷ ds) = EndsBy enders d.caller d.act × AllEnd enders ds

-- What was shown

-- an entry of the log: the step that was tried, its word before and after, and how much had been seen then
abbrev pub entry : Step → ℕ → ℕ → List Deed → Tried
entry step before now seen = record { step = step; before = before; later = now; length = length seen }

-- how many rows were drawn, as far as a pass was shown, after a step that showed n
abbrev pub reached_by : Step → ℕ → ℕ → ℕ
reached_by Draw n reached = n
reached_by (Load Top) n reached = n
reached_by step n reached = reached

-- the longer of two histories
abbrev pub longer : List Deed → List Deed → List Deed
longer xs ys = if nat_le (length xs) (length ys) then ys else xs
