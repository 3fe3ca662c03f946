-- The code's modes and faults, as the modes and steps of Reading.antt.
use Rattle.std.specs.Prelude.{◌≡◌, ◌≤◌, ℕ, List, Result, Ok, Err, ⊤}
use Rattle.selector_read.specs.declared.modes.Mode.{Mode as Next}
use Rattle.selector_read.specs.declared.modes.Mode.TheVariants as next
use Rattle.selector_read.specs.declared.modes.StepFault.{StepFault}
use Rattle.selector_read.specs.declared.modes.StepFault.TheVariants as fault
use Rattle.selector_read.specs.Trees.{Tree, tree_of}
use Rattle.selector_read.specs.Reading.{Begun, Mode, Step, operand, named, valued, not_value, not_name, null_next, list_next, item_next, item_read, pattern_next, pattern_read, escape_next, goes, unexpected, too_deep, open_pattern, state, State, Held, settle, awaited, sum_only, compare_step, and_step, or_step, close_step}
use Rattle.selector_read.specs.Forms.{held}
use Rattle.selector_read.specs.declared.trees.Expr.{Expr}
use Rattle.selector_read.specs.Selectors.{Outcome, reads, refused}
use Rattle.selector_tokens.specs.declared.faults.SelectorFault.{SelectorFault}
use Rattle.selector_tokens.specs.declared.faults.SelectorFault.TheVariants.{Bad, NoMemory}
use Rattle.selector_tokens.specs.declared.faults.Kind.TheVariants as kind

-- the code's mode as a mode
abbrev pub mode_of : Next → Mode
mode_of next.Operand = operand
mode_of (next.Named x) = named x
mode_of (next.Valued e l) = valued (tree_of e) l
mode_of (next.NotValue e) = not_value (tree_of e)
mode_of (next.NotName x) = not_name x
mode_of (next.NullNext n x) = null_next n x
mode_of (next.ListNext n x) = list_next n x
mode_of (next.ItemNext n x list) = item_next n x list.items
mode_of (next.ItemRead n x list) = item_read n x list.items
mode_of (next.PatternNext n x) = pattern_next n x
mode_of (next.PatternRead n x p) = pattern_read n x p
mode_of (next.EscapeNext n x p) = escape_next n x p

-- the fault is what the step says; want of memory may come in place of any step
abbrev pub Stops : StepFault → Step → Type 0
Stops fault.Unexpected step = step ≡ unexpected
Stops fault.TooDeep step = step ≡ too_deep
Stops fault.OpenPattern step = step ≡ open_pattern
Stops fault.NoMemory step = ⊤

-- a mode behind these forms, or a fault, is what the step says
abbrev pub Steps : List Begun → Result Next StepFault → Step → Type 0
Steps fs (Ok m) step = step ≡ goes (state fs (mode_of m))
Steps fs (Err why) step = Stops why step

-- the same, whatever forms are begun
abbrev pub StepsAnywhere : Result Next StepFault → (List Begun → Step) → Type 0
StepsAnywhere result f = (fs : List Begun) → Steps fs result (f fs)

-- ---- behind an expression that is settled

-- AND behind it
abbrev pub and_held : Held → Step
and_held h = and_step h.begun h.tree

-- OR behind it
abbrev pub or_held : Held → Step
or_held h = or_step h.begun h.tree

-- a closing parenthesis behind it
abbrev pub close_held : Held → Step
close_held h = close_step h.begun h.tree

-- a comparison that begins with the expression, if one may: what then follows
abbrev pub comparison : ℕ → List Begun → Tree → (Held → State) → Step
comparison l fs e next = sum_only l (compare_step (settle 5 fs e) (next (settle 5 fs e)))

-- a comparison may begin with the expression: it is this sum, inside these forms
pub record Compares (l : ℕ) (fs : List Begun) (e : Tree) (outer : List Begun) (sum : Tree) : Type 0 where
  pub sum_level : 5 ≤ l
  pub settled : settle 5 fs e ≡ held outer sum
  pub stands : awaited outer ≤ 4

-- ---- the whole text

-- where the fault of a token at a place is told; `older` is the place of the token two before
abbrev pub TellsStop : StepFault → ℕ → ℕ → SelectorFault → Type 0
TellsStop fault.Unexpected at older told = told ≡ Bad at kind.Unexpected
TellsStop fault.TooDeep at older told = told ≡ Bad at kind.TooDeep
TellsStop fault.OpenPattern at older told = told ≡ Bad older kind.Unexpected
TellsStop fault.NoMemory at older told = told ≡ NoMemory

-- the expression that a text is, or its first fault; want of memory may come in place of either
abbrev pub ReadsAs : Result Expr SelectorFault → Outcome → Type 0
ReadsAs (Ok e) outcome = outcome ≡ reads (tree_of e)
ReadsAs (Err (Bad at why)) outcome = outcome ≡ refused at why
ReadsAs (Err NoMemory) outcome = ⊤
