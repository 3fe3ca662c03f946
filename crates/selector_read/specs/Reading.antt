-- How `read` goes through the tokens: the forms that are begun, innermost first, and what must come next. The grammar (Grammar.antt) says what
-- selectors are, and the laws say that this reads them; nothing but the crate's own functions needs these definitions.
use Rattle.std.specs.Prelude.{ℕ, suc, ◌+◌, nat_le, nat_lt, Bool, true, false, List, [], ◌∷◌, ◌++◌, length, Option, Some, None, if◌then◌else◌}
use Rattle.selector_tokens.specs.declared.faults.Kind.{Kind}
use Rattle.selector_tokens.specs.declared.faults.Kind.TheVariants.{TooLong, TooDeep, Unexpected}
use Rattle.selector_read.specs.declared.trees.MathOp.{MathOp}
use Rattle.selector_read.specs.declared.trees.MathOp.TheVariants.{Add, Sub, Mul, Div}
use Rattle.selector_tokens.specs.declared.tokens.CompareOp.{CompareOp}
use Rattle.selector_tokens.specs.declared.tokens.Token.{Token}
use Rattle.selector_tokens.specs.declared.tokens.Token.TheVariants.{Name, Word, Number, Text, Compare, Plus, Minus, Times, Divide, Open, Close, Comma}
use Rattle.selector_tokens.specs.declared.tokens.Word.TheVariants as reserved
use Rattle.selector_read.specs.Trees.{Tree, int, text, truth, name, minus, plus, math, compare, between, one_of, like, is_null, negation, both, either}
use Rattle.selector_read.specs.Grammar.{math_level, characters, is_whole_pattern, most_nested}
use Rattle.selector_read.specs.Selectors.{Outcome, reads, refused, longest_text}
use Rattle.selector_tokens.specs.declared.tokens.Placed.{Placed}
use Rattle.selector_tokens.specs.Lexing.{Stop, lexed}

-- a form that is begun and waits for its last part
pub data Begun : Type 0 where
  or_of : Tree → Begun
  and_of : Tree → Begun
  not_of : Begun
  compare_of : CompareOp → Tree → Begun
  -- BETWEEN, which waits for its lower end; and for its upper end
  low_of : Bool → Tree → Begun
  high_of : Bool → Tree → Tree → Begun
  math_of : MathOp → Tree → Begun
  minus_of : Begun
  plus_of : Begun
  -- an open parenthesis
  paren : Begun

-- the level of the form, once it is whole; 0 where the part that it waits for doesn't end it
abbrev pub level : Begun → ℕ
level (or_of a) = 1
level (and_of a) = 2
level not_of = 3
level (compare_of op a) = 4
level (low_of n a) = 0
level (high_of n a b) = 4
level (math_of op a) = math_level op
level minus_of = 7
level plus_of = 7
level paren = 0

-- the level of the part that it waits for
abbrev pub awaits : Begun → ℕ
awaits (or_of a) = 2
awaits (and_of a) = 3
awaits not_of = 3
awaits (compare_of op a) = 5
awaits (low_of n a) = 5
awaits (high_of n a b) = 5
awaits (math_of op a) = suc (math_level op)
awaits minus_of = 7
awaits plus_of = 7
awaits paren = 1

-- the form with its last part
abbrev pub whole : Begun → Tree → Tree
whole (or_of a) e = either a e
whole (and_of a) e = both a e
whole not_of e = negation e
whole (compare_of op a) e = compare op a e
whole (low_of n a) e = e
whole (high_of n a b) e = between n a b e
whole (math_of op a) e = math op a e
whole minus_of e = minus e
whole plus_of e = plus e
whole paren e = e

-- 1 for a form that counts for the nesting
abbrev pub nests : Begun → ℕ
nests (or_of a) = 0
nests (and_of a) = 0
nests not_of = 1
nests (compare_of op a) = 0
nests (low_of n a) = 0
nests (high_of n a b) = 0
nests (math_of op a) = 0
nests minus_of = 1
nests plus_of = 1
nests paren = 1

-- how many of the forms count for the nesting
abbrev pub nesting : List Begun → ℕ
nesting [] = 0
nesting (f ∷ fs) = nests f + nesting fs

-- the level of the part that must come
abbrev pub awaited : List Begun → ℕ
awaited [] = 1
awaited (f ∷ fs) = awaits f

-- an expression inside the forms that are begun
pub record Held : Type 0 where
  pub begun : List Begun
  pub tree : Tree

-- every form of level l or above that the expression ends is made whole
abbrev pub settle : ℕ → List Begun → Tree → Held
settle l [] e = record { begun = []; tree = e }
settle l (f ∷ fs) e = if nat_le l (level f) then settle l fs (whole f e) else record { begun = f ∷ fs; tree = e }

-- what may come next
pub data Mode : Type 0 where
  -- an operand
  operand : Mode
  -- behind a name that may begin a comparison by IN, LIKE or IS
  named : List ℕ → Mode
  -- behind an expression of this level: 8, or 4 for a comparison
  valued : Tree → ℕ → Mode
  -- behind NOT: BETWEEN, or for a name IN and LIKE too
  not_value : Tree → Mode
  not_name : List ℕ → Mode
  -- behind IS, or IS NOT
  null_next : Bool → List ℕ → Mode
  -- the list of IN: its parenthesis; a string; behind a string
  list_next : Bool → List ℕ → Mode
  item_next : Bool → List ℕ → List (List ℕ) → Mode
  item_read : Bool → List ℕ → List (List ℕ) → Mode
  -- the pattern; behind it; the escape string
  pattern_next : Bool → List ℕ → Mode
  pattern_read : Bool → List ℕ → List ℕ → Mode
  escape_next : Bool → List ℕ → List ℕ → Mode

-- where the reading stands between two tokens
pub record State : Type 0 where
  pub begun : List Begun
  pub mode : Mode

-- the state of these forms, where this may come next
abbrev pub state : List Begun → Mode → State
state fs m = record { begun = fs; mode = m }

-- what one token does
pub data Step : Type 0 where
  goes : State → Step
  unexpected : Step
  too_deep : Step
  -- the pattern, two tokens before, ends with an escape character that escapes nothing
  open_pattern : Step

-- one more form is begun that counts for the nesting, of which there may be `most`
abbrev pub begins : ℕ → Begun → List Begun → Step
begins most f fs = if nat_lt (nesting fs) most then goes (state (f ∷ fs) operand) else too_deep

-- where an operand must come
abbrev pub operand_step : ℕ → List Begun → Token → Step
operand_step most fs (Word reserved.Not) = if nat_le (awaited fs) 3 then begins most not_of fs else unexpected
operand_step most fs Plus = begins most plus_of fs
operand_step most fs Minus = begins most minus_of fs
operand_step most fs Open = begins most paren fs
operand_step most fs (Number n) = goes (state fs (valued (int n) 8))
operand_step most fs (Text s) = goes (state fs (valued (text s) 8))
operand_step most fs (Word reserved.True) = goes (state fs (valued (truth true) 8))
operand_step most fs (Word reserved.False) = goes (state fs (valued (truth false) 8))
operand_step most fs (Name x) = goes (state fs (if nat_le (awaited fs) 4 then named x else valued (name x) 8))
operand_step most fs other = unexpected

-- the left part of a form that is begun: a sum or a product needs parts of a sum's level at least
abbrev pub math_step : MathOp → Held → Step
math_step op h = goes (state (math_of op h.tree ∷ h.begun) operand)

-- a comparison begins only where one may stand
abbrev pub compare_step : Held → State → Step
compare_step h next = if nat_le (awaited h.begun) 4 then goes next else unexpected

-- AND: the lower end of BETWEEN is whole, or the left part of AND
abbrev pub and_step : List Begun → Tree → Step
and_step [] e = goes (state (and_of e ∷ []) operand)
and_step (low_of n a ∷ fs) e = goes (state (high_of n a e ∷ fs) operand)
and_step (f ∷ fs) e = goes (state (and_of e ∷ f ∷ fs) operand)

-- OR: the left part of OR is whole, unless a BETWEEN waits for its lower end
abbrev pub or_step : List Begun → Tree → Step
or_step [] e = goes (state (or_of e ∷ []) operand)
or_step (low_of n a ∷ fs) e = unexpected
or_step (f ∷ fs) e = goes (state (or_of e ∷ f ∷ fs) operand)

-- a closing parenthesis: the innermost form must be an open one
abbrev pub close_step : List Begun → Tree → Step
close_step [] e = unexpected
close_step (paren ∷ fs) e = goes (state fs (valued e 8))
close_step (f ∷ fs) e = unexpected

-- only an expression of a sum's level may have this token behind it
abbrev pub sum_only : ℕ → Step → Step
sum_only l s = if nat_le 5 l then s else unexpected

-- behind an expression of level l
abbrev pub value_step : List Begun → Tree → ℕ → Token → Step
value_step fs e l Times = sum_only l (math_step Mul (settle 6 fs e))
value_step fs e l Divide = sum_only l (math_step Div (settle 6 fs e))
value_step fs e l Plus = sum_only l (math_step Add (settle 5 fs e))
value_step fs e l Minus = sum_only l (math_step Sub (settle 5 fs e))
value_step fs e l (Compare op) = sum_only l (compare_step (settle 5 fs e) (state (compare_of op (settle 5 fs e).tree ∷ (settle 5 fs e).begun) operand))
value_step fs e l (Word reserved.Between) = sum_only l (compare_step (settle 5 fs e) (state (low_of false (settle 5 fs e).tree ∷ (settle 5 fs e).begun) operand))
value_step fs e l (Word reserved.Not) = sum_only l (compare_step (settle 5 fs e) (state (settle 5 fs e).begun (not_value (settle 5 fs e).tree)))
value_step fs e l (Word reserved.And) = and_step (settle 2 fs e).begun (settle 2 fs e).tree
value_step fs e l (Word reserved.Or) = or_step (settle 1 fs e).begun (settle 1 fs e).tree
value_step fs e l Close = close_step (settle 1 fs e).begun (settle 1 fs e).tree
value_step fs e l other = unexpected

-- behind a name that may begin a comparison by IN, LIKE or IS
abbrev pub named_step : List Begun → List ℕ → Token → Step
named_step fs x (Word reserved.In) = goes (state fs (list_next false x))
named_step fs x (Word reserved.Like) = goes (state fs (pattern_next false x))
named_step fs x (Word reserved.Is) = goes (state fs (null_next false x))
named_step fs x (Word reserved.Not) = goes (state fs (not_name x))
named_step fs x other = value_step fs (name x) 8 other

-- behind an expression and NOT
abbrev pub not_value_step : List Begun → Tree → Token → Step
not_value_step fs e (Word reserved.Between) = goes (state (low_of true e ∷ fs) operand)
not_value_step fs e other = unexpected

-- behind a name and NOT
abbrev pub not_name_step : List Begun → List ℕ → Token → Step
not_name_step fs x (Word reserved.Between) = goes (state (low_of true (name x) ∷ fs) operand)
not_name_step fs x (Word reserved.In) = goes (state fs (list_next true x))
not_name_step fs x (Word reserved.Like) = goes (state fs (pattern_next true x))
not_name_step fs x other = unexpected

-- behind IS, or IS NOT
abbrev pub null_step : List Begun → Bool → List ℕ → Token → Step
null_step fs n x (Word reserved.Null) = goes (state fs (valued (is_null n x) 4))
null_step fs false x (Word reserved.Not) = goes (state fs (null_next true x))
null_step fs n x other = unexpected

-- behind IN; its parenthesis counts for the nesting
abbrev pub list_step : ℕ → List Begun → Bool → List ℕ → Token → Step
list_step most fs n x Open = if nat_lt (nesting fs) most then goes (state fs (item_next n x [])) else too_deep
list_step most fs n x other = unexpected

-- where a string of IN's list must come
abbrev pub item_step : List Begun → Bool → List ℕ → List (List ℕ) → Token → Step
item_step fs n x list (Text s) = goes (state fs (item_read n x (list ++ s ∷ [])))
item_step fs n x list other = unexpected

-- behind a string of IN's list
abbrev pub item_read_step : List Begun → Bool → List ℕ → List (List ℕ) → Token → Step
item_read_step fs n x list Comma = goes (state fs (item_next n x list))
item_read_step fs n x list Close = goes (state fs (valued (one_of n x list) 4))
item_read_step fs n x list other = unexpected

-- where the pattern must come
abbrev pub pattern_step : List Begun → Bool → List ℕ → Token → Step
pattern_step fs n x (Text p) = goes (state fs (pattern_read n x p))
pattern_step fs n x other = unexpected

-- behind the pattern
abbrev pub pattern_read_step : List Begun → Bool → List ℕ → List ℕ → Token → Step
pattern_read_step fs n x p (Word reserved.Escape) = goes (state fs (escape_next n x p))
pattern_read_step fs n x p other = value_step fs (like n x p None) 4 other

-- the one character that the bytes are
abbrev pub only_of : List ℕ → Option ℕ
only_of [] = None
only_of (c ∷ []) = Some c
only_of (c ∷ d ∷ cs) = None

-- the character of a text of one
unfoldable pub only_character : List ℕ → Option ℕ
only_character s = only_of (characters s)

-- behind an escape string that is this character, or none
abbrev pub escaped : List Begun → Bool → List ℕ → List ℕ → Option ℕ → Step
escaped fs n x p None = unexpected
escaped fs n x p (Some c) = if is_whole_pattern c p then goes (state fs (valued (like n x p (Some c)) 4)) else open_pattern

-- where the escape string must come
abbrev pub escape_step : List Begun → Bool → List ℕ → List ℕ → Token → Step
escape_step fs n x p (Text e) = escaped fs n x p (only_character e)
escape_step fs n x p other = unexpected

-- what a token does where this may come next
abbrev pub step_in : ℕ → List Begun → Mode → Token → Step
step_in most fs operand t = operand_step most fs t
step_in most fs (named x) t = named_step fs x t
step_in most fs (valued e l) t = value_step fs e l t
step_in most fs (not_value e) t = not_value_step fs e t
step_in most fs (not_name x) t = not_name_step fs x t
step_in most fs (null_next n x) t = null_step fs n x t
step_in most fs (list_next n x) t = list_step most fs n x t
step_in most fs (item_next n x list) t = item_step fs n x list t
step_in most fs (item_read n x list) t = item_read_step fs n x list t
step_in most fs (pattern_next n x) t = pattern_step fs n x t
step_in most fs (pattern_read n x p) t = pattern_read_step fs n x p t
step_in most fs (escape_next n x p) t = escape_step fs n x p t

-- one token, where `most` forms that count may be unfinished
unfoldable pub step : ℕ → State → Token → Step
step most s t = step_in most s.begun s.mode t

-- the expression, where no form waits for more
abbrev pub ended : Held → Option Tree
ended h = elim h.begun as (λ _. Option Tree) [ [] ↦ Some h.tree | f ∷ fs ↦ None ]

-- the expression that the text is, where it ends here
abbrev pub finished_in : List Begun → Mode → Option Tree
finished_in fs (named x) = ended (settle 1 fs (name x))
finished_in fs (valued e l) = ended (settle 1 fs e)
finished_in fs (pattern_read n x p) = ended (settle 1 fs (like n x p None))
finished_in fs other = None

-- the tree that is read where the text ends here, if its forms can end
unfoldable pub finished : State → Option Tree
finished s = finished_in s.begun s.mode

-- before the first token
abbrev pub start : State
start = state [] operand

-- behind the last token: the fault of the place, or the expression that the text is
abbrev pub at_end : Stop → Option Kind → Option Tree → Outcome
at_end stop (Some kind) t = refused stop.at kind
at_end stop None (Some t) = reads t
at_end stop None None = refused stop.at Unexpected

-- these tokens and then this stop, read on from a state; `older` and `last` are the places of the two tokens before
unfoldable pub outcome_from : State → ℕ → ℕ → List Placed → Stop → Outcome
outcome_from s older last [] stop = at_end stop stop.fault (finished s)
outcome_from s older last (p ∷ ps) stop = elim (step most_nested s p.token) as (λ _. Outcome) [
  | goes next ↦ outcome_from next last p.at ps stop
  | unexpected ↦ refused p.at Unexpected
  | too_deep ↦ refused p.at TooDeep
  | open_pattern ↦ refused older Unexpected
]

-- what the text is
unfoldable pub selector_of : List ℕ → Outcome
selector_of s = if nat_lt longest_text (length s) then refused longest_text TooLong else outcome_from start 0 0 (lexed s).tokens (lexed s).stop
