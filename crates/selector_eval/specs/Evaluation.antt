-- The value of an expression over a message, and the truth of a selector (docs/SELECTORS.md).
use Rattle.std.specs.Prelude.{ℕ, pos, Bool, true, false, not, List, [], ◌∷◌, Option, Some, None, if◌then◌else◌, codes}
use Rattle.std.specs.Str.{bytes_eq}
use Rattle.message_core.specs.declared.headers.HeaderValue.{HeaderValue}
use Rattle.message_core.specs.declared.headers.HeaderValue.TheVariants as header
use Rattle.message_core.specs.Spelling.{Content, value_of as header_of}
use Rattle.selector_tokens.specs.declared.tokens.CompareOp.TheVariants.{Equal, Less, LessEqual, Greater, GreaterEqual}
use Rattle.selector_read.specs.Grammar.{characters}
use Rattle.selector_read.specs.Trees as tree
use Rattle.selector_read.specs.Trees.{Tree}
use Rattle.selector_eval.specs.declared.truths.Truth.{Truth}
use Rattle.selector_eval.specs.Values.{Value, null, truth, number, text, truth_in}
use Rattle.selector_eval.specs.Truths.{value_not, value_and, value_or}
use Rattle.selector_eval.specs.Numbers.{calculated, value_minus, value_plus}
use Rattle.selector_eval.specs.Comparing.{compared}
use Rattle.selector_eval.specs.Patterns.{fits}

-- ---- what a name stands for

-- the value of a header, null where there is none
abbrev pub header_value : Option HeaderValue → Value
header_value None = null
header_value (Some (header.Bool b)) = truth b
header_value (Some (header.Int n)) = number n
header_value (Some (header.Text s)) = text s

-- the text of a delivery mode
abbrev pub delivery_mode : Bool → List ℕ
delivery_mode persistent = if persistent then codes "PERSISTENT" else codes "NON_PERSISTENT"

-- two names are fields of the message, and any other is a header's
abbrev pub property : Content → List ℕ → Value
property m name = if bytes_eq name (codes "JMSPriority") then number (pos m.priority)
    else (if bytes_eq name (codes "JMSDeliveryMode") then text (delivery_mode m.persistent) else header_value (header_of name m.headers))

-- ---- the forms of comparison

-- whether x is within both bounds, which count; negated, whether it is outside of one
abbrev pub between : Bool → Value → Value → Value → Value
between false x a b = value_and (compared GreaterEqual x a) (compared LessEqual x b)
between true x a b = value_or (compared Less x a) (compared Greater x b)

-- NOT of the value, where the form is negated
abbrev pub not_if : Bool → Value → Value
not_if false v = v
not_if true v = value_not v

-- whether x equals one of the texts
abbrev pub equals_some : Value → List (List ℕ) → Value
equals_some x [] = truth false
equals_some x (s ∷ list) = value_or (compared Equal x (text s)) (equals_some x list)

-- x LIKE p: null for null, false for what is no text; else whether the characters of the text fit those of the pattern
abbrev pub alike : Option ℕ → List ℕ → Value → Value
alike escape pattern null = null
alike escape pattern (truth b) = truth false
alike escape pattern (number n) = truth false
alike escape pattern (text s) = truth (fits escape (characters pattern) (characters s))

-- whether a value is null
abbrev pub is_null : Value → Bool
is_null null = true
is_null (truth b) = false
is_null (number n) = false
is_null (text s) = false

-- x IS NULL, or x IS NOT NULL; never null itself
abbrev pub null_test : Bool → Value → Value
null_test false v = truth (is_null v)
null_test true v = truth (not (is_null v))

-- ---- each form of expression

-- the value of an expression, by its form
abbrev pub value_of : Tree → Content → Value
value_of (tree.int n) m = number n
value_of (tree.text s) m = text s
value_of (tree.truth b) m = truth b
value_of (tree.name x) m = property m x
value_of (tree.minus a) m = value_minus (value_of a m)
value_of (tree.plus a) m = value_plus (value_of a m)
value_of (tree.math op a b) m = calculated op (value_of a m) (value_of b m)
value_of (tree.compare op a b) m = compared op (value_of a m) (value_of b m)
value_of (tree.between negated x a b) m = between negated (value_of x m) (value_of a m) (value_of b m)
value_of (tree.one_of negated x list) m = not_if negated (equals_some (property m x) list)
value_of (tree.like negated x pattern escape) m = not_if negated (alike escape pattern (property m x))
value_of (tree.is_null negated x) m = null_test negated (property m x)
value_of (tree.negation a) m = value_not (value_of a m)
value_of (tree.both a b) m = value_and (value_of a m) (value_of b m)
value_of (tree.either a b) m = value_or (value_of a m) (value_of b m)

-- the truth of a selector for a message, which is selected exactly where it is True
unfoldable pub truth_of : Tree → Content → Truth
truth_of t m = truth_in (value_of t m)
