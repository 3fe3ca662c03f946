-- How `text` writes a selector: reserved words in capitals, one space between tokens, but none after `(` or a sign before one part,
-- and none before `)` or `,`.
use Rattle.std.specs.Prelude.{ℕ, ◌+◌, ◌==◌, nat_lt, Bool, true, false, List, [], ◌∷◌, ◌++◌, Option, Some, None, codes, flat_map, encode_utf8, if◌then◌else◌}
use Rattle.std.specs.Fmt.{signed_decimal}
use Rattle.selector_read.specs.declared.trees.MathOp.{MathOp}
use Rattle.selector_read.specs.declared.trees.MathOp.TheVariants.{Add, Sub, Mul, Div}
use Rattle.selector_tokens.specs.declared.tokens.CompareOp.{CompareOp}
use Rattle.selector_tokens.specs.declared.tokens.CompareOp.TheVariants.{Equal, Unequal, Less, LessEqual, Greater, GreaterEqual}
use Rattle.selector_read.specs.Grammar.{math_level}
use Rattle.selector_read.specs.Trees.{Tree, int, text, truth, name, minus, plus, math, compare, between, one_of, like, is_null, negation, both, either}

-- the level of a form (Grammar.antt)
abbrev pub level_of : Tree → ℕ
level_of (int n) = 8
level_of (text s) = 8
level_of (truth b) = 8
level_of (name x) = 8
level_of (minus a) = 7
level_of (plus a) = 7
level_of (math op a b) = math_level op
level_of (compare op a b) = 4
level_of (between n a b c) = 4
level_of (one_of n x list) = 4
level_of (like n x p e) = 4
level_of (is_null n x) = 4
level_of (negation a) = 3
level_of (both a b) = 2
level_of (either a b) = 1

-- the sign of an operator, with a space at each side
abbrev pub math_sign : MathOp → List ℕ
math_sign Add = codes " + "
math_sign Sub = codes " - "
math_sign Mul = codes " * "
math_sign Div = codes " / "

-- the sign of a comparison, with a space at each side
abbrev pub compare_sign : CompareOp → List ℕ
compare_sign Equal = codes " = "
compare_sign Unequal = codes " <> "
compare_sign Less = codes " < "
compare_sign LessEqual = codes " <= "
compare_sign Greater = codes " > "
compare_sign GreaterEqual = codes " >= "

-- TRUE or FALSE
abbrev pub truth_word : Bool → List ℕ
truth_word true = codes "TRUE"
truth_word false = codes "FALSE"

-- the words of a form, with NOT before the last where the form is negated
abbrev pub words : Bool → List ℕ → List ℕ
words true last = codes " NOT" ++ last
words false last = last

-- a byte of a string; a quote stands twice
abbrev pub string_byte : ℕ → List ℕ
string_byte c = if c == 39 then 39 ∷ 39 ∷ [] else c ∷ []

-- a string between single quotes, each quote in it twice
abbrev pub quoted : List ℕ → List ℕ
quoted s = 39 ∷ flat_map string_byte s ++ 39 ∷ []

-- a string behind a comma
abbrev pub after_comma : List ℕ → List ℕ
after_comma s = codes ", " ++ quoted s

-- strings with commas between them
abbrev pub comma_list : List (List ℕ) → List ℕ
comma_list [] = []
comma_list (s ∷ ss) = quoted s ++ flat_map after_comma ss

-- ESCAPE and its character, where there is one
abbrev pub escape_text : Option ℕ → List ℕ
escape_text None = []
escape_text (Some c) = codes " ESCAPE " ++ quoted (encode_utf8 c)

-- a text stands in parentheses where its own level is below the one that its place asks for
abbrev pub enclosed : ℕ → ℕ → List ℕ → List ℕ
enclosed asked own s = if nat_lt own asked then codes "(" ++ s ++ codes ")" else s

-- the text of a tree at a place that asks for a level; a whole selector stands at a place that asks for level 1
abbrev pub text_at : ℕ → Tree → List ℕ
text_at l (int n) = enclosed l 8 (signed_decimal n)
text_at l (text s) = enclosed l 8 (quoted s)
text_at l (truth b) = enclosed l 8 (truth_word b)
text_at l (name x) = enclosed l 8 x
text_at l (minus a) = enclosed l 7 (codes "-" ++ text_at 7 a)
text_at l (plus a) = enclosed l 7 (codes "+" ++ text_at 7 a)
text_at l (math op a b) = enclosed l (math_level op) (text_at (math_level op) a ++ math_sign op ++ text_at (math_level op + 1) b)
text_at l (compare op a b) = enclosed l 4 (text_at 5 a ++ compare_sign op ++ text_at 5 b)
text_at l (between n a b c) = enclosed l 4 (text_at 5 a ++ words n (codes " BETWEEN ") ++ text_at 5 b ++ codes " AND " ++ text_at 5 c)
text_at l (one_of n x list) = enclosed l 4 (x ++ words n (codes " IN (") ++ comma_list list ++ codes ")")
text_at l (like n x p e) = enclosed l 4 (x ++ words n (codes " LIKE ") ++ quoted p ++ escape_text e)
text_at l (is_null n x) = enclosed l 4 (x ++ codes " IS" ++ words n (codes " NULL"))
text_at l (negation a) = enclosed l 3 (codes "NOT " ++ text_at 3 a)
text_at l (both a b) = enclosed l 2 (text_at 2 a ++ codes " AND " ++ text_at 3 b)
text_at l (either a b) = enclosed l 1 (text_at 1 a ++ codes " OR " ++ text_at 2 b)
