-- The grammar of selectors, one case for each production (JMS 1.1, section 3.8.1.1; docs/SELECTORS.md has it as a table).
use Rattle.std.specs.Prelude.{◌≡◌, ℕ, suc, pos, Bool, true, false, not, ◌==◌, List, [], ◌∷◌, ◌++◌, Some, None, if◌then◌else◌}
use Rattle.std.specs.Char.{IsScalar, encode_utf8}
use Rattle.std.specs.Str.{chars, is_utf8}
use Rattle.selector_read.specs.declared.trees.MathOp.{MathOp}
use Rattle.selector_read.specs.declared.trees.MathOp.TheVariants.{Add, Sub, Mul, Div}
use Rattle.selector_tokens.specs.declared.tokens.CompareOp.{CompareOp}
use Rattle.selector_tokens.specs.declared.tokens.Token.{Token}
use Rattle.selector_tokens.specs.declared.tokens.Token.TheVariants.{Name, Word, Number, Text, Compare, Plus, Minus, Times, Divide, Open, Close, Comma}
use Rattle.selector_tokens.specs.declared.tokens.Word.TheVariants as reserved
use Rattle.selector_read.specs.Trees.{Tree, int, text, truth, name, minus, plus, math, compare, between, one_of, like, is_null, negation, both, either}

-- NOT, where the form is negated
abbrev pub negated_by : Bool → List Token
negated_by true = Word reserved.Not ∷ []
negated_by false = []

-- strings with commas between them; at least one
abbrev pub listed : List ℕ → List (List ℕ) → List Token
listed s [] = Text s ∷ []
listed s (t ∷ ts) = Text s ∷ Comma ∷ listed t ts

-- the escape string is exactly this character
abbrev pub IsCharacter : List ℕ → ℕ → Type 0
IsCharacter s c = IsScalar c × (s ≡ encode_utf8 c)

-- the characters don't end with an escape character that escapes nothing
abbrev pub is_closed : ℕ → List ℕ → Bool
is_closed escape [] = true
is_closed escape (c ∷ []) = not (c == escape)
is_closed escape (c ∷ d ∷ cs) = if c == escape then is_closed escape cs else is_closed escape (d ∷ cs)

-- the characters of a text; none where the bytes are no UTF-8, as the strings of a text never are
unfoldable pub characters : List ℕ → List ℕ
characters s = if is_utf8 s then chars s else []

-- the pattern doesn't end with an escape character that escapes nothing
abbrev pub is_whole_pattern : ℕ → List ℕ → Bool
is_whole_pattern escape pattern = is_closed escape (characters pattern)

-- the level of a sum or a product
abbrev pub math_level : MathOp → ℕ
math_level Add = 5
math_level Sub = 5
math_level Mul = 6
math_level Div = 6

-- `Derives l d tokens tree`: the tokens are a form of level l which stands for the tree, and no more than d of its parentheses, NOTs and signs
-- are unfinished at any place. The levels: 1 or, 2 and, 3 not, 4 comparison, 5 sum, 6 product, 7 unary, 8 primary.
pub data Derives : ℕ → ℕ → List Token → Tree → Type 0 where
  -- or := and (OR and)*
  or_first : (d : ℕ) (ts : List Token) (a : Tree) → Derives 2 d ts a → Derives 1 d ts a
  or_more : (d : ℕ) (ts us : List Token) (a b : Tree) → Derives 1 d ts a → Derives 2 d us b → Derives 1 d (ts ++ Word reserved.Or ∷ us) (either a b)
  -- and := not (AND not)*
  and_first : (d : ℕ) (ts : List Token) (a : Tree) → Derives 3 d ts a → Derives 2 d ts a
  and_more : (d : ℕ) (ts us : List Token) (a b : Tree) → Derives 2 d ts a → Derives 3 d us b → Derives 2 d (ts ++ Word reserved.And ∷ us) (both a b)
  -- not := NOT not | comparison
  negated : (d : ℕ) (ts : List Token) (a : Tree) → Derives 3 d ts a → Derives 3 (suc d) (Word reserved.Not ∷ ts) (negation a)
  unnegated : (d : ℕ) (ts : List Token) (a : Tree) → Derives 4 d ts a → Derives 3 d ts a
  -- comparison := sum | sum OP sum | sum [NOT] BETWEEN sum AND sum
  uncompared : (d : ℕ) (ts : List Token) (a : Tree) → Derives 5 d ts a → Derives 4 d ts a
  compared : (d : ℕ) (op : CompareOp) (ts us : List Token) (a b : Tree) → Derives 5 d ts a → Derives 5 d us b → Derives 4 d (ts ++ Compare op ∷ us) (compare op a b)
  within : (d : ℕ) (n : Bool) (ts us vs : List Token) (a b c : Tree) → Derives 5 d ts a → Derives 5 d us b → Derives 5 d vs c
      → Derives 4 d (ts ++ negated_by n ++ Word reserved.Between ∷ us ++ Word reserved.And ∷ vs) (between n a b c)
  -- | identifier [NOT] IN ( string , string , .. )
  listed_in : (d : ℕ) (n : Bool) (x s : List ℕ) (ss : List (List ℕ))
      → Derives 4 (suc d) (Name x ∷ negated_by n ++ Word reserved.In ∷ Open ∷ listed s ss ++ Close ∷ []) (one_of n x (s ∷ ss))
  -- | identifier [NOT] LIKE string [ESCAPE string]
  alike : (d : ℕ) (n : Bool) (x p : List ℕ) → Derives 4 d (Name x ∷ negated_by n ++ Word reserved.Like ∷ Text p ∷ []) (like n x p None)
  alike_escaped : (d : ℕ) (n : Bool) (x p e : List ℕ) (c : ℕ) → IsCharacter e c → is_whole_pattern c p ≡ true
      → Derives 4 d (Name x ∷ negated_by n ++ Word reserved.Like ∷ Text p ∷ Word reserved.Escape ∷ Text e ∷ []) (like n x p (Some c))
  -- | identifier IS [NOT] NULL
  null_or_not : (d : ℕ) (n : Bool) (x : List ℕ) → Derives 4 d (Name x ∷ Word reserved.Is ∷ negated_by n ++ Word reserved.Null ∷ []) (is_null n x)
  -- sum := product ((+|-) product)*
  sum_first : (d : ℕ) (ts : List Token) (a : Tree) → Derives 6 d ts a → Derives 5 d ts a
  added : (d : ℕ) (ts us : List Token) (a b : Tree) → Derives 5 d ts a → Derives 6 d us b → Derives 5 d (ts ++ Plus ∷ us) (math Add a b)
  subtracted : (d : ℕ) (ts us : List Token) (a b : Tree) → Derives 5 d ts a → Derives 6 d us b → Derives 5 d (ts ++ Minus ∷ us) (math Sub a b)
  -- product := unary ((*|/) unary)*
  product_first : (d : ℕ) (ts : List Token) (a : Tree) → Derives 7 d ts a → Derives 6 d ts a
  multiplied : (d : ℕ) (ts us : List Token) (a b : Tree) → Derives 6 d ts a → Derives 7 d us b → Derives 6 d (ts ++ Times ∷ us) (math Mul a b)
  divided : (d : ℕ) (ts us : List Token) (a b : Tree) → Derives 6 d ts a → Derives 7 d us b → Derives 6 d (ts ++ Divide ∷ us) (math Div a b)
  -- unary := (+|-) unary | primary
  signed_plus : (d : ℕ) (ts : List Token) (a : Tree) → Derives 7 d ts a → Derives 7 (suc d) (Plus ∷ ts) (plus a)
  signed_minus : (d : ℕ) (ts : List Token) (a : Tree) → Derives 7 d ts a → Derives 7 (suc d) (Minus ∷ ts) (minus a)
  unsigned : (d : ℕ) (ts : List Token) (a : Tree) → Derives 8 d ts a → Derives 7 d ts a
  -- primary := number | string | TRUE | FALSE | identifier | ( or )
  a_number : (d n : ℕ) → Derives 8 d (Number (pos n) ∷ []) (int (pos n))
  a_string : (d : ℕ) (s : List ℕ) → Derives 8 d (Text s ∷ []) (text s)
  a_true : (d : ℕ) → Derives 8 d (Word reserved.True ∷ []) (truth true)
  a_false : (d : ℕ) → Derives 8 d (Word reserved.False ∷ []) (truth false)
  a_name : (d : ℕ) (x : List ℕ) → Derives 8 d (Name x ∷ []) (name x)
  in_parentheses : (d : ℕ) (ts : List Token) (a : Tree) → Derives 1 d ts a → Derives 8 (suc d) (Open ∷ ts ++ Close ∷ []) a

-- how many parentheses, NOTs and signs may be unfinished at a place
abbrev pub most_nested : ℕ
most_nested = 64

-- these tokens begin a selector of which no more than d parentheses, NOTs and signs are unfinished at any place
abbrev pub GoesOnWithin : ℕ → List Token → Type 0
GoesOnWithin d ts = (us : List Token) × (t : Tree) × Derives 1 d (ts ++ us) t

-- these tokens begin a selector, however nested
abbrev pub GoesOn : List Token → Type 0
GoesOn ts = (d : ℕ) × GoesOnWithin d ts
