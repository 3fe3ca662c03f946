-- What is a selector, and the first fault of a text that is none.
use Rattle.std.specs.Prelude.{◌≡◌, ℕ, ◌<◌, ◌≤◌, Bool, true, false, ◌⊎◌, List, [], ◌∷◌, ◌++◌, map, length, Some, None}
use Rattle.selector_tokens.specs.declared.faults.Kind.{Kind}
use Rattle.selector_tokens.specs.declared.faults.Kind.TheVariants.{TooLong, TooDeep, Unexpected}
use Rattle.selector_tokens.specs.declared.tokens.Token.{Token}
use Rattle.selector_tokens.specs.declared.tokens.Token.TheVariants.{Word, Text, Plus, Minus, Open}
use Rattle.selector_tokens.specs.declared.tokens.Word.TheVariants as reserved
use Rattle.selector_tokens.specs.declared.tokens.Placed.{Placed}
use Rattle.selector_tokens.specs.Lexing.{lexed}
use Rattle.selector_read.specs.declared.limits.TheConstants.{LONGEST_TEXT}
use Rattle.selector_read.specs.Trees.{Tree}
use Rattle.selector_read.specs.Grammar.{Derives, GoesOn, GoesOnWithin, IsCharacter, most_nested}

-- what a text is: the selector that this tree is, or none, by the first fault and its place
pub data Outcome : Type 0 where
  reads : Tree → Outcome
  refused : ℕ → Kind → Outcome

-- a text has at most so many bytes
abbrev pub longest_text : ℕ
longest_text = LONGEST_TEXT

-- the tokens without their places
abbrev pub tokens : List Placed → List Token
tokens ps = map (λ p. p.token) ps

-- the text is tokens to its end, and they are a selector that stands for this tree
pub record StandsFor (text : List ℕ) (tree : Tree) : Type 0 where
  pub whole : (lexed text).stop.fault ≡ None
  pub derived : Derives 1 most_nested (tokens (lexed text).tokens) tree

-- the text is a selector, and stands for this tree
pub record IsSelector (text : List ℕ) (tree : Tree) : Type 0 where
  pub short : length text ≤ longest_text
  pub stands : StandsFor text tree

-- some text stands for this tree
abbrev pub IsWritable : Tree → Type 0
IsWritable t = (text : List ℕ) × IsSelector text t

-- ---- faults

-- no selector goes on with this token after those before it
abbrev pub IsUnexpected : List Token → Token → Type 0
IsUnexpected before t = GoesOn (before ++ t ∷ []) → ⊥

-- what may begin a form that counts for the nesting: NOT, a sign, a parenthesis
abbrev pub may_nest : Token → Bool
may_nest (Word reserved.Not) = true
may_nest Plus = true
may_nest Minus = true
may_nest Open = true
may_nest other = false

-- selectors go on with this NOT, sign or parenthesis, but none of them within the limit of nesting
pub record IsTooDeep (before : List Token) (t : Token) : Type 0 where
  pub nests : may_nest t ≡ true
  pub goes_on : GoesOn (before ++ t ∷ [])
  pub deep : GoesOnWithin most_nested (before ++ t ∷ []) → ⊥

-- this is what is at fault in a token, after those before it
abbrev pub IsAtFault : Kind → List Token → Token → Type 0
IsAtFault kind before t = ((kind ≡ Unexpected) × IsUnexpected before t) ⊎ ((kind ≡ TooDeep) × IsTooDeep before t)

-- no token is at fault
abbrev pub IsFaultless : List Token → Type 0
IsFaultless ts = (kind : Kind) (before after : List Token) (t : Token) → ts ≡ before ++ t ∷ after → IsAtFault kind before t → ⊥

-- The place of a fault in a token: its own. But where an ESCAPE string is one character, its pattern is at fault, two tokens before.
abbrev pub IsEscape : Placed → Type 0
IsEscape p = p.token ≡ Word reserved.Escape

-- the token is a string of one character
abbrev pub IsCharacterToken : Placed → Type 0
IsCharacterToken p = (s : List ℕ) × (c : ℕ) × (p.token ≡ Text s) × IsCharacter s c

-- `front`, the pattern and ESCAPE stand before the token
abbrev pub EndsAnEscape : List Placed → Placed → ℕ → Type 0
EndsAnEscape before p at = (front : List Placed) × (pattern : Placed) × (word : Placed) × (before ≡ front ++ pattern ∷ word ∷ []) × IsEscape word × IsCharacterToken p × (at ≡ pattern.at)

-- this is where the fault of the token is told
abbrev pub IsPlace : List Placed → Placed → ℕ → Type 0
IsPlace before p at = EndsAnEscape before p at ⊎ (((n : ℕ) → EndsAnEscape before p n → ⊥) × (at ≡ p.at))

-- the first token that is at fault
pub record IsTokenFault (text : List ℕ) (at : ℕ) (kind : Kind) : Type 0 where
  pub before : List Placed
  pub token : Placed
  pub after : List Placed
  pub cut : (lexed text).tokens ≡ before ++ token ∷ after
  pub faultless : IsFaultless (tokens before)
  pub fault : IsAtFault kind (tokens before) token.token
  pub place : IsPlace before token at

-- behind all tokens: no token can be read there, or the text ends there and is no selector
pub record IsEndFault (text : List ℕ) (at : ℕ) (kind : Kind) : Type 0 where
  pub faultless : IsFaultless (tokens (lexed text).tokens)
  pub place : at ≡ (lexed text).stop.at
  pub fault : ((lexed text).stop.fault ≡ Some kind)
      ⊎ (((lexed text).stop.fault ≡ None) × (kind ≡ Unexpected) × ((d : ℕ) (t : Tree) → Derives 1 d (tokens (lexed text).tokens) t → ⊥))

-- the first fault of a text, and its place
abbrev pub IsFirstFault : List ℕ → ℕ → Kind → Type 0
IsFirstFault text at kind =
    ((longest_text < length text) × (at ≡ longest_text) × (kind ≡ TooLong))
    ⊎ ((length text ≤ longest_text) × (IsTokenFault text at kind ⊎ IsEndFault text at kind))

-- the text is this
abbrev pub IsOutcome : List ℕ → Outcome → Type 0
IsOutcome text (reads t) = IsSelector text t
IsOutcome text (refused at kind) = IsFirstFault text at kind
