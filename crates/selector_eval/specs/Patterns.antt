-- The patterns of LIKE (JMS 1.1, section 3.8.1.1), over the characters of the pattern and of the text.
use Rattle.std.specs.Prelude.{◌≡◌, ℕ, Bool, true, false, ◌&&◌, ◌||◌, ◌==◌, List, [], ◌∷◌, ◌++◌, Option, Some, None, if◌then◌else◌}
use Rattle.selector_eval.specs.declared.patterns.Part.{Part}
use Rattle.selector_eval.specs.declared.patterns.Part.TheVariants.{Any, One, Exactly}

-- the character that stands for any characters, or none
abbrev pub percent : ℕ
percent = 37

-- the character that stands for any one
abbrev pub underscore : ℕ
underscore = 95

-- whether this is the escape character
abbrev pub is_escape : Option ℕ → ℕ → Bool
is_escape None c = false
is_escape (Some e) c = c == e

-- % and _
abbrev pub is_wildcard : ℕ → Bool
is_wildcard c = (c == percent) || (c == underscore)

-- `Fits escape pattern text`: the whole text is one that the pattern stands for
pub data Fits : Option ℕ → List ℕ → List ℕ → Type 0 where
  -- an empty pattern stands for the empty text
  empty : (e : Option ℕ) → Fits e [] []
  -- % stands for any characters
  percent_fits : (e : Option ℕ) (p any t : List ℕ) → is_escape e percent ≡ false → Fits e p t → Fits e (percent ∷ p) (any ++ t)
  -- _ stands for exactly one character
  underscore_fits : (e : Option ℕ) (p : List ℕ) (one : ℕ) (t : List ℕ) → is_escape e underscore ≡ false → Fits e p t → Fits e (underscore ∷ p) (one ∷ t)
  -- a character behind the escape character stands for itself
  escaped_fits : (e c : ℕ) (p t : List ℕ) → Fits (Some e) p t → Fits (Some e) (e ∷ c ∷ p) (c ∷ t)
  -- any other character stands for itself
  plain_fits : (e : Option ℕ) (c : ℕ) (p t : List ℕ) → is_escape e c ≡ false → is_wildcard c ≡ false → Fits e p t → Fits e (c ∷ p) (c ∷ t)
  -- so does an escape character that ends the pattern, as no selector has one
  last_fits : (e : ℕ) → Fits (Some e) (e ∷ []) (e ∷ [])

-- ---- the same as a test

-- what a character that is not escaped stands for
abbrev pub part_of : ℕ → Part
part_of c = if c == percent then Any else (if c == underscore then One else Exactly c)

-- what each place of the pattern stands for
abbrev pub parts : Option ℕ → List ℕ → List Part
parts e [] = []
parts e (c ∷ []) = (if is_escape e c then Exactly c else part_of c) ∷ []
parts e (c ∷ d ∷ p) = if is_escape e c then Exactly d ∷ parts e p else part_of c ∷ parts e (d ∷ p)

-- what is left of the text passes, behind no or some of its first characters
abbrev pub some_rest : (List ℕ → Bool) → List ℕ → Bool
some_rest passes [] = passes []
some_rest passes (c ∷ t) = passes (c ∷ t) || some_rest passes t

-- whether nothing is left of a text
abbrev pub is_empty : List ℕ → Bool
is_empty [] = true
is_empty (c ∷ t) = false

-- the text passes behind its first character, which has to be this one
abbrev pub behind : ℕ → (List ℕ → Bool) → List ℕ → Bool
behind c passes [] = false
behind c passes (d ∷ t) = (d == c) && passes t

-- the text passes behind its first character, whichever that is
abbrev pub behind_one : (List ℕ → Bool) → List ℕ → Bool
behind_one passes [] = false
behind_one passes (d ∷ t) = passes t

-- whether the whole text fits what these places stand for, one after the other
abbrev pub parts_fit : List Part → List ℕ → Bool
parts_fit [] t = is_empty t
parts_fit (Any ∷ ps) t = some_rest (parts_fit ps) t
parts_fit (One ∷ ps) t = behind_one (parts_fit ps) t
parts_fit (Exactly c ∷ ps) t = behind c (parts_fit ps) t

-- whether the text fits the pattern
unfoldable pub fits : Option ℕ → List ℕ → List ℕ → Bool
fits e pattern text = parts_fit (parts e pattern) text

-- ---- how far a text goes with a pattern

-- the character is what this place of a pattern stands for, or one of these
abbrev pub stands_for : Part → ℕ → Bool
stands_for Any c = true
stands_for One c = true
stands_for (Exactly d) c = c == d
