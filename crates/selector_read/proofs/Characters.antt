-- The characters of a text, and where an escape character escapes nothing.
use Rattle.std.proofs.Common.{◌≡◌, ℕ, Bool, true, false, not, ◌&&◌, ◌==◌, List, [], ◌∷◌, ◌++◌, length, Some, None, cond, refl, sym, ap, ◌∙◌, arith}
use Rattle.std.specs.Prelude.{encode_utf8}
use Rattle.std.specs.Str.{IsUtf8, is_utf8, chars}
use Rattle.std.proofs.lemmas.Str.{IsUtf8-from_is_utf8, is_utf8-from_IsUtf8, chars-nil, chars_past_char, IsUtf8-past_char}
use Rattle.selector_read.specs.Grammar.{characters, is_closed}
use Rattle.selector_read.specs.Reading.{only_character}

-- an escape character stands just before these characters, if `escapes`: they are closed
abbrev pub closed_behind : Bool → ℕ → List ℕ → Bool
closed_behind false escape cs = is_closed escape cs
closed_behind true escape [] = false
closed_behind true escape (c ∷ cs) = is_closed escape cs

pub closed_behind-step : (escapes : Bool) (escape c : ℕ) (cs : List ℕ) → closed_behind escapes escape (c ∷ cs) ≡ closed_behind (not escapes && (c == escape)) escape cs
closed_behind-step true escape c cs = refl
closed_behind-step false escape c [] = ends (c == escape)
  where
    ends : (b : Bool) → not b ≡ closed_behind b escape []
    ends true = refl
    ends false = refl
closed_behind-step false escape c (d ∷ cs) = goes_on (c == escape)
  where
    goes_on : (b : Bool) → cond b (is_closed escape cs) (is_closed escape (d ∷ cs)) ≡ closed_behind b escape (d ∷ cs)
    goes_on true = refl
    goes_on false = refl

pub closed_behind-end : (escapes : Bool) (escape : ℕ) → closed_behind escapes escape [] ≡ not escapes
closed_behind-end true escape = refl
closed_behind-end false escape = refl

false_from : (b : Bool) → (b ≡ true → ⊥) → false ≡ b
false_from true refuted = absurd (refuted refl)
false_from false refuted = refl

pub characters-utf8 : (s : List ℕ) → IsUtf8 s → characters s ≡ chars s
unfolding characters
characters-utf8 s text = rw (is_utf8-from_IsUtf8 s text) refl

pub characters-bytes : (s : List ℕ) → (IsUtf8 s → ⊥) → characters s ≡ []
unfolding characters
characters-bytes s no_text = rw (sym (false_from (is_utf8 s) (λ t. no_text (IsUtf8-from_is_utf8 s t)))) refl

nil_from : (s : List ℕ) → length s ≡ 0 → s ≡ []
nil_from [] h = refl
nil_from (c ∷ cs) h = absurd (omega arith)

-- the text has no character, one character, or more
pub only_character-none : (text bytes : List ℕ) → chars text ≡ characters bytes → length text ≡ 0 → only_character bytes ≡ None
unfolding only_character
only_character-none text bytes same empty = rw (← same, nil_from text empty, chars-nil) refl

pub only_character-one : (text bytes rest : List ℕ) (c : ℕ) → IsUtf8 text → chars text ≡ characters bytes → text ≡ encode_utf8 c ++ rest → length rest ≡ 0
    → only_character bytes ≡ Some c
unfolding only_character
only_character-one text bytes rest c utf8 same first empty = rw (← same, chars_past_char text rest c utf8 first, nil_from rest empty, chars-nil) refl

pub only_character-more : (text bytes rest more : List ℕ) (c d : ℕ) → IsUtf8 text → chars text ≡ characters bytes → text ≡ encode_utf8 c ++ rest → rest ≡ encode_utf8 d ++ more
    → only_character bytes ≡ None
unfolding only_character
only_character-more text bytes rest more c d utf8 same first second =
    rw (← same, chars_past_char text rest c utf8 first, chars_past_char rest more d (IsUtf8-past_char text rest c utf8 first) second) refl

-- one character further
closed_behind-next : (escapes : Bool) (escape c : ℕ) (old new : List ℕ) (b : Bool) → IsUtf8 old → old ≡ encode_utf8 c ++ new → closed_behind escapes escape (chars old) ≡ b
    → closed_behind (not escapes && (c == escape)) escape (chars new) ≡ b
closed_behind-next escapes escape c old new b utf8 first so_far =
    sym (closed_behind-step escapes escape c (chars new)) ∙ (ap (closed_behind escapes escape) (sym (chars_past_char old new c utf8 first)) ∙ so_far)

-- the same, where the code takes the first character of `old` apart from the rest
pub next_may_escape : (escapes : Bool) (escape c : ℕ) (old new : List ℕ) (b : Bool) → escapes ≡ false → IsUtf8 old × (closed_behind escapes escape (chars old) ≡ b) → old ≡ encode_utf8 c ++ new
    → IsUtf8 new × (closed_behind (c == escape) escape (chars new) ≡ b)
next_may_escape true escape c old new b unescaped h first = absurd (cc)
next_may_escape false escape c old new b unescaped h first = (IsUtf8-past_char old new c h.0 first, closed_behind-next false escape c old new b h.0 first h.1)

pub next_is_escaped : (escapes : Bool) (escape c : ℕ) (old new : List ℕ) (b : Bool) → escapes ≡ true → IsUtf8 old × (closed_behind escapes escape (chars old) ≡ b) → old ≡ encode_utf8 c ++ new
    → IsUtf8 new × (closed_behind (not escapes) escape (chars new) ≡ b)
next_is_escaped false escape c old new b escaped h first = absurd (cc)
next_is_escaped true escape c old new b escaped h first = (IsUtf8-past_char old new c h.0 first, closed_behind-next true escape c old new b h.0 first h.1)
