-- How a text goes with the beginning of a pattern, by what the crate's own functions answer. Texts and patterns are
-- bytes here.
use Rattle.std.specs.Prelude.{◌≡◌, ℕ, ◌<◌, ◌≤◌, true, false, List, [], length, Option}
use Rattle.std.specs.Str.{chars}
use Rattle.selector_eval.specs.declared.patterns.Reached.{Reached}
use Rattle.selector_eval.specs.declared.patterns.Reached.TheVariants.{Fits, Fails, Open}
use Rattle.selector_eval.specs.Patterns.{fits, some_rest}

-- what stands behind a % ends the pattern, or is open
abbrev pub IsAfterPercent : List ℕ → List ℕ → Reached → Type 0
IsAfterPercent behind text Fits = behind ≡ []
IsAfterPercent behind text Fails = ⊥
IsAfterPercent behind text (Open p t) = (p.now ≡ behind) × (t.now ≡ text)

-- the text fits the pattern, and some rest of it does, exactly where some rest of `text` fits what is left of the
-- pattern
pub record LeadsTo (escape : Option ℕ) (whole_pattern whole_text pattern text : List ℕ) : Type 0 where
  pub here : fits escape (chars whole_pattern) (chars whole_text) ≡ some_rest (fits escape (chars pattern)) (chars text)
  pub somewhere : some_rest (fits escape (chars whole_pattern)) (chars whole_text) ≡ some_rest (fits escape (chars pattern)) (chars text)
  pub shorter_pattern : length pattern < length whole_pattern
  pub no_longer : length text ≤ length whole_text

-- what is answered of a text and a pattern is so
abbrev pub Tells : Option ℕ → List ℕ → List ℕ → Reached → Type 0
Tells escape pattern text Fits = fits escape (chars pattern) (chars text) ≡ true
Tells escape pattern text Fails = fits escape (chars pattern) (chars text) ≡ false
Tells escape pattern text (Open p t) = LeadsTo escape pattern text p.now t.now
