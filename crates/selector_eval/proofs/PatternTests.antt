-- The test of patterns, one place of a pattern at a time.
use Rattle.std.proofs.Common.{◌≡◌, ◌≢◌, ℕ, Bool, true, false, ◌&&◌, List, [], ◌∷◌, Option, refl, sym, ◌∙◌, inl, inr}
use Rattle.std.proofs.lemmas.Bool.{or_cases, or_left, or_right, and_parts, false≢true}
use Rattle.selector_eval.specs.declared.patterns.Part.{Part}
use Rattle.selector_eval.specs.declared.patterns.Part.TheVariants.{Any, One, Exactly}
use Rattle.selector_eval.specs.Patterns.{stands_for, parts, parts_fit, some_rest, is_empty, fits}

-- ---- some rest of a text

pub some_here : (f : List ℕ → Bool) (t : List ℕ) → f t ≡ true → some_rest f t ≡ true
some_here f [] h = h
some_here f (c ∷ t) h = or_left (f (c ∷ t)) (some_rest f t) h

pub some_later : (f : List ℕ → Bool) (c : ℕ) (t : List ℕ) → some_rest f t ≡ true → some_rest f (c ∷ t) ≡ true
some_later f c t h = or_right (f (c ∷ t)) (some_rest f t) h

pub some_past : (f : List ℕ → Bool) (c : ℕ) (t : List ℕ) → f (c ∷ t) ≡ false → some_rest f (c ∷ t) ≡ some_rest f t
some_past f c t h = rw h refl

pub some_of_some : (f : List ℕ → Bool) (t : List ℕ) → some_rest (some_rest f) t ≡ true → some_rest f t ≡ true
some_of_some f [] h = h
some_of_some f (c ∷ t) h = elim (or_cases (some_rest f (c ∷ t)) (some_rest (some_rest f) t) h) [
  | inl here ↦ here
  | inr later ↦ some_later f c t (some_of_some f t later)
]

-- what passes f has a first character, and passes g behind it
pub some_behind : (f g : List ℕ → Bool) → f [] ≡ false → ((c : ℕ) (t : List ℕ) → f (c ∷ t) ≡ true → g t ≡ true) → (c : ℕ) (t : List ℕ) → some_rest f (c ∷ t) ≡ true → some_rest g t ≡ true
some_behind f g none one c [] h = elim (or_cases (f (c ∷ [])) (f []) h) [
  | inl here ↦ one c [] here
  | inr later ↦ absurd (false≢true (sym none ∙ later))
]
some_behind f g none one c (d ∷ t) h = elim (or_cases (f (c ∷ d ∷ t)) (some_rest f (d ∷ t)) h) [
  | inl here ↦ some_here g (d ∷ t) (one c (d ∷ t) here)
  | inr later ↦ some_later g d t (some_behind f g none one d t later)
]

-- two tests that agree
pub some_ap : (f g : List ℕ → Bool) → ((t : List ℕ) → f t ≡ g t) → (t : List ℕ) → some_rest f t ≡ some_rest g t
some_ap f g same [] = same []
some_ap f g same (c ∷ t) = rw (same (c ∷ t), some_ap f g same t) refl

pub some_empty : (t : List ℕ) → some_rest is_empty t ≡ true
some_empty [] = refl
some_empty (c ∷ t) = some_empty t

-- ---- one place of a pattern

pub fits_empty : (e : Option ℕ) (p t : List ℕ) → parts e p ≡ [] → fits e p t ≡ is_empty t
unfolding fits
fits_empty e p t h = rw h refl

pub fits_any : (e : Option ℕ) (p rest t : List ℕ) → parts e p ≡ Any ∷ parts e rest → fits e p t ≡ some_rest (fits e rest) t
unfolding fits
fits_any e p rest t h = rw h refl

one_place : (part : Part) (ps : List Part) (c : ℕ) (t : List ℕ) → part ≢ Any → parts_fit (part ∷ ps) (c ∷ t) ≡ (stands_for part c && parts_fit ps t)
one_place Any ps c t ne = absurd (ne refl)
one_place One ps c t ne = refl
one_place (Exactly d) ps c t ne = refl

no_place : (part : Part) (ps : List Part) → part ≢ Any → parts_fit (part ∷ ps) [] ≡ false
no_place Any ps ne = absurd (ne refl)
no_place One ps ne = refl
no_place (Exactly d) ps ne = refl

pub fits_one : (e : Option ℕ) (p rest : List ℕ) (part : Part) (c : ℕ) (t : List ℕ) → parts e p ≡ part ∷ parts e rest → part ≢ Any → fits e p (c ∷ t) ≡ (stands_for part c && fits e rest t)
unfolding fits
fits_one e p rest part c t h ne = rw h (one_place part (parts e rest) c t ne)

pub fits_none : (e : Option ℕ) (p rest : List ℕ) (part : Part) → parts e p ≡ part ∷ parts e rest → part ≢ Any → fits e p [] ≡ false
unfolding fits
fits_none e p rest part h ne = rw h (no_place part (parts e rest) ne)

-- some rest of a text fits a pattern: then some rest behind its first character fits the pattern behind its first place
pub some_onwards : (e : Option ℕ) (p rest : List ℕ) (part : Part) (c : ℕ) (t : List ℕ) → parts e p ≡ part ∷ parts e rest → part ≢ Any → some_rest (fits e p) (c ∷ t) ≡ true → some_rest (fits e rest) t ≡ true
some_onwards e p rest part c t h ne = some_behind (fits e p) (fits e rest) (fits_none e p rest part h ne) (λ d u fit. (and_parts (stands_for part d) (fits e rest u) (sym (fits_one e p rest part d u h ne) ∙ fit)).1) c t

-- the text fits where its first characters and the pattern's first places are taken off, and what fits somewhere still
-- does
pub record Onwards (e : Option ℕ) (whole_pattern whole_text pattern text : List ℕ) : Type 0 where
  pub here : fits e whole_pattern whole_text ≡ fits e pattern text
  pub somewhere : some_rest (fits e whole_pattern) whole_text ≡ true → some_rest (fits e pattern) text ≡ true

pub onwards_start : (e : Option ℕ) (p t : List ℕ) → Onwards e p t p t
onwards_start e p t = record { here = refl; somewhere = λ h. h }

pub onwards_more : (e : Option ℕ) (wp wt p t rest : List ℕ) (part : Part) (c : ℕ) (u : List ℕ) → Onwards e wp wt p t → parts e p ≡ part ∷ parts e rest → part ≢ Any → t ≡ c ∷ u → stands_for part c ≡ true → Onwards e wp wt rest u
onwards_more e wp wt p t rest part c u so h ne first stands = record {
  here = so.here ∙ (rw first (fits_one e p rest part c u h ne ∙ rw stands refl));
  somewhere = λ some. some_onwards e p rest part c u h ne (rw first at (so.somewhere some));
}

same_if : (a b : Bool) → (a ≡ true → b ≡ true) → (b ≡ true → a ≡ true) → a ≡ b
same_if true b f g = sym (f refl)
same_if false true f g = g refl
same_if false false f g = refl

-- at a %
past_any : (e : Option ℕ) (p rest t : List ℕ) → parts e p ≡ Any ∷ parts e rest → some_rest (fits e p) t ≡ true → some_rest (fits e rest) t ≡ true
past_any e p rest t h some = some_of_some (fits e rest) t (sym (some_ap (fits e p) (some_rest (fits e rest)) (λ u. fits_any e p rest u h) t) ∙ some)

pub any_here : (e : Option ℕ) (wp wt p t rest : List ℕ) → Onwards e wp wt p t → parts e p ≡ Any ∷ parts e rest → fits e wp wt ≡ some_rest (fits e rest) t
any_here e wp wt p t rest so h = so.here ∙ fits_any e p rest t h

pub any_somewhere : (e : Option ℕ) (wp wt p t rest : List ℕ) → Onwards e wp wt p t → parts e p ≡ Any ∷ parts e rest → some_rest (fits e wp) wt ≡ some_rest (fits e rest) t
any_somewhere e wp wt p t rest so h = same_if _ _ (λ some. past_any e p rest t h (so.somewhere some)) (λ some. some_here (fits e wp) wt (any_here e wp wt p t rest so h ∙ some))
