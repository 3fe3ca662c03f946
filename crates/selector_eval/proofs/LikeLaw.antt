-- The test of patterns says what patterns stand for.
use Rattle.std.proofs.Common.{◌≡◌, ℕ, Bool, true, false, ◌==◌, ◌↔◌, List, [], ◌∷◌, ◌++◌, Option, Some, None, refl, sym, ◌∙◌, ap, subst, inl, inr, eqb-true, eq-eqb}
use Rattle.std.proofs.lemmas.Bool.{and_parts, or_cases, or_parts, or_from, false≢true}
use Rattle.selector_eval.specs.declared.patterns.Part.TheVariants.{Exactly}
use Rattle.selector_eval.specs.Patterns.{percent, underscore, is_escape, is_wildcard, Fits, empty, percent_fits, underscore_fits, escaped_fits, plain_fits, last_fits, part_of, parts, parts_fit, some_rest, is_empty, behind, behind_one, fits}
use Rattle.selector_eval.proofs.PatternTests.{some_here, some_later}

-- ---- the parts of a pattern

parts_plain : (e : Option ℕ) (c : ℕ) (p : List ℕ) → is_escape e c ≡ false → parts e (c ∷ p) ≡ part_of c ∷ parts e p
parts_plain e c [] h = rw h refl
parts_plain e c (d ∷ p) h = rw h refl

parts_escaped : (e c : ℕ) (p : List ℕ) → parts (Some e) (e ∷ c ∷ p) ≡ Exactly c ∷ parts (Some e) p
parts_escaped e c p = rw (eq-eqb e e refl) refl

parts_last : (e : ℕ) → parts (Some e) (e ∷ []) ≡ Exactly e ∷ []
parts_last e = rw (eq-eqb e e refl) refl

part_plain : (c : ℕ) → is_wildcard c ≡ false → part_of c ≡ Exactly c
part_plain c h = let no : (c == percent ≡ false) × (c == underscore ≡ false) = or_parts (c == percent) (c == underscore) h in rw (no.0, no.1) refl

-- ---- what fits passes

skipped : (f : List ℕ → Bool) (any t : List ℕ) → f t ≡ true → some_rest f (any ++ t) ≡ true
skipped f [] t h = some_here f t h
skipped f (c ∷ any) t h = some_later f c (any ++ t) (skipped f any t h)

itself : (c : ℕ) (f : List ℕ → Bool) (t : List ℕ) → f t ≡ true → behind c f (c ∷ t) ≡ true
itself c f t h = rw (eq-eqb c c refl) h

pub passes : (e : Option ℕ) (p t : List ℕ) → Fits e p t → parts_fit (parts e p) t ≡ true
passes _ _ _ (empty e) = refl
passes _ _ _ (percent_fits e p any u plain rest) = rw (parts_plain e percent p plain) (skipped (parts_fit (parts e p)) any u (passes e p u rest))
passes _ _ _ (underscore_fits e p one t plain rest) = rw (parts_plain e underscore p plain) (passes e p t rest)
passes _ _ _ (escaped_fits e c p t rest) = rw (parts_escaped e c p) (itself c (parts_fit (parts (Some e) p)) t (passes (Some e) p t rest))
passes _ _ _ (plain_fits e c p t plain no_wildcard rest) = rw (parts_plain e c p plain, part_plain c no_wildcard) (itself c (parts_fit (parts e p)) t (passes e p t rest))
passes _ _ _ (last_fits e) = rw (parts_last e) (itself e is_empty [] refl)

-- ---- what passes fits

-- a text that passes behind some of its characters
behind_some : (f : List ℕ → Bool) (t : List ℕ) → some_rest f t ≡ true → (any : List ℕ) × (u : List ℕ) × (t ≡ any ++ u) × (f u ≡ true)
behind_some f [] h = ([], [], refl, h)
behind_some f (c ∷ t) h = elim (or_cases (f (c ∷ t)) (some_rest f t) h) [
  | inl here ↦ ([], c ∷ t, refl, here)
  | inr later ↦ let more = behind_some f t later in (c ∷ more.0, more.1, ap (λ u. c ∷ u) more.2, more.3)
]

behind_itself : (c : ℕ) (f : List ℕ → Bool) (t : List ℕ) → behind c f t ≡ true → (u : List ℕ) × (t ≡ c ∷ u) × (f u ≡ true)
behind_itself c f [] h = absurd (false≢true h)
behind_itself c f (d ∷ t) h = let two : (d == c ≡ true) × (f t ≡ true) = and_parts (d == c) (f t) h in (t, ap (λ x. x ∷ t) (eqb-true d c two.0), two.1)

behind_any : (f : List ℕ → Bool) (t : List ℕ) → behind_one f t ≡ true → (c : ℕ) × (u : List ℕ) × (t ≡ c ∷ u) × (f u ≡ true)
behind_any f [] h = absurd (false≢true h)
behind_any f (c ∷ t) h = (c, t, refl, h)

nothing : (t : List ℕ) → is_empty t ≡ true → t ≡ []
nothing [] h = refl
nothing (c ∷ t) h = absurd (false≢true h)

-- a pattern of which the rest is one that what passes fits
abbrev FitsWhatPasses : Option ℕ → List ℕ → Type 0
FitsWhatPasses e p = (t : List ℕ) → parts_fit (parts e p) t ≡ true → Fits e p t

at_percent : (e : Option ℕ) (p t : List ℕ) → is_escape e percent ≡ false → FitsWhatPasses e p → some_rest (parts_fit (parts e p)) t ≡ true → Fits e (percent ∷ p) t
at_percent e p t plain rest h = let found = behind_some (parts_fit (parts e p)) t h in subst (λ (u : List ℕ). Fits e (percent ∷ p) u) (sym found.2) (percent_fits e p found.0 found.1 plain (rest found.1 found.3))

at_underscore : (e : Option ℕ) (p t : List ℕ) → is_escape e underscore ≡ false → FitsWhatPasses e p → behind_one (parts_fit (parts e p)) t ≡ true → Fits e (underscore ∷ p) t
at_underscore e p t plain rest h = let found = behind_any (parts_fit (parts e p)) t h in subst (λ (u : List ℕ). Fits e (underscore ∷ p) u) (sym found.2) (underscore_fits e p found.0 found.1 plain (rest found.1 found.3))

at_plain : (e : Option ℕ) (c : ℕ) (p t : List ℕ) → is_escape e c ≡ false → is_wildcard c ≡ false → FitsWhatPasses e p → behind c (parts_fit (parts e p)) t ≡ true → Fits e (c ∷ p) t
at_plain e c p t plain no_wildcard rest h = let found = behind_itself c (parts_fit (parts e p)) t h in subst (λ (u : List ℕ). Fits e (c ∷ p) u) (sym found.1) (plain_fits e c p found.0 plain no_wildcard (rest found.0 found.2))

-- a character that isn't escaped
at_character : (e : Option ℕ) (c : ℕ) (p : List ℕ) → is_escape e c ≡ false → FitsWhatPasses e p → FitsWhatPasses e (c ∷ p)
at_character e c p plain rest t h = by_sign (c == percent) (c == underscore) refl refl (rw (parts_plain e c p plain) at h)
  where
    by_sign : (a b : Bool) → c == percent ≡ a → c == underscore ≡ b → parts_fit (part_of c ∷ parts e p) t ≡ true → Fits e (c ∷ p) t
    by_sign true b first second h' = let sign : c ≡ percent = eqb-true c percent first in subst (λ (x : ℕ). Fits e (x ∷ p) t) (sym sign) (at_percent e p t (rw sign at plain) rest (rw first at h'))
    by_sign false true first second h' = let sign : c ≡ underscore = eqb-true c underscore second in subst (λ (x : ℕ). Fits e (x ∷ p) t) (sym sign) (at_underscore e p t (rw sign at plain) rest (rw (first, second) at h'))
    by_sign false false first second h' = at_plain e c p t plain (or_from (c == percent) (c == underscore) first second) rest (rw (first, second) at h')

at_escaped : (e c d : ℕ) (p : List ℕ) → c == e ≡ true → FitsWhatPasses (Some e) p → FitsWhatPasses (Some e) (c ∷ d ∷ p)
at_escaped e c d p same rest t h = let x : c ≡ e = eqb-true c e same in let found = behind_itself d (parts_fit (parts (Some e) p)) t (rw (x, parts_escaped e d p) at h) in
    subst (λ (y : ℕ). Fits (Some e) (y ∷ d ∷ p) t) (sym x) (subst (λ (u : List ℕ). Fits (Some e) (e ∷ d ∷ p) u) (sym found.1) (escaped_fits e d p found.0 (rest found.0 found.2)))

at_last : (e c : ℕ) → c == e ≡ true → FitsWhatPasses (Some e) (c ∷ [])
at_last e c same t h = let x : c ≡ e = eqb-true c e same in let found = behind_itself e is_empty t (rw (x, parts_last e) at h) in
    subst (λ (y : ℕ). Fits (Some e) (y ∷ []) t) (sym x) (subst (λ (u : List ℕ). Fits (Some e) (e ∷ []) u) (sym (found.1 ∙ ap (λ u. e ∷ u) (nothing found.0 found.2))) (last_fits e))

at_end : (e : Option ℕ) → FitsWhatPasses e []
at_end e t h = subst (λ (u : List ℕ). Fits e [] u) (sym (nothing t h)) (empty e)

at_one : (e c : ℕ) (b : Bool) → c == e ≡ b → FitsWhatPasses (Some e) (c ∷ [])
at_one e c true same = at_last e c same
at_one e c false other = at_character (Some e) c [] other (at_end (Some e))

at_two : (e c d : ℕ) (p : List ℕ) (b : Bool) → c == e ≡ b → FitsWhatPasses (Some e) p → FitsWhatPasses (Some e) (d ∷ p) → FitsWhatPasses (Some e) (c ∷ d ∷ p)
at_two e c d p true same escaped plain = at_escaped e c d p same escaped
at_two e c d p false other escaped plain = at_character (Some e) c (d ∷ p) other plain

pub fitting : (e : Option ℕ) (p : List ℕ) → FitsWhatPasses e p
fitting e [] = at_end e
fitting None (c ∷ p) = at_character None c p refl (fitting None p)
fitting (Some e) (c ∷ []) = at_one e c (c == e) refl
fitting (Some e) (c ∷ d ∷ p) = at_two e c d p (c == e) refl (fitting (Some e) p) (fitting (Some e) (d ∷ p))

pub like_test : (e : Option ℕ) (p t : List ℕ) → Fits e p t ↔ (fits e p t ≡ true)
unfolding fits
like_test e p t = (passes e p t, fitting e p t)
