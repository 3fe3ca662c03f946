-- How a text goes with a pattern up to a place of it, in bytes as the functions say it.
use Rattle.std.proofs.Common.{◌≡◌, ◌≢◌, ℕ, ◌<◌, ◌≤◌, ◌==◌, eq-eqb, eqb-true, arith, true, false, List, [], ◌∷◌, length, Option, refl, sym, ◌∙◌, ap}
use Rattle.std.specs.Str.{chars, IsUtf8, encode_utf8_all}
use Rattle.std.proofs.lemmas.Str.{chars-nil, encodes-chars}
use Rattle.std.proofs.lemmas.Bool.{false≢true}
use Rattle.selector_eval.specs.declared.patterns.Part.{Part}
use Rattle.selector_eval.specs.declared.patterns.Part.TheVariants.{Any}
use Rattle.selector_eval.specs.declared.patterns.Reached.{Reached}
use Rattle.selector_eval.specs.declared.patterns.Reached.TheVariants.{Fits, Fails, Open}
use Rattle.selector_eval.specs.Patterns.{fits, parts, some_rest, is_empty, stands_for}
use Rattle.selector_eval.specs.Reached.{IsAfterPercent, Tells}
use Rattle.selector_eval.proofs.PatternTests.{Onwards, any_here, any_somewhere, some_empty, fits_empty, fits_one, fits_none, some_ap}

no_parts : (e : Option ℕ) (t : List ℕ) → some_rest (fits e []) t ≡ true
no_parts e t = some_ap (fits e []) is_empty (λ u. fits_empty e [] u refl) t ∙ some_empty t

pub told_at_percent : (e : Option ℕ) (wp wt p t behind : List ℕ) (r : Reached) → Onwards e (chars wp) (chars wt) (chars p) (chars t) → parts e (chars p) ≡ Any ∷ parts e (chars behind)
    → IsAfterPercent behind t r → length behind < length wp → length t ≤ length wt → Tells e wp wt r
told_at_percent e wp wt p t behind Fits so h empty less le =
    any_here e (chars wp) (chars wt) (chars p) (chars t) (chars behind) so h ∙ (rw (empty, chars-nil) (no_parts e (chars t)))
told_at_percent e wp wt p t behind Fails so h none less le = absurd none
told_at_percent e wp wt p t behind (Open q u) so h same less le = record {
  here = any_here e (chars wp) (chars wt) (chars p) (chars t) (chars behind) so h ∙ rw (same.0, same.1) refl;
  somewhere = any_somewhere e (chars wp) (chars wt) (chars p) (chars t) (chars behind) so h ∙ rw (same.0, same.1) refl;
  shorter_pattern = rw same.0 less;
  no_longer = rw same.1 le;
}

-- where the first character isn't what the pattern's first place stands for
pub told_wrong : (e : Option ℕ) (wp wt p t rest : List ℕ) (part : Part) (c : ℕ) (u : List ℕ) → Onwards e wp wt p t → parts e p ≡ part ∷ parts e rest → part ≢ Any → t ≡ c ∷ u → stands_for part c ≡ false → fits e wp wt ≡ false
told_wrong e wp wt p t rest part c u so h ne first wrong = so.here ∙ (rw first (fits_one e p rest part c u h ne ∙ rw wrong refl))

-- where no character is left
pub told_short : (e : Option ℕ) (wp wt p t rest : List ℕ) (part : Part) → Onwards e wp wt p t → parts e p ≡ part ∷ parts e rest → part ≢ Any → t ≡ [] → fits e wp wt ≡ false
told_short e wp wt p t rest part so h ne none = so.here ∙ (rw none (fits_none e p rest part h ne))

-- where the pattern ends
pub told_end : (e : Option ℕ) (wp wt p t : List ℕ) → Onwards e wp wt p t → parts e p ≡ [] → fits e wp wt ≡ is_empty t
told_end e wp wt p t so h = so.here ∙ fits_empty e p t h

no_characters : (t cs : List ℕ) → chars t ≡ cs → encode_utf8_all cs ≡ t → length t == 0 ≡ false → is_empty cs ≡ false
no_characters t [] e same some = absurd (false≢true (sym some ∙ eq-eqb (length t) 0 (ap length (sym same))))
no_characters t (c ∷ cs) e same some = refl

pub empty_of_empty : (t : List ℕ) → length t == 0 ≡ true → is_empty (chars t) ≡ true
empty_of_empty [] none = rw chars-nil refl
empty_of_empty (c ∷ t) none = let e : length (c ∷ t) ≡ 0 = eqb-true (length (c ∷ t)) 0 none in absurd (omega arith)

pub some_of_some_text : (t : List ℕ) → IsUtf8 t → length t == 0 ≡ false → is_empty (chars t) ≡ false
some_of_some_text t text some = no_characters t (chars t) refl (encodes-chars t text) some
