-- The place of a fault in a token.
use Rattle.std.proofs.Common.{◌≡◌, ℕ, Bool, true, false, List, [], ◌∷◌, ◌++◌, Some, refl, sym, ap, ◌∙◌, subst, append_assoc, if◌then◌else◌}
use Rattle.selector_tokens.specs.declared.tokens.Token.{Token}
use Rattle.selector_tokens.specs.declared.tokens.Token.TheVariants.{Name, Word, Text}
use Rattle.selector_tokens.specs.declared.tokens.Word.TheVariants as reserved
use Rattle.selector_tokens.specs.declared.tokens.Placed.{Placed}
use Rattle.selector_read.specs.Trees.{like}
use Rattle.selector_read.specs.Grammar.{negated_by, is_whole_pattern}
use Rattle.selector_read.specs.Selectors.{tokens, EndsAnEscape}
use Rattle.selector_read.specs.Reading.{Begun, Mode, valued, pattern_read, escape_next, State, state, start, Step, goes, open_pattern, only_character, escaped, step_in, step}
use Rattle.selector_read.proofs.Runs.{run}
use Rattle.selector_read.proofs.Complete.{only_character_is}
use Rattle.selector_read.proofs.FaultsLimits.{cut, one_goes}
use Rattle.selector_read.proofs.SoundModes.{Inner, OnStep, OpenAt}
use Rattle.selector_read.proofs.SoundSteps.{is_character}

-- ---- ends of lists

module _ {A : Type 0} where
  pub same_ends : (xs ys : List A) (x y : A) → xs ++ x ∷ [] ≡ ys ++ y ∷ [] → (xs ≡ ys) × (x ≡ y)
  same_ends [] [] x y is = (refl, cc)
  same_ends [] (b ∷ []) x y is = absurd cc
  same_ends [] (b ∷ c ∷ ys) x y is = absurd cc
  same_ends (a ∷ []) [] x y is = absurd cc
  same_ends (a ∷ b ∷ xs) [] x y is = absurd cc
  same_ends (a ∷ xs) (b ∷ ys) x y is =
      let head : a ≡ b = cc in
      let tail : xs ++ x ∷ [] ≡ ys ++ y ∷ [] = cc in
      let rest : (xs ≡ ys) × (x ≡ y) = same_ends xs ys x y tail in
      let front : xs ≡ ys = rest.0 in
      (cc, rest.1)

  pub same_two : (xs ys : List A) (x y u v : A) → xs ++ x ∷ u ∷ [] ≡ ys ++ y ∷ v ∷ [] → (xs ≡ ys) × (x ≡ y)
  same_two xs ys x y u v is = same_ends xs ys x y
      (same_ends (xs ++ x ∷ []) (ys ++ y ∷ []) u v
      (append_assoc xs (x ∷ []) (u ∷ []) ∙ is ∙ sym (append_assoc ys (y ∷ []) (v ∷ [])))).0

-- ---- the places of the two tokens before

abbrev pub Trail : List Placed → ℕ → ℕ → Type 0
Trail before older last = ((front : List Placed) (a b : Placed) → before ≡ front ++ a ∷ b ∷ []
    → older ≡ a.at) × ((front : List Placed) (b : Placed) → before ≡ front ++ b ∷ [] → last ≡ b.at)

pub trail_start : Trail [] 0 0
trail_start = (two, one)
  where
    two : (front : List Placed) (a b : Placed) → [] ≡ front ++ a ∷ b ∷ [] → 0 ≡ a.at
    two [] a b is = absurd cc
    two (c ∷ front) a b is = absurd cc

    one : (front : List Placed) (b : Placed) → [] ≡ front ++ b ∷ [] → 0 ≡ b.at
    one [] b is = absurd cc
    one (c ∷ front) b is = absurd cc

pub trail_on : (before : List Placed) (older last : ℕ) (p : Placed) → Trail before older last
    → Trail (before ++ p ∷ []) last p.at
trail_on before older last p trail = (
  λ front a b is. trail.1 front a (same_ends before (front ++ a ∷ []) p b
      (is ∙ sym (append_assoc front (a ∷ []) (b ∷ [])))).0,
  λ front b is. ap (λ q. q.at) (same_ends before front p b is).1,
)

-- ---- tokens and their places

pub tokens_append : (ps qs : List Placed) → tokens (ps ++ qs) ≡ tokens ps ++ tokens qs
tokens_append [] qs = refl
tokens_append (p ∷ ps) qs = ap (λ (l : List Token). p.token ∷ l) (tokens_append ps qs)

-- the two last tokens have places
record Two (before : List Placed) (t u : Token) : Type 0 where
  pub front : List Placed
  pub a : Placed
  pub b : Placed
  pub is : before ≡ front ++ a ∷ b ∷ []
  pub first : a.token ≡ t
  pub second : b.token ≡ u

one_before : (a : Placed) (rest : List Placed) (t u : Token) → Two rest t u → Two (a ∷ rest) t u
one_before a rest t u two = record {
  front = a ∷ two.front;
  a = two.a;
  b = two.b;
  is = ap (λ (l : List Placed). a ∷ l) two.is;
  first = two.first;
  second = two.second;
}

two_last : (front : List Token) (before : List Placed) (t u : Token) → tokens before ≡ front ++ t ∷ u ∷ []
    → Two before t u
two_last [] [] t u is = absurd cc
two_last [] (a ∷ []) t u is = absurd cc
two_last [] (a ∷ b ∷ []) t u is = record { front = []; a = a; b = b; is = refl; first = cc; second = cc }
two_last [] (a ∷ b ∷ c ∷ rest) t u is = absurd cc
two_last (f ∷ front) [] t u is = absurd cc
two_last (f ∷ front) (a ∷ rest) t u is =
    let tail : tokens rest ≡ front ++ t ∷ u ∷ [] = cc in
    one_before a rest t u (two_last front rest t u tail)

-- ---- an open pattern is told at the pattern

pub open_place : (d : ℕ) (fs : List Begun) (m : Mode) (front part : List Token) (before : List Placed) (p : Placed)
    (older last : ℕ) → Inner d fs m part → front ++ part ≡ tokens before → OpenAt m p.token → Trail before older last
    → EndsAnEscape before p older
open_place d fs (escape_next n x pattern) front part before p older last (low, is) cut (e, c, text, one) trail =
    let whole : tokens before
    ≡ front ++ ((Name x ∷ negated_by n) ++ Word reserved.Like ∷ []) ++ Text pattern ∷ Word reserved.Escape ∷ [] =
    sym cut ∙ ap (λ (l : List Token). front ++ l) is ∙ regroup in
    let two : Two before (Text pattern) (Word reserved.Escape) =
    two_last (front ++ ((Name x ∷ negated_by n) ++ Word reserved.Like ∷ [])) before (Text pattern)
    (Word reserved.Escape) whole in (
      two.front,
      two.a,
      two.b,
      two.is,
      two.second,
      (e, c, text, is_character e c one),
      trail.0 two.front two.a two.b two.is,
    )
  where
    regroup : front ++ ((Name x ∷ negated_by n) ++ Word reserved.Like ∷ Text pattern ∷ Word reserved.Escape ∷ [])
        ≡ front ++ ((Name x ∷ negated_by n) ++ Word reserved.Like ∷ []) ++ Text pattern ∷ Word reserved.Escape ∷ []
    regroup = simp append_assoc
open_place d fs other front part before p older last inner cut found trail = absurd found

-- ---- other faults are told at the token itself

abbrev IsEscapeMode : Mode → Type 0
IsEscapeMode (escape_next n x p) = Unit {0}
IsEscapeMode other = ⊥

-- ESCAPE leads only to its string
escape_leads : (most : ℕ) (fs : List Begun) (m : Mode)
    → OnStep (Unit {0}) (λ s. IsEscapeMode s.mode) (step_in most fs m (Word reserved.Escape))
escape_leads most fs (pattern_read n x p) = tt
escape_leads most fs other = tt

escape_leads_to : (most : ℕ) (s next : State) → step most s (Word reserved.Escape) ≡ goes next → IsEscapeMode next.mode
unfolding step
escape_leads_to most s next is = subst (OnStep (Unit {0}) (λ s. IsEscapeMode s.mode)) is
    (escape_leads most s.begun s.mode)

-- one character goes on there, or finds an open pattern
abbrev pub IsRead : Step → Type 0
IsRead (goes s) = Unit {0}
IsRead open_pattern = Unit {0}
IsRead other = ⊥

character_read : (most : ℕ) (fs : List Begun) (m : Mode) (e : List ℕ) (c : ℕ) → IsEscapeMode m
    → only_character e ≡ Some c → IsRead (step_in most fs m (Text e))
character_read most fs (escape_next n x p) e c at is =
    subst (λ o. IsRead (escaped fs n x p o)) (sym is) (go (is_whole_pattern c p))
  where
    go : (b : Bool) → IsRead (if b then goes (state fs (valued (like n x p (Some c)) 4)) else open_pattern)
    go true = tt
    go false = tt
character_read most fs other e c at is = absurd at

pub own_place : (most : ℕ) (before : List Placed) (p : Placed) (s : State) (n : ℕ)
    → run most start (tokens before) ≡ goes s → EndsAnEscape before p n → IsRead (step most s p.token)
unfolding step
own_place most before p s n run_is (front, pattern, word, is, escape, (e, c, text, one), place) =
    let said : tokens before ≡ tokens (front ++ pattern ∷ []) ++ Word reserved.Escape ∷ [] =
    ap tokens (is ∙ sym (append_assoc front (pattern ∷ []) (word ∷ [])))
    ∙ tokens_append (front ++ pattern ∷ []) (word ∷ [])
    ∙ ap (λ t. tokens (front ++ pattern ∷ []) ++ t ∷ []) escape in
    let runs = cut most (tokens (front ++ pattern ∷ [])) (Word reserved.Escape ∷ []) start s
    (subst (λ ts. run most start ts ≡ goes s) said run_is) in
    let mode : IsEscapeMode s.mode = escape_leads_to most runs.mid s
    (one_goes most runs.mid (Word reserved.Escape) s runs.back) in
    subst (λ t. IsRead (step_in most s.begun s.mode t)) (sym text)
    (character_read most s.begun s.mode e c mode (only_character_is e c one))
