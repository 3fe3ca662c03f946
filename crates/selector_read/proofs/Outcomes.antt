-- What a text is read as is what it is by the grammar.
use Rattle.std.proofs.Common.{◌≡◌, ℕ, ◌≤◌, Bool, true, false, List, [], ◌∷◌, ◌++◌, length, Option, Some, None, nat_lt, refl, sym, ap, ap₂, subst₂, ◌∙◌, subst, ◌⊎◌, inl, inr, append_assoc, append-nil, arith, if◌then◌else◌, ltb-true, ltb-false}
use Rattle.selector_tokens.specs.declared.faults.Kind.{Kind}
use Rattle.selector_tokens.specs.declared.faults.Kind.TheVariants.{TooLong, TooDeep, Unexpected}
use Rattle.selector_tokens.specs.declared.tokens.Token.{Token}
use Rattle.selector_tokens.specs.declared.tokens.Placed.{Placed}
use Rattle.selector_tokens.specs.Lexing.{lexed}
use Rattle.selector_read.specs.Trees.{Tree}
use Rattle.selector_read.specs.Grammar.{Derives, GoesOnWithin, most_nested}
use Rattle.selector_read.specs.Selectors.{Outcome, reads, refused, longest_text, tokens, IsSelector, IsTooDeep, IsAtFault, IsFaultless, EndsAnEscape, IsPlace, IsTokenFault, IsEndFault, IsFirstFault, IsOutcome}
use Rattle.selector_read.specs.Reading.{State, start, Step, goes, unexpected, too_deep, open_pattern, step, finished, at_end, outcome_from, selector_of}
use Rattle.selector_read.proofs.Runs.{run}
use Rattle.selector_read.proofs.CompleteSteps.{run_on, run_none}
use Rattle.selector_read.proofs.Complete.{complete}
use Rattle.selector_read.proofs.FaultsLimits.{same_end, one_run}
use Rattle.selector_read.proofs.Faults.{GoesOnAt, unexpected_is, open_pattern_is, too_deep_is, faultless_is}
use Rattle.selector_read.proofs.SoundModes.{Stands, OnStep, OpenAt}
use Rattle.selector_read.proofs.SoundSteps.{keeps}
use Rattle.selector_read.proofs.Sound.{AllPlain, sound, goes_on, goes_on_within, run_stands}
use Rattle.selector_read.proofs.SoundTexts.{plain_text, plain_front, plain_last}
use Rattle.selector_read.proofs.OutcomesPlaces.{Trail, trail_start, trail_on, tokens_append, open_place, own_place, IsRead, same_two}

-- ---- faults of plain tokens

faultless : (ts : List Token) (s : State) → AllPlain ts → run most_nested start ts ≡ goes s → IsFaultless ts
faultless ts s plain is = faultless_is ts s on is
  where
    on : (before after : List Token) (t : Token) (n : State) → ts ≡ before ++ t ∷ after
        → run most_nested start (before ++ t ∷ []) ≡ goes n → GoesOnAt before t
    on before after t n whole runs =
        let front : AllPlain (before ++ t ∷ []) =
        plain_front (before ++ t ∷ []) after
        (subst AllPlain (whole ∙ sym (append_assoc before (t ∷ []) after)) plain) in (
          goes_on most_nested (before ++ t ∷ []) n front runs,
          λ nests. goes_on_within most_nested before t n front runs nests,
        )

too_deep_at : (before : List Token) (t : Token) (s : State) → AllPlain (before ++ t ∷ [])
    → run most_nested start before ≡ goes s → step most_nested s t ≡ too_deep → IsTooDeep before t
too_deep_at before t s plain is deep = too_deep_is before t s (λ d n on. goes_on d (before ++ t ∷ []) n plain on) is
    deep

-- ---- the first token at fault

module _ (text : List ℕ) (before : List Placed) (s : State) (p : Placed) (after : List Placed) (older last : ℕ)
    (cut : (lexed text).tokens ≡ before ++ p ∷ after) (is : run most_nested start (tokens before) ≡ goes s)
    (trail : Trail before older last) where
  plain_to : AllPlain (tokens before ++ p.token ∷ [])
  plain_to = plain_front (tokens before ++ p.token ∷ []) (tokens after)
      (subst AllPlain (ap tokens cut ∙ tokens_append before (p ∷ after)
      ∙ sym (append_assoc (tokens before) (p.token ∷ []) (tokens after))) (plain_text text))

  plain_before : AllPlain (tokens before)
  plain_before = plain_front (tokens before) (p.token ∷ []) plain_to

  token_fault : (at : ℕ) (kind : Kind) → IsAtFault kind (tokens before) p.token → IsPlace before p at
      → IsTokenFault text at kind
  token_fault at kind fault place = record {
    before = before;
    token = p;
    after = after;
    cut = cut;
    faultless = faultless (tokens before) s plain_before is;
    fault = fault;
    place = place;
  }

  own : (one : Step) → step most_nested s p.token ≡ one → (IsRead one → ⊥) → IsPlace before p p.at
  own one told none = inr (λ n escape. none (subst IsRead told (own_place most_nested before p s n is escape)), refl)

  unexpected_fault : step most_nested s p.token ≡ unexpected → IsTokenFault text p.at Unexpected
  unexpected_fault told = token_fault p.at Unexpected
      (inl (refl, unexpected_is most_nested (tokens before) p.token s is told)) (own unexpected told (λ read. read))

  deep_fault : step most_nested s p.token ≡ too_deep → IsTokenFault text p.at TooDeep
  deep_fault told = token_fault p.at TooDeep (inr (refl, too_deep_at (tokens before) p.token s plain_to is told))
      (own too_deep told (λ read. read))

  open_fault : step most_nested s p.token ≡ open_pattern → IsTokenFault text older Unexpected
  open_fault told =
      let at = run_stands most_nested (tokens before) s plain_before is in
      let found : OpenAt s.mode p.token = subst
      (OnStep (OpenAt s.mode p.token) (λ next. Stands most_nested next (tokens before ++ p.token ∷ []))) told
      (keeps most_nested s (tokens before) p.token (plain_last (tokens before) p.token plain_to) at) in
      token_fault older Unexpected (inl (refl, open_pattern_is most_nested (tokens before) p.token s is told))
      (inl (open_place at.depth s.begun s.mode at.front at.part before p older last at.inner at.cut found trail))

  -- the tokens before, and this one
  next_run : (next : State) → step most_nested s p.token ≡ goes next
      → run most_nested start (tokens (before ++ p ∷ [])) ≡ goes next
  next_run next on = subst (λ ts. run most_nested start ts ≡ goes next) (sym (tokens_append before (p ∷ [])))
      (run_on most_nested (tokens before) (p.token ∷ []) start s next is (one_run most_nested s p.token next on))

-- ---- the end of the tokens

module _ (text : List ℕ) (s : State) (short : length text ≤ longest_text)
    (is : run most_nested start (tokens (lexed text).tokens) ≡ goes s) where
  end_means : (why : Option Kind) (all : Option Tree) → (lexed text).stop.fault ≡ why → finished s ≡ all
      → IsOutcome text (at_end (lexed text).stop why all)
  end_means (Some kind) all stops ends = inr (
    short,
    inr (record {
      faultless = faultless (tokens (lexed text).tokens) s (plain_text text) is;
      place = refl;
      fault = inl stops;
    }),
  )
  end_means None (Some t) stops ends = record {
    short = short;
    stands = record {
      whole = stops;
      derived = sound most_nested (tokens (lexed text).tokens) s t (plain_text text) is ends;
    };
  }
  end_means None None stops ends = inr (
    short,
    inr (record {
      faultless = faultless (tokens (lexed text).tokens) s (plain_text text) is;
      place = refl;
      fault = inr (stops, refl, none);
    }),
  )
    where
      none : (d : ℕ) (t : Tree) → Derives 1 d (tokens (lexed text).tokens) t → ⊥
      none d t x =
          let all = complete d (tokens (lexed text).tokens) t x in
          let same : all.0 ≡ s = same_end d most_nested (tokens (lexed text).tokens) start all.0 s all.1 is in
          let one : Some t ≡ None = sym all.2 ∙ ap finished same ∙ ends in
          cc

-- ---- all tokens

means_from : (text : List ℕ) (before : List Placed) (s : State) (older last : ℕ) (ps : List Placed)
    → length text ≤ longest_text → (lexed text).tokens ≡ before ++ ps → run most_nested start (tokens before) ≡ goes s
    → Trail before older last
    → IsOutcome text (outcome_from s older last ps (lexed text).stop)
unfolding outcome_from
means_from text before s older last [] short cut is trail =
    end_means text s short (subst (λ (l : List Placed). run most_nested start (tokens l) ≡ goes s)
    (sym (cut ∙ append-nil before)) is) (lexed text).stop.fault (finished s) refl refl
means_from text before s older last (p ∷ ps) short cut is trail = go (step most_nested s p.token) refl (λ next on.
    means_from text (before ++ p ∷ []) next last p.at ps short (cut ∙ sym (append_assoc before (p ∷ []) ps))
    (next_run text before s p ps older last cut is trail next on) (trail_on before older last p trail))
  where
    go : (one : Step) → step most_nested s p.token ≡ one
        → ((next : State) → step most_nested s p.token ≡ goes next
        → IsOutcome text (outcome_from next last p.at ps (lexed text).stop))
        → IsOutcome text (elim one as (λ _. Outcome) [
          | goes next ↦ outcome_from next last p.at ps (lexed text).stop
          | unexpected ↦ refused p.at Unexpected
          | too_deep ↦ refused p.at TooDeep
          | open_pattern ↦ refused older Unexpected
        ])
    go (goes next) told rest = rest next told
    go unexpected told rest = inr (short, inl (unexpected_fault text before s p ps older last cut is trail told))
    go too_deep told rest = inr (short, inl (deep_fault text before s p ps older last cut is trail told))
    go open_pattern told rest = inr (short, inl (open_fault text before s p ps older last cut is trail told))

means : (text : List ℕ) → IsOutcome text (selector_of text)
unfolding selector_of
means text = go (nat_lt longest_text (length text)) refl
  where
    go : (b : Bool) → nat_lt longest_text (length text) ≡ b
        → IsOutcome text (if b then refused longest_text TooLong else outcome_from start 0 0 (lexed text).tokens
        (lexed text).stop)
    go true long = inl (ltb-true _ _ long, refl, refl)
    go false long = means_from text [] start 0 0 (lexed text).tokens (ltb-false _ _ long) refl
        (run_none most_nested start) trail_start

pub selector_of_means : (text : List ℕ) (o : Outcome) → selector_of text ≡ o → IsOutcome text o
selector_of_means text o is = subst (IsOutcome text) is (means text)

-- ---- a text is one thing

-- a token at fault behind tokens of a selector is none
no_fault : (kind : Kind) (before after : List Token) (t : Token) (tree : Tree)
    → Derives 1 most_nested (before ++ t ∷ after) tree → IsAtFault kind before t → ⊥
no_fault kind before after t tree x fault = go fault
  where
    within : GoesOnWithin most_nested (before ++ t ∷ [])
    within = (after, tree, subst (λ ts. Derives 1 most_nested ts tree) (sym (append_assoc before (t ∷ []) after)) x)

    go : IsAtFault kind before t → ⊥
    go (inl none) = none.1 (most_nested, within)
    go (inr deep) = deep.1.deep within

-- a token is at fault in one way
one_kind : (a b : Kind) (before : List Token) (t : Token) → IsAtFault a before t → IsAtFault b before t → a ≡ b
one_kind a b before t (inl x) (inl y) = x.0 ∙ sym y.0
one_kind a b before t (inl x) (inr y) = absurd (x.1 y.1.goes_on)
one_kind a b before t (inr x) (inl y) = absurd (y.1 x.1.goes_on)
one_kind a b before t (inr x) (inr y) = x.0 ∙ sym y.0

one_escape : (before : List Placed) (p : Placed) (m n : ℕ) → EndsAnEscape before p m → EndsAnEscape before p n → m ≡ n
one_escape before p m n (front, pattern, word, is, escape, text, at)
    (front', pattern', word', is', escape', text', at') =
    at ∙ ap (λ q. q.at) (same_two front front' pattern pattern' word word' (sym is ∙ is')).1 ∙ sym at'

one_place : (before : List Placed) (p : Placed) (m n : ℕ) → IsPlace before p m → IsPlace before p n → m ≡ n
one_place before p m n (inl x) (inl y) = one_escape before p m n x y
one_place before p m n (inl x) (inr y) = absurd (y.0 m x)
one_place before p m n (inr x) (inl y) = absurd (x.0 n y)
one_place before p m n (inr x) (inr y) = x.1 ∙ sym y.1

-- two places in one list are one place, or the one comes before the other
data Cuts (front : List Placed) (a : Placed) (front' : List Placed) (b : Placed) : Type 0 where
  same : front ≡ front' → a ≡ b → Cuts front a front' b
  first : (mid : List Placed) → front' ≡ front ++ a ∷ mid → Cuts front a front' b
  later : (mid : List Placed) → front ≡ front' ++ b ∷ mid → Cuts front a front' b

cuts : (front back front' back' : List Placed) (a b : Placed) → front ++ a ∷ back ≡ front' ++ b ∷ back'
    → Cuts front a front' b
cuts [] back [] back' a b is = same refl cc
cuts [] back (f ∷ front') back' a b is = let head : a ≡ f = cc in first front' (ap (λ q. q ∷ front') (sym head))
cuts (f ∷ front) back [] back' a b is = let head : f ≡ b = cc in later front (ap (λ q. q ∷ front) head)
cuts (f ∷ front) back (g ∷ front') back' a b is = go (cuts front back front' back' a b cc)
  where
    head : f ≡ g
    head = cc

    go : Cuts front a front' b → Cuts (f ∷ front) a (g ∷ front') b
    go (same rest here) = same (ap₂ (λ q (l : List Placed). q ∷ l) head rest) here
    go (first mid rest) = first mid cc
    go (later mid rest) = later mid cc

-- no token before a token that is first at fault is at fault
not_before : (kind : Kind) (front front' mid : List Placed) (a : Placed) → IsFaultless (tokens front')
    → front' ≡ front ++ a ∷ mid → IsAtFault kind (tokens front) a.token → ⊥
not_before kind front front' mid a none is fault =
    none kind (tokens front) (tokens mid) a.token (ap tokens is ∙ tokens_append front (a ∷ mid)) fault

one_token_fault : (text : List ℕ) (m n : ℕ) (a b : Kind) → IsTokenFault text m a → IsTokenFault text n b
    → refused m a ≡ refused n b
one_token_fault text m n a b x y = go (cuts x.before x.after y.before y.after x.token y.token (sym x.cut ∙ y.cut))
  where
    moved : (front : List Placed) (p : Placed) → y.before ≡ front → y.token ≡ p
        → IsAtFault b (tokens front) p.token × IsPlace front p n
    moved front p is here = (
      subst₂ (λ f q. IsAtFault b (tokens f) q.token) is here y.fault,
      subst₂ (λ f q. IsPlace f q n) is here y.place,
    )

    go : Cuts x.before x.token y.before y.token → refused m a ≡ refused n b
    go (same is here) =
        let at = moved x.before x.token (sym is) (sym here) in
        ap₂ refused (one_place x.before x.token m n x.place at.1)
        (one_kind a b (tokens x.before) x.token.token x.fault at.0)
    go (first mid is) = absurd (not_before a x.before y.before mid x.token y.faultless is x.fault)
    go (later mid is) = absurd (not_before b y.before x.before mid y.token x.faultless is y.fault)

-- a token at fault, or none at all
token_or_end : (text : List ℕ) (m n : ℕ) (a b : Kind) → IsTokenFault text m a → IsEndFault text n b → ⊥
token_or_end text m n a b x y = not_before a x.before (lexed text).tokens x.after x.token y.faultless x.cut x.fault

one_end_fault : (text : List ℕ) (m n : ℕ) (a b : Kind) → IsEndFault text m a → IsEndFault text n b
    → refused m a ≡ refused n b
one_end_fault text m n a b x y = ap₂ refused (x.place ∙ sym y.place) (go x.fault y.fault)
  where
    go : ((lexed text).stop.fault ≡ Some a) ⊎
        (((lexed text).stop.fault ≡ None) × (a ≡ Unexpected) × ((d : ℕ) (t : Tree)
        → Derives 1 d (tokens (lexed text).tokens) t → ⊥))
        → ((lexed text).stop.fault ≡ Some b) ⊎
        (((lexed text).stop.fault ≡ None) × (b ≡ Unexpected) × ((d : ℕ) (t : Tree)
        → Derives 1 d (tokens (lexed text).tokens) t → ⊥)) → a ≡ b
    go (inl p) (inl q) = let both : Some a ≡ Some b = sym p ∙ q in cc
    go (inl p) (inr q) = let both : Some a ≡ None = sym p ∙ q.0 in absurd cc
    go (inr p) (inl q) = let both : Some b ≡ None = sym q ∙ p.0 in absurd cc
    go (inr p) (inr q) = p.1 ∙ sym q.1

one_fault : (text : List ℕ) (m n : ℕ) (a b : Kind) → IsFirstFault text m a → IsFirstFault text n b
    → refused m a ≡ refused n b
one_fault text m n a b (inl x) (inl y) = ap₂ refused (x.1 ∙ sym y.1) (x.2 ∙ sym y.2)
one_fault text m n a b (inl x) (inr y) = absurd (omega (arith, x.0, y.0))
one_fault text m n a b (inr x) (inl y) = absurd (omega (arith, x.0, y.0))
one_fault text m n a b (inr (short, inl x)) (inr (short', inl y)) = one_token_fault text m n a b x y
one_fault text m n a b (inr (short, inl x)) (inr (short', inr y)) = absurd (token_or_end text m n a b x y)
one_fault text m n a b (inr (short, inr x)) (inr (short', inl y)) = absurd (token_or_end text n m b a y x)
one_fault text m n a b (inr (short, inr x)) (inr (short', inr y)) = one_end_fault text m n a b x y

-- tokens stand for one tree
one_tree : (ts : List Token) (t u : Tree) → Derives 1 most_nested ts t → Derives 1 most_nested ts u → t ≡ u
one_tree ts t u x y =
    let a = complete most_nested ts t x in
    let b = complete most_nested ts u y in
    let same : a.0 ≡ b.0 = same_end most_nested most_nested ts start a.0 b.0 a.1 b.1 in
    let both : Some t ≡ Some u = sym a.2 ∙ ap finished same ∙ b.2 in
    cc

-- a selector has no fault
no_first_fault : (text : List ℕ) (t : Tree) (n : ℕ) (kind : Kind) → IsSelector text t → IsFirstFault text n kind → ⊥
no_first_fault text t n kind x (inl y) = omega (arith, x.short, y.0)
no_first_fault text t n kind x (inr (short, inl y)) =
    no_fault kind (tokens y.before) (tokens y.after) y.token.token t
    (subst (λ ts. Derives 1 most_nested ts t) (ap tokens y.cut ∙ tokens_append y.before (y.token ∷ y.after))
    x.stands.derived) y.fault
no_first_fault text t n kind x (inr (short, inr y)) = go y.fault
  where
    go : ((lexed text).stop.fault ≡ Some kind)
        ⊎ (((lexed text).stop.fault ≡ None) × (kind ≡ Unexpected) × ((d : ℕ) (t : Tree)
        → Derives 1 d (tokens (lexed text).tokens) t → ⊥)) → ⊥
    go (inl p) = let both : Some kind ≡ None = sym p ∙ x.stands.whole in cc
    go (inr p) = p.2 most_nested t x.stands.derived

unique : (text : List ℕ) (a b : Outcome) → IsOutcome text a → IsOutcome text b → a ≡ b
unique text (reads t) (reads u) x y = ap reads
    (one_tree (tokens (lexed text).tokens) t u x.stands.derived y.stands.derived)
unique text (reads t) (refused n kind) x y = absurd (no_first_fault text t n kind x y)
unique text (refused n kind) (reads t) x y = absurd (no_first_fault text t n kind y x)
unique text (refused m a) (refused n b) x y = one_fault text m n a b x y

pub one_outcome : (text : List ℕ) (o : Outcome) → IsOutcome text o → selector_of text ≡ o
one_outcome text o is = unique text (selector_of text) o (means text) is
