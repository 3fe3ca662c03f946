-- What is read is what the grammar derives, and the tokens of each state begin a selector.
use Rattle.std.proofs.Common.{◌≡◌, ℕ, suc, ◌≤◌, Bool, true, false, List, [], ◌∷◌, ◌++◌, sym, ap, ◌∙◌, refl, subst, append_assoc, append-nil, arith, le_trans, Some, None, pos, encode_utf8, not, ◌==◌, if◌then◌else◌, eqb-true}
use Rattle.std.specs.Char.{IsScalar}
use Rattle.selector_tokens.specs.declared.tokens.Token.{Token}
use Rattle.selector_tokens.specs.declared.tokens.Token.TheVariants.{Name, Word, Number, Text, Open, Close, Comma}
use Rattle.selector_tokens.specs.declared.tokens.Word.TheVariants as reserved
use Rattle.selector_read.specs.Trees.{Tree, name, like, is_null, one_of, int, between}
use Rattle.selector_read.specs.Grammar.{Derives, GoesOn, GoesOnWithin, negated_by, listed, listed_in, alike, alike_escaped, null_or_not, a_name, a_number, within, is_whole_pattern, is_closed, characters}
use Rattle.selector_read.specs.Selectors.{may_nest}
use Rattle.selector_read.specs.Reading.{Begun, awaited, Held, settle, Mode, operand, named, valued, not_value, not_name, null_next, list_next, item_next, item_read, pattern_next, pattern_read, escape_next, State, start, Step, goes, unexpected, too_deep, open_pattern, step, ended, finished_in, finished}
use Rattle.selector_read.proofs.Runs.{run, after_step}
use Rattle.selector_read.proofs.SoundLevels.{raise, deeper}
use Rattle.selector_read.proofs.SoundForms.{Opened, outside, Settled, settled, closes, deeper_opened, shorter}
use Rattle.selector_read.proofs.SoundModes.{Plain, awaits_most, items, Inner, Stands, OnStep, OpenAt}
use Rattle.selector_read.proofs.SoundSteps.{keeps, more, added_item}

-- the numbers of a text's tokens are not negative
abbrev pub AllPlain : List Token → Type 0
AllPlain [] = Unit {0}
AllPlain (t ∷ ts) = Plain t × AllPlain ts

-- ---- runs

run_keeps : (most : ℕ) (s : State) (ws ts : List Token) → AllPlain ts → Stands most s ws
    → OnStep (Unit {0}) (λ next. Stands most next (ws ++ ts)) (run most s ts)
unfolding run
run_keeps most s ws [] plain at = subst (Stands most s) (sym (append-nil ws)) at
run_keeps most s ws (t ∷ ts) plain at = go (step most s t) (keeps most s ws t plain.0 at)
    (λ next on. subst (λ vs. OnStep (Unit {0}) (λ last. Stands most last vs) (run most next ts))
    (append_assoc ws (t ∷ []) ts) (run_keeps most next (ws ++ t ∷ []) ts plain.1 on))
  where
    go : (one : Step) → OnStep (OpenAt s.mode t) (λ next. Stands most next (ws ++ t ∷ [])) one
        → ((next : State) → Stands most next (ws ++ t ∷ [])
        → OnStep (Unit {0}) (λ last. Stands most last (ws ++ t ∷ ts)) (run most next ts))
        → OnStep (Unit {0}) (λ last. Stands most last (ws ++ t ∷ ts)) (after_step (λ next. run most next ts) one)
    go (goes next) on rest = rest next on
    go unexpected on rest = tt
    go too_deep on rest = tt
    go open_pattern on rest = tt

-- what the tokens of a run are
pub run_stands : (most : ℕ) (ts : List Token) (s : State) → AllPlain ts → run most start ts ≡ goes s → Stands most s ts
run_stands most ts s plain is = subst (OnStep (Unit {0}) (λ last. Stands most last ts)) is
    (run_keeps most start [] ts plain (record
    { depth = most; front = []; part = []; opens = outside; inner = refl; cut = refl }))

-- ---- the end

outside_all : (most d : ℕ) (fs : List Begun) (e t : Tree) (front part : List Token) → Derives 1 d part e
    → Opened most d fs front → ended (record { begun = fs; tree = e }) ≡ Some t → Derives 1 most (front ++ part) t
outside_all most d [] e t front part x outside is = let same : e ≡ t = cc in subst (Derives 1 most part) same x
outside_all most d (f ∷ fs) e t front part x opens is = absurd cc

ended_at : (most : ℕ) (h : Held) (ts : List Token) (t : Tree) → Settled most 1 h ts → ended h ≡ Some t
    → Derives 1 most ts t
ended_at most h ts t at is = subst (λ vs. Derives 1 most vs t) at.cut
    (outside_all most at.depth h.begun h.tree t at.front at.part (raise 1 (omega arith) at.high at.derives) at.opens is)

-- an expression that ends all forms
value_ended : (most l d : ℕ) (fs : List Begun) (e t : Tree) (ts us : List Token) → 1 ≤ l → Opened most d fs ts
    → Derives l d us e → awaited fs ≤ l → ended (settle 1 fs e) ≡ Some t → Derives 1 most (ts ++ us) t
value_ended most l d fs e t ts us some opens x fits is =
    ended_at most (settle 1 fs e) (ts ++ us) t (settled most 1 l d fs e ts us (omega arith) opens x fits some) is

pattern_derives : (d : ℕ) (n : Bool) (x p : List ℕ) (us : List Token)
    → us ≡ Name x ∷ negated_by n ++ Word reserved.Like ∷ Text p ∷ [] → Derives 4 d us (like n x p None)
pattern_derives d n x p us is = subst (λ vs. Derives 4 d vs (like n x p None)) (sym is) (alike d n x p)

name_derives : (d : ℕ) (x : List ℕ) (us : List Token) → us ≡ Name x ∷ [] → Derives 8 d us (name x)
name_derives d x us is = subst (λ vs. Derives 8 d vs (name x)) (sym is) (a_name d x)

mode_ended : (most d : ℕ) (fs : List Begun) (m : Mode) (t : Tree) (ts us : List Token) → Opened most d fs ts
    → Inner d fs m us → finished_in fs m ≡ Some t → Derives 1 most (ts ++ us) t
mode_ended most d fs (named x) t ts us opens inner is =
    value_ended most 8 d fs (name x) t ts us (omega arith) opens (name_derives d x us inner.1)
    (le_trans inner.0 (omega arith)) is
mode_ended most d fs (valued e l) t ts us opens inner is =
    value_ended most l d fs e t ts us (omega arith) opens inner.1 inner.2 is
mode_ended most d fs (pattern_read n x p) t ts us opens inner is =
    value_ended most 4 d fs (like n x p None) t ts us (omega arith) opens (pattern_derives d n x p us inner.1) inner.0
    is
mode_ended most d fs other t ts us opens inner is = absurd cc

-- what a run ends with is what the grammar derives
pub sound : (most : ℕ) (ts : List Token) (s : State) (t : Tree) → AllPlain ts → run most start ts ≡ goes s
    → finished s ≡ Some t → Derives 1 most ts t
unfolding finished
sound most ts s t plain is all =
    let at = run_stands most ts s plain is in
    subst (λ vs. Derives 1 most vs t) at.cut (mode_ended most at.depth s.begun s.mode t at.front at.part at.opens
    at.inner all)

-- ---- the tokens of a state begin a selector

-- tokens that end what a mode waits for, where one more may be nested
abbrev Completes : ℕ → ℕ → List Begun → List Token → List Token → Type 0
Completes most d fs ts us = (vs : List Token) × (e : Tree) × (l : ℕ) × Derives l d (us ++ vs) e × (awaited fs ≤ l)

begins_selector : (most d : ℕ) (fs : List Begun) (ts us : List Token) → Opened most d fs ts → Completes most d fs ts us
    → GoesOnWithin most (ts ++ us)
begins_selector most d fs ts us opens (vs, e, l, x, fits) =
    shorter most (ts ++ us) vs (subst (GoesOnWithin most) (sym (append_assoc ts us vs))
    (closes most l d fs e ts (us ++ vs) opens x fits))

nil_token : Token
nil_token = Number (pos 0)

-- with no token more
at_once : (most d : ℕ) (fs : List Begun) (ts us : List Token) (e : Tree) (l : ℕ) → Derives l d us e → awaited fs ≤ l
    → Completes most d fs ts us
at_once most d fs ts us e l x fits = ([], e, l, subst (λ vs. Derives l d vs e) (sym (append-nil us)) x, fits)

-- ---- an escape string for any pattern: of two characters one at least is not the last of the pattern

last_of : List ℕ → ℕ
last_of [] = 2
last_of (c ∷ []) = c
last_of (c ∷ d ∷ cs) = last_of (d ∷ cs)

unequal : (b : Bool) → not b ≡ false → b ≡ true
unequal true is = refl
unequal false is = absurd cc

open_on : (escape d : ℕ) (cs : List ℕ) (b : Bool)
    → (if b then is_closed escape cs else is_closed escape (d ∷ cs)) ≡ false
    → (is_closed escape cs ≡ false → last_of cs ≡ escape)
    → (is_closed escape (d ∷ cs) ≡ false → last_of (d ∷ cs) ≡ escape) → last_of (d ∷ cs) ≡ escape
unfolding last_of
open_on escape d cs false is shorter_ends ends = ends is
open_on escape d [] true is shorter_ends ends = absurd cc
open_on escape d (e ∷ es) true is shorter_ends ends = shorter_ends is

open_ends : (escape : ℕ) (cs : List ℕ) → is_closed escape cs ≡ false → last_of cs ≡ escape
unfolding last_of
open_ends escape [] is = absurd cc
open_ends escape (c ∷ []) is = eqb-true c escape (unequal (c == escape) is)
open_ends escape (c ∷ d ∷ cs) is = open_on escape d cs (c == escape) is (open_ends escape cs)
    (open_ends escape (d ∷ cs))

some_escape : (p : List ℕ) → (c : ℕ) × IsScalar c × (is_whole_pattern c p ≡ true)
some_escape p = go (is_whole_pattern 0 p) (is_whole_pattern 1 p) refl refl
  where
    go : (a b : Bool) → is_whole_pattern 0 p ≡ a → is_whole_pattern 1 p ≡ b
        → (c : ℕ) × IsScalar c × (is_whole_pattern c p ≡ true)
    go true b is other = (0, refl, is)
    go false true is other = (1, refl, other)
    go false false is other = absurd (omega (arith, open_ends 0 (characters p) is, open_ends 1 (characters p) other))

-- ---- each mode

-- IN needs one more level, for its parenthesis
abbrev Room : ℕ → Mode → Type 0
Room d (list_next n x) = (k : ℕ) × (d ≡ suc k)
Room d other = Unit {0}

-- more tokens behind a head and a body
behind : (l d : ℕ) (e : Tree) (us head body vs : List Token) → us ≡ head ++ body → Derives l d (head ++ (body ++ vs)) e
    → Derives l d (us ++ vs) e
behind l d e us head body vs is x = subst (λ ts. Derives l d ts e)
    (sym (append_assoc head body vs) ∙ ap (λ (ts : List Token). ts ++ vs) (sym is)) x

zero_ends : List Token
zero_ends = Word reserved.Between ∷ nil_token ∷ Word reserved.And ∷ nil_token ∷ []

-- NOT BETWEEN 0 AND 0
not_between : (d : ℕ) (e : Tree) (vs us : List Token) → Derives 5 d vs e → us ≡ vs ++ Word reserved.Not ∷ []
    → Derives 4 d (us ++ zero_ends) (between true e (int (pos 0)) (int (pos 0)))
unfolding zero_ends nil_token
not_between d e vs us x is = behind 4 d _ us vs (Word reserved.Not ∷ []) zero_ends is
    (subst (λ ts. Derives 4 d ts (between true e (int (pos 0)) (int (pos 0)))) regroup
    (within d true vs (nil_token ∷ []) (nil_token ∷ []) e (int (pos 0)) (int (pos 0)) x zero_of zero_of))
  where
    zero_of : Derives 5 d (Number (pos 0) ∷ []) (int (pos 0))
    zero_of = raise 5 (omega arith) (omega arith) (a_number d 0)

    regroup : vs ++ (Word reserved.Not ∷ []) ++ Word reserved.Between ∷ Number (pos 0) ∷ []
        ++ Word reserved.And ∷ Number (pos 0) ∷ [] ≡ vs
        ++ (Word reserved.Not ∷ Word reserved.Between ∷ Number (pos 0) ∷ Word reserved.And ∷ Number (pos 0) ∷ [])
    regroup = simp append_assoc

-- the end of a list of strings
list_ends : (d k : ℕ) (n : Bool) (x s : List ℕ) (ss : List (List ℕ)) (us vs : List Token) → d ≡ suc k
    → us ++ vs ≡ (Name x ∷ negated_by n) ++ (Word reserved.In ∷ Open ∷ listed s ss) ++ Close ∷ []
    → Derives 4 d (us ++ vs) (one_of n x (s ∷ ss))
list_ends d k n x s ss us vs deep is = subst (λ ts. Derives 4 d ts (one_of n x (s ∷ ss))) (sym is)
    (subst (λ j. Derives 4 j ((Name x ∷ negated_by n) ++ (Word reserved.In ∷ Open ∷ listed s ss) ++ Close ∷ [])
    (one_of n x (s ∷ ss))) (sym deep) (listed_in k n x s ss))

-- two more tokens, of which the first ends the list
two_more : (us head body all : List Token) (t u : Token) → us ≡ head ++ body → body ++ t ∷ [] ≡ all
    → us ++ t ∷ u ∷ [] ≡ head ++ all ++ u ∷ []
two_more us head body all t u is whole = sym (append_assoc us (t ∷ []) (u ∷ []))
    ∙ ap (λ (l : List Token). l ++ u ∷ []) (more us head body t is ∙ ap (λ (l : List Token). head ++ l) whole)

module _ (most d : ℕ) (fs : List Begun) (ts us : List Token) where
  item_completes : (n : Bool) (x : List ℕ) (list : List (List ℕ)) → Inner d fs (item_next n x list) us
      → Completes most d fs ts us
  item_completes n x list (k, deep, low, is) =
      let (first, rest, whole, said) = added_item list [] in (
        Text [] ∷ Close ∷ [],
        one_of n x (first ∷ rest),
        4,
        list_ends d k n x first rest us (Text [] ∷ Close ∷ []) deep
            (two_more us (Name x ∷ negated_by n) (Word reserved.In ∷ Open ∷ items list)
            (Word reserved.In ∷ Open ∷ listed first rest) (Text []) Close is
            (ap (λ (l : List Token). Word reserved.In ∷ Open ∷ l) said)),
        low,
      )

  mode_completes : (m : Mode) → Inner d fs m us → Room d m → Completes most d fs ts us
  mode_completes operand inner room = (
    Number (pos 0) ∷ [],
    int (pos 0),
    8,
    subst (λ (vs : List Token). Derives 8 d (vs ++ Number (pos 0) ∷ []) (int (pos 0))) (sym inner) (a_number d 0),
    le_trans (awaits_most fs) (omega arith),
  )
  mode_completes (named x) inner room = at_once most d fs ts us (name x) 8 (name_derives d x us inner.1)
      (le_trans inner.0 (omega arith))
  mode_completes (valued e l) inner room = at_once most d fs ts us e l inner.1 inner.2
  mode_completes (not_value e) (vs, x, low, is) room =
      (zero_ends, between true e (int (pos 0)) (int (pos 0)), 4, not_between d e vs us x is, low)
  mode_completes (not_name x) (low, is) room = (
    zero_ends,
    between true (name x) (int (pos 0)) (int (pos 0)),
    4,
    not_between d (name x) (Name x ∷ []) us (raise 5 (omega arith) (omega arith) (a_name d x)) is,
    low,
  )
  mode_completes (null_next n x) (low, is) room = (
    Word reserved.Null ∷ [],
    is_null n x,
    4,
    subst (λ (vs : List Token). Derives 4 d (vs ++ Word reserved.Null ∷ []) (is_null n x)) (sym is)
        (null_or_not d n x),
    low,
  )
  mode_completes (list_next n x) (low, is) (k, deep) = (
    Open ∷ Text [] ∷ Close ∷ [],
    one_of n x ([] ∷ []),
    4,
    list_ends d k n x [] [] us (Open ∷ Text [] ∷ Close ∷ []) deep
        (ap (λ (l : List Token). l ++ (Open ∷ Text [] ∷ Close ∷ [])) is ∙ simp append_assoc),
    low,
  )
  mode_completes (item_next n x list) inner room = item_completes n x list inner
  mode_completes (item_read n x list) (k, s, ss, whole, deep, low, is) room = (
    Close ∷ [],
    one_of n x (s ∷ ss),
    4,
    list_ends d k n x s ss us (Close ∷ []) deep
        (ap (λ (l : List Token). l ++ Close ∷ []) is),
    low,
  )
  mode_completes (pattern_next n x) (low, is) room = (
    Text [] ∷ [],
    like n x [] None,
    4,
    behind 4 d _ us (Name x ∷ negated_by n) (Word reserved.Like ∷ [])
        (Text [] ∷ []) is (alike d n x []),
    low,
  )
  mode_completes (pattern_read n x p) inner room =
      at_once most d fs ts us (like n x p None) 4 (pattern_derives d n x p us inner.1) inner.0
  mode_completes (escape_next n x p) (low, is) room =
      let (c, scalar, closed) = some_escape p in (
        Text (encode_utf8 c) ∷ [],
        like n x p (Some c),
        4,
        behind 4 d _ us (Name x ∷ negated_by n) (Word reserved.Like ∷ Text p ∷ Word reserved.Escape ∷ [])
            (Text (encode_utf8 c) ∷ []) is (alike_escaped d n x p (encode_utf8 c) c (scalar, refl) closed),
        low,
      )

-- the tokens of a state begin a selector, within the limit where there is room
stands_begins : (most : ℕ) (s : State) (ws : List Token) (at : Stands most s ws) → Room at.depth s.mode
    → GoesOnWithin most ws
stands_begins most s ws at room = subst (GoesOnWithin most) at.cut
    (begins_selector most at.depth s.begun at.front at.part at.opens
    (mode_completes most at.depth s.begun at.front at.part s.mode at.inner room))

-- ---- where one more may be nested, every mode has room

deeper_inner : (d : ℕ) (fs : List Begun) (m : Mode) (us : List Token) → Inner d fs m us → Inner (suc d) fs m us
deeper_inner d fs (valued e l) us (of, x, fits) = (of, deeper l d us e x, fits)
deeper_inner d fs (not_value e) us (vs, x, low, is) = (vs, deeper 5 d vs e x, low, is)
deeper_inner d fs (item_next n x list) us (k, deep, low, is) = (suc k, ap (λ j. suc j) deep, low, is)
deeper_inner d fs (item_read n x list) us (k, s, ss, whole, deep, low, is) =
    (suc k, s, ss, whole, ap (λ j. suc j) deep, low, is)
deeper_inner d fs other us inner = inner

room_inside : (d : ℕ) (m : Mode) → Room (suc d) m
room_inside d (list_next n x) = (d, refl)
room_inside d other = tt

stands_deeper : (most : ℕ) (s : State) (ws : List Token) → Stands most s ws → Stands (suc most) s ws
stands_deeper most s ws at =
    record {
      depth = suc at.depth;
      front = at.front;
      part = at.part;
      opens = deeper_opened most at.depth s.begun at.front at.opens;
      inner = deeper_inner at.depth s.begun s.mode at.part at.inner;
      cut = at.cut;
    }

pub goes_on : (most : ℕ) (ts : List Token) (s : State) → AllPlain ts → run most start ts ≡ goes s → GoesOn ts
unfolding stands_deeper
goes_on most ts s plain is =
    let at = run_stands most ts s plain is in
    (suc most, stands_begins (suc most) s ts (stands_deeper most s ts at) (room_inside at.depth s.mode))

-- ---- within the limit

final : List Token → Token
final [] = Comma
final (t ∷ []) = t
final (t ∷ u ∷ ts) = final (u ∷ ts)

final_is : (ts : List Token) (t : Token) → final (ts ++ t ∷ []) ≡ t
unfolding final
final_is [] t = refl
final_is (u ∷ []) t = refl
final_is (u ∷ v ∷ ts) t = final_is (v ∷ ts) t

same_final : (ts us : List Token) (t u : Token) → ts ++ t ∷ [] ≡ us ++ u ∷ [] → t ≡ u
same_final ts us t u is = sym (final_is ts t) ∙ ap final is ∙ final_is us u

-- only behind IN a mode needs room
room_nests : (d : ℕ) (fs : List Begun) (m : Mode) (front part before : List Token) (t : Token) → Inner d fs m part
    → front ++ part ≡ before ++ t ∷ [] → may_nest t ≡ true → Room d m
room_nests d fs (list_next n x) front part before t (low, is) cut nests =
    let whole : front ++ (Name x ∷ negated_by n) ++ Word reserved.In ∷ [] ≡ before ++ t ∷ [] =
    append_assoc front (Name x ∷ negated_by n) (Word reserved.In ∷ [])
    ∙ ap (λ (l : List Token). front ++ l) (sym is) ∙ cut in
    let last : Word reserved.In ≡ t = same_final (front ++ (Name x ∷ negated_by n)) before (Word reserved.In) t whole in
    absurd (not_in last)
  where
    not_in : Word reserved.In ≡ t → ⊥
    not_in last = let none : false ≡ true = ap may_nest last ∙ nests in cc
room_nests d fs other front part before t inner cut nests = tt

-- so do they within the limit, where the last token is NOT, a sign or a parenthesis
pub goes_on_within : (most : ℕ) (before : List Token) (t : Token) (s : State) → AllPlain (before ++ t ∷ [])
    → run most start (before ++ t ∷ []) ≡ goes s → may_nest t ≡ true → GoesOnWithin most (before ++ t ∷ [])
goes_on_within most before t s plain is nests =
    let at = run_stands most (before ++ t ∷ []) s plain is in
    stands_begins most s (before ++ t ∷ []) at
    (room_nests at.depth s.begun s.mode at.front at.part before t at.inner at.cut nests)
