-- Each step keeps what the tokens so far are.
use Rattle.std.proofs.Common.{◌≡◌, ℕ, suc, ◌≤◌, Bool, true, false, List, [], ◌∷◌, ◌++◌, sym, ap, ◌∙◌, refl, subst, ◌⊎◌, inl, inr, append_assoc, append-nil, arith, nat_lt, if◌then◌else◌, le_trans, ltb-true, Option, Some, None, chars, encode_utf8, encode_utf8_all}
use Rattle.std.specs.Str.{is_utf8}
use Rattle.std.proofs.lemmas.Str.{IsUtf8-from_is_utf8, encodes-chars, scalars-chars}
use Rattle.std.proofs.Math.Bool.{and-true}
use lib.Utf8.{scalars}
use Rattle.selector_read.specs.declared.trees.MathOp.TheVariants.{Add, Sub, Mul, Div}
use Rattle.selector_tokens.specs.declared.tokens.Token.{Token}
use Rattle.selector_tokens.specs.declared.tokens.Token.TheVariants.{Name, Word, Text, Compare, Plus, Minus, Times, Divide, Open, Close, Comma}
use Rattle.selector_tokens.specs.declared.tokens.Word.TheVariants as reserved
use Rattle.selector_read.specs.Trees.{Tree, name, like, is_null, one_of}
use Rattle.selector_read.specs.Grammar.{Derives, negated_by, listed, listed_in, alike, alike_escaped, null_or_not, a_name, in_parentheses, IsCharacter, characters, is_whole_pattern}
use Rattle.selector_read.specs.Reading.{Begun, or_of, and_of, not_of, compare_of, low_of, high_of, math_of, minus_of, plus_of, paren, awaited, nesting, Held, settle, Mode, operand, named, valued, not_value, not_name, null_next, list_next, item_next, item_read, pattern_next, pattern_read, escape_next, State, state, goes, open_pattern, and_step, or_step, close_step, value_step, named_step, not_value_step, not_name_step, null_step, list_step, item_step, item_read_step, pattern_step, pattern_read_step, only_of, only_character, escaped, escape_step, step_in, step}
use Rattle.selector_read.proofs.SoundLevels.{raise}
use Rattle.selector_read.proofs.SoundForms.{Opened, opened, Below, Settled, settled}
use Rattle.selector_read.proofs.SoundModes.{Plain, items, Inner, Stands, OnStep, OnGoes, OpenAt, Leads, if_too_deep, on_sum, room, begun_by, turns, operand_keeps, math_keeps, compare_keeps, between_keeps, not_keeps}

-- ---- AND, OR and a closing parenthesis

low_parts : (n : Bool) (us vs ls : List Token) → ls ≡ vs ++ negated_by n ++ Word reserved.Between ∷ []
    → ls ++ (us ++ Word reserved.And ∷ []) ≡ vs ++ negated_by n ++ Word reserved.Between ∷ us ++ Word reserved.And ∷ []
low_parts n us vs ls is = ap (λ (l : List Token). l ++ (us ++ Word reserved.And ∷ [])) is ∙ simp append_assoc

-- the lower end of BETWEEN is whole
low_keeps : (most d m : ℕ) (e : Tree) (us : List Token) (n : Bool) (a : Tree) (fs : List Begun) (ts : List Token)
    → Derives m d us e → Opened most d (low_of n a ∷ fs) ts → 5 ≤ m
    → Stands most (state (high_of n a e ∷ fs) operand) (ts ++ us ++ Word reserved.And ∷ [])
low_keeps most d m e us n a fs ts x (opened _ _ _ front ls opens left stands) fits =
    record {
      depth = d;
      front = front ++ (ls ++ (us ++ Word reserved.And ∷ []));
      part = [];
      opens = opened d (high_of n a e) fs front (ls ++ (us ++ Word reserved.And ∷ [])) opens
          (left.0, us, left.1, raise 5 (omega arith) fits x, low_parts n us left.0 ls left.2) stands;
      inner = refl;
      cut = simp (append_assoc, append-nil);
    }

-- what stands in a parenthesis is whole
paren_keeps : (most d m : ℕ) (e : Tree) (us : List Token) (fs : List Begun) (ts : List Token) → Derives m d us e
    → Opened most d (paren ∷ fs) ts → 1 ≤ m → Stands most (state fs (valued e 8)) (ts ++ us ++ Close ∷ [])
paren_keeps most d m e us fs ts x (opened _ _ _ front ls opens left stands) high =
    record {
      depth = suc d;
      front = front;
      part = Open ∷ us ++ Close ∷ [];
      opens = opens;
      inner = (inr refl, in_parentheses d us e (raise 1 (omega arith) high x), stands);
      cut = regroup ∙ ap (λ (l : List Token). front ++ l ++ us ++ Close ∷ []) (sym left);
    }
  where
    regroup : front ++ (Open ∷ us ++ Close ∷ []) ≡ front ++ (Open ∷ []) ++ us ++ Close ∷ []
    regroup = simp append_assoc

module _ (most d m : ℕ) (e : Tree) (us : List Token) (x : Derives m d us e) where
  both_begun : (fs : List Begun) (ts : List Token) → Opened most d fs ts → awaited fs ≤ 2 → 2 ≤ m
      → Stands most (state (and_of e ∷ fs) operand) (ts ++ us ++ Word reserved.And ∷ [])
  both_begun fs ts opens low high = begun_by most d (and_of e) fs ts us _ opens (us, raise 2 (omega arith) high x, refl)
      low

  either_begun : (fs : List Begun) (ts : List Token) → Opened most d fs ts → awaited fs ≤ 1 → 1 ≤ m
      → Stands most (state (or_of e ∷ fs) operand) (ts ++ us ++ Word reserved.Or ∷ [])
  either_begun fs ts opens low high = begun_by most d (or_of e) fs ts us _ opens
      (us, raise 1 (omega arith) high x, refl) low

  and_keeps : (fs : List Begun) (ts : List Token) → Opened most d fs ts → awaited fs ≤ m → 2 ≤ m → Below 2 fs
      → Leads most ts us (Word reserved.And) (and_step fs e)
  and_keeps [] ts opens fits high below = both_begun [] ts opens (omega arith) high
  and_keeps (low_of n a ∷ fs) ts opens fits high below = low_keeps most d m e us n a fs ts x opens fits
  and_keeps (or_of a ∷ fs) ts opens fits high below = both_begun (or_of a ∷ fs) ts opens (omega arith) high
  and_keeps (and_of a ∷ fs) ts opens fits high below = absurd (omega arith)
  and_keeps (not_of ∷ fs) ts opens fits high below = absurd (omega arith)
  and_keeps (compare_of op a ∷ fs) ts opens fits high below = absurd (omega arith)
  and_keeps (high_of n a b ∷ fs) ts opens fits high below = absurd (omega arith)
  and_keeps (math_of Add a ∷ fs) ts opens fits high below = absurd (omega arith)
  and_keeps (math_of Sub a ∷ fs) ts opens fits high below = absurd (omega arith)
  and_keeps (math_of Mul a ∷ fs) ts opens fits high below = absurd (omega arith)
  and_keeps (math_of Div a ∷ fs) ts opens fits high below = absurd (omega arith)
  and_keeps (minus_of ∷ fs) ts opens fits high below = absurd (omega arith)
  and_keeps (plus_of ∷ fs) ts opens fits high below = absurd (omega arith)
  and_keeps (paren ∷ fs) ts opens fits high below = both_begun (paren ∷ fs) ts opens (omega arith) high

  or_keeps : (fs : List Begun) (ts : List Token) → Opened most d fs ts → 1 ≤ m → Below 1 fs
      → Leads most ts us (Word reserved.Or) (or_step fs e)
  or_keeps [] ts opens high below = either_begun [] ts opens (omega arith) high
  or_keeps (low_of n a ∷ fs) ts opens high below = tt
  or_keeps (or_of a ∷ fs) ts opens high below = absurd (omega arith)
  or_keeps (and_of a ∷ fs) ts opens high below = absurd (omega arith)
  or_keeps (not_of ∷ fs) ts opens high below = absurd (omega arith)
  or_keeps (compare_of op a ∷ fs) ts opens high below = absurd (omega arith)
  or_keeps (high_of n a b ∷ fs) ts opens high below = absurd (omega arith)
  or_keeps (math_of Add a ∷ fs) ts opens high below = absurd (omega arith)
  or_keeps (math_of Sub a ∷ fs) ts opens high below = absurd (omega arith)
  or_keeps (math_of Mul a ∷ fs) ts opens high below = absurd (omega arith)
  or_keeps (math_of Div a ∷ fs) ts opens high below = absurd (omega arith)
  or_keeps (minus_of ∷ fs) ts opens high below = absurd (omega arith)
  or_keeps (plus_of ∷ fs) ts opens high below = absurd (omega arith)
  or_keeps (paren ∷ fs) ts opens high below = either_begun (paren ∷ fs) ts opens (omega arith) high

  close_keeps : (fs : List Begun) (ts : List Token) → Opened most d fs ts → 1 ≤ m
      → Leads most ts us Close (close_step fs e)
  close_keeps [] ts opens high = tt
  close_keeps (paren ∷ fs) ts opens high = paren_keeps most d m e us fs ts x opens high
  close_keeps (or_of a ∷ fs) ts opens high = tt
  close_keeps (f ∷ fs) ts opens high = tt

module _ (most : ℕ) (h : Held) (ws : List Token) where
  both_keeps : Settled most 2 h ws → OnGoes (λ s. Stands most s (ws ++ Word reserved.And ∷ []))
      (and_step h.begun h.tree)
  both_keeps at = subst (λ (vs : List Token).
      OnGoes (λ s. Stands most s (vs ++ Word reserved.And ∷ [])) (and_step h.begun h.tree)) at.cut
      (and_keeps most at.depth at.own h.tree at.part at.derives h.begun at.front at.opens at.fits at.high at.below)

  either_keeps : Settled most 1 h ws → OnGoes (λ s. Stands most s (ws ++ Word reserved.Or ∷ []))
      (or_step h.begun h.tree)
  either_keeps at = subst (λ (vs : List Token).
      OnGoes (λ s. Stands most s (vs ++ Word reserved.Or ∷ [])) (or_step h.begun h.tree)) at.cut
      (or_keeps most at.depth at.own h.tree at.part at.derives h.begun at.front at.opens at.high at.below)

  closed_keeps : Settled most 1 h ws → OnGoes (λ s. Stands most s (ws ++ Close ∷ [])) (close_step h.begun h.tree)
  closed_keeps at = subst (λ (vs : List Token).
      OnGoes (λ s. Stands most s (vs ++ Close ∷ [])) (close_step h.begun h.tree)) at.cut
      (close_keeps most at.depth at.own h.tree at.part at.derives h.begun at.front at.opens at.high)

-- ---- behind an expression

module _ (most d : ℕ) (fs : List Begun) (ts us : List Token) (opens : Opened most d fs ts) where
  module _ (e : Tree) (l : ℕ) (of : (l ≡ 4) ⊎ (l ≡ 8)) (x : Derives l d us e) (fits : awaited fs ≤ l) where
    at : (k : ℕ) → 1 ≤ k → k ≤ l → Settled most k (settle k fs e) (ts ++ us)
    at k some low = settled most k l d fs e ts us some opens x fits low

    value_keeps : (t : Token) → Leads most ts us t (value_step fs e l t)
    value_keeps Times = on_sum _ l _ of (λ is.
        math_keeps most Mul (settle 6 fs e) (ts ++ us) (omega arith) (at 6 (omega arith) (omega (arith, is))))
    value_keeps Divide = on_sum _ l _ of (λ is.
        math_keeps most Div (settle 6 fs e) (ts ++ us) (omega arith) (at 6 (omega arith) (omega (arith, is))))
    value_keeps Plus = on_sum _ l _ of (λ is.
        math_keeps most Add (settle 5 fs e) (ts ++ us) (omega arith) (at 5 (omega arith) (omega (arith, is))))
    value_keeps Minus = on_sum _ l _ of (λ is.
        math_keeps most Sub (settle 5 fs e) (ts ++ us) (omega arith) (at 5 (omega arith) (omega (arith, is))))
    value_keeps (Compare op) = on_sum _ l _ of
        (λ is. compare_keeps most op (settle 5 fs e) (ts ++ us) (at 5 (omega arith) (omega (arith, is))))
    value_keeps (Word reserved.Between) = on_sum _ l _ of
        (λ is. between_keeps most (settle 5 fs e) (ts ++ us) (at 5 (omega arith) (omega (arith, is))))
    value_keeps (Word reserved.Not) = on_sum _ l _ of
        (λ is. not_keeps most (settle 5 fs e) (ts ++ us) (at 5 (omega arith) (omega (arith, is))))
    value_keeps (Word reserved.And) = both_keeps most (settle 2 fs e) (ts ++ us) (at 2 (omega arith) (omega arith))
    value_keeps (Word reserved.Or) = either_keeps most (settle 1 fs e) (ts ++ us) (at 1 (omega arith) (omega arith))
    value_keeps Close = closed_keeps most (settle 1 fs e) (ts ++ us) (at 1 (omega arith) (omega arith))
    value_keeps other = tt

-- ---- behind a name, and behind NOT

-- one more token behind a head and a body
pub more : (us head body : List Token) (t : Token) → us ≡ head ++ body → us ++ t ∷ [] ≡ head ++ (body ++ t ∷ [])
more us head body t is = ap (λ (l : List Token). l ++ t ∷ []) is ∙ append_assoc head body (t ∷ [])

-- strings behind commas, and one more
pub added_item : (list : List (List ℕ)) (s : List ℕ)
    → (first : List ℕ) × (rest : List (List ℕ)) × (list ++ s ∷ [] ≡ first ∷ rest) ×
    (items list ++ Text s ∷ [] ≡ listed first rest)
added_item [] s = (s, [], refl, refl)
added_item (t ∷ ts) s = let (first, rest, whole, said) = added_item ts s in
    (t, first ∷ rest, ap (λ (l : List (List ℕ)). t ∷ l) whole, ap (λ (l : List Token). Text t ∷ Comma ∷ l) said)

added_comma : (s : List ℕ) (ss : List (List ℕ)) → listed s ss ++ Comma ∷ [] ≡ items (s ∷ ss)
added_comma s [] = refl
added_comma s (t ∷ ts) = ap (λ (l : List Token). Text s ∷ Comma ∷ l) (added_comma t ts)

-- the one character that a text is
pub is_character : (s : List ℕ) (c : ℕ) → only_character s ≡ Some c → IsCharacter s c
unfolding only_character characters
is_character s c is = go (is_utf8 s) (chars s) refl refl is
  where
    go : (b : Bool) (cs : List ℕ) → is_utf8 s ≡ b → chars s ≡ cs → only_of (if b then cs else []) ≡ Some c
        → IsCharacter s c
    go false cs text are one = absurd cc
    go true [] text are one = absurd cc
    go true (a ∷ []) text are one =
        let same : a ≡ c = cc in
        let scalar : scalars (a ∷ []) ≡ true =
        subst (λ cs. scalars cs ≡ true) are (scalars-chars s (IsUtf8-from_is_utf8 s text)) in
        let spelt : encode_utf8_all (a ∷ []) ≡ s =
        subst (λ cs. encode_utf8_all cs ≡ s) are (encodes-chars s (IsUtf8-from_is_utf8 s text)) in
        subst (IsCharacter s) same (sym (and-true _) ∙ scalar, sym spelt ∙ append-nil (encode_utf8 a))
    go true (a ∷ b ∷ cs) text are one = absurd cc

module _ (most d : ℕ) (fs : List Begun) (ts us : List Token) (opens : Opened most d fs ts) where
  not_value_keeps : (e : Tree) (t : Token) → Inner d fs (not_value e) us → Leads most ts us t (not_value_step fs e t)
  not_value_keeps e (Word reserved.Between) inner =
      begun_by most d (low_of true e) fs ts us _ opens
      (inner.0, inner.1, ap (λ (l : List Token). l ++ Word reserved.Between ∷ []) inner.3) inner.2
  not_value_keeps e other inner = tt

  not_name_keeps : (x : List ℕ) (t : Token) → Inner d fs (not_name x) us → Leads most ts us t (not_name_step fs x t)
  not_name_keeps x (Word reserved.Between) inner =
      begun_by most d (low_of true (name x)) fs ts us _ opens (
        Name x ∷ [],
        raise 5 (omega arith) (omega arith) (a_name d x),
        ap (λ (l : List Token). l ++ Word reserved.Between ∷ []) inner.1,
      ) inner.0
  not_name_keeps x (Word reserved.In) inner =
      turns most d fs (list_next true x) ts us _ opens
      (inner.0, ap (λ (l : List Token). l ++ Word reserved.In ∷ []) inner.1)
  not_name_keeps x (Word reserved.Like) inner =
      turns most d fs (pattern_next true x) ts us _ opens
      (inner.0, ap (λ (l : List Token). l ++ Word reserved.Like ∷ []) inner.1)
  not_name_keeps x other inner = tt

  null_keeps : (n : Bool) (x : List ℕ) (t : Token) → Inner d fs (null_next n x) us
      → Leads most ts us t (null_step fs n x t)
  null_keeps n x (Word reserved.Null) inner =
      turns most d fs (valued (is_null n x) 4) ts us _ opens (
        inl refl,
        subst (λ vs. Derives 4 d vs (is_null n x))
            (ap (λ (l : List Token). l ++ Word reserved.Null ∷ []) (sym inner.1)) (null_or_not d n x),
        inner.0,
      )
  null_keeps false x (Word reserved.Not) inner =
      turns most d fs (null_next true x) ts us _ opens
      (inner.0, ap (λ (l : List Token). l ++ Word reserved.Not ∷ []) inner.1)
  null_keeps n x other inner = tt

  list_keeps : (n : Bool) (x : List ℕ) (t : Token) → Inner d fs (list_next n x) us
      → Leads most ts us t (list_step most fs n x t)
  list_keeps n x Open inner = if_too_deep _ (nat_lt (nesting fs) most) _ (λ is.
      let one : (k : ℕ) × (d ≡ suc k) = room most d fs ts opens (ltb-true _ _ is) in
      turns most d fs (item_next n x []) ts us _ opens
      (one.0, one.1, inner.0, more us (Name x ∷ negated_by n) (Word reserved.In ∷ []) Open inner.1))
  list_keeps n x other inner = tt

  item_keeps : (n : Bool) (x : List ℕ) (list : List (List ℕ)) (t : Token) → Inner d fs (item_next n x list) us
      → Leads most ts us t (item_step fs n x list t)
  item_keeps n x list (Text s) inner =
      let more_list = added_item list s in
      turns most d fs (item_read n x (list ++ s ∷ [])) ts us _ opens (
        inner.0,
        more_list.0,
        more_list.1,
        more_list.2,
        inner.1,
        inner.2,
        more us (Name x ∷ negated_by n) (Word reserved.In ∷ Open ∷ items list) (Text s) inner.3
            ∙ ap (λ (l : List Token). (Name x ∷ negated_by n) ++ (Word reserved.In ∷ Open ∷ l)) more_list.3,
      )
  item_keeps n x list other inner = tt

  item_read_keeps : (n : Bool) (x : List ℕ) (list : List (List ℕ)) (t : Token) → Inner d fs (item_read n x list) us
      → Leads most ts us t (item_read_step fs n x list t)
  item_read_keeps n x list Comma (k, s, ss, whole, deep, low, is) =
      turns most d fs (item_next n x list) ts us _ opens (
        k,
        deep,
        low,
        more us (Name x ∷ negated_by n) (Word reserved.In ∷ Open ∷ listed s ss) Comma is
            ∙ ap (λ (l : List Token). (Name x ∷ negated_by n) ++ (Word reserved.In ∷ Open ∷ l))
            (added_comma s ss ∙ ap items (sym whole)),
      )
  item_read_keeps n x list Close (k, s, ss, whole, deep, low, is) =
      turns most d fs (valued (one_of n x list) 4) ts us _ opens (
        inl refl,
        subst (λ all. Derives 4 d (us ++ Close ∷ []) (one_of n x all)) (sym whole)
            (subst (λ (vs : List Token). Derives 4 d (vs ++ Close ∷ []) (one_of n x (s ∷ ss))) (sym is)
            (subst (λ j. Derives 4 j ((Name x ∷ negated_by n) ++ (Word reserved.In ∷ Open ∷ listed s ss) ++ Close ∷ [])
            (one_of n x (s ∷ ss))) (sym deep) (listed_in k n x s ss))),
        low,
      )
  item_read_keeps n x list other inner = tt

  pattern_keeps : (n : Bool) (x : List ℕ) (t : Token) → Inner d fs (pattern_next n x) us
      → Leads most ts us t (pattern_step fs n x t)
  pattern_keeps n x (Text p) inner = turns most d fs (pattern_read n x p) ts us _ opens
      (inner.0, more us (Name x ∷ negated_by n) (Word reserved.Like ∷ []) (Text p) inner.1)
  pattern_keeps n x other inner = tt

  pattern_read_keeps : (n : Bool) (x p : List ℕ) (t : Token) → Inner d fs (pattern_read n x p) us
      → Leads most ts us t (pattern_read_step fs n x p t)
  pattern_read_keeps n x p (Word reserved.Escape) inner =
      turns most d fs (escape_next n x p) ts us _ opens
      (inner.0, more us (Name x ∷ negated_by n) (Word reserved.Like ∷ Text p ∷ []) (Word reserved.Escape) inner.1)
  pattern_read_keeps n x p other inner = value_keeps most d fs ts us opens (like n x p None) 4 (inl refl)
      (subst (λ vs. Derives 4 d vs (like n x p None)) (sym inner.1) (alike d n x p)) inner.0 other

  escaped_keeps : (n : Bool) (x p e : List ℕ) (o : Option ℕ) → only_character e ≡ o → Inner d fs (escape_next n x p) us
      → OnStep (OpenAt (escape_next n x p) (Text e)) (λ s. Stands most s (ts ++ us ++ Text e ∷ [])) (escaped fs n x p o)
  escaped_keeps n x p e None is inner = tt
  escaped_keeps n x p e (Some c) is inner = go (is_whole_pattern c p) refl
    where
      go : (b : Bool) → is_whole_pattern c p ≡ b
          → OnStep (OpenAt (escape_next n x p) (Text e)) (λ s. Stands most s (ts ++ us ++ Text e ∷ []))
          (if b then goes (state fs (valued (like n x p (Some c)) 4)) else open_pattern)
      go true closed =
          let whole : us ++ Text e ∷ [] ≡ (Name x ∷ negated_by n)
          ++ (Word reserved.Like ∷ Text p ∷ Word reserved.Escape ∷ Text e ∷ []) =
          more us (Name x ∷ negated_by n) (Word reserved.Like ∷ Text p ∷ Word reserved.Escape ∷ []) (Text e) inner.1
          in
          turns most d fs (valued (like n x p (Some c)) 4) ts us _ opens (
            inl refl,
            subst (λ vs. Derives 4 d vs (like n x p (Some c))) (sym whole)
                (alike_escaped d n x p e c (is_character e c is) closed),
            inner.0,
          )
      go false closed = (e, c, refl, is)

  escape_keeps : (n : Bool) (x p : List ℕ) (t : Token) → Inner d fs (escape_next n x p) us
      → OnStep (OpenAt (escape_next n x p) t) (λ s. Stands most s (ts ++ us ++ t ∷ [])) (escape_step fs n x p t)
  escape_keeps n x p (Text e) inner = escaped_keeps n x p e (only_character e) refl inner
  escape_keeps n x p other inner = tt

  valued_keeps : (e : Tree) (l : ℕ) (t : Token) → Inner d fs (valued e l) us → Leads most ts us t (value_step fs e l t)
  valued_keeps e l t inner = value_keeps most d fs ts us opens e l inner.0 inner.1 inner.2 t

named_keeps : (most d : ℕ) (fs : List Begun) (ts : List Token) (x : List ℕ) (t : Token) → Opened most d fs ts
    → awaited fs ≤ 4 → Leads most ts (Name x ∷ []) t (named_step fs x t)
named_keeps most d fs ts x (Word reserved.In) opens low =
    turns most d fs (list_next false x) ts (Name x ∷ []) _ opens (low, refl)
named_keeps most d fs ts x (Word reserved.Like) opens low =
    turns most d fs (pattern_next false x) ts (Name x ∷ []) _ opens (low, refl)
named_keeps most d fs ts x (Word reserved.Is) opens low =
    turns most d fs (null_next false x) ts (Name x ∷ []) _ opens (low, refl)
named_keeps most d fs ts x (Word reserved.Not) opens low =
    turns most d fs (not_name x) ts (Name x ∷ []) _ opens (low, refl)
named_keeps most d fs ts x other opens low = value_keeps most d fs ts (Name x ∷ []) opens (name x) 8 (inr refl)
    (a_name d x) (le_trans low (omega arith)) other

-- one token more, in any mode
mode_keeps : (most d : ℕ) (fs : List Begun) (m : Mode) (ts us : List Token) (t : Token) → Plain t → Opened most d fs ts
    → Inner d fs m us → OnStep (OpenAt m t) (λ s. Stands most s (ts ++ us ++ t ∷ [])) (step_in most fs m t)
mode_keeps most d fs operand ts us t plain opens inner =
    subst (λ vs. Leads most ts vs t (step_in most fs operand t)) (sym inner) (operand_keeps most d fs ts t plain opens)
mode_keeps most d fs (named x) ts us t plain opens inner =
    subst (λ vs. Leads most ts vs t (step_in most fs (named x) t)) (sym inner.1)
    (named_keeps most d fs ts x t opens inner.0)
mode_keeps most d fs (valued e l) ts us t plain opens inner = valued_keeps most d fs ts us opens e l t inner
mode_keeps most d fs (not_value e) ts us t plain opens inner = not_value_keeps most d fs ts us opens e t inner
mode_keeps most d fs (not_name x) ts us t plain opens inner = not_name_keeps most d fs ts us opens x t inner
mode_keeps most d fs (null_next n x) ts us t plain opens inner = null_keeps most d fs ts us opens n x t inner
mode_keeps most d fs (list_next n x) ts us t plain opens inner = list_keeps most d fs ts us opens n x t inner
mode_keeps most d fs (item_next n x list) ts us t plain opens inner = item_keeps most d fs ts us opens n x list t inner
mode_keeps most d fs (item_read n x list) ts us t plain opens inner =
    item_read_keeps most d fs ts us opens n x list t inner
mode_keeps most d fs (pattern_next n x) ts us t plain opens inner = pattern_keeps most d fs ts us opens n x t inner
mode_keeps most d fs (pattern_read n x p) ts us t plain opens inner =
    pattern_read_keeps most d fs ts us opens n x p t inner
mode_keeps most d fs (escape_next n x p) ts us t plain opens inner = escape_keeps most d fs ts us opens n x p t inner

-- a step keeps what the tokens so far are
pub keeps : (most : ℕ) (s : State) (ws : List Token) (t : Token) → Plain t → Stands most s ws
    → OnStep (OpenAt s.mode t) (λ next. Stands most next (ws ++ t ∷ [])) (step most s t)
unfolding step
keeps most s ws t plain at = subst (λ (vs : List Token).
    OnStep (OpenAt s.mode t) (λ next. Stands most next (vs ++ t ∷ [])) (step_in most s.begun s.mode t)) at.cut
    (mode_keeps most at.depth s.begun s.mode at.front at.part t plain at.opens at.inner)
