-- What one token does behind a form that is read whole.
use Rattle.std.proofs.Common.{◌≡◌, ℕ, ◌<◌, ◌≤◌, Bool, true, false, List, [], ◌∷◌, ◌++◌, Some, None, refl, sym, ap, ◌∙◌, ◌≢◌, arith, le-leb}
use Rattle.std.proofs.lemmas.Bool.{lt-leb}
use Rattle.selector_read.specs.declared.trees.MathOp.{MathOp}
use Rattle.selector_read.specs.declared.trees.MathOp.TheVariants.{Add, Sub, Mul, Div}
use Rattle.selector_tokens.specs.declared.tokens.CompareOp.{CompareOp}
use Rattle.selector_tokens.specs.declared.tokens.Token.{Token}
use Rattle.selector_tokens.specs.declared.tokens.Token.TheVariants.{Word, Compare, Plus, Minus, Times, Divide, Close}
use Rattle.selector_tokens.specs.declared.tokens.Word.TheVariants as reserved
use Rattle.selector_read.specs.Trees.{Tree, name, like}
use Rattle.selector_read.specs.Reading.{Begun, or_of, and_of, not_of, compare_of, low_of, high_of, math_of, minus_of, plus_of, paren, level, awaits, whole, awaited, Held, settle, Mode, operand, named, valued, not_value, pattern_read, State, state, Step, goes, unexpected, too_deep, open_pattern, math_step, compare_step, and_step, or_step, close_step, sum_only, value_step, step_in, step, ended, finished_in, finished}
use Rattle.selector_read.proofs.Runs.{after_step, run}

-- ---- runs

pub run_none : (most : ℕ) (s : State) → run most s [] ≡ goes s
unfolding run
run_none most s = refl

-- one token more in front
pub run_first : (most : ℕ) (s m n : State) (t : Token) (ts : List Token) → step most s t ≡ goes m
    → run most m ts ≡ goes n → run most s (t ∷ ts) ≡ goes n
unfolding run
run_first most s m n t ts here there = ap (after_step (λ next. run most next ts)) here ∙ there

run_goes : (most : ℕ) (m n : State) (t : Token) (ts us : List Token) (one : Step)
    → ((s : State) → run most s ts ≡ goes m → run most s (ts ++ us) ≡ goes n)
    → after_step (λ next. run most next ts) one ≡ goes m
    → after_step (λ next. run most next (ts ++ us)) one ≡ goes n
run_goes most m n t ts us (goes s) rest h = rest s h
run_goes most m n t ts us unexpected rest h = cc
run_goes most m n t ts us too_deep rest h = cc
run_goes most m n t ts us open_pattern rest h = cc

-- tokens, and then more of them
pub run_on : (most : ℕ) (ts us : List Token) (s m n : State) → run most s ts ≡ goes m → run most m us ≡ goes n
    → run most s (ts ++ us) ≡ goes n
unfolding run
run_on most [] us s m n here there = let e : s ≡ m = cc in ap (λ x. run most x us) e ∙ there
run_on most (t ∷ ts) us s m n here there =
    run_goes most m n t ts us (step most s t) (λ x h. run_on most ts us x m n h there) here

-- ---- settling

abbrev pub held : List Begun → Tree → Held
held fs e = record { begun = fs; tree = e }

below : (f : Begun) (k : ℕ) → awaits f ≤ k → k ≢ 3 → k ≤ 6 → level f < k
below (or_of a) k w n h = omega arith
below (and_of a) k w n h = omega arith
below not_of k w n h = omega arith
below (compare_of op a) k w n h = omega arith
below (low_of b a) k w n h = omega arith
below (high_of b a c) k w n h = omega arith
below (math_of Add a) k w n h = omega arith
below (math_of Sub a) k w n h = omega arith
below (math_of Mul a) k w n h = omega arith
below (math_of Div a) k w n h = omega arith
below minus_of k w n h = omega arith
below plus_of k w n h = omega arith
below paren k w n h = omega arith

-- a form that awaits level k ends nothing of that level, but for NOT and signs
pub stays : (k : ℕ) (fs : List Begun) (e : Tree) → awaited fs ≤ k → k ≢ 3 → k ≤ 6 → settle k fs e ≡ held fs e
stays k [] e w n h = refl
stays k (f ∷ fs) e w n h = rw (lt-leb k (level f) (below f k w n h)) refl

-- ---- what stands where a form is read whole

-- the mode holds this expression, which has this level
pub data Holds : List Begun → Mode → Tree → ℕ → Type 0 where
  a_name : (fs : List Begun) (x : List ℕ) → awaited fs ≤ 4 → Holds fs (named x) (name x) 8
  a_value : (fs : List Begun) (e : Tree) (l : ℕ) → Holds fs (valued e l) e l
  a_pattern : (fs : List Begun) (n : Bool) (x p : List ℕ) → Holds fs (pattern_read n x p) (like n x p None) 4

-- The state stands behind a form of level l, as if it held the tree `a` inside the forms fs: settled to each level up to l they are the same.
pub record Ends (l : ℕ) (fs : List Begun) (a : Tree) (s : State) : Type 0 where
  pub value : Tree
  pub rank : ℕ
  pub holds : Holds s.begun s.mode value rank
  pub sum : 5 ≤ l → 5 ≤ rank
  pub settles : (k : ℕ) → k ≤ l → settle k s.begun value ≡ settle k fs a

-- a form of a level is one of each lower level
pub lowered : (l k : ℕ) (fs : List Begun) (a : Tree) (s : State) → Ends l fs a s → k ≤ l → Ends k fs a s
lowered l k fs a s e h = record {
  value = e.value;
  rank = e.rank;
  holds = e.holds;
  sum = λ five. e.sum (omega arith);
  settles = λ j low. e.settles j (omega arith);
}

-- the last part of a form ends the form
pub closes : (l k : ℕ) (f : Begun) (fs : List Begun) (a : Tree) (s : State) → Ends l (f ∷ fs) a s → k ≤ l → k ≤ level f
    → Ends k fs (whole f a) s
closes l k f fs a s e h g = record {
  value = e.value;
  rank = e.rank;
  holds = e.holds;
  sum = λ five. e.sum (omega arith);
  settles = λ j low. e.settles j (omega arith) ∙ rw (le-leb j (level f) (omega arith)) refl;
}

-- the state of a value
pub ends_value : (l k : ℕ) (fs : List Begun) (a : Tree) → (5 ≤ l → 5 ≤ k) → Ends l fs a (state fs (valued a k))
ends_value l k fs a h = record { value = a; rank = k; holds = a_value fs a k; sum = h; settles = λ j low. refl }

-- ---- one token behind a form

-- the tokens of which a name or a pattern makes nothing else than a value does
abbrev is_plain : Token → Bool
is_plain (Word reserved.In) = false
is_plain (Word reserved.Like) = false
is_plain (Word reserved.Is) = false
is_plain (Word reserved.Not) = false
is_plain (Word reserved.Escape) = false
is_plain other = true

plain_step : (most : ℕ) (fs : List Begun) (m : Mode) (e : Tree) (l : ℕ) (t : Token) → Holds fs m e l
    → is_plain t ≡ true → step_in most fs m t ≡ value_step fs e l t
plain_step most fs (valued e l) v k t (a_value gs b j) h = refl
plain_step most fs m e l (Word reserved.In) holds h = cc
plain_step most fs m e l (Word reserved.Like) holds h = cc
plain_step most fs m e l (Word reserved.Is) holds h = cc
plain_step most fs m e l (Word reserved.Not) holds h = cc
plain_step most fs m e l (Word reserved.Escape) holds h = cc
plain_step most fs m e l t (a_name gs x w) h = refl
plain_step most fs m e l t (a_pattern gs n x p) h = refl

sum_goes : (l : ℕ) (s : Step) → 5 ≤ l → sum_only l s ≡ s
sum_goes l s h = rw (le-leb 5 l h) refl

module _ (most : ℕ) (fs : List Begun) (a : Tree) (s : State) where
  math_behind : (l : ℕ) (op : MathOp) (t : Token) → Ends l fs a s → awaited fs ≤ l → is_plain t ≡ true
      → ((gs : List Begun) (e : Tree) (k : ℕ) → value_step gs e k t ≡ sum_only k (math_step op (settle l gs e))) → 5 ≤ l
      → l ≤ 6
      → step most s t ≡ goes (state (math_of op a ∷ fs) operand)
  unfolding step
  math_behind l op t e w plain is five six =
      plain_step most s.begun s.mode e.value e.rank t e.holds plain ∙ is s.begun e.value e.rank
      ∙ sum_goes e.rank _ (e.sum five)
      ∙ ap (math_step op) (e.settles l (omega arith) ∙ stays l fs a w (omega arith) six)

  pub plus_behind : Ends 5 fs a s → awaited fs ≤ 5 → step most s Plus ≡ goes (state (math_of Add a ∷ fs) operand)
  plus_behind e w = math_behind 5 Add Plus e w refl (λ gs b k. refl) (omega arith) (omega arith)

  pub minus_behind : Ends 5 fs a s → awaited fs ≤ 5 → step most s Minus ≡ goes (state (math_of Sub a ∷ fs) operand)
  minus_behind e w = math_behind 5 Sub Minus e w refl (λ gs b k. refl) (omega arith) (omega arith)

  pub times_behind : Ends 6 fs a s → awaited fs ≤ 6 → step most s Times ≡ goes (state (math_of Mul a ∷ fs) operand)
  times_behind e w = math_behind 6 Mul Times e w refl (λ gs b k. refl) (omega arith) (omega arith)

  pub divide_behind : Ends 6 fs a s → awaited fs ≤ 6 → step most s Divide ≡ goes (state (math_of Div a ∷ fs) operand)
  divide_behind e w = math_behind 6 Div Divide e w refl (λ gs b k. refl) (omega arith) (omega arith)

  settled : (k l : ℕ) → (e : Ends l fs a s) → k ≤ l → awaited fs ≤ k → k ≢ 3 → k ≤ 6
      → settle k s.begun e.value ≡ held fs a
  settled k l e low w three six = e.settles k low ∙ stays k fs a w three six

  compare_goes : (next : State) → awaited fs ≤ 4 → compare_step (held fs a) next ≡ goes next
  compare_goes next w = rw (le-leb (awaited fs) 4 w) refl

  pub compare_behind : (op : CompareOp) → Ends 5 fs a s → awaited fs ≤ 4
      → step most s (Compare op) ≡ goes (state (compare_of op a ∷ fs) operand)
  unfolding step
  compare_behind op e w =
      plain_step most s.begun s.mode e.value e.rank (Compare op) e.holds refl ∙ sum_goes e.rank _ (e.sum (omega arith))
      ∙ ap (λ h. compare_step h (state (compare_of op h.tree ∷ h.begun) operand))
      (settled 5 5 e (omega arith) (omega arith) (omega arith) (omega arith))
      ∙ compare_goes (state (compare_of op a ∷ fs) operand) w

  pub between_behind : Ends 5 fs a s → awaited fs ≤ 4
      → step most s (Word reserved.Between) ≡ goes (state (low_of false a ∷ fs) operand)
  unfolding step
  between_behind e w =
      plain_step most s.begun s.mode e.value e.rank (Word reserved.Between) e.holds refl
      ∙ sum_goes e.rank _ (e.sum (omega arith))
      ∙ ap (λ h. compare_step h (state (low_of false h.tree ∷ h.begun) operand))
      (settled 5 5 e (omega arith) (omega arith) (omega arith) (omega arith))
      ∙ compare_goes (state (low_of false a ∷ fs) operand) w

  pub and_behind : Ends 2 fs a s → awaited fs ≤ 2
      → step most s (Word reserved.And) ≡ goes (state (and_of a ∷ fs) operand)
  unfolding step
  and_behind e w =
      plain_step most s.begun s.mode e.value e.rank (Word reserved.And) e.holds refl
      ∙ ap (λ h. and_step h.begun h.tree) (settled 2 2 e (omega arith) w (omega arith) (omega arith)) ∙ and_goes fs w
    where
      and_goes : (gs : List Begun) → awaited gs ≤ 2 → and_step gs a ≡ goes (state (and_of a ∷ gs) operand)
      and_goes [] h = refl
      and_goes (low_of n b ∷ gs) h = absurd (omega arith)
      and_goes (f ∷ gs) h = refl

  pub or_behind : Ends 1 fs a s → awaited fs ≤ 1 → step most s (Word reserved.Or) ≡ goes (state (or_of a ∷ fs) operand)
  unfolding step
  or_behind e w =
      plain_step most s.begun s.mode e.value e.rank (Word reserved.Or) e.holds refl
      ∙ ap (λ h. or_step h.begun h.tree) (settled 1 1 e (omega arith) w (omega arith) (omega arith)) ∙ or_goes fs w
    where
      or_goes : (gs : List Begun) → awaited gs ≤ 1 → or_step gs a ≡ goes (state (or_of a ∷ gs) operand)
      or_goes [] h = refl
      or_goes (low_of n b ∷ gs) h = absurd (omega arith)
      or_goes (f ∷ gs) h = refl

-- the lower end of BETWEEN, and AND
pub high_behind : (most : ℕ) (fs : List Begun) (n : Bool) (a b : Tree) (s : State) → Ends 5 (low_of n a ∷ fs) b s
    → step most s (Word reserved.And) ≡ goes (state (high_of n a b ∷ fs) operand)
unfolding step
high_behind most fs n a b s e = plain_step most s.begun s.mode e.value e.rank (Word reserved.And) e.holds refl
    ∙ ap (λ h. and_step h.begun h.tree) (e.settles 2 (omega arith))

-- the end of a parenthesis
pub close_behind : (most : ℕ) (fs : List Begun) (a : Tree) (s : State) → Ends 1 (paren ∷ fs) a s
    → step most s Close ≡ goes (state fs (valued a 8))
unfolding step
close_behind most fs a s e = plain_step most s.begun s.mode e.value e.rank Close e.holds refl
    ∙ ap (λ h. close_step h.begun h.tree) (e.settles 1 (omega arith))

not_between_in : (most : ℕ) (fs gs : List Begun) (m : Mode) (a e : Tree) (l : ℕ) → Holds gs m e l → 5 ≤ l
    → settle 5 gs e ≡ held fs a → awaited fs ≤ 4
    → run most (state gs m) (Word reserved.Not ∷ Word reserved.Between ∷ []) ≡ goes (state (low_of true a ∷ fs) operand)
unfolding step run
not_between_in most fs gs m a e l (a_name hs x w) h is v =
    ap (λ h. goes (state (low_of true h.tree ∷ h.begun) operand))
    (sym (stays 5 gs (name x) (omega arith) (omega arith) (omega arith)) ∙ is)
not_between_in most fs gs m a e l (a_value hs b k) h is v =
    ap (after_step (λ next. run most next (Word reserved.Between ∷ [])))
    (sum_goes l _ h ∙ ap (λ h. compare_step h (state h.begun (not_value h.tree))) is
    ∙ compare_goes most fs a (state gs m) (state fs (not_value a)) v)
not_between_in most fs gs m a e l (a_pattern hs n x p) h is v = absurd (omega arith)

-- NOT BETWEEN
pub not_between_behind : (most : ℕ) (fs : List Begun) (a : Tree) (s : State) → Ends 5 fs a s → awaited fs ≤ 4
    → run most s (Word reserved.Not ∷ Word reserved.Between ∷ []) ≡ goes (state (low_of true a ∷ fs) operand)
not_between_behind most fs a s e w =
    not_between_in most fs s.begun s.mode a e.value e.rank e.holds (e.sum (omega arith))
    (settled most fs a s 5 5 e (omega arith) (omega arith) (omega arith) (omega arith)) w

-- ---- behind all tokens

finished_by : (gs : List Begun) (m : Mode) (a e : Tree) (l : ℕ) → Holds gs m e l → settle 1 gs e ≡ held [] a
    → finished_in gs m ≡ Some a
finished_by gs m a e l (a_name hs x w) is = ap ended is
finished_by gs m a e l (a_value hs b k) is = ap ended is
finished_by gs m a e l (a_pattern hs n x p) is = ap ended is

pub finished_behind : (a : Tree) (s : State) → Ends 1 [] a s → finished s ≡ Some a
unfolding finished
finished_behind a s e = finished_by s.begun s.mode a e.value e.rank e.holds (e.settles 1 (omega arith))
