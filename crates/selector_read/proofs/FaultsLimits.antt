-- What the limit of nesting changes: a step is the same at each limit, but that a form that counts may be too deep.
use Rattle.std.proofs.Common.{◌≡◌, ℕ, ◌<◌, ◌≤◌, Bool, true, false, List, [], ◌∷◌, ◌++◌, Option, Some, None, nat_le, nat_lt, refl, sym, ap, ◌∙◌, subst, arith, ltb-true}
use Rattle.std.specs.Prelude.{if◌then◌else◌}
use Rattle.std.proofs.lemmas.Bool.{lt-ltb}
use Rattle.selector_tokens.specs.declared.tokens.Token.{Token}
use Rattle.selector_tokens.specs.declared.tokens.Token.TheVariants.{Name, Word, Number, Text, Compare, Plus, Minus, Times, Divide, Open, Close, Comma}
use Rattle.selector_tokens.specs.declared.tokens.Word.TheVariants as reserved
use Rattle.selector_read.specs.Trees.{Tree, name, like, int, text, truth}
use Rattle.selector_read.specs.Grammar.{is_whole_pattern}
use Rattle.selector_read.specs.Selectors.{may_nest}
use Rattle.selector_read.specs.Reading.{Begun, low_of, not_of, minus_of, plus_of, paren, nesting, awaited, settle, Mode, operand, named, valued, not_value, not_name, null_next, list_next, item_next, item_read, pattern_next, pattern_read, escape_next, State, state, Step, goes, unexpected, too_deep, open_pattern, begins, sum_only, and_step, or_step, close_step, value_step, named_step, null_step, pattern_read_step, escaped, only_character, escape_step, step_in, step}
use Rattle.selector_read.proofs.Runs.{after_step, run}
use Rattle.selector_read.proofs.CompleteSteps.{run_first}

-- ---- steps that are never too deep

abbrev is_deep : Step → Bool
is_deep too_deep = true
is_deep other = false

if_shallow : (b : Bool) (s r : Step) → is_deep s ≡ false → is_deep r ≡ false → is_deep (if b then s else r) ≡ false
if_shallow true s r p q = p
if_shallow false s r p q = q

sum_shallow : (l : ℕ) (s : Step) → is_deep s ≡ false → is_deep (sum_only l s) ≡ false
sum_shallow l s h = if_shallow (nat_le 5 l) s unexpected h refl

compare_shallow : (l : ℕ) (fs : List Begun) (next : State)
    → is_deep (sum_only l (if nat_le (awaited fs) 4 then goes next else unexpected)) ≡ false
compare_shallow l fs next = sum_shallow l _ (if_shallow (nat_le (awaited fs) 4) (goes next) unexpected refl refl)

and_shallow : (fs : List Begun) (e : Tree) → is_deep (and_step fs e) ≡ false
and_shallow [] e = refl
and_shallow (low_of n a ∷ fs) e = refl
and_shallow (f ∷ fs) e = refl

or_shallow : (fs : List Begun) (e : Tree) → is_deep (or_step fs e) ≡ false
or_shallow [] e = refl
or_shallow (low_of n a ∷ fs) e = refl
or_shallow (f ∷ fs) e = refl

close_shallow : (fs : List Begun) (e : Tree) → is_deep (close_step fs e) ≡ false
close_shallow [] e = refl
close_shallow (paren ∷ fs) e = refl
close_shallow (f ∷ fs) e = refl

value_shallow : (fs : List Begun) (e : Tree) (l : ℕ) (t : Token) → is_deep (value_step fs e l t) ≡ false
value_shallow fs e l Times = sum_shallow l _ refl
value_shallow fs e l Divide = sum_shallow l _ refl
value_shallow fs e l Plus = sum_shallow l _ refl
value_shallow fs e l Minus = sum_shallow l _ refl
value_shallow fs e l (Compare op) = compare_shallow l (settle 5 fs e).begun _
value_shallow fs e l (Word reserved.Between) = compare_shallow l (settle 5 fs e).begun _
value_shallow fs e l (Word reserved.Not) = compare_shallow l (settle 5 fs e).begun _
value_shallow fs e l (Word reserved.And) = and_shallow (settle 2 fs e).begun (settle 2 fs e).tree
value_shallow fs e l (Word reserved.Or) = or_shallow (settle 1 fs e).begun (settle 1 fs e).tree
value_shallow fs e l Close = close_shallow (settle 1 fs e).begun (settle 1 fs e).tree
value_shallow fs e l other = refl

named_shallow : (fs : List Begun) (x : List ℕ) (t : Token) → is_deep (named_step fs x t) ≡ false
named_shallow fs x (Word reserved.In) = refl
named_shallow fs x (Word reserved.Like) = refl
named_shallow fs x (Word reserved.Is) = refl
named_shallow fs x (Word reserved.Not) = refl
named_shallow fs x other = value_shallow fs (name x) 8 other

null_shallow : (fs : List Begun) (n : Bool) (x : List ℕ) (t : Token) → is_deep (null_step fs n x t) ≡ false
null_shallow fs n x (Word reserved.Null) = refl
null_shallow fs false x (Word reserved.Not) = refl
null_shallow fs n x other = refl

pattern_shallow : (fs : List Begun) (n : Bool) (x p : List ℕ) (t : Token)
    → is_deep (pattern_read_step fs n x p t) ≡ false
pattern_shallow fs n x p (Word reserved.Escape) = refl
pattern_shallow fs n x p other = value_shallow fs (like n x p None) 4 other

escaped_shallow : (fs : List Begun) (n : Bool) (x p : List ℕ) (o : Option ℕ) → is_deep (escaped fs n x p o) ≡ false
escaped_shallow fs n x p None = refl
escaped_shallow fs n x p (Some c) = if_shallow (is_whole_pattern c p)
    (goes (state fs (valued (like n x p (Some c)) 4))) open_pattern refl refl

escape_shallow : (fs : List Begun) (n : Bool) (x p : List ℕ) (t : Token) → is_deep (escape_step fs n x p t) ≡ false
escape_shallow fs n x p (Text e) = escaped_shallow fs n x p (only_character e)
escape_shallow fs n x p other = refl

-- ---- the two kinds of steps

-- a form that counts is begun, if the limit allows one more
abbrev nests_to : ℕ → List Begun → State → Step
nests_to most fs next = if nat_lt (nesting fs) most then goes next else too_deep

-- the step is the same at each limit and never too deep, or begins a form that counts
data Kind (fs : List Begun) (m : Mode) (t : Token) : Type 0 where
  free : (one : Step) → is_deep one ≡ false → ((most : ℕ) → step_in most fs m t ≡ one) → Kind fs m t
  counts : (next : State) → may_nest t ≡ true → ((most : ℕ) → step_in most fs m t ≡ nests_to most fs next) → Kind fs m t

not_kind : (fs : List Begun) (b : Bool) → nat_le (awaited fs) 3 ≡ b → Kind fs operand (Word reserved.Not)
not_kind fs true is = counts (state (not_of ∷ fs) operand) refl
    (λ most. ap (λ c. if c then begins most not_of fs else unexpected) is)
not_kind fs false is = free unexpected refl (λ most. ap (λ c. if c then begins most not_of fs else unexpected) is)

operand_kind : (fs : List Begun) (t : Token) → Kind fs operand t
operand_kind fs (Word reserved.Not) = not_kind fs (nat_le (awaited fs) 3) refl
operand_kind fs Plus = counts (state (plus_of ∷ fs) operand) refl (λ most. refl)
operand_kind fs Minus = counts (state (minus_of ∷ fs) operand) refl (λ most. refl)
operand_kind fs Open = counts (state (paren ∷ fs) operand) refl (λ most. refl)
operand_kind fs (Number n) = free (goes (state fs (valued (int n) 8))) refl (λ most. refl)
operand_kind fs (Text s) = free (goes (state fs (valued (text s) 8))) refl (λ most. refl)
operand_kind fs (Word reserved.True) = free (goes (state fs (valued (truth true) 8))) refl (λ most. refl)
operand_kind fs (Word reserved.False) = free (goes (state fs (valued (truth false) 8))) refl (λ most. refl)
operand_kind fs (Name x) = free (goes (state fs (if nat_le (awaited fs) 4 then named x else valued (name x) 8))) refl
    (λ most. refl)
operand_kind fs other = free unexpected refl (λ most. refl)

list_kind : (fs : List Begun) (n : Bool) (x : List ℕ) (t : Token) → Kind fs (list_next n x) t
list_kind fs n x Open = counts (state fs (item_next n x [])) refl (λ most. refl)
list_kind fs n x other = free unexpected refl (λ most. refl)

item_shallow : (fs : List Begun) (n : Bool) (x : List ℕ) (list : List (List ℕ)) (t : Token)
    → is_deep (step_in 0 fs (item_next n x list) t) ≡ false
item_shallow fs n x list (Text s) = refl
item_shallow fs n x list other = refl

item_read_shallow : (fs : List Begun) (n : Bool) (x : List ℕ) (list : List (List ℕ)) (t : Token)
    → is_deep (step_in 0 fs (item_read n x list) t) ≡ false
item_read_shallow fs n x list Comma = refl
item_read_shallow fs n x list Close = refl
item_read_shallow fs n x list other = refl

pattern_next_shallow : (fs : List Begun) (n : Bool) (x : List ℕ) (t : Token)
    → is_deep (step_in 0 fs (pattern_next n x) t) ≡ false
pattern_next_shallow fs n x (Text p) = refl
pattern_next_shallow fs n x other = refl

not_value_shallow : (fs : List Begun) (e : Tree) (t : Token) → is_deep (step_in 0 fs (not_value e) t) ≡ false
not_value_shallow fs e (Word reserved.Between) = refl
not_value_shallow fs e other = refl

not_name_shallow : (fs : List Begun) (x : List ℕ) (t : Token) → is_deep (step_in 0 fs (not_name x) t) ≡ false
not_name_shallow fs x (Word reserved.Between) = refl
not_name_shallow fs x (Word reserved.In) = refl
not_name_shallow fs x (Word reserved.Like) = refl
not_name_shallow fs x other = refl

kind : (fs : List Begun) (m : Mode) (t : Token) → Kind fs m t
kind fs operand t = operand_kind fs t
kind fs (named x) t = free (named_step fs x t) (named_shallow fs x t) (λ most. refl)
kind fs (valued e l) t = free (value_step fs e l t) (value_shallow fs e l t) (λ most. refl)
kind fs (not_value e) t = free (step_in 0 fs (not_value e) t) (not_value_shallow fs e t) (λ most. refl)
kind fs (not_name x) t = free (step_in 0 fs (not_name x) t) (not_name_shallow fs x t) (λ most. refl)
kind fs (null_next n x) t = free (null_step fs n x t) (null_shallow fs n x t) (λ most. refl)
kind fs (list_next n x) t = list_kind fs n x t
kind fs (item_next n x list) t = free (step_in 0 fs (item_next n x list) t) (item_shallow fs n x list t) (λ most. refl)
kind fs (item_read n x list) t = free (step_in 0 fs (item_read n x list) t) (item_read_shallow fs n x list t)
    (λ most. refl)
kind fs (pattern_next n x) t = free (step_in 0 fs (pattern_next n x) t) (pattern_next_shallow fs n x t) (λ most. refl)
kind fs (pattern_read n x p) t = free (pattern_read_step fs n x p t) (pattern_shallow fs n x p t) (λ most. refl)
kind fs (escape_next n x p) t = free (escape_step fs n x p t) (escape_shallow fs n x p t) (λ most. refl)

-- ---- steps at two limits

-- a token that no limit admits
abbrev pub is_stop : Step → Bool
is_stop (goes s) = false
is_stop too_deep = false
is_stop other = true

never_stops : (b : Bool) (next : State) (one : Step) → (if b then goes next else too_deep) ≡ one → is_stop one ≡ true
    → ⊥
never_stops true next (goes s) h stop = cc
never_stops true next too_deep h stop = cc
never_stops true next unexpected h stop = cc
never_stops true next open_pattern h stop = cc
never_stops false next (goes s) h stop = cc
never_stops false next too_deep h stop = cc
never_stops false next unexpected h stop = cc
never_stops false next open_pattern h stop = cc

goes_by : (b : Bool) (next n : State) → (if b then goes next else too_deep) ≡ goes n → (b ≡ true) × (next ≡ n)
goes_by true next n h = (refl, cc)
goes_by false next n h = cc

stops_in : (m d : ℕ) (fs : List Begun) (mode : Mode) (t : Token) (one : Step) → Kind fs mode t
    → step_in m fs mode t ≡ one → is_stop one ≡ true → step_in d fs mode t ≡ one
stops_in m d fs mode t one (free other shallow is) h stop = is d ∙ sym (is m) ∙ h
stops_in m d fs mode t one (counts next nests is) h stop =
    absurd (never_stops (nat_lt (nesting fs) m) next one (sym (is m) ∙ h) stop)

-- what is at fault at one limit is at fault at each, but what is too deep
pub stops_too : (m d : ℕ) (s : State) (t : Token) (one : Step) → step m s t ≡ one → is_stop one ≡ true
    → step d s t ≡ one
unfolding step
stops_too m d s t one h stop = stops_in m d s.begun s.mode t one (kind s.begun s.mode t) h stop

goes_in : (m d : ℕ) (fs : List Begun) (mode : Mode) (t : Token) (n : State) → m ≤ d → Kind fs mode t
    → step_in m fs mode t ≡ goes n → step_in d fs mode t ≡ goes n
goes_in m d fs mode t n le (free other shallow is) h = is d ∙ sym (is m) ∙ h
goes_in m d fs mode t n le (counts next nests is) h =
    let two : (nat_lt (nesting fs) m ≡ true) × (next ≡ n) = goes_by (nat_lt (nesting fs) m) next n (sym (is m) ∙ h) in
    let low : nesting fs < m = ltb-true (nesting fs) m two.0 in
    is d ∙ ap (λ b. if b then goes next else too_deep) (lt-ltb (nesting fs) d (omega arith)) ∙ ap goes two.1

goes_too : (m d : ℕ) (s : State) (t : Token) (n : State) → m ≤ d → step m s t ≡ goes n → step d s t ≡ goes n
unfolding step
goes_too m d s t n le h = goes_in m d s.begun s.mode t n le (kind s.begun s.mode t) h

same_in : (m d : ℕ) (fs : List Begun) (mode : Mode) (t : Token) (a b : State) → Kind fs mode t
    → step_in m fs mode t ≡ goes a → step_in d fs mode t ≡ goes b → a ≡ b
same_in m d fs mode t a b (free other shallow is) h k = let e : goes a ≡ goes b = sym h ∙ is m ∙ sym (is d) ∙ k in cc
same_in m d fs mode t a b (counts next nests is) h k =
    sym (goes_by (nat_lt (nesting fs) m) next a (sym (is m) ∙ h)).1
    ∙ (goes_by (nat_lt (nesting fs) d) next b (sym (is d) ∙ k)).1

same_step : (m d : ℕ) (s : State) (t : Token) (a b : State) → step m s t ≡ goes a → step d s t ≡ goes b → a ≡ b
unfolding step
same_step m d s t a b h k = same_in m d s.begun s.mode t a b (kind s.begun s.mode t) h k

-- the token begins a form that counts, and goes on to this state at each limit that allows one more
pub record Deep (s : State) (t : Token) : Type 0 where
  pub nests : may_nest t ≡ true
  pub next : State
  pub deeper : (d : ℕ) → nesting s.begun < d → step d s t ≡ goes next

deep_in : (m : ℕ) (s : State) (t : Token) → Kind s.begun s.mode t → step m s t ≡ too_deep → Deep s t
unfolding step
deep_in m s t (free other shallow is) h = let e : is_deep too_deep ≡ false =
    subst (λ one. is_deep one ≡ false) (sym (is m) ∙ h) shallow in cc
deep_in m s t (counts next nests is) h = record {
  nests = nests;
  next = next;
  deeper = λ d low. is d ∙ ap (λ b. if b then goes next else too_deep) (lt-ltb (nesting s.begun) d low);
}

pub deep_is : (m : ℕ) (s : State) (t : Token) → step m s t ≡ too_deep → Deep s t
deep_is m s t h = deep_in m s t (kind s.begun s.mode t) h

-- ---- runs at two limits

-- the first token, and the rest
record Parts (most : ℕ) (s : State) (t : Token) (ts : List Token) (n : State) : Type 0 where
  mid : State
  here : step most s t ≡ goes mid
  there : run most mid ts ≡ goes n

parts_by : (most : ℕ) (s : State) (t : Token) (ts : List Token) (n : State) (one : Step) → step most s t ≡ one
    → after_step (λ next. run most next ts) one ≡ goes n → Parts most s t ts n
parts_by most s t ts n (goes m) is h = record { mid = m; here = is; there = h }
parts_by most s t ts n unexpected is h = cc
parts_by most s t ts n too_deep is h = cc
parts_by most s t ts n open_pattern is h = cc

parts : (most : ℕ) (s : State) (t : Token) (ts : List Token) (n : State) → run most s (t ∷ ts) ≡ goes n
    → Parts most s t ts n
unfolding run
parts most s t ts n h = parts_by most s t ts n (step most s t) refl h

pub run_too : (m d : ℕ) (ts : List Token) (s n : State) → m ≤ d → run m s ts ≡ goes n → run d s ts ≡ goes n
unfolding run
run_too m d [] s n le h = h
run_too m d (t ∷ ts) s n le h =
    let p = parts m s t ts n h in
    run_first d s p.mid n t ts (goes_too m d s t p.mid le p.here) (run_too m d ts p.mid n le p.there)

pub same_end : (m d : ℕ) (ts : List Token) (s a b : State) → run m s ts ≡ goes a → run d s ts ≡ goes b → a ≡ b
unfolding run
same_end m d [] s a b h k = let e : goes a ≡ goes b = sym h ∙ k in cc
same_end m d (t ∷ ts) s a b h k =
    let p = parts m s t ts a h in
    let q = parts d s t ts b k in
    same_end m d ts p.mid a b p.there (subst (λ x. run d x ts ≡ goes b)
    (sym (same_step m d s t p.mid q.mid p.here q.here)) q.there)

-- one token alone
pub one_goes : (most : ℕ) (s : State) (t : Token) (n : State) → run most s (t ∷ []) ≡ goes n → step most s t ≡ goes n
unfolding run
one_goes most s t n h = let p = parts most s t [] n h in p.here ∙ p.there

pub one_run : (most : ℕ) (s : State) (t : Token) (n : State) → step most s t ≡ goes n → run most s (t ∷ []) ≡ goes n
unfolding run
one_run most s t n h = run_first most s n n t [] h refl

-- the tokens in front lead to a state, and the others from there on
pub record Cut (most : ℕ) (s : State) (ts us : List Token) (n : State) : Type 0 where
  pub mid : State
  pub front : run most s ts ≡ goes mid
  pub back : run most mid us ≡ goes n

pub cut : (most : ℕ) (ts us : List Token) (s n : State) → run most s (ts ++ us) ≡ goes n → Cut most s ts us n
unfolding run
cut most [] us s n h = record { mid = s; front = refl; back = h }
cut most (t ∷ ts) us s n h =
    let p = parts most s t (ts ++ us) n h in
    let rest = cut most ts us p.mid n p.there in
    let front = run_first most s p.mid rest.mid t ts p.here rest.front in
    record { mid = rest.mid; front = front; back = rest.back }
