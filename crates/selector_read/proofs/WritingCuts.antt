-- How a text is cut into tokens, without their places; and what stands in tokens that were cut.
use Rattle.std.proofs.Common.{◌≡◌, ℕ, zero, suc, ◌+◌, ◌-◌, ◌^◌, ◌<◌, Bool, true, false, List, [], ◌∷◌, ◌++◌, length, Some, None, refl, ap, drop}
use Rattle.std.specs.Prelude.{Option, pos, nat_lt, if◌then◌else◌, ⊤, ◌==◌, ◌&&◌}
use Rattle.std.specs.Char.{is_ascii_whitespace, is_ascii_digit}
use Rattle.std.specs.List.{list_all, take_while, AllByRecursion}
use Rattle.std.specs.Str.Parse.{digits_value}
use Rattle.std.proofs.lemmas.Bool.{ltb-true, cond_both, and_from, or_left}
use Rattle.std.proofs.lemmas.List.Sums.{take_while-cons}
use Rattle.selector_tokens.specs.declared.faults.Kind.{Kind}
use Rattle.selector_tokens.specs.declared.faults.Kind.TheVariants.{BadChar, FloatLiteral, IntRange}
use Rattle.selector_tokens.specs.declared.tokens.Token.{Token}
use Rattle.selector_tokens.specs.declared.tokens.CompareOp.TheVariants.{Equal, Unequal, Less, LessEqual, Greater, GreaterEqual}
use Rattle.selector_tokens.specs.declared.tokens.Token.TheVariants.{Name, Number, Compare, Plus, Minus, Times, Divide, Open, Close, Comma}
use Rattle.selector_tokens.specs.declared.tokens.Word.{Word}
use Rattle.selector_tokens.specs.Lexing.{First, found, fault, Lexed, stops, then_lexed, lexed_from, first_token, is_number, begins_name, is_name_byte, begins_with, begins_with_any, name_first, name_or_word, word_of, number_first, is_float_byte, string_first, string_in, sign_first}
use Rattle.selector_read.specs.Selectors.{tokens}

-- tokens without their places, and what is at fault behind them
pub record Cut : Type 0 where
  pub tokens : List Token
  pub fault : Option Kind

abbrev pub cut_of : Lexed → Cut
cut_of l = record { tokens = tokens l.tokens; fault = l.stop.fault }

abbrev pub after_tokens : List Token → Cut → Cut
after_tokens ts c = record { tokens = ts ++ c.tokens; fault = c.fault }

-- the first token, and what is cut from the text behind it
abbrev pub cut_first : First → (ℕ → Bool → Cut) → Cut
cut_first (found t n) rest = after_tokens (t ∷ []) (rest (n - 1) (is_number t))
cut_first (fault kind) rest = record { tokens = []; fault = Some kind }

-- a text of which the first `inner` bytes belong to a token that was read already
unfoldable pub cuts : ℕ → Bool → List ℕ → Cut
cuts inner close [] = record { tokens = []; fault = None }
cuts (suc inner) close (c ∷ cs) = cuts inner close cs
cuts zero close (c ∷ cs) =
    if is_ascii_whitespace c then cuts zero false cs
    else cut_first (first_token close c cs) (λ inner next. cuts inner next cs)

pub cut_is : (s : List ℕ) (inner : ℕ) (close : Bool) (at : ℕ) → cut_of (lexed_from inner close at s) ≡ cuts inner close s
unfolding cuts lexed_from
cut_is [] zero close at = refl
cut_is [] (suc inner) close at = refl
cut_is (c ∷ cs) (suc inner) close at = cut_is cs inner close (at + 1)
cut_is (c ∷ cs) zero close at =
    elim (is_ascii_whitespace c) as (λ b. cut_of (if b then lexed_from zero false (at + 1) cs
    else elim (first_token close c cs) as (λ _. Lexed) [ found t n ↦ then_lexed at t (lexed_from (n - 1) (is_number t) (at + 1) cs) | fault kind ↦ stops at (Some kind) ])
    ≡ (if b then cuts zero false cs else cut_first (first_token close c cs) (λ inner next. cuts inner next cs))) [
      | true ↦ cut_is cs zero false (at + 1)
      | false ↦ elim (first_token close c cs) as (λ f. cut_of (elim f as (λ _. Lexed) [ found t n ↦ then_lexed at t (lexed_from (n - 1) (is_number t) (at + 1) cs) | fault kind ↦ stops at (Some kind) ])
          ≡ cut_first f (λ inner next. cuts inner next cs)) [
            | found t n ↦ ap (after_tokens (t ∷ [])) (cut_is cs (n - 1) (is_number t) (at + 1))
            | fault kind ↦ refl
          ]
    ]

-- ---- what tokens of a text are

-- a name of a property: a letter, `_` or `$`, then these and digits, and no reserved word
pub record IsName (x : List ℕ) : Type 0 where
  pub begins : begins_with_any begins_name x ≡ true
  pub goes_on : list_all is_name_byte x ≡ true
  pub free : word_of x ≡ None

abbrev pub IsReadToken : Token → Type 0
IsReadToken (Name x) = IsName x
IsReadToken (Number (pos n)) = n < 2 ^ 63
IsReadToken other = ⊤

data IsReadFirst : First → Type 0 where
  read_token : {t : Token} {n : ℕ} → IsReadToken t → IsReadFirst (found t n)
  no_token : {kind : Kind} → IsReadFirst (fault kind)

either_first : (b : Bool) (f g : First) → (b ≡ true → IsReadFirst f) → (b ≡ false → IsReadFirst g) → IsReadFirst (if b then f else g)
either_first b f g p q = cond_both b f g IsReadFirst p q

take_while_begins : (p q : ℕ → Bool) (c : ℕ) (cs : List ℕ) → p c ≡ true → q c ≡ true → begins_with_any p (take_while q (c ∷ cs)) ≡ true
take_while_begins p q c cs h k = rw (take_while-cons q c cs, k) h

all_take_while : (p : ℕ → Bool) (s : List ℕ) → list_all p (take_while p s) ≡ true
all_take_while p [] = refl
all_take_while p (c ∷ cs) =
    rw (take_while-cons p c cs) (cond_both (p c) (c ∷ take_while p cs) [] (λ (xs : List ℕ). list_all p xs ≡ true) (λ e. and_from (p c) (list_all p (take_while p cs)) e (all_take_while p cs)) (λ e. refl))

name_read : (letters : List ℕ) (w : Option Word) → begins_with_any begins_name letters ≡ true → list_all is_name_byte letters ≡ true → word_of letters ≡ w → IsReadToken (name_or_word letters w)
name_read letters None begins goes_on free = record { begins = begins; goes_on = goes_on; free = free }
name_read letters (Some w) begins goes_on free = tt

both_first : (b : Bool) (f g : First) → IsReadFirst f → IsReadFirst g → IsReadFirst (if b then f else g)
both_first true f g p q = p
both_first false f g p q = q

sign_read : (c : ℕ) (cs : List ℕ) → IsReadFirst (sign_first c cs)
sign_read c cs =
    both_first (c == 61) (found (Compare Equal) 1) _ (read_token tt) (
    both_first (c == 60) _ _ (both_first (begins_with 62 cs) (found (Compare Unequal) 2) _ (read_token tt) (both_first (begins_with 61 cs) (found (Compare LessEqual) 2) (found (Compare Less) 1) (read_token tt) (read_token tt))) (
    both_first (c == 62) _ _ (both_first (begins_with 61 cs) (found (Compare GreaterEqual) 2) (found (Compare Greater) 1) (read_token tt) (read_token tt)) (
    both_first (c == 43) (found Plus 1) _ (read_token tt) (
    both_first (c == 45) (found Minus 1) _ (read_token tt) (
    both_first (c == 42) (found Times 1) _ (read_token tt) (
    both_first (c == 47) (found Divide 1) _ (read_token tt) (
    both_first (c == 40) (found Open 1) _ (read_token tt) (
    both_first (c == 41) (found Close 1) _ (read_token tt) (
    both_first (c == 44) (found Comma 1) _ (read_token tt) (
    both_first (c == 46 && begins_with_any is_ascii_digit cs) (fault FloatLiteral) (fault BadChar) no_token no_token))))))))))

string_read : (o : Option (List ℕ × ℕ)) → IsReadFirst (string_first o)
string_read None = no_token
string_read (Some string) = read_token tt

number_read : (digits behind : List ℕ) → IsReadFirst (number_first digits behind)
number_read digits behind =
    both_first (begins_with_any is_float_byte behind) (fault FloatLiteral) _ no_token (
    either_first (nat_lt (digits_value 10 digits) (2 ^ 63)) (found (Number (pos (digits_value 10 digits))) (length digits)) (fault IntRange)
    (λ e. read_token (ltb-true (digits_value 10 digits) (2 ^ 63) e)) (λ _. no_token))

first_read : (close : Bool) (c : ℕ) (cs : List ℕ) → IsReadFirst (first_token close c cs)
unfolding first_token
first_read close c cs =
    either_first (begins_name c) (if close then fault BadChar else name_first (take_while is_name_byte (c ∷ cs))) _
    (λ begins. both_first close (fault BadChar) (name_first (take_while is_name_byte (c ∷ cs))) no_token
    (read_token (name_read (take_while is_name_byte (c ∷ cs)) (word_of (take_while is_name_byte (c ∷ cs)))
    (take_while_begins begins_name is_name_byte c cs begins (or_left (begins_name c) (is_ascii_digit c) begins)) (all_take_while is_name_byte (c ∷ cs)) refl)))
    (λ _. both_first (is_ascii_digit c) _ _ (number_read (take_while is_ascii_digit (c ∷ cs)) (drop (length (take_while is_ascii_digit (c ∷ cs))) (c ∷ cs)))
    (both_first (c == 39) (string_first (string_in cs)) (sign_first c cs) (string_read (string_in cs)) (sign_read c cs)))

cut_read : (f : First) (rest : ℕ → Bool → Cut) → IsReadFirst f → ((inner : ℕ) (close : Bool) → AllByRecursion IsReadToken (rest inner close).tokens) → AllByRecursion IsReadToken (cut_first f rest).tokens
cut_read (found t n) rest (read_token h) k = (h, k (n - 1) (is_number t))
cut_read (fault kind) rest no_token k = tt

-- each token that is cut is a token of a text
pub cuts_read : (s : List ℕ) (inner : ℕ) (close : Bool) → AllByRecursion IsReadToken (cuts inner close s).tokens
unfolding cuts
cuts_read [] zero close = tt
cuts_read [] (suc inner) close = tt
cuts_read (c ∷ cs) (suc inner) close = cuts_read cs inner close
cuts_read (c ∷ cs) zero close =
    cond_both (is_ascii_whitespace c) (cuts zero false cs) (cut_first (first_token close c cs) (λ inner next. cuts inner next cs)) (λ (k : Cut). AllByRecursion IsReadToken k.tokens)
    (λ _. cuts_read cs zero false)
    (λ _. cut_read (first_token close c cs) (λ inner next. cuts inner next cs) (first_read close c cs) (λ inner next. cuts_read cs inner next))
