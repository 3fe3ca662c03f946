-- The text of a tree is cut into the fewest tokens that derive the tree.
use Rattle.std.proofs.Common.{◌≡◌, ℕ, ◌+◌, ◌^◌, ◌<◌, Bool, true, false, List, [], ◌∷◌, ◌++◌, Some, None, refl, sym, ap, subst, ◌∙◌, append_assoc, append-nil}
use Rattle.std.specs.Prelude.{Option, pos, negsuc, nat_lt, if◌then◌else◌, codes, flat_map, encode_utf8, ⊤}
use Rattle.std.specs.List.{AllByRecursion}
use Rattle.selector_read.specs.declared.trees.MathOp.{MathOp}
use Rattle.selector_read.specs.declared.trees.MathOp.TheVariants.{Add, Sub, Mul, Div}
use Rattle.selector_tokens.specs.declared.tokens.CompareOp.{CompareOp}
use Rattle.selector_tokens.specs.declared.tokens.CompareOp.TheVariants.{Equal, Unequal, Less, LessEqual, Greater, GreaterEqual}
use Rattle.selector_tokens.specs.declared.tokens.Token.{Token}
use Rattle.selector_tokens.specs.declared.tokens.Token.TheVariants.{Name, Word, Text, Compare, Plus, Minus, Times, Divide, Open, Close, Comma}
use Rattle.selector_tokens.specs.declared.tokens.Word.TheVariants as reserved
use Rattle.selector_tokens.specs.Lexing.{first_token, word_of, lexed}
use Rattle.selector_read.specs.Trees.{Tree, int, text, truth, name, minus, plus, math, compare, between, one_of, like, is_null, negation, both, either}
use Rattle.selector_read.specs.Grammar.{Derives, negated_by, listed, most_nested, or_first, or_more, and_first, and_more, negated, unnegated, uncompared, compared, within, listed_in, alike, alike_escaped, null_or_not, sum_first, added, subtracted, product_first, multiplied, divided, signed_plus, signed_minus, unsigned, a_number, a_string, a_true, a_false, a_name, in_parentheses}
use Rattle.selector_read.specs.Selectors.{StandsFor, IsWritable, tokens}
use Rattle.selector_read.specs.Writing.{math_sign, compare_sign, truth_word, words, quoted, after_comma, comma_list, escape_text, enclosed, text_at}
use Rattle.selector_read.specs.Grammar.{math_level}
use Rattle.selector_read.proofs.WritingTokens.{enclosed_tokens, math_token, truth_token, list_tokens, escape_tokens, tokens_at, fewest_derive}
use Rattle.selector_read.proofs.WritingCuts.{Cut, cut_of, cuts, cut_is, cuts_read, IsName, IsReadToken}
use Rattle.selector_read.proofs.WritingPieces.{at_end, at_space, Lexes, Begins, Starts, lexes_before, lexes_after, begins_after, begins_lexes, letters_lexed, name_lexed, number_lexed, string_lexed, open_lexed, close_lexed, close_starts, comma_lexed, comma_starts, minus_lexed, plus_lexed, or_lexed, and_lexed, not_lexed, between_lexed, in_lexed, like_lexed, escape_lexed}

-- ---- pieces together

lexes_same : (s u : List ℕ) (ts us : List Token) → s ≡ u → ts ≡ us → Lexes s ts → Lexes u us
lexes_same s u ts us e f l = subst (λ (v : List ℕ). Lexes v us) e (subst (λ (vs : List Token). Lexes s vs) f l)

-- a piece between two parts
infix_lexed : (a s b : List ℕ) (ta ts tb : List Token) → Lexes a ta → Starts s → Begins s ts → Lexes b tb → Lexes (a ++ s ++ b) (ta ++ (ts ++ tb))
infix_lexed a s b ta ts tb la starts ls lb = lexes_same _ _ _ _ refl (append_assoc ta ts tb) (lexes_before (a ++ s) b (ta ++ ts) tb (begins_after a s ta ts la starts ls) lb)

spaced : (cs : List ℕ) → Starts (32 ∷ cs)
spaced cs = record { apart = λ rest. at_space (cs ++ rest) }

spaced_words : (n : Bool) (cs : List ℕ) → Starts (words n (32 ∷ cs))
spaced_words true cs = spaced (codes "NOT" ++ 32 ∷ cs)
spaced_words false cs = spaced cs

enclosed_lexed : (l own : ℕ) (s : List ℕ) (ts : List Token) → Lexes s ts → Lexes (enclosed l own s) (enclosed_tokens l own ts)
enclosed_lexed l own s ts h =
    elim (nat_lt own l) as (λ b. Lexes (if b then codes "(" ++ s ++ codes ")" else s) (if b then Open ∷ ts ++ Close ∷ [] else ts)) [
      | true ↦ lexes_after (codes "(" ++ s) (codes ")") (Open ∷ ts) (Close ∷ []) (lexes_before (codes "(") s (Open ∷ []) ts open_lexed h) close_starts (begins_lexes (codes ")") (Close ∷ []) close_lexed)
      | false ↦ h
    ]

math_lexed : (op : MathOp) → Begins (math_sign op) (math_token op ∷ [])
unfolding cuts first_token
math_lexed Add = record { cut = λ rest. refl }
math_lexed Sub = record { cut = λ rest. refl }
math_lexed Mul = record { cut = λ rest. refl }
math_lexed Div = record { cut = λ rest. refl }

math_starts : (op : MathOp) → Starts (math_sign op)
math_starts Add = spaced (codes "+ ")
math_starts Sub = spaced (codes "- ")
math_starts Mul = spaced (codes "* ")
math_starts Div = spaced (codes "/ ")

compare_lexed : (op : CompareOp) → Begins (compare_sign op) (Compare op ∷ [])
unfolding cuts first_token
compare_lexed Equal = record { cut = λ rest. refl }
compare_lexed Unequal = record { cut = λ rest. refl }
compare_lexed Less = record { cut = λ rest. refl }
compare_lexed LessEqual = record { cut = λ rest. refl }
compare_lexed Greater = record { cut = λ rest. refl }
compare_lexed GreaterEqual = record { cut = λ rest. refl }

compare_starts : (op : CompareOp) → Starts (compare_sign op)
compare_starts Equal = spaced (codes "= ")
compare_starts Unequal = spaced (codes "<> ")
compare_starts Less = spaced (codes "< ")
compare_starts LessEqual = spaced (codes "<= ")
compare_starts Greater = spaced (codes "> ")
compare_starts GreaterEqual = spaced (codes ">= ")

truth_lexed : (b : Bool) → Lexes (truth_word b) (truth_token b ∷ [])
unfolding word_of
truth_lexed true = letters_lexed 84 (codes "RUE") refl refl
truth_lexed false = letters_lexed 70 (codes "ALSE") refl refl

null_lexed : Lexes (codes "NULL") (Word reserved.Null ∷ [])
unfolding word_of
null_lexed = letters_lexed 78 (codes "ULL") refl refl

is_lexed : Begins (codes " IS ") (Word reserved.Is ∷ [])
unfolding cuts first_token word_of
is_lexed = record { cut = λ rest. refl }

is_not_lexed : Begins (codes " IS NOT ") (Word reserved.Is ∷ Word reserved.Not ∷ [])
unfolding cuts first_token word_of
is_not_lexed = record { cut = λ rest. refl }

is_null_lexed : (n : Bool) → Lexes (codes " IS" ++ words n (codes " NULL")) (Word reserved.Is ∷ negated_by n ++ Word reserved.Null ∷ [])
is_null_lexed true = lexes_before (codes " IS NOT ") (codes "NULL") (Word reserved.Is ∷ Word reserved.Not ∷ []) (Word reserved.Null ∷ []) is_not_lexed null_lexed
is_null_lexed false = lexes_before (codes " IS ") (codes "NULL") (Word reserved.Is ∷ []) (Word reserved.Null ∷ []) is_lexed null_lexed

-- strings with commas between them
strings_lexed : (s : List ℕ) (ss : List (List ℕ)) → Lexes (quoted s ++ flat_map after_comma ss) (listed s ss)
strings_lexed s [] = lexes_same _ _ _ _ (sym (append-nil (quoted s))) refl (string_lexed s)
strings_lexed s (t ∷ ts) =
    lexes_same _ _ _ _ (append_assoc (quoted s) (codes ", ") (quoted t ++ flat_map after_comma ts)) refl
    (infix_lexed (quoted s) (codes ", ") (quoted t ++ flat_map after_comma ts) (Text s ∷ []) (Comma ∷ []) (listed t ts) (string_lexed s) comma_starts comma_lexed (strings_lexed t ts))

nothing_lexed : Lexes [] []
nothing_lexed = record { cut = λ rest apart. refl }

list_lexed : (list : List (List ℕ)) → Lexes (comma_list list) (list_tokens list)
list_lexed [] = nothing_lexed
list_lexed (s ∷ ss) = strings_lexed s ss

-- ---- trees

-- the names and numbers of a tree are those of a text
abbrev pub IsReadTree : Tree → Type 0
IsReadTree (int (pos n)) = n < 2 ^ 63
IsReadTree (int (negsuc n)) = ⊥
IsReadTree (text s) = ⊤
IsReadTree (truth b) = ⊤
IsReadTree (name x) = IsName x
IsReadTree (minus a) = IsReadTree a
IsReadTree (plus a) = IsReadTree a
IsReadTree (math op a b) = IsReadTree a × IsReadTree b
IsReadTree (compare op a b) = IsReadTree a × IsReadTree b
IsReadTree (between n a b c) = IsReadTree a × IsReadTree b × IsReadTree c
IsReadTree (one_of n x list) = IsName x
IsReadTree (like n x p e) = IsName x
IsReadTree (is_null n x) = IsName x
IsReadTree (negation a) = IsReadTree a
IsReadTree (both a b) = IsReadTree a × IsReadTree b
IsReadTree (either a b) = IsReadTree a × IsReadTree b

one_of_lexed : (n : Bool) (x : List ℕ) (list : List (List ℕ)) → IsName x
    → Lexes (x ++ words n (codes " IN (") ++ comma_list list ++ codes ")") (Name x ∷ negated_by n ++ Word reserved.In ∷ Open ∷ list_tokens list ++ Close ∷ [])
one_of_lexed n x list is =
    lexes_after (x ++ words n (codes " IN (") ++ comma_list list) (codes ")") (Name x ∷ negated_by n ++ Word reserved.In ∷ Open ∷ list_tokens list) (Close ∷ [])
    (lexes_same _ _ _ _ refl (ap (λ (ts : List Token). Name x ∷ ts) (append_assoc (negated_by n) (Word reserved.In ∷ Open ∷ []) (list_tokens list)))
    (infix_lexed x (words n (codes " IN (")) (comma_list list) (Name x ∷ []) (negated_by n ++ Word reserved.In ∷ Open ∷ []) (list_tokens list) (name_lexed x is) (spaced_words n (codes "IN (")) (in_lexed n) (list_lexed list)))
    close_starts (begins_lexes (codes ")") (Close ∷ []) close_lexed)

alike_lexed : (n : Bool) (x p : List ℕ) → IsName x → Lexes (x ++ words n (codes " LIKE ") ++ quoted p) (Name x ∷ negated_by n ++ Word reserved.Like ∷ Text p ∷ [])
alike_lexed n x p is =
    lexes_same _ _ _ _ refl (ap (λ (ts : List Token). Name x ∷ ts) (append_assoc (negated_by n) (Word reserved.Like ∷ []) (Text p ∷ [])))
    (infix_lexed x (words n (codes " LIKE ")) (quoted p) (Name x ∷ []) (negated_by n ++ Word reserved.Like ∷ []) (Text p ∷ []) (name_lexed x is) (spaced_words n (codes "LIKE ")) (like_lexed n) (string_lexed p))

like_text_lexed : (n : Bool) (x p : List ℕ) (e : Option ℕ) → IsName x
    → Lexes (x ++ words n (codes " LIKE ") ++ quoted p ++ escape_text e) (Name x ∷ negated_by n ++ Word reserved.Like ∷ Text p ∷ escape_tokens e)
like_text_lexed n x p None is = lexes_same _ _ _ _ (sym (append-nil (x ++ words n (codes " LIKE ") ++ quoted p))) refl (alike_lexed n x p is)
like_text_lexed n x p (Some c) is =
    lexes_same _ _ _ _ (append_assoc (x ++ words n (codes " LIKE ") ++ quoted p) (codes " ESCAPE ") (quoted (encode_utf8 c))) (simp append_assoc)
    (infix_lexed (x ++ words n (codes " LIKE ") ++ quoted p) (codes " ESCAPE ") (quoted (encode_utf8 c)) (Name x ∷ negated_by n ++ Word reserved.Like ∷ Text p ∷ []) (Word reserved.Escape ∷ []) (Text (encode_utf8 c) ∷ [])
    (alike_lexed n x p is) (spaced (codes "ESCAPE ")) escape_lexed (string_lexed (encode_utf8 c)))

between_text_lexed : (n : Bool) (a b c : List ℕ) (ta tb tc : List Token) → Lexes a ta → Lexes b tb → Lexes c tc
    → Lexes (a ++ words n (codes " BETWEEN ") ++ b ++ codes " AND " ++ c) (ta ++ negated_by n ++ Word reserved.Between ∷ tb ++ Word reserved.And ∷ tc)
between_text_lexed n a b c ta tb tc la lb lc =
    lexes_same _ _ _ _ refl (simp append_assoc)
    (infix_lexed (a ++ words n (codes " BETWEEN ") ++ b) (codes " AND ") c (ta ++ (negated_by n ++ Word reserved.Between ∷ [] ++ tb)) (Word reserved.And ∷ []) tc
    (infix_lexed a (words n (codes " BETWEEN ")) b ta (negated_by n ++ Word reserved.Between ∷ []) tb la (spaced_words n (codes "BETWEEN ")) (between_lexed n) lb)
    (spaced (codes "AND ")) and_lexed lc)

pub tree_lexed : (t : Tree) (l : ℕ) → IsReadTree t → Lexes (text_at l t) (tokens_at l t)
tree_lexed (int (pos n)) l is = enclosed_lexed l 8 _ _ (number_lexed n is)
tree_lexed (int (negsuc n)) l is = absurd is
tree_lexed (text s) l is = enclosed_lexed l 8 _ _ (string_lexed s)
tree_lexed (truth b) l is = enclosed_lexed l 8 _ _ (truth_lexed b)
tree_lexed (name x) l is = enclosed_lexed l 8 _ _ (name_lexed x is)
tree_lexed (minus a) l is = enclosed_lexed l 7 _ _ (lexes_before (codes "-") (text_at 7 a) (Minus ∷ []) (tokens_at 7 a) minus_lexed (tree_lexed a 7 is))
tree_lexed (plus a) l is = enclosed_lexed l 7 _ _ (lexes_before (codes "+") (text_at 7 a) (Plus ∷ []) (tokens_at 7 a) plus_lexed (tree_lexed a 7 is))
tree_lexed (math op a b) l is =
    enclosed_lexed l (math_level op) _ _
    (infix_lexed (text_at (math_level op) a) (math_sign op) (text_at (math_level op + 1) b) (tokens_at (math_level op) a) (math_token op ∷ []) (tokens_at (math_level op + 1) b)
    (tree_lexed a (math_level op) is.0) (math_starts op) (math_lexed op) (tree_lexed b (math_level op + 1) is.1))
tree_lexed (compare op a b) l is =
    enclosed_lexed l 4 _ _ (infix_lexed (text_at 5 a) (compare_sign op) (text_at 5 b) (tokens_at 5 a) (Compare op ∷ []) (tokens_at 5 b) (tree_lexed a 5 is.0) (compare_starts op) (compare_lexed op) (tree_lexed b 5 is.1))
tree_lexed (between n a b c) l is =
    enclosed_lexed l 4 _ _ (between_text_lexed n (text_at 5 a) (text_at 5 b) (text_at 5 c) (tokens_at 5 a) (tokens_at 5 b) (tokens_at 5 c) (tree_lexed a 5 is.0) (tree_lexed b 5 is.1) (tree_lexed c 5 is.2))
tree_lexed (one_of n x list) l is = enclosed_lexed l 4 _ _ (one_of_lexed n x list is)
tree_lexed (like n x p e) l is = enclosed_lexed l 4 _ _ (like_text_lexed n x p e is)
tree_lexed (is_null n x) l is =
    enclosed_lexed l 4 _ _ (lexes_same _ _ _ _ (sym (append_assoc x (codes " IS") (words n (codes " NULL")))) refl
    (lexes_after x (codes " IS" ++ words n (codes " NULL")) (Name x ∷ []) (Word reserved.Is ∷ negated_by n ++ Word reserved.Null ∷ []) (name_lexed x is) (spaced (codes "IS" ++ words n (codes " NULL"))) (is_null_lexed n)))
tree_lexed (negation a) l is = enclosed_lexed l 3 _ _ (lexes_before (codes "NOT ") (text_at 3 a) (Word reserved.Not ∷ []) (tokens_at 3 a) not_lexed (tree_lexed a 3 is))
tree_lexed (both a b) l is =
    enclosed_lexed l 2 _ _ (infix_lexed (text_at 2 a) (codes " AND ") (text_at 3 b) (tokens_at 2 a) (Word reserved.And ∷ []) (tokens_at 3 b) (tree_lexed a 2 is.0) (spaced (codes "AND ")) and_lexed (tree_lexed b 3 is.1))
tree_lexed (either a b) l is =
    enclosed_lexed l 1 _ _ (infix_lexed (text_at 1 a) (codes " OR ") (text_at 2 b) (tokens_at 1 a) (Word reserved.Or ∷ []) (tokens_at 2 b) (tree_lexed a 1 is.0) (spaced (codes "OR ")) or_lexed (tree_lexed b 2 is.1))

-- ---- a tree that some text stands for

all_parts : (ts us : List Token) → AllByRecursion IsReadToken (ts ++ us) → AllByRecursion IsReadToken ts × AllByRecursion IsReadToken us
all_parts [] us h = (tt, h)
all_parts (t ∷ ts) us h = let parts : AllByRecursion IsReadToken ts × AllByRecursion IsReadToken us = all_parts ts us h.1 in ((h.0, parts.0), parts.1)

-- around one token
sides : (ts us : List Token) (t : Token) → AllByRecursion IsReadToken (ts ++ t ∷ us) → AllByRecursion IsReadToken ts × AllByRecursion IsReadToken us
sides ts us t h = let parts : AllByRecursion IsReadToken ts × AllByRecursion IsReadToken (t ∷ us) = all_parts ts (t ∷ us) h in (parts.0, parts.1.1)

read_tree : {l d : ℕ} {ts : List Token} {t : Tree} → Derives l d ts t → AllByRecursion IsReadToken ts → IsReadTree t
read_tree (or_first d ts a h) all = read_tree h all
read_tree (or_more d ts us a b h k) all = (read_tree h (sides ts us (Word reserved.Or) all).0, read_tree k (sides ts us (Word reserved.Or) all).1)
read_tree (and_first d ts a h) all = read_tree h all
read_tree (and_more d ts us a b h k) all = (read_tree h (sides ts us (Word reserved.And) all).0, read_tree k (sides ts us (Word reserved.And) all).1)
read_tree (negated d ts a h) all = read_tree h all.1
read_tree (unnegated d ts a h) all = read_tree h all
read_tree (uncompared d ts a h) all = read_tree h all
read_tree (compared d op ts us a b h k) all = (read_tree h (sides ts us (Compare op) all).0, read_tree k (sides ts us (Compare op) all).1)
read_tree (within d n ts us vs a b c h k m) all =
    let outer : AllByRecursion IsReadToken (ts ++ negated_by n ++ Word reserved.Between ∷ us) × AllByRecursion IsReadToken vs = sides (ts ++ negated_by n ++ Word reserved.Between ∷ us) vs (Word reserved.And) all in
    let inner : AllByRecursion IsReadToken (ts ++ negated_by n) × AllByRecursion IsReadToken us = sides (ts ++ negated_by n) us (Word reserved.Between) outer.0 in
    (read_tree h (all_parts ts (negated_by n) inner.0).0, read_tree k inner.1, read_tree m outer.1)
read_tree (listed_in d n x s ss) all = all.0
read_tree (alike d n x p) all = all.0
read_tree (alike_escaped d n x p e c is closed) all = all.0
read_tree (null_or_not d n x) all = all.0
read_tree (sum_first d ts a h) all = read_tree h all
read_tree (added d ts us a b h k) all = (read_tree h (sides ts us Plus all).0, read_tree k (sides ts us Plus all).1)
read_tree (subtracted d ts us a b h k) all = (read_tree h (sides ts us Minus all).0, read_tree k (sides ts us Minus all).1)
read_tree (product_first d ts a h) all = read_tree h all
read_tree (multiplied d ts us a b h k) all = (read_tree h (sides ts us Times all).0, read_tree k (sides ts us Times all).1)
read_tree (divided d ts us a b h k) all = (read_tree h (sides ts us Divide all).0, read_tree k (sides ts us Divide all).1)
read_tree (signed_plus d ts a h) all = read_tree h all.1
read_tree (signed_minus d ts a h) all = read_tree h all.1
read_tree (unsigned d ts a h) all = read_tree h all
read_tree (a_number d n) all = all.0
read_tree (a_string d s) all = tt
read_tree (a_true d) all = tt
read_tree (a_false d) all = tt
read_tree (a_name d x) all = all.0
read_tree (in_parentheses d ts a h) all = read_tree h (all_parts ts (Close ∷ []) all.1).0

all_read : (s : List ℕ) → AllByRecursion IsReadToken (tokens (lexed s).tokens)
all_read s = subst (λ (c : Cut). AllByRecursion IsReadToken c.tokens) (sym (cut_is s 0 false 0)) (cuts_read s 0 false)

text_cut : (t : Tree) → IsReadTree t → cut_of (lexed (text_at 1 t)) ≡ record { tokens = tokens_at 1 t; fault = None }
unfolding cuts
text_cut t is =
    cut_is (text_at 1 t) 0 false 0
    ∙ ap (cuts 0 false) (sym (append-nil (text_at 1 t)))
    ∙ (tree_lexed t 1 is).cut [] at_end
    ∙ ap (λ (ts : List Token). let c : Cut = record { tokens = ts; fault = None } in c) (append-nil (tokens_at 1 t))

-- what some tokens of a text derive, its written text stands for
pub written_stands : (s : List ℕ) (t : Tree) → StandsFor s t → StandsFor (text_at 1 t) t
written_stands s t stands =
    let cut : cut_of (lexed (text_at 1 t)) ≡ record { tokens = tokens_at 1 t; fault = None } = text_cut t (read_tree stands.derived (all_read s)) in
    record {
      whole = ap (λ (c : Cut). c.fault) cut;
      derived = subst (λ (ts : List Token). Derives 1 most_nested ts t) (sym (ap (λ (c : Cut). c.tokens) cut)) (fewest_derive most_nested (tokens (lexed s).tokens) t stands.derived);
    }

pub writable_stands : (bytes : List ℕ) (t : Tree) → IsWritable t → bytes ≡ text_at 1 t → StandsFor bytes t
writable_stands bytes t writable e = subst (λ (s : List ℕ). StandsFor s t) (sym e) (written_stands writable.0 t writable.1.stands)
