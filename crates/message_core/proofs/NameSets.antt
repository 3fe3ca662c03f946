-- sets of names, and lists of them
use Rattle.std.proofs.Common.{◌≡◌, ℕ, ◌+◌, ◌<◌, Bool, true, false, cond, List, [], ◌∷◌, ◌++◌, length, take, get_or, refl, sym, ap, ◌∙◌, arith, Some}
use Rattle.std.specs.Prelude.{◌||◌, slice_get}
use Rattle.std.specs.Ordering.{is_eq, nat_cmp}
use Rattle.std.specs.Cmp.{IsEquivalence}
use Rattle.std.specs.Cmp.Lexicographic.{slice_cmp}
use Rattle.std.specs.List.{list_any, IsDistinct}
use Rattle.std.specs.Str.{bytes_eq}
use Rattle.std.proofs.lemmas.Bool.Decides.{same_from_decides}
use Rattle.std.proofs.lemmas.List.{take_more, map_push, length-map, length-take, get_or-take, get_or-map, take-map}
use Rattle.std.proofs.lemmas.List.Folds.{list_any-append, Any-from_list_any}
use Rattle.std.proofs.lemmas.Option.{slice_get-get_or}
use Rattle.std.proofs.lemmas.Map.Text.{is_eq-slice_cmp}
use Rattle.std.proofs.lemmas.Slice.Eq.{bytes_eq-Decides}
use denote.Ref.{Bor}
use Rattle.message_core.specs.declared.headers.Header.{Header}
use Rattle.message_core.specs.Names.{is_among, HasDouble}
use Rattle.message_core.specs.Spelling.{names}

-- std's test of a key is the test of its bytes
pub has_is : (name : List ℕ) (keys : List (Bor (List ℕ))) → list_any (λ k. is_eq (slice_cmp nat_cmp name k.now)) keys ≡ list_any (λ k. bytes_eq name k.now) keys
has_is name [] = refl
has_is name (k ∷ ks) = rw (is_eq-slice_cmp name k.now, has_is name ks) refl

pub bytes_equiv : IsEquivalence bytes_eq
bytes_equiv = record {
  refl = λ x. (bytes_eq-Decides x x).1 refl;
  symm = λ x y. same_from_decides (bytes_eq x y) (bytes_eq y x) (bytes_eq-Decides x y) (λ e. sym ((bytes_eq-Decides y x).0 e), λ e. (bytes_eq-Decides y x).1 (sym e));
  congr = λ x y z e. ap (λ (w : List ℕ). bytes_eq w z) ((bytes_eq-Decides x y).0 e);
}

pub among_push : (q name : List ℕ) (ns : List (List ℕ)) → is_among q (ns ++ name ∷ []) ≡ (is_among q ns || bytes_eq q name)
among_push q name ns = grind (arith, list_any-append (bytes_eq q) ns (name ∷ []))

or_cond : (a b : Bool) → cond a true b ≡ (b || a)
or_cond true true = refl
or_cond true false = refl
or_cond false true = refl
or_cond false false = refl

-- the set with one more name
pub holds_more : (name : List ℕ) (old new : List (Bor (List ℕ))) (ns : List (List ℕ))
    → ((q : List ℕ) → list_any (λ k. bytes_eq q k.now) old ≡ is_among q ns)
    → ((q : Bor (List ℕ)) → list_any (λ k. is_eq (slice_cmp nat_cmp q.now k.now)) new ≡ cond (is_eq (slice_cmp nat_cmp name q.now)) true (list_any (λ k. is_eq (slice_cmp nat_cmp q.now k.now)) old))
    → (q : List ℕ) → list_any (λ k. bytes_eq q k.now) new ≡ is_among q (ns ++ name ∷ [])
holds_more name old new ns holds updates q =
    let k : Bor (List ℕ) = record { ref_ptr = (0, 0); now = q } in
    let found : list_any (λ k. is_eq (slice_cmp nat_cmp q k.now)) old ≡ is_among q ns = has_is q old ∙ holds q in
    let same : is_eq (slice_cmp nat_cmp name q) ≡ bytes_eq q name = is_eq-slice_cmp name q ∙ bytes_equiv.symm name q in
    sym (has_is q new) ∙ updates k ∙ rw (same, found) (or_cond (bytes_eq q name) (is_among q ns) ∙ sym (among_push q name ns))

pub distinct_none : IsDistinct bytes_eq []
unfolding IsDistinct
distinct_none = tt

pub names_more : (hs : List Header) (i : ℕ) (h : Header) → i < length hs → h ≡ get_or hs i h → names (take (i + 1) hs) ≡ names (take i hs) ++ h.name ∷ []
names_more hs i h lt is = ap names (take_more hs i h lt) ∙ map_push (λ h. h.name) (take i hs) (get_or hs i h) ∙ ap (λ (x : Header). names (take i hs) ++ x.name ∷ []) (sym is)

-- a name that stands among those before it makes a double
pub double_from : (hs : List Header) (i : ℕ) (h : Header) → i < length hs → h ≡ get_or hs i h → is_among h.name (names (take i hs)) ≡ true → HasDouble (names hs)
double_from hs i h lt is found =
    let any = Any-from_list_any (bytes_eq h.name) (names (take i hs)) found in
    let j = any.0 in
    let short : length (names (take i hs)) ≡ length (take i hs) = length-map (take i hs) (λ h. h.name) in
    let below : j < i = omega (arith, any.2, short, length-take i hs) in
    let same : h.name ≡ any.1 = (bytes_eq-Decides h.name any.1).0 any.4 in
    let first : slice_get (names hs) j ≡ Some any.1 = slice_get-get_or (names hs) j any.1 (omega (arith, below, lt, length-map hs (λ h. h.name))) ∙ ap Some (sym (get_or-take i (names hs) j any.1 below) ∙ ap (λ (xs : List (List ℕ)). get_or xs j any.1) (take-map (λ h. h.name) i hs) ∙ any.3) in
    let second : slice_get (names hs) i ≡ Some h.name = slice_get-get_or (names hs) i h.name (omega (arith, lt, length-map hs (λ h. h.name))) ∙ ap Some (get_or-map (λ h. h.name) hs i h h.name lt ∙ ap (λ (x : Header). x.name) (sym is)) in
    (j, i, below, omega (arith, lt, length-map hs (λ h. h.name)), first ∙ ap Some (sym same) ∙ sym second)
