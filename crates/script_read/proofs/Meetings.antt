-- members that are met one after the other, and what stands for a field then
use Rattle.std.proofs.Common.{◌≡◌, ℕ, List, [], ◌∷◌, ◌++◌, Bool, true, false, cond, Option, Some, None, String, Global, Ordering, nat_cmp, refl, sym, ap, ◌∙◌}
use Rattle.std.specs.Prelude.{string_bytes}
use Rattle.std.specs.Cmp.Lexicographic.{slice_cmp}
use Rattle.std.specs.Ordering.{is_eq, match_ordering}
use Rattle.std.specs.declared.cmp.Ordering.TheVariants.{Less, Equal, Greater}
use Rattle.std.specs.Str.{bytes_eq}
use Rattle.std.proofs.lemmas.Cmp.{nat_list_eq_equiv}
use Rattle.std.proofs.lemmas.Map.Text.{is_eq-slice_cmp}
use Rattle.serde_json.specs.Data.{Data}
use Rattle.serde_json.specs.Find.{get_member}
use Rattle.serde_json.specs.View.{view, members_view}
use Rattle.serde_json.specs.declared.value.Value.{Value}
use Rattle.script_read.specs.Meetings.{first_met, met}

same_twice : (b : Bool) (d x : Data) → Some d ≡ cond b (first_met x (Some d)) (Some d)
same_twice true d x = refl
same_twice false d x = refl

-- the last member of a list, which has no other
met_alone : (o : Ordering) (x : Data) → match_ordering o None (Some x) None ≡ cond (is_eq o) (Some x) None
met_alone Less x = refl
met_alone Equal x = refl
met_alone Greater x = refl

-- one more behind another
met_behind : (o : Ordering) (b : Bool) (d x : Data) (rest more : Option Data) → more ≡ cond b (first_met x rest) rest → match_ordering o more (Some d) more ≡ cond b (first_met x (match_ordering o rest (Some d) rest)) (match_ordering o rest (Some d) rest)
met_behind Less b d x rest more is = is
met_behind Equal b d x rest more is = same_twice b d x
met_behind Greater b d x rest more is = is

-- what stands for a field once one more member was met
pub one_met : (k : List ℕ) (es : List (String Global × Value)) (e : String Global × Value) → get_member k (members_view (es ++ e ∷ [])) ≡ met k (string_bytes e.0) (view e.1) (get_member k (members_view es))
one_met k [] e =
    met_alone (slice_cmp nat_cmp k (string_bytes e.0)) (view e.1)
    ∙ ap (λ (b : Bool). cond b (Some (view e.1)) None) (is_eq-slice_cmp k (string_bytes e.0) ∙ nat_list_eq_equiv.symm k (string_bytes e.0))
one_met k (f ∷ es) e = met_behind (slice_cmp nat_cmp k (string_bytes f.0)) (bytes_eq (string_bytes e.0) k) (view f.1) (view e.1) (get_member k (members_view es)) _ (one_met k es e)

-- what stands for a field is the member of its name, after one more as before
pub met_more : (k : List ℕ) (es : List (String Global × Value)) (e : String Global × Value) (name : List ℕ) (before after : Option Data) → after ≡ met k name (view e.1) before → name ≡ string_bytes e.0 → before ≡ get_member k (members_view es) → after ≡ get_member k (members_view (es ++ e ∷ []))
met_more k es e name before after is named so_far =
    is
    ∙ ap (λ (n : List ℕ). met k n (view e.1) before) named
    ∙ ap (λ (o : Option Data). met k (string_bytes e.0) (view e.1) o) so_far
    ∙ sym (one_met k es e)
