-- Sets of keys.
use Rattle.std.proofs.Common.{◌≡◌, ℕ, ◌<◌, Bool, true, false, cond, eqb, ltb, List, [], ◌∷◌, refl, ◌∙◌, sym, ap, arith}
use Rattle.std.specs.Prelude.{◌||◌, ◌&&◌}
use Rattle.std.specs.declared.cmp.Ordering.{Ordering}
use Rattle.std.specs.declared.cmp.Ordering.TheVariants.{Less, Equal, Greater}
use Rattle.std.specs.List.{list_any}
use Rattle.std.specs.Ordering.{is_eq, nat_cmp, ordering_then}
use Rattle.std.specs.Cmp.Lexicographic.{slice_cmp}
use Rattle.std.specs.BTreeSet.{BTreeSet, contains_by}
use Rattle.std.specs.BTreeMap.{is_at}
use Rattle.std.proofs.lemmas.Bool.{ltb-true, eqb-true}
use Rattle.std.proofs.lemmas.Map.Text.{is_eq-slice_cmp}
use Rattle.recover_core.specs.contracts.keys.KeyOrd.TheImpl as key_ord
use Rattle.recover_core.specs.declared.keys.Key.{Key}
use Rattle.recover_core.specs.Passed.{has, is_same}

then_eq : (lt eq : Bool) (y : Ordering) → (lt ≡ true → eq ≡ false) → is_eq (ordering_then (cond lt Less (cond eq Equal Greater)) y) ≡ (eq && is_eq y)
then_eq true eq y apart = ap (λ (b : Bool). b && is_eq y) (sym (apart refl))
then_eq false true y apart = refl
then_eq false false y apart = refl

false_from : (b : Bool) → (b ≡ true → ⊥) → b ≡ false
false_from true refuted = absurd (refuted refl)
false_from false refuted = refl

apart : (a b : ℕ) → ltb a b ≡ true → eqb a b ≡ false
apart a b lt = false_from (eqb a b) (λ same. let below : a < b = ltb-true a b lt in let is : a ≡ b = eqb-true a b same in absurd (omega arith))

-- the order's test of a key is the test of its parts
pub at_is : (a b : Key) → is_at (key_ord.cmp-value.it a) b ≡ is_same a b
at_is a b = then_eq (ltb a.id b.id) (eqb a.id b.id) (slice_cmp nat_cmp a.queue.items b.queue.items) (apart a.id b.id) ∙ ap (λ (x : Bool). eqb a.id b.id && x) (is_eq-slice_cmp a.queue.items b.queue.items)

any_is : (k : Key) (keys : List Key) → list_any (λ x. is_at (key_ord.cmp-value.it k) x) keys ≡ list_any (is_same k) keys
any_is k [] = refl
any_is k (x ∷ keys) = λ i. at_is k x i || any_is k keys i

-- the set's own test
pub has_is : (set : BTreeSet Key) (k : Key) → contains_by (key_ord.cmp-value.it k) set ≡ has set k
has_is set k = any_is k set.keys

pub or_cond : (a b : Bool) → cond a true b ≡ (a || b)
or_cond true b = refl
or_cond false b = refl
