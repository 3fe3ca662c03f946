-- What a read gives of each transaction that was stored.
use Rattle.std.proofs.Common.{◌≡◌, ◌≤◌, ◌<◌, ◌+◌, ◌^◌, ℕ, List, [], ◌∷◌, ◌++◌, length, take, drop, sym, ap, ◌∙◌, subst, arith, append-nil}
use Rattle.std.proofs.lemmas.List.{take-take, drop-take}
use Rattle.std.specs.Prelude.{Option, Some, None, IfSome, min}
use Rattle.std.specs.List.{AllByRecursion, flat_map}
use Rattle.std.proofs.lemmas.List.Sums.{sum_by-cons}
use Rattle.outside_io.specs.Counts.{last_count}
use Rattle.journal_format.specs.Spelling.{Txn, txn_bytes, batch_bytes}
use Rattle.journal_format.proofs.BatchBytes.{batch_size}
use Rattle.journal_core.specs.Stands.{KeepsFront, Gives}
use Rattle.commit_table.specs.Outcomes.{Outcome, capped, stored_from}
use Rattle.commit_table.specs.Tale.{IsGiven}

pub each_append : {X : Type 0} (P : X → Type 0) (xs ys : List X) → AllByRecursion P xs → AllByRecursion P ys → AllByRecursion P (xs ++ ys)
each_append P [] ys a b = b
each_append P (x ∷ xs) ys a b = (a.0, each_append P xs ys a.1 b)

each_so : {X : Type 0} (P Q : X → Type 0) (xs : List X) → ((x : X) → P x → Q x) → AllByRecursion P xs → AllByRecursion Q xs
each_so P Q [] so a = tt
each_so P Q (x ∷ xs) so a = (so x a.0, each_so P Q xs so a.1)

-- bytes before the gate are the same
same_before : (gate at n : ℕ) (x y : List ℕ) → at + n ≤ gate → take gate y ≡ take gate x → take n (drop at y) ≡ take n (drop at x)
same_before gate at n x y le same =
    sym (drop-take at n y) ∙ ap (drop at) (sym (take-take (at + n) gate y le) ∙ (ap (take (at + n)) same ∙ take-take (at + n) gate x le)) ∙ drop-take at n x

given_at : (gate gate2 : ℕ) (x y : List ℕ) (bytes : List ℕ) (place : Option ℕ) → take gate y ≡ take gate x → gate ≤ gate2 → IfSome place (λ at. (at + length bytes ≤ gate) × Gives at bytes x) → IfSome place (λ at. (at + length bytes ≤ gate2) × Gives at bytes y)
given_at gate gate2 x y bytes None same le p = tt
given_at gate gate2 x y bytes (Some at) same le p = (omega (arith, p.0, le), same_before gate at (length bytes) x y p.0 same ∙ p.1)

-- what was given is given, where what a read gives before the gate stays and the gate doesn't go back
pub given_stays : (gate gate2 : ℕ) (old new : Option (List ℕ)) (os : List Outcome) → KeepsFront gate old new → IfSome new (λ y. gate ≤ gate2) → IfSome old (λ x. AllByRecursion (IsGiven gate x) os) → IfSome new (λ y. AllByRecursion (IsGiven gate2 y) os)
given_stays gate gate2 old None os front le p = tt
given_stays gate gate2 None (Some y) os front le p = absurd front
given_stays gate gate2 (Some x) (Some y) os front le p = each_so (IsGiven gate x) (IsGiven gate2 y) os (λ o q. given_at gate gate2 x y (txn_bytes o.txn) o.place front le q) p

-- with one transaction more, that was stored behind the gate
pub given_more : (gate gate2 : ℕ) (seen : Option (List ℕ)) (t : Txn) (os : List Outcome) → gate2 ≡ min (gate + (length (batch_bytes (t ∷ [])) + 1)) last_count → IfSome seen (λ y. gate2 < 2 ^ 63)
    → IfSome seen (Gives (gate + 13) (flat_map txn_bytes (t ∷ []))) → IfSome seen (λ y. AllByRecursion (IsGiven gate2 y) os) → IfSome seen (λ y. AllByRecursion (IsGiven gate2 y) (os ++ stored_from (capped (gate + 13)) (t ∷ [])))
given_more gate gate2 None t os is small gives p = tt
given_more gate gate2 (Some y) t os is small gives p =
    let size = batch_size (t ∷ []) in
    let one = sum_by-cons (λ (x : Txn). length (txn_bytes x)) t [] in
    let at : capped (gate + 13) ≡ gate + 13 = omega (arith, is, small, size, one) in
    let bytes : flat_map txn_bytes (t ∷ []) ≡ txn_bytes t = append-nil (txn_bytes t) in
    each_append (IsGiven gate2 y) os (stored_from (capped (gate + 13)) (t ∷ [])) p
    ((omega (arith, is, small, size, one, at), subst (λ (z : ℕ × List ℕ). Gives z.0 z.1 y) (λ i. (sym at i, bytes i)) gives), tt)
