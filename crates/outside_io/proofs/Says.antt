-- What was added and taken by several calls in a row.
use Rattle.std.proofs.Common.{ℕ, ◌+◌, ◌-◌, ◌≤◌, List, ◌++◌, length, take, drop, ap, sym, ◌∙◌, append_assoc, arith, length-append, length-drop, subst}
use Rattle.std.proofs.Math.Seq.{take-add, take-append-add}
use Rattle.std.proofs.lemmas.List.{take_rest, take-append-le}
use Rattle.std.specs.Prelude.{Option, Some, None, Result, Ok, Err}
use Rattle.outside_io.specs.Told.{Adds, Takes}
use Rattle.outside_io.specs.Says.{Says}

-- what two calls in a row added
pub adds_then : (a b c : Option (List ℕ)) (xs ys : List ℕ) → Adds a b xs → Adds b c ys → Adds a c (xs ++ ys)
adds_then a b None xs ys p q = tt
adds_then a None (Some z) xs ys p q = absurd q
adds_then None (Some y) (Some z) xs ys p q = absurd p
adds_then (Some x) (Some y) (Some z) xs ys p q = q ∙ ap (λ v. v ++ ys) p ∙ append_assoc x xs ys

-- what two calls in a row took
pub takes_then : (a b c : Option (List ℕ)) (xs ys : List ℕ) → Takes a b xs → Takes b c ys → Takes a c (xs ++ ys)
takes_then a b None xs ys p q = tt
takes_then a None (Some z) xs ys p q = absurd q
takes_then None (Some y) (Some z) xs ys p q = absurd p
takes_then (Some x) (Some y) (Some z) xs ys p q = p ∙ ap (λ v. xs ++ v) q ∙ sym (append_assoc xs ys z)

-- a front of the second text is, behind the first, a front of both
front_of_both : (a b c : Option (List ℕ)) (xs ys : List ℕ) (n : ℕ) → n ≤ length ys → Adds a b xs → Adds b c (take n ys)
    → (m : ℕ) × (m ≤ length (xs ++ ys)) × Adds a c (take m (xs ++ ys))
front_of_both a b c xs ys n within p q = (
  length xs + n,
  omega (arith, length-append xs ys),
  let P : List ℕ → Type 0 = λ v. Adds a c v in
      subst P (sym (take-append-add xs ys n)) (adds_then a b c xs (take n ys) p q),
)

-- where writing a text failed, writing that text and more has failed
pub says_cut : {E : Type 0} (e : E) (a b : Option (List ℕ)) (f g : ℕ) (xs ys : List ℕ)
    → Says {E = E} (Err e) a b f g xs → Says {E = E} (Err e) a b f g (xs ++ ys)
says_cut e a b f g xs ys p =
    let P : List ℕ → Type 0 = λ v. Adds a b v in
    (p.0, (p.1.0, omega (arith, p.1.1, length-append xs ys), subst P (sym (take-append-le p.1.0 xs ys p.1.1)) p.1.2))

-- where a text was written and then another, or a front of it, that is how both texts together were
pub says_then : {E : Type 0} (u : Unit {0}) (r : Result (Unit {0}) E) (a b c : Option (List ℕ)) (f g h : ℕ) (xs ys : List ℕ) →
    Says {E = E} (Ok u) a b f g xs → Says r b c g h ys → Says r a c f h (xs ++ ys)
says_then u (Ok v) a b c f g h xs ys p q = (adds_then a b c xs ys p.0 q.0, omega (arith, p.1, q.1))
says_then u (Err e) a b c f g h xs ys p q =
    (omega (arith, p.1, q.0), front_of_both a b c xs ys q.1.0 q.1.1 p.0 q.1.2)

-- what one more call added, of the bytes from `at` on
pub adds_more : (a b c : Option (List ℕ)) (bytes : List ℕ) (at n : ℕ) → Adds a b (take at bytes)
    → Adds b c (take n (take (length bytes - at) (drop at bytes))) → Adds a c (take (at + n) bytes)
adds_more a b c bytes at n p q =
    let P : List ℕ → Type 0 = λ v. Adds b c (take n v) in
    let R : List ℕ → Type 0 = λ v. Adds a c v in
    subst R (sym (take-add at n bytes))
    (adds_then a b c (take at bytes) (take n (drop at bytes)) p (subst P (take_rest bytes at) q))

-- a count of the bytes from `at` on stays within all of them
pub within_rest : (bytes : List ℕ) (at n : ℕ) → at ≤ length bytes
    → n ≤ length (take (length bytes - at) (drop at bytes)) → at + n ≤ length bytes
within_rest bytes at n h p = omega (arith, ap length (take_rest bytes at), length-drop at bytes)
