-- Texts that are said in pieces.
use Rattle.std.proofs.Common.{◌≡◌, ℕ, zero, suc, ◌<◌, List, [], ◌∷◌, ◌++◌, length, take, drop, get_or, refl, ap, ◌∙◌, append_assoc, subst, arith}
use Rattle.std.specs.List.{flat_map}
use Rattle.std.specs.Prelude.{Option, Result, Ok, Err, IsErr}
use Rattle.outside_io.specs.Says.{Says}
use Rattle.outside_io.proofs.Says.{says_then, says_cut}

-- where saying a text failed, so has what passes the failure on
pub passed_on : {E : Type 0} (r : Result (Unit {0}) E) (e : E) (a b : Option (List ℕ)) (f g : ℕ) (xs : List ℕ) →
    IsErr r → Says {E = E} (Err e) a b f g xs → Says r a b f g xs
passed_on (Ok u) e a b f g xs err p = absurd (cc)
passed_on (Err d) e a b f g xs err p = p

-- some of a piece was said, and so of two
pub cut_second : {E : Type 0} (r : Result (Unit {0}) E) (e : E) (a b : Option (List ℕ)) (f g : ℕ) (xs ys : List ℕ) →
    IsErr r → Says {E = E} (Err e) a b f g xs → Says r a b f g (xs ++ ys)
cut_second r e a b f g xs ys err p = passed_on r e a b f g (xs ++ ys) err (says_cut e a b f g xs ys p)

-- two pieces were said, and then a third, or some of it
pub then_third : {E : Type 0} (u : Unit {0}) (r : Result (Unit {0}) E) (a b c : Option (List ℕ)) (f g h : ℕ) (xs ys zs : List ℕ) →
    Says {E = E} (Ok u) a b f g (xs ++ ys) → Says r b c g h zs → Says r a c f h (xs ++ (ys ++ zs))
then_third u r a b c f g h xs ys zs p q =
    let P : List ℕ → Type 0 = λ v. Says r a c f h v in
    subst P (append_assoc xs ys zs) (says_then u r a b c f g h (xs ++ ys) zs p q)

-- some of two pieces was said, and so of three
pub cut_third : {E : Type 0} (r : Result (Unit {0}) E) (e : E) (a b : Option (List ℕ)) (f g : ℕ) (xs ys zs : List ℕ) →
    IsErr r → Says {E = E} (Err e) a b f g (xs ++ ys) → Says r a b f g (xs ++ (ys ++ zs))
cut_third r e a b f g xs ys zs err p =
    let P : List ℕ → Type 0 = λ v. Says r a b f g v in
    subst P (append_assoc xs ys zs) (cut_second r e a b f g (xs ++ ys) zs err p)

-- three pieces were said, and then a fourth, or some of it
pub then_fourth : {E : Type 0} (u : Unit {0}) (r : Result (Unit {0}) E) (a b c : Option (List ℕ)) (f g h : ℕ) (ws xs ys zs : List ℕ) →
    Says {E = E} (Ok u) a b f g (ws ++ (xs ++ ys)) → Says r b c g h zs → Says r a c f h (ws ++ (xs ++ (ys ++ zs)))
then_fourth u r a b c f g h ws xs ys zs p q =
    let P : List ℕ → Type 0 = λ v. Says r a c f h (ws ++ v) in
    subst P (append_assoc xs ys zs) (then_third u r a b c f g h ws (xs ++ ys) zs p q)

-- some of three pieces was said, and so of four
pub cut_fourth : {E : Type 0} (r : Result (Unit {0}) E) (e : E) (a b : Option (List ℕ)) (f g : ℕ) (ws xs ys zs : List ℕ) →
    IsErr r → Says {E = E} (Err e) a b f g (ws ++ (xs ++ ys)) → Says r a b f g (ws ++ (xs ++ (ys ++ zs)))
cut_fourth r e a b f g ws xs ys zs err p =
    let P : List ℕ → Type 0 = λ v. Says r a b f g (ws ++ v) in
    subst P (append_assoc xs ys zs) (cut_third r e a b f g ws (xs ++ ys) zs err p)

-- Texts of a list's elements, one after another

all_of : {X : Type 0} (f : X → List ℕ) (xs : List X) (i : ℕ) (d : X) → i < length xs →
    flat_map f (take i xs) ++ (f (get_or xs i d) ++ flat_map f (drop (suc i) xs)) ≡ flat_map f xs
all_of f [] i d within = absurd (omega (arith, within))
all_of f (x ∷ xs) zero d within = refl
all_of f (x ∷ xs) (suc i) d within =
    append_assoc (f x) (flat_map f (take i xs)) (f (get_or xs i d) ++ flat_map f (drop (suc i) xs))
    ∙ ap (λ v. f x ++ v) (all_of f xs i d (omega (arith, within)))

-- the first elements were said, and some of the next, and so of all
pub cut_all : {E X : Type 0} (u : Unit {0}) (r : Result (Unit {0}) E) (e : E) (a b c : Option (List ℕ)) (n m o : ℕ)
    (f : X → List ℕ) (xs : List X) (i : ℕ) (d : X) → i < length xs → IsErr r →
    Says {E = E} (Ok u) a b n m (flat_map f (take i xs)) → Says {E = E} (Err e) b c m o (f (get_or xs i d)) →
    Says r a c n o (flat_map f xs)
cut_all u r e a b c n m o f xs i d within err p q =
    let P : List ℕ → Type 0 = λ v. Says r a c n o v in
    let rest : List ℕ = flat_map f (drop (suc i) xs) in
    subst P (all_of f xs i d within)
    (says_then u r a b c n m o (flat_map f (take i xs)) (f (get_or xs i d) ++ rest) p
    (cut_second r e b c m o (f (get_or xs i d)) rest err q))
