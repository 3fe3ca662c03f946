-- entries in hands, as lines change them
use Rattle.std.proofs.Common.{◌≡◌, ◌⊎◌, inl, inr, ℕ, zero, suc, ◌-◌, Bool, true, false, cond, not, Option, Some, None, List, [], ◌∷◌, ◌++◌, length, filter, find, slice_get, refl, sym, ap, ◌∙◌, subst, eq-eqb}
use Rattle.line_core.specs.Hands.{Hand, is_of, is_this, meant, gained, replaced, lost}

-- the entry is in the hands
abbrev pub In : Hand → List Hand → Type 0
In k [] = ⊥
In k (j ∷ js) = (j ≡ k) ⊎ In k js

-- Lists

-- entries of lists in parts
in_front : (k : Hand) (xs ys : List Hand) → In k xs → In k (xs ++ ys)
in_front k [] ys is = absurd is
in_front k (x ∷ xs) ys (inl e) = inl e
in_front k (x ∷ xs) ys (inr is) = inr (in_front k xs ys is)

in_last : (k : Hand) (xs : List Hand) → In k (xs ++ k ∷ [])
in_last k [] = inl refl
in_last k (x ∷ xs) = inr (in_last k xs)

in_push : (k y : Hand) (xs : List Hand) → In k (xs ++ y ∷ []) → In k xs ⊎ (y ≡ k)
in_push k y [] (inl e) = inr e
in_push k y [] (inr is) = absurd is
in_push k y (x ∷ xs) (inl e) = inl (inl e)
in_push k y (x ∷ xs) (inr is) = behind (in_push k y xs is) where
  behind : In k xs ⊎ (y ≡ k) → In k (x ∷ xs) ⊎ (y ≡ k)
  behind (inl there) = inl (inr there)
  behind (inr e) = inr e

-- entries that pass
pub in_filter : (t : Hand → Bool) (k : Hand) (xs : List Hand) → In k (filter t xs) → In k xs × (t k ≡ true)
in_filter t k [] is = absurd is
in_filter t k (x ∷ xs) is = by_test (t x) refl is (in_filter t k xs) where
  by_test : (b : Bool) → t x ≡ b → In k (cond b (x ∷ filter t xs) (filter t xs)) → (In k (filter t xs) → In k xs × (t k ≡ true)) → In k (x ∷ xs) × (t k ≡ true)
  by_test true e (inl same) others = (inl same, ap t (sym same) ∙ e)
  by_test true e (inr there) others = (inr (others there).0, (others there).1)
  by_test false e there others = (inr (others there).0, (others there).1)

filter_in : (t : Hand → Bool) (k : Hand) (xs : List Hand) → In k xs → t k ≡ true → In k (filter t xs)
filter_in t k [] is passes = absurd is
filter_in t k (x ∷ xs) (inl same) passes = subst (λ (b : Bool). In k (cond b (x ∷ filter t xs) (filter t xs))) (sym (ap t same ∙ passes)) (inl same)
filter_in t k (x ∷ xs) (inr there) passes = by_test (t x) (filter_in t k xs there passes) where
  by_test : (b : Bool) → In k (filter t xs) → In k (cond b (x ∷ filter t xs) (filter t xs))
  by_test true rest = inr rest
  by_test false rest = rest

-- what is found is there
find_in : (t : Hand → Bool) (k : Hand) (xs : List Hand) → find t xs ≡ Some k → In k xs
find_in t k [] found = absurd (cc)
find_in t k (x ∷ xs) found = by_test (t x) found (find_in t k xs) where
  by_test : (b : Bool) → cond b (Some x) (find t xs) ≡ Some k → (find t xs ≡ Some k → In k xs) → In k (x ∷ xs)
  by_test true found others = let same : x ≡ k = (cc) in inl same
  by_test false found others = inr (others found)

pub get_in : (k : Hand) (xs : List Hand) (i : ℕ) → slice_get xs i ≡ Some k → In k xs
get_in k [] i found = absurd (cc)
get_in k (x ∷ xs) zero found = let same : x ≡ k = (cc) in inl same
get_in k (x ∷ xs) (suc i) found = inr (get_in k xs i found)

-- what a line means is in the hands
pub meant_in : (q : ℕ) (named : Option ℕ) (hands : List Hand) (k : Hand) → meant q named hands ≡ Some k → In k hands
meant_in q (Some id) hands k is = find_in (is_this q id) k hands is
meant_in q None hands k is = (in_filter (is_of q) k hands (get_in k (filter (is_of q) hands) (length (filter (is_of q) hands) - 1) is)).0

-- an entry is itself
pub is_itself : (k : Hand) → is_this k.queue k.id k ≡ true
is_itself k = rw (eq-eqb k.queue k.queue refl) (eq-eqb k.id k.id refl)

-- Changes

-- The hands changed in the entry of this queue and id alone: any of that kind went, and a new one came perhaps.
pub record Moves (q id : ℕ) (new : Option Hand) (hands hands' : List Hand) : Type 0 where
  pub was : (k : Hand) → In k hands' → (new ≡ Some k) ⊎ (In k hands × (is_this q id k ≡ false))
  pub stays : (k : Hand) → In k hands → is_this q id k ≡ false → In k hands'
  pub comes : (k : Hand) → new ≡ Some k → In k hands'

-- what is not true is false
not_false : (b : Bool) → not b ≡ true → b ≡ false
not_false true e = absurd (cc)
not_false false e = refl

-- an entry that went
pub lost_moves : (k : Hand) (hands : List Hand) → Moves k.queue k.id None hands (lost k hands)
lost_moves k hands =
    let t : Hand → Bool = λ j. not (is_this k.queue k.id j) in
    record {
      was = λ j is. let old = in_filter t j hands is in inr (old.0, not_false (is_this k.queue k.id j) old.1);
      stays = λ j is other. filter_in t j hands is (ap not other);
      comes = λ j e. absurd (cc);
    }

-- an entry that came
pub gained_moves : (k : Hand) (hands : List Hand) → Moves k.queue k.id (Some k) hands (gained k hands)
gained_moves k hands =
    let t : Hand → Bool = λ j. not (is_this k.queue k.id j) in
    record {
      was = was t;
      stays = λ j is other. in_front j (filter t hands) (k ∷ []) (filter_in t j hands is (ap not other));
      comes = λ j e. let same : k ≡ j = (cc) in subst (λ (x : Hand). In x (filter t hands ++ k ∷ [])) same (in_last k (filter t hands));
    }
  where
    was : (t : Hand → Bool) (j : Hand) → In j (filter (λ x. not (is_this k.queue k.id x)) hands ++ k ∷ []) → (Some k ≡ Some j) ⊎ (In j hands × (is_this k.queue k.id j ≡ false))
    was t j is = by_place (in_push j k (filter (λ x. not (is_this k.queue k.id x)) hands) is) where
      by_place : In j (filter (λ x. not (is_this k.queue k.id x)) hands) ⊎ (k ≡ j) → (Some k ≡ Some j) ⊎ (In j hands × (is_this k.queue k.id j ≡ false))
      by_place (inl there) = let old = in_filter (λ x. not (is_this k.queue k.id x)) j hands there in inr (old.0, not_false (is_this k.queue k.id j) old.1)
      by_place (inr same) = inl (ap (λ (x : Hand). Some x) same)

-- one of the entry was there
replaced_was : (n k : Hand) (hands : List Hand) → In k (replaced n hands) → (Some n ≡ Some k) ⊎ (In k hands × (is_this n.queue n.id k ≡ false))
replaced_was n k [] is = absurd is
replaced_was n k (j ∷ js) is = by_test (is_this n.queue n.id j) refl is (replaced_was n k js) where
  more : (Some n ≡ Some k) ⊎ (In k js × (is_this n.queue n.id k ≡ false)) → (Some n ≡ Some k) ⊎ (In k (j ∷ js) × (is_this n.queue n.id k ≡ false))
  more (inl e) = inl e
  more (inr old) = inr (inr old.0, old.1)

  by_test : (b : Bool) → is_this n.queue n.id j ≡ b → (cond b n j ≡ k) ⊎ In k (replaced n js) → (In k (replaced n js) → (Some n ≡ Some k) ⊎ (In k js × (is_this n.queue n.id k ≡ false)))
      → (Some n ≡ Some k) ⊎ (In k (j ∷ js) × (is_this n.queue n.id k ≡ false))
  by_test true e (inl same) others = inl (ap (λ (x : Hand). Some x) same)
  by_test false e (inl same) others = inr (inl same, ap (is_this n.queue n.id) (sym same) ∙ e)
  by_test b e (inr there) others = more (others there)

replaced_stays : (n k : Hand) (hands : List Hand) → In k hands → is_this n.queue n.id k ≡ false → In k (replaced n hands)
replaced_stays n k [] is other = absurd is
replaced_stays n k (j ∷ js) (inl same) other = inl (ap (λ (b : Bool). cond b n j) (ap (is_this n.queue n.id) same ∙ other) ∙ same)
replaced_stays n k (j ∷ js) (inr there) other = inr (replaced_stays n k js there other)

replaced_comes : (n j : Hand) (hands : List Hand) → In j hands → is_this n.queue n.id j ≡ true → In n (replaced n hands)
replaced_comes n j [] is this = absurd is
replaced_comes n j (x ∷ xs) (inl same) this = inl (ap (λ (b : Bool). cond b n x) (ap (is_this n.queue n.id) same ∙ this))
replaced_comes n j (x ∷ xs) (inr there) this = inr (replaced_comes n j xs there this)

-- an entry that is now so
pub replaced_moves : (n j : Hand) (hands : List Hand) → In j hands → is_this n.queue n.id j ≡ true → Moves n.queue n.id (Some n) hands (replaced n hands)
replaced_moves n j hands there this = record {
  was = λ k is. replaced_was n k hands is;
  stays = λ k is other. replaced_stays n k hands is other;
  comes = λ k e. let same : n ≡ k = (cc) in subst (λ (x : Hand). In x (replaced n hands)) same (replaced_comes n j hands there this);
}
