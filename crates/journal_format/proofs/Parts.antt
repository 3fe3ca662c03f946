-- What is read is what was written, and what was written is read again: parts, and many after each other.
use Rattle.std.proofs.Common.{◌≡◌, ℕ, zero, suc, ◌+◌, ◌-◌, ◌<◌, ◌≤◌, Bool, true, false, cond, ltb, eqb, List, [], ◌∷◌, ◌++◌, length, get_or, take, drop, Result, Ok, Err, refl, sym, ap, subst, ◌∙◌, append_assoc, length-append, arith, inl, inr}
use Rattle.std.specs.Prelude.{◌&&◌}
use Rattle.std.specs.List.{flat_map, AllByRecursion}
use Rattle.std.proofs.lemmas.Bool.{cases_lt, eqb-true, ltb-false, le-ltb}
use Rattle.std.proofs.lemmas.List.{append-nil, nil_from_length, get_or_append_left, get_or-append-add, get_or_past}
use Rattle.std.proofs.lemmas.List.Concat.{flat_map-cons}
use Rattle.message_core.specs.Reading.{Read, ◌>>=◌, bytes_at}
use Rattle.message_core.proofs.Fields.{IsBytes, bind_ok, guard_ok, ok_is, Takes, Takes-then, bytes_takes, bytes_again}
use Rattle.journal_format.specs.Reading.{all_of, placed, part_at, many_at}

-- both tests held
pub both_true : (a b : Bool) → (a && b) ≡ true → (a ≡ true) × (b ≡ true)
both_true true true e = (refl, refl)
both_true true false e = absurd cc
both_true false b e = absurd cc

-- three appends, one after the other
pub put_three : (old a b c b1 b2 b3 : List ℕ) → b1 ≡ old ++ a → b2 ≡ b1 ++ b → b3 ≡ b2 ++ c → b3 ≡ old ++ (a ++ (b ++ c))
put_three old a b c b1 b2 b3 e1 e2 e3 =
    let grouped : ((old ++ a) ++ b) ++ c ≡ old ++ (a ++ (b ++ c)) = simp append_assoc in
    e3 ∙ ap (λ (l : List ℕ). l ++ c) e2 ∙ ap (λ (l : List ℕ). (l ++ b) ++ c) e1 ∙ grouped

-- four of them
pub put_four : (old a b c d b1 b2 b3 b4 : List ℕ) → b1 ≡ old ++ a → b2 ≡ b1 ++ b → b3 ≡ b2 ++ c → b4 ≡ b3 ++ d → b4 ≡ old ++ ((a ++ (b ++ c)) ++ d)
put_four old a b c d b1 b2 b3 b4 e1 e2 e3 e4 =
    let grouped : (old ++ (a ++ (b ++ c))) ++ d ≡ old ++ ((a ++ (b ++ c)) ++ d) = append_assoc old (a ++ (b ++ c)) d in
    e4 ∙ ap (λ (l : List ℕ). l ++ d) (put_three old a b c b1 b2 b3 e1 e2 e3) ∙ grouped

-- the front of bytes is bytes
pub IsBytes-front : (xs ys : List ℕ) → IsBytes (xs ++ ys) → IsBytes xs
IsBytes-front xs ys fits i =
    elim (cases_lt i (length xs)) [
      | inl lt ↦ subst (λ (n : ℕ). n < 256) (get_or_append_left xs ys 0 i lt) (fits i)
      | inr le ↦ rw (get_or_past xs i 0 le) (omega arith)
    ]

-- what stands behind bytes is bytes
pub IsBytes-behind : (xs ys : List ℕ) → IsBytes (xs ++ ys) → IsBytes ys
IsBytes-behind xs ys fits i = subst (λ (n : ℕ). n < 256) (get_or-append-add xs ys i 0) (fits (length xs + i))

-- ---- a part

-- what reading a part gives
pub record Part {A : Type 0} (whole : List ℕ → Result A ℕ) (len : ℕ) (bytes : List ℕ) (x : A) (rest : List ℕ) : Type 0 where
  pub part : List ℕ
  pub takes : Takes bytes part rest
  pub len_is : length part ≡ len
  pub fits : IsBytes part
  pub read : whole part ≡ Ok x

placed_ok : {A : Type 0} (size : ℕ) (rest : List ℕ) (r : Result A ℕ) (x : A × List ℕ) → placed size rest r ≡ Ok x → (r ≡ Ok x.0) × (rest ≡ x.1)
placed_ok size rest (Ok y) x e = (ap (λ (p : _ × List ℕ). Ok p.0) (ok_is (y, rest) x e), ap (λ (p : _ × List ℕ). p.1) (ok_is (y, rest) x e))
placed_ok size rest (Err at) x e = absurd cc

pub part_takes : {A : Type 0} (whole : List ℕ → Result A ℕ) (len : ℕ) (bytes : List ℕ) (x : A × List ℕ) → IsBytes bytes → part_at whole len bytes ≡ Ok x → Part whole len bytes x.0 x.1
unfolding part_at
part_takes whole len bytes x fits e =
    let a = bind_ok (bytes_at len bytes) (λ part. placed (length part.0) part.1 (whole part.0)) x e in
    let t = bytes_takes len bytes a.0 fits a.1 in
    let p = placed_ok (length a.0.0) a.0.1 (whole a.0.0) x a.2 in
    record {
      part = a.0.0;
      takes = subst (λ (rest : List ℕ). Takes bytes a.0.0 rest) p.1 t.0;
      len_is = t.1;
      fits = IsBytes-front a.0.0 a.0.1 (subst IsBytes t.0.parts fits);
      read = p.0;
    }

pub part_again : {A : Type 0} (whole : List ℕ → Result A ℕ) (part rest : List ℕ) (x : A) → whole part ≡ Ok x → part_at whole (length part) (part ++ rest) ≡ Ok (x, rest)
unfolding part_at
part_again whole part rest x read = rw (bytes_again part rest, read) refl

guarded : {A : Type 0} (b : Bool) (x y : A) (d : ℕ) → cond b (Ok x) (Err d) ≡ Ok y → (b ≡ true) × (x ≡ y)
guarded true x y d e = (refl, cc)
guarded false x y d e = absurd cc

-- nothing is left
pub all_ok : {A : Type 0} (size : ℕ) (r : Read A) (x : A) → all_of size r ≡ Ok x → r ≡ Ok (x, [])
all_ok size (Ok y) x e =
    let g = guarded (eqb (length y.1) 0) y.0 x (size - length y.1) e in
    let nothing : y.1 ≡ [] = nil_from_length y.1 (eqb-true _ _ g.0) in
    ap (λ (rest : List ℕ). Ok (y.0, rest)) nothing ∙ ap (λ (z : _). Ok (z, [])) g.1
all_ok size (Err left) x e = absurd cc

-- ---- many

-- what `one` reads is what `f` spells, and has P
abbrev pub Spells : {A : Type 0} → (List ℕ → Read A) → (A → List ℕ) → (A → Type 0) → Type 0
Spells {A = A} one f P = (bytes : List ℕ) (x : A × List ℕ) → IsBytes bytes → one bytes ≡ Ok x → Takes bytes (f x.0) x.1 × P x.0

-- what `f` spells of something that has P is read again
abbrev pub Rereads : {A : Type 0} → (List ℕ → Read A) → (A → List ℕ) → (A → Type 0) → Type 0
Rereads {A = A} one f P = (x : A) (rest : List ℕ) → P x → one (f x ++ rest) ≡ Ok (x, rest)

-- what reading many gives
pub record Many {A : Type 0} (f : A → List ℕ) (P : A → Type 0) (n : ℕ) (bytes : List ℕ) (xs : List A) (rest : List ℕ) : Type 0 where
  pub takes : Takes bytes (flat_map f xs) rest
  pub count : length xs ≡ n
  pub all : AllByRecursion P xs

pub many_takes : {A : Type 0} (one : List ℕ → Read A) (f : A → List ℕ) (P : A → Type 0) → Spells one f P → (n : ℕ) (bytes : List ℕ) (x : List A × List ℕ) → IsBytes bytes → many_at one n bytes ≡ Ok x → Many f P n bytes x.0 x.1
unfolding many_at
many_takes one f P spells zero bytes x fits e =
    subst (λ (y : List _ × List ℕ). Many f P 0 bytes y.0 y.1) (ok_is ([], bytes) x e) (record { takes = record { parts = refl; rest_fits = fits }; count = refl; all = tt })
many_takes one f P spells (suc n) bytes x fits e =
    let a = bind_ok (one bytes) (λ first. many_at one n first.1 >>= λ others. Ok (first.0 ∷ others.0, others.1)) x e in
    let b = bind_ok (many_at one n a.0.1) (λ others. Ok (a.0.0 ∷ others.0, others.1)) x a.2 in
    let first = spells bytes a.0 fits a.1 in
    let second = many_takes one f P spells n a.0.1 b.0 first.0.rest_fits b.1 in
    let both = Takes-then bytes (f a.0.0) a.0.1 (flat_map f b.0.0) b.0.1 first.0 second.takes in
    subst (λ (y : List _ × List ℕ). Many f P (suc n) bytes y.0 y.1) (ok_is (a.0.0 ∷ b.0.0, b.0.1) x b.2)
    (record { takes = rw flat_map-cons both; count = ap suc second.count; all = (first.1, second.all) })

pub many_again : {A : Type 0} (one : List ℕ → Read A) (f : A → List ℕ) (P : A → Type 0) → Rereads one f P → (xs : List A) (rest : List ℕ) → AllByRecursion P xs → many_at one (length xs) (flat_map f xs ++ rest) ≡ Ok (xs, rest)
unfolding many_at
many_again one f P rereads [] rest all = refl
many_again one f P rereads (x ∷ xs) rest all =
    let regrouped : flat_map f (x ∷ xs) ++ rest ≡ f x ++ (flat_map f xs ++ rest) = append_assoc (f x) (flat_map f xs) rest in
    rw (regrouped, rereads x (flat_map f xs ++ rest) all.0, many_again one f P rereads xs rest all.1) refl
