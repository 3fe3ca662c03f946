-- Reading many, one after the other, as a loop does.
use Rattle.std.proofs.Common.{◌≡◌, ℕ, suc, ◌-◌, ◌+◌, ◌≤◌, ◌<◌, List, [], ◌∷◌, ◌++◌, Result, Ok, Err, refl, sym, ap, ◌∙◌, append_assoc, arith}
use Rattle.std.proofs.lemmas.List.{append-nil}
use Rattle.message_core.specs.declared.numbers.ReadFault.{ReadFault}
use Rattle.message_core.specs.declared.numbers.ReadFault.TheVariants as read
use Rattle.message_core.specs.Reading.{Read, ◌>>=◌, Leaves}
use Rattle.journal_format.specs.Reading.{many_at}

-- what was read before, and what is still read
abbrev pub with_front : {A : Type 0} → List A → Read (List A) → Read (List A)
with_front front rest = rest >>= λ x. Ok (front ++ x.0, x.1)

regroup : {A : Type 0} (front : List A) (x : A) (rest : Read (List A)) → with_front front (rest >>= λ xs. Ok (x ∷ xs.0, xs.1)) ≡ with_front (front ++ x ∷ []) rest
regroup front x (Ok xs) = ap (λ (l : List _). Ok (l, xs.1)) (simp append_assoc)
regroup front x (Err f) = refl

pub goes_on : {A : Type 0} (one : List ℕ → Read A) (front : List A) (count i : ℕ) (bytes : List ℕ) (x : A) (after : List ℕ) (total : Read (List A)) → i < count → one bytes ≡ Ok (x, after)
    → with_front front (many_at one (count - i) bytes) ≡ total → with_front (front ++ x ∷ []) (many_at one (count - (i + 1)) after) ≡ total
unfolding many_at
goes_on one front count i bytes x after total lt read so_far =
    let k : count - i ≡ suc (count - (i + 1)) = omega arith in
    let same : with_front front (many_at one (count - i) bytes) ≡ with_front (front ++ x ∷ []) (many_at one (count - (i + 1)) after) = rw (k, read) (regroup front x (many_at one (count - (i + 1)) after)) in
    sym same ∙ so_far

pub ends : {A : Type 0} (one : List ℕ → Read A) (e : ReadFault) (front : List A) (count i : ℕ) (bytes : List ℕ) (total : Read (List A)) → i < count → Leaves e (one bytes)
    → with_front front (many_at one (count - i) bytes) ≡ total → Leaves e total
unfolding many_at
ends one read.NoMemory front count i bytes total lt fault so_far = tt
ends one (read.Left f) front count i bytes total lt fault so_far =
    let k : count - i ≡ suc (count - (i + 1)) = omega arith in
    let same : with_front front (many_at one (count - i) bytes) ≡ Err f = rw (k, fault) refl in
    sym so_far ∙ same

pub is_done : {A : Type 0} (one : List ℕ → Read A) (front : List A) (count i : ℕ) (bytes : List ℕ) (total : Read (List A)) → count ≤ i → with_front front (many_at one (count - i) bytes) ≡ total → total ≡ Ok (front, bytes)
unfolding many_at
is_done one front count i bytes total le so_far =
    let k : count - i ≡ 0 = omega arith in
    let same : with_front front (many_at one (count - i) bytes) ≡ Ok (front, bytes) = rw k (ap (λ (l : List _). Ok (l, bytes)) (append-nil front)) in
    sym so_far ∙ same

pub begins : {A : Type 0} (total : Read (List A)) → with_front [] total ≡ total
begins (Ok x) = refl
begins (Err f) = refl
