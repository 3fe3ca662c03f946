-- Reading headers one after the other, as a loop does.
use Rattle.std.proofs.Common.{◌≡◌, ℕ, suc, ◌-◌, ◌+◌, ◌≤◌, ◌<◌, List, [], ◌∷◌, ◌++◌, Result, Ok, Err, refl, sym, ap, ◌∙◌, append_assoc, arith}
use Rattle.std.proofs.lemmas.List.{append-nil, map_push}
use Rattle.message_core.specs.declared.headers.Header.{Header}
use Rattle.message_core.specs.declared.numbers.ReadFault.{ReadFault}
use Rattle.message_core.specs.declared.numbers.ReadFault.TheVariants as read
use Rattle.message_core.specs.Spelling.{names}
use Rattle.message_core.specs.Reading.{◌>>=◌, Leaves, header_at, headers_at}

-- what was read before, and what is still read
abbrev pub with_front : List Header → Result (List Header × List ℕ) ℕ → Result (List Header × List ℕ) ℕ
with_front front rest = rest >>= λ x. Ok (front ++ x.0, x.1)

regroup : (front : List Header) (h : Header) (rest : Result (List Header × List ℕ) ℕ) → with_front front (rest >>= λ x. Ok (h ∷ x.0, x.1)) ≡ with_front (front ++ h ∷ []) rest
regroup front h (Ok x) = ap (λ (hs : List Header). Ok (hs, x.1)) (simp append_assoc)
regroup front h (Err f) = refl

pub names_push : (front : List Header) (h : Header) → names (front ++ h ∷ []) ≡ names front ++ h.name ∷ []
names_push front h = map_push (λ h. h.name) front h

pub goes_on : (front : List Header) (count i : ℕ) (bytes : List ℕ) (h : Header) (after : List ℕ) (total : Result (List Header × List ℕ) ℕ) → i < count → header_at (names front) bytes ≡ Ok (h, after)
    → with_front front (headers_at (count - i) (names front) bytes) ≡ total → with_front (front ++ h ∷ []) (headers_at (count - (i + 1)) (names (front ++ h ∷ [])) after) ≡ total
unfolding headers_at
goes_on front count i bytes h after total lt one so_far =
    let k : count - i ≡ suc (count - (i + 1)) = omega arith in
    let same : with_front front (headers_at (count - i) (names front) bytes) ≡ with_front (front ++ h ∷ []) (headers_at (count - (i + 1)) (names (front ++ h ∷ [])) after) = rw (k, one, names_push front h) (regroup front h (headers_at (count - (i + 1)) (names front ++ h.name ∷ []) after)) in
    sym same ∙ so_far

pub ends : (e : ReadFault) (front : List Header) (count i : ℕ) (bytes : List ℕ) (total : Result (List Header × List ℕ) ℕ) → i < count → Leaves e (header_at (names front) bytes)
    → with_front front (headers_at (count - i) (names front) bytes) ≡ total → Leaves e total
unfolding headers_at
ends read.NoMemory front count i bytes total lt one so_far = tt
ends (read.Left f) front count i bytes total lt one so_far =
    let k : count - i ≡ suc (count - (i + 1)) = omega arith in
    let same : with_front front (headers_at (count - i) (names front) bytes) ≡ Err f = rw (k, one) refl in
    sym so_far ∙ same

pub is_done : (front : List Header) (count i : ℕ) (bytes : List ℕ) (total : Result (List Header × List ℕ) ℕ) → count ≤ i → with_front front (headers_at (count - i) (names front) bytes) ≡ total → total ≡ Ok (front, bytes)
unfolding headers_at
is_done front count i bytes total le so_far =
    let k : count - i ≡ 0 = omega arith in
    let same : with_front front (headers_at (count - i) (names front) bytes) ≡ Ok (front, bytes) = rw k (ap (λ (hs : List Header). Ok (hs, bytes)) (append-nil front)) in
    sym so_far ∙ same

pub begins : (total : Result (List Header × List ℕ) ℕ) → with_front [] total ≡ total
begins (Ok x) = refl
begins (Err f) = refl
