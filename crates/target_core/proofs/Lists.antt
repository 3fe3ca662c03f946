-- lists of targets that are put into places, and taken out of them
use Rattle.std.proofs.Common.{◌≡◌, ℕ, zero, suc, ◌+◌, ◌<◌, ◌≤◌, List, [], ◌∷◌, ◌++◌, length, map, drop, slice_set, get_or, Option, Some, None, refl, sym, ◌∙◌, ap, arith, append_assoc, append-nil, add-one, drop-cons}
use Rattle.std.specs.List.{flat_map}
use Rattle.std.specs.Option.{option_map, option_to_list}
use Rattle.std.proofs.lemmas.List.{map-append, drop_all}
use Rattle.target_core.specs.Seats.{Seat, standing, all_of}

-- what stands behind a written place, and in it
drop-set : {A : Type 0} (xs : List A) (k : ℕ) (y : A) → k < length xs → drop k (slice_set xs k y) ≡ y ∷ drop (suc k) xs
drop-set [] k y within = absurd (omega arith)
drop-set (x ∷ xs) zero y within = refl
drop-set (x ∷ xs) (suc k) y within = let w : k < length xs = omega arith in drop-set xs k y w

behind-set : {A : Type 0} (xs : List A) (k : ℕ) (y : A) → drop (suc k) (slice_set xs k y) ≡ drop (suc k) xs
behind-set [] k y = refl
behind-set (x ∷ xs) zero y = refl
behind-set (x ∷ xs) (suc k) y = behind-set xs k y

-- the last target of a list is put into the place before those that are filled
pub filled : {A : Type 0} (some fewer : List A) (slots : List (Option A)) (i k : ℕ) (last : Option A) → k + 1 ≡ i → i ≤ length slots → length some ≡ i → length fewer + length (option_to_list last) ≡ i → length fewer ≡ k → some ≡ fewer ++ option_to_list last → map Some fewer ++ drop k (slice_set slots k last) ≡ map Some some ++ drop i slots
filled some fewer slots i k None next fits full sum less parts = absurd (omega arith)
filled some fewer slots i k (Some t) next fits full sum less parts =
    let within : k < length slots = omega arith in
    let all : map Some some ≡ map Some fewer ++ (Some t ∷ []) = ap (map Some) parts ∙ map-append Some fewer (t ∷ []) in
    ap (λ xs. map Some fewer ++ xs) (drop-set slots k (Some t) within)
    ∙ sym (append_assoc (map Some fewer) (Some t ∷ []) (drop (suc k) slots))
    ∙ ap (λ xs. xs ++ drop (suc k) slots) (sym all)
    ∙ ap (λ n. map Some some ++ drop n slots) (sym (add-one k) ∙ next)

-- places that are all filled
pub all_filled : {A : Type 0} (f : A → Seat) (ts : List A) → map (option_map f) (map Some ts) ≡ all_of (map f ts)
all_filled f [] = refl
all_filled f (t ∷ ts) = ap (λ xs. Some (f t) ∷ xs) (all_filled f ts)

-- the target in the next place, if one stands there, is put behind those before it
pub emptied : {A : Type 0} (kept more : List A) (slots : List (Option A)) (i : ℕ) (x y : Option A) → i < length slots → x ≡ get_or slots i x → more ≡ kept ++ option_to_list x → more ++ flat_map option_to_list (drop (i + 1) (slice_set slots i y)) ≡ kept ++ flat_map option_to_list (drop i slots)
emptied kept more slots i x y within read parts =
    let behind : drop (i + 1) (slice_set slots i y) ≡ drop (suc i) slots = ap (λ n. drop n (slice_set slots i y)) (add-one i) ∙ behind-set slots i y in
    let here : drop i slots ≡ x ∷ drop (suc i) slots = drop-cons slots i x within ∙ ap (λ z. z ∷ drop (suc i) slots) (sym read) in
    ap (λ xs. more ++ flat_map option_to_list xs) behind
    ∙ ap (λ m. m ++ flat_map option_to_list (drop (suc i) slots)) parts
    ∙ append_assoc kept (option_to_list x) (flat_map option_to_list (drop (suc i) slots))
    ∙ ap (λ xs. kept ++ flat_map option_to_list xs) (sym here)

-- the targets that stand, with what contracts see of each
pub standing_of : {A : Type 0} (f : A → Seat) (slots : List (Option A)) → map f (flat_map option_to_list slots) ≡ standing (map (option_map f) slots)
standing_of f [] = refl
standing_of f (None ∷ slots) = standing_of f slots
standing_of f (Some t ∷ slots) = ap (λ xs. f t ∷ xs) (standing_of f slots)

-- all places are filled, and no target is left
pub placed : {A : Type 0} (f : A → Seat) (left ts : List A) (slots : List (Option A)) (i : ℕ) → i ≤ 0 → length left ≡ i → map Some left ++ drop i slots ≡ map Some ts → map (option_map f) slots ≡ all_of (map f ts)
placed f [] ts slots zero none empty parts = ap (map (option_map f)) parts ∙ all_filled f ts
placed f [] ts slots (suc i) none empty parts = absurd (omega arith)
placed f (t ∷ left) ts slots i none empty parts = absurd (omega arith)

-- no place is left, and all targets are put back
pub put_all_back : {A : Type 0} (f : A → Seat) (kept : List A) (slots all : List (Option A)) (i : ℕ) → length slots ≤ i → kept ++ flat_map option_to_list (drop i slots) ≡ flat_map option_to_list all → map f kept ≡ standing (map (option_map f) all)
put_all_back f kept slots all i past parts =
    ap (map f) (sym (append-nil kept) ∙ sym (ap (λ xs. kept ++ flat_map option_to_list xs) (drop_all i slots past)) ∙ parts)
    ∙ standing_of f all

-- before any place is filled
pub none_placed : {A : Type 0} (ts : List A) (slots : List (Option A)) (i : ℕ) → length slots ≡ i → map Some ts ++ drop i slots ≡ map Some ts
none_placed ts slots i all =
    let past : length slots ≤ i = omega arith in
    ap (λ xs. map Some ts ++ xs) (drop_all i slots past) ∙ append-nil (map Some ts)
