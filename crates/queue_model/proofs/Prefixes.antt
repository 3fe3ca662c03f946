-- prefixes of lists, and of histories
use Rattle.std.proofs.Common.{◌≡◌, ℕ, ◌≤◌, List, [], ◌∷◌, ◌++◌, length, refl, sym, ap, ◌∙◌, subst, append_assoc, append-nil, length-append, arith}
use mathlib.Core.List.{IsPrefix}
use Rattle.queue_model.specs.declared.deeds.Deed.{Deed}
use Rattle.queue_model.specs.declared.queues.Queue.{Queue}
use Rattle.queue_model.specs.History.{Legal, own}
use Rattle.queue_model.proofs.Histories.{legal_front, own-append, own-cons_mine}

module _ {X : Type 0} where
  -- a list is a prefix of itself
  pub prefix_self : (xs : List X) → IsPrefix xs xs
  prefix_self xs = ([], append-nil xs)

  -- and of each longer list
  pub prefix_more : (xs ys : List X) → IsPrefix xs (xs ++ ys)
  prefix_more xs ys = (ys, refl)

  -- a prefix of a prefix is a prefix
  pub prefix_trans : (xs ys zs : List X) → IsPrefix xs ys → IsPrefix ys zs → IsPrefix xs zs
  prefix_trans xs ys zs p r = (p.0 ++ r.0, sym (append_assoc xs p.0 r.0) ∙ ap (λ (l : List X). l ++ r.0) p.1 ∙ r.1)

  -- of two prefixes of one list the one that is not longer is a prefix of the other
  pub prefix_shorter : (xs ys zs : List X) → IsPrefix xs zs → IsPrefix ys zs → length xs ≤ length ys → IsPrefix xs ys
  prefix_shorter [] ys zs p r short = (ys, refl)
  prefix_shorter (x ∷ xs) [] zs p r short = absurd (omega arith)
  prefix_shorter (x ∷ xs) (y ∷ ys) zs p r short =
      let e : x ∷ (xs ++ p.0) ≡ y ∷ (ys ++ r.0) = p.1 ∙ sym r.1 in
      let head : x ≡ y = cc in
      let tail : xs ++ p.0 ≡ ys ++ r.0 = cc in
      let t : IsPrefix xs ys = prefix_shorter xs ys (ys ++ r.0) (p.0, tail) (r.0, refl) (omega arith) in
      let same : xs ++ t.0 ≡ ys = t.1 in
      (t.0, cc)

  -- a prefix is not longer
  pub prefix_length : (xs ys : List X) → IsPrefix xs ys → length xs ≤ length ys
  prefix_length xs ys p = omega (arith, length-append xs p.0, ap length p.1)

  -- where nothing is left the lists are one
  whole : (xs ys rest : List X) → xs ++ rest ≡ ys → length xs ≡ length ys → xs ≡ ys
  whole xs ys [] e same = sym (append-nil xs) ∙ e
  whole xs ys (z ∷ rest) e same = absurd (omega (arith, length-append xs (z ∷ rest), ap length e))

  -- a prefix of equal length is the whole list
  pub prefix_whole : (xs ys : List X) → IsPrefix xs ys → length xs ≡ length ys → xs ≡ ys
  prefix_whole xs ys p same = whole xs ys p.0 p.1 same

-- a prefix of a legal history is legal
pub legal_prefix : (q : Queue) (ds es : List Deed) → IsPrefix ds es → Legal q es → Legal q ds
legal_prefix q ds es p legal = legal_front q ds p.0 (subst (Legal q) (sym p.1) legal)

-- a caller's deeds of a prefix
pub own_prefix : (h : ℕ) (ds es : List Deed) → IsPrefix ds es → IsPrefix (own h ds) (own h es)
own_prefix h ds es p = (own h p.0, sym (own-append h ds p.0) ∙ ap (own h) p.1)

-- a history between two with the same deeds of a caller has the same too
pub own_between : (h : ℕ) (ds es fs : List Deed) → IsPrefix ds es → IsPrefix es fs → own h fs ≡ own h ds → own h fs ≡ own h es
own_between h ds es fs p r same =
    let low = prefix_length (own h ds) (own h es) (own_prefix h ds es p) in
    let high = prefix_length (own h es) (own h fs) (own_prefix h es fs r) in
    sym (prefix_whole (own h es) (own h fs) (own_prefix h es fs r) (omega (arith, ap length same)))

-- where each caller's deeds are seen nothing is left
all_seen : (seen rest : List Deed) → ((k : ℕ) → own k (seen ++ rest) ≡ own k seen) → rest ≡ []
all_seen seen [] same = refl
all_seen seen (d ∷ rest) same =
    absurd (omega (arith, ap length (same d.caller), ap length (own-append d.caller seen (d ∷ rest)), length-append (own d.caller seen) (own d.caller (d ∷ rest)), ap length (own-cons_mine d rest)))

-- what has each caller's deeds of a history is the whole history
pub seen_all : (seen all : List Deed) → IsPrefix seen all → ((k : ℕ) → own k all ≡ own k seen) → seen ≡ all
seen_all seen all p same =
    let none : p.0 ≡ [] = all_seen seen p.0 (λ k. ap (own k) p.1 ∙ same k) in
    sym (append-nil seen) ∙ ap (λ (l : List Deed). seen ++ l) (sym none) ∙ p.1
