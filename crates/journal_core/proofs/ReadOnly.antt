-- Calls that only read.
use Rattle.std.proofs.Common.{◌≡◌, ⊎_elim, ◌<◌, ◌≤◌, ◌+◌, ◌-◌, ◌^◌, min, ℕ, List, [], ◌++◌, length, take, drop, refl, sym, ◌∙◌, ap, arith, append_assoc, length-drop, take-append-drop}
use Rattle.std.proofs.lemmas.List.{append-nil, take-take, drop-take, take_all, drop_all, drop-drop, replicate-append-replicate}
use Rattle.std.proofs.lemmas.Bool.{cases_lt}
use Rattle.std.specs.Prelude.{Option, Some, None, IfSome, replicate}
use Rattle.outside_io.specs.Counts.{last_count}
use Rattle.disk_core.specs.declared.trails.Trail.{Trail}
use Rattle.disk_core.specs.Images.{Still, NoMore, Elapses}
use Rattle.disk_core.specs.Trails.{Extends}
use Rattle.journal_format.specs.Spelling.{Txn}
use Rattle.journal_core.specs.declared.journal.Trust.{Trust}
use Rattle.journal_core.specs.Stands.{Stands}
use Rattle.journal_core.specs.Reading.{padded, OnlyReads}
use Rattle.journal_core.proofs.Moments.{over_start, over_elapses, over_quiet, still_self, still_then, extends_then, same_trail}

module _ {D : Type 0} (seen : D → Option (List ℕ)) (images : D → List ℕ → Type 0) (moment : D → ℕ) (since : D → ℕ → List ℕ → Type 0) (trail : D → Option Trail) (syncs : D → ℕ) where
  pub reads_then : (a b c : D) → OnlyReads seen images moment since trail syncs a b → OnlyReads seen images moment since trail syncs b c → OnlyReads seen images moment since trail syncs a c
  reads_then a b c p q = record {
    still = still_then (seen a) (seen b) (seen c) p.still q.still;
    none = λ x i. p.none x (q.none x i);
    moments = over_quiet moment since images a b c p.none p.moments q.moments;
    goes_on = extends_then (trail a) (trail b) (trail c) p.goes_on q.goes_on;
    same_syncs = q.same_syncs ∙ p.same_syncs;
  }

  -- one call of the disk
  pub reads_call : (told : Type 0) (a b : D) → Still (seen a) (seen b) → NoMore (images a) (images b) → Extends (trail a) (trail b)
      → Elapses told (moment a) (moment b) (since a) (since b) (images a) (images b) → syncs b ≡ syncs a → OnlyReads seen images moment since trail syncs a b
  reads_call told a b still none goes_on time same = record { still = still; none = none; moments = over_elapses moment since images told a b none time; goes_on = goes_on; same_syncs = same }

-- ---- bytes, and zeros for those that aren't there

take_then : (m n : ℕ) (bs : List ℕ) → take (m + n) bs ≡ take m bs ++ take n (drop m bs)
take_then m n bs = sym (take-append-drop m (take (m + n) bs)) ∙ ap (λ (l : List ℕ). l ++ drop m (take (m + n) bs)) (take-take m (m + n) bs (omega arith)) ∙ ap (λ (l : List ℕ). take m bs ++ l) (drop-take m n bs)

padded_within : (m n : ℕ) (bs : List ℕ) → m ≤ length bs → padded m bs ++ padded n (drop m bs) ≡ padded (m + n) bs
padded_within m n bs le =
    let none : m - length bs ≡ 0 = omega (arith, le) in
    let zeros : n - length (drop m bs) ≡ m + n - length bs = omega (arith, length-drop m bs, le) in
    let back = take n (drop m bs) in
    ap (λ k. (take m bs ++ replicate k 0) ++ (back ++ replicate (n - length (drop m bs)) 0)) none
    ∙ ap (λ (l : List ℕ). l ++ (back ++ replicate (n - length (drop m bs)) 0)) (append-nil (take m bs))
    ∙ ap (λ k. take m bs ++ (back ++ replicate k 0)) zeros
    ∙ sym (append_assoc (take m bs) back (replicate (m + n - length bs) 0))
    ∙ ap (λ (l : List ℕ). l ++ replicate (m + n - length bs) 0) (sym (take_then m n bs))

padded_past : (m n : ℕ) (bs : List ℕ) → length bs < m → padded m bs ++ padded n (drop m bs) ≡ padded (m + n) bs
padded_past m n bs lt =
    let none : drop m bs ≡ [] = drop_all m bs (omega (arith, lt)) in
    let zeros = replicate (m - length bs) 0 in
    let count : m - length bs + (n - 0) ≡ m + n - length bs = omega (arith, lt) in
    ap (λ (l : List ℕ). (l ++ zeros) ++ padded n (drop m bs)) (take_all m bs (omega (arith, lt)))
    ∙ ap (λ (l : List ℕ). (bs ++ zeros) ++ padded n l) none
    ∙ ap (λ (l : List ℕ). (bs ++ zeros) ++ (l ++ replicate (n - 0) 0)) (take_all n [] (omega arith))
    ∙ append_assoc bs zeros (replicate (n - 0) 0)
    ∙ ap (λ (l : List ℕ). bs ++ l) (replicate-append-replicate (m - length bs) (n - 0) 0)
    ∙ ap (λ k. bs ++ replicate k 0) count
    ∙ ap (λ (l : List ℕ). l ++ replicate (m + n - length bs) 0) (sym (take_all (m + n) bs (omega (arith, lt))))

pub padded_then : (m n : ℕ) (bs : List ℕ) → padded m bs ++ padded n (drop m bs) ≡ padded (m + n) bs
padded_then m n bs = ⊎_elim (λ lt. padded_past m n bs lt) (λ le. padded_within m n bs le) (cases_lt (length bs) m)

-- a place behind a first one, as far as numbers go
place_drop : (at m place : ℕ) (x : List ℕ) → length x < 2 ^ 63 → place ≡ min (at + m) last_count → drop place x ≡ drop m (drop at x)
place_drop at m place x short is = ⊎_elim
    (λ (lt : at + m < last_count). ap (λ k. drop k x) (omega (arith, is, lt)) ∙ sym (drop-drop m at x))
    (λ (ge : last_count ≤ at + m). drop_all place x (omega (arith, is, ge, short)) ∙ sym (drop_all m (drop at x) (omega (arith, length-drop at x, ge, short))))
    (cases_lt (at + m) last_count)

-- what was read so far, with one part more
pub fill_next : (old new : Option (List ℕ)) (at m n place : ℕ) (bytes full : List ℕ) → Still old new → IfSome old (λ b. length b < 2 ^ 63) → place ≡ min (at + m) last_count
    → IfSome old (λ b. bytes ≡ padded m (drop at b)) → IfSome old (λ b. full ≡ bytes ++ padded n (drop place b)) → IfSome new (λ b. full ≡ padded (m + n) (drop at b))
fill_next old None at m n place bytes full still short is p q = tt
fill_next None (Some y) at m n place bytes full still short is p q = absurd still
fill_next (Some x) (Some y) at m n place bytes full still short is p q =
    q ∙ ap (λ (l : List ℕ). l ++ padded n (drop place x)) p ∙ ap (λ (l : List ℕ). padded m (drop at x) ++ padded n l) (place_drop at m place x short is) ∙ padded_then m n (drop at x)
    ∙ ap (λ (l : List ℕ). padded (m + n) (drop at l)) (sym still)

pub fill_all : (seen : Option (List ℕ)) (at m n : ℕ) (bytes : List ℕ) → m ≡ n → IfSome seen (λ b. bytes ≡ padded m (drop at b)) → IfSome seen (λ b. bytes ≡ padded n (drop at b))
fill_all None at m n bytes is p = tt
fill_all (Some x) at m n bytes is p = p ∙ ap (λ k. padded k (drop at x)) is
