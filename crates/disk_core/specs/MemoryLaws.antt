-- The laws of a disk, for every view of a disk in memory.
use Rattle.std.specs.Prelude.{◌≡◌, ◌<◌, ◌≤◌, ℕ, ◌^◌, List, [], ◌∷◌, length, Some, None, if◌then◌else◌, IfSome, Bool, true, false, IsTrue, nat_lt, ◌&&◌}
use Rattle.std.proofs.Math.Nat.{le_trans, le_step, le_refl, not-suc-le_self}
use Rattle.std.proofs.lemmas.Bool.{ltb-true, false≢true}
use mathlib.Core.Logic.{inl, inr}
use mathlib.Core.Path.{refl}
use Rattle.outside_io.specs.Counts.{last_count}
use Rattle.disk_core.specs.declared.trails.Step.{Step}
use Rattle.disk_core.specs.declared.trails.Step.TheVariants.{Write, Sync}
use Rattle.disk_core.specs.declared.trails.Trail.{Trail}
use Rattle.disk_core.specs.Images.{IsTold}
use Rattle.disk_core.specs.Trails.{content, IsImage, IsSince, SinceIn}
use Rattle.disk_core.specs.Memory.{DiskView, tells, seen_of, images_of, moment_of, since_of, trail_of}

pub reads_image : (first : List ℕ) (s : List Step) → IsImage first s (content first s)
reads_image first [] = refl
reads_image first (Write at bytes ∷ older) = inl refl
reads_image first (Sync ∷ older) = refl

sooner : (first : List ℕ) (t u : ℕ) (s : List Step) (c : List ℕ) → t ≤ u → IsSince first u s c → IsSince first t s c
sooner first t u [] c le p = (le_trans le p.0, p.1)
sooner first t u (s ∷ older) c le (inl p) = inl (le_trans le p.0, p.1)
sooner first t u (s ∷ older) c le (inr p) = inr (sooner first t u older c le p)

not_later : (first : List ℕ) (t : ℕ) (s : List Step) (c : List ℕ) → IsSince first t s c → t ≤ length s
not_later first t [] c p = p.0
not_later first t (s ∷ older) c (inl p) = p.0
not_later first t (s ∷ older) c (inr p) = le_step (not_later first t older c p)

now_only : (first : List ℕ) (s : List Step) (c : List ℕ) → IsSince first (length s) s c → IsImage first s c
now_only first [] c p = p.1
now_only first (s ∷ older) c (inl p) = p.1
now_only first (s ∷ older) c (inr p) = absurd (not-suc-le_self (length older) (not_later first (length (s ∷ older)) older c p))

now_counts : (first : List ℕ) (s : List Step) (c : List ℕ) → IsImage first s c → IsSince first (length s) s c
now_counts first [] c p = (le_refl 0, p)
now_counts first (s ∷ older) c p = inl (le_refl (length (s ∷ older)), p)

while_told : (told : Bool) (x : List ℕ) (P : List ℕ → Type 0) → P x → IfSome (if told then Some x else None) (λ y. IsTrue told × P y)
while_told true x P p = (refl, p)
while_told false x P p = tt

pub reads : (d : DiskView) → IfSome (seen_of d) (images_of d)
reads d = while_told (tells d) (content d.first d.steps) (IsImage d.first d.steps) (reads_image d.first d.steps)

told_some : (told : Bool) (x : List ℕ) → IsTrue told → IsTold (if told then Some x else None)
told_some true x is = refl
told_some false x is = is

pub has_told : (d : DiskView) (c : List ℕ) → images_of d c → IsTold (seen_of d)
has_told d c p = told_some (tells d) (content d.first d.steps) p.0

pub only_now : (d : DiskView) (c : List ℕ) → since_of d (moment_of d) c → images_of d c
only_now d c p = (p.0, now_only d.first d.steps c p.1)

pub counts_now : (d : DiskView) (c : List ℕ) → images_of d c → since_of d (moment_of d) c
counts_now d c p = (p.0, now_counts d.first d.steps c p.1)

pub from_later : (d : DiskView) (t u : ℕ) (c : List ℕ) → t ≤ u → since_of d u c → since_of d t c
from_later d t u c le p = (p.0, sooner d.first t u d.steps c le p.1)

short : (a : Bool) (x : List ℕ) → IfSome (if a && nat_lt (length x) (2 ^ 63) then Some x else None) (λ b. length b < 2 ^ 63)
short false x = tt
short true x = test (nat_lt (length x) (2 ^ 63)) refl
  where
    test : (b : Bool) → nat_lt (length x) (2 ^ 63) ≡ b → IfSome (if b then Some x else None) (λ y. length y < 2 ^ 63)
    test true is = ltb-true (length x) (2 ^ 63) is
    test false is = tt

pub within : (d : DiskView) → IfSome (seen_of d) (λ b. length b < 2 ^ 63)
within d = short (nat_lt d.faults last_count) (content d.first d.steps)

tell_in : (b : Bool) (first : List ℕ) (steps : List Step) (t : ℕ) (c : List ℕ) → IsTrue b × IsSince first t steps c → SinceIn (if b then Some (record { first = first; steps = steps }) else None) t c
tell_in true first steps t c p = p.1
tell_in false first steps t c p = absurd (false≢true p.0)

tell_out : (b : Bool) (first : List ℕ) (steps : List Step) (t : ℕ) (c : List ℕ) → SinceIn (if b then Some (record { first = first; steps = steps }) else None) t c → IsTrue b × IsSince first t steps c
tell_out true first steps t c p = (refl, p)
tell_out false first steps t c p = absurd p

counts : (b : Bool) (tr : Trail) (n : ℕ) → n ≡ length tr.steps → IfSome (if b then Some tr else None) (λ x. n ≡ length x.steps)
counts true tr n e = e
counts false tr n e = tt

pub traced : (d : DiskView) (t : ℕ) (c : List ℕ) → since_of d t c → SinceIn (trail_of d) t c
traced d t c p = tell_in (tells d) d.first d.steps t c p

pub tracing : (d : DiskView) (t : ℕ) (c : List ℕ) → SinceIn (trail_of d) t c → since_of d t c
tracing d t c p = tell_out (tells d) d.first d.steps t c p

pub counted : (d : DiskView) → IfSome (trail_of d) (λ x. moment_of d ≡ length x.steps)
counted d = counts (tells d) (record { first = d.first; steps = d.steps }) (length d.steps) refl
