-- What a disk in memory keeps of its calls.
use Rattle.std.proofs.Common.{◌≡◌, inl, inr, ◌<◌, ◌≤◌, ◌+◌, ℕ, zero, suc, List, [], ◌∷◌, ◌++◌, length, take, drop, map, reverse, refl, sym, ◌∙◌, ap, subst, arith, append_assoc, length-append, length-take, length-drop}
use Rattle.std.proofs.lemmas.List.{append-nil, reverse-append, map-append, take-append-le, drop-append-le, take_at, drop_at, take_all}
use Rattle.std.proofs.lemmas.List.Elements.{All-append}
use Rattle.std.specs.List.{All}
use Rattle.outside_io.specs.Told.{WhileTold}
use Rattle.std.specs.Prelude.{Bool, false, Some, None, IfSome, if◌then◌else◌, nat_lt, ◌&&◌, ◌^◌, true, IsTrue}
use Rattle.std.proofs.lemmas.Bool.{lt-ltb}
use Rattle.outside_io.specs.Counts.{last_count}
use Rattle.disk_core.specs.declared.trails.Step.{Step}
use Rattle.disk_core.specs.declared.memory.Move.{Move}
use Rattle.disk_core.specs.declared.memory.Move.TheVariants as move
use Rattle.disk_core.specs.Images.{Torn}
use Rattle.disk_core.specs.Trails.{write, content, Extends, IsImage}
use Rattle.disk_core.specs.Memory.{step_of, steps_of, IsWithin}
use Rattle.disk_core.specs.MemoryLaws.{reads_image}
use Rattle.disk_core.specs.declared.trails.Step.TheVariants.{Write, Sync}

same_step : (all more : List ℕ) (m : Move) → IsWithin (length all) m → step_of (all ++ more) m ≡ step_of all m
same_step all more (move.Write at from len) w = ap (λ (l : List ℕ). Write at l) (ap (λ (l : List ℕ). take len l) (drop-append-le from all more (omega (arith, w))) ∙ take-append-le len (drop from all) more (omega (arith, w, length-drop from all)))
same_step all more move.Sync w = refl

same_steps : (all more : List ℕ) (ms : List Move) → All (IsWithin (length all)) ms → map (step_of (all ++ more)) ms ≡ map (step_of all) ms
same_steps all more [] w = refl
same_steps all more (m ∷ ms) w = ap (λ (s : Step). s ∷ map (step_of (all ++ more)) ms) (same_step all more m (w zero m (omega arith))) ∙ ap (λ (l : List Step). step_of all m ∷ l) (same_steps all more ms (λ k d lt. w (suc k) d (omega (arith, lt))))

new_step : (all more : List ℕ) (at : ℕ) → step_of (all ++ more) (move.Write at (length all) (length more)) ≡ Write at more
new_step all more at = ap (λ (l : List ℕ). Write at l) (ap (λ (l : List ℕ). take (length more) l) (drop_at all more (length all) refl) ∙ take_all (length more) more (omega arith))

pub steps_push : (all more : List ℕ) (ms : List Move) (at : ℕ) → All (IsWithin (length all)) ms → steps_of (all ++ more) (ms ++ (move.Write at (length all) (length more) ∷ [])) ≡ Write at more ∷ steps_of all ms
steps_push all more ms at w =
    let m = move.Write at (length all) (length more) in
    ap (λ (l : List Step). reverse l) (map-append (step_of (all ++ more)) ms (m ∷ [])) ∙ reverse-append (map (step_of (all ++ more)) ms) (step_of (all ++ more) m ∷ [])
    ∙ ap (λ (s : Step). s ∷ reverse (map (step_of (all ++ more)) ms)) (new_step all more at) ∙ ap (λ (l : List Step). Write at more ∷ reverse l) (same_steps all more ms w)

grown : (a b : ℕ) (m : Move) → a ≤ b → IsWithin a m → IsWithin b m
grown a b (move.Write at from len) le w = omega (arith, le, w)
grown a b move.Sync le w = w

one : (n : ℕ) (m : Move) → IsWithin n m → All (IsWithin n) (m ∷ [])
one n m w zero d lt = w
one n m w (suc k) d lt = absurd (omega (arith, lt))

pub within_push : (all more : List ℕ) (ms : List Move) (at : ℕ) → All (IsWithin (length all)) ms → All (IsWithin (length (all ++ more))) (ms ++ (move.Write at (length all) (length more) ∷ []))
within_push all more ms at w =
    let size = length-append all more in
    All-append (IsWithin (length (all ++ more))) ms (move.Write at (length all) (length more) ∷ []) (λ k d lt. grown (length all) (length (all ++ more)) _ (omega (arith, size)) (w k d lt))
    (one (length (all ++ more)) (move.Write at (length all) (length more)) (omega (arith, size)))

-- what was written is one of the ways in which a crash may leave it
pub torn_write : (at : ℕ) (bytes old : List ℕ) → at ≤ length old → Torn at (length bytes) old (write at bytes old)
torn_write at bytes old le =
    let size : length (take at old) ≡ at = length-take at old ∙ omega (arith, le) in
    let back = drop (at + length bytes) old in
    record {
      before = take_at (take at old) (bytes ++ back) at size;
      more = [];
      after = ap (λ (l : List ℕ). drop (at + length bytes) l) (sym (append_assoc (take at old) bytes back)) ∙ drop_at (take at old ++ bytes) back (at + length bytes) (omega (arith, size, length-append (take at old) bytes)) ∙ sym (append-nil back);
      no_shorter = omega (arith, size, length-append (take at old) (bytes ++ back), length-append bytes back, length-drop (at + length bytes) old);
    }

-- what a sync, or a write, may leave is one of the images from before, after a step
pub synced_image : (first : List ℕ) (s : List Step) (c : List ℕ) → c ≡ content first s → IsImage first s c
synced_image first s c is = subst (λ (l : List ℕ). IsImage first s l) (sym is) (reads_image first s)

pub written_image : (first : List ℕ) (s : List Step) (at : ℕ) (bytes c : List ℕ) → at ≤ length (content first s) → IsImage first (Write at bytes ∷ s) c → (d : List ℕ) × IsImage first s d × Torn at (length bytes) d c
written_image first s at bytes c le (inl is) = (content first s, reads_image first s, subst (λ (l : List ℕ). Torn at (length bytes) (content first s) l) (sym is) (torn_write at bytes (content first s) le))
written_image first s at bytes c le (inr p) = p

pub sync_push : (all : List ℕ) (ms : List Move) → steps_of all (ms ++ (move.Sync ∷ [])) ≡ Sync ∷ steps_of all ms
sync_push all ms = ap (λ (l : List Step). reverse l) (map-append (step_of all) ms (move.Sync ∷ [])) ∙ reverse-append (map (step_of all) ms) (step_of all move.Sync ∷ [])

pub tells_of : (f n : ℕ) → nat_lt f last_count ≡ true → n < 2 ^ 63 → IsTrue (nat_lt f last_count && nat_lt n (2 ^ 63))
tells_of f n is lt = let two : nat_lt n (2 ^ 63) ≡ true = lt-ltb n (2 ^ 63) lt in subst (λ b. IsTrue (b && nat_lt n (2 ^ 63))) (sym is) (subst (λ b. IsTrue b) (sym two) refl)

pub told_of : (b : Bool) (x : List ℕ) (P : List ℕ → Type 0) → IsTrue b → IfSome (if b then Some x else None) P → P x
told_of true x P told p = p
told_of false x P told p = absurd (cc told)

pub while_both : (b b2 : Bool) (x y : List ℕ) (P : List ℕ → List ℕ → Type 0) → IsTrue b → P x y → WhileTold (if b then Some x else None) (if b2 then Some y else None) P
while_both b false x y P told p = tt
while_both true true x y P told p = p
while_both false true x y P told p = absurd (cc told)

pub extends_push : (b b2 : Bool) (first : List ℕ) (step : Step) (s : List Step) → IsTrue b → Extends (if b then Some (record { first = first; steps = s }) else None) (if b2 then Some (record { first = first; steps = step ∷ s }) else None)
extends_push b false first step s told = tt
extends_push true true first step s told = record { first = refl; more = step ∷ []; steps = refl }
extends_push false true first step s told = absurd (cc told)
