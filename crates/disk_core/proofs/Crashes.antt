-- What a crash leaves of a disk in memory.
use Rattle.std.proofs.Common.{◌≡◌, ⊎_elim, ◌<◌, ◌≤◌, ◌+◌, ◌-◌, ℕ, List, [], ◌∷◌, ◌++◌, length, get_or, take, drop, map, reverse, refl, sym, ◌∙◌, ap, subst, inr, arith, append_assoc, length-append, length-take, length-drop, take-append-drop}
use Rattle.std.proofs.lemmas.List.{append-nil, reverse-append, map-append, take_at, drop_at, take_more, drop-drop, drop-append-le, drop_all, length-take-le, length-map, length-reverse, get_or-drop}
use Rattle.std.proofs.lemmas.Bool.{cases_lt}
use Rattle.std.specs.List.{All}
use Rattle.std.specs.Prelude.{Result, Ok, Err, IfOk, Option, Some, None, IfSome}
use Rattle.outside_io.specs.Told.{WhileTold}
use Rattle.std.proofs.Math.Seq.{drop-append-add}
use Rattle.disk_core.specs.declared.trails.Step.{Step}
use Rattle.disk_core.specs.declared.memory.Move.{Move}
use Rattle.disk_core.specs.declared.memory.Move.TheVariants as move
use Rattle.disk_core.specs.declared.trails.Step.TheVariants.{Write}
use Rattle.disk_core.specs.Images.{Torn}
use Rattle.disk_core.specs.Trails.{write, content, up_to, IsImage}
use Rattle.disk_core.specs.Memory.{step_of, steps_of, IsWrite}

-- the steps of more moves come before those of the earlier ones
pub steps_append : (all : List ℕ) (a b : List Move) → steps_of all (a ++ b) ≡ steps_of all b ++ steps_of all a
steps_append all a b = ap (λ (l : List Step). reverse l) (map-append (step_of all) a b) ∙ reverse-append (map (step_of all) a) (map (step_of all) b)

-- with the next move
pub steps_next : (all : List ℕ) (ms : List Move) (i : ℕ) (d : Move) → i < length ms → steps_of all (take (i + 1) ms) ≡ step_of all (get_or ms i d) ∷ steps_of all (take i ms)
steps_next all ms i d lt = ap (λ (l : List Move). steps_of all l) (take_more ms i d lt) ∙ steps_append all (take i ms) (get_or ms i d ∷ [])

pub length-steps : (all : List ℕ) (ms : List Move) → length (steps_of all ms) ≡ length ms
length-steps all ms = length-reverse (map (step_of all) ms) ∙ length-map ms (step_of all)

-- the first moves are the oldest steps
pub steps_up_to : (all : List ℕ) (ms : List Move) (m : ℕ) → m ≤ length ms → steps_of all (take m ms) ≡ up_to m (steps_of all ms)
steps_up_to all ms m le =
    let late = steps_of all (drop m ms) in
    let early = steps_of all (take m ms) in
    let whole : steps_of all ms ≡ late ++ early = ap (λ (l : List Move). steps_of all l) (sym (take-append-drop m ms)) ∙ steps_append all (take m ms) (drop m ms) in
    let past : length (steps_of all ms) - m ≡ length late = omega (arith, length-steps all ms, length-steps all (drop m ms), length-drop m ms, le) in
    sym (ap (λ k. drop k (steps_of all ms)) past ∙ ap (λ (l : List Step). drop (length late) l) whole ∙ drop_at late early (length late) refl)

-- a part of a write, and then other bytes at the end
parts : (at : ℕ) (part old behind : List ℕ) → write at part old ++ behind ≡ (take at old ++ part) ++ (drop (at + length part) old ++ behind)
parts at part old behind =
    let rest = drop (at + length part) old in
    append_assoc (take at old) (part ++ rest) behind ∙ ap (λ (l : List ℕ). take at old ++ l) (append_assoc part rest behind) ∙ sym (append_assoc (take at old) part (rest ++ behind))

torn_whole : (at n : ℕ) (part old behind more : List ℕ) → at ≤ length old → length part ≤ n
    → drop (n - length part) (drop (at + length part) old ++ behind) ≡ drop (n - length part) (drop (at + length part) old) ++ more
    → Torn at n old (write at part old ++ behind)
torn_whole at n part old behind more le few same =
    let rest = drop (at + length part) old in
    let k = n - length part in
    let size : length (take at old ++ part) ≡ at + length part = omega (arith, length-append (take at old) part, length-take at old, le) in
    let is = parts at part old behind in
    let reach : at + length part + k ≡ at + n = omega (arith, few) in
    record {
      before = ap (λ (l : List ℕ). take at l) (append_assoc (take at old) (part ++ rest) behind) ∙ take_at (take at old) ((part ++ rest) ++ behind) at (length-take-le at old le);
      more = more;
      after = ap (λ (l : List ℕ). drop (at + n) l) is ∙ ap (λ m. drop m ((take at old ++ part) ++ (rest ++ behind))) (sym reach)
          ∙ sym (drop-drop k (at + length part) ((take at old ++ part) ++ (rest ++ behind)))
          ∙ ap (λ (l : List ℕ). drop k l) (drop_at (take at old ++ part) (rest ++ behind) (at + length part) size)
          ∙ same ∙ ap (λ (l : List ℕ). l ++ more) (drop-drop k (at + length part) old ∙ ap (λ m. drop m old) reach);
      no_shorter = omega (arith, ap length is, length-append (take at old ++ part) (rest ++ behind), size, length-append rest behind, length-drop (at + length part) old);
    }

beyond : (rest behind : List ℕ) (k : ℕ) → length rest < k → drop k (rest ++ behind) ≡ drop k rest ++ drop (k - length rest) behind
beyond rest behind k lt =
    let e : length rest + (k - length rest) ≡ k = omega (arith, lt) in
    ap (λ m. drop m (rest ++ behind)) (sym e) ∙ drop-append-add rest behind (k - length rest) ∙ ap (λ (l : List ℕ). l ++ drop (k - length rest) behind) (sym (drop_all k rest (omega (arith, lt))))

-- is a way in which a crash may leave the write
torn_part : (at n : ℕ) (part old behind : List ℕ) → at ≤ length old → length part ≤ n → Torn at n old (write at part old ++ behind)
torn_part at n part old behind le few =
    let rest = drop (at + length part) old in
    let k = n - length part in
    ⊎_elim (λ (lt : length rest < k). torn_whole at n part old behind (drop (k - length rest) behind) le few (beyond rest behind k lt))
    (λ (ge : k ≤ length rest). torn_whole at n part old behind behind le few (drop-append-le k rest behind ge))
    (cases_lt (length rest) k)

pub torn_behind : (at n : ℕ) (part old mid behind new : List ℕ) → at ≤ length old → length part ≤ n → mid ≡ write at part old → new ≡ mid ++ behind → Torn at n old new
torn_behind at n part old mid behind new le few is ends = subst (λ (l : List ℕ). Torn at n old l) (sym (ends ∙ ap (λ (l : List ℕ). l ++ behind) is)) (torn_part at n part old behind le few)

pub torn_front : (at n : ℕ) (part old mid : List ℕ) → at ≤ length old → length part ≤ n → mid ≡ write at part old → Torn at n old mid
torn_front at n part old mid le few is = torn_behind at n part old mid [] mid le few is (sym (append-nil mid))

-- one more write that a crash left
pub torn_next : (first all : List ℕ) (ms : List Move) (i : ℕ) (d : Move) (at from len : ℕ) (bytes old new : List ℕ) → get_or ms i d ≡ move.Write at from len → i < length ms
    → bytes ≡ take len (drop from all) → Torn at (length bytes) old new → IsImage first (steps_of all (take i ms)) old → IsImage first (steps_of all (take (i + 1) ms)) new
torn_next first all ms i d at from len bytes old new is lt same torn image =
    let e : steps_of all (take (i + 1) ms) ≡ Write at bytes ∷ steps_of all (take i ms) =
    steps_next all ms i d lt ∙ ap (λ m. step_of all m ∷ steps_of all (take i ms)) is ∙ ap (λ (l : List ℕ). Write at l ∷ steps_of all (take i ms)) (sym same) in
    subst (λ (l : List Step). IsImage first l new) (sym e) (inr (old, image, torn))

-- what is an image after the first moves, by what a view of the disk has
pub image_at : {E : Type 0} (r : Result (List ℕ) E) (first f all w : List ℕ) (ms part : List Move) (m : ℕ) → f ≡ first → w ≡ all → m ≤ length ms → part ≡ take m ms
    → IfOk r (λ x. IsImage f (steps_of w part) x) → IfOk r (λ x. IsImage first (up_to m (steps_of all ms)) x)
image_at (Err e) first f all w ms part m fe we le pe p = tt
image_at (Ok x) first f all w ms part m fe we le pe p =
    let e : steps_of w part ≡ up_to m (steps_of all ms) = ap (λ (l : List ℕ). steps_of l part) we ∙ ap (λ (l : List Move). steps_of all l) pe ∙ steps_up_to all ms m le in
    subst (λ (l : List Step). IsImage first l x) e (subst (λ (l : List ℕ). IsImage l (steps_of w part) x) fe p)

pub content_at : {E : Type 0} (r : Result (List ℕ) E) (first f all w : List ℕ) (ms part : List Move) (m : ℕ) → f ≡ first → w ≡ all → m ≤ length ms → part ≡ take m ms
    → IfOk r (λ x. x ≡ content f (steps_of w part)) → IfOk r (λ x. x ≡ content first (up_to m (steps_of all ms)))
content_at (Err e) first f all w ms part m fe we le pe p = tt
content_at (Ok x) first f all w ms part m fe we le pe p =
    let e : steps_of w part ≡ up_to m (steps_of all ms) = ap (λ (l : List ℕ). steps_of l part) we ∙ ap (λ (l : List Move). steps_of all l) pe ∙ steps_up_to all ms m le in
    p ∙ ap (λ (l : List ℕ). content l (steps_of w part)) fe ∙ ap (λ (l : List Step). content first l) e

-- behind the last sync there is none
pub not_sync : (ms : List Move) (kept i : ℕ) (d : Move) → All IsWrite (drop kept ms) → kept ≤ i → i < length ms → get_or ms i d ≡ move.Sync → ⊥
not_sync ms kept i d all le lt is =
    let e : get_or (drop kept ms) (i - kept) d ≡ get_or ms i d = get_or-drop kept ms (i - kept) d ∙ ap (λ k. get_or ms k d) (omega (arith, le)) in
    subst IsWrite (e ∙ is) (all (i - kept) d (omega (arith, length-drop kept ms, lt, le)))

-- a disk whose length was asked for has a place up to it
pub reaches : (old new : Option (List ℕ)) (n at : ℕ) → IfSome old (λ b. n ≡ length b) → WhileTold old new (λ x y. y ≡ x) → at ≤ n → IfSome new (λ b. at ≤ length b)
reaches old None n at size still le = tt
reaches None (Some y) n at size still le = absurd still
reaches (Some x) (Some y) n at size still le = omega (arith, size, ap length still, le)
