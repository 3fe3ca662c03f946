-- entries that are left after the last line
use Rattle.std.proofs.Common.{reverse, ◌≡◌, ℕ, not, Some, List, [], ◌∷◌, ◌++◌, slice_get, slice_set, refl, sym, ap, ◌∙◌, subst, eq-eqb, ne_eqb}
use Rattle.std.proofs.lemmas.List.{map-append, reverse-append}
use Rattle.std.proofs.lemmas.Option.{slice_get_within}
use Rattle.acts_core.specs.Calls.{CallUnlock, IsDone}
use Rattle.acts_core.specs.Load.{Load}
use Rattle.acts_core.specs.Meaning.{Called}
use Rattle.acts_core.specs.Sight.{Build, Sight}
use Rattle.line_core.specs.Fits.{On}
use Rattle.line_core.specs.Hands.{Hand, is_this, lost}
use Rattle.workers_core.specs.Held.{hand_of, hands_of}
use Rattle.workers_core.specs.Ready.{Holds}
use Rattle.line_core.specs.Runs.{Ran, RanOn, calls_on}
use Rattle.workers_core.specs.declared.held.Kept.{Kept}
use Rattle.workers_core.proofs.Calls.{keeps_call}
use Rattle.workers_core.proofs.Holds.{hold_lost, others_lost}
use Rattle.workers_core.proofs.Lists.{filter_past, same_self, without_none}
use Rattle.workers_core.proofs.Ones.{did_one, hold_here, holds_after}
use Rattle.line_core.proofs.Running.{ran_call, ran_none}

-- the rest, without the first
rest_of : (k : Hand) (ks : List Hand) (sights : List Sight) → Holds sights (k ∷ ks) → lost k (k ∷ ks) ≡ ks
rest_of k ks sights holds = filter_past (λ j. not (is_this k.queue k.id j)) k ks (ap not (same_self k)) ∙ without_none k.queue k.id ks holds.apart.0

module _ (builds : List Build) (olds : List Sight) (b : Build) (old new : Sight) (k : Hand) (ks : List Hand) (built : slice_get builds k.queue ≡ Some b) (there : slice_get olds k.queue ≡ Some old) (holds : Holds olds (k ∷ ks)) where
  -- a locked entry that was left
  pub left_holds : (load : Load) → Called b old new (CallUnlock k.row load) IsDone → Holds (slice_set olds k.queue new) ks
  left_holds load m =
      let mine = holds.mine k.queue old there in
      subst (Holds (slice_set olds k.queue new)) (rest_of k ks olds holds)
      (holds_after olds (k ∷ ks) (lost k (k ∷ ks)) k.queue old new holds there (slice_get_within olds k.queue old there)
      (hold_lost old new k.queue k (k ∷ ks) (hold_here olds (k ∷ ks) k.queue old holds there) refl (mine.0 refl) (keeps_call b old new (CallUnlock k.row load) IsDone m k.row refl))
      (others_lost k.queue k (k ∷ ks)))

  pub left_ran : (load : Load) → Called b old new (CallUnlock k.row load) IsDone → Ran builds olds (On k.queue (CallUnlock k.row load) IsDone ∷ []) (slice_set olds k.queue new)
  left_ran load m =
      did_one builds k.queue olds b old new (On k.queue (CallUnlock k.row load) IsDone ∷ []) built there
      (rw (eq-eqb k.queue k.queue refl) (ran_call b old new (CallUnlock k.row load) IsDone m))
      (λ r apart. rw (ne_eqb k.queue r (λ e. apart (sym e))) refl)

-- the first goes, and the others stay in the hands
pub holds_rest : (sights : List Sight) (k : Hand) (ks : List Hand) → Holds sights (k ∷ ks) → Holds sights ks
holds_rest sights k ks holds = record { mine = λ q t at. (holds.mine q t at).1; within = holds.within.1; apart = holds.apart.1 }

-- nothing was done
pub ran_nothing : (builds : List Build) (sights : List Sight) → Ran builds sights [] sights
ran_nothing builds sights = record { as_many = refl; on_each = on_each } where
  on_each : (q : ℕ) (b : Build) (s t : Sight) → slice_get builds q ≡ Some b → slice_get sights q ≡ Some s → slice_get sights q ≡ Some t → RanOn b (calls_on q []) s t
  on_each q b s t at_b at_s at_t =
      let both : Some s ≡ Some t = sym at_s ∙ at_t in
      let same : s ≡ t = cc in
      subst (λ (z : Sight). RanOn b [] s z) same (ran_none b s)

-- the last of the held list is the first that is left
pub last_first : (xs : List Kept) (x : Kept) → reverse (hands_of (xs ++ x ∷ [])) ≡ hand_of x ∷ reverse (hands_of xs)
last_first xs x = ap reverse (map-append hand_of xs (x ∷ [])) ∙ reverse-append (hands_of xs) (hand_of x ∷ [])

-- the other way round, and back
map_reverse : (xs : List Kept) → hands_of (reverse xs) ≡ reverse (hands_of xs)
map_reverse [] = refl
map_reverse (x ∷ xs) =
    ap hands_of (reverse-append (x ∷ []) xs)
    ∙ map-append hand_of (reverse xs) (x ∷ [])
    ∙ ap (λ (ks : List Hand). ks ++ hand_of x ∷ []) (map_reverse xs)
    ∙ sym (reverse-append (hand_of x ∷ []) (hands_of xs))

twice : (ks : List Hand) → reverse (reverse ks) ≡ ks
twice [] = refl
twice (k ∷ ks) = ap reverse (reverse-append (k ∷ []) ks) ∙ reverse-append (reverse ks) (k ∷ []) ∙ ap (λ (zs : List Hand). k ∷ zs) (twice ks)

pub back : (xs ys : List Kept) → ys ≡ reverse xs → hands_of xs ≡ reverse (hands_of ys)
back xs ys is = sym (twice (hands_of xs)) ∙ ap reverse (sym (map_reverse xs)) ∙ ap (λ (zs : List Kept). reverse (hands_of zs)) (sym is)
