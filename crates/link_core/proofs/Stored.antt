-- what the writes of a step make of the vectors is the table that the step leaves
use Rattle.std.proofs.Common.{◌≡◌, ◌≢◌, ℕ, ◌<◌, Option, List, length, get_or, set, refl, sym, ap, ◌∙◌, subst, ⊎_elim, get_or-set_same, get_or-set_other}
use Rattle.std.proofs.lemmas.Bool.{cases_eq}
use Rattle.queue_model.specs.declared.queues.Reservation.{Reservation}
use Rattle.queue_model.specs.declared.steps.Change.TheVariants.{Acq, Lock, Unlock, Steal, Rel, Deq, Del}
use Rattle.queue_model.specs.declared.steps.Step.{Step}
use Rattle.queue_model.specs.declared.steps.Step.TheVariants.{Draw, Draft, Link, HelpTail, Load, State, Unlink, Ring, TakeBell, Mark, Count, Reset, Reserve, GiveBack}
use Rattle.link_core.specs.Kept.{drawers_of}
use Rattle.link_core.specs.Steps.{changed_by, place_of_step, word_after, drawer_after, reserves_after}
use Rattle.link_core.specs.Table.{Table, top, but}
use Rattle.link_core.proofs.Frames.{but_here, but_else}

-- what is reserved after a step is still the caller's
reserves_holder : (t : Table) (h : ℕ) (step : Step) → (reserves_after t h step).holder ≡ (t.reserved h).holder
reserves_holder t h Draw = refl
reserves_holder t h (Draft r w value) = refl
reserves_holder t h (Link r node) = refl
reserves_holder t h (HelpTail l from to) = refl
reserves_holder t h (Load name) = refl
reserves_holder t h (State r Acq from) = refl
reserves_holder t h (State r Lock from) = refl
reserves_holder t h (State r Unlock from) = refl
reserves_holder t h (State r Steal from) = refl
reserves_holder t h (State r Rel from) = refl
reserves_holder t h (State r Deq from) = refl
reserves_holder t h (State r Del from) = refl
reserves_holder t h (Unlink at from to) = refl
reserves_holder t h (Ring c r) = refl
reserves_holder t h (TakeBell c l) = refl
reserves_holder t h (Mark l n) = refl
reserves_holder t h (Count l) = refl
reserves_holder t h (Reset l) = refl
reserves_holder t h (Reserve size) = refl
reserves_holder t h (GiveBack size) = refl

module _ (rows lists consumers callers : ℕ) where
  -- the table of these lists
  abbrev pub listed : List ℕ → List (Option ℕ) → List ℕ → List ℕ → Table
  listed words drawers entries bytes = record {
    rows = rows;
    lists = lists;
    consumers = consumers;
    callers = callers;
    words = words;
    drawer = drawers_of drawers;
    reserved = λ h. record { holder = h; entries = get_or entries h 0; bytes = get_or bytes h 0 };
  }

  module _ (words entries bytes : List ℕ) (drawers : List (Option ℕ)) (h : ℕ) (step : Step) where
    reserved_same : (v : Reservation) (k : ℕ) → h < length entries → h < length bytes → v.holder ≡ h
        → record { holder = k; entries = get_or (set entries h v.entries) k 0; bytes = get_or (set bytes h v.bytes) k 0 } ≡ but (listed words drawers entries bytes).reserved h v k
    reserved_same v k le lb own = ⊎_elim
        (λ (e : k ≡ h). subst (λ (n : ℕ). record { holder = n; entries = get_or (set entries h v.entries) n 0; bytes = get_or (set bytes h v.bytes) n 0 } ≡ but (listed words drawers entries bytes).reserved h v n) (sym e)
        (let same : record { holder = h; entries = get_or (set entries h v.entries) h 0; bytes = get_or (set bytes h v.bytes) h 0 } ≡ v =
        (λ i. record { holder = sym own i; entries = get_or-set_same entries h v.entries 0 le i; bytes = get_or-set_same bytes h v.bytes 0 lb i }) in
        same ∙ sym (but_here (listed words drawers entries bytes).reserved h v)))
        (λ (ne : k ≢ h).
        let same : record { holder = k; entries = get_or (set entries h v.entries) k 0; bytes = get_or (set bytes h v.bytes) k 0 } ≡ (listed words drawers entries bytes).reserved k =
        (λ i. record { holder = k; entries = get_or-set_other entries h k v.entries 0 ne i; bytes = get_or-set_other bytes h k v.bytes 0 ne i }) in
        same ∙ sym (but_else (listed words drawers entries bytes).reserved h v k ne))
        (cases_eq k h)

    -- all writes together
    pub changed_same : (words' : List ℕ) (drawers' : List (Option ℕ)) (v : Reservation)
        → words' ≡ set words (place_of_step rows words step) (word_after (listed words drawers entries bytes) h step)
        → drawers_of drawers' ≡ drawer_after (drawers_of drawers) (top (listed words drawers entries bytes)) h step
        → v ≡ reserves_after (listed words drawers entries bytes) h step
        → h < length entries → h < length bytes
        → listed words' drawers' (set entries h v.entries) (set bytes h v.bytes) ≡ changed_by (listed words drawers entries bytes) h step
    changed_same words' drawers' v we de ve le lb =
        let own : v.holder ≡ h = ap (λ (u : Reservation). u.holder) ve ∙ reserves_holder (listed words drawers entries bytes) h step in
        let reserved : (k : ℕ) → record { holder = k; entries = get_or (set entries h v.entries) k 0; bytes = get_or (set bytes h v.bytes) k 0 } ≡ but (listed words drawers entries bytes).reserved h (reserves_after (listed words drawers entries bytes) h step) k =
        λ k. reserved_same v k le lb own ∙ ap (λ (u : Reservation). but (listed words drawers entries bytes).reserved h u k) ve in
        λ i. record { rows = rows; lists = lists; consumers = consumers; callers = callers; words = we i; drawer = de i; reserved = λ k. reserved k i }
