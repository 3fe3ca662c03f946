-- takes that are counted for each consumer
use Rattle.std.proofs.Common.{◌≡◌, ◌≢◌, ◌<◌, ◌≤◌, ◌+◌, ℕ, zero, suc, true, false, Some, List, [], ◌∷◌, length, take, replicate, slice_get, slice_set, refl, sym, ap, ◌∙◌, subst, ⊎_elim, arith}
use Rattle.std.specs.Prelude.{get_or}
use Rattle.std.specs.List.{AllByRecursion, count_by}
use Rattle.std.proofs.lemmas.Bool.{cases_eq}
use Rattle.std.proofs.lemmas.Bool.Decides.{nat_tests}
use Rattle.std.proofs.lemmas.List.{get_or-replicate, length-replicate, length-set, length-take}
use Rattle.std.proofs.lemmas.List.Sums.{count_by-le-length, count_by_more_no, count_by_more_yes}
use Rattle.std.proofs.lemmas.Option.{get_or_from_slice_get, slice_get-get_or}
use Rattle.script_read.specs.declared.lines.What.{What}
use Rattle.script_read.specs.declared.lines.What.TheVariants.{Put, Take, Close, Ack, Release, Lock, Unlock, Steal, Begin, Commit, Rollback}
use Rattle.workers_core.specs.Jobs.{takes_for}
use Rattle.workers_core.specs.Made.{TakesWithin}
use Rattle.workers_core.specs.declared.jobs.Job.{Job}
use Rattle.workers_core.proofs.Ones.{set_here, set_other}

-- how many takes there are for consumer c
abbrev pub takes_by : ℕ → List Job → ℕ
takes_by c jobs = count_by (λ j. takes_for c j.op.what) jobs

-- each place has the number of its consumer's takes
pub record Counts (takes : List ℕ) (jobs : List Job) : Type 0 where
  pub places : length takes ≡ 64
  pub counted : (c : ℕ) → c < 64 → slice_get takes c ≡ Some (takes_by c jobs)

pub counts_none : Counts (replicate 64 0) []
counts_none = record {
  places = length-replicate {A = ℕ} 64 0;
  counted = λ c within. slice_get-get_or (replicate 64 0) c 0 (subst (λ (n : ℕ). c < n) (sym (length-replicate {A = ℕ} 64 0)) within) ∙ ap Some (get_or-replicate {A = ℕ} 64 c 0 0 within);
}

-- a line that is no take takes for nobody
pub no_take : (w : What) → ((d : ℕ) → w ≡ Take d → ⊥) → (c : ℕ) → takes_for c w ≡ false
no_take (Take d) other c = absurd (other d refl)
no_take (Put q m) other c = refl
no_take (Close d) other c = refl
no_take (Ack q id) other c = refl
no_take (Release q id) other c = refl
no_take (Lock q id) other c = refl
no_take (Unlock q id) other c = refl
no_take (Steal q id) other c = refl
no_take Begin other c = refl
no_take Commit other c = refl
no_take Rollback other c = refl

-- a take's consumer has a place
within_at : (jobs : List Job) (i : ℕ) (d : Job) → i < length jobs → AllByRecursion (λ (j : Job). TakesWithin j.op.what) jobs → TakesWithin (get_or jobs i d).op.what
within_at [] i d within each = absurd (omega arith)
within_at (job ∷ jobs) zero d within each = each.0
within_at (job ∷ jobs) (suc i) d within each = let w : i < length jobs = omega arith in within_at jobs i d w each.1

pub take_within : (jobs : List Job) (i : ℕ) (job : Job) (c : ℕ) → job ≡ get_or jobs i job → i < length jobs → AllByRecursion (λ (j : Job). TakesWithin j.op.what) jobs → job.op.what ≡ Take c → c < 64
take_within jobs i job c read within each is = subst TakesWithin (ap (λ (j : Job). j.op.what) (sym read) ∙ is) (within_at jobs i job within each)

-- the number of a place is no more than that of the lines
pub count_within : (takes : List ℕ) (jobs : List Job) (i e : ℕ) → i < length jobs → Counts takes (take i jobs) → e < 64 → get_or takes e 0 ≤ i
count_within takes jobs i e within counts below =
    let is : get_or takes e 0 ≡ takes_by e (take i jobs) = get_or_from_slice_get takes e (takes_by e (take i jobs)) 0 (counts.counted e below) in
    omega (arith, is, count_by-le-length (λ (j : Job). takes_for e j.op.what) (take i jobs), length-take i jobs)

module _ (takes : List ℕ) (jobs : List Job) (i : ℕ) (job : Job) (read : job ≡ get_or jobs i job) (within : i < length jobs) (counts : Counts takes (take i jobs)) where
  -- one take more
  pub counts_take : (e : ℕ) (takes' : List ℕ) → e < 64 → job.op.what ≡ Take e → takes' ≡ slice_set takes e (get_or takes e 0 + 1) → Counts takes' (take (i + 1) jobs)
  counts_take e takes' below is set = subst (λ (ts : List ℕ). Counts ts (take (i + 1) jobs)) (sym set) (record {
    places = length-set takes e (get_or takes e 0 + 1) ∙ counts.places;
    counted = λ c less. ⊎_elim (λ (same : c ≡ e). here c same) (λ (other : c ≢ e). there c less other) (cases_eq c e);
  })
    where
      n : ℕ
      n = takes_by e (take i jobs)

      had : get_or takes e 0 ≡ n
      had = get_or_from_slice_get takes e n 0 (counts.counted e below)

      line : (get_or jobs i job).op.what ≡ Take e
      line = ap (λ (j : Job). j.op.what) (sym read) ∙ is

      yes : takes_for e (get_or jobs i job).op.what ≡ true
      yes = ap (takes_for e) line ∙ grind (arith, nat_tests)

      here : (c : ℕ) → c ≡ e → slice_get (slice_set takes e (get_or takes e 0 + 1)) c ≡ Some (takes_by c (take (i + 1) jobs))
      here c same = subst (λ (k : ℕ). slice_get (slice_set takes e (get_or takes e 0 + 1)) k ≡ Some (takes_by k (take (i + 1) jobs))) (sym same)
          (set_here takes e (get_or takes e 0 + 1) n (counts.counted e below) ∙ ap (λ (k : ℕ). Some (k + 1)) had ∙ ap Some (sym (count_by_more_yes (λ (j : Job). takes_for e j.op.what) jobs i job within yes)))

      there : (c : ℕ) → c < 64 → c ≢ e → slice_get (slice_set takes e (get_or takes e 0 + 1)) c ≡ Some (takes_by c (take (i + 1) jobs))
      there c less other =
          let no : takes_for c (get_or jobs i job).op.what ≡ false = ap (takes_for c) line ∙ grind (arith, nat_tests) in
          set_other takes e c (get_or takes e 0 + 1) other ∙ counts.counted c less ∙ ap Some (sym (count_by_more_no (λ (j : Job). takes_for c j.op.what) jobs i job within no))

  -- a line that takes nothing
  pub counts_other : ((c : ℕ) → takes_for c job.op.what ≡ false) → Counts takes (take (i + 1) jobs)
  counts_other none = record {
    places = counts.places;
    counted = λ c less. counts.counted c less ∙ ap Some (sym (count_by_more_no (λ (j : Job). takes_for c j.op.what) jobs i job within (ap (λ (j : Job). takes_for c j.op.what) (sym read) ∙ none c)));
  }
