-- each step that fits is its deed, and so is each list of steps
use Rattle.std.proofs.Common.{replicate, ◌≡◌, ℕ, suc, ◌+◌, ◌^◌, Result, Ok, Err, Bool, true, false, cond, List, [], ◌∷◌, sym, subst, ⊎_elim, eqb-true}
use Rattle.std.specs.Prelude.{◌%◌}
use Rattle.std.proofs.lemmas.Bool.{cases_Bool, ltb-true}
use Rattle.queue_model.specs.declared.queues.Queue.{Queue}
use Rattle.queue_model.specs.declared.steps.Step.{Step}
use Rattle.queue_model.specs.declared.steps.Step.TheVariants.{Draw, Draft, Link, HelpTail, Load, State, Unlink, Ring, TakeBell, Mark, Count, Reset, Reserve, GiveBack}
use Rattle.queue_model.specs.History.{after, Legal, deeds_of}
use Rattle.queue_model.specs.State.{empty}
use Rattle.queue_model.proofs.Histories.{after-append, legal-append}
use Rattle.link_core.specs.Fresh.{fresh}
use Rattle.link_core.specs.Laws.{Law}
use Rattle.queue_model.specs.Packing.{pack_state}
use Rattle.link_core.specs.Stands.{Stands}
use Rattle.link_core.specs.Steps.{Fits, size_in, shown, hits, changed_by, acts_in, moved, deed, AllFit, all_moved, all_deeds}
use Rattle.link_core.specs.Advanced.{Advances}
use Rattle.link_core.specs.declared.stepping.Unfit.{Unfit}
use Rattle.link_core.specs.declared.store.Store.{Store}
use Rattle.link_core.specs.Kept.{IsLong, IsKept, table_in}
use Rattle.link_core.specs.Table.{Table, top}
use Rattle.link_core.proofs.Changing.{state_step}
use Rattle.link_core.proofs.Drawing.{draw_kept, draft_kept}
use Rattle.link_core.proofs.Helping.{help_step}
use Rattle.link_core.proofs.Linking.{link_step}
use Rattle.link_core.proofs.Making.{fresh_stands}
use Rattle.link_core.proofs.Marking.{mark_step, count_kept}
use Rattle.link_core.proofs.Reserving.{reserve_kept, give_back_kept}
use Rattle.link_core.proofs.Ringing.{ring_step, take_step}
use Rattle.link_core.proofs.Unlinking.{unlink_step}

-- a step that changes its word
pub hit_step : (t : Table) (q : Queue) (h : ℕ) (step : Step) → Stands t q → Fits t h step → hits t step ≡ true → Legal q (deeds_of h (acts_in t step)) × Stands (changed_by t h step) (after q (deeds_of h (acts_in t step)))
hit_step t q h Draw s fits hit = (tt, draw_kept t q h s (ltb-true (top t) t.rows hit))
hit_step t q h (Draft r w value) s fits hit = (tt, draft_kept t q h r w value s fits)
hit_step t q h (Link r node) s fits hit = let p = link_step t q h r node (replicate (size_in t r) 0) [] 0 s fits (eqb-true (shown t (Link r node)) 0 hit) in ((p.0, tt), p.1)
hit_step t q h (HelpTail l from to) s fits hit = (tt, help_step t q h l from to s fits)
hit_step t q h (Load name) s fits hit = let bad : false ≡ true = hit in absurd (cc)
hit_step t q h (State r change from) s fits hit = let p = state_step t q h r 0 change from s fits (eqb-true (shown t (State r change from)) (pack_state from) hit) in ((p.0, tt), p.1)
hit_step t q h (Unlink at from to) s fits hit = (tt, unlink_step t q at from to s fits h (eqb-true (shown t (Unlink at from to)) (suc from) hit))
hit_step t q h (Ring c r) s fits hit = let p = ring_step t q h c r s fits in ((p.0, tt), p.1)
hit_step t q h (TakeBell c l) s fits hit = let p = take_step t q h c l s fits.0 fits.1 in ((p.0, tt), p.1)
hit_step t q h (Mark l n) s fits hit = (tt, mark_step t q h l n s fits)
hit_step t q h (Count l) s fits hit = (tt, count_kept t q h l ((shown t (Count l) + 1) % 2 ^ 64) s fits)
hit_step t q h (Reset l) s fits hit = (tt, count_kept t q h l 0 s fits)
hit_step t q h (Reserve size) s fits hit = let p = reserve_kept t q h size s fits.0 fits.1 in ((p.0, tt), p.1)
hit_step t q h (GiveBack size) s fits hit = let p = give_back_kept t q h size s fits in ((p.0, tt), p.1)

-- a step, whether it changes its word or not
pub one_step : (t : Table) (q : Queue) (h : ℕ) (step : Step) → Stands t q → Fits t h step → Legal q (deed t h step) × Stands (moved t h step) (after q (deed t h step))
one_step t q h step s fits = ⊎_elim
    (λ (hit : hits t step ≡ true).
    subst (λ (b : Bool). Legal q (cond b (deeds_of h (acts_in t step)) []) × Stands (cond b (changed_by t h step) t) (after q (cond b (deeds_of h (acts_in t step)) []))) (sym hit) (hit_step t q h step s fits hit))
    (λ (miss : hits t step ≡ false).
    subst (λ (b : Bool). Legal q (cond b (deeds_of h (acts_in t step)) []) × Stands (cond b (changed_by t h step) t) (after q (cond b (deeds_of h (acts_in t step)) []))) (sym miss) (tt, s))
    (cases_Bool (hits t step))

-- all steps in order
pub all_steps : (t : Table) (q : Queue) (steps : List (ℕ × Step)) → Stands t q → AllFit t steps → Legal q (all_deeds t steps) × Stands (all_moved t steps) (after q (all_deeds t steps))
all_steps t q [] s fit = (tt, s)
all_steps t q (x ∷ xs) s fit =
    let one = one_step t q x.0 x.1 s fit.0 in
    let rest = all_steps (moved t x.0 x.1) (after q (deed t x.0 x.1)) xs one.1 fit.1 in (
      legal-append q (deed t x.0 x.1) (all_deeds (moved t x.0 x.1) xs) one.0 rest.0,
      subst (λ (p : Queue). Stands (all_moved (moved t x.0 x.1) xs) p) (sym (after-append q (deed t x.0 x.1) (all_deeds (moved t x.0 x.1) xs))) rest.1,
    )

-- from a fresh table on
pub law : Law
law lists rows consumers callers steps few_rows few_consumers few_callers fit =
    all_steps (fresh lists rows consumers callers) (empty lists consumers) steps (fresh_stands lists rows consumers callers few_rows few_consumers few_callers) fit

-- the vectors keep a table after each step, whatever it answers
pub kept_advanced : (s new : Store) (r : Result ℕ Unfit) (h : ℕ) (step : Step) → IsKept s → IsLong new → Advances r (table_in s) (table_in new) h step → IsKept new
kept_advanced s new (Ok word) h step kept long a = record {
  long = long;
  queue = after kept.queue (deed (table_in s) h step);
  stands = subst (λ (t : Table). Stands t (after kept.queue (deed (table_in s) h step))) (sym a.2) (one_step (table_in s) kept.queue h step kept.stands a.0.1).1;
}
kept_advanced s new (Err e) h step kept long a = record { long = long; queue = kept.queue; stands = subst (λ (t : Table). Stands t kept.queue) (sym a.1) kept.stands }
