-- the script that a number makes may be run, and what is told of the run
use Rattle.std.proofs.Common.{◌≡◌, ℕ, zero, suc, ◌+◌, ◌<◌, ◌≤◌, ◌^◌, ◌&&◌, arith, Bool, true, false, cond, inl, inr, Result, Ok, Err, Option, Some, List, [], ◌∷◌, codes, filter, length, map, refl, sym, ap, ◌∙◌, subst}
use Rattle.std.specs.List.{list_all, range_with_len, sum_by}
use Rattle.std.proofs.lemmas.List.FromFn.{length-range_with_len}
use Rattle.std.proofs.lemmas.List.Sums.{sum_by-cons}
use Rattle.byte_lists.specs.declared.NoMemory.{NoMemory as Memory}
use Rattle.gen_core.specs.Generated.{body_bytes, phases, queue}
use Rattle.gen_core.proofs.Adding.{puts_all, puts_bytes}
use Rattle.gen_core.proofs.Totals.{same_each, sum_all}
use Rattle.defs_read.specs.Allowed.{AreAllowed}
use Rattle.defs_read.specs.Defined.{Defined}
use Rattle.queue_model.specs.Table.{most_entries}
use Rattle.script_read.specs.Allowed.{AreAllowedPhases, all_ops}
use Rattle.script_read.specs.Phases.{Actors}
use Rattle.script_read.specs.declared.lines.Op.{Op}
use Rattle.target_core.specs.Seats.{Seat, Seats, standing}
use Rattle.account_core.specs.Accounts.{Account}
use Rattle.account_core.specs.Phases.{ArePhases, nothing}
use Rattle.account_core.specs.Texts.{run_text}
use Rattle.broker_top.specs.Built.{is_built_line}
use Rattle.broker_top.specs.Ends.{LeavesSource, TaskEnds}
use Rattle.command_status.specs.Told.{Tells}
use Rattle.broker_top.specs.Generated.{Tallied, Tallies, script_of}
use Rattle.broker_top.specs.GeneratedEnds.{EndsGenerated, TellsSummary, TellsTallied}
use Rattle.broker_top.specs.Job.{IsRunnable}
use Rattle.broker_top.specs.Phases.{RanTo}
use Rattle.broker_top.specs.Puts.{all_puts, is_put}
use Rattle.broker_top.specs.Summary.{all_bytes, entries_after, summary, summary_line}
use Rattle.command_line.specs.Tasks.{gen}
use Rattle.broker_top.specs.World.{World}
use Rattle.command_status.specs.declared.status.Status.{Status}
use Rattle.command_status.specs.declared.status.Status.TheVariants.{Done, NoMemory}
use Rattle.broker_top.specs.declared.tally.Tally.{Tally}
use Rattle.broker_top.proofs.Bytes.{NoPolicies, phases_bytes, phases_ok}
use Rattle.broker_top.proofs.Ended.{ran_of}

-- Lines

-- how many lines fail a test, as a sum
abbrev failing : (Op → Bool) → Op → ℕ
failing test op = cond (test op) 0 1

none_fail : (test : Op → Bool) (ops : List Op) → sum_by (failing test) ops ≡ 0 → list_all test ops ≡ true
none_fail test [] e = refl
none_fail test (op ∷ ops) e = by_test (test op) refl (none_fail test ops) where
  by_test : (b : Bool) → test op ≡ b → (sum_by (failing test) ops ≡ 0 → list_all test ops ≡ true) → (test op && list_all test ops) ≡ true
  by_test true is rest = rw is (rest (omega (arith, sum_by-cons (failing test) op ops, e)))
  by_test false is rest = absurd (omega (arith, ap {B = ℕ} (λ (b : Bool). cond b 0 1) is, sum_by-cons (failing test) op ops, e))

puts_sum : (ops : List Op) → all_puts ops ≡ sum_by (λ op. cond (is_put op.what) 1 0) ops
puts_sum [] = refl
puts_sum (op ∷ ops) = by_test (is_put op.what) (puts_sum ops) ∙ sym (sum_by-cons (λ (o : Op). cond (is_put o.what) 1 0) op ops) where
  by_test : (b : Bool) → all_puts ops ≡ sum_by (λ (o : Op). cond (is_put o.what) 1 0) ops
      → length (map (λ (o : Op). o.line) (cond b (op ∷ filter (λ (o : Op). is_put o.what) ops) (filter (λ (o : Op). is_put o.what) ops))) ≡ cond b 1 0 + sum_by (λ (o : Op). cond (is_put o.what) 1 0) ops
  by_test true h = omega (arith, h)
  by_test false h = omega (arith, h)

lines_sum : (ops : List Op) → length ops ≡ sum_by (λ op. 1) ops
lines_sum [] = refl
lines_sum (op ∷ ops) = omega (arith, lines_sum ops, sum_by-cons (λ (o : Op). 1) op ops)

-- The script

module _ (number count : ℕ) (few : count ≤ 100000) where
  lines_built : list_all (λ op. is_built_line op.what) (all_ops (phases number count)) ≡ true
  lines_built =
      none_fail (λ op. is_built_line op.what) (all_ops (phases number count))
      (omega (
        arith,
        sum_all (failing (λ op. is_built_line op.what)) 0 (λ actor c at. refl) number count,
        same_each (λ (i : ℕ). 0) 0 (λ i. refl) (range_with_len 1 count),
      ))

  puts_few : all_puts (all_ops (phases number count)) ≤ most_entries
  puts_few =
      omega (
        arith,
        few,
        puts_sum (all_ops (phases number count)),
        sum_all (λ op. cond (is_put op.what) 1 0) 0 (λ actor c at. refl) number count,
        same_each (λ (i : ℕ). 1) 1 (λ i. refl) (range_with_len 1 count),
        length-range_with_len 1 count,
      )

  pub lines_few : length (all_ops (phases number count)) < 2 ^ 64
  lines_few =
      omega (
        arith,
        few,
        lines_sum (all_ops (phases number count)),
        sum_all (λ op. 1) 2 (λ actor c at. refl) number count,
        same_each (λ (i : ℕ). 1) 1 (λ i. refl) (range_with_len 1 count),
        length-range_with_len 1 count,
      )

  pub may_run : AreAllowed (queue ∷ []) → AreAllowedPhases (queue ∷ []) false (phases number count) → IsRunnable (script_of number count)
  may_run defs phases = record { defs = defs; phases = phases; queues = refl; lines = lines_built; few = puts_few }

  -- and so may definitions and phases that are these
  pub may_run_as : (defs : List Defined) (made : List Actors) → defs ≡ queue ∷ [] → made ≡ phases number count → AreAllowed defs → AreAllowedPhases defs false made → IsRunnable (record { defs = defs; phases = made })
  may_run_as defs made are_defs are_phases allowed runs =
      let P : List Defined → List Actors → Type 0 = λ ds ps. AreAllowedPhases ds false ps in
      subst (λ (ds : List Defined). IsRunnable (record { defs = ds; phases = made })) (sym are_defs)
      (subst (λ (ps : List Actors). IsRunnable (record { defs = queue ∷ []; phases = ps })) (sym are_phases)
      (may_run (subst AreAllowed are_defs allowed) (subst (P (queue ∷ [])) are_phases (subst (λ (ds : List Defined). P ds made) are_defs runs))))

-- The summary

-- its queue has no policy
no_policies : NoPolicies (queue ∷ [])
no_policies zero def at = let same : queue ≡ def = (cc) in ap (λ (d : Defined). d.limits.policy) (sym same)
no_policies (suc q) def at = absurd (cc)

-- the bytes of what was put are those of the messages that are drawn
pub bytes_drawn : (number count : ℕ) (seats seats' : Seats) (accounts : List Account) → ArePhases (queue ∷ []) (nothing (queue ∷ [])) seats (phases number count) accounts seats' → all_bytes accounts ≡ body_bytes number count
bytes_drawn number count seats seats' accounts are = phases_bytes (queue ∷ []) no_policies (nothing (queue ∷ [])) seats seats' (phases number count) accounts are ∙ puts_bytes number count

module _ (number count : ℕ) (result : Status) (handed back : List Seat) (seats seats' : Seats) (opened : seats ≡ map Some handed) (closed : back ≡ standing seats') (written written' : Option (List ℕ)) (faults faults' : ℕ) where
  -- some phases ran, and then memory ran out
  pub ends_unsummed : (some : ℕ) (text : List ℕ) → RanTo (script_of number count) some seats seats' text → Tells result NoMemory (codes "fault: memory\n") written written' faults faults' → EndsGenerated number count result handed back written written' faults faults'
  ends_unsummed some text ran tells =
      inr (
        codes "fault: memory\n",
        record { some = some; unwritten = text; ran = ran_of (script_of number count) some handed back seats seats' text opened closed ran; told = refl },
        tells,
      )

  pub ends_summed : (t : Tally) (left : ℕ) → Tallied (script_of number count) seats seats' t left → TellsSummary (summary_line number count t left (body_bytes number count)) result written written' faults faults' → EndsGenerated number count result handed back written written' faults faults'
  ends_summed t left tallied (inl tells) =
      inl (
        summary_line number count t left (body_bytes number count),
        record {
          accounts = tallied.accounts;
          seats = tallied.after;
          are_phases = subst (λ (s : Seats). ArePhases (queue ∷ []) (nothing (queue ∷ [])) s (phases number count) tallied.accounts tallied.after) opened tallied.are_phases;
          came = record { left = seats'; same = tallied.same; came = closed };
          puts = phases_ok (queue ∷ []) no_policies (nothing (queue ∷ [])) seats tallied.after (phases number count) tallied.accounts tallied.are_phases ∙ puts_all number count;
          bytes = bytes_drawn number count seats tallied.after tallied.accounts tallied.are_phases;
          told = same_line;
        },
        tells,
      ) where
        same_line : summary_line number count t left (body_bytes number count) ≡ summary (queue ∷ []) number count tallied.accounts
        same_line =
            ap (λ (n : ℕ). summary_line number count t left n) (sym (bytes_drawn number count seats tallied.after tallied.accounts tallied.are_phases))
            ∙ ap (λ (n : ℕ). summary_line number count t n (all_bytes tallied.accounts)) tallied.entries
            ∙ ap (λ (s : Tally). summary_line number count s (entries_after (queue ∷ []) tallied.accounts) (all_bytes tallied.accounts)) tallied.answers
  ends_summed t left tallied (inr tells) =
      ends_unsummed 2 (run_text (queue ∷ []) tallied.accounts)
      (record { accounts = tallied.accounts; after = tallied.after; are_phases = tallied.are_phases; same = tallied.same; told = refl }) tells

  pub ends_generated : (tallied : Result (Tally × ℕ) Memory) → Tallies tallied (script_of number count) seats seats' → TellsTallied tallied number count result written written' faults faults' → EndsGenerated number count result handed back written written' faults faults'
  ends_generated (Ok counts) tallied told = ends_summed counts.0 counts.1 tallied told
  ends_generated (Err short) tallied told = ends_unsummed tallied.0 tallied.1 tallied.2 told

pub task_ends : (number count : ℕ) (result : Status) (w w' : World) → LeavesSource (gen number count) w w' → EndsGenerated number count result w.seats w'.seats w.written w'.written w.write_faults w'.write_faults → TaskEnds (gen number count) result w w'
task_ends number count result w w' unread (inl e) = record { status = Done; text = e.0; comes = e.1; source = unread.1; unread = unread; tells = e.2 }
task_ends number count result w w' unread (inr e) = record { status = NoMemory; text = e.0; comes = inr e.1; source = unread.1; unread = unread; tells = e.2 }
