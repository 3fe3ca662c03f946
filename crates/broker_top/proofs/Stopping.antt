-- how phases end
use Rattle.std.proofs.Common.{◌≡◌, ℕ, ◌+◌, ◌≤◌, arith, Option, Result, Ok, Err, List, [], ◌∷◌, ◌++◌, append-nil, length, take, sym, ap, ◌∙◌, subst}
use Rattle.std.proofs.lemmas.List.{length-append}
use Rattle.std.proofs.Math.Seq.{take-append-add}
use Rattle.outside_io.specs.Told.{Adds}
use Rattle.outside_io.proofs.Says.{adds_then}
use Rattle.script_read.specs.Phases.{Actors}
use Rattle.target_core.specs.Seats.{Seats}
use Rattle.account_core.specs.Texts.{account_text, run_text}
use Rattle.phase_core.specs.Phased.{Lefts}
use Rattle.broker_top.specs.Job.{Script}
use Rattle.broker_top.specs.OnePhase.{RunsOne}
use Rattle.broker_top.specs.Phases.{RanTo, RunsPhases}
use Rattle.broker_top.specs.declared.phases.Stopped.{Stopped}
use Rattle.broker_top.specs.declared.phases.Stopped.TheVariants as stopped
use Rattle.broker_top.proofs.Phasing.{GoesOn, ran_so_far, ran_with, same_seats}

-- at the end of the last
pub ended : (script : Script) (seats seats' : Seats) (w w' : Option (List ℕ)) (f g : ℕ) (lefts : Lefts) (u : Unit {0})
    → GoesOn script seats seats' w w' lefts [] → g ≡ f → RunsPhases (Ok u) script seats seats' w w' f g
ended script seats seats' w w' f g lefts u on same =
    let long : length on.done ≡ length script.phases = ap (λ (ps : List Actors). length ps) (sym (on.parts ∙ append-nil on.done)) in
    let ran = ran_so_far script seats seats' seats' w w' lefts [] on (same_seats seats') in
    (run_text script.defs on.accounts, subst (λ (n : ℕ). RanTo script n seats seats' (run_text script.defs on.accounts)) long ran, on.told, same)

-- in front of a phase, or with one
pub stops : (script : Script) (seats mid seats' : Seats) (w w1 w2 : Option (List ℕ)) (f g h : ℕ) (lefts : Lefts) (p : Actors) (rest : List Actors)
    → GoesOn script seats mid w w1 lefts (p ∷ rest) → g ≡ f → (e : Stopped) → RunsOne (Err e) script.defs lefts p mid seats' w1 w2 g h → RunsPhases (Err e) script seats seats' w w2 f h
stops script seats mid seats' w w1 w2 f g h lefts p rest on same stopped.NoMemory r = (
  length on.done,
  run_text script.defs on.accounts,
  ran_so_far script seats mid seats' w w1 lefts (p ∷ rest) on r.0,
  subst (λ (x : Option (List ℕ)). Adds w x (run_text script.defs on.accounts)) (sym r.1) on.told,
  r.2 ∙ same,
)
stops script seats mid seats' w w1 w2 f g h lefts p rest on same stopped.WriteFault r =
    let account = r.0 in
    let front = run_text script.defs on.accounts in
    let last = account_text script.defs account in
    let n = r.2.0 in (
      length (on.done ++ p ∷ []),
      front ++ last,
      ran_with script seats mid w w1 lefts p rest on seats' account r.1,
      (
        length front + n,
        omega (arith, length-append front last, r.2.1),
        subst (Adds w w2) (sym (take-append-add front last n)) (adds_then w w1 w2 front (take n last) on.told r.2.2),
      ),
      r.3 ∙ ap (λ (k : ℕ). k + 1) same,
    )
