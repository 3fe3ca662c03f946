-- the text of a phase that was played
use Rattle.std.proofs.Common.{◌≡◌, ℕ, List, [], ◌∷◌, map, refl, sym, ap, ◌∙◌, subst}
use Rattle.std.specs.List.{All}
use Rattle.defs_read.specs.Defined.{Defined}
use Rattle.script_read.specs.Phases.{Actors}
use Rattle.script_read.specs.declared.lines.Op.{Op}
use Rattle.target_core.specs.Seats.{Seats}
use Rattle.phase_text.specs.Logs.{FitsLog, FitsRest, phase_text}
use Rattle.account_core.specs.Stories.{Story}
use Rattle.account_core.specs.Texts.{account_text, actor_names, queue_names}
use Rattle.account_core.proofs.Telling.{account_told}
use Rattle.phase_core.specs.Phased.{Lefts, PlaysPhase}
use Rattle.phase_core.specs.declared.phases.PhaseEnd.{PhaseEnd}
use Rattle.broker_top.specs.OnePhase.{Leaves}

named : (stories : List Story) → map (λ (a : List ℕ × List Op). a.0) (map (λ (s : Story). (s.name, s.ops)) stories) ≡ actor_names stories
named [] = refl
named (s ∷ stories) = ap (λ (names : List (List ℕ)). s.name ∷ names) (named stories)

module _ (defs : List Defined) (lefts : Lefts) (actors : Actors) (seats seats' : Seats) (e : PhaseEnd) (queues names : List (List ℕ)) (plays : PlaysPhase defs lefts actors seats seats' e) (of_queues : queues ≡ queue_names defs) (of_actors : names ≡ map (λ (a : List ℕ × List Op). a.0) actors) where
  are_names : names ≡ actor_names plays.account.stories
  are_names = of_actors ∙ sym (ap (λ (xs : Actors). map (λ (a : List ℕ × List Op). a.0) xs) plays.is_phase.lines) ∙ named plays.account.stories

  pub logs_fit : All (FitsLog queues names) e.logs.items
  logs_fit = rw (of_queues, are_names) plays.named_logs

  pub rests_fit : All (FitsRest names) e.rests.items
  rests_fit = rw are_names plays.named_rests

  pub told : phase_text queues names e.logs.items e.rests.items ≡ account_text defs plays.account
  told = rw (of_queues, are_names) (account_told defs plays.account e.logs.items e.rests.items plays.logs plays.rests)

  pub leaves : Leaves defs lefts actors seats seats' plays.account e.left.items
  leaves = record { is_phase = plays.is_phase; left = plays.left; stay = plays.stay; gains = plays.gains }
