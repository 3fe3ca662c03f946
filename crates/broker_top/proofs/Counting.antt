-- phases that go on and are counted
use Rattle.std.proofs.Common.{◌≡◌, ℕ, ◌+◌, ◌<◌, ◌^◌, arith, None, List, [], ◌∷◌, ◌++◌, append-nil, length, sym, ap, ◌∙◌, subst}
use Rattle.std.proofs.lemmas.Grind.{flat_map-append}
use Rattle.std.proofs.lemmas.List.{length-append}
use Rattle.script_read.specs.Allowed.{all_ops, ops_in}
use Rattle.script_read.specs.Phases.{Actors}
use Rattle.target_core.specs.Seats.{Seats}
use Rattle.account_core.specs.Accounts.{Account, SameSeats}
use Rattle.account_core.specs.Phases.{ArePhases, nothing}
use Rattle.account_core.specs.Texts.{run_text}
use Rattle.phase_core.specs.Phased.{Lefts}
use Rattle.phase_queues.specs.Left.{rows_left}
use Rattle.broker_top.specs.Generated.{Tallied}
use Rattle.broker_top.specs.Job.{IsRunnable, Script}
use Rattle.broker_top.specs.OnePhase.{IsEmpty, Leaves}
use Rattle.broker_top.specs.Phases.{RanTo}
use Rattle.broker_top.specs.Summary.{HasRoom, all_answers, answers_in, counted, entries_in, nothing_counted, plus}
use Rattle.broker_top.specs.declared.tally.Tally.{Tally}
use Rattle.broker_top.proofs.Phasing.{GoesOn, begins, begins_accounts, goes_on, goes_on_accounts, ran_so_far, same_seats}
use Rattle.broker_top.proofs.Tallying.{answers_few, counted_append, room_on}

-- the phases in front of these ran, and their answers were counted; there is room for those of these
pub record CountsOn (script : Script) (seats seats' : Seats) (t : Tally) (lefts : Lefts) (rest : List Actors) : Type 0 where
  pub on : GoesOn script seats seats' None None lefts rest
  pub answers : t ≡ counted (all_answers on.accounts)
  pub room : HasRoom t (length (all_ops rest))

pub counts_begin : (script : Script) (seats : Seats) (lefts : Lefts) → IsRunnable script → IsEmpty script.defs lefts → length (all_ops script.phases) < 2 ^ 64 → CountsOn script seats seats nothing_counted lefts script.phases
counts_begin script seats lefts runs empty few = record {
  on = begins script seats None lefts runs empty;
  answers = sym (ap (λ (accounts : List Account). counted (all_answers accounts)) (begins_accounts script seats None lefts runs empty));
  room = record { put = omega (arith, few); got = omega (arith, few); acked = omega (arith, few) };
}

all_answers_more : (accounts : List Account) (a : Account) → all_answers (accounts ++ a ∷ []) ≡ all_answers accounts ++ answers_in a
all_answers_more accounts a =
    flat_map-append answers_in accounts (a ∷ []) ∙ ap (λ (xs : _). all_answers accounts ++ xs) (append-nil (answers_in a))

module _ (script : Script) (seats mid : Seats) (t : Tally) (lefts : Lefts) (p : Actors) (rest : List Actors) (c : CountsOn script seats mid t lefts (p ∷ rest)) where
  pub room_of_phase : HasRoom t (length (ops_in p))
  room_of_phase = (let long = length-append (ops_in p) (all_ops rest) in record {
    put = omega (arith, long, c.room.put);
    got = omega (arith, long, c.room.got);
    acked = omega (arith, long, c.room.acked);
  })

  pub counts_go_on : (seats' : Seats) (t' : Tally) (lefts' : Lefts) (account : Account) → Leaves script.defs lefts p mid seats' account lefts' → t' ≡ plus t (counted (answers_in account)) → CountsOn script seats seats' t' lefts' rest
  counts_go_on seats' t' lefts' account leaves is = record {
    on = goes_on script seats mid None None lefts p rest c.on seats' None lefts' account leaves tt;
    answers = is ∙ ap (λ (s : Tally). plus s (counted (answers_in account))) c.answers
        ∙ sym (counted_append (all_answers c.on.accounts) (answers_in account))
        ∙ ap counted (sym (all_answers_more c.on.accounts account))
        ∙ ap (λ (accounts : List Account). counted (all_answers accounts)) (sym (goes_on_accounts script seats mid None None lefts p rest c.on seats' None lefts' account leaves tt));
    room = room_on t t' (answers_in account) [] is (length (all_ops rest)) room_before;
  } where
    room_before : HasRoom t (length (answers_in account) + length (all_ops rest))
    room_before = (let long = length-append (ops_in p) (all_ops rest) in let few = answers_few account p leaves.is_phase.lines in record {
      put = omega (arith, long, few, c.room.put);
      got = omega (arith, long, few, c.room.got);
      acked = omega (arith, long, few, c.room.acked);
    })

pub counts_end : (script : Script) (seats seats' : Seats) (t : Tally) (lefts : Lefts) (left : ℕ) → CountsOn script seats seats' t lefts [] → left ≡ entries_in (rows_left lefts) → Tallied script seats seats' t left
counts_end script seats seats' t lefts left c is = record {
  accounts = c.on.accounts;
  after = seats';
  are_phases = subst (λ (phases : List Actors). ArePhases script.defs (nothing script.defs) seats phases c.on.accounts seats') (sym (c.on.parts ∙ append-nil c.on.done)) c.on.are;
  same = same_seats seats';
  answers = c.answers;
  entries = is ∙ ap entries_in c.on.rows;
}

pub counts_stop : (script : Script) (seats mid seats' : Seats) (t : Tally) (lefts : Lefts) (rest : List Actors) → CountsOn script seats mid t lefts rest → SameSeats mid seats' → (some : ℕ) × (text : List ℕ) × RanTo script some seats seats' text
counts_stop script seats mid seats' t lefts rest c same =
    (length c.on.done, run_text script.defs c.on.accounts, ran_so_far script seats mid seats' None None lefts rest c.on same)
