-- lines that gain an entry
use Rattle.std.proofs.Common.{◌≡◌, ◌≤◌, ℕ, false, Option, Some, None, List, [], ◌∷◌, nat_eq, refl, sym, ap, ◌∙◌, subst, eq-eqb, ne_eqb, arith}
use Rattle.queue_model.specs.declared.rows.Row.{Row}
use Rattle.queue_model.specs.declared.rows.RowState.{RowState}
use Rattle.queue_model.specs.declared.rows.Slip.{Slip}
use Rattle.acts_core.specs.Calls.{CallNext, CallFind, CallSteal, Answer, IsGot, IsEmpty, IsFound, HasStolen, IsNotStealable, IsMoved, acts_of}
use Rattle.acts_core.specs.Load.{Load}
use Rattle.acts_core.specs.Meaning.{Called}
use Rattle.acts_core.specs.Owed.{Has}
use Rattle.acts_core.specs.Sight.{Build, Sight, known, plan_of}
use Rattle.script_read.specs.declared.lines.What.TheVariants.{Steal}
use Rattle.report_core.specs.declared.answers.Answer.TheVariants.{Stole, NotStealable, Moved, Absent}
use Rattle.line_core.specs.Fits.{On, delivered, in_hands, tried}
use Rattle.line_core.specs.Hands.{Hand, gained}
use Rattle.workers_core.specs.Hold.{Hold}
use Rattle.workers_core.specs.Lines.{DidHands}
use Rattle.line_core.specs.Runs.{RanOn, calls_on}
use Rattle.workers_core.proofs.Calls.{keeps_call, keeps_idle, gains_mine}
use Rattle.acts_core.proofs.Passes.{pass_finds, pass_rows}
use Rattle.workers_core.proofs.Holds.{hold_gained, hold_same}
use Rattle.line_core.proofs.Running.{ran_append, ran_call}

-- an entry that a call gained, delivered n times, is in the hands
pub took_hold : (build : Build) (old new : Sight) (q c row list n : ℕ) (load : Load) (hands hands' : List Hand) → Called build old new (CallNext c) (IsGot row list load) → load.count ≤ n
    → hands' ≡ gained (in_hands q row (delivered n load)) hands → Hold old q hands → Hold new q hands'
took_hold build old new q c row list n load hands hands' m more after hold =
    subst (Hold new q) (sym after)
    (hold_gained build old new (CallNext c) (IsGot row list load) q (in_hands q row (delivered n load)) hands m hold refl
    (gains_mine build old new (CallNext c) (IsGot row list load) m q row load n refl more) (keeps_call build old new (CallNext c) (IsGot row list load) m row refl))

-- the hands stay where nothing was got
pub missed_hold : (build : Build) (old new : Sight) (q c : ℕ) (hands : List Hand) → Called build old new (CallNext c) IsEmpty → Hold old q hands → Hold new q hands
missed_hold build old new q c hands m hold = hold_same old new q hands (λ r. keeps_call build old new (CallNext c) IsEmpty m r tt) hold

-- Steals

off : (r q : ℕ) → (r ≡ q → ⊥) → nat_eq q r ≡ false
off r q apart = ne_eqb q r (λ e. apart (sym e))

-- a find, and then a steal
two_ran : (build : Build) (a b c : Sight) (q id row : ℕ) (answer : Answer) → Called build a b (CallFind id) (IsFound (Some row)) → Called build b c (CallSteal row) answer
    → RanOn build (calls_on q (tried q id row answer)) a c
two_ran build a b c q id row answer find steal =
    rw (eq-eqb q q refl) (ran_append build ((CallFind id, IsFound (Some row)) ∷ []) ((CallSteal row, answer) ∷ []) a b c
    (ran_call build a b (CallFind id) (IsFound (Some row)) find) (ran_call build b c (CallSteal row) answer steal))

two_off : (e q id row : ℕ) (answer : Answer) → (e ≡ q → ⊥) → calls_on e (tried q id row answer) ≡ []
two_off e q id row answer apart = rw (off e q apart) refl

-- what was found is a row of the queue
pub came : (build : Build) (a b : Sight) (id row : ℕ) → Called build a b (CallFind id) (IsFound (Some row)) → Has (known b) row
came build a b id row find = let x = pass_finds build a b id row find in (x.0, x.1)

pub found_hold : (build : Build) (a b : Sight) (q id : ℕ) (found : Option ℕ) (hands : List Hand) → Called build a b (CallFind id) (IsFound found) → Hold a q hands → Hold b q hands
found_hold build a b q id found hands find hold = hold_same a b q hands (λ r. keeps_call build a b (CallFind id) (IsFound found) find r tt) hold

pub stole_hold : (build : Build) (b c : Sight) (q row : ℕ) (load : Load) (hands hands' : List Hand) → Called build b c (CallSteal row) (HasStolen load) → hands' ≡ gained (in_hands q row load) hands → Hold b q hands → Hold c q hands'
stole_hold build b c q row load hands hands' steal after hold =
    subst (Hold c q) (sym after)
    (hold_gained build b c (CallSteal row) (HasStolen load) q (in_hands q row load) hands steal hold refl
    (gains_mine build b c (CallSteal row) (HasStolen load) steal q row load load.count refl (omega arith)) (keeps_call build b c (CallSteal row) (HasStolen load) steal row refl))

-- what was stolen has the id that was looked for
stolen_id : (build : Build) (a b c : Sight) (id row : ℕ) (load : Load) → Called build a b (CallFind id) (IsFound (Some row)) → Called build b c (CallSteal row) (HasStolen load) → load.id ≡ id
stolen_id build a b c id row load find steal =
    let x = pass_finds build a b id row find in
    let y = pass_rows build b c (CallSteal row) (HasStolen load) row x.0 steal x.1 in
    let mine = gains_mine build b c (CallSteal row) (HasStolen load) steal 0 row load load.count refl (omega arith) in
    let both : Some y.0 ≡ Some mine.row = sym y.1 ∙ mine.found in
    let same : y.0 ≡ mine.row = cc in
    sym mine.same_id ∙ sym (ap (λ (z : Row). z.slip.id) same) ∙ ap (λ (s : Slip). s.id) y.2.slip ∙ x.2

pub stole : (build : Build) (a b c : Sight) (q id row : ℕ) (load : Load) (hands hands' : List Hand) → Called build a b (CallFind id) (IsFound (Some row)) → Called build b c (CallSteal row) (HasStolen load) → hands' ≡ gained (in_hands q row load) hands
    → DidHands build q a hands (Steal q id) (Stole id) c hands'
stole build a b c q id row load hands hands' find steal after defs s is =
    record {
      dids = tried q id row (HasStolen load);
      fits = (refl, record { row = row; load = load; same_id = stolen_id build a b c id row load find steal; does = record { did = refl; leaves = ap (λ (hs : List Hand). record s { hands = hs }) (after ∙ ap (gained (in_hands q row load)) (sym is)) } });
      here = two_ran build a b c q id row (HasStolen load) find steal;
      elsewhere = λ e apart. two_off e q id row (HasStolen load) apart;
    }

-- a steal that gained nothing
pub not_stolen_hold : (build : Build) (b c : Sight) (q row : ℕ) (answer : Answer) (hands : List Hand) → Called build b c (CallSteal row) answer → acts_of (plan_of build b.opening) (CallSteal row) answer ≡ [] → Hold b q hands → Hold c q hands
not_stolen_hold build b c q row answer hands steal none hold = hold_same b c q hands (λ r. keeps_idle build b c (CallSteal row) answer steal r none (λ k. tt)) hold

pub not_stealable : (build : Build) (a b c : Sight) (q id row : ℕ) (state : RowState) (hands : List Hand) → Called build a b (CallFind id) (IsFound (Some row)) → Called build b c (CallSteal row) (IsNotStealable state) → DidHands build q a hands (Steal q id) (NotStealable state) c hands
not_stealable build a b c q id row state hands find steal defs s is =
    record {
      dids = tried q id row (IsNotStealable state);
      fits = (row, record { did = refl; leaves = ap (λ (hs : List Hand). record s { hands = hs }) (sym is) });
      here = two_ran build a b c q id row (IsNotStealable state) find steal;
      elsewhere = λ e apart. two_off e q id row (IsNotStealable state) apart;
    }

pub moved : (build : Build) (a b c : Sight) (q id row : ℕ) (state : RowState) (hands : List Hand) → Called build a b (CallFind id) (IsFound (Some row)) → Called build b c (CallSteal row) (IsMoved state) → DidHands build q a hands (Steal q id) (Moved state) c hands
moved build a b c q id row state hands find steal defs s is =
    record {
      dids = tried q id row (IsMoved state);
      fits = (row, record { did = refl; leaves = ap (λ (hs : List Hand). record s { hands = hs }) (sym is) });
      here = two_ran build a b c q id row (IsMoved state) find steal;
      elsewhere = λ e apart. two_off e q id row (IsMoved state) apart;
    }

pub absent : (build : Build) (a b : Sight) (q id : ℕ) (hands : List Hand) → Called build a b (CallFind id) (IsFound None) → DidHands build q a hands (Steal q id) Absent b hands
absent build a b q id hands find defs s is =
    record {
      dids = On q (CallFind id) (IsFound None) ∷ [];
      fits = record { did = refl; leaves = ap (λ (hs : List Hand). record s { hands = hs }) (sym is) };
      here = rw (eq-eqb q q refl) (ran_call build a b (CallFind id) (IsFound None) find);
      elsewhere = λ e apart. rw (off e q apart) refl;
    }
