-- passes that a table made, split off and joined, as queues of all kinds show them
use Rattle.std.proofs.Common.{◌≡◌, ℕ, suc, ◌+◌, ◌<◌, List, [], ◌∷◌, ◌++◌, sym, ap, ◌∙◌, subst, arith, append-nil, ⊎_elim}
use mathlib.Core.List.{Mem, mem-cons_of_mem, mem-cons_self}
use Rattle.queue_model.specs.declared.deeds.Deed.{Deed}
use Rattle.queue_model.specs.declared.rows.Slip.{Slip}
use Rattle.queue_model.specs.History.{own, after, Legal}
use Rattle.acts_core.specs.Load.{Load}
use Rattle.acts_core.specs.Sight.{Kind, Listed, Build, Sight}
use Rattle.entry_table.specs.declared.entries.Entries.{Entries}
use Rattle.entry_table.specs.declared.pass.Pass.{Pass}
use Rattle.entry_table.specs.declared.view.Shape.{Shape}
use Rattle.entry_table.specs.Passes.{view, opening, seen, callers, allowance, share}
use Rattle.entry_table.specs.Plays.{Steps, DidSplit, Joined}
use Rattle.entry_table.specs.Rule.{below}
use Rattle.entry_table.specs.Sights.{sight, build_of, Serves}
use Rattle.entry_table.specs.Starting.{IsMade}
use Rattle.entry_table.specs.Views.{Has, caller_of, rest_of}
use Rattle.entry_table.proofs.Concerning.{in_has}
use Rattle.entry_table.proofs.Sighting.{mem_in, others_stay}
use Rattle.entry_table.proofs.Serving.{sight_boss, sight_made, sight_joined}
use Rattle.any_queue.specs.Kinds.{built}
use Rattle.any_queue.specs.Parting.{IsFresh, MayPart, IsSplit, IsJoined, IsLast}

-- Members

pub has_mem : (k : ℕ) (xs : List ℕ) → Has k xs → Mem k xs
has_mem k [] h = absurd h
has_mem k (x ∷ xs) h = ⊎_elim
    (λ (e : x ≡ k). subst (λ (n : ℕ). Mem n (x ∷ xs)) e mem-cons_self)
    (λ (t : Has k xs). mem-cons_of_mem x (has_mem k xs t))
    h

pub mem_has : (k : ℕ) (xs : List ℕ) → Mem k xs → Has k xs
mem_has k xs m = in_has k xs (mem_in k xs m)

own_same : (k : ℕ) (s0 s1 : List Deed) → own k s1 ≡ own k s0 ++ [] → own k s1 ≡ own k s0
own_same k s0 s1 e = e ∙ append-nil (own k s0)

-- Passes

-- what the pass's own caller did
own_none : (p : Pass) (s1 : List Deed) → Steps (opening p) (caller_of (callers p)) (callers p) (view p).consumers (seen p) s1 [] → own p.caller s1 ≡ own p.caller (seen p)
own_none p s1 t = subst (λ (h : ℕ). own h s1 ≡ own h (seen p)) (ap caller_of p.speaks) (own_same (caller_of (callers p)) (seen p) s1 t.own_more)

-- nor did those that ended before it
idle_ended : (p : Pass) (s1 : List Deed) → Steps (opening p) (caller_of (callers p)) (callers p) (view p).consumers (seen p) s1 []
    → (k : ℕ) → Mem k (sight p).ended → own k s1 ≡ own k (seen p)
idle_ended p s1 t k m =
    let within : Mem k (callers p) = subst (Mem k) (sym p.speaks) (mem-cons_of_mem p.caller m) in
    others_stay (callers p) (view p).consumers (suc k) k (seen p) s1 [] (mem_in k (callers p) within) (λ e. omega (arith, e)) t.concern_more

pub is_fresh : {C : Type 0} (load : C → Load) (lists rows consumed : ℕ) (start : List (Slip × C)) (e : Entries C) (p : Pass) → IsMade load lists rows consumed start e p → IsFresh load Listed lists rows consumed start (build_of e) (sight p)
is_fresh load lists rows consumed start e p m = record {
  build_is = ap (built Listed) m.rows_is;
  lists_is = ap (λ (l : List Deed). (after (opening p) l).lists) (sym m.seen_is) ∙ p.within.lists ∙ ap (λ (z : Shape). z.lists) m.pass.shape ∙ m.lists_is;
  consumers_is = ap (λ (l : List Deed). (after (opening p) l).consumers) (sym m.seen_is) ∙ p.within.consumers ∙ ap (λ (z : Shape). z.consumers) m.pass.shape ∙ m.consumers_is;
  opened = m.opened;
  started = m.started;
  allowance = m.allowed;
  share = m.shared;
  sight = λ i. record {
    opening = opening p;
    caller = m.caller i;
    consumers = m.served i;
    allowance = allowance p;
    share = share p;
    ended = rest_of (m.callers_is i);
    made = m.made i;
    seen = m.seen_is i;
    shown = m.shown_is i;
    turns = 0;
  };
}

-- the table serves the boss's pass, which has seen nothing
pub made_serves : {C : Type 0} (load : C → Load) (lists rows consumed : ℕ) (start : List (Slip × C)) (e : Entries C) (p : Pass) → IsMade load lists rows consumed start e p → Serves e p
made_serves load lists rows consumed start e p m = record { pass = m.pass; legal = subst (Legal (opening p)) (sym m.seen_is) tt; opening = m.opened }

pub is_split : (old new made : Pass) (cs : List ℕ) (n : ℕ) → old.caller ≡ 0 → new.caller ≡ old.caller → made.caller ≡ (view old).made → DidSplit (view old) (view new) (view made) cs n → IsSplit (sight old) (sight new) (sight made) cs n
is_split old new made cs n boss same number d = record {
  grows = d.went.steps.prefix;
  legal = d.went.steps.legal;
  own_acts = own_none old (seen new) d.went.steps;
  unmade = d.went.bound (ap caller_of old.speaks ∙ boss);
  boss_is = sight_boss old new made cs n same d;
  new_is = sight_made old new made cs n number d;
}

pub is_joined : (old gone new : Pass) → new.caller ≡ old.caller → Joined (view old) (view gone) (view new) → IsJoined (sight old) (sight gone) (sight new)
is_joined old gone new same j = record {
  grows = j.mine.prefix;
  tells = j.gone.prefix;
  legal = j.mine.legal;
  own_acts = own_none old (seen new) j.mine;
  ended_acts = idle_ended old (seen new) j.mine;
  unmade = λ boss k high. j.went.bound (ap (λ (hs : List ℕ). caller_of (hs ++ callers gone)) old.speaks ∙ boss) k high;
  gone_acts = λ k m. j.gone.callers k (mem_has k (callers gone) (subst (Mem k) (sym gone.speaks) m));
  sight =
      sight_joined old gone new same old.speaks j
      ∙ ap (λ (ks : List ℕ). record (sight old) {
        consumers = (view old).consumers ++ (view gone).consumers;
        allowance = allowance old + allowance gone;
        share = share old + share gone;
        ended = rest_of (callers old) ++ ks;
        seen = seen new;
      }) gone.speaks;
}

-- of the pass that is left, every caller
pub all_callers : (p : Pass) → IsLast (sight p) → (k : ℕ) → k < (view p).made → Has k (callers p)
all_callers p last k low = mem_has k (callers p) (subst (Mem k) (sym p.speaks) (last.every k low))

-- of the consumers that the boss may part with, each is its own
pub parts : (p : Pass) (cs : List ℕ) (n : ℕ) → MayPart (sight p) cs n → (c : ℕ) → Has c cs → Has c (view p).consumers
parts p cs n may c has = mem_has c (view p).consumers (may.has c (has_mem c cs has))

-- the boss's pass of a new queue of one consumer has it
pub has_only : {C : Type 0} (load : C → Load) (kind : Kind) (lists rows n : ℕ) (start : List (Slip × C)) (build : Build) (s : Sight) → IsFresh load kind lists rows n start build s → n ≡ 1 → Mem 0 s.consumers
has_only load kind lists rows n start build s f one = subst (Mem 0) (sym (ap (λ (z : Sight). z.consumers) f.sight ∙ ap below one)) mem-cons_self
