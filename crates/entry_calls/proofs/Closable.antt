-- A table whose rows were all seen at rest by a pass of its own, while nobody else did anything, may be closed.
use Rattle.std.proofs.Common.{◌≡◌, ◌≢◌, ◌⊎◌, inl, inr, ℕ, suc, ◌+◌, ◌<◌, ◌≤◌, Some, List, [], ◌∷◌, ◌++◌, length, refl, sym, ap, ◌∙◌, subst, ⊎_elim, arith, append-nil}
use Rattle.std.proofs.lemmas.Bool.{cases_eq, cases_lt}
use mathlib.Core.List.{IsPrefix}
use Rattle.queue_model.specs.declared.deeds.Deed.{Deed}
use Rattle.queue_model.specs.declared.queues.Queue.{Queue}
use Rattle.queue_model.specs.declared.rows.Row.{Row}
use Rattle.queue_model.specs.declared.rows.RowState.{RowState}
use Rattle.queue_model.specs.declared.rows.RowState.TheVariants.{Available, Locked, Unlocked, Dequeued, Deleted}
use Rattle.queue_model.specs.declared.steps.Step.TheVariants as steps
use Rattle.queue_model.specs.declared.steps.WordName.TheVariants as names
use Rattle.queue_model.specs.History.{after, own}
use Rattle.queue_model.specs.Packing.{pack_state}
use Rattle.queue_model.specs.State.{row_at}
use Rattle.queue_model.proofs.Histories.{own-append, own-cons_mine}
use Rattle.queue_model.proofs.Prefixes.{prefix_self, prefix_trans, prefix_whole, prefix_length}
use Rattle.acts_core.specs.Rest.{Rests}
use Rattle.entry_table.specs.declared.entries.Entries.{Entries}
use Rattle.entry_table.specs.declared.pass.Pass.{Pass}
use Rattle.entry_table.specs.declared.view.Shape.{Shape}
use Rattle.entry_table.specs.declared.view.View.{View}
use Rattle.entry_table.specs.Passes.{IsPassOf, Kept, Did, view, opening, seen, state, callers, consumers}
use Rattle.entry_table.specs.Plays.{Shows, DidSplit, Joined}
use Rattle.entry_table.specs.Resting.{Settled}
use Rattle.entry_table.specs.Views.{Has, caller_of}
use Rattle.entry_table.proofs.Concerning.{has_in}
use Rattle.entry_table.proofs.Sighting.{others_stay}
use Rattle.entry_calls.proofs.Changes.{state_shown}

-- what was seen of rows

-- at some moment between two beginnings of the history row r rested, if it was there
abbrev pub RestedOnce : Queue → List Deed → List Deed → ℕ → Type 0
RestedOnce o s0 s1 r = (at : List Deed) × IsPrefix s0 at × IsPrefix at s1 × ((x : Row) → row_at (after o at) r ≡ Some x → Rests x.state)

-- and so did each row below n
abbrev pub RestedBelow : Queue → List Deed → List Deed → ℕ → Type 0
RestedBelow o s0 s1 n = (r : ℕ) → r < n → RestedOnce o s0 s1 r

-- the pass looked, and its caller did nothing
pub record Idle (old new : Pass) : Type 0 where
  pub kept : Kept old new
  pub grows : IsPrefix (seen old) (seen new)
  pub own_same : own old.caller (seen new) ≡ own old.caller (seen old)

pub idle_self : (p : Pass) → Idle p p
idle_self p = record {
  kept = record { table = refl; caller = refl; shape = refl; opening = refl; callers = refl; made = refl; consumers = refl };
  grows = prefix_self (seen p);
  own_same = refl;
}

pub idle_then : (a b c : Pass) → Idle a b → Kept b c → Did b c [] → Idle a c
idle_then a b c i k d = record {
  kept = record {
    table = k.table ∙ i.kept.table;
    caller = k.caller ∙ i.kept.caller;
    shape = k.shape ∙ i.kept.shape;
    opening = k.opening ∙ i.kept.opening;
    callers = k.callers ∙ i.kept.callers;
    made = k.made ∙ i.kept.made;
    consumers = k.consumers ∙ i.kept.consumers;
  };
  grows = prefix_trans (seen a) (seen b) (seen c) i.grows d.prefix;
  own_same = subst (λ (h : ℕ). own h (seen c) ≡ own h (seen b)) i.kept.caller (d.own_more ∙ append-nil (own b.caller (seen b))) ∙ i.own_same;
}

-- the word that a load showed is that of a row at rest
pub rests_here : (q : Queue) (row n : ℕ) (s : RowState) → Shows (steps.Load (names.State row)) n q → ((z : RowState) → n ≡ pack_state z → s ≡ z) → Rests s → (x : Row) → row_at q row ≡ Some x → Rests x.state
rests_here q row n s shows tells rests x found = subst Rests (tells x.state (state_shown q row n x found shows)) rests

-- one row more
pub rested_more : (o : Queue) (s0 s1 s2 : List Deed) (n : ℕ) → IsPrefix s0 s1 → IsPrefix s1 s2 → RestedBelow o s0 s1 n → ((x : Row) → row_at (after o s2) n ≡ Some x → Rests x.state) → RestedBelow o s0 s2 (n + 1)
rested_more o s0 s1 s2 n p q below last r less = ⊎_elim
    (λ (e : r ≡ n).
    (s2, prefix_trans s0 s1 s2 p q, prefix_self s2, subst (λ (k : ℕ). (x : Row) → row_at (after o s2) k ≡ Some x → Rests x.state) (sym e) last))
    (λ (other : r ≢ n).
    let t = below r (omega (arith, less, other)) in
    (t.0, t.1, prefix_trans t.0 s1 s2 t.2 q, t.3))
    (cases_eq r n)

-- histories

-- what goes on from a history and has no more of anybody is that history
pub nothing_more : (s0 s1 : List Deed) → IsPrefix s0 s1 → ((k : ℕ) → own k s1 ≡ own k s0) → s1 ≡ s0
nothing_more s0 s1 p same = none p.0 p.1 where
  none : (rest : List Deed) → s0 ++ rest ≡ s1 → s1 ≡ s0
  none [] e = sym e ∙ append-nil s0
  none (d ∷ rest) e =
      let more : own d.caller s0 ++ (d ∷ own d.caller rest) ≡ own d.caller s0 =
      ap (λ (l : List Deed). own d.caller s0 ++ l) (sym (own-cons_mine d rest)) ∙ sym (own-append d.caller s0 (d ∷ rest)) ∙ ap (own d.caller) e ∙ same d.caller
      in
      absurd (omega (arith, ap length more, Rattle.std.proofs.Common.length-append (own d.caller s0) (d ∷ own d.caller rest)))

-- what stands between a history and itself is it
between : (s at : List Deed) → IsPrefix s at → IsPrefix at s → at ≡ s
between s at p q = prefix_whole at s q (let a = prefix_length s at p in let b = prefix_length at s q in omega (arith, a, b))

-- callers

-- what stands in one of two lists stands in both together
has_front : (k : ℕ) (xs ys : List ℕ) → Has k xs → Has k (xs ++ ys)
has_front k [] ys has = absurd has
has_front k (x ∷ xs) ys has = ⊎_elim (λ (e : x ≡ k). inl e) (λ (t : Has k xs). inr (has_front k xs ys t)) has

has_behind : (k : ℕ) (xs : List ℕ) → Has k (xs ++ k ∷ [])
has_behind k [] = inl refl
has_behind k (x ∷ xs) = inr (has_behind k xs)

-- with one caller more the pass speaks for all that were made
pub every_more : (n m : ℕ) (xs ys : List ℕ) → n ≡ m + 1 → ys ≡ xs ++ m ∷ [] → ((k : ℕ) → k < m → Has k xs) → (k : ℕ) → k < n → Has k ys
every_more n m xs ys made is every k less = subst (Has k) (sym is) (⊎_elim
    (λ (e : k ≡ m). subst (λ (j : ℕ). Has j (xs ++ m ∷ [])) (sym e) (has_behind m xs))
    (λ (other : k ≢ m). has_front k xs (m ∷ []) (every k (omega (arith, made, less, other))))
    (cases_eq k m))

-- a row at rest is neither held nor dequeued
at_rest : (s : RowState) → Rests s → (s ≢ Dequeued) × ((h : ℕ) → s ≢ Locked h)
at_rest Available r = ((λ e. cc), λ h e. cc)
at_rest (Unlocked k) r = ((λ e. cc), λ h e. cc)
at_rest Deleted r = ((λ e. cc), λ h e. cc)
at_rest (Locked k) r = absurd r
at_rest Dequeued r = absurd r

-- The boss, who spoke for all callers, parted with nothing to a new caller, who only looked at each row and was joined again.
module _ {C : Type 0} (e : Entries C) (old mid other after_looks new : Pass) (d : DidSplit (view old) (view mid) (view other) [] 0) (j : Joined (view mid) (view after_looks) (view new)) (i : Idle other after_looks) where
  callers_mid : callers mid ≡ callers old
  callers_mid = ap (λ (v : View). v.callers) d.boss

  callers_other : callers after_looks ≡ (view old).made ∷ []
  callers_other = i.kept.callers ∙ ap (λ (v : View). v.callers) d.new

  pub callers_new : callers new ≡ callers old ++ (view old).made ∷ []
  callers_new = ap (λ (v : View). v.callers) j.view ∙ (λ k. callers_mid k ++ callers_other k)

  pub made_new : (view new).made ≡ (view old).made + 1
  made_new = ap (λ (v : View). v.made) j.view ∙ ap (λ (v : View). v.made) d.boss

  seen_other : seen other ≡ seen mid
  seen_other = ap (λ (v : View). v.seen) d.new

  opening_mid : opening mid ≡ opening old
  opening_mid = ap (λ (v : View). v.opening) d.boss

  opening_new : opening new ≡ opening mid
  opening_new = ap (λ (v : View). v.opening) j.view

  module _ (boss : old.caller ≡ 0) (number : other.caller ≡ (view old).made) (every : (k : ℕ) → k < (view old).made → Has k (callers old)) where
    first_old : caller_of (callers old) ≡ 0
    first_old = ap caller_of old.speaks ∙ boss

    first_both : caller_of (callers mid ++ callers after_looks) ≡ 0
    first_both = ap (λ (l : List ℕ). caller_of (l ++ callers after_looks)) (callers_mid ∙ old.speaks) ∙ boss

    same_own : (k : ℕ) → own k (seen new) ≡ own k (seen mid)
    same_own k = ⊎_elim
        (λ (low : k < (view old).made).
        others_stay (callers mid) (consumers mid) (suc k) k (seen mid) (seen new) [] (has_in k (callers mid) (subst (Has k) (sym callers_mid) (every k low))) (λ same. omega (arith, same)) j.mine.concern_more)
        (λ (high : (view old).made ≤ k).
        ⊎_elim
        (λ (here : k ≡ (view old).made).
        let mine : own k (seen new) ≡ own k (seen after_looks) = j.gone.callers k (subst (Has k) (sym callers_other) (inl (sym here))) in
        let idle : own k (seen after_looks) ≡ own k (seen other) = subst (λ (h : ℕ). own h (seen after_looks) ≡ own h (seen other)) (number ∙ sym here) i.own_same in
        mine ∙ idle ∙ ap (own k) seen_other)
        (λ (off : k ≢ (view old).made).
        let made : (view mid).made ≡ (view old).made + 1 = ap (λ (v : View). v.made) d.boss in
        j.went.bound first_both k (omega (arith, high, off, made)) ∙ sym (d.went.bound first_old k high))
        (cases_eq k (view old).made))
        (cases_lt k (view old).made)

    pub same_seen : seen new ≡ seen mid
    same_seen = nothing_more (seen mid) (seen new) j.mine.prefix same_own

    pub settles : (rows : ℕ) → rows ≡ e.shape.rows → IsPassOf e mid → RestedBelow (opening other) (seen other) (seen after_looks) rows → Settled (state new)
    settles rows is pass rested r x found =
        let shaped : (view mid).shape.rows ≡ rows = ap (λ (s : Shape). s.rows) pass.shape ∙ sym is in
        let low : r < (view mid).shape.rows = j.went.within.low r x (subst (λ (o : Queue). row_at (after o (seen new)) r ≡ Some x) opening_new found) in
        let t = rested r (omega (arith, low, shaped)) in
        let start : IsPrefix (seen mid) t.0 = subst (λ (l : List Deed). IsPrefix l t.0) seen_other t.1 in
        let end : IsPrefix t.0 (seen mid) = subst (IsPrefix t.0) same_seen (prefix_trans t.0 (seen after_looks) (seen new) t.2 j.gone.prefix) in
        let at : t.0 ≡ seen new = between (seen mid) t.0 start end ∙ sym same_seen in
        let opens : opening other ≡ opening new = ap (λ (v : View). v.opening) d.new ∙ sym (opening_new ∙ opening_mid) in
        at_rest x.state (t.3 x (subst (λ (z : Queue × List Deed). row_at (after z.0 z.1) r ≡ Some x) (λ k. (sym opens k, sym at k)) found))
