-- what holds of lines that were accepted, one after the other
use Rattle.std.proofs.Common.{◌≡◌, ℕ, ◌+◌, ◌≤◌, Bool, true, false, cond, not, ◌||◌, List, [], ◌∷◌, ◌++◌, length, Option, Some, None, Result, Ok, Err, refl, sym, ap, subst, ◌∙◌, arith}
use Rattle.std.specs.Prelude.{◌&&◌, ◌==◌, nat_le, slice_get}
use Rattle.std.specs.List.{AllByRecursion, count_by, list_any}
use Rattle.std.proofs.lemmas.List.Sums.{sum_by-append}
use Rattle.fields_read.specs.Faults.{cause_if}
use Rattle.fields_read.specs.Forms.{first_of}
use Rattle.defs_read.specs.Defined.{Defined, consumers_in}
use Rattle.defs_read.specs.declared.defs.ConsumerDef.{ConsumerDef}
use Rattle.defs_read.proofs.Apart.{none_distinct}
use Rattle.script_read.specs.Allowed.{AreAllowedPhases, IsAllowedPhase, IsKept}
use Rattle.script_read.specs.Phases.{Actors, open_phase, phases_in, phases_of}
use Rattle.script_read.specs.Reading.{line_says, unless}
use Rattle.script_read.specs.Scripts.{beside, fault_after, goes_on, is_in_phase, is_put_of, line_after, put_causes, puts_this, script_after, script_of}
use Rattle.script_read.specs.SoFar.{ended_with}
use Rattle.script_read.specs.declared.faults.LineFault.{LineFault}
use Rattle.script_read.specs.declared.faults.LineFault.TheVariants.{NoJournal, DoubleId, TooManyActors}
use Rattle.script_read.specs.declared.lines.Line.{Line}
use Rattle.script_read.specs.declared.lines.Line.TheVariants.{Rest, Doing}
use Rattle.script_read.specs.declared.lines.Op.{Op}
use Rattle.script_read.specs.declared.lines.What.{What}
use Rattle.script_read.specs.declared.lines.What.TheVariants.{Put, Take, Close, Ack, Release, Lock, Unlock, Steal, Begin, Commit, Rollback}
use Rattle.script_read.specs.declared.scripts.Script.{Script}
use Rattle.script_read.proofs.DefinedLines.{IsDefinedLine, defined_line}
use Rattle.script_read.proofs.Filed.{count_cons, count_phases, distinct_filed, few_filed, one_if, own_filed}
use Rattle.script_read.proofs.Phases.{ended_doing, ended_rest, phase_doing, phase_rest, phases_split}

-- the phases so far are allowed, and no id was put twice
pub record AreAllowedLines (queues : List Defined) (journal : Bool) (before : List Line) : Type 0 where
  pub ended : AllByRecursion (IsAllowedPhase queues journal) (ended_with [] before)
  pub open_one : IsAllowedPhase queues journal (open_phase before)
  pub once : (queue id : ℕ) → count_by (puts_this queue id) before ≤ 1

-- a script was read whole
pub record ReadAll (queues : List Defined) (journal : Bool) (from : ℕ) (bytes : List ℕ) (script : Script) : Type 0 where
  pub lines : List Line
  pub said : script_of queues journal from bytes ≡ Ok lines
  pub phases : phases_in script ≡ phases_of lines

-- ---- causes that are absent

none_before : {A : Type 0} (xs ys : List (Option A)) → first_of (xs ++ ys) ≡ None → first_of xs ≡ None
none_before [] ys none = refl
none_before (None ∷ xs) ys none = none_before xs ys none
none_before (Some x ∷ xs) ys none = cc

none_behind : {A : Type 0} (xs ys : List (Option A)) → first_of (xs ++ ys) ≡ None → first_of ys ≡ None
none_behind [] ys none = none
none_behind (None ∷ xs) ys none = none_behind xs ys none
none_behind (Some x ∷ xs) ys none = cc

only_one : (b : Bool) → first_of (cause_if b TooManyActors ∷ []) ≡ None → b ≡ false
only_one true none = cc
only_one false none = refl

no_journal : (persistent journal double : Bool) → first_of (cause_if (persistent && not journal) NoJournal ∷ cause_if double DoubleId ∷ []) ≡ None → (persistent ≡ true → journal ≡ true) × (double ≡ false)
no_journal true true true none = absurd (cc)
no_journal true true false none = (λ kept. refl, refl)
no_journal true false double none = absurd (cc)
no_journal false journal true none = absurd (cc)
no_journal false journal false none = (λ kept. absurd (cc), refl)

kept : (journal : Bool) (before : List Line) (w : What) → first_of (put_causes journal before w) ≡ None → IsKept journal w
kept journal before (Put q m) none = (no_journal m.persistent journal (list_any (puts_this q m.id) before) none).0
kept journal before (Take c) none = tt
kept journal before (Close c) none = tt
kept journal before (Ack q id) none = tt
kept journal before (Release q id) none = tt
kept journal before (Lock q id) none = tt
kept journal before (Unlock q id) none = tt
kept journal before (Steal q id) none = tt
kept journal before Begin none = tt
kept journal before Commit none = tt
kept journal before Rollback none = tt

-- ---- puts

none_passes : (p : Line → Bool) (xs : List Line) → list_any p xs ≡ false → count_by p xs ≡ 0
none_passes p [] none = refl
none_passes p (x ∷ xs) none = count_cons p x xs ∙ by_test (p x) (none_passes p xs) none
  where
    by_test : (b : Bool) → (list_any p xs ≡ false → count_by p xs ≡ 0) → (b || list_any p xs) ≡ false → cond b 1 0 + count_by p xs ≡ 0
    by_test true later e = cc
    by_test false later e = omega (arith, later e)

count_more : (p : Line → Bool) (xs : List Line) (x : Line) → count_by p (xs ++ x ∷ []) ≡ count_by p xs + cond (p x) 1 0
count_more p xs x = omega (arith, sum_by-append (λ (l : Line). cond (p l) 1 0) xs (x ∷ []))

same_put : (a b : Bool) → (a && b) ≡ true → (a ≡ true) × (b ≡ true)
same_put true true e = (refl, refl)
same_put true false e = cc
same_put false b e = cc

-- whether a line puts this, those before it put it at most once with it
once_with : (journal : Bool) (before : List Line) (queue id : ℕ) (w : What) → first_of (put_causes journal before w) ≡ None → is_put_of queue id w ≡ true → count_by (puts_this queue id) before ≡ 0
once_with journal before queue id (Put q m) none puts =
    let double = (no_journal m.persistent journal (list_any (puts_this q m.id) before) none).1 in
    let same = same_put (q == queue) (m.id == id) puts in
    let at : q ≡ queue = grind (arith, same.0) in
    let of : m.id ≡ id = grind (arith, same.1) in
    none_passes (puts_this queue id) before (subst (λ n. list_any (puts_this n id) before ≡ false) at (subst (λ n. list_any (puts_this q n) before ≡ false) of double))
once_with journal before queue id (Take c) none puts = absurd (cc)
once_with journal before queue id (Close c) none puts = absurd (cc)
once_with journal before queue id (Ack q i) none puts = absurd (cc)
once_with journal before queue id (Release q i) none puts = absurd (cc)
once_with journal before queue id (Lock q i) none puts = absurd (cc)
once_with journal before queue id (Unlock q i) none puts = absurd (cc)
once_with journal before queue id (Steal q i) none puts = absurd (cc)
once_with journal before queue id Begin none puts = absurd (cc)
once_with journal before queue id Commit none puts = absurd (cc)
once_with journal before queue id Rollback none puts = absurd (cc)

once_more : (journal : Bool) (before : List Line) (op : Op) (queue id : ℕ) → first_of (put_causes journal before op.what) ≡ None → count_by (puts_this queue id) before ≤ 1 → count_by (puts_this queue id) (before ++ Doing op ∷ []) ≤ 1
once_more journal before op queue id none once = by_test (is_put_of queue id op.what) refl
  where
    by_test : (b : Bool) → is_put_of queue id op.what ≡ b → count_by (puts_this queue id) (before ++ Doing op ∷ []) ≤ 1
    by_test true is =
        let one : one_if (is_put_of queue id op.what) ≡ 1 = ap one_if is in
        omega (arith, count_more (puts_this queue id) before (Doing op), once_with journal before queue id op.what none is, one)
    by_test false is =
        let zero : one_if (is_put_of queue id op.what) ≡ 0 = ap one_if is in
        omega (arith, count_more (puts_this queue id) before (Doing op), once, zero)

-- ---- one line more

all_more : (P : Actors → Type 0) (xs : List Actors) (x : Actors) → AllByRecursion P xs → P x → AllByRecursion P (xs ++ x ∷ [])
all_more P [] x each last = (last, tt)
all_more P (y ∷ ys) x each last = (each.0, all_more P ys x each.1 last)

module _ (queues : List Defined) (journal : Bool) where
  empty_phase : IsAllowedPhase queues journal []
  empty_phase = record { few = omega arith; distinct = none_distinct; own = tt }

  one_more : (before : List Line) (l : Line) → IsDefinedLine queues l → fault_after journal before l ≡ None → AreAllowedLines queues journal before → AreAllowedLines queues journal (before ++ l ∷ [])
  one_more before Rest defined none a = record {
    ended = subst (AllByRecursion (IsAllowedPhase queues journal)) (sym (ended_rest [] before)) (all_more (IsAllowedPhase queues journal) (ended_with [] before) (open_phase before) a.ended a.open_one);
    open_one = subst (IsAllowedPhase queues journal) (sym (phase_rest [] before)) empty_phase;
    once = λ queue id. omega (arith, count_more (puts_this queue id) before Rest, a.once queue id);
  }
  one_more before (Doing op) defined none a =
      let put_none : first_of (put_causes journal before op.what) ≡ None = none_before (put_causes journal before op.what) (cause_if (not (is_in_phase op.actor (open_phase before)) && nat_le 32 (length (open_phase before))) TooManyActors ∷ []) none in
      let room = only_one (not (is_in_phase op.actor (open_phase before)) && nat_le 32 (length (open_phase before))) (none_behind (put_causes journal before op.what) (cause_if (not (is_in_phase op.actor (open_phase before)) && nat_le 32 (length (open_phase before))) TooManyActors ∷ []) none) in
      record {
        ended = subst (AllByRecursion (IsAllowedPhase queues journal)) (sym (ended_doing [] before op)) a.ended;
        open_one = subst (IsAllowedPhase queues journal) (sym (phase_doing [] before op)) (record {
          few = few_filed op (open_phase before) room a.open_one.few;
          distinct = distinct_filed op (open_phase before) a.open_one.distinct;
          own = own_filed queues journal op (open_phase before) (record { actor = refl; defined = defined; kept = kept journal before op.what put_none }) a.open_one.own;
        });
        once = λ queue id. once_more journal before op queue id put_none (a.once queue id);
      }

  unless_ok : (cause : Option LineFault) (x y : Line) → unless cause x ≡ Ok y → (cause ≡ None) × (x ≡ y)
  unless_ok None x y is = (refl, cc)
  unless_ok (Some other) x y is = cc

  said_beside : (before : List Line) (r : Result Line LineFault) (l : Line) → beside journal before r ≡ Ok l → (r ≡ Ok l) × (fault_after journal before l ≡ None)
  said_beside before (Err cause) l is = absurd (cc)
  said_beside before (Ok m) l is =
      let both = unless_ok (fault_after journal before m) m l is in
      (ap Ok both.1, ap (fault_after journal before) (sym both.1) ∙ both.0)

  module _ (numbered : (i : ℕ) (c : ConsumerDef) → slice_get (consumers_in queues) i ≡ Some c → c.number ≡ i) where
    one_read : (before : List Line) (n : ℕ) (text : List ℕ) (l : Line) → line_after queues journal before n text ≡ Ok l → AreAllowedLines queues journal before → AreAllowedLines queues journal (before ++ l ∷ [])
    one_read before n text l is a =
        let said = said_beside before (line_says queues n text) l is in
        one_more before l (defined_line queues numbered n text l said.0) said.1 a

    all_read : (texts : List (ℕ × List ℕ)) (before ls : List Line) → script_after queues journal before texts ≡ Ok ls → AreAllowedLines queues journal before → AreAllowedLines queues journal ls
    all_read [] before ls is a = let same : before ≡ ls = cc in subst (AreAllowedLines queues journal) same a
    all_read (text ∷ texts) before ls is a = by_line (line_after queues journal before text.0 text.1) refl (λ l. all_read texts (before ++ l ∷ []) ls) is
      where
        by_line : (r : Result Line LineFault) → line_after queues journal before text.0 text.1 ≡ r
            → ((l : Line) → script_after queues journal (before ++ l ∷ []) texts ≡ Ok ls → AreAllowedLines queues journal (before ++ l ∷ []) → AreAllowedLines queues journal ls)
            → goes_on text.0 r (λ l. script_after queues journal (before ++ l ∷ []) texts) ≡ Ok ls → AreAllowedLines queues journal ls
        by_line (Err cause) said later e = absurd (cc)
        by_line (Ok l) said later e = later l e (one_read before text.0 text.1 l said a)

    none_read : AreAllowedLines queues journal []
    none_read = record { ended = tt; open_one = empty_phase; once = λ queue id. omega arith }

    -- the phases of a script that was accepted
    pub allowed_phases : (texts : List (ℕ × List ℕ)) (ls : List Line) → script_after queues journal [] texts ≡ Ok ls → AreAllowedPhases queues journal (phases_of ls)
    allowed_phases texts ls is =
        let a = all_read texts [] ls is none_read in
        record {
          each = subst (AllByRecursion (IsAllowedPhase queues journal)) (sym (phases_split [] ls)) (all_more (IsAllowedPhase queues journal) (ended_with [] ls) (open_phase ls) a.ended a.open_one);
          once = λ queue id. omega (arith, count_phases queue id [] ls, a.once queue id);
        }
