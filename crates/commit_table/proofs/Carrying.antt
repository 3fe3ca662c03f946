-- What a commit and a read leave of what the journal carries.
use Rattle.std.proofs.Common.{◌≡◌, ◌≤◌, ◌<◌, ◌+◌, ◌-◌, ◌^◌, ℕ, List, [], ◌∷◌, ◌++◌, length, take, drop, refl, sym, ap, ◌∙◌, subst, arith, append-nil, append_assoc}
use Rattle.std.specs.Prelude.{Option, Some, None, IfSome, Bool, true, false, not, sum_by, min, Result, Ok, Err, OnOk, OnErr, is_ok}
use Rattle.std.specs.List.{AllByRecursion, flat_map}
use Rattle.std.proofs.lemmas.List.{take-take}
use Rattle.std.proofs.lemmas.List.Sums.{sum_by-append, sum_by-cons}
use Rattle.outside_io.specs.Counts.{last_count}
use Rattle.outside_io.specs.Told.{HasCause, WhileTold}
use Rattle.disk_core.specs.declared.trails.Trail.{Trail}
use Rattle.disk_core.specs.Trails.{Extends}
use Rattle.disk_core.specs.Images.{Still}
use Rattle.journal_format.specs.Spelling.{Txn, txn_bytes, batch_bytes}
use Rattle.journal_format.specs.Journal.{IsJournal}
use Rattle.journal_format.specs.declared.events.Event.{Event}
use Rattle.journal_format.specs.declared.events.Event.TheVariants.{Sub, Settle, Lost}
use Rattle.journal_format.specs.declared.faults.DeviceFault.{DeviceFault}
use Rattle.journal_core.specs.declared.journal.Trust.{Trust}
use Rattle.journal_core.specs.declared.journal.Trust.TheVariants.{Clean}
use Rattle.journal_core.specs.Stands.{JournalView, KeepsFront, Gives, Stands}
use Rattle.journal_core.specs.History.{Ledger, from, after, empty, IsTimed, Each}
use Rattle.journal_core.specs.Kept.{Agrees, Kept, settled}
use Rattle.journal_core.specs.Reading.{OnlyReads}
use Rattle.journal_core.proofs.Keeping.{from_append}
use Rattle.journal_core.proofs.Moments.{over_start, extends_then}
use Rattle.journal_core.proofs.Committing.{quiet}
use Rattle.commit_table.specs.declared.begun.Begun.{Begun}
use Rattle.commit_table.specs.Outcomes.{Outcome, Book, book, noted_all, capped, stored_from, one_ticket, syncs_of, faults_of, failed_after, Legal, LegalFrom}
use Rattle.commit_table.specs.Tale.{IsFront, IsGiven, Carries}
use Rattle.commit_table.specs.declared.answers.Settled.{Settled}
use Rattle.commit_table.specs.declared.desk.Desk.{Desk}
use Rattle.commit_table.specs.Deskwork.{settlement}
use Rattle.commit_table.specs.Turns.{commit_events, read_events, is_stored, Goes}
use Rattle.commit_table.proofs.Books.{book_append, failed_append, waits, legal_append, waits_book, tickets_book, waits_same}
use Rattle.commit_table.proofs.Giving.{given_stays, given_more}

-- ---- the account

-- nothing waits in the book, where nothing waits
pub book_idle : (gate : ℕ) (J : List Event) → (after J).waiting ≡ [] → (book gate J).waiting ≡ []
book_idle gate J none = sym (waits_same empty (record { gate = gate; waiting = []; outcomes = [] }) J refl) ∙ none

pub waits_none : (gate : ℕ) (J : List Event) → (after J).waiting ≡ [] → waits 0 J ≡ 0
waits_none gate J none = waits_book (record { gate = gate; waiting = []; outcomes = [] }) J ∙ ap length (book_idle gate J none)

-- as many outcomes as tickets
pub counted : (gate : ℕ) (J : List Event) → (after J).waiting ≡ [] → length (book gate J).outcomes ≡ sum_by one_ticket J
counted gate J none = let t = tickets_book (record { gate = gate; waiting = []; outcomes = [] }) J in let w = ap length (book_idle gate J none) in omega arith

-- what a commit makes of a book in which nothing waits
abbrev pub committed_book : Book → Txn → Bool → Book
committed_book k t true = record { gate = capped (k.gate + (length (batch_bytes (t ∷ [])) + 1)); waiting = []; outcomes = k.outcomes ++ stored_from (capped (k.gate + 13)) (t ∷ []) }
committed_book k t false = record { gate = k.gate; waiting = []; outcomes = k.outcomes ++ (record { txn = t; place = None } ∷ []) }

noted_commit : (k : Book) (h : ℕ) (t : Txn) (ok : Bool) (m s f : ℕ) → k.waiting ≡ [] → noted_all k (commit_events h t ok m s f) ≡ committed_book k t ok
noted_commit k h t true m s f none = ap (λ (ws : List Txn). record { gate = Rattle.commit_table.specs.Outcomes.gate_behind k.gate (take 1 (ws ++ (t ∷ []))); waiting = drop 1 (ws ++ (t ∷ [])); outcomes = k.outcomes ++ stored_from (capped (k.gate + 13)) (take 1 (ws ++ (t ∷ []))) }) none
noted_commit k h t false m s f none = ap (λ (ws : List Txn). record { gate = k.gate; waiting = drop 1 (ws ++ (t ∷ [])); outcomes = k.outcomes ++ Rattle.commit_table.specs.Outcomes.failed_all (take 1 (ws ++ (t ∷ []))) }) none

pub book_commit : (gate : ℕ) (J : List Event) (h : ℕ) (t : Txn) (ok : Bool) (m s f : ℕ) → (after J).waiting ≡ [] → book gate (J ++ commit_events h t ok m s f) ≡ committed_book (book gate J) t ok
book_commit gate J h t ok m s f none = book_append (record { gate = gate; waiting = []; outcomes = [] }) J (commit_events h t ok m s f) ∙ noted_commit (book gate J) h t ok m s f (book_idle gate J none)

waiting_after : (l : Ledger) (h : ℕ) (t : Txn) (ok : Bool) (m s f : ℕ) → l.waiting ≡ [] → (from l (commit_events h t ok m s f)).waiting ≡ []
waiting_after l h t true m s f none = ap (λ (ws : List Txn). drop 1 (ws ++ (t ∷ []))) none
waiting_after l h t false m s f none = ap (λ (ws : List Txn). drop 1 (ws ++ (t ∷ []))) none

pub idle_commit : (J : List Event) (h : ℕ) (t : Txn) (ok : Bool) (m s f : ℕ) → (after J).waiting ≡ [] → (after (J ++ commit_events h t ok m s f)).waiting ≡ []
idle_commit J h t ok m s f none = ap (λ (l : Ledger). l.waiting) (from_append empty J (commit_events h t ok m s f)) ∙ waiting_after (after J) h t ok m s f none

-- the transaction alone waits before its Settle
pub waiting_sub : (J : List Event) (h : ℕ) (t : Txn) → (after J).waiting ≡ [] → (after (J ++ (Sub h t ∷ []))).waiting ≡ t ∷ []
waiting_sub J h t none = ap (λ (l : Ledger). l.waiting) (from_append empty J (Sub h t ∷ [])) ∙ ap (λ (ws : List Txn). ws ++ (t ∷ [])) none

failed_commit : (g : Bool) (h : ℕ) (t : Txn) (ok : Bool) (m s f : ℕ) → failed_after g (commit_events h t ok m s f) ≡ not ok
failed_commit g h t true m s f = refl
failed_commit g h t false m s f = refl

pub failed_now : (J : List Event) (h : ℕ) (t : Txn) (ok : Bool) (m s f : ℕ) → failed_after false (J ++ commit_events h t ok m s f) ≡ not ok
failed_now J h t ok m s f = failed_append false J (commit_events h t ok m s f) ∙ failed_commit (failed_after false J) h t ok m s f

legal_events : (g : Bool) (h : ℕ) (t : Txn) (ok : Bool) (m s f : ℕ) → (ok ≡ false → 0 < f) → LegalFrom 0 g (commit_events h t ok m s f)
legal_events g h t true m s f some = (omega arith, (λ (z : 1 ≡ 0). absurd (omega (arith, z))), tt)
legal_events g h t false m s f some = (omega arith, (λ (z : 1 ≡ 0). absurd (omega (arith, z))), some refl, tt)

pub legal_commit : (gate : ℕ) (J : List Event) (h : ℕ) (t : Txn) (ok : Bool) (m s f : ℕ) → (after J).waiting ≡ [] → (ok ≡ false → 0 < f) → Legal J → Legal (J ++ commit_events h t ok m s f)
legal_commit gate J h t ok m s f none some legal =
    legal_append 0 false J (commit_events h t ok m s f) legal
    (subst (λ n. LegalFrom n (failed_after false J) (commit_events h t ok m s f)) (sym (waits_none gate J none)) (legal_events (failed_after false J) h t ok m s f some))

-- ---- a commit

-- the gate of a told disk is small
told_small : (seen : Option (List ℕ)) (images : List ℕ → Type 0) (gate : ℕ) (trust : Trust) (C B : List Txn) → IfSome seen images → Stands images gate trust C B → IfSome seen (λ y. gate < 2 ^ 63)
told_small None images gate trust C B reads s = tt
told_small (Some y) images gate trust C B reads s = (s.each y reads).small

timed_last : (t u : ℕ) (J : List Event) (h : ℕ) (x : Txn) (ok : Bool) (m s f : ℕ) → Each (IsTimed t u) (J ++ commit_events h x ok m s f) → t ≤ m
timed_last t u [] h x ok m s f p = p.1.0.0
timed_last t u (e ∷ es) h x ok m s f p = timed_last t u es h x ok m s f p.1

clean_now : (ok : Bool) (trust : Trust) (failed : Bool) → failed ≡ not ok → (ok ≡ true → trust ≡ Clean) → (ok ≡ false → trust ≡ Clean → ⊥) → (trust ≡ Clean → failed ≡ false) × (failed ≡ false → trust ≡ Clean)
clean_now true trust failed is good bad = ((λ z. is), (λ z. good refl))
clean_now false trust failed is good bad = ((λ z. absurd (bad refl z)), (λ z. let x : true ≡ false = sym is ∙ z in absurd (cc)))

given_now : (ok : Bool) (seen : Option (List ℕ)) (gate gate2 : ℕ) (k : Book) (t : Txn) → k.gate ≡ gate → (ok ≡ true → gate2 ≡ min (gate + (length (batch_bytes (t ∷ [])) + 1)) last_count)
    → (ok ≡ true → IfSome seen (Gives (gate + 13) (flat_map txn_bytes (t ∷ [])))) → IfSome seen (λ y. gate2 < 2 ^ 63) → IfSome seen (λ y. AllByRecursion (IsGiven gate2 y) k.outcomes)
    → IfSome seen (λ y. AllByRecursion (IsGiven gate2 y) (committed_book k t ok).outcomes)
given_now true seen gate gate2 k t same is gives small p =
    subst (λ g. IfSome seen (λ y. AllByRecursion (IsGiven gate2 y) (k.outcomes ++ stored_from (capped (g + 13)) (t ∷ [])))) (sym same)
    (given_more gate gate2 seen t k.outcomes (is refl) small (gives refl) p)
given_now false None gate gate2 k t same is gives small p = tt
given_now false (Some y) gate gate2 k t same is gives small p = Rattle.commit_table.proofs.Giving.each_append (IsGiven gate2 y) k.outcomes (record { txn = t; place = None } ∷ []) p (tt, tt)

gate_now : (ok : Bool) (gate gate2 : ℕ) (k : Book) (t : Txn) → gate ≡ k.gate → (ok ≡ true → gate2 ≡ min (gate + (length (batch_bytes (t ∷ [])) + 1)) last_count) → (ok ≡ false → gate2 ≡ gate) → gate2 ≡ (committed_book k t ok).gate
gate_now true gate gate2 k t same is stays = is refl ∙ ap (λ g. min (g + (length (batch_bytes (t ∷ [])) + 1)) last_count) same
gate_now false gate gate2 k t same is stays = stays refl ∙ same

-- where a read gives what it gave, what was given is given
given_same : (old new : Option (List ℕ)) (gate gate2 : ℕ) (os : List Outcome) → gate ≡ gate2 → Still old new → IfSome old (λ x. AllByRecursion (IsGiven gate x) os) → IfSome new (λ y. AllByRecursion (IsGiven gate2 y) os)
given_same old None gate gate2 os same still p = tt
given_same None (Some y) gate gate2 os same still p = absurd still
given_same (Some x) (Some y) gate gate2 os same still p = subst (λ (z : ℕ × List ℕ). AllByRecursion (IsGiven z.0 z.1) os) (λ i. (same i, sym still i)) p

-- the gate doesn't go back
not_back : (ok : Bool) (seen : Option (List ℕ)) (gate gate2 n : ℕ) → (ok ≡ true → gate2 ≡ min (gate + n) last_count) → (ok ≡ false → gate2 ≡ gate) → IfSome seen (λ y. gate2 < 2 ^ 63) → IfSome seen (λ y. gate ≤ gate2)
not_back ok None gate gate2 n is stays small = tt
not_back true (Some y) gate gate2 n is stays small = let e = is refl in omega (arith, e, small)
not_back false (Some y) gate gate2 n is stays small = let e = stays refl in omega (arith, e)

-- what was before the first gate stays, where what is before a later gate stays
front_stays : (began gate gate2 : ℕ) (first old new : Option (List ℕ)) → WhileTold first old (IsFront began gate) → KeepsFront gate old new → IfSome new (λ y. gate ≤ gate2) → WhileTold first new (IsFront began gate2)
front_stays began gate gate2 first old None is keeps le = tt
front_stays began gate gate2 first None (Some y) is keeps le = absurd keeps
front_stays began gate gate2 None (Some x) (Some y) is keeps le = absurd is
front_stays began gate gate2 (Some z) (Some x) (Some y) is keeps le =
    (omega (arith, is.0, le), sym (take-take began gate y is.0) ∙ (ap (take began) keeps ∙ (take-take began gate x is.0 ∙ is.1)))

-- where a read gives what it gave, that goes for what was before the first gate
front_same : (began gate gate2 : ℕ) (first old new : Option (List ℕ)) → gate ≡ gate2 → WhileTold first old (IsFront began gate) → Still old new → WhileTold first new (IsFront began gate2)
front_same began gate gate2 first old None same is still = tt
front_same began gate gate2 first None (Some y) same is still = absurd still
front_same began gate gate2 None (Some x) (Some y) same is still = absurd is
front_same began gate gate2 (Some z) (Some x) (Some y) same is still = subst (λ (p : ℕ × List ℕ). IsFront began p.0 z p.1) (λ i. (same i, sym still i)) is

module _ {D : Type 0} (seen : D → Option (List ℕ)) (images : D → List ℕ → Type 0) (moment : D → ℕ) (since : D → ℕ → List ℕ → Type 0) (trail : D → Option Trail) (faults syncs : D → ℕ) where
  -- what the journal's own commit says of its answer
  pub record Answered (ok : Bool) (t : Txn) (old new : JournalView D) : Type 0 where
    pub good : ok ≡ true → new.trust ≡ Clean
    pub bad : ok ≡ false → new.trust ≡ Clean → ⊥
    pub gate : ok ≡ true → new.gate ≡ min (old.gate + (length (batch_bytes (t ∷ [])) + 1)) last_count
    pub stays : ok ≡ false → new.gate ≡ old.gate
    pub gives : ok ≡ true → IfSome (seen new.disk) (Gives (old.gate + 13) (flat_map txn_bytes (t ∷ [])))
    pub front : KeepsFront old.gate (seen old.disk) (seen new.disk)
    pub goes_on : Extends (trail old.disk) (trail new.disk)
    pub syncs_rise : syncs old.disk ≤ syncs new.disk
    pub faults_rise : faults old.disk ≤ faults new.disk

  -- the journal carries the history with a commit more
  pub carries_commit : (b : Begun) (old new : JournalView D) (J : List Event) (h : ℕ) (t : Txn) (ok : Bool) → IfSome (seen new.disk) (images new.disk) → Carries seen images moment since trail faults syncs b old J → Answered ok t old new
      → (let es = commit_events h t ok (moment new.disk) (syncs new.disk - syncs old.disk) (faults new.disk - faults old.disk) in
      Agrees (images new.disk) new.gate new.trust b.commits (after (J ++ es)) → Kept moment since IsJournal b.moment new.disk b.commits (J ++ es) → Carries seen images moment since trail faults syncs b new (J ++ es))
  carries_commit b old new J h t ok reads c a agrees kept =
      let m = moment new.disk in
      let s : ℕ = syncs new.disk - syncs old.disk in
      let f : ℕ = faults new.disk - faults old.disk in
      let es : List Event = commit_events h t ok m s f in
      let k : Book = book b.gate J in
      let now : book b.gate (J ++ es) ≡ committed_book k t ok = book_commit b.gate J h t ok m s f c.settled in
      let small = told_small (seen new.disk) (images new.disk) new.gate new.trust _ _ reads agrees.whole in
      let kept_front = given_stays old.gate new.gate (seen old.disk) (seen new.disk) k.outcomes a.front (not_back ok (seen new.disk) old.gate new.gate _ a.gate a.stays small) c.given in
      record {
        agrees = agrees;
        kept = kept;
        began = timed_last b.moment m J h t ok m s f kept.timed;
        goes_on = extends_then b.trail (trail old.disk) (trail new.disk) c.goes_on a.goes_on;
        settled = idle_commit J h t ok m s f c.settled;
        clean = clean_now ok new.trust (failed_after false (J ++ es)) (failed_now J h t ok m s f) a.good a.bad;
        gate = gate_now ok old.gate new.gate k t c.gate a.gate a.stays ∙ ap (λ (x : Book). x.gate) (sym now);
        front = front_stays b.gate old.gate new.gate b.bytes (seen old.disk) (seen new.disk) c.front a.front (not_back ok (seen new.disk) old.gate new.gate _ a.gate a.stays small);
        given = subst (λ (x : Book). IfSome (seen new.disk) (λ y. AllByRecursion (IsGiven new.gate y) x.outcomes)) (sym now) (given_now ok (seen new.disk) old.gate new.gate k t (sym c.gate) a.gate a.gives small kept_front);
        syncs_are = let r = c.syncs_are in let l = a.syncs_rise in omega (arith, r, l, sum_by-append syncs_of J es, sum_by-cons syncs_of (Sub h t) (Settle 1 ok m s f ∷ []), sum_by-cons syncs_of (Settle 1 ok m s f) []);
        faults_are = let r = c.faults_are in let l = a.faults_rise in omega (arith, r, l, sum_by-append faults_of J es, sum_by-cons faults_of (Sub h t) (Settle 1 ok m s f ∷ []), sum_by-cons faults_of (Settle 1 ok m s f) []);
      }

  -- a read that may add a Lost
  pub carries_read : (only_now : (d : D) (c : List ℕ) → since d (moment d) c → images d c) (from_later : (d : D) (t u : ℕ) (c : List ℕ) → t ≤ u → since d u c → since d t c)
      → (b : Begun) (old new : JournalView D) (J : List Event) (h : ℕ) (r : Result Unit DeviceFault) → Carries seen images moment since trail faults syncs b old J → OnlyReads seen images moment since trail syncs old.disk new.disk
      → (new.gate ≡ old.gate) × (new.trust ≡ old.trust) → HasCause (faults old.disk) (faults new.disk) r
      → Carries seen images moment since trail faults syncs b new (J ++ read_events h r (faults new.disk - faults old.disk))
  carries_read only_now from_later b old new J h (Ok x) c reads same cause =
      let q = quiet moment since images only_now from_later b.moment old.disk new.disk old.gate old.trust b.commits J [] c.agrees c.began c.kept reads.moments reads.none tt in
      subst (λ (l : List Event). Carries seen images moment since trail faults syncs b new l) (sym (append-nil J)) record {
        agrees = subst (λ (z : ℕ × Trust × List Event). Agrees (images new.disk) z.0 z.1 b.commits (after z.2)) (λ i. (sym same.0 i, sym same.1 i, append-nil J i)) q.0;
        kept = subst (λ (l : List Event). Kept moment since IsJournal b.moment new.disk b.commits l) (append-nil J) q.1;
        began = let l = reads.moments.later in let e = c.began in omega (arith, l, e);
        goes_on = extends_then b.trail (trail old.disk) (trail new.disk) c.goes_on reads.goes_on;
        settled = c.settled;
        clean = subst (λ (t : Trust). (t ≡ Clean → failed_after false J ≡ false) × (failed_after false J ≡ false → t ≡ Clean)) (sym same.1) c.clean;
        gate = same.0 ∙ c.gate;
        front = front_same b.gate old.gate new.gate b.bytes (seen old.disk) (seen new.disk) (sym same.0) c.front reads.still;
        given = given_same (seen old.disk) (seen new.disk) old.gate new.gate (book b.gate J).outcomes (sym same.0) reads.still c.given;
        syncs_are = reads.same_syncs ∙ c.syncs_are;
        faults_are = cause.kept ∙ c.faults_are;
      }
  carries_read only_now from_later b old new J h (Err e) c reads same cause =
      let f : ℕ = faults new.disk - faults old.disk in
      let es : List Event = Lost h f ∷ [] in
      let q = quiet moment since images only_now from_later b.moment old.disk new.disk old.gate old.trust b.commits J es c.agrees c.began c.kept reads.moments reads.none (tt, tt) in
      let now : book b.gate (J ++ es) ≡ book b.gate J = book_append (record { gate = b.gate; waiting = []; outcomes = [] }) J es in
      let failed : failed_after false (J ++ es) ≡ failed_after false J = failed_append false J es in
      record {
        agrees = subst (λ (z : ℕ × Trust). Agrees (images new.disk) z.0 z.1 b.commits (after (J ++ es))) (λ i. (sym same.0 i, sym same.1 i)) q.0;
        kept = q.1;
        began = let l = reads.moments.later in let e = c.began in omega (arith, l, e);
        goes_on = extends_then b.trail (trail old.disk) (trail new.disk) c.goes_on reads.goes_on;
        settled = ap (λ (l : Ledger). l.waiting) (from_append empty J es) ∙ c.settled;
        clean = subst (λ (z : Trust × Bool). (z.0 ≡ Clean → z.1 ≡ false) × (z.1 ≡ false → z.0 ≡ Clean)) (λ i. (sym same.1 i, sym failed i)) c.clean;
        gate = same.0 ∙ (c.gate ∙ ap (λ (x : Book). x.gate) (sym now));
        front = front_same b.gate old.gate new.gate b.bytes (seen old.disk) (seen new.disk) (sym same.0) c.front reads.still;
        given = subst (λ (x : Book). IfSome (seen new.disk) (λ y. AllByRecursion (IsGiven new.gate y) x.outcomes)) (sym now) (given_same (seen old.disk) (seen new.disk) old.gate new.gate (book b.gate J).outcomes (sym same.0) reads.still c.given);
        syncs_are = let r = c.syncs_are in let e = reads.same_syncs in omega (arith, r, e, sum_by-append syncs_of J es, sum_by-cons syncs_of (Lost h f) []);
        faults_are = let r = c.faults_are in let l = cause.failed in omega (arith, r, l, sum_by-append faults_of J es, sum_by-cons faults_of (Lost h f) []);
      }

-- a read makes no ticket
pub no_tickets : {T E : Type 0} (h : ℕ) (r : Result T E) (f : ℕ) → sum_by one_ticket (read_events h r f) ≡ 0
no_tickets h (Ok x) f = refl
no_tickets h (Err e) f = sum_by-cons one_ticket (Lost h f) []

-- the event of a read is legal where it has a fault
pub legal_read : {T E : Type 0} (gate : ℕ) (J : List Event) (h : ℕ) (r : Result T E) (before now : ℕ) → (after J).waiting ≡ [] → HasCause before now r → Legal J → Legal (J ++ read_events h r (now - before))
legal_read gate J h (Ok x) before now none cause legal = subst Legal (sym (append-nil J)) legal
legal_read gate J h (Err e) before now none cause legal =
    legal_append 0 false J (Lost h (now - before) ∷ []) legal
    (subst (λ n. LegalFrom n (failed_after false J) (Lost h (now - before) ∷ [])) (sym (waits_none gate J none)) ((let l = cause.failed in omega (arith, l)), tt))

-- ---- the answer of the journal

module _ {D : Type 0} (seen : D → Option (List ℕ)) (images : D → List ℕ → Type 0) (moment : D → ℕ) (since : D → ℕ → List ℕ → Type 0) (trail : D → Option Trail) (faults syncs : D → ℕ) where
  pub answered_by : (r : Result ℕ DeviceFault) (t : Txn) (ts : List Txn) (old new : JournalView D) → ts ≡ t ∷ []
      → OnOk r (new.trust ≡ Clean) → OnErr r (new.trust ≡ Clean → ⊥) → OnOk r (new.gate ≡ min (old.gate + (length (batch_bytes ts) + 1)) last_count) → OnErr r (new.gate ≡ old.gate)
      → OnOk r (IfSome (seen new.disk) (Gives (old.gate + 13) (flat_map txn_bytes ts)))
      → KeepsFront old.gate (seen old.disk) (seen new.disk) → Extends (trail old.disk) (trail new.disk) → syncs old.disk ≤ syncs new.disk → HasCause (faults old.disk) (faults new.disk) r
      → Answered seen images moment since trail faults syncs (is_ok r) t old new
  answered_by (Ok x) t ts old new is good bad gate stays gives front goes_on rise cause = record {
    good = λ z. good;
    bad = λ z. absurd (cc z);
    gate = λ z. gate ∙ ap (λ (l : List Txn). min (old.gate + (length (batch_bytes l) + 1)) last_count) is;
    stays = λ z. absurd (cc z);
    gives = λ z. subst (λ (l : List Txn). IfSome (seen new.disk) (Gives (old.gate + 13) (flat_map txn_bytes l))) is gives;
    front = front;
    goes_on = goes_on;
    syncs_rise = rise;
    faults_rise = let k = cause.kept in omega (arith, k);
  }
  answered_by (Err e) t ts old new is good bad gate stays gives front goes_on rise cause = record {
    good = λ z. absurd (cc z);
    bad = λ z. bad;
    gate = λ z. absurd (cc z);
    stays = λ z. stays;
    gives = λ z. absurd (cc z);
    front = front;
    goes_on = goes_on;
    syncs_rise = rise;
    faults_rise = let k = cause.failed in omega (arith, k);
  }

-- where it failed the count of faults rose
pub fault_rose : (r : Result ℕ DeviceFault) (before now : ℕ) → HasCause before now r → is_ok r ≡ false → 0 < now - before
fault_rose (Ok x) before now cause z = absurd (cc z)
fault_rose (Err e) before now cause z = let k = cause.failed in omega (arith, k)

pub stored_ok : (r : Result ℕ DeviceFault) (ticket : ℕ) → is_stored (settlement r ticket) ≡ is_ok r
stored_ok (Ok x) ticket = refl
stored_ok (Err e) ticket = refl

module _ {D : Type 0} (seen : D → Option (List ℕ)) (images : D → List ℕ → Type 0) (moment : D → ℕ) (since : D → ℕ → List ℕ → Type 0) (trail : D → Option Trail) (faults syncs : D → ℕ)
    (only_now : (d : D) (c : List ℕ) → since d (moment d) c → images d c) (from_later : (d : D) (t u : ℕ) (c : List ℕ) → t ≤ u → since d u c → since d t c) where
  -- what the journal's own commit says of every history, of this one
  pub carries_answered : (b : Begun) (old new : JournalView D) (J : List Event) (h : ℕ) (t : Txn) (ts : List Txn) (ok : Bool) → ts ≡ t ∷ [] → IfSome (seen new.disk) (images new.disk)
      → Carries seen images moment since trail faults syncs b old J → Answered seen images moment since trail faults syncs ok t old new
      → ((C : List Txn) (K : List Event) → (after K).waiting ≡ ts → Agrees (images old.disk) old.gate old.trust C (after K)
      → Agrees (images new.disk) new.gate new.trust C (after (K ++ settled (length ts) ok (moment new.disk) (syncs new.disk - syncs old.disk) (faults new.disk - faults old.disk))))
      → ((t0 : ℕ) (C : List Txn) (K : List Event) → (after K).waiting ≡ ts → Agrees (images old.disk) old.gate old.trust C (after K) → t0 ≤ moment old.disk → Kept moment since IsJournal t0 old.disk C K
      → Kept moment since IsJournal t0 new.disk C (K ++ settled (length ts) ok (moment new.disk) (syncs new.disk - syncs old.disk) (faults new.disk - faults old.disk)))
      → Carries seen images moment since trail faults syncs b new (J ++ commit_events h t ok (moment new.disk) (syncs new.disk - syncs old.disk) (faults new.disk - faults old.disk))
  carries_answered b old new J h t ts ok is reads c a agrees kept =
      let m = moment new.disk in
      let s : ℕ = syncs new.disk - syncs old.disk in
      let f : ℕ = faults new.disk - faults old.disk in
      let K : List Event = J ++ (Sub h t ∷ []) in
      let q = quiet moment since images only_now from_later b.moment old.disk old.disk old.gate old.trust b.commits J (Sub h t ∷ []) c.agrees c.began c.kept (over_start moment since old.disk (images old.disk)) (λ x i. i) (tt, tt) in
      let waits : (after K).waiting ≡ ts = waiting_sub J h t c.settled ∙ sym is in
      let all : K ++ settled (length ts) ok m s f ≡ J ++ commit_events h t ok m s f = append_assoc J (Sub h t ∷ []) (settled (length ts) ok m s f) ∙ ap (λ (l : List Txn). J ++ (Sub h t ∷ settled (length l) ok m s f)) is in
      carries_commit seen images moment since trail faults syncs b old new J h t ok reads c a
      (subst (λ (l : List Event). Agrees (images new.disk) new.gate new.trust b.commits (after l)) all (agrees b.commits K waits q.0))
      (subst (λ (l : List Event). Kept moment since IsJournal b.moment new.disk b.commits l) all (kept b.moment b.commits K waits q.0 c.began q.1))

  -- the desk goes on
  pub goes_commit : (old new : Desk D) (h : ℕ) (t : Txn) (ts : List Txn) (r : Result ℕ DeviceFault) (settlement_is : Settled) (ticket : ℕ) → settlement_is ≡ settlement r ticket → ts ≡ t ∷ [] → IfSome (seen new.journal.disk) (images new.journal.disk)
      → Answered seen images moment since trail faults syncs (is_ok r) t old.journal new.journal → HasCause (faults old.journal.disk) (faults new.journal.disk) r → old.scratch.room ≤ new.scratch.room → new.count ≡ old.count + 1
      → ((C : List Txn) (K : List Event) → (after K).waiting ≡ ts → Agrees (images old.journal.disk) old.journal.gate old.journal.trust C (after K)
      → Agrees (images new.journal.disk) new.journal.gate new.journal.trust C (after (K ++ settled (length ts) (is_ok r) (moment new.journal.disk) (syncs new.journal.disk - syncs old.journal.disk) (faults new.journal.disk - faults old.journal.disk))))
      → ((t0 : ℕ) (C : List Txn) (K : List Event) → (after K).waiting ≡ ts → Agrees (images old.journal.disk) old.journal.gate old.journal.trust C (after K) → t0 ≤ moment old.journal.disk → Kept moment since IsJournal t0 old.journal.disk C K
      → Kept moment since IsJournal t0 new.journal.disk C (K ++ settled (length ts) (is_ok r) (moment new.journal.disk) (syncs new.journal.disk - syncs old.journal.disk) (faults new.journal.disk - faults old.journal.disk)))
      → Goes seen images moment since trail faults syncs old new (commit_events h t (is_stored settlement_is) (moment new.journal.disk) (syncs new.journal.disk - syncs old.journal.disk) (faults new.journal.disk - faults old.journal.disk))
  goes_commit old new h t ts r st ticket st_is is reads a cause room count agrees kept b J legal at =
      let m = moment new.journal.disk in
      let s : ℕ = syncs new.journal.disk - syncs old.journal.disk in
      let f : ℕ = faults new.journal.disk - faults old.journal.disk in
      let ok : is_ok r ≡ is_stored st = sym (ap is_stored st_is ∙ stored_ok r ticket) in
      let c = carries_answered b old.journal new.journal J h t ts (is_ok r) is reads at.carries a agrees kept in
      let l = legal_commit b.gate J h t (is_ok r) m s f at.carries.settled (fault_rose r (faults old.journal.disk) (faults new.journal.disk) cause) legal in
      let es = commit_events h t (is_stored st) m s f in (
        subst (λ (o : Bool). Legal (J ++ commit_events h t o m s f)) ok l,
        record {
          carries = subst (λ (o : Bool). Carries seen images moment since trail faults syncs b new.journal (J ++ commit_events h t o m s f)) ok c;
          room = let x = at.room in omega (arith, x, room);
          count = let x = at.count in omega (arith, x, count, sum_by-append one_ticket J es, sum_by-cons one_ticket (Sub h t) (Settle 1 (is_stored st) m s f ∷ []), sum_by-cons one_ticket (Settle 1 (is_stored st) m s f) []);
          few = at.few;
        },
      )

  pub goes_read : (old new : Desk D) (h : ℕ) (r : Result Unit DeviceFault) → OnlyReads seen images moment since trail syncs old.journal.disk new.journal.disk → (new.journal.gate ≡ old.journal.gate) × (new.journal.trust ≡ old.journal.trust)
      → HasCause (faults old.journal.disk) (faults new.journal.disk) r → new.scratch ≡ old.scratch → new.count ≡ old.count → Goes seen images moment since trail faults syncs old new (read_events h r (faults new.journal.disk - faults old.journal.disk))
  goes_read old new h r reads same cause scratch count b J legal at =
      let f : ℕ = faults new.journal.disk - faults old.journal.disk in (
        legal_read b.gate J h r (faults old.journal.disk) (faults new.journal.disk) at.carries.settled cause legal,
        record {
          carries = carries_read seen images moment since trail faults syncs only_now from_later b old.journal new.journal J h r at.carries reads same cause;
          room = let x = at.room in let y = ap (λ (z : _). z.room) scratch in omega (arith, x, y);
          count = let x = at.count in omega (arith, x, count, no_tickets h r f, sum_by-append one_ticket J (read_events h r f));
          few = at.few;
        },
      )
