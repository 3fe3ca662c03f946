-- One commit under the lock, and calls that settle nothing.
use Rattle.std.proofs.Common.{◌≡◌, ◌⊎◌, inl, inr, ⊎_elim, ◌≤◌, ℕ, List, [], ◌∷◌, ◌++◌, length, refl, sym, ◌∙◌, ap, subst, arith, append_assoc, take}
use Rattle.std.proofs.lemmas.List.{append-nil, take_all}
use Rattle.std.specs.Prelude.{true, false, Bool, Result, Ok, Err, OnOk, OnErr, is_ok}
use Rattle.disk_core.specs.Images.{Over, NoMore}
use Rattle.journal_format.specs.Spelling.{Txn}
use Rattle.journal_format.specs.Journal.{Front, IsJournal}
use Rattle.journal_format.specs.declared.events.Event.{Event}
use Rattle.journal_format.specs.declared.events.Event.TheVariants.{Sub, Settle, Lost}
use Rattle.journal_core.specs.declared.journal.Trust.{Trust}
use Rattle.journal_core.specs.declared.journal.Trust.TheVariants.{Clean, Body, Gate}
use Rattle.journal_core.specs.Stands.{Stands, IsEither}
use Rattle.journal_core.specs.History.{Ledger, happens, from, after, empty, IsTimed, IsQuiet, IsOneOf, Each}
use Rattle.journal_core.specs.Kept.{IsMore, Fits, Kept, Agrees, settled}
use Rattle.journal_core.proofs.Parts.{shut_journal, staged_either}
use Rattle.journal_core.proofs.Keeping.{FitsNow, from_append, kept_grows, each_as}

-- what each image stands for
stands_either : (images : List ℕ → Type 0) (gate : ℕ) (trust : Trust) (C B : List Txn) → Stands images gate trust C B → (c : List ℕ) → images c → IsJournal c C ⊎ ((trust ≡ Gate) × IsEither C B c)
stands_either images gate Clean C B s c i = inl (shut_journal s.before C c s.front (s.each c i).is)
stands_either images gate Body C B s c i = inl (shut_journal s.before C c s.front (s.each c i).is)
stands_either images gate Gate C B s c i = inr (refl, staged_either s.before C B c s.front (s.batch refl) (s.each c i).is)

-- the commits from before, or also a batch of which it is known why it may be there
either_now : (C : List Txn) (J new : List Event) (B : List Txn) (c : List ℕ) → IsMore (after J) new B → IsEither (C ++ (after J).stored) B c → FitsNow IsJournal C J new c
either_now C J new B c why (inl j) = record { more = []; why = inl refl; commits = subst (λ (l : List Txn). IsJournal c (C ++ l)) (sym (append-nil (after J).stored)) j }
either_now C J new B c why (inr j) = record { more = B; why = why; commits = subst (λ (l : List Txn). IsJournal c l) (append_assoc C (after J).stored B) j }

pub agrees_now : (images : List ℕ → Type 0) (gate : ℕ) (trust : Trust) (C : List Txn) (J new : List Event) → Agrees images gate trust C (after J) → (c : List ℕ) → images c → FitsNow IsJournal C J new c
agrees_now images gate trust C J new a c i = ⊎_elim
    (λ j. either_now C J new [] c (inl refl) (inl j))
    (λ (p : (trust ≡ Gate) × IsEither (C ++ (after J).stored) a.failed c). either_now C J new a.failed c (inr (inr (a.doubt p.0))) p.1)
    (stands_either images gate trust (C ++ (after J).stored) a.failed a.whole c i)

-- the whole history is in the front
pub agrees_fits : (images : List ℕ → Type 0) (gate : ℕ) (trust : Trust) (C : List Txn) (J : List Event) (t : ℕ) → Agrees images gate trust C (after J) → (c : List ℕ) → images c → Fits IsJournal C J t c
agrees_fits images gate trust C J t a c i =
    let n = agrees_now images gate trust C J [] a c i in
    record { front = J; rest = []; is = sym (append-nil J); late = tt; more = n.more; why = n.why; commits = n.commits }

-- ---- a commit of all that waits

-- all that waits is settled
all_taken : (B w : List Txn) → w ≡ B → take (length B) w ≡ B
all_taken B w is = ap (λ (l : List Txn). take (length B) l) is ∙ take_all (length B) B (omega arith)

pub agrees_stored : (images : List ℕ → Type 0) (gate : ℕ) (C B : List Txn) (J : List Event) (m s f : ℕ) → (after J).waiting ≡ B
    → Stands images gate Clean ((C ++ (after J).stored) ++ B) B → Agrees images gate Clean C (after (J ++ settled (length B) true m s f))
agrees_stored images gate C B J m s f waits w =
    let all = all_taken B (after J).waiting waits in
    subst (λ l. Agrees images gate Clean C l) (sym (from_append empty J (settled (length B) true m s f)))
    (record {
      failed = B;
      whole = subst (λ (l : List Txn). Stands images gate Clean l B) (append_assoc C (after J).stored B ∙ ap (λ (l : List Txn). C ++ ((after J).stored ++ l)) (sym all)) w;
      doubt = λ is. absurd (cc is);
    })

-- a batch that failed before or now
abbrev pub IsDoubtful : List Event → List Txn → List Txn → Type 0
IsDoubtful J B A = IsOneOf (after J).doubtful A ⊎ (A ≡ B)

pub agrees_failed : (images : List ℕ → Type 0) (gate : ℕ) (trust : Trust) (C B : List Txn) (J : List Event) (m s f : ℕ) (A : List Txn) → (after J).waiting ≡ B
    → IsDoubtful J B A → Stands images gate trust (C ++ (after J).stored) A → Agrees images gate trust C (after (J ++ settled (length B) false m s f))
agrees_failed images gate trust C B J m s f A waits why w =
    subst (λ l. Agrees images gate trust C l) (sym (from_append empty J (settled (length B) false m s f)))
    (record { failed = A; whole = w; doubt = λ is. ⊎_elim (λ old. inr old) (λ new. inl (new ∙ sym (all_taken B (after J).waiting waits))) why })

-- the new batch is that of the first Settle
doubtful_more : (J : List Event) (B : List Txn) (ok : Bool) (m s f : ℕ) (A : List Txn) → (after J).waiting ≡ B → IsDoubtful J B A → IsMore (after J) (settled (length B) ok m s f) A
doubtful_more J B ok m s f A waits (inl old) = inr (inr old)
doubtful_more J B ok m s f A waits (inr new) = inr (inl (new ∙ sym (all_taken B (after J).waiting waits)))

-- a batch for which a journal stands that agrees with the history, if need be the new one
pub record Doubted (images : List ℕ → Type 0) (gate : ℕ) (trust : Trust) (C : List Txn) (J : List Event) (B : List Txn) : Type 0 where
  pub failed : List Txn
  pub whole : Stands images gate trust (C ++ (after J).stored) failed
  pub why : IsDoubtful J B failed

pub doubted : (images : List ℕ → Type 0) (gate : ℕ) (trust : Trust) (C : List Txn) (J : List Event) (B : List Txn) → Agrees images gate trust C (after J) → Doubted images gate trust C J B
doubted images gate Clean C J B a = record { failed = B; whole = record { before = a.whole.before; front = a.whole.front; batch = λ is. absurd (cc is); each = λ c i. let e = a.whole.each c i in record { place = e.place; small = e.small; is = e.is } }; why = inr refl }
doubted images gate Body C J B a = record { failed = B; whole = record { before = a.whole.before; front = a.whole.front; batch = λ is. absurd (cc is); each = λ c i. let e = a.whole.each c i in record { place = e.place; small = e.small; is = e.is } }; why = inr refl }
doubted images gate Gate C J B a = record { failed = a.failed; whole = a.whole; why = inl (a.doubt refl) }

module _ {D : Type 0} (moment : D → ℕ) (since : D → ℕ → List ℕ → Type 0) (images : D → List ℕ → Type 0) (only_now : (d : D) (c : List ℕ) → since d (moment d) c → images d c)
    (from_later : (d : D) (t u : ℕ) (c : List ℕ) → t ≤ u → since d u c → since d t c) where
  -- a commit, whatever it answered
  pub commit_keeps : (t0 : ℕ) (d d2 : D) (gate gate2 : ℕ) (trust trust2 : Trust) (C B : List Txn) (J : List Event) (ok : Bool) (s f : ℕ) (A : List Txn) → (after J).waiting ≡ B
      → t0 ≤ moment d → Kept moment since IsJournal t0 d C J → Agrees (images d) gate trust C (after J) → IsDoubtful J B A
      → Over moment since d d2 (λ c. IsEither (C ++ (after J).stored) A c ⊎ IsEither (C ++ (after J).stored) B c)
      → Agrees (images d2) gate2 trust2 C (after (J ++ settled (length B) ok (moment d2) s f))
      → Kept moment since IsJournal t0 d2 C (J ++ settled (length B) ok (moment d2) s f)
  commit_keeps t0 d d2 gate gate2 trust trust2 C B J ok s f A waits began kept agrees why over end =
      let new = settled (length B) ok (moment d2) s f in
      kept_grows moment since images only_now from_later IsJournal t0 d d2 C J new _ began kept over ((omega arith, omega arith), tt)
      (agrees_now (images d) gate trust C J new agrees)
      (λ c p. ⊎_elim (λ old. either_now C J new A c (doubtful_more J B ok (moment d2) s f A waits why) old) (λ now. either_now C J new B c (doubtful_more J B ok (moment d2) s f B waits (inr refl)) now) p)
      (agrees_fits (images d2) gate2 trust2 C (J ++ new) (moment d2) end)

-- after an append
pub agrees_appended : {T E : Type 0} (r : Result T E) (images : List ℕ → Type 0) (gate : ℕ) (trust : Trust) (C B : List Txn) (J : List Event) (m s f : ℕ) → (after J).waiting ≡ B
    → OnOk r (Stands images gate trust ((C ++ (after J).stored) ++ B) B) → OnErr r (Stands images gate trust (C ++ (after J).stored) B) → OnOk r (trust ≡ Clean)
    → Agrees images gate trust C (after (J ++ settled (length B) (is_ok r) m s f))
agrees_appended (Ok x) images gate trust C B J m s f waits ok err clean =
    subst (λ t. Agrees images gate t C (after (J ++ settled (length B) true m s f))) (sym clean) (agrees_stored images gate C B J m s f waits (subst (λ t. Stands images gate t ((C ++ (after J).stored) ++ B) B) clean ok))
agrees_appended (Err e) images gate trust C B J m s f waits ok err clean = agrees_failed images gate trust C B J m s f B waits (inr refl) err

-- ---- events that settle nothing

-- the same is stored and in doubt
record SameKept (l m : Ledger) : Type 0 where
  stored : m.stored ≡ l.stored
  doubtful : m.doubtful ≡ l.doubtful

quiet_step : (l m : Ledger) (e : Event) → IsQuiet e → SameKept l m → SameKept l (happens m e)
quiet_step l m (Sub c t) q same = record { stored = same.stored; doubtful = same.doubtful }
quiet_step l m (Settle n ok x y z) q same = absurd q
quiet_step l m (Lost c f) q same = same

quiet_all : (l m : Ledger) (es : List Event) → Each IsQuiet es → SameKept l m → SameKept l (from m es)
quiet_all l m [] q same = same
quiet_all l m (e ∷ es) q same = quiet_all l (happens m e) es q.1 (quiet_step l m e q.0 same)

quiet_after : (J new : List Event) → Each IsQuiet new → SameKept (after J) (after (J ++ new))
quiet_after J new q = subst (λ m. SameKept (after J) m) (sym (from_append empty J new)) (quiet_all (after J) (after J) new q (record { stored = refl; doubtful = refl }))

agrees_less : (old new : List ℕ → Type 0) (gate : ℕ) (trust : Trust) (C : List Txn) (l m : Ledger) → SameKept l m → NoMore old new → Agrees old gate trust C l → Agrees new gate trust C m
agrees_less old new gate trust C l m same none a = record {
  failed = a.failed;
  whole = record {
    before = a.whole.before;
    front = subst (λ (s : List Txn). Front a.whole.before (C ++ s)) (sym same.stored) a.whole.front;
    batch = a.whole.batch;
    each = λ c i. a.whole.each c (none c i);
  };
  doubt = λ is. subst (λ ds. IsOneOf ds a.failed) (sym same.doubtful) (a.doubt is);
}

quiet_timed : (t : ℕ) (e : Event) → IsQuiet e → IsTimed t t e
quiet_timed t (Sub c x) q = tt
quiet_timed t (Settle n ok x y z) q = absurd q
quiet_timed t (Lost c f) q = tt

module _ {D : Type 0} (moment : D → ℕ) (since : D → ℕ → List ℕ → Type 0) (images : D → List ℕ → Type 0) (only_now : (d : D) (c : List ℕ) → since d (moment d) c → images d c)
    (from_later : (d : D) (t u : ℕ) (c : List ℕ) → t ≤ u → since d u c → since d t c) where
  pub quiet : (t0 : ℕ) (d d2 : D) (gate : ℕ) (trust : Trust) (C : List Txn) (J new : List Event) → Agrees (images d) gate trust C (after J) → t0 ≤ moment d
      → Kept moment since IsJournal t0 d C J → Over moment since d d2 (images d) → NoMore (images d) (images d2) → Each IsQuiet new
      → Agrees (images d2) gate trust C (after (J ++ new)) × Kept moment since IsJournal t0 d2 C (J ++ new)
  quiet t0 d d2 gate trust C J new agrees began kept over none q =
      let end = agrees_less (images d) (images d2) gate trust C (after J) (after (J ++ new)) (quiet_after J new q) none agrees in
      let now = agrees_now (images d) gate trust C J new agrees in (
        end,
        kept_grows moment since images only_now from_later IsJournal t0 d d2 C J new (images d) began kept over (each_as IsQuiet (IsTimed (moment d2) (moment d2)) new (quiet_timed (moment d2)) q) now now
            (agrees_fits (images d2) gate trust C (J ++ new) (moment d2) end),
      )

  -- nothing has happened yet
  pub begins : (d : D) (gate : ℕ) (trust : Trust) (C : List Txn) → Agrees (images d) gate trust C (after []) → Kept moment since IsJournal (moment d) d C []
  begins d gate trust C agrees = record {
    timed = tt;
    each = λ t c from to s.
        let here : t ≡ moment d = omega (arith, from, to) in
        subst (λ u. Fits IsJournal C [] u c) (sym here) (agrees_fits (images d) gate trust C [] (moment d) agrees c (only_now d c (subst (λ u. since d u c) here s)));
  }
