-- A session begins: the commits of a journal, and what its beginning carries.
use Rattle.std.proofs.Common.{◌≡◌, ◌≢◌, ◌≤◌, ◌<◌, ℕ, zero, suc, List, [], ◌∷◌, ◌++◌, length, drop, refl, sym, ap, ◌∙◌, subst, arith, append-nil, append_assoc, length-append}
use Rattle.std.specs.Prelude.{Option, Some, None, IfSome, true, false}
use Rattle.std.specs.List.{AllByRecursion, flat_map}
use Rattle.std.proofs.lemmas.List.Elements.{recursion_from_All}
use Rattle.outside_io.specs.Told.{WhileTold}
use Rattle.disk_core.specs.declared.trails.Trail.{Trail}
use Rattle.journal_format.specs.Spelling.{Txn, batch_bytes, IsBatch}
use Rattle.journal_format.specs.Journal.{header, open_bytes, all_txns, IsJournal}
use Rattle.journal_format.proofs.BatchBytes.{batch_again}
use Rattle.journal_core.specs.declared.journal.Trust.{Trust}
use Rattle.journal_core.specs.declared.journal.Trust.TheVariants.{Clean, Gate}
use Rattle.journal_core.specs.Stands.{JournalView, InPlace, Stands}
use Rattle.journal_core.specs.History.{after}
use Rattle.journal_core.specs.Kept.{Agrees}
use Rattle.journal_core.proofs.Parts.{shut_journal}
use Rattle.journal_core.proofs.Gates.{first_front}
use Rattle.journal_core.proofs.Moments.{same_trail}
use Rattle.journal_core.proofs.Committing.{begins}
use Rattle.disk_core.specs.Images.{IsTold}
use Rattle.commit_table.specs.Commits.{and_behind, txns_from, commits_of, commits_in}
use Rattle.commit_table.specs.Passes.{begun_of}
use Rattle.commit_table.specs.Tale.{IsFront, Carries}

-- ---- the commits of a journal are those that its bytes tell

shut_from : (n gate : ℕ) (rest : List ℕ) → gate ≢ 1 → txns_from (suc n) (gate ∷ rest) ≡ []
shut_from n zero rest shut = refl
shut_from n (suc zero) rest shut = absurd (shut refl)
shut_from n (suc (suc gate)) rest shut = refl

opened_from : (n : ℕ) (bs : List (List Txn)) (gate : ℕ) (rest : List ℕ) → length bs ≤ n → gate ≢ 1 → AllByRecursion IsBatch bs → txns_from (suc n) (flat_map open_bytes bs ++ (gate ∷ rest)) ≡ all_txns bs
opened_from n [] gate rest few shut good = shut_from n gate rest shut
opened_from zero (b ∷ bs) gate rest few shut good = absurd (omega (arith, few))
opened_from (suc n) (b ∷ bs) gate rest few shut good =
    let behind : List ℕ = flat_map open_bytes bs ++ (gate ∷ rest) in
    let parts : (batch_bytes b ++ flat_map open_bytes bs) ++ (gate ∷ rest) ≡ batch_bytes b ++ behind = append_assoc (batch_bytes b) (flat_map open_bytes bs) (gate ∷ rest) in
    let long : 0 < length behind = omega (arith, length-append (flat_map open_bytes bs) (gate ∷ rest)) in
    ap (λ (l : List ℕ). txns_from (suc (suc n)) (1 ∷ l)) parts
    ∙ ap (and_behind (txns_from (suc n))) (batch_again b behind good.0 long)
    ∙ ap (λ (l : List Txn). b ++ l) (opened_from n bs gate rest (omega (arith, few)) shut good.1)

few_batches : (bs : List (List Txn)) → length bs ≤ length (flat_map open_bytes bs)
few_batches [] = omega arith
few_batches (b ∷ bs) = let r = few_batches bs in omega (arith, length-append (open_bytes b) (flat_map open_bytes bs))

enough : (n : ℕ) (bytes : List ℕ) (bs : List (List Txn)) (gate : ℕ) (rest : List ℕ) → length bs < n → gate ≢ 1 → AllByRecursion IsBatch bs → bytes ≡ flat_map open_bytes bs ++ (gate ∷ rest) → txns_from n bytes ≡ all_txns bs
enough zero bytes bs gate rest few shut good is = absurd (omega (arith, few))
enough (suc n) bytes bs gate rest few shut good is = ap (txns_from (suc n)) is ∙ opened_from n bs gate rest (omega (arith, few)) shut good

pub commits_are : (bytes : List ℕ) (C : List Txn) → IsJournal bytes C → commits_of bytes ≡ C
commits_are bytes C j =
    let bs = j.front.batches in
    let tail : List ℕ = flat_map open_bytes bs ++ (j.gate ∷ j.rest) in
    let all : bytes ≡ header ++ tail = j.is ∙ ap (λ (l : List ℕ). l ++ (j.gate ∷ j.rest)) j.front.is ∙ append_assoc header (flat_map open_bytes bs) (j.gate ∷ j.rest) in
    let behind : drop 16 bytes ≡ tail = ap (drop 16) all in
    let few : length bs < length bytes = omega (arith, ap length all, length-append header tail, length-append (flat_map open_bytes bs) (j.gate ∷ j.rest), few_batches bs) in
    enough (length bytes) (drop 16 bytes) bs j.gate j.rest few j.shut (recursion_from_All IsBatch bs j.front.good) behind ∙ sym j.front.txns

-- ---- the beginning of a session

-- a clean journal stands for the commits that its disk tells; where the disk tells nothing, for none
module _ {D : Type 0} (seen : D → Option (List ℕ)) (images : D → List ℕ → Type 0) (d : D) (reads : IfSome (seen d) (images d)) (tells : (c : List ℕ) → images d c → IsTold (seen d)) where
  stands_told : (told : Option (List ℕ)) → told ≡ seen d → (gate : ℕ) (trust : Trust) (C A : List Txn) → trust ≡ Clean → Stands (images d) gate trust C A → Stands (images d) gate trust (commits_in told) A
  stands_told (Some bytes) is gate trust C A clean s =
      let i : images d bytes = subst (λ (x : Option (List ℕ)). IfSome x (images d)) (sym is) reads in
      let shut = subst (λ (t : Trust). InPlace gate t s.before A bytes) clean (s.each bytes i) in
      subst (λ (l : List Txn). Stands (images d) gate trust l A) (sym (commits_are bytes C (shut_journal s.before C bytes s.front shut.is))) s
  stands_told None is gate trust C A clean s = record {
    before = header;
    front = first_front;
    batch = λ (gated : trust ≡ Gate). let z : Clean ≡ Gate = sym clean ∙ gated in absurd (cc);
    each = λ c i. let z : false ≡ true = subst IsTold (sym is) (tells c i) in absurd (cc);
  }

  pub stands_in : (gate : ℕ) (trust : Trust) (C A : List Txn) → trust ≡ Clean → Stands (images d) gate trust C A → Stands (images d) gate trust (commits_in (seen d)) A
  stands_in gate trust C A clean s = stands_told (seen d) refl gate trust C A clean s

-- where the disk tells its bytes, they are a journal of those commits
pub journal_told : (told : Option (List ℕ)) (images : List ℕ → Type 0) (gate : ℕ) (trust : Trust) (C A : List Txn) → IfSome told images → trust ≡ Clean → Stands images gate trust C A → IfSome told (λ x. IsJournal x (commits_in told))
journal_told None images gate trust C A reads clean s = tt
journal_told (Some bytes) images gate trust C A reads clean s =
    let shut = subst (λ (t : Trust). InPlace gate t s.before A bytes) clean (s.each bytes reads) in
    let j = shut_journal s.before C bytes s.front shut.is in
    subst (IsJournal bytes) (sym (commits_are bytes C j)) j

no_outcomes : (told : Option (List ℕ)) → IfSome told (λ x. Unit {0})
no_outcomes None = tt
no_outcomes (Some x) = tt

front_first : (told : Option (List ℕ)) (gate : ℕ) → WhileTold told told (IsFront gate gate)
front_first None gate = tt
front_first (Some x) gate = (omega arith, refl)

module _ {D : Type 0} (seen : D → Option (List ℕ)) (images : D → List ℕ → Type 0) (moment : D → ℕ) (since : D → ℕ → List ℕ → Type 0) (trail : D → Option Trail) (faults syncs : D → ℕ)
    (only_now : (d : D) (c : List ℕ) → since d (moment d) c → images d c) (from_later : (d : D) (t u : ℕ) (c : List ℕ) → t ≤ u → since d u c → since d t c) where
  -- nothing has happened yet
  pub carries_first : (j : JournalView D) (C A : List Txn) (callers tickets each : ℕ) → j.trust ≡ Clean → Stands (images j.disk) j.gate j.trust C A → IfSome (seen j.disk) (images j.disk) → ((c : List ℕ) → images j.disk c → IsTold (seen j.disk))
      → Carries seen images moment since trail faults syncs (begun_of seen moment trail faults syncs j callers tickets each) j []
  carries_first j C A callers tickets each clean s reads tells =
      let B = commits_in (seen j.disk) in
      let w = stands_in seen images j.disk reads tells j.gate j.trust C A clean s in
      let agrees : Agrees (images j.disk) j.gate j.trust B (after []) = record {
        failed = A;
        whole = subst (λ (l : List Txn). Stands (images j.disk) j.gate j.trust l A) (sym (append-nil B)) w;
        doubt = λ (gated : j.trust ≡ Gate). let z : Clean ≡ Gate = sym clean ∙ gated in absurd (cc);
      } in
      record {
        agrees = agrees;
        kept = begins moment since images only_now from_later j.disk j.gate j.trust B agrees;
        began = omega arith;
        goes_on = same_trail (trail j.disk);
        settled = refl;
        clean = (λ is. refl, λ is. clean);
        gate = refl;
        front = front_first (seen j.disk) j.gate;
        given = no_outcomes (seen j.disk);
        syncs_are = omega arith;
        faults_are = omega arith;
      }
