-- A journal ends at its first gate that isn't open, or at its first fault.
use Rattle.std.proofs.Common.{◌≡◌, ◌≢◌, ◌<◌, ◌+◌, ◌-◌, ℕ, zero, suc, List, [], ◌∷◌, ◌++◌, length, drop, Result, Ok, Err, refl, sym, ap, ◌∙◌, append_assoc, length-append, arith}
use Rattle.std.specs.List.{flat_map, All}
use Rattle.message_core.proofs.Fields.{ok_is}
use Rattle.journal_format.specs.Spelling.{Txn, batch_bytes, IsBatch}
use Rattle.journal_format.specs.Reading.{batch_at}
use Rattle.journal_format.specs.Journal.{header, open_bytes, all_txns, Front, IsJournal, IsDamaged}
use Rattle.journal_format.proofs.BatchBytes.{batch_again}

-- open batches, and then a gate and what stands behind it
abbrev behind : List (List Txn) → ℕ → List ℕ → List ℕ
behind bs gate rest = flat_map open_bytes bs ++ (gate ∷ rest)

behind_more : (bs : List (List Txn)) (gate : ℕ) (rest : List ℕ) → 0 < length (behind bs gate rest)
behind_more bs gate rest = omega (arith, length-append (flat_map open_bytes bs) (gate ∷ rest))

behind_one : (b : List Txn) (bs : List (List Txn)) (gate : ℕ) (rest : List ℕ) → behind (b ∷ bs) gate rest ≡ 1 ∷ (batch_bytes b ++ behind bs gate rest)
behind_one b bs gate rest = append_assoc (open_bytes b) (flat_map open_bytes bs) (gate ∷ rest)

All-rest : (b : List Txn) (bs : List (List Txn)) → All IsBatch (b ∷ bs) → All IsBatch bs
All-rest b bs all k d lt = all (suc k) d (omega (arith, lt))

-- two batches with something behind them that begin the same bytes
first_batch : (a b : List Txn) (xs ys : List ℕ) → IsBatch a → IsBatch b → 0 < length xs → 0 < length ys → batch_bytes a ++ xs ≡ batch_bytes b ++ ys → (a ≡ b) × (xs ≡ ys)
first_batch a b xs ys pa pb mx my e =
    let same = ok_is (a, xs) (b, ys) (sym (batch_again a xs pa mx) ∙ ap batch_at e ∙ batch_again b ys pb my) in
    (ap (λ (p : List Txn × List ℕ). p.0) same, ap (λ (p : List Txn × List ℕ). p.1) same)

-- no batch is read there
record Faulty (rest : List ℕ) : Type 0 where
  left : ℕ
  fault : batch_at rest ≡ Err left

abbrev failed : ℕ → Result (List Txn × List ℕ) ℕ
failed left = Err left

abbrev gave : List Txn × List ℕ → Result (List Txn × List ℕ) ℕ
gave x = Ok x

err_not_ok : (left : ℕ) (x : List Txn × List ℕ) → failed left ≡ gave x → ⊥
err_not_ok left x e = cc

err_is : (m n : ℕ) → failed m ≡ failed n → m ≡ n
err_is m n e = cc

no_batch : (rest : List ℕ) (b : List Txn) (more : List ℕ) → Faulty rest → IsBatch b → 0 < length more → rest ≡ batch_bytes b ++ more → ⊥
no_batch rest b more f is gate e = err_not_ok f.left (b, more) (sym f.fault ∙ ap batch_at e ∙ batch_again b more is gate)

-- closed gates on both sides
closed_both : (us vs : List (List Txn)) (g h : ℕ) (xs ys : List ℕ) → g ≢ 1 → h ≢ 1 → All IsBatch us → All IsBatch vs → behind us g xs ≡ behind vs h ys → us ≡ vs
closed_both [] [] g h xs ys sg sh pa pb e = refl
closed_both [] (b ∷ vs) g h xs ys sg sh pa pb e = let is : g ≡ 1 = cc (e, behind_one b vs h ys) in absurd (sg is)
closed_both (a ∷ us) [] g h xs ys sg sh pa pb e = let is : h ≡ 1 = cc (e, behind_one a us g xs) in absurd (sh is)
closed_both (a ∷ us) (b ∷ vs) g h xs ys sg sh pa pb e =
    let inner : batch_bytes a ++ behind us g xs ≡ batch_bytes b ++ behind vs h ys = ap (λ (l : List ℕ). drop 1 l) (sym (behind_one a us g xs) ∙ e ∙ behind_one b vs h ys) in
    let t = first_batch a b (behind us g xs) (behind vs h ys) (pa zero a (omega arith)) (pb zero b (omega arith)) (behind_more us g xs) (behind_more vs h ys) inner in
    λ i. t.0 i ∷ closed_both us vs g h xs ys sg sh (All-rest a us pa) (All-rest b vs pb) t.1 i

-- a fault on one side, a closed gate on the other
fault_closed : (us vs : List (List Txn)) (h : ℕ) (xs ys : List ℕ) → Faulty xs → h ≢ 1 → All IsBatch us → All IsBatch vs → behind us 1 xs ≡ behind vs h ys → ⊥
fault_closed [] [] h xs ys f sh pa pb e = let is : h ≡ 1 = cc e in sh is
fault_closed [] (b ∷ vs) h xs ys f sh pa pb e =
    let inner : xs ≡ batch_bytes b ++ behind vs h ys = ap (λ (l : List ℕ). drop 1 l) (e ∙ behind_one b vs h ys) in
    no_batch xs b (behind vs h ys) f (pb zero b (omega arith)) (behind_more vs h ys) inner
fault_closed (a ∷ us) [] h xs ys f sh pa pb e = let is : h ≡ 1 = cc (e, behind_one a us 1 xs) in sh is
fault_closed (a ∷ us) (b ∷ vs) h xs ys f sh pa pb e =
    let inner : batch_bytes a ++ behind us 1 xs ≡ batch_bytes b ++ behind vs h ys = ap (λ (l : List ℕ). drop 1 l) (sym (behind_one a us 1 xs) ∙ e ∙ behind_one b vs h ys) in
    let t = first_batch a b (behind us 1 xs) (behind vs h ys) (pa zero a (omega arith)) (pb zero b (omega arith)) (behind_more us 1 xs) (behind_more vs h ys) inner in
    fault_closed us vs h xs ys f sh (All-rest a us pa) (All-rest b vs pb) t.1

-- a fault on both sides
fault_both : (us vs : List (List Txn)) (xs ys : List ℕ) → Faulty xs → Faulty ys → All IsBatch us → All IsBatch vs → behind us 1 xs ≡ behind vs 1 ys → xs ≡ ys
fault_both [] [] xs ys f g pa pb e = ap (λ (l : List ℕ). drop 1 l) e
fault_both [] (b ∷ vs) xs ys f g pa pb e =
    let inner : xs ≡ batch_bytes b ++ behind vs 1 ys = ap (λ (l : List ℕ). drop 1 l) (e ∙ behind_one b vs 1 ys) in
    absurd (no_batch xs b (behind vs 1 ys) f (pb zero b (omega arith)) (behind_more vs 1 ys) inner)
fault_both (a ∷ us) [] xs ys f g pa pb e =
    let inner : ys ≡ batch_bytes a ++ behind us 1 xs = ap (λ (l : List ℕ). drop 1 l) (sym e ∙ behind_one a us 1 xs) in
    absurd (no_batch ys a (behind us 1 xs) g (pa zero a (omega arith)) (behind_more us 1 xs) inner)
fault_both (a ∷ us) (b ∷ vs) xs ys f g pa pb e =
    let inner : batch_bytes a ++ behind us 1 xs ≡ batch_bytes b ++ behind vs 1 ys = ap (λ (l : List ℕ). drop 1 l) (sym (behind_one a us 1 xs) ∙ e ∙ behind_one b vs 1 ys) in
    let t = first_batch a b (behind us 1 xs) (behind vs 1 ys) (pa zero a (omega arith)) (pb zero b (omega arith)) (behind_more us 1 xs) (behind_more vs 1 ys) inner in
    fault_both us vs xs ys f g (All-rest a us pa) (All-rest b vs pb) t.1

-- ---- journals

-- the bytes behind the header, by one front and by another
same_behind : (us vs : List (List Txn)) (before after bytes : List ℕ) (g h : ℕ) (xs ys : List ℕ) → before ≡ header ++ flat_map open_bytes us → after ≡ header ++ flat_map open_bytes vs → bytes ≡ before ++ (g ∷ xs) → bytes ≡ after ++ (h ∷ ys) → behind us g xs ≡ behind vs h ys
same_behind us vs before after bytes g h xs ys fu fv p q =
    let left : bytes ≡ header ++ behind us g xs = p ∙ ap (λ (l : List ℕ). l ++ (g ∷ xs)) fu ∙ append_assoc header (flat_map open_bytes us) (g ∷ xs) in
    let right : bytes ≡ header ++ behind vs h ys = q ∙ ap (λ (l : List ℕ). l ++ (h ∷ ys)) fv ∙ append_assoc header (flat_map open_bytes vs) (h ∷ ys) in
    ap (λ (l : List ℕ). drop 16 l) (sym left ∙ right)

pub one_list : (bytes : List ℕ) (C D : List Txn) → IsJournal bytes C → IsJournal bytes D → C ≡ D
one_list bytes C D p q =
    let e = same_behind p.front.batches q.front.batches p.before q.before bytes p.gate q.gate p.rest q.rest p.front.is q.front.is p.is q.is in
    p.front.txns ∙ ap all_txns (closed_both p.front.batches q.front.batches p.gate q.gate p.rest q.rest p.shut q.shut p.front.good q.front.good e) ∙ sym q.front.txns

pub nothing_behind : (before rest : List ℕ) (gate : ℕ) (C D : List Txn) → gate ≢ 1 → Front before C → IsJournal (before ++ (gate ∷ rest)) D → D ≡ C
nothing_behind before rest gate C D shut front journal = one_list (before ++ (gate ∷ rest)) D C journal (record { before = before; gate = gate; rest = rest; shut = shut; is = refl; front = front })

pub no_journal : (bytes : List ℕ) (C : List Txn) (at : ℕ) → IsDamaged bytes at → IsJournal bytes C → ⊥
no_journal bytes C at p q =
    fault_closed p.front.batches q.front.batches q.gate p.rest q.rest (record { left = p.left; fault = p.fault }) q.shut p.front.good q.front.good
    (same_behind p.front.batches q.front.batches p.before q.before bytes 1 q.gate p.rest q.rest p.front.is q.front.is p.is q.is)

pub one_fault : (bytes : List ℕ) (at to : ℕ) → IsDamaged bytes at → IsDamaged bytes to → to ≡ at
one_fault bytes at to p q =
    let e = same_behind p.front.batches q.front.batches p.before q.before bytes 1 1 p.rest q.rest p.front.is q.front.is p.is q.is in
    let rests = fault_both p.front.batches q.front.batches p.rest q.rest (record { left = p.left; fault = p.fault }) (record { left = q.left; fault = q.fault }) p.front.good q.front.good e in
    let same : p.left ≡ q.left = err_is p.left q.left (sym p.fault ∙ ap batch_at rests ∙ q.fault) in
    omega (arith, p.place, q.place, same, ap length rests, ap length p.is, ap length q.is, length-append p.before (1 ∷ p.rest), length-append q.before (1 ∷ q.rest))
