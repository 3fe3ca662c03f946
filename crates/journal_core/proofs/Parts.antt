-- What a write leaves of a front, a gate and what stands behind it.
use Rattle.std.proofs.Common.{◌≡◌, ◌≢◌, ◌<◌, ◌≤◌, inl, inr, ℕ, ◌+◌, List, [], ◌∷◌, ◌++◌, length, get_or, take, drop, refl, sym, ◌∙◌, ap, arith, append_assoc, length-append, take-append-drop}
use Rattle.std.proofs.lemmas.Bool.{cases_eq}
use Rattle.std.proofs.lemmas.List.{take_at, drop_at, drop_more}
use Rattle.disk_core.specs.Images.{Holds, Torn}
use Rattle.journal_format.specs.Spelling.{Txn, batch_bytes, IsBatch}
use Rattle.journal_format.specs.Journal.{Front, IsJournal, open_bytes}
use Rattle.journal_format.proofs.Fronts.{front_grows}
use Rattle.journal_core.specs.Stands.{Shut, Staged, IsEither}

-- the gate isn't open, and behind it stand this batch and a closed gate
pub record Ready (before body c : List ℕ) : Type 0 where
  pub gate : ℕ
  pub rest : List ℕ
  pub shut : gate ≢ 1
  pub is : c ≡ before ++ (gate ∷ (body ++ (0 ∷ rest)))

pub ready_staged : (before body c : List ℕ) → Ready before body c → Staged before body c
ready_staged before body c r = record { gate = r.gate; rest = r.rest; is = r.is }

pub shut_journal : (before : List ℕ) (C : List Txn) (c : List ℕ) → Front before C → Shut before c → IsJournal c C
shut_journal before C c front s = record { before = before; gate = s.gate; rest = s.rest; shut = s.shut; is = s.is; front = front }

pub opened : (before body rest : List ℕ) → before ++ (1 ∷ (body ++ (0 ∷ rest))) ≡ (before ++ (1 ∷ body)) ++ (0 ∷ rest)
opened before body rest = sym (append_assoc before (1 ∷ body) (0 ∷ rest))

pub staged_either : (before : List ℕ) (C B : List Txn) (c : List ℕ) → Front before C → IsBatch B → Staged before (batch_bytes B) c → IsEither C B c
staged_either before C B c front batch s = elim (cases_eq s.gate 1) [
  | inl is_open ↦ inr (record {
    before = before ++ open_bytes B;
    gate = 0;
    rest = s.rest;
    shut = omega arith;
    is = s.is ∙ ap (λ (g : ℕ). before ++ (g ∷ (batch_bytes B ++ (0 ∷ s.rest)))) is_open ∙ opened before (batch_bytes B) s.rest;
    front = front_grows before C B front batch;
  })
  | inr shut ↦ inl (record { before = before; gate = s.gate; rest = batch_bytes B ++ (0 ∷ s.rest); shut = shut; is = s.is; front = front })
]

-- a list is its front, the byte at that place, and the rest
pub split_at : (g : ℕ) (c : List ℕ) → g < length c → c ≡ take g c ++ (get_or c g 0 ∷ drop (g + 1) c)
split_at g c lt = sym (take-append-drop g c) ∙ ap (λ (l : List ℕ). take g c ++ l) (drop_more c g 0 lt)

front_size : (before : List ℕ) (gate : ℕ) → length (before ++ (gate ∷ [])) ≡ length before + 1
front_size before gate = omega (arith, length-append before (gate ∷ []))

-- with its gate
front_of : (before rest : List ℕ) (gate : ℕ) → take (length before + 1) (before ++ (gate ∷ rest)) ≡ before ++ (gate ∷ [])
front_of before rest gate =
    ap (λ (l : List ℕ). take (length before + 1) l) (sym (append_assoc before (gate ∷ []) rest)) ∙ take_at (before ++ (gate ∷ [])) rest (length before + 1) (front_size before gate)

behind : (before rest : List ℕ) (gate : ℕ) → drop (length before + 1) (before ++ (gate ∷ rest)) ≡ rest
behind before rest gate =
    ap (λ (l : List ℕ). drop (length before + 1) l) (sym (append_assoc before (gate ∷ []) rest)) ∙ drop_at (before ++ (gate ∷ [])) rest (length before + 1) (front_size before gate)

-- a write behind the gate leaves it shut
pub body_torn : (before : List ℕ) (n : ℕ) (old c : List ℕ) → Shut before old → Torn (length before + 1) n old c → Shut before c
body_torn before n old c s torn =
    let rest = drop (length before + 1) c in
    let front : take (length before + 1) c ≡ before ++ (s.gate ∷ []) = torn.before ∙ ap (λ (l : List ℕ). take (length before + 1) l) s.is ∙ front_of before s.rest s.gate in
    record {
      gate = s.gate;
      rest = rest;
      shut = s.shut;
      is = sym (take-append-drop (length before + 1) c) ∙ ap (λ (l : List ℕ). l ++ rest) front ∙ append_assoc before (s.gate ∷ []) rest;
    }

pub body_written : (before body : List ℕ) (old c : List ℕ) → Shut before old → Holds (length before + 1) (body ++ (0 ∷ [])) old c → Ready before body c
body_written before body old c s holds =
    let rest = drop (length before + 1 + length (body ++ (0 ∷ []))) old in
    let front : take (length before + 1) old ≡ before ++ (s.gate ∷ []) = ap (λ (l : List ℕ). take (length before + 1) l) s.is ∙ front_of before s.rest s.gate in
    record {
      gate = s.gate;
      rest = rest;
      shut = s.shut;
      is = holds ∙ ap (λ (l : List ℕ). l ++ ((body ++ (0 ∷ [])) ++ rest)) front ∙ append_assoc before (s.gate ∷ []) ((body ++ (0 ∷ [])) ++ rest)
          ∙ ap (λ (l : List ℕ). before ++ (s.gate ∷ l)) (append_assoc body (0 ∷ []) rest);
    }

-- a write at the gate leaves what stands before and behind it
pub gate_torn : (before body : List ℕ) (old c : List ℕ) → Staged before body old → Torn (length before) 1 old c → Staged before body c
gate_torn before body old c s torn =
    let long : length old ≡ length before + length (s.gate ∷ (body ++ (0 ∷ s.rest))) = ap length s.is ∙ length-append before (s.gate ∷ (body ++ (0 ∷ s.rest))) in
    let front : take (length before) c ≡ before = torn.before ∙ ap (λ (l : List ℕ). take (length before) l) s.is ∙ take_at before (s.gate ∷ (body ++ (0 ∷ s.rest))) (length before) refl in
    let back : drop (length before + 1) c ≡ body ++ (0 ∷ (s.rest ++ torn.more)) =
    torn.after ∙ ap (λ (l : List ℕ). drop (length before + 1) l ++ torn.more) s.is ∙ ap (λ (l : List ℕ). l ++ torn.more) (behind before (body ++ (0 ∷ s.rest)) s.gate) ∙ append_assoc body (0 ∷ s.rest) torn.more in
    let gate = get_or c (length before) 0 in
    record {
      gate = gate;
      rest = s.rest ++ torn.more;
      is = split_at (length before) c (omega (arith, long, torn.no_shorter))
          ∙ ap (λ (l : List ℕ). l ++ (gate ∷ drop (length before + 1) c)) front ∙ ap (λ (l : List ℕ). before ++ (gate ∷ l)) back;
    }

-- with this byte there
pub gate_written : (before body : List ℕ) (byte : ℕ) (old c : List ℕ) (s : Staged before body old) → Holds (length before) (byte ∷ []) old c → c ≡ before ++ (byte ∷ (body ++ (0 ∷ s.rest)))
gate_written before body byte old c s holds =
    let front : take (length before) old ≡ before = ap (λ (l : List ℕ). take (length before) l) s.is ∙ take_at before (s.gate ∷ (body ++ (0 ∷ s.rest))) (length before) refl in
    let back : drop (length before + 1) old ≡ body ++ (0 ∷ s.rest) = ap (λ (l : List ℕ). drop (length before + 1) l) s.is ∙ behind before (body ++ (0 ∷ s.rest)) s.gate in
    holds ∙ ap (λ (l : List ℕ). l ++ ((byte ∷ []) ++ drop (length before + 1) old)) front ∙ ap (λ (l : List ℕ). before ++ (byte ∷ l)) back

pub gate_opened : (before body : List ℕ) (old c : List ℕ) → Staged before body old → Holds (length before) (1 ∷ []) old c → Shut (before ++ (1 ∷ body)) c
gate_opened before body old c s holds = record { gate = 0; rest = s.rest; shut = omega arith; is = gate_written before body 1 old c s holds ∙ opened before body s.rest }

pub gate_closed : (before body : List ℕ) (old c : List ℕ) → Staged before body old → Holds (length before) (0 ∷ []) old c → Shut before c
gate_closed before body old c s holds = record { gate = 0; rest = body ++ (0 ∷ s.rest); shut = omega arith; is = gate_written before body 0 old c s holds }

pub shut_long : (before c : List ℕ) → Shut before c → length before + 1 ≤ length c
shut_long before c s = omega (arith, ap length s.is, length-append before (s.gate ∷ s.rest))

pub staged_long : (before body c : List ℕ) → Staged before body c → length before + 1 ≤ length c
staged_long before body c s = omega (arith, ap length s.is, length-append before (s.gate ∷ (body ++ (0 ∷ s.rest))))
