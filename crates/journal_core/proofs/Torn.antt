-- What the images of a disk are after a write of the journal.
use Rattle.std.proofs.Common.{◌≡◌, ◌<◌, ◌≤◌, ℕ, ◌+◌, ◌^◌, min, List, [], ◌∷◌, ◌++◌, length, take, drop, refl, sym, ◌∙◌, ap, subst, arith, length-append, append_assoc}
use Rattle.std.specs.Prelude.{Option, Some, None, IfSome}
use Rattle.std.proofs.lemmas.List.{take-take, take_at, drop_at}
use Rattle.std.specs.List.{flat_map}
use Rattle.std.specs.Int.{w32, w64, to_be_bytes}
use Rattle.message_core.proofs.Fields.{wide32, wide64}
use Rattle.outside_io.specs.Told.{WhileTold}
use Rattle.disk_core.specs.Images.{Holds, Torn, Only}
use Rattle.journal_format.specs.Spelling.{Txn, txn_bytes, txns_bytes, batch_bytes}
use Rattle.journal_format.specs.Journal.{open_bytes}
use Rattle.journal_core.specs.Stands.{Shut, InPlace, TornFrom, KeepsFront, Gives}
use Rattle.journal_core.specs.declared.journal.Trust.TheVariants.{Clean, Body, Gate}
use Rattle.outside_io.specs.Counts.{last_count}
use Rattle.journal_core.proofs.Parts.{ready_staged, body_torn, body_written, gate_torn, gate_opened, gate_closed, shut_long, staged_long}
use Rattle.journal_core.proofs.Moments.{Was, told_was, read_image}

-- the place of the first byte behind the gate, as far as numbers go
abbrev pub behind : ℕ → ℕ
behind gate = min (gate + 1) last_count

module _ (before : List ℕ) (gate : ℕ) (B : List Txn) (was : List ℕ → Type 0) where
  -- a write behind the gate
  pub torn_shut : (at n : ℕ) → at ≡ behind gate → ((c : List ℕ) → was c → InPlace gate Body before B c) → (c : List ℕ) → TornFrom was at n c → InPlace gate Body before B c
  torn_shut at n is-at each c t =
      let e = each t.was t.image in
      let here : at ≡ length before + 1 = omega (arith, is-at, e.place, e.small) in
      record { place = e.place; small = e.small; is = body_torn before n t.was c e.is (subst (λ g. Torn g n t.was c) here t.torn) }

  -- a write at the gate
  pub torn_staged : ((c : List ℕ) → was c → InPlace gate Gate before B c) → (c : List ℕ) → TornFrom was gate 1 c → InPlace gate Gate before B c
  torn_staged each c t =
      let e = each t.was t.image in
      record { place = e.place; small = e.small; is = gate_torn before (batch_bytes B) t.was c e.is (subst (λ g. Torn g 1 t.was c) (sym e.place) t.torn) }

  module _ (now : List ℕ → Type 0) (old new : Option (List ℕ)) (reads : IfSome old was) (only : Only new now) where
    -- a body that was written and synced
    pub now_staged : (at : ℕ) (bytes : List ℕ) → at ≡ behind gate → ((c : List ℕ) → was c → InPlace gate Body before B c) → bytes ≡ batch_bytes B ++ (0 ∷ []) → WhileTold old new (Holds at bytes)
        → (c : List ℕ) → now c → InPlace gate Gate before B c
    now_staged at bytes is-at each are written c i =
        let w : Was old (Holds at bytes) c = told_was old new _ c written (only c i) in
        let e = each w.was (read_image old was w.was reads w.told) in
        let here : at ≡ length before + 1 = omega (arith, is-at, e.place, e.small) in
        let holds = subst (λ g. Holds g bytes w.was c) here w.step in
        record { place = e.place; small = e.small; is = ready_staged before (batch_bytes B) c (body_written before (batch_bytes B) w.was c e.is (subst (λ b. Holds (length before + 1) b w.was c) are holds)) }

    -- a gate that was opened and synced
    pub now_open : (n : ℕ) → n ≡ length (batch_bytes B ++ (0 ∷ [])) → IfSome new (λ b. length b < 2 ^ 63) → ((c : List ℕ) → was c → InPlace gate Gate before B c) → WhileTold old new (Holds gate (1 ∷ []))
        → (c : List ℕ) → now c → InPlace (min (gate + n) last_count) Clean (before ++ open_bytes B) B c
    now_open n size within each written c i =
        let w : Was old (Holds gate (1 ∷ [])) c = told_was old new _ c written (only c i) in
        let e = each w.was (read_image old was w.was reads w.told) in
        let shut = gate_opened before (batch_bytes B) w.was c e.is (subst (λ g. Holds g (1 ∷ []) w.was c) (sym e.place) w.step) in
        let long = shut_long (before ++ open_bytes B) c shut in
        let most = read_image new (λ b. length b < 2 ^ 63) c within (only c i) in
        let front : length (before ++ open_bytes B) ≡ gate + n = omega (arith, e.place, size, length-append before (open_bytes B), length-append (batch_bytes B) (0 ∷ [])) in
        record { place = omega (arith, front, long, most); small = omega (arith, front, long, most); is = shut }

    -- a gate that was closed and synced
    pub now_closed : ((c : List ℕ) → was c → InPlace gate Gate before B c) → WhileTold old new (Holds gate (0 ∷ []))
        → (c : List ℕ) → now c → InPlace gate Clean before B c
    now_closed each written c i =
        let w : Was old (Holds gate (0 ∷ [])) c = told_was old new _ c written (only c i) in
        let e = each w.was (read_image old was w.was reads w.told) in
        record { place = e.place; small = e.small; is = gate_closed before (batch_bytes B) w.was c e.is (subst (λ g. Holds g (0 ∷ []) w.was c) (sym e.place) w.step) }

-- a journal that is clean is one whose body is torn
pub clean_body : (gate : ℕ) (before : List ℕ) (A B : List Txn) (c : List ℕ) → InPlace gate Clean before A c → InPlace gate Body before B c
clean_body gate before A B c p = record { place = p.place; small = p.small; is = p.is }

-- a write at the gate or behind it keeps what a read gives before it
fewer : (g h : ℕ) (x y : List ℕ) → g ≤ h → take h y ≡ take h x → take g y ≡ take g x
fewer g h x y le same = sym (take-take g h y le) ∙ ap (λ (l : List ℕ). take g l) same ∙ take-take g h x le

pub keeps_behind : (gate at n : ℕ) (old new : Option (List ℕ)) → gate ≤ last_count → at ≡ behind gate → WhileTold old new (Torn at n) → KeepsFront gate old new
keeps_behind gate at n old None le is-at torn = tt
keeps_behind gate at n None (Some y) le is-at torn = torn
keeps_behind gate at n (Some x) (Some y) le is-at torn = fewer gate at x y (omega (arith, le, is-at)) torn.before

pub keeps_at : (gate n : ℕ) (old new : Option (List ℕ)) → WhileTold old new (Torn gate n) → KeepsFront gate old new
keeps_at gate n old None torn = tt
keeps_at gate n None (Some y) torn = torn
keeps_at gate n (Some x) (Some y) torn = torn.before

pub keeps_then : (gate : ℕ) (a b c : Option (List ℕ)) → KeepsFront gate a b → KeepsFront gate b c → KeepsFront gate a c
keeps_then gate a b None p q = tt
keeps_then gate a None (Some z) p q = absurd q
keeps_then gate None (Some y) (Some z) p q = absurd p
keeps_then gate (Some x) (Some y) (Some z) p q = q ∙ p

pub keeps_self : (gate : ℕ) (a : Option (List ℕ)) → KeepsFront gate a a
keeps_self gate None = tt
keeps_self gate (Some x) = refl

-- what a read gives behind a gate that was opened
pub opened_gives : (before : List ℕ) (B : List Txn) (c : List ℕ) → Shut (before ++ open_bytes B) c → Gives (length before + 13) (flat_map txn_bytes B) c
opened_gives before B c s =
    let len = to_be_bytes w64 (length (txns_bytes B)) in
    let count = to_be_bytes w32 (length B) in
    let txns = flat_map txn_bytes B in
    let behind = s.gate ∷ s.rest in
    let head : length (before ++ (1 ∷ (len ++ count))) ≡ length before + 13 = omega (arith, length-append before (1 ∷ (len ++ count)), length-append len count, wide64.len (length (txns_bytes B)), wide32.len (length B)) in
    let is : c ≡ (before ++ (1 ∷ (len ++ count))) ++ (txns ++ behind) =
    s.is ∙ append_assoc before (open_bytes B) behind
    ∙ ap (λ (l : List ℕ). before ++ (1 ∷ l)) (append_assoc len (count ++ txns) behind ∙ ap (λ (l : List ℕ). len ++ l) (append_assoc count txns behind) ∙ sym (append_assoc len count (txns ++ behind)))
    ∙ sym (append_assoc before (1 ∷ (len ++ count)) (txns ++ behind)) in
    ap (λ (l : List ℕ). take (length txns) (drop (length before + 13) l)) is
    ∙ ap (λ (l : List ℕ). take (length txns) l) (drop_at (before ++ (1 ∷ (len ++ count))) (txns ++ behind) (length before + 13) head)
    ∙ take_at txns behind (length txns) refl

-- what each image has, what is told has
pub told_has : (seen : Option (List ℕ)) (images P : List ℕ → Type 0) → IfSome seen images → ((c : List ℕ) → images c → P c) → IfSome seen P
told_has None images P reads each = tt
told_has (Some x) images P reads each = each x reads

-- once the gate is open
pub now_gives : (before : List ℕ) (gate : ℕ) (B : List Txn) (was now : List ℕ → Type 0) (old new : Option (List ℕ)) → IfSome old was → Only new now → IfSome new (λ b. length b < 2 ^ 63)
    → ((c : List ℕ) → was c → InPlace gate Gate before B c) → WhileTold old new (Holds gate (1 ∷ [])) → (c : List ℕ) → now c → Gives (gate + 13) (flat_map txn_bytes B) c
now_gives before gate B was now old new reads only within each written c i =
    let e = now_open before gate B was now old new reads only (length (batch_bytes B ++ (0 ∷ []))) refl within each written c i in
    let place : length before + 13 ≡ gate + 13 = omega (arith, e.place, e.small, length-append before (open_bytes B), length-append (batch_bytes B) (0 ∷ [])) in
    subst (λ n. Gives n (flat_map txn_bytes B) c) place (opened_gives before B c e.is)
