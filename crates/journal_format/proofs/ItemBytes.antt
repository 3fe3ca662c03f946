-- Items: what is read is what was written, and what was written is read again.
use Rattle.std.proofs.Common.{◌≡◌, ℕ, zero, suc, ◌+◌, ◌-◌, ◌^◌, ◌<◌, ◌≤◌, Bool, true, false, cond, List, [], ◌∷◌, ◌++◌, length, take, drop, get_or, min, Result, Ok, Err, refl, sym, ap, subst, ◌∙◌, append_assoc, length-append, arith}
use Rattle.std.specs.Prelude.{◌&&◌, nat_le, ◌==◌}
use Rattle.std.specs.Int.{w32, w64, to_be_bytes}
use Rattle.std.proofs.lemmas.Bool.{leb-true, le-leb}
use Rattle.std.proofs.lemmas.List.{take_at, drop_at, take-append-drop, length-take}
use Rattle.message_core.specs.Spelling.{Content, content, text_bytes, IsMessage}
use Rattle.message_core.specs.Reading.{◌>>=◌, allowed, number_at, byte_at, message_of}
use Rattle.message_core.proofs.Fields.{IsBytes, IsBytes-rest, bind_ok, allowed_ok, ok_is, Takes, Takes-then, wide32, wide64, number_takes, number_again, byte_takes}
use Rattle.message_core.proofs.Whole.{message_takes, message_again}
use Rattle.journal_format.specs.declared.items.Item.{Item}
use Rattle.journal_format.specs.declared.items.Item.TheVariants.{Entered, Gone}
use Rattle.journal_format.specs.Spelling.{name_bytes, item_bytes, IsName, IsItem}
use Rattle.journal_format.specs.Reading.{part_at, name_at, flagged, persistent_of, message_at, item_at}
use Rattle.journal_format.proofs.Parts.{both_true, IsBytes-behind, part_takes, part_again, Spells, Rereads}

-- ---- names

-- the length of a name is within its limits, and so many bytes are there
abbrev name_fits : ℕ × List ℕ → Bool
name_fits len = nat_le 1 len.0 && (nat_le len.0 64 && nat_le len.0 (length len.1))

pub name_takes : Spells name_at name_bytes IsName
unfolding name_at
name_takes bytes x fits e =
    let a = bind_ok (byte_at bytes) (λ len. allowed (name_fits len) (length bytes) len >>= λ ok. Ok (take ok.0 ok.1, drop ok.0 ok.1)) x e in
    let b = bind_ok (allowed (name_fits a.0) (length bytes) a.0) (λ ok. Ok (take ok.0 ok.1, drop ok.0 ok.1)) x a.2 in
    let g = allowed_ok (name_fits a.0) (length bytes) a.0 b.0 b.1 in
    let t = byte_takes bytes a.0 fits a.1 in
    let first = both_true (nat_le 1 a.0.0) (nat_le a.0.0 64 && nat_le a.0.0 (length a.0.1)) g.0 in
    let second = both_true (nat_le a.0.0 64) (nat_le a.0.0 (length a.0.1)) first.1 in
    let least : 1 ≤ a.0.0 = leb-true _ _ first.0 in
    let most : a.0.0 ≤ 64 = leb-true _ _ second.0 in
    let there : a.0.0 ≤ length a.0.1 = leb-true _ _ second.1 in
    let long : length (take a.0.0 a.0.1) ≡ a.0.0 = omega (arith, length-take a.0.0 a.0.1, there) in
    let parts : bytes ≡ a.0.0 ∷ (take a.0.0 a.0.1 ++ drop a.0.0 a.0.1) = t.0.parts ∙ ap (λ (l : List ℕ). a.0.0 ∷ l) (sym (take-append-drop a.0.0 a.0.1)) in
    let rest_fits : IsBytes (drop a.0.0 a.0.1) = IsBytes-behind (take a.0.0 a.0.1) (drop a.0.0 a.0.1) (subst IsBytes (sym (take-append-drop a.0.0 a.0.1)) t.0.rest_fits) in
    let read : (take a.0.0 a.0.1, drop a.0.0 a.0.1) ≡ x = ap (λ (l : ℕ × List ℕ). (take l.0 l.1, drop l.0 l.1)) g.1 ∙ ok_is (take b.0.0 b.0.1, drop b.0.0 b.0.1) x b.2 in
    subst (λ (y : List ℕ × List ℕ). Takes bytes (name_bytes y.0) y.1 × IsName y.0) read
    (record { parts = subst (λ (n : ℕ). bytes ≡ n ∷ (take a.0.0 a.0.1 ++ drop a.0.0 a.0.1)) (sym long) parts; rest_fits = rest_fits }, (omega (arith, least, long), omega (arith, most, long)))

pub name_again : Rereads name_at name_bytes IsName
unfolding name_at
name_again x rest is =
    let least : nat_le 1 (length x) ≡ true = le-leb _ _ is.0 in
    let most : nat_le (length x) 64 ≡ true = le-leb _ _ is.1 in
    let there : nat_le (length x) (length (x ++ rest)) ≡ true = le-leb _ _ (omega (arith, length-append x rest)) in
    rw (least, most, there, take_at x rest (length x) refl, drop_at x rest (length x) refl) refl

-- ---- messages

-- a message that a journal may have
abbrev pub IsPersistent : Content → Type 0
IsPersistent m = IsMessage m × (m.persistent ≡ true)

flagged_ok : (b : Bool) (m n : Content) → cond {A = Result Content ℕ} b (Ok m) (Err 8) ≡ Ok n → (b ≡ true) × (m ≡ n)
flagged_ok true m n e = (refl, cc)
flagged_ok false m n e = absurd cc

never_ok : (b : Bool) (d c : ℕ) (n : Content) → cond {A = Result Content ℕ} b (Err d) (Err c) ≡ Ok n → ⊥
never_ok true d c n e = cc
never_ok false d c n e = cc

persistent_read : (bytes : List ℕ) (r : Result Content ℕ) (n : Content) → flagged bytes r ≡ Ok n → (r ≡ Ok n) × (n.persistent ≡ true)
persistent_read bytes (Ok m) n e =
    let f = flagged_ok m.persistent m n e in
    (ap (λ (x : Content). Ok x) f.1, subst (λ (x : Content). x.persistent ≡ true) f.1 f.0)
persistent_read bytes (Err at) n e = absurd (never_ok (get_or bytes 8 1 == 0) (min at 8) at n e)

persistent_takes : (bytes : List ℕ) (m : Content) → IsBytes bytes → persistent_of bytes ≡ Ok m → IsPersistent m × (bytes ≡ content m)
unfolding persistent_of
persistent_takes bytes m fits e =
    let p = persistent_read bytes (message_of bytes) m e in
    let t = message_takes bytes m fits p.0 in
    ((t.0, p.1), t.1)

persistent_again : (m : Content) → IsPersistent m → persistent_of (content m) ≡ Ok m
unfolding persistent_of
persistent_again m is = rw (message_again m is.0, is.1) refl

-- the bytes of a message behind their length
abbrev pub message_bytes : Content → List ℕ
message_bytes m = text_bytes (content m)

pub message_spelled : Spells message_at message_bytes IsPersistent
unfolding message_at
message_spelled bytes x fits e =
    let a = bind_ok (number_at w32 bytes) (λ len. part_at persistent_of len.0 len.1) x e in
    let t0 = number_takes w32 (2 ^ 32) wide32 bytes a.0 fits a.1 in
    let p = part_takes persistent_of a.0.0 a.0.1 x t0.0.rest_fits a.2 in
    let m = persistent_takes p.part x.0 p.fits p.read in
    let both = Takes-then bytes (to_be_bytes w32 a.0.0) a.0.1 p.part x.1 t0.0 p.takes in
    let same : to_be_bytes w32 a.0.0 ++ p.part ≡ message_bytes x.0 = ap (λ (n : ℕ). to_be_bytes w32 n ++ p.part) (sym p.len_is) ∙ ap text_bytes m.1 in
    (subst (λ (l : List ℕ). Takes bytes l x.1) same both, m.0)

pub message_reread : Rereads message_at message_bytes IsPersistent
unfolding message_at
message_reread m rest is =
    let regrouped : message_bytes m ++ rest ≡ to_be_bytes w32 (length (content m)) ++ (content m ++ rest) = append_assoc (to_be_bytes w32 (length (content m))) (content m) rest in
    ap message_at regrouped ∙ rw (number_again w32 (2 ^ 32) wide32 (length (content m)) (content m ++ rest) (omega (arith, is.0.short)), part_again persistent_of (content m) rest m (persistent_again m is)) refl

-- ---- items

pub item_spelled : Spells item_at item_bytes IsItem
unfolding item_at
item_spelled [] x fits e = absurd cc
item_spelled (zero ∷ bytes) x fits e = absurd cc
item_spelled (suc zero ∷ bytes) x fits e =
    let a = bind_ok (name_at bytes) (λ queue. message_at queue.1 >>= λ message. Ok (Entered queue.0 message.0, message.1)) x e in
    let b = bind_ok (message_at a.0.1) (λ message. Ok (Entered a.0.0 message.0, message.1)) x a.2 in
    let t0 = name_takes bytes a.0 (IsBytes-rest 1 bytes fits) a.1 in
    let t1 = message_spelled a.0.1 b.0 t0.0.rest_fits b.1 in
    let both = Takes-then bytes (name_bytes a.0.0) a.0.1 (message_bytes b.0.0) b.0.1 t0.0 t1.0 in
    subst (λ (y : Item × List ℕ). Takes (1 ∷ bytes) (item_bytes y.0) y.1 × IsItem y.0) (ok_is (Entered a.0.0 b.0.0, b.0.1) x b.2)
    (record { parts = ap (λ (l : List ℕ). 1 ∷ l) both.parts; rest_fits = both.rest_fits }, (t0.1, t1.1.0, t1.1.1))
item_spelled (suc (suc zero) ∷ bytes) x fits e =
    let a = bind_ok (name_at bytes) (λ queue. number_at w64 queue.1 >>= λ id. Ok (Gone queue.0 id.0, id.1)) x e in
    let b = bind_ok (number_at w64 a.0.1) (λ id. Ok (Gone a.0.0 id.0, id.1)) x a.2 in
    let t0 = name_takes bytes a.0 (IsBytes-rest 2 bytes fits) a.1 in
    let t1 = number_takes w64 (2 ^ 64) wide64 a.0.1 b.0 t0.0.rest_fits b.1 in
    let both = Takes-then bytes (name_bytes a.0.0) a.0.1 (to_be_bytes w64 b.0.0) b.0.1 t0.0 t1.0 in
    subst (λ (y : Item × List ℕ). Takes (2 ∷ bytes) (item_bytes y.0) y.1 × IsItem y.0) (ok_is (Gone a.0.0 b.0.0, b.0.1) x b.2)
    (record { parts = ap (λ (l : List ℕ). 2 ∷ l) both.parts; rest_fits = both.rest_fits }, (t0.1, t1.1))
item_spelled (suc (suc (suc tag)) ∷ bytes) x fits e = absurd cc

pub item_reread : Rereads item_at item_bytes IsItem
unfolding item_at
item_reread (Entered q m) rest is =
    let regrouped : item_bytes (Entered q m) ++ rest ≡ 1 ∷ (name_bytes q ++ (message_bytes m ++ rest)) = ap (λ (l : List ℕ). 1 ∷ l) (append_assoc (name_bytes q) (message_bytes m) rest) in
    ap item_at regrouped ∙ rw (name_again q (message_bytes m ++ rest) is.0, message_reread m rest (is.1, is.2)) refl
item_reread (Gone q id) rest is =
    let regrouped : item_bytes (Gone q id) ++ rest ≡ 2 ∷ (name_bytes q ++ (to_be_bytes w64 id ++ rest)) = ap (λ (l : List ℕ). 2 ∷ l) (append_assoc (name_bytes q) (to_be_bytes w64 id) rest) in
    ap item_at regrouped ∙ rw (name_again q (to_be_bytes w64 id ++ rest) is.0, number_again w64 (2 ^ 64) wide64 id rest is.1) refl
