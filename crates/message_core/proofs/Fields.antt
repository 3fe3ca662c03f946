-- A field that is read is the field that was written, and what was written is read again.
use Rattle.std.proofs.Common.{◌≡◌, ℕ, zero, suc, ◌+◌, ◌^◌, ◌<◌, ◌≤◌, Bool, true, false, cond, ltb, List, [], ◌∷◌, ◌++◌, length, get_or, take, drop, Result, Ok, Err, refl, sym, ap, subst, ◌∙◌, append_assoc, arith, inl, inr}
use Rattle.std.specs.Prelude.{nat_le}
use Rattle.std.specs.Int.{Width, w16, w32, w64, byte_len, from_be_bytes, to_be_bytes}
use Rattle.std.specs.Str.{IsUtf8, is_utf8}
use Rattle.std.proofs.lemmas.Bool.{cases_lt, ltb-false, le-ltb, leb-true, le-leb}
use Rattle.std.proofs.lemmas.Str.{IsUtf8-from_is_utf8, is_utf8-from_IsUtf8}
use Rattle.std.proofs.lemmas.List.{take_at, drop_at, take-append-drop, length-append, length-take, get_or-drop, get_or-take, get_or_past}
use Rattle.std.proofs.lemmas.Nat.{be_bytes_2, be_bytes_4, be_bytes_8, from_be_bytes-to_be_bytes_2, from_be_bytes-to_be_bytes_4, from_be_bytes-to_be_bytes_8}
use Rattle.message_core.specs.Spelling.{flag_byte, text_bytes}
use Rattle.message_core.specs.Names.{is_among}
use Rattle.message_core.specs.Reading.{◌>>=◌, allowed, number_at, byte_at, bytes_at, flag_at, priority_at, utf8_at, name_at, text_at}

abbrev pub IsBytes : List ℕ → Type 0
IsBytes bytes = (i : ℕ) → get_or bytes i 0 < 256

IsBytes-drop : (n : ℕ) (bytes : List ℕ) → IsBytes bytes → IsBytes (drop n bytes)
IsBytes-drop n bytes h i = rw get_or-drop (h (n + i))

IsBytes-take : (n : ℕ) (bytes : List ℕ) → IsBytes bytes → IsBytes (take n bytes)
IsBytes-take n bytes h i =
    elim (cases_lt i n) [
      | inl lt ↦ rw (get_or-take n bytes i 0 lt) (h i)
      | inr le ↦ rw (get_or_past (take n bytes) i 0 (omega (arith, length-take n bytes))) (omega arith)
    ]

pub IsBytes-rest : (b : ℕ) (bytes : List ℕ) → IsBytes (b ∷ bytes) → IsBytes bytes
IsBytes-rest b bytes h i = h (suc i)

-- the value of a step that did not fail
pub bind_ok : {A B : Type 0} (r : Result A ℕ) (f : A → Result B ℕ) (y : B) → (r >>= f) ≡ Ok y → (x : A) × (r ≡ Ok x) × (f x ≡ Ok y)
bind_ok (Ok x) f y e = (x, refl, e)
bind_ok (Err d) f y e = absurd cc

-- tests that did not fail
pub guard_ok : {A : Type 0} (b : Bool) (d : ℕ) (x : Result A ℕ) (y : A) → cond b (Err d) x ≡ Ok y → (b ≡ false) × (x ≡ Ok y)
guard_ok true d x y e = absurd cc
guard_ok false d x y e = (refl, e)

pub allowed_ok : {A : Type 0} (b : Bool) (d : ℕ) (x y : A) → allowed b d x ≡ Ok y → (b ≡ true) × (x ≡ y)
allowed_ok true d x y e = (refl, cc)
allowed_ok false d x y e = absurd cc

abbrev done : {A : Type 0} → A → Result A ℕ
done x = Ok x

pub ok_is : {A : Type 0} (x y : A) → done x ≡ done y → x ≡ y
ok_is x y e = cc

-- what a reader took from the front
pub record Takes (bytes text rest : List ℕ) : Type 0 where
  pub parts : bytes ≡ text ++ rest
  pub rest_fits : IsBytes rest

pub Takes-then : (a x b y c : List ℕ) → Takes a x b → Takes b y c → Takes a (x ++ y) c
Takes-then a x b y c p q = record { parts = p.parts ∙ ap (λ (t : List ℕ). x ++ t) q.parts ∙ sym (append_assoc x y c); rest_fits = q.rest_fits }

-- ---- numbers

pub record IsWide (w : Width) (limit : ℕ) : Type 0 where
  pub len : (n : ℕ) → length (to_be_bytes w n) ≡ byte_len w
  pub back : (bytes : List ℕ) → length bytes ≡ byte_len w → IsBytes bytes → to_be_bytes w (from_be_bytes w bytes) ≡ bytes
  pub again : (n : ℕ) → n < limit → from_be_bytes w (to_be_bytes w n) ≡ n
  pub below : (bytes : List ℕ) → IsBytes bytes → from_be_bytes w bytes < limit

pub wide16 : IsWide w16 (2 ^ 16)
wide16 = record {
  len = λ n. refl;
  back = λ bytes len fits. be_bytes_2 bytes _ len fits refl;
  again = λ n lt. from_be_bytes-to_be_bytes_2 n lt;
  below = λ bytes fits. omega (arith, fits 0, fits 1);
}

pub wide32 : IsWide w32 (2 ^ 32)
wide32 = record {
  len = λ n. refl;
  back = λ bytes len fits. be_bytes_4 bytes _ len fits refl;
  again = λ n lt. from_be_bytes-to_be_bytes_4 n lt;
  below = λ bytes fits. omega (arith, fits 0, fits 1, fits 2, fits 3);
}

pub wide64 : IsWide w64 (2 ^ 64)
wide64 = record {
  len = λ n. refl;
  back = λ bytes len fits. be_bytes_8 bytes _ len fits refl;
  again = λ n lt. from_be_bytes-to_be_bytes_8 n lt;
  below = λ bytes fits. omega (arith, fits 0, fits 1, fits 2, fits 3, fits 4, fits 5, fits 6, fits 7);
}

pub number_takes : (w : Width) (limit : ℕ) (wide : IsWide w limit) (bytes : List ℕ) (x : ℕ × List ℕ) → IsBytes bytes → number_at w bytes ≡ Ok x → Takes bytes (to_be_bytes w x.0) x.1 × (x.0 < limit)
number_takes w limit wide bytes x fits e =
    let g = guard_ok (ltb (length bytes) (byte_len w)) (length bytes) (Ok (from_be_bytes w (take (byte_len w) bytes), drop (byte_len w) bytes)) x e in
    let long : byte_len w ≤ length bytes = ltb-false _ _ g.0 in
    let front : to_be_bytes w (from_be_bytes w (take (byte_len w) bytes)) ≡ take (byte_len w) bytes = wide.back (take (byte_len w) bytes) (omega (arith, length-take (byte_len w) bytes)) (IsBytes-take (byte_len w) bytes fits) in
    subst (λ (y : ℕ × List ℕ). Takes bytes (to_be_bytes w y.0) y.1 × (y.0 < limit)) (ok_is (from_be_bytes w (take (byte_len w) bytes), drop (byte_len w) bytes) x g.1)
    (record { parts = rw front (sym (take-append-drop (byte_len w) bytes)); rest_fits = IsBytes-drop (byte_len w) bytes fits }, wide.below (take (byte_len w) bytes) (IsBytes-take (byte_len w) bytes fits))

pub number_again : (w : Width) (limit : ℕ) (wide : IsWide w limit) (n : ℕ) (rest : List ℕ) → n < limit → number_at w (to_be_bytes w n ++ rest) ≡ Ok (n, rest)
number_again w limit wide n rest lt =
    let len = wide.len n in
    let long : ltb (length (to_be_bytes w n ++ rest)) (byte_len w) ≡ false = le-ltb _ _ (omega (arith, length-append (to_be_bytes w n) rest)) in
    rw (long, take_at (to_be_bytes w n) rest (byte_len w) len, drop_at (to_be_bytes w n) rest (byte_len w) len, wide.again n lt) refl

-- ---- single bytes

pub byte_takes : (bytes : List ℕ) (x : ℕ × List ℕ) → IsBytes bytes → byte_at bytes ≡ Ok x → Takes bytes (x.0 ∷ []) x.1 × (x.0 < 256)
byte_takes [] x fits e = absurd cc
byte_takes (b ∷ bytes) x fits e =
    subst (λ (y : ℕ × List ℕ). Takes (b ∷ bytes) (y.0 ∷ []) y.1 × (y.0 < 256)) (ok_is (b, bytes) x e) (record { parts = refl; rest_fits = IsBytes-rest b bytes fits }, fits 0)

pub flag_takes : (bytes : List ℕ) (x : Bool × List ℕ) → IsBytes bytes → flag_at bytes ≡ Ok x → Takes bytes (flag_byte x.0 ∷ []) x.1
unfolding flag_at
flag_takes [] x fits e = absurd cc
flag_takes (zero ∷ bytes) x fits e = subst (λ (y : Bool × List ℕ). Takes (0 ∷ bytes) (flag_byte y.0 ∷ []) y.1) (ok_is (false, bytes) x e) (record { parts = refl; rest_fits = IsBytes-rest 0 bytes fits })
flag_takes (suc zero ∷ bytes) x fits e = subst (λ (y : Bool × List ℕ). Takes (1 ∷ bytes) (flag_byte y.0 ∷ []) y.1) (ok_is (true, bytes) x e) (record { parts = refl; rest_fits = IsBytes-rest 1 bytes fits })
flag_takes (suc (suc b) ∷ bytes) x fits e = absurd cc

pub flag_again : (f : Bool) (rest : List ℕ) → flag_at (flag_byte f ∷ rest) ≡ Ok (f, rest)
unfolding flag_at
flag_again false rest = refl
flag_again true rest = refl

pub priority_takes : (bytes : List ℕ) (x : ℕ × List ℕ) → IsBytes bytes → priority_at bytes ≡ Ok x → Takes bytes (x.0 ∷ []) x.1 × (x.0 ≤ 9)
unfolding priority_at
priority_takes bytes x fits e =
    let b = bind_ok (byte_at bytes) (λ b. allowed (nat_le b.0 9) (length bytes) b) x e in
    let g = allowed_ok (nat_le b.0.0 9) (length bytes) b.0 x b.2 in
    let t = byte_takes bytes b.0 fits b.1 in
    subst (λ (y : ℕ × List ℕ). Takes bytes (y.0 ∷ []) y.1 × (y.0 ≤ 9)) g.1 (t.0, leb-true _ _ g.0)

pub priority_again : (p : ℕ) (rest : List ℕ) → p ≤ 9 → priority_at (p ∷ rest) ≡ Ok (p, rest)
unfolding priority_at
priority_again p rest le = let t : nat_le p 9 ≡ true = le-leb _ _ le in rw t refl

-- ---- bytes and texts

pub bytes_takes : (n : ℕ) (bytes : List ℕ) (x : List ℕ × List ℕ) → IsBytes bytes → bytes_at n bytes ≡ Ok x → Takes bytes x.0 x.1 × (length x.0 ≡ n)
bytes_takes n bytes x fits e =
    let g = guard_ok (ltb (length bytes) n) (length bytes) (Ok (take n bytes, drop n bytes)) x e in
    let long : n ≤ length bytes = ltb-false _ _ g.0 in
    subst (λ (y : List ℕ × List ℕ). Takes bytes y.0 y.1 × (length y.0 ≡ n)) (ok_is (take n bytes, drop n bytes) x g.1)
    (record { parts = sym (take-append-drop n bytes); rest_fits = IsBytes-drop n bytes fits }, omega (arith, length-take n bytes))

pub bytes_again : (x rest : List ℕ) → bytes_at (length x) (x ++ rest) ≡ Ok (x, rest)
bytes_again x rest =
    let long : ltb (length (x ++ rest)) (length x) ≡ false = le-ltb _ _ (omega (arith, length-append x rest)) in
    rw (long, take_at x rest (length x) refl, drop_at x rest (length x) refl) refl

pub utf8_takes : (left n : ℕ) (bytes : List ℕ) (x : List ℕ × List ℕ) → IsBytes bytes → utf8_at left n bytes ≡ Ok x → Takes bytes x.0 x.1 × (length x.0 ≡ n) × IsUtf8 x.0
unfolding utf8_at
utf8_takes left n bytes x fits e =
    let g = guard_ok (ltb (length bytes) n) left (allowed (is_utf8 (take n bytes)) left (take n bytes, drop n bytes)) x e in
    let a = allowed_ok (is_utf8 (take n bytes)) left (take n bytes, drop n bytes) x g.1 in
    let long : n ≤ length bytes = ltb-false _ _ g.0 in
    subst (λ (y : List ℕ × List ℕ). Takes bytes y.0 y.1 × (length y.0 ≡ n) × IsUtf8 y.0) a.1
    (record { parts = sym (take-append-drop n bytes); rest_fits = IsBytes-drop n bytes fits }, omega (arith, length-take n bytes), IsUtf8-from_is_utf8 (take n bytes) a.0)

pub utf8_again : (left : ℕ) (x rest : List ℕ) → IsUtf8 x → utf8_at left (length x) (x ++ rest) ≡ Ok (x, rest)
unfolding utf8_at
utf8_again left x rest text =
    let long : ltb (length (x ++ rest)) (length x) ≡ false = le-ltb _ _ (omega (arith, length-append x rest)) in
    rw (long, take_at x rest (length x) refl, drop_at x rest (length x) refl, is_utf8-from_IsUtf8 x text) refl

pub name_takes : (taken : List (List ℕ)) (bytes : List ℕ) (x : List ℕ × List ℕ) → IsBytes bytes → name_at taken bytes ≡ Ok x → Takes bytes (length x.0 ∷ x.0) x.1 × (length x.0 ≤ 255) × IsUtf8 x.0 × (is_among x.0 taken ≡ false)
unfolding name_at
name_takes taken bytes x fits e =
    let a = bind_ok (byte_at bytes) (λ len. utf8_at (length len.1) len.0 len.1 >>= λ name. cond (is_among name.0 taken) (Err (length len.1)) (Ok name)) x e in
    let b = bind_ok (utf8_at (length a.0.1) a.0.0 a.0.1) (λ name. cond (is_among name.0 taken) (Err (length a.0.1)) (Ok name)) x a.2 in
    let g = guard_ok (is_among b.0.0 taken) (length a.0.1) (Ok b.0) x b.2 in
    let t0 = byte_takes bytes a.0 fits a.1 in
    let t1 = utf8_takes (length a.0.1) a.0.0 a.0.1 b.0 t0.0.rest_fits b.1 in
    let both = Takes-then bytes (a.0.0 ∷ []) a.0.1 b.0.0 b.0.1 t0.0 t1.0 in
    let whole : Takes bytes (length b.0.0 ∷ b.0.0) b.0.1 = subst (λ (k : ℕ). Takes bytes (k ∷ b.0.0) b.0.1) (sym t1.1) both in
    subst (λ (y : List ℕ × List ℕ). Takes bytes (length y.0 ∷ y.0) y.1 × (length y.0 ≤ 255) × IsUtf8 y.0 × (is_among y.0 taken ≡ false)) (ok_is b.0 x g.1) (whole, omega (arith, t0.1, t1.1), t1.2, g.0)

pub name_again : (taken : List (List ℕ)) (x rest : List ℕ) → IsUtf8 x → is_among x taken ≡ false → name_at taken (length x ∷ (x ++ rest)) ≡ Ok (x, rest)
unfolding name_at
name_again taken x rest text new = rw (utf8_again (length (x ++ rest)) x rest text, new) refl

pub text_takes : (bytes : List ℕ) (x : List ℕ × List ℕ) → IsBytes bytes → text_at bytes ≡ Ok x → Takes bytes (text_bytes x.0) x.1 × IsUtf8 x.0
unfolding text_at
text_takes bytes x fits e =
    let a = bind_ok (number_at w32 bytes) (λ len. utf8_at (length bytes) len.0 len.1) x e in
    let t0 = number_takes w32 (2 ^ 32) wide32 bytes a.0 fits a.1 in
    let t1 = utf8_takes (length bytes) a.0.0 a.0.1 x t0.0.rest_fits a.2 in
    let both = Takes-then bytes (to_be_bytes w32 a.0.0) a.0.1 x.0 x.1 t0.0 t1.0 in
    (subst (λ (k : ℕ). Takes bytes (to_be_bytes w32 k ++ x.0) x.1) (sym t1.1) both, t1.2)

pub text_again : (x rest : List ℕ) → IsUtf8 x → length x < 2 ^ 32 → text_at (text_bytes x ++ rest) ≡ Ok (x, rest)
unfolding text_at
text_again x rest text lt = rw (number_again w32 (2 ^ 32) wide32 (length x) (x ++ rest) lt, utf8_again (length (text_bytes x ++ rest)) x rest text) refl
