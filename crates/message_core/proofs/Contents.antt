-- the bytes of a message, and what makes one
use Rattle.std.proofs.Common.{◌≡◌, ℕ, ◌+◌, ◌-◌, ◌^◌, ◌<◌, ◌≤◌, Bool, true, false, List, [], ◌∷◌, ◌++◌, length, get_or, min, refl, append_assoc, length-append, arith, inl, inr}
use Rattle.std.specs.Prelude.{MatchBool}
use Rattle.std.specs.Int.{w16, w32, w64, to_be_bytes, from_bool}
use Rattle.std.specs.List.{flat_map, All, Any, IsDistinct}
use Rattle.std.specs.Str.{bytes_eq}
use Rattle.std.proofs.lemmas.Bool.{cases_lt}
use Rattle.std.proofs.lemmas.List.{get_or_default}
use Rattle.message_core.specs.declared.headers.Header.{Header}
use Rattle.message_core.specs.Spelling.{Content, content, flag_byte, header_bytes, names, IsReadable, IsNumber, IsMessage}

pub size_is : (m : Content) → length (content m) ≡ 16 + (length (flat_map header_bytes m.headers) + length m.body)
size_is m =
    omega (arith, length-append (flat_map header_bytes m.headers ++ to_be_bytes w32 (length m.body)) m.body, length-append (flat_map header_bytes m.headers) (to_be_bytes w32 (length m.body)))

all_short : (hs : List Header) → (Any (λ h. 255 < length h.name) hs → ⊥) → (k : ℕ) (d : Header) → k < length hs → length (get_or hs k d).name ≤ 255
all_short hs none k d lt =
    elim (cases_lt 255 (length (get_or hs k d).name)) [
      | inl long ↦ absurd (none (k, get_or hs k d, lt, get_or_default hs k (get_or hs k d) d lt, long))
      | inr le ↦ le
    ]

-- parts that pass each test are a message's
pub message_made : (m : Content) → m.id < 2 ^ 64 → m.priority ≤ 9 → All IsReadable m.headers → All (λ h. IsNumber h.value) m.headers → IsDistinct bytes_eq (names m.headers)
    → (Any (λ h. 255 < length h.name) m.headers → ⊥) → length m.headers ≤ 65535
    → min (min (length (flat_map header_bytes m.headers)) (2 ^ 64 - 1) + length m.body) (2 ^ 64 - 1) ≤ 1048560 → IsMessage m
message_made m id priority readable number distinct none few size = record {
  id = id;
  priority = priority;
  few = few;
  headers = λ k d lt. record { short = all_short m.headers none k d lt; readable = readable k d lt; number = number k d lt };
  distinct = distinct;
  short = omega (arith, size_is m, size);
}

pub at_false : (P Q : Type 0) (b : Bool) → b ≡ false → MatchBool b P Q → Q
at_false P Q true e h = absurd cc
at_false P Q false e h = h

pub flag_is : (b : Bool) → from_bool b ≡ flag_byte b
flag_is true = refl
flag_is false = refl

-- one append after the other
pub encoded : (m : Content) (old b1 b2 b3 b4 b5 b6 x1 x2 x3 x4 x5 x6 : List ℕ)
    → b1 ≡ old ++ x1 → x1 ≡ to_be_bytes w64 m.id
    → b2 ≡ b1 ++ x2 → x2 ≡ flag_byte m.persistent ∷ m.priority ∷ []
    → b3 ≡ b2 ++ x3 → x3 ≡ to_be_bytes w16 (length m.headers)
    → b4 ≡ b3 ++ x4 → x4 ≡ flat_map header_bytes m.headers
    → b5 ≡ b4 ++ x5 → x5 ≡ to_be_bytes w32 (length m.body)
    → b6 ≡ b5 ++ x6 → x6 ≡ m.body
    → b6 ≡ old ++ content m
encoded m old b1 b2 b3 b4 b5 b6 x1 x2 x3 x4 x5 x6 e1 s1 e2 s2 e3 s3 e4 s4 e5 s5 e6 s6 = rw (e6, e5, e4, e3, e2, e1, s1, s2, s3, s4, s5, s6) (simp append_assoc)

-- without its body a message is still one
pub message_cleared : (m : Content) → IsMessage m → IsMessage (record m { body = [] })
message_cleared m is = record {
  id = is.id;
  priority = is.priority;
  few = is.few;
  headers = is.headers;
  distinct = is.distinct;
  short = omega (arith, is.short, size_is m, size_is (record m { body = [] }));
}
