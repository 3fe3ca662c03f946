-- The two laws: what is read is spelled so, and what is spelled so is read.
use Rattle.std.proofs.Common.{◌≡◌, ℕ, zero, suc, ◌+◌, ◌-◌, ◌^◌, ◌<◌, ◌≤◌, Bool, true, false, cond, ltb, eqb, List, [], ◌∷◌, ◌++◌, length, Result, Ok, Err, refl, sym, ap, subst, ◌∙◌, append_assoc, length-append, arith}
use Rattle.std.specs.Prelude.{ℤ, ◌||◌, ◌&&◌, nat_le, FitsSigned}
use Rattle.std.specs.Int.{w16, w32, w64, to_be_bytes, cast_signed, cast_unsigned}
use Rattle.std.specs.List.{flat_map, AllByRecursion, IsDistinct}
use Rattle.std.specs.Str.{bytes_eq}
use Rattle.std.proofs.lemmas.Bool.{eqb-true, leb-true, le-leb}
use Rattle.std.proofs.lemmas.Int.{of_z-to_z, to_z-of_z}
use Rattle.std.proofs.Math.Facts.{sfits_to_z, Fits-of_lt, Fits-of_z, Fits-lt-pow}
use Rattle.std.proofs.lemmas.List.{append-nil, nil_from_length}
use Rattle.std.proofs.lemmas.List.Concat.{flat_map-cons}
use Rattle.std.proofs.lemmas.List.Elements.{All-from_recursion, recursion_from_All}
use Rattle.std.proofs.lemmas.Map.Keys.{IsDistinct-push, IsDistinct-head, IsDistinct-tail}
use Rattle.message_core.specs.declared.headers.Header.{Header}
use Rattle.message_core.specs.declared.headers.HeaderValue.{HeaderValue}
use Rattle.message_core.specs.declared.headers.HeaderValue.TheVariants as value
use Rattle.message_core.specs.Spelling.{Content, content, cut, flag_byte, value_bytes, header_bytes, headers_bytes, names, IsText, IsNumber, IsHeader, IsMessage}
use Rattle.message_core.specs.Names.{is_among}
use Rattle.message_core.specs.Reading.{◌>>=◌, number_at, bytes_at, flag_at, priority_at, name_at, text_at, value_at, header_at, headers_at, content_at, place_of, ended, message_of}
use Rattle.message_core.proofs.NameSets.{bytes_equiv, distinct_none}
use Rattle.message_core.proofs.Fields.{IsBytes, IsBytes-rest, bind_ok, guard_ok, ok_is, Takes, Takes-then, wide16, wide32, wide64, number_takes, number_again, flag_takes, flag_again, priority_takes, priority_again, bytes_takes, bytes_again, name_takes, name_again, text_takes, text_again}

-- ---- values

signed_fits : (n : ℕ) → n < 2 ^ 64 → FitsSigned w64 (cast_signed w64 n)
signed_fits n lt = sfits_to_z {w = w64} {n = n} (Fits-of_lt {w = w64} {n = n} lt)

unsigned_lt : (z : ℤ) → FitsSigned w64 z → cast_unsigned w64 z < 2 ^ 64
unsigned_lt z fits = Fits-lt-pow {w = w64} (Fits-of_z {w = w64} {z = z} fits)

Value : List ℕ → HeaderValue × List ℕ → Type 0
Value bytes x = Takes bytes (value_bytes x.0) x.1 × IsText x.0 × IsNumber x.0

value_takes : (bytes : List ℕ) (x : HeaderValue × List ℕ) → IsBytes bytes → value_at bytes ≡ Ok x → Value bytes x
unfolding value_at Value
value_takes [] x fits e = absurd cc
value_takes (zero ∷ bytes) x fits e = subst (λ (y : HeaderValue × List ℕ). Value (0 ∷ bytes) y) (ok_is (value.Bool false, bytes) x e) (record { parts = refl; rest_fits = IsBytes-rest 0 bytes fits }, tt, tt)
value_takes (suc zero ∷ bytes) x fits e = subst (λ (y : HeaderValue × List ℕ). Value (1 ∷ bytes) y) (ok_is (value.Bool true, bytes) x e) (record { parts = refl; rest_fits = IsBytes-rest 1 bytes fits }, tt, tt)
value_takes (suc (suc zero) ∷ bytes) x fits e =
    let a = bind_ok (number_at w64 bytes) (λ n. Ok (value.Int (cast_signed w64 n.0), n.1)) x e in
    let t = number_takes w64 (2 ^ 64) wide64 bytes a.0 (IsBytes-rest 2 bytes fits) a.1 in
    let same : bytes ≡ to_be_bytes w64 (cast_unsigned w64 (cast_signed w64 a.0.0)) ++ a.0.1 = t.0.parts ∙ ap (λ (k : ℕ). to_be_bytes w64 k ++ a.0.1) (sym (of_z-to_z w64 a.0.0 t.1)) in
    subst (λ (y : HeaderValue × List ℕ). Value (2 ∷ bytes) y) (ok_is (value.Int (cast_signed w64 a.0.0), a.0.1) x a.2) (record { parts = ap (λ (w : List ℕ). 2 ∷ w) same; rest_fits = t.0.rest_fits }, tt, signed_fits a.0.0 t.1)
value_takes (suc (suc (suc zero)) ∷ bytes) x fits e =
    let a = bind_ok (text_at bytes) (λ t. Ok (value.Text t.0, t.1)) x e in
    let t = text_takes bytes a.0 (IsBytes-rest 3 bytes fits) a.1 in
    subst (λ (y : HeaderValue × List ℕ). Value (3 ∷ bytes) y) (ok_is (value.Text a.0.0, a.0.1) x a.2) (record { parts = ap (λ (w : List ℕ). 3 ∷ w) t.0.parts; rest_fits = t.0.rest_fits }, t.1, tt)
value_takes (suc (suc (suc (suc tag))) ∷ bytes) x fits e = absurd cc

value_again : (v : HeaderValue) (rest : List ℕ) → IsText v → IsNumber v → length (value_bytes v) < 2 ^ 32 → value_at (value_bytes v ++ rest) ≡ Ok (v, rest)
unfolding value_at
value_again (value.Bool false) rest text number short = refl
value_again (value.Bool true) rest text number short = refl
value_again (value.Int n) rest text number short = rw (number_again w64 (2 ^ 64) wide64 (cast_unsigned w64 n) rest (unsigned_lt n number), to_z-of_z w64 n number) refl
value_again (value.Text t) rest text number short = rw (text_again t rest text (omega (arith, length-append (to_be_bytes w32 (length t)) t))) refl

-- ---- headers

header_takes : (taken : List (List ℕ)) (bytes : List ℕ) (x : Header × List ℕ) → IsBytes bytes → header_at taken bytes ≡ Ok x → Takes bytes (header_bytes x.0) x.1 × IsHeader x.0 × (is_among x.0.name taken ≡ false)
unfolding header_at Value
header_takes taken bytes x fits e =
    let a = bind_ok (name_at taken bytes) (λ name. value_at name.1 >>= λ v. Ok (record { name = name.0; value = v.0 }, v.1)) x e in
    let b = bind_ok (value_at a.0.1) (λ v. Ok (record { name = a.0.0; value = v.0 }, v.1)) x a.2 in
    let t0 = name_takes taken bytes a.0 fits a.1 in
    let t1 = value_takes a.0.1 b.0 t0.0.rest_fits b.1 in
    let both = Takes-then bytes (length a.0.0 ∷ a.0.0) a.0.1 (value_bytes b.0.0) b.0.1 t0.0 t1.0 in
    let made : Header × List ℕ = (record { name = a.0.0; value = b.0.0 }, b.0.1) in
    subst (λ (y : Header × List ℕ). Takes bytes (header_bytes y.0) y.1 × IsHeader y.0 × (is_among y.0.name taken ≡ false)) (ok_is made x b.2)
    (both, record { short = t0.1; readable = record { name = t0.2; text = t1.1 }; number = t1.2 }, t0.3)

header_again : (taken : List (List ℕ)) (h : Header) (rest : List ℕ) → IsHeader h → is_among h.name taken ≡ false → length (header_bytes h) < 2 ^ 32 → header_at taken (header_bytes h ++ rest) ≡ Ok (h, rest)
unfolding header_at
header_again taken h rest is new short =
    let regrouped : header_bytes h ++ rest ≡ length h.name ∷ (h.name ++ (value_bytes h.value ++ rest)) = append_assoc (length h.name ∷ h.name) (value_bytes h.value) rest in
    ap (header_at taken) regrouped ∙ rw (name_again taken h.name (value_bytes h.value ++ rest) is.readable.name new, value_again h.value rest is.readable.text is.number (omega (arith, length-append (length h.name ∷ h.name) (value_bytes h.value)))) refl

all_middle : (P : List ℕ → Type 0) (ns : List (List ℕ)) (x : List ℕ) (ms : List (List ℕ)) → AllByRecursion P (ns ++ x ∷ ms) → P x
all_middle P [] x ms h = h.0
all_middle P (n ∷ ns) x ms h = all_middle P ns x ms h.1

or_false : (a b : Bool) → a ≡ false → b ≡ false → (a || b) ≡ false
or_false a b ea eb = rw (ea, eb) refl

-- a name behind others that is apart from them is not among them
apart : (x : List ℕ) (ns ms : List (List ℕ)) → IsDistinct bytes_eq (ns ++ x ∷ ms) → is_among x ns ≡ false
apart x [] ms d = refl
apart x (n ∷ ns) ms d =
    or_false (bytes_eq x n) (is_among x ns) (bytes_equiv.symm x n ∙ all_middle (λ y. bytes_eq n y ≡ false) ns x ms (IsDistinct-head bytes_eq n (ns ++ x ∷ ms) d)) (apart x ns ms (IsDistinct-tail bytes_eq n (ns ++ x ∷ ms) d))

-- what reading headers gives
record Headers (n : ℕ) (taken : List (List ℕ)) (bytes : List ℕ) (hs : List Header) (rest : List ℕ) : Type 0 where
  takes : Takes bytes (flat_map header_bytes hs) rest
  count : length hs ≡ n
  headers : AllByRecursion IsHeader hs
  distinct : IsDistinct bytes_eq (taken ++ names hs)

headers_take : (n : ℕ) (taken : List (List ℕ)) (bytes : List ℕ) (x : List Header × List ℕ) → IsDistinct bytes_eq taken → IsBytes bytes → headers_at n taken bytes ≡ Ok x → Headers n taken bytes x.0 x.1
unfolding headers_at
headers_take zero taken bytes x distinct fits e =
    subst (λ (y : List Header × List ℕ). Headers 0 taken bytes y.0 y.1) (ok_is ([], bytes) x e)
    (record { takes = record { parts = refl; rest_fits = fits }; count = refl; headers = tt; distinct = subst (λ (ns : List (List ℕ)). IsDistinct bytes_eq ns) (sym (append-nil taken)) distinct })
headers_take (suc n) taken bytes x distinct fits e =
    let a = bind_ok (header_at taken bytes) (λ first. headers_at n (taken ++ first.0.name ∷ []) first.1 >>= λ others. Ok (first.0 ∷ others.0, others.1)) x e in
    let b = bind_ok (headers_at n (taken ++ a.0.0.name ∷ []) a.0.1) (λ others. Ok (a.0.0 ∷ others.0, others.1)) x a.2 in
    let first = header_takes taken bytes a.0 fits a.1 in
    let more : IsDistinct bytes_eq (taken ++ a.0.0.name ∷ []) = IsDistinct-push bytes_equiv taken a.0.0.name distinct first.2 in
    let second = headers_take n (taken ++ a.0.0.name ∷ []) a.0.1 b.0 more first.0.rest_fits b.1 in
    let both = Takes-then bytes (header_bytes a.0.0) a.0.1 (flat_map header_bytes b.0.0) b.0.1 first.0 second.takes in
    let made : List Header × List ℕ = (a.0.0 ∷ b.0.0, b.0.1) in
    subst (λ (y : List Header × List ℕ). Headers (suc n) taken bytes y.0 y.1) (ok_is made x b.2)
    (record { takes = rw flat_map-cons both; count = ap suc second.count; headers = (first.1, second.headers); distinct = subst (λ (ns : List (List ℕ)). IsDistinct bytes_eq ns) (append_assoc taken (a.0.0.name ∷ []) (names b.0.0)) second.distinct })

headers_again : (hs : List Header) (taken : List (List ℕ)) (rest : List ℕ) → AllByRecursion IsHeader hs → IsDistinct bytes_eq (taken ++ names hs) → length (flat_map header_bytes hs) < 2 ^ 32 → headers_at (length hs) taken (flat_map header_bytes hs ++ rest) ≡ Ok (hs, rest)
unfolding headers_at
headers_again [] taken rest is distinct short = refl
headers_again (h ∷ hs) taken rest is distinct short =
    let long : length (flat_map header_bytes (h ∷ hs)) ≡ length (header_bytes h) + length (flat_map header_bytes hs) = length-append (header_bytes h) (flat_map header_bytes hs) in
    let regrouped : flat_map header_bytes (h ∷ hs) ++ rest ≡ header_bytes h ++ (flat_map header_bytes hs ++ rest) = append_assoc (header_bytes h) (flat_map header_bytes hs) rest in
    let after : IsDistinct bytes_eq ((taken ++ h.name ∷ []) ++ names hs) = subst (λ (ns : List (List ℕ)). IsDistinct bytes_eq ns) (sym (append_assoc taken (h.name ∷ []) (names hs))) distinct in
    ap (headers_at (suc (length hs)) taken) regrouped
    ∙ rw (header_again taken h (flat_map header_bytes hs ++ rest) is.0 (apart h.name taken (names hs) distinct) (omega (arith, long)), headers_again hs (taken ++ h.name ∷ []) rest is.1 after (omega (arith, long))) refl

-- ---- the whole

-- what reading a message gives
record Whole (bytes : List ℕ) (m : Content) (rest : List ℕ) : Type 0 where
  takes : Takes bytes (content m) rest
  id : m.id < 2 ^ 64
  priority : m.priority ≤ 9
  few : length m.headers < 2 ^ 16
  headers : AllByRecursion IsHeader m.headers
  distinct : IsDistinct bytes_eq (names m.headers)

content_takes : (bytes : List ℕ) (x : Content × List ℕ) → IsBytes bytes → content_at bytes ≡ Ok x → Whole bytes x.0 x.1
unfolding content_at
content_takes bytes x fits e =
    let a = bind_ok (number_at w64 bytes) _ x e in
    let b = bind_ok (flag_at a.0.1) _ x a.2 in
    let c = bind_ok (priority_at b.0.1) _ x b.2 in
    let d = bind_ok (number_at w16 c.0.1) _ x c.2 in
    let h = bind_ok (headers_at d.0.0 [] d.0.1) _ x d.2 in
    let l = bind_ok (number_at w32 h.0.1) _ x h.2 in
    let y = bind_ok (bytes_at l.0.0 l.0.1) _ x l.2 in
    let ta = number_takes w64 (2 ^ 64) wide64 bytes a.0 fits a.1 in
    let tb = flag_takes a.0.1 b.0 ta.0.rest_fits b.1 in
    let tc = priority_takes b.0.1 c.0 tb.rest_fits c.1 in
    let td = number_takes w16 (2 ^ 16) wide16 c.0.1 d.0 tc.0.rest_fits d.1 in
    let th = headers_take d.0.0 [] d.0.1 h.0 distinct_none td.0.rest_fits h.1 in
    let tl = number_takes w32 (2 ^ 32) wide32 h.0.1 l.0 th.takes.rest_fits l.1 in
    let ty = bytes_takes l.0.0 l.0.1 y.0 tl.0.rest_fits y.1 in
    let m : Content = record { id = a.0.0; persistent = b.0.0; priority = c.0.0; headers = h.0.0; body = y.0.0 } in
    let flags = Takes-then a.0.1 (flag_byte b.0.0 ∷ []) b.0.1 (c.0.0 ∷ []) c.0.1 tb tc.0 in
    let front = Takes-then bytes (to_be_bytes w64 a.0.0) a.0.1 (flag_byte b.0.0 ∷ c.0.0 ∷ []) c.0.1 ta.0 flags in
    let counted = Takes-then c.0.1 (to_be_bytes w16 d.0.0) d.0.1 (flat_map header_bytes h.0.0) h.0.1 td.0 th.takes in
    let counted' : Takes c.0.1 (headers_bytes h.0.0) h.0.1 = subst (λ (k : ℕ). Takes c.0.1 (to_be_bytes w16 k ++ flat_map header_bytes h.0.0) h.0.1) (sym th.count) counted in
    let middle = Takes-then bytes (to_be_bytes w64 a.0.0 ++ (flag_byte b.0.0 ∷ c.0.0 ∷ [])) c.0.1 (headers_bytes h.0.0) h.0.1 front counted' in
    let length' : Takes h.0.1 (to_be_bytes w32 (length y.0.0)) l.0.1 = subst (λ (k : ℕ). Takes h.0.1 (to_be_bytes w32 k) l.0.1) (sym ty.1) tl.0 in
    let cut' : Takes bytes (cut m) l.0.1 = Takes-then bytes (to_be_bytes w64 a.0.0 ++ (flag_byte b.0.0 ∷ c.0.0 ∷ []) ++ headers_bytes h.0.0) h.0.1 (to_be_bytes w32 (length y.0.0)) l.0.1 middle length' in
    let whole : Takes bytes (content m) y.0.1 = Takes-then bytes (cut m) l.0.1 y.0.0 y.0.1 cut' ty.0 in
    subst (λ (z : Content × List ℕ). Whole bytes z.0 z.1) (ok_is (m, y.0.1) x y.2)
    (record { takes = whole; id = ta.1; priority = tc.1; few = omega (arith, td.1, th.count); headers = th.headers; distinct = th.distinct })

regroup : (a b n f d e rest : List ℕ) → ((((a ++ b) ++ (n ++ f)) ++ d) ++ e) ++ rest ≡ a ++ (b ++ (n ++ (f ++ (d ++ (e ++ rest)))))
regroup a b n f d e rest = simp append_assoc

pub content_again : (m : Content) (rest : List ℕ) → IsMessage m → content_at (content m ++ rest) ≡ Ok (m, rest)
unfolding content_at
content_again m rest is =
    let len : List ℕ = to_be_bytes w32 (length m.body) in
    let headers : List ℕ = flat_map header_bytes m.headers in
    let size = length-append (headers ++ len) m.body in
    let size' = length-append headers len in
    let regrouped = regroup (to_be_bytes w64 m.id) (flag_byte m.persistent ∷ m.priority ∷ []) (to_be_bytes w16 (length m.headers)) headers len m.body rest in
    ap content_at regrouped
    ∙ rw (
      number_again w64 (2 ^ 64) wide64 m.id (flag_byte m.persistent ∷ m.priority ∷ (to_be_bytes w16 (length m.headers) ++ (headers ++ (len ++ (m.body ++ rest))))) is.id,
      flag_again m.persistent (m.priority ∷ (to_be_bytes w16 (length m.headers) ++ (headers ++ (len ++ (m.body ++ rest))))),
      priority_again m.priority (to_be_bytes w16 (length m.headers) ++ (headers ++ (len ++ (m.body ++ rest)))) is.priority,
      number_again w16 (2 ^ 16) wide16 (length m.headers) (headers ++ (len ++ (m.body ++ rest))) (omega (arith, is.few)),
      headers_again m.headers [] (len ++ (m.body ++ rest)) (recursion_from_All IsHeader m.headers is.headers) is.distinct (omega (arith, is.short, size, size')),
      number_again w32 (2 ^ 32) wide32 (length m.body) (m.body ++ rest) (omega (arith, is.short, size, size')),
      bytes_again m.body rest,
    ) refl

-- ---- all of the bytes

guard_ended : (a b : Bool) (d : ℕ) (x y : Content) → cond (a && b) (Ok x) (Err d) ≡ Ok y → (a ≡ true) × (b ≡ true) × (x ≡ y)
guard_ended true true d x y e = (refl, refl, cc)
guard_ended true false d x y e = absurd cc
guard_ended false b d x y e = absurd cc

-- what all of the bytes are: nothing is left, and there are no more than a message may have
ended_ok : (size : ℕ) (r : Result (Content × List ℕ) ℕ) (m : Content) → ended size r ≡ Ok m → (r ≡ Ok (m, [])) × (size ≤ 1048576)
ended_ok size (Ok x) m e =
    let g = guard_ended (eqb (length x.1) 0) (nat_le size 1048576) (place_of size (length x.1)) x.0 m e in
    let nothing : x.1 ≡ [] = nil_from_length x.1 (eqb-true _ _ g.0) in
    (ap (λ (rest : List ℕ). Ok (x.0, rest)) nothing ∙ ap (λ (k : Content). Ok (k, [])) g.2, leb-true _ _ g.1)
ended_ok size (Err left) m e = absurd cc

pub message_takes : (bytes : List ℕ) (m : Content) → IsBytes bytes → message_of bytes ≡ Ok m → IsMessage m × (bytes ≡ content m)
unfolding message_of
message_takes bytes m fits e =
    let g = ended_ok (length bytes) (content_at bytes) m e in
    let w = content_takes bytes (m, []) fits g.0 in
    let same : bytes ≡ content m = w.takes.parts ∙ append-nil (content m) in
    (record { id = w.id; priority = w.priority; few = omega (arith, w.few); headers = All-from_recursion IsHeader m.headers w.headers; distinct = w.distinct; short = omega (arith, g.1, ap length same) }, same)

pub message_again : (m : Content) → IsMessage m → message_of (content m) ≡ Ok m
unfolding message_of
message_again m is =
    let small : nat_le (length (content m)) 1048576 ≡ true = le-leb _ _ is.short in
    let read : content_at (content m) ≡ Ok (m, []) = ap content_at (sym (append-nil (content m))) ∙ content_again m [] is in
    rw (read, small) refl

-- what two messages begin with is the same message
pub content_first : (m n : Content) (xs ys : List ℕ) → IsMessage m → IsMessage n → content m ++ xs ≡ content n ++ ys → (m ≡ n) × (xs ≡ ys)
content_first m n xs ys is in' e =
    let same = ok_is (m, xs) (n, ys) (sym (content_again m xs is) ∙ ap content_at e ∙ content_again n ys in') in
    (ap (λ (p : Content × List ℕ). p.0) same, ap (λ (p : Content × List ℕ). p.1) same)
