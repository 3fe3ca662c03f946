-- the bytes of the first headers
use Rattle.std.proofs.Common.{◌≡◌, ℕ, ◌+◌, ◌<◌, ◌≤◌, List, [], ◌∷◌, ◌++◌, length, take, drop, get_or, sym, ap, ◌∙◌, length-append, arith}
use Rattle.std.specs.List.{flat_map}
use Rattle.std.proofs.lemmas.List.{take_more, take-append-drop, append-nil}
use Rattle.std.proofs.lemmas.List.Concat.{flat_map-append}
use Rattle.message_core.specs.declared.headers.Header.{Header}
use Rattle.message_core.specs.Spelling.{header_bytes}

-- one more header
pub flat_more : (hs : List Header) (i : ℕ) (h : Header) → i < length hs → h ≡ get_or hs i h → flat_map header_bytes (take (i + 1) hs) ≡ flat_map header_bytes (take i hs) ++ header_bytes h
flat_more hs i h lt is =
    ap (flat_map header_bytes) (take_more hs i h lt) ∙ flat_map-append header_bytes (take i hs) (get_or hs i h ∷ []) ∙ ap (λ (x : List ℕ). flat_map header_bytes (take i hs) ++ x) (append-nil (header_bytes (get_or hs i h))) ∙ ap (λ (x : Header). flat_map header_bytes (take i hs) ++ header_bytes x) (sym is)

pub size_more : (hs : List Header) (i : ℕ) (h : Header) → i < length hs → h ≡ get_or hs i h → length (flat_map header_bytes (take (i + 1) hs)) ≡ length (flat_map header_bytes (take i hs)) + length (header_bytes h)
size_more hs i h lt is = ap length (flat_more hs i h lt is) ∙ length-append (flat_map header_bytes (take i hs)) (header_bytes h)

-- some first headers have no more bytes than all
size_some : (hs : List Header) (i : ℕ) → length (flat_map header_bytes (take i hs)) ≤ length (flat_map header_bytes hs)
size_some hs i =
    let whole : flat_map header_bytes hs ≡ flat_map header_bytes (take i hs) ++ flat_map header_bytes (drop i hs) = ap (flat_map header_bytes) (sym (take-append-drop i hs)) ∙ flat_map-append header_bytes (take i hs) (drop i hs) in
    omega (arith, ap length whole, length-append (flat_map header_bytes (take i hs)) (flat_map header_bytes (drop i hs)))

-- those before one header, and that header, have no more bytes than all
pub size_one : (hs : List Header) (i : ℕ) (h : Header) → i < length hs → h ≡ get_or hs i h → length (flat_map header_bytes (take i hs)) + length (header_bytes h) ≤ length (flat_map header_bytes hs)
size_one hs i h lt is = omega (arith, size_more hs i h lt is, size_some hs (i + 1))
