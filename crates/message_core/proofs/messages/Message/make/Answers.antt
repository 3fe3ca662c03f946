use Rattle.std.proofs.Common.{◌≡◌, ◌<◌, ◌≤◌, ◌+◌, ◌-◌, ◌^◌, min, true, false, List, length, refl, ap, subst, sym, ◌∙◌, arith}
use Rattle.std.specs.List.{All, Any, IsDistinct, flat_map}
use Rattle.std.specs.Str.{bytes_eq}
use Rattle.message_core.specs.declared.headers.Header.{Header}
use Rattle.message_core.specs.Spelling.{IsMessage, IsNumber, parts, header_bytes, names}
use Rattle.message_core.proofs.Contents.{at_false, message_made}
use Rattle.message_core.proofs.messages.Message.make.Goals as goal
use Rattle.message_core.proofs.messages.Message.make.Goals.{Else-size}

false_true : false ≡ true → ⊥
false_true e = absurd cc

is_message : (c : Else-size) → IsMessage (parts c.args.id c.args.persistent c.args.priority c.args.headers.items c.args.body)
is_message c =
    let hs : List Header = c.args.headers.items in
    let distinct : IsDistinct bytes_eq (names hs) = subst (λ (hs : List Header). IsDistinct bytes_eq (names hs)) c.deref.ensures.value (at_false _ _ c.in-Ok-false.field-0 c.in-Ok-false.field-0-test c.in-Ok-false.ensures) in
    let number : All (λ h. IsNumber h.value) hs = subst (λ (hs : List Header). All (λ h. IsNumber h.value) hs) c.deref-2.ensures.value c.headers_size.ensures.number in
    let none : Any (λ h. 255 < length h.name) hs → ⊥ = λ any. false_true (sym c.if-has_long_name.false ∙ c.has_long_name.ensures.1 (subst (λ (hs : List Header). Any (λ h. 255 < length h.name) hs) (sym c.deref-else-many.ensures.value) any)) in
    message_made (parts c.args.id c.args.persistent c.args.priority hs c.args.body)
    c.ranges.id.fits (omega arith) c.requires number distinct none (omega (arith, c.len.ensures)) (subst (λ (hs : List Header). min (min (length (flat_map header_bytes hs)) (2 ^ 64 - 1) + length c.args.body) (2 ^ 64 - 1) ≤ 1048560) c.deref-2.ensures.value (omega (arith, c.headers_size.ensures.size, c.saturating_add-size.ensures, ap length c.as_slice.ensures)))

pub invariant_of-result : goal.invariant_of-result
invariant_of-result c = is_message c

pub returns-clause-made : goal.returns-clause-made
returns-clause-made c = (refl, is_message c)
