use Rattle.std.proofs.Common.{◌≡◌, ◌++◌, ◌∷◌, [], sym, ap, subst, ◌∙◌, List, ℕ, length}
use Rattle.std.specs.Int.{w16, w32, to_be_bytes}
use Rattle.std.specs.List.{flat_map}
use Rattle.message_core.specs.declared.headers.Header.{Header}
use Rattle.message_core.specs.Spelling.{Content, content, flag_byte, header_bytes}
use Rattle.message_core.proofs.Contents.{encoded, flag_is}
use Rattle.message_core.proofs.messages.Message.encode.Goals as goal

pub returns-clause-bytes : goal.returns-clause-bytes
returns-clause-bytes c =
    let i = c.self.inside in
    let m : Content = record { id = i.id; persistent = i.persistent; priority = i.priority; headers = i.headers.items; body = i.body } in
    let flags : c.from.result ∷ i.priority ∷ [] ≡ flag_byte i.persistent ∷ i.priority ∷ [] = ap (λ (b : ℕ). b ∷ i.priority ∷ []) (c.from.ensures ∙ flag_is i.persistent) in
    let whole = encoded m c.args.into.now.bytes c.append.new.self.bytes c.append-2.new.self.bytes c.append-3.new.self.bytes c.put_headers.new.into.bytes c.append-4.new.self.bytes c.append-5.new.self.bytes
    c.to_be_bytes.result (c.from.result ∷ i.priority ∷ []) c.to_be_bytes-2.result _ c.to_be_bytes-3.result c.as_slice-body.result.now
    c.append.ensures.bytes c.to_be_bytes.ensures c.append-2.ensures.bytes flags c.append-3.ensures.bytes (c.to_be_bytes-2.ensures ∙ ap (λ (n : ℕ). to_be_bytes w16 n) (c.len.ensures ∙ sym c.deref.ensures.len ∙ ap length c.deref.ensures.value)) c.put_headers.ensures.bytes (ap (λ (hs : List Header). flat_map header_bytes hs) c.deref.ensures.value) c.append-4.ensures.bytes (c.to_be_bytes-3.ensures ∙ ap (λ (b : List ℕ). to_be_bytes w32 (length b)) c.as_slice-body.ensures) c.append-5.ensures.bytes c.as_slice-body.ensures in
    subst (λ (m : Content). c.append-5.new.self.bytes ≡ c.args.into.now.bytes ++ content m) c.self.view_is whole
