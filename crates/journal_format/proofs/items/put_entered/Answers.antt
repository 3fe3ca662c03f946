use Rattle.std.proofs.Common.{◌≡◌, ◌++◌, ◌∷◌, ap, ◌∙◌, List, ℕ, length}
use Rattle.std.specs.Int.{w32, to_be_bytes}
use Rattle.message_core.specs.Spelling.{content}
use Rattle.journal_format.specs.Spelling.{name_bytes}
use Rattle.journal_format.proofs.Parts.{put_three}
use Rattle.journal_format.proofs.items.put_entered.Goals as goal

pub returns-clause-bytes : goal.returns-clause-bytes
returns-clause-bytes c =
    let name : List ℕ = 1 ∷ name_bytes c.args.queue.now in
    let text : List ℕ = content c.args.message.now in
    let size : c.to_be_bytes.result ≡ to_be_bytes w32 (length text) = c.to_be_bytes.ensures ∙ ap (λ (n : ℕ). to_be_bytes w32 n) c.size.ensures.size in
    put_three c.args.into.now.bytes name c.to_be_bytes.result text c.put_name.new.into.bytes c.append.new.self.bytes c.encode.new.into.bytes c.put_name.ensures.bytes c.append.ensures.bytes c.encode.ensures.bytes
    ∙ ap (λ (l : List ℕ). c.args.into.now.bytes ++ (name ++ (l ++ text))) size
