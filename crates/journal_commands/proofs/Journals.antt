-- what a journal is that was made, and what is told of one that was opened
use Rattle.std.proofs.Common.{◌≡◌, ℕ, ◌++◌, List, [], ◌∷◌, length, map, refl, sym, ap, ap₂, ◌∙◌}
use Rattle.std.specs.Prelude.{Option, Some, None, IfSome}
use Rattle.std.specs.List.{flat_map}
use Rattle.std.proofs.lemmas.List.{length-map}
use Rattle.journal_format.specs.declared.items.Item.{Item}
use Rattle.journal_format.specs.Journal.{IsJournal}
use Rattle.journal_core.specs.declared.journal.Trust.{Trust}
use Rattle.journal_core.specs.declared.journal.Trust.TheVariants.{Clean, Body, Gate}
use Rattle.journal_core.specs.Stands.{Stands}
use Rattle.journal_core.proofs.Parts.{shut_journal}
use Rattle.recover_core.specs.declared.kept.Kept.{Kept}
use Rattle.recover_core.specs.Recovered.{IsRecovered, item_of}
use Rattle.recover_core.specs.Live.{live}
use Rattle.recover_core.proofs.LiveOnes.{entries_live}
use Rattle.journal_commands.specs.Recovered.{counts_line, item_line, kept_line, live_text, recovered_text}

-- each image of a clean journal without commits is one
pub is_made : (images : List ℕ → Type 0) (gate : ℕ) (trust : Trust) → trust ≡ Clean → Stands images gate trust [] [] → (c : List ℕ) → images c → IsJournal c []
is_made images gate Clean is s c image = shut_journal s.before [] c s.front (s.each c image).is
is_made images gate Body is s c image = shut_journal s.before [] c s.front (s.each c image).is
is_made images gate Gate is s c image = absurd (cc)

no_bytes : (bytes : List ℕ) → 0 ≡ length bytes → bytes ≡ []
no_bytes [] is = refl
no_bytes (b ∷ bs) is = absurd (cc)

-- bytes of which there are none
pub has_none : (seen : Option (List ℕ)) → IfSome seen (λ b. 0 ≡ length b) → IfSome seen (λ b. b ≡ [])
has_none None is = tt
has_none (Some bytes) is = no_bytes bytes is

lines_are : (entries : List Kept) → flat_map kept_line entries ≡ flat_map item_line (map item_of entries)
lines_are [] = refl
lines_are (k ∷ ks) = ap (λ v. kept_line k ++ v) (lines_are ks)

-- what is told of the entries that were recovered is what is told of the transactions
pub is_told : (bytes : List ℕ) (commits : ℕ) (entries : List Kept) (r : IsRecovered bytes commits entries) → recovered_text commits entries ≡ live_text r.txns
is_told bytes commits entries r =
    let same : map item_of entries ≡ live r.txns = entries_live bytes commits entries r in
    let lines : flat_map kept_line entries ≡ flat_map item_line (live r.txns) = lines_are entries ∙ ap (λ (is : List Item). flat_map item_line is) same in
    let count : length entries ≡ length (live r.txns) = sym (length-map entries item_of) ∙ ap (λ (is : List Item). length is) same in
    ap₂ (λ (x y : List ℕ). x ++ y) lines (ap₂ counts_line r.commits_are count)
