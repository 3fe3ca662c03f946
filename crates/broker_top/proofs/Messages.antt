-- the lines of `select`, one after another
use Rattle.std.proofs.Common.{◌≡◌, ℕ, ◌+◌, true, false, Result, Ok, Err, Option, List, [], ◌∷◌, ◌++◌, refl, sym, ap, ap₂, ◌∙◌}
use Rattle.std.proofs.lemmas.List.{append_assoc, append-nil, map-append}
use Rattle.std.proofs.lemmas.Grind.{flat_map-append}
use Rattle.std.specs.Prelude.{OnOk}
use Rattle.message_core.specs.Spelling.{Content}
use Rattle.outside_io.specs.Told.{Adds}
use Rattle.outside_io.proofs.Says.{adds_then}
use Rattle.script_read.specs.Lines.{is_blank, lines_of, numbered}
use Rattle.script_read.specs.Reading.{message_says}
use Rattle.script_read.specs.declared.faults.LineFault.{LineFault}
use Rattle.selector_read.specs.Trees.{Tree}
use Rattle.broker_top.specs.Select.{AreMessages, truth_line, truths}

abbrev Numbered : Type 0
Numbered = List (ℕ × List ℕ)

module _ (lines : Numbered) (before : Numbered) (number : ℕ) (rest first tail : List ℕ) (parts : lines_of rest ≡ first ∷ lines_of tail) (cut : lines ≡ before ++ numbered number (lines_of rest)) where
  pub blank_passed : is_blank first ≡ true → lines ≡ before ++ numbered (number + 1) (lines_of tail)
  blank_passed blank = cut ∙ ap (λ (ls : Numbered). before ++ ls) (rw (parts, blank) refl)

  pub line_next : is_blank first ≡ false → lines ≡ before ++ (number, first) ∷ numbered (number + 1) (lines_of tail)
  line_next full = cut ∙ ap (λ (ls : Numbered). before ++ ls) (rw (parts, full) refl)

  pub line_passed : is_blank first ≡ false → lines ≡ (before ++ (number, first) ∷ []) ++ numbered (number + 1) (lines_of tail)
  line_passed full = line_next full ∙ sym (append_assoc before ((number, first) ∷ []) (numbered (number + 1) (lines_of tail)))

abbrev ok : Content → Result Content LineFault
ok message = Ok message

pub message_more : (before : Numbered) (messages : List Content) (number : ℕ) (line : List ℕ) (message : Content) → AreMessages before messages → message_says line ≡ Ok message → AreMessages (before ++ (number, line) ∷ []) (messages ++ message ∷ [])
message_more before messages number line message are e =
    map-append (λ (l : ℕ × List ℕ). message_says l.1) before ((number, line) ∷ [])
    ∙ ap₂ (λ (a b : List (Result Content LineFault)). a ++ b) are (ap (λ (r : Result Content LineFault). r ∷ []) e)
    ∙ sym (map-append (λ (m : Content). ok m) messages (message ∷ []))

pub truth_more : (selector : Tree) (messages : List Content) (message : Content) → truths selector messages ++ truth_line selector message ≡ truths selector (messages ++ message ∷ [])
truth_more selector messages message =
    ap (λ (t : List ℕ). truths selector messages ++ t) (sym (append-nil (truth_line selector message)))
    ∙ sym (flat_map-append (truth_line selector) messages (message ∷ []))

pub told_more : (selector : Tree) (messages : List Content) (message : Content) (a b c : Option (List ℕ)) → Adds a b (truths selector messages) → Adds b c (truth_line selector message) → Adds a c (truths selector (messages ++ message ∷ []))
told_more selector messages message a b c before line = rw (← truth_more selector messages message) (adds_then a b c (truths selector messages) (truth_line selector message) before line)

-- a line that was not refused was told of
pub was_told : {P : Type 0} (r : Result (Unit {0}) LineFault) → ((cause : LineFault) → r ≡ Err cause → ⊥) → OnOk r P → P
was_told (Ok u) none told = told
was_told (Err cause) none told = absurd (none cause refl)
