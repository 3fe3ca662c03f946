-- what a script says, a text further
use Rattle.std.proofs.Common.{◌≡◌, ℕ, ◌+◌, Bool, true, false, cond, List, [], ◌∷◌, ◌++◌, Ok, Err, length, refl, ap, ◌∙◌, arith}
use Rattle.defs_read.specs.Defined.{Defined}
use Rattle.script_read.specs.Lines.{lines_of, numbered, is_blank}
use Rattle.script_read.specs.Scripts.{goes_on, line_after, script_after}
use Rattle.script_read.specs.declared.faults.LineFault.{LineFault}
use Rattle.script_read.specs.declared.lines.Line.{Line}

module _ (queues : List Defined) (journal : Bool) (before : List Line) (n : ℕ) where
  pub nothing_further : (rest : List ℕ) → length rest ≡ 0 → script_after queues journal before (numbered n (lines_of rest)) ≡ Ok before
  nothing_further [] none = refl
  nothing_further (b ∷ rest) none = absurd (omega (arith, none))

  module _ (rest text tail : List ℕ) (parts : lines_of rest ≡ text ∷ lines_of tail) where
    abbrev pub behind : List (ℕ × List ℕ)
    behind = numbered (n + 1) (lines_of tail)

    taken : (blank : Bool) → is_blank text ≡ blank → script_after queues journal before (numbered n (lines_of rest)) ≡ script_after queues journal before (cond blank behind ((n, text) ∷ behind))
    taken blank is = ap (λ ls. script_after queues journal before (numbered n ls)) parts ∙ ap (λ b. script_after queues journal before (cond b behind ((n, text) ∷ behind))) is

    -- a blank line is passed over
    pub passed_over : is_blank text ≡ true → script_after queues journal before (numbered n (lines_of rest)) ≡ script_after queues journal before behind
    passed_over blank = taken true blank

    -- another is read, and comes behind those before it
    pub read_on : is_blank text ≡ false → (l : Line) → line_after queues journal before n text ≡ Ok l → script_after queues journal before (numbered n (lines_of rest)) ≡ script_after queues journal (before ++ l ∷ []) behind
    read_on some l said = taken false some ∙ ap (λ r. goes_on n r (λ m. script_after queues journal (before ++ m ∷ []) behind)) said

    -- or refused
    pub refused : is_blank text ≡ false → (cause : LineFault) → line_after queues journal before n text ≡ Err cause → script_after queues journal before (numbered n (lines_of rest)) ≡ Err (record { line = n; cause = cause })
    refused some cause said = taken false some ∙ ap (λ r. goes_on n r (λ m. script_after queues journal (before ++ m ∷ []) behind)) said
