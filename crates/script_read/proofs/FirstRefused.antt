-- a script is refused for the first of its lines that has a cause beside those before it
use Rattle.std.proofs.Common.{◌≡◌, ℕ, Bool, List, [], ◌∷◌, ◌++◌, Result, Ok, Err, refl, ap, subst, ◌∙◌}
use Rattle.defs_read.specs.Defined.{Defined}
use Rattle.script_read.specs.Laws.{IsFirstRefused, RefusedOnlyThere, RefusedThere}
use Rattle.script_read.specs.Lines.{lines_of, numbered}
use Rattle.script_read.specs.Scripts.{goes_on, line_after, script_after}
use Rattle.script_read.specs.declared.faults.LineFault.{LineFault}
use Rattle.script_read.specs.declared.faults.ScriptFault.{ScriptFault}
use Rattle.script_read.specs.declared.lines.Line.{Line}

module _ (queues : List Defined) (journal : Bool) where
  -- a text further
  abbrev behind : List Line → List (ℕ × List ℕ) → Line → Result (List Line) ScriptFault
  behind before texts l = script_after queues journal (before ++ l ∷ []) texts

  first_refused : (before : List Line) (texts : List (ℕ × List ℕ)) (fault : ScriptFault) → script_after queues journal before texts ≡ Err fault → IsFirstRefused queues journal before texts fault
  first_refused before [] fault is = absurd (cc)
  first_refused before (t ∷ texts) fault is = by_answer (line_after queues journal before t.0 t.1) refl is (λ l. first_refused (before ++ l ∷ []) texts fault)
    where
      by_answer : (said : Result Line LineFault) → line_after queues journal before t.0 t.1 ≡ said → goes_on t.0 said (behind before texts) ≡ Err fault
          → ((l : Line) → behind before texts l ≡ Err fault → IsFirstRefused queues journal (before ++ l ∷ []) texts fault)
          → IsFirstRefused queues journal before (t ∷ texts) fault
      by_answer (Err cause) said is later =
          let same : ◌≡◌ {A = ScriptFault} (record { line = t.0; cause = cause }) fault = cc in
          subst (λ (f : ScriptFault). IsFirstRefused queues journal before (t ∷ texts) f) same (record { front = []; text = t.1; back = texts; ls = before; parts = refl; reads = refl; refuses = said })
      by_answer (Ok l) said is later =
          let rest : IsFirstRefused queues journal (before ++ l ∷ []) texts fault = later l is in
          record {
            front = t ∷ rest.front;
            text = rest.text;
            back = rest.back;
            ls = rest.ls;
            parts = ap (λ (ts : List (ℕ × List ℕ)). t ∷ ts) rest.parts;
            reads = ap (λ (r : Result Line LineFault). goes_on t.0 r (behind before rest.front)) said ∙ rest.reads;
            refuses = rest.refuses;
          }

  refused_there : (before : List Line) (front back : List (ℕ × List ℕ)) (text : List ℕ) (ls : List Line) (fault : ScriptFault) → script_after queues journal before front ≡ Ok ls → line_after queues journal ls fault.line text ≡ Err fault.cause
      → script_after queues journal before (front ++ (fault.line, text) ∷ back) ≡ Err fault
  refused_there before [] back text ls fault reads refuses =
      let same : before ≡ ls = cc in
      ap (λ (r : Result Line LineFault). goes_on fault.line r (behind before back)) (ap (λ (b : List Line). line_after queues journal b fault.line text) same ∙ refuses)
  refused_there before (t ∷ front) back text ls fault reads refuses = by_answer (line_after queues journal before t.0 t.1) reads (λ l. refused_there (before ++ l ∷ []) front back text ls fault)
    where
      by_answer : (said : Result Line LineFault) → goes_on t.0 said (behind before front) ≡ Ok ls
          → ((l : Line) → behind before front l ≡ Ok ls → line_after queues journal ls fault.line text ≡ Err fault.cause → behind before (front ++ (fault.line, text) ∷ back) l ≡ Err fault)
          → goes_on t.0 said (behind before (front ++ (fault.line, text) ∷ back)) ≡ Err fault
      by_answer (Err cause) is later = absurd (cc)
      by_answer (Ok l) is later = later l is refuses

pub only_there : RefusedOnlyThere
only_there queues journal n bytes fault is = first_refused queues journal [] (numbered n (lines_of bytes)) fault is

pub there : RefusedThere
there queues journal n bytes fault first = ap (script_after queues journal []) first.parts ∙ refused_there queues journal [] first.front first.back first.text first.ls fault first.reads first.refuses
