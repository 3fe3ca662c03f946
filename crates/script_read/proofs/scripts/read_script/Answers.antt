use Rattle.std.proofs.Common.{◌∙◌, sym, subst, arith, [], ◌∷◌, ◌++◌}
use Rattle.std.proofs.lemmas.Bool.{eqb-true}
use Rattle.defs_read.specs.Defined.{queues_in}
use Rattle.script_read.specs.Allowed.{AreAllowedPhases}
use Rattle.script_read.specs.Lines.{lines_of, numbered}
use Rattle.script_read.specs.SoFar.{Tracks}
use Rattle.script_read.proofs.AllowedLines.{ReadAll, allowed_phases}
use Rattle.script_read.specs.declared.so_far.SoFar.{SoFar}
use Rattle.script_read.proofs.Steps.{nothing_further, passed_over, read_on}
use Rattle.script_read.proofs.Tracked.{added}
use Rattle.script_read.proofs.scripts.read_script.Goals as goal
use Rattle.script_read.proofs.scripts.read_script.Goals.{then-not-has_nothing+in_default, else-not-has_nothing, In-Ok}

pub reading-preserved : goal.reading-preserved
reading-preserved c =
    let queues = queues_in c.args.defs.now in
    let before = c.reading.invariant.before in
    let text = c.first_line.result.0.now in
    let tail = c.first_line.result.1.now in
    elim c.if-not-has_nothing.branch [
      | then-not-has_nothing+in_default w ↦
          let grown = added w.read_next.result _ w.read_next.new.so_far before w.in_default.not-Err (w.read_next.ensures before c.reading.invariant.tracks) in
          record {
            before = before ++ grown.0 ∷ [];
            tracks = subst (λ (s : SoFar). Tracks s (before ++ grown.0 ∷ [])) (sym w.so_far-is) grown.2;
            further = c.reading.invariant.further ∙ read_on queues c.args.journal before c.reading.line c.reading.rest.now text tail c.first_line.ensures.lines (sym c.has_nothing.ensures ∙ w.if-not-has_nothing.true) grown.0 grown.1;
            budget = omega (arith, c.reading.invariant.budget, c.first_line.ensures.shorter);
          }
      | else-not-has_nothing w ↦
          record {
            before = before;
            tracks = subst (λ (s : SoFar). Tracks s before) (sym w.so_far-is) c.reading.invariant.tracks;
            further = c.reading.invariant.further ∙ passed_over queues c.args.journal before c.reading.line c.reading.rest.now text tail c.first_line.ensures.lines (sym c.has_nothing.ensures ∙ w.if-not-has_nothing.false);
            budget = omega (arith, c.reading.invariant.budget, c.first_line.ensures.shorter);
          }
    ]

-- all lines were read, and these are their phases
read_all : (c : In-Ok) → ReadAll (queues_in c.args.defs.now) c.args.journal c.args.from c.args.bytes.now c.in-Ok.script
read_all c =
    let before = c.reading.invariant.before in
    record {
      lines = before;
      said = c.reading.invariant.further ∙ nothing_further (queues_in c.args.defs.now) c.args.journal before c.reading.line c.reading.rest.now (eqb-true _ _ (sym c.is_empty.ensures ∙ c.reading-test.false));
      phases = c.in-Ok.ensures before c.reading.invariant.tracks;
    }

pub returns-in-Ok-clause-script : goal.returns-in-Ok-clause-script
returns-in-Ok-clause-script c = let all = read_all (goal.at.returns-in-Ok-clause-script c).In-Ok in (all.lines, all.said, all.phases)

pub returns-in-Ok-clause-allowed : goal.returns-in-Ok-clause-allowed
returns-in-Ok-clause-allowed c = λ allowed.
    let all = read_all (goal.at.returns-in-Ok-clause-allowed c).In-Ok in
    subst (AreAllowedPhases (queues_in c.args.defs.now) c.args.journal) (sym all.phases) (allowed_phases (queues_in c.args.defs.now) c.args.journal allowed.numbered (numbered c.args.from (lines_of c.args.bytes.now)) all.lines all.said)
