-- what was read so far, once one more line is read
use Rattle.std.proofs.Common.{◌≡◌, List, [], ◌∷◌, ◌++◌, map, Vec, Global, false, refl, sym, ap, ◌∙◌}
use Rattle.std.specs.Result.{OnOk, is_err}
use Rattle.std.proofs.lemmas.List.{map-append}
use Rattle.std.specs.declared.result.Result.{Result}
use Rattle.std.specs.declared.result.Result.TheVariants.{Ok, Err}
use Rattle.script_read.specs.Phases.{Actors, actors_in, filed, open_phase, phases_of}
use Rattle.script_read.specs.SoFar.{AddsLine, HasPuts, Tracks, actors_of, ended_with}
use Rattle.script_read.specs.declared.faults.LineFault.{LineFault}
use Rattle.script_read.specs.declared.lines.Line.{Line}
use Rattle.script_read.specs.declared.lines.Line.TheVariants.{Rest, Doing}
use Rattle.script_read.specs.declared.lines.Op.{Op}
use Rattle.script_read.specs.declared.open_phase.OpenPhase.{OpenPhase}
use Rattle.script_read.specs.declared.scripts.Phase.{Phase}
use Rattle.script_read.specs.declared.so_far.SoFar.{SoFar}
use Rattle.script_read.proofs.Phases.{phase_doing, ended_doing, phase_rest, ended_rest, phases_split}
use Rattle.script_read.proofs.Puts.{rest_more}

pub on_ok : {T E P Q : Type 0} (r : Result T E) → OnOk r P → (P → Q) → OnOk r Q
on_ok (Ok x) p f = f p
on_ok (Err e) p f = tt

pub from_ok : {T E P : Type 0} (r : Result T E) → is_err r ≡ false → OnOk r P → P
from_ok (Ok x) e p = p
from_ok (Err x) e p = absurd (cc)

pub added : (r : Result (Unit {0}) LineFault) (said : Result Line LineFault) (so_far : SoFar) (before : List Line) → ((cause : LineFault) → r ≡ Err cause → ⊥) → AddsLine r said so_far before → (l : Line) × (said ≡ Ok l) × Tracks so_far (before ++ l ∷ [])
added (Ok x) said so_far before none a = a
added (Err cause) said so_far before none a = absurd (none cause refl)

-- the puts are those of one more line, and the phases not yet
pub record Noted (so_far : SoFar) (before : List Line) (op : Op) : Type 0 where
  pub ended : map actors_in so_far.ended.items ≡ ended_with [] before
  pub phase : actors_of so_far.phase ≡ open_phase before
  pub puts : HasPuts so_far.puts (before ++ Doing op ∷ [])

pub op_more : (so_far : SoFar) (phase : OpenPhase) (before : List Line) (op : Op) → Noted so_far before op → actors_of phase ≡ filed op (actors_of so_far.phase) → Tracks (record { ended = so_far.ended; phase = phase; puts = so_far.puts }) (before ++ Doing op ∷ [])
op_more so_far phase before op n files = record {
  ended = n.ended ∙ sym (ended_doing [] before op);
  phase = files ∙ ap (filed op) n.phase ∙ sym (phase_doing [] before op);
  puts = n.puts;
}

-- the open phase behind those that have ended
with_last : (so_far : SoFar) (phases : Vec Phase Global) (last : Phase) (before : List Line) → Tracks so_far before → phases.items ≡ so_far.ended.items ++ last ∷ [] → actors_in last ≡ actors_of so_far.phase → map actors_in phases.items ≡ ended_with [] before ++ open_phase before ∷ []
with_last so_far phases last before t more same =
    ap (λ (ps : List Phase). map actors_in ps) more ∙ map-append actors_in so_far.ended.items (last ∷ [])
    ∙ ap (λ (ps : List Actors). ps ++ actors_in last ∷ []) t.ended
    ∙ ap (λ (actors : Actors). ended_with [] before ++ actors ∷ []) (same ∙ t.phase)

pub rest_ends : (so_far : SoFar) (phases : Vec Phase Global) (last : Phase) (next : OpenPhase) (before : List Line) → Tracks so_far before → phases.items ≡ so_far.ended.items ++ last ∷ [] → actors_in last ≡ actors_of so_far.phase → actors_of next ≡ [] → Tracks (record { ended = phases; phase = next; puts = so_far.puts }) (before ++ Rest ∷ [])
rest_ends so_far phases last next before t more same empty = record {
  ended = with_last so_far phases last before t more same ∙ sym (ended_rest [] before);
  phase = empty ∙ sym (phase_rest [] before);
  puts = rest_more so_far.puts before t.puts;
}

pub all_phases : (so_far : SoFar) (phases : Vec Phase Global) (last : Phase) (before : List Line) → Tracks so_far before → phases.items ≡ so_far.ended.items ++ last ∷ [] → actors_in last ≡ actors_of so_far.phase → map actors_in phases.items ≡ phases_of before
all_phases so_far phases last before t more same = with_last so_far phases last before t more same ∙ sym (phases_split [] before)
