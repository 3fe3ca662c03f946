-- lines over passes, one after the other
use Rattle.std.proofs.Common.{◌≡◌, ℕ, ◌<◌, Some, List, ◌++◌, length, slice_get, ◌∙◌}
use Rattle.std.specs.Prelude.{get_or}
use Rattle.std.proofs.lemmas.Option.{slice_get_within, slice_get-get_or}
use Rattle.acts_core.specs.Sight.{Build, Sight}
use Rattle.defs_read.specs.Defined.{Defined}
use Rattle.script_read.specs.declared.lines.Op.{Op}
use Rattle.report_core.specs.declared.answers.Answer as report
use Rattle.line_core.specs.Fits.{Did, Standing}
use Rattle.line_core.specs.Runs.{DidLines, Ran, RanOn, calls_on}
use Rattle.line_core.proofs.LineLists.{calls_append, fits_append}
use Rattle.line_core.proofs.Running.{ran_append}

-- calls by all passes, after others
pub runs_append : (builds : List Build) (a b c : List Sight) (ds es : List Did) → Ran builds a ds b → Ran builds b es c → Ran builds a (ds ++ es) c
runs_append builds a b c ds es x y = record { as_many = y.as_many ∙ x.as_many; on_each = on_each } where
  on_each : (q : ℕ) (u : Build) (s t : Sight) → slice_get builds q ≡ Some u → slice_get a q ≡ Some s → slice_get c q ≡ Some t → RanOn u (calls_on q (ds ++ es)) s t
  on_each q u s t built at_a at_c =
      let within : q < length b = rw x.as_many (slice_get_within a q s at_a) in
      let m : Sight = get_or b q s in
      let at_b : slice_get b q ≡ Some m = slice_get-get_or b q s within in
      rw (calls_append q ds es) (ran_append u (calls_on q ds) (calls_on q es) s m t (x.on_each q u s m built at_a at_b) (y.on_each q u m t built at_b at_c))

-- lines after lines
pub lines_append : (defs : List Defined) (builds : List Build) (a b c : List Sight) (s m e : Standing) (ops more : List Op) (answers replies : List report.Answer)
    → DidLines defs builds a s ops answers b m → DidLines defs builds b m more replies c e → DidLines defs builds a s (ops ++ more) (answers ++ replies) c e
lines_append defs builds a b c s m e ops more answers replies x y = record {
  dids = x.dids ++ y.dids;
  fits = fits_append defs s ops answers x.dids m more replies y.dids e x.fits y.fits;
  ran = runs_append builds a b c x.dids y.dids x.ran y.ran;
}
