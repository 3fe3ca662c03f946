-- numbers of deliveries
use Rattle.std.proofs.Common.{◌≡◌, ℕ, Bool, Some, List, [], ◌∷◌, sym, ap, ◌∙◌}
use Rattle.queue_model.specs.declared.deeds.Act.TheVariants.{Acq}
use Rattle.queue_model.specs.declared.deeds.Deed.{Deed}
use Rattle.queue_model.specs.declared.queues.Queue.{Queue}
use Rattle.queue_model.specs.declared.rows.Row.{Row}
use Rattle.queue_model.specs.History.{after, deed}
use Rattle.queue_model.specs.State.{row_at}
use Rattle.acts_core.specs.Calls.{CallNext, IsGot}
use Rattle.acts_core.specs.Load.{Load}
use Rattle.acts_core.specs.Meaning.{Meets}
use Rattle.acts_core.specs.Moments.{JustBefore}
use Rattle.acts_core.specs.Sight.{Listed}
use Rattle.defs_read.specs.Defined.{Defined}
use Rattle.script_read.specs.declared.lines.What.TheVariants.{Take}
use Rattle.report_core.specs.declared.answers.Answer.TheVariants.{Got}
use Rattle.txn_core.specs.Shown.{number_after}
use Rattle.line_core.specs.Fits.{Did, On, Standing, LineFits}

pub got_counts : (defs : List Defined) (s s' : Standing) (c id n : ℕ) (dids : List Did) (q k r l h : ℕ) (load : Load) (o : Queue) (bells : Bool) (s0 s1 : List Deed)
    → LineFits defs s (Take c) (Got id n) dids s'
    → dids ≡ On q (CallNext k) (IsGot r l load) ∷ []
    → Meets (record { opening = o; kind = Listed; bells = bells }) h s0 s1 (CallNext k) (IsGot r l load)
    → (m : List Deed) × JustBefore s0 s1 (deed h (Acq r)) m × ((x : Row) × (row_at (after o m) r ≡ Some x) × (x.slip.id ≡ id) × (n ≡ number_after x.count))
got_counts defs s s' c id n dids q k r l h load o bells s0 s1 fits are meets =
    let gets = meets.besides.gets in
    let same_did : On fits.queue (CallNext fits.place) (IsGot fits.row fits.list fits.load) ∷ [] ≡ On q (CallNext k) (IsGot r l load) ∷ [] = sym fits.did ∙ are in
    let same : fits.load ≡ load = (cc) in (
      gets.moment,
      gets.before,
      (
        gets.hands.row,
        gets.hands.found,
        sym gets.hands.same.id ∙ sym (ap (λ (x : Load). x.id) same) ∙ sym fits.id_is,
        fits.number ∙ ap number_after (ap (λ (x : Load). x.count) same ∙ gets.hands.same.count),
      ),
    )
