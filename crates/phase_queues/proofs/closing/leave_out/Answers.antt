use Rattle.std.proofs.Common.{not, rules}
use Rattle.std.proofs.lemmas.Fn.{filter_same}
use Rattle.acts_core.specs.declared.cargoes.RestEntry.{RestEntry}
use Rattle.txn_core.specs.declared.parcels.Parcel.{Parcel}
use Rattle.phase_queues.proofs.closing.leave_out.Goals as goal

pub returns : goal.returns
returns c = filter_same _ (λ (e : RestEntry Parcel). not e.outdated) _ (λ x b f' h. search rules) _ _ c.retain.ensures.filtered
