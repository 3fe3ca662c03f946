use Rattle.std.proofs.Common.{not, rules}
use Rattle.std.proofs.lemmas.Fn.{filter_same}
use Rattle.queue_model.specs.declared.queues.Bell.{Bell}
use Rattle.queue_model.specs.State.{is_bell}
use Rattle.queue_model.proofs.field_lists.take_bell.Goals as goal

pub returns : goal.returns
returns c = filter_same _ (λ (b : Bell). not (is_bell c.args.consumer c.args.list b)) _ (λ x b f' h. search rules) _ _ c.retain.ensures.filtered
