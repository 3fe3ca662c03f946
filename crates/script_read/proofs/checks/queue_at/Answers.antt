use Rattle.std.proofs.Common.{rules, tests, sym, ◌∙◌}
use Rattle.std.specs.Str.{bytes_eq}
use Rattle.std.proofs.lemmas.Iterator.{YieldsList-from_slice}
use Rattle.std.proofs.lemmas.Iterator.Search.{position_from_yields_List}
use Rattle.script_read.proofs.Names.{position_of}
use Rattle.script_read.proofs.checks.queue_at.Goals as goal

pub returns-in-Some : goal.returns-in-Some
returns-in-Some c =
    sym c.in-Some.is
    ∙ position_from_yields_List (λ q. bytes_eq q.name c.args.name.now) _ _ c.position.result c.position.ensures.ran (YieldsList-from_slice c.args.defs.now.queues.items (c.iter.ensures.rest ∙ c.deref.ensures.value)) (λ x b q k. search (rules, tests))
    ∙ sym (position_of (λ q. bytes_eq q.name c.args.name.now) c.args.defs.now.queues.items)

pub returns-in-None : goal.returns-in-None
returns-in-None c =
    sym c.in-None.is
    ∙ position_from_yields_List (λ q. bytes_eq q.name c.args.name.now) _ _ c.position.result c.position.ensures.ran (YieldsList-from_slice c.args.defs.now.queues.items (c.iter.ensures.rest ∙ c.deref.ensures.value)) (λ x b q k. search (rules, tests))
    ∙ sym (position_of (λ q. bytes_eq q.name c.args.name.now) c.args.defs.now.queues.items)
