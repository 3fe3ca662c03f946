use Rattle.std.proofs.Common.{sym, ap, ◌∙◌, ◌≡◌, ◌<◌, ◌^◌, ℕ, subst, arith}
use Rattle.queue_model.specs.State.{reserved_by}
use Rattle.queue_model.specs.Table.{CanGive}
use Rattle.acts_core.proofs.Passes.{pass_reserves}
use Rattle.entry_table.specs.declared.view.Shape.{Shape}
use Rattle.entry_table.specs.Passes.{state}
use Rattle.entry_table.specs.Sights.{build_of, sight}
use Rattle.entry_calls.proofs.tests.an_entry_is_put_and_found.Goals as goal

pub enqueue-placed-requires-clause-may : goal.enqueue-placed-requires-clause-may
enqueue-placed-requires-clause-may g c =
    let e = c.in_ok-entries.entries in
    let before = c.depth.new.pass in
    let now = c.reserve.new.pass in
    let made = c.in_ok-entries.ensures in
    let shape = c.reserve.ensures.serves.pass.shape in
    let lists = now.within.lists ∙ ap (λ (s : Shape). s.lists) shape ∙ made.lists_is in
    let none : (state now).consumers ≡ 0 = now.within.consumers ∙ ap (λ (s : Shape). s.consumers) shape ∙ made.consumers_is in
    let s = c.slip-2.ensures in
    let can = pass_reserves (build_of e) (sight before) (sight now) 0 c.reserve.result c.depth.ensures.serves.opening c.reserve.ensures.called in
    record {
      enters = record {
        fits = record {
          size = (let size = s.size in omega (arith, size));
          list = (let list = s.list in omega (arith, list, lists));
          mask = subst (λ (n : ℕ). c.slip-2.result.mask < 2 ^ n) (sym none) (let mask = s.mask in omega (arith, mask));
        };
        reserved = subst (CanGive (reserved_by (state now) now.caller)) (sym s.size) can;
        id = s.id;
        size = s.size;
      };
      key = s.key;
    }
