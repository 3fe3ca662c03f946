use Rattle.std.proofs.Common.{◌∙◌, sym, ap, subst, List, ℕ, length, replicate, None}
use Rattle.atomic_table.specs.Table.{opening}
use Rattle.entry_table.specs.Rule.{Ruled, boss}
use Rattle.entry_table.proofs.Opening.{begins}
use Rattle.entry_table.proofs.entries.Entries.blank.Goals as goal

pub vacant-requires : goal.vacant-requires
vacant-requires g c =
    subst (λ (l : List ℕ). Ruled g.C.Freight.goods c.args.shape (opening l (replicate c.args.shape.rows None) (boss c.args.shape)))
    (sym (c.as_slice.ensures.value ∙ c.in_ok-words.ensures))
    (begins g.C.Freight.goods c.args.shape c.requires.rows c.requires.consumers)

pub invariant_of-entries : goal.invariant_of-entries
invariant_of-entries g c =
    let t = c.in_ok-table.ensures in record {
      room = (c.in_ok-rest.ensures.len, c.in_ok-rest.ensures.capacity);
      wide = t.0 ∙ ap length (c.as_slice.ensures.value ∙ c.in_ok-words.ensures) ∙ (begins g.C.Freight.goods c.args.shape c.requires.rows c.requires.consumers).1.stands.shaped.long;
      slots = t.1;
      keyed = t.5;
      rows = c.requires.rows;
      lists = c.requires.lists;
      consumers = c.requires.consumers;
    }
