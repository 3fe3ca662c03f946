use Rattle.std.proofs.Common.{arith, ◌≡◌, ◌==◌, ◌+◌, suc, subst, ℕ}
use Rattle.entry_table.specs.Passes.{view}
use Rattle.entry_table.specs.Skips.{Unlinks as DidUnlink}
use Rattle.entry_table.proofs.Skipped.{did_unlink}
use Rattle.entry_table.proofs.entries.Entries.unlink.Goals as goal

pub returns-clause-unlinks : goal.returns-clause-unlinks
returns-clause-unlinks g c =
    subst (λ (k : ℕ). DidUnlink (view c.args.pass.now) (view c.move_link.new.pass) c.args.at c.args.from c.args.to (c.move_link.result == k)) (let e : suc c.args.from ≡ c.args.from + 1 = omega arith in e)
    (did_unlink c.args.at c.args.from c.args.to (view c.args.pass.now) c.move_link.result (view c.move_link.new.pass) c.move_link.ensures.moves)
