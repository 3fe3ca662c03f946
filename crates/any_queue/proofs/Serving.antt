-- calls that take no bell
use Rattle.std.proofs.Common.{◌≢◌, ℕ}
use Rattle.acts_core.specs.Calls.{Call, CallNext, Answer}
use Rattle.acts_core.specs.Meaning.{Called}
use Rattle.entry_table.specs.declared.entries.Entries.{Entries}
use Rattle.entry_table.specs.declared.pass.Pass.{Pass}
use Rattle.entry_table.specs.Sights.{build_of, sight, Serves}
use Rattle.cursor_core.proofs.Slots.{true_last}
use Rattle.any_queue.specs.declared.kinds.ListedPass.{ListedPass}
use Rattle.any_queue.specs.Kinds.{ServesListed}

pub serves_last : {C : Type 0} (e : Entries C) (old : ListedPass) (new : Pass) (call : Call) (answer : Answer) → ServesListed e old → Serves e new → Called (build_of e) (sight old.pass) (sight new) call answer → ((c : ℕ) → call ≢ CallNext c) → ServesListed e (record old { pass = new })
serves_last e old new call answer s t m other = record { table = t; cursors = true_last (build_of e) (sight old.pass) (sight new) call answer old.cursors.slots m other s.cursors }
