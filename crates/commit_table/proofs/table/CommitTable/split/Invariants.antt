use Rattle.std.proofs.Common.{[], false}
use Rattle.commit_table.proofs.table.CommitTable.split.Given as goal

abbrev pub ghosts-part : goal.ghosts-part
ghosts-part g a = record { allowance = 0; share = a.tickets; kept = []; moved = []; is_moved = λ c. false }
