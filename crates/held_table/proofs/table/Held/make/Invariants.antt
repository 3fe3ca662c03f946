use Rattle.std.proofs.Common.{Some}
use Rattle.held_table.specs.Openings.{outset_of, allowance_of}
use Rattle.held_table.specs.Views.{below}
use Rattle.held_table.proofs.table.Held.make.Given as goal

abbrev pub ghosts-begin : goal.ghosts-begin
ghosts-begin g a = let k = g.Q.BareCore.keeps a.core in record { opening = Some (outset_of a.consumers k); allowance = allowance_of k; share = k.spare; consumers = below a.consumers }
