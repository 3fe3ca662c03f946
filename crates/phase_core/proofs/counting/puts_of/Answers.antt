use Rattle.phase_core.proofs.counting.puts_of.Goals as goal

pub puts_to-requires : goal.puts_to-requires
puts_to-requires c = rw c.deref.ensures.value (c.requires.few c.queues.number)
