-- the number of callers, which stands for nothing of the queue
use Rattle.std.proofs.Common.{ℕ, arith}
use Rattle.std.specs.Prelude.{slice_set}
use Rattle.queue_model.specs.declared.queues.Queue.{Queue}
use Rattle.link_core.specs.declared.places.TheConstants.{CALLERS}
use Rattle.link_core.specs.Stands.{Stands}
use Rattle.link_core.specs.Table.{Table}
use Rattle.link_core.proofs.Frames.{states_else, drafts_else, links_else, tails_else, marks_else, bells_else, depth_else, draws_else, shaped_set, stands_low, draft_low}

-- The word of the callers may be any number.
pub callers_kept : (t : Table) (q : Queue) (n : ℕ) → Stands t q → Stands (record t { words = slice_set t.words CALLERS n }) q
callers_kept t q n s = record {
  sound = s.sound;
  shaped = shaped_set t q CALLERS n t.drawer t.reserved s.shaped;
  states = states_else t.rows t.words CALLERS n q (stands_low t q s) (λ r less. omega arith) s.states;
  drafted = drafts_else t.rows t.words CALLERS n q (λ r x found w. omega (arith, draft_low r w)) s.drafted;
  links = links_else t.rows t.words CALLERS n t.lists q (stands_low t q s) (λ l lt. omega arith) (λ r less. omega arith) s.links;
  tails = tails_else t.rows t.words CALLERS n t.lists q (λ l lt. omega arith) s.tails;
  marks = marks_else t.rows t.words CALLERS n t.lists q (λ l lt. omega arith) s.marks;
  bells = bells_else t.rows t.words CALLERS n t.consumers t.lists q (λ c l fewer lt. omega arith) s.bells;
  rung = s.rung;
  depth = depth_else t.rows t.words CALLERS n q (omega arith) s.depth;
  draws = draws_else t.rows t.words CALLERS n t.drawer q (omega arith) (λ r less none. omega arith) (λ r less none. omega arith) s.draws;
  reserved = s.reserved;
}
