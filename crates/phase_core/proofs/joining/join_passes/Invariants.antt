use Rattle.std.proofs.Common.{◌≡◌, ◌<◌, ◌≤◌, ℕ, Some, length, map, slice_get, vec_len}
use Rattle.acts_core.specs.Sight.{Sight}
use Rattle.any_queue.specs.declared.kinds.AnyPass.{AnyPass}
use Rattle.any_queue.specs.Kinds.{ServesAny, sight_in}
use Rattle.any_queue.specs.Parting.{IsJoined}
use Rattle.workers_core.specs.Ready.{AllServe}
use Rattle.phase_core.proofs.joining.join_passes.Given as goal

-- the passes that are left are the first ones, whose bosses' are as they were; those behind were joined
abbrev pub invariant-passes : goal.invariant-passes
invariant-passes g l = record {
  as_many : length l.queues ≡ vec_len l.bosses;
  many : vec_len l.bosses ≡ vec_len l.fn.bosses;
  serve : AllServe ServesAny l.queues l.bosses.items;
  fewer : vec_len l.passes ≤ vec_len l.fn.passes;
  left : (q : ℕ) (pass : AnyPass) → slice_get l.passes.items q ≡ Some pass → slice_get l.fn.passes.items q ≡ Some pass;
  kept : (q : ℕ) → q < vec_len l.passes → slice_get (map sight_in l.bosses.items) q ≡ slice_get (map sight_in l.fn.bosses.items) q;
  joined : (q : ℕ) (s g t : Sight) → vec_len l.passes ≤ q → slice_get (map sight_in l.fn.bosses.items) q ≡ Some s → slice_get (map sight_in l.fn.passes.items) q ≡ Some g → slice_get (map sight_in l.bosses.items) q ≡ Some t → IsJoined s g t;
}

abbrev pub decreases-passes : goal.decreases-passes
decreases-passes g l = vec_len l.passes
