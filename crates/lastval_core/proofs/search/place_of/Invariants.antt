use Rattle.std.proofs.Common.{◌≡◌, ◌<◌, ◌≤◌, ◌-◌, ℕ, length, get_or}
use Rattle.queue_model.specs.Order.{KeyBefore}
use Rattle.lastval_core.specs.Lasts.{key_at}
use Rattle.lastval_core.proofs.search.place_of.Given as goal

abbrev pub invariant-halving : goal.invariant-halving
invariant-halving g l = record {
  order : l.low ≤ l.high;
  inside : l.high ≤ length l.lasts;
  below : (j : ℕ) → j < l.low → KeyBefore (key_at l.rows (get_or l.lasts j 0)) l.key;
  above : (j : ℕ) → l.high ≤ j → j < length l.lasts → KeyBefore l.key (key_at l.rows (get_or l.lasts j 0));
}

abbrev pub decreases-halving : goal.decreases-halving
decreases-halving g l = l.high - l.low
