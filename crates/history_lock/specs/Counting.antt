-- a number that rises by one with each event, nine times at most; an event is its caller. The tests' object
use Rattle.std.specs.Prelude.{◌≡◌, ℕ, ◌+◌, ◌==◌, length}
use Rattle.history_lock.specs.Tale.{Tale}

abbrev pub counting : Tale ℕ ℕ ℕ
counting = record {
  by = λ k e. e == k;
  legal = λ o es. Unit {0};
  stands = λ o n es. n ≡ o + length es;
  allowed = λ o es. length es;
  drawn = λ o es. 0;
  most_allowed = λ o. 9;
  most_drawn = λ o. 0;
}
