use Rattle.std.proofs.Common.{◌≡◌, ◌≤◌, ◌++◌, drop, vec_len, vec_capacity}
use Rattle.phase_actors.specs.Passes.{places_from, places_of}
use Rattle.phase_actors.proofs.splitting.places_of.Given as goal

-- some places were found, and those of the others are to come
abbrev pub invariant-consumers : goal.invariant-consumers
invariant-consumers l = record {
  found : l.places.items ++ places_from l.place l.name (drop l.place l.def.consumers.items) ≡ places_of l.name l.def.consumers.items;
  few : vec_len l.places ≤ l.place;
  room : vec_len l.def.consumers ≤ vec_capacity l.places;
}
