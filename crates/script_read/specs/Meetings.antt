-- what stands for a field while the members of an object are met, one after the other
use Rattle.std.specs.Prelude.{ℕ, List, Option, Some, None, if◌then◌else◌}
use Rattle.std.specs.Str.{bytes_eq}
use Rattle.serde_json.specs.Data.{Data}

-- the value that came first stays
abbrev pub first_met : Data → Option Data → Option Data
first_met d None = Some d
first_met d (Some before) = Some before

-- what stands for the field of this name, once a member of that name was met
abbrev pub met : List ℕ → List ℕ → Data → Option Data → Option Data
met own name d before = if bytes_eq name own then first_met d before else before
