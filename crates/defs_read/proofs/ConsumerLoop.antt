-- reading the consumers of a list
use Rattle.std.proofs.Common.{◌≡◌, ℕ, List, [], ◌∷◌, ◌++◌, length, None, refl, sym, ap, ◌∙◌, append_assoc}
use Rattle.std.proofs.lemmas.List.{append-nil, length_push}
use Rattle.serde_json.specs.Data.{Data, Items, no_items, item}
use Rattle.fields_read.specs.Forms.{first_of}
use Rattle.defs_read.specs.Causes.{consumer_causes, consumers_fault, name_in, names_in}
use Rattle.defs_read.specs.Steps.{Refuses}
use Rattle.defs_read.specs.Values.{consumer_of, consumers_of}
use Rattle.defs_read.specs.declared.defs.ConsumerDef.{ConsumerDef}
use Rattle.defs_read.specs.declared.faults.DefsFault.{DefsFault}
use Rattle.defs_read.proofs.Lists.{stops, passes}

-- where reading stands that began after the names `start`
pub record ConsumersLeft (start : List (List ℕ)) (all : Items) (names : List (List ℕ)) (read : List ConsumerDef) (left : Items) : Type 0 where
  pub fault : consumers_fault start all ≡ consumers_fault names left
  pub told : consumers_of (length start) all ≡ read ++ consumers_of (length names) left
  pub taken : start ++ names_in all ≡ names ++ names_in left

pub consumers_begin : (start : List (List ℕ)) (all : Items) → ConsumersLeft start all start [] all
consumers_begin start all = record { fault = refl; told = refl; taken = refl }

-- a consumer that has a cause ends it
pub consumers_stop : (start : List (List ℕ)) (all : Items) (names : List (List ℕ)) (read : List ConsumerDef) (left : Items) (d : Data) (ds : Items) (fault : DefsFault)
    → ConsumersLeft start all names read left → left ≡ item d ds → Refuses fault (first_of (consumer_causes names d)) → Refuses fault (consumers_fault start all)
consumers_stop start all names read left d ds fault at next refused =
    rw (at.fault, next) (stops fault (first_of (consumer_causes names d)) (consumers_fault (names ++ name_in d ∷ []) ds) refused)

-- one that has none is passed over
pub consumers_go_on : (start : List (List ℕ)) (all : Items) (names names' : List (List ℕ)) (read read' : List ConsumerDef) (consumer : ConsumerDef) (left : Items) (d : Data) (ds : Items)
    → ConsumersLeft start all names read left → left ≡ item d ds → first_of (consumer_causes names d) ≡ None
    → consumer ≡ consumer_of (length names) d → names' ≡ names ++ name_in d ∷ [] → read' ≡ read ++ consumer ∷ []
    → ConsumersLeft start all names' read' ds
consumers_go_on start all names names' read read' consumer left d ds at next none is more pushed = record {
  fault = rw more (at.fault ∙ ap (consumers_fault names) next ∙ passes (first_of (consumer_causes names d)) (consumers_fault (names ++ name_in d ∷ []) ds) none);
  told = rw (pushed, more, is, length_push names (name_in d), append_assoc) (at.told ∙ ap (λ (xs : Items). read ++ consumers_of (length names) xs) next);
  taken = rw (more, append_assoc) (at.taken ∙ ap (λ (xs : Items). names ++ names_in xs) next);
}

-- after the last
pub consumers_end : (start : List (List ℕ)) (all : Items) (names : List (List ℕ)) (read : List ConsumerDef)
    → ConsumersLeft start all names read no_items
    → (consumers_fault start all ≡ None) × ((read ≡ consumers_of (length start) all) × (names ≡ start ++ names_in all))
consumers_end start all names read at =
    (at.fault, (sym (at.told ∙ append-nil read), sym (at.taken ∙ append-nil names)))
