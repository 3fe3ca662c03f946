-- reading the queues of a list
use Rattle.std.proofs.Common.{◌≡◌, ℕ, suc, List, [], ◌∷◌, ◌++◌, length, map, None, refl, sym, ap, ◌∙◌, append_assoc}
use Rattle.std.proofs.lemmas.List.{append-nil, map_push, length-append}
use Rattle.serde_json.specs.Data.{Data, Items, no_items, item}
use Rattle.fields_read.specs.Fields.{items_at}
use Rattle.fields_read.specs.Forms.{first_of, count_items}
use Rattle.fields_read.specs.declared.fields.Field.TheVariants.{Consumers}
use Rattle.defs_read.specs.Causes.{queue_causes, queues_fault, name_in, names_in}
use Rattle.defs_read.specs.Defined.{defined}
use Rattle.defs_read.specs.Steps.{Refuses}
use Rattle.defs_read.specs.Values.{queue_of, queues_of}
use Rattle.defs_read.specs.declared.defs.QueueDef.{QueueDef}
use Rattle.defs_read.specs.declared.faults.DefsFault.{DefsFault}
use Rattle.defs_read.proofs.Lists.{stops, passes}

-- where reading stands
pub record QueuesLeft (all : Items) (queues consumers : List (List ℕ)) (read : List QueueDef) (left : Items) : Type 0 where
  pub fault : queues_fault [] [] all ≡ queues_fault queues consumers left
  pub told : queues_of 0 all ≡ map defined read ++ queues_of (length consumers) left

count_names : (ds : Items) → length (names_in ds) ≡ count_items ds
count_names no_items = refl
count_names (item d ds) = ap suc (count_names ds)

pub queues_begin : (all : Items) → QueuesLeft all [] [] [] all
queues_begin all = record { fault = refl; told = refl }

-- a queue that has a cause ends it
pub queues_stop : (all : Items) (queues consumers : List (List ℕ)) (read : List QueueDef) (left : Items) (d : Data) (ds : Items) (fault : DefsFault)
    → QueuesLeft all queues consumers read left → left ≡ item d ds → Refuses fault (first_of (queue_causes queues consumers d)) → Refuses fault (queues_fault [] [] all)
queues_stop all queues consumers read left d ds fault at next refused =
    rw (at.fault, next) (stops fault (first_of (queue_causes queues consumers d)) (queues_fault (queues ++ name_in d ∷ []) (consumers ++ names_in (items_at Consumers d)) ds) refused)

-- one that has none is passed over
pub queues_go_on : (all : Items) (queues queues' consumers consumers' : List (List ℕ)) (read read' : List QueueDef) (queue : QueueDef) (left : Items) (d : Data) (ds : Items)
    → QueuesLeft all queues consumers read left → left ≡ item d ds → first_of (queue_causes queues consumers d) ≡ None
    → defined queue ≡ queue_of (length consumers) d → queues' ≡ queues ++ name_in d ∷ [] → consumers' ≡ consumers ++ names_in (items_at Consumers d)
    → read' ≡ read ++ queue ∷ []
    → QueuesLeft all queues' consumers' read' ds
queues_go_on all queues queues' consumers consumers' read read' queue left d ds at next none is more_queues more pushed = record {
  fault = rw (more_queues, more) (at.fault ∙ ap (queues_fault queues consumers) next ∙ passes (first_of (queue_causes queues consumers d)) (queues_fault (queues ++ name_in d ∷ []) (consumers ++ names_in (items_at Consumers d)) ds) none);
  told = rw (pushed, more, map_push defined read queue, is, length-append consumers (names_in (items_at Consumers d)), count_names (items_at Consumers d), append_assoc) (at.told ∙ ap (λ (xs : Items). map defined read ++ queues_of (length consumers) xs) next);
}

-- after the last
pub queues_end : (all : Items) (queues consumers : List (List ℕ)) (read : List QueueDef)
    → QueuesLeft all queues consumers read no_items
    → (queues_fault [] [] all ≡ None) × (map defined read ≡ queues_of 0 all)
queues_end all queues consumers read at = (at.fault, sym (at.told ∙ append-nil (map defined read)))
