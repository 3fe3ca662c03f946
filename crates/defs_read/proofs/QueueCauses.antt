-- the causes of a queue, step by step
use Rattle.std.proofs.Common.{◌≡◌, ℕ, ◌-◌, List, [], ◌∷◌, ◌++◌, length, take, drop, Option, Some, None, Result, Ok, Err, refl, sym, ap, ◌∙◌, inl, inr}
use Rattle.std.specs.Prelude.{MatchResult, option_map}
use Rattle.std.proofs.lemmas.Result.{MatchResult-weaker}
use Rattle.serde_json.specs.Data.{Data, Items}
use Rattle.fields_read.specs.Faults.{passes_unless, values_fault}
use Rattle.fields_read.specs.Fields.{items_at, text_at}
use Rattle.fields_read.specs.Forms.{first_of}
use Rattle.fields_read.specs.declared.fields.Field.{Field}
use Rattle.fields_read.specs.declared.fields.Field.TheVariants.{Consumers, Kind}
use Rattle.fields_read.specs.declared.faults.FieldFault.{FieldFault}
use Rattle.defs_read.specs.Causes.{consumers_fault, name_in, of_field, queue_causes}
use Rattle.defs_read.specs.Defined.{defined}
use Rattle.defs_read.specs.Steps.{Refuses, Reads, named_causes, typed_causes}
use Rattle.defs_read.specs.Tables.{later_fields, queue_fields, required_fields, type_named}
use Rattle.defs_read.specs.Values.{consumers_of, kind_by, limits_of, queue_of}
use Rattle.defs_read.specs.declared.defs.ConsumerDef.{ConsumerDef}
use Rattle.defs_read.specs.declared.defs.QueueDef.{QueueDef}
use Rattle.defs_read.specs.declared.faults.DefsFault.{DefsFault}
use Rattle.defs_read.specs.declared.faults.DefsFault.TheVariants.{NoMemory}
use Rattle.defs_read.specs.declared.tables.QueueType.{QueueType}
use Rattle.defs_read.specs.declared.tables.QueueType.TheVariants.{Standard, Priority, Sorted, LastValue}
use Rattle.defs_read.proofs.Lists.{front_refuses, front_passes}

pub passed : (cause : Option FieldFault) → passes_unless cause ≡ Ok tt → cause ≡ None
passed None is = refl
passed (Some fault) is = cc

failed : (cause : Option FieldFault) (fault : FieldFault) → passes_unless cause ≡ Err fault → cause ≡ Some fault
failed None fault is = cc
failed (Some other) fault is = cc

-- the fields behind the name
pub behind : (t : QueueType) (fields : List Field) → fields ≡ queue_fields t → take (length fields - 1) (drop 1 fields) ≡ later_fields t
behind Standard fields is = rw is refl
behind Priority fields is = rw is refl
behind Sorted fields is = rw is refl
behind LastValue fields is = rw is refl

-- a queue of the type t
module _ (t : QueueType) (fields required later : List Field) (names : List (List ℕ)) (d : Data)
    (are : fields ≡ queue_fields t) (must : required ≡ required_fields t) (follow : later ≡ later_fields t) where
  pub named_refuses : (fault : DefsFault) → Refuses fault (first_of (named_causes fields required names d)) → Refuses fault (first_of (typed_causes t names d))
  named_refuses fault refused =
      front_refuses fault (named_causes (queue_fields t) (required_fields t) names d) (option_map of_field (values_fault (later_fields t) d) ∷ []) (rw (are, must) at refused)

  named_passes : first_of (named_causes fields required names d) ≡ None → first_of (typed_causes t names d) ≡ first_of (option_map of_field (values_fault (later_fields t) d) ∷ [])
  named_passes none =
      front_passes (named_causes (queue_fields t) (required_fields t) names d) (option_map of_field (values_fault (later_fields t) d) ∷ []) (rw (are, must) at none)

  pub later_refuses : (fault : FieldFault) → first_of (named_causes fields required names d) ≡ None → passes_unless (values_fault later d) ≡ Err fault → Refuses (of_field fault) (first_of (typed_causes t names d))
  later_refuses fault none failure =
      let cause : values_fault (later_fields t) d ≡ Some fault = sym (ap (λ (fs : List Field). values_fault fs d) follow) ∙ failed (values_fault later d) fault failure in
      inr (named_passes none ∙ ap (λ (o : Option FieldFault). first_of (option_map of_field o ∷ [])) cause)

  pub later_passes : first_of (named_causes fields required names d) ≡ None → passes_unless (values_fault later d) ≡ Ok tt → (first_of (typed_causes t names d) ≡ None) × (values_fault (later_fields t) d ≡ None)
  later_passes none success =
      let cause : values_fault (later_fields t) d ≡ None = sym (ap (λ (fs : List Field). values_fault fs d) follow) ∙ passed (values_fault later d) success in
      (named_passes none ∙ ap (λ (o : Option FieldFault). first_of (option_map of_field o ∷ [])) cause, cause)

-- the whole queue
module _ (t : QueueType) (queues consumers : List (List ℕ)) (d : Data) (ds : Items) (is : t ≡ type_named (text_at Kind d)) (list : ds ≡ items_at Consumers d) where
  all_causes : first_of (queue_causes queues consumers d) ≡ first_of (typed_causes t queues d ++ (consumers_fault consumers ds ∷ []))
  all_causes = rw (is, list) refl

  pub typed_refuses : (fault : DefsFault) → Refuses fault (first_of (typed_causes t queues d)) → Refuses fault (first_of (queue_causes queues consumers d))
  typed_refuses fault refused = rw all_causes (front_refuses fault (typed_causes t queues d) (consumers_fault consumers ds ∷ []) refused)

  consumers_left : first_of (typed_causes t queues d) ≡ None → first_of (queue_causes queues consumers d) ≡ first_of (consumers_fault consumers ds ∷ [])
  consumers_left none = all_causes ∙ front_passes (typed_causes t queues d) (consumers_fault consumers ds ∷ []) none

  pub consumers_refuse : (fault : DefsFault) → first_of (typed_causes t queues d) ≡ None → Refuses fault (consumers_fault consumers ds) → Refuses fault (first_of (queue_causes queues consumers d))
  consumers_refuse fault none (inl memory) = inl memory
  consumers_refuse fault none (inr cause) = inr (consumers_left none ∙ ap (λ (o : Option DefsFault). first_of (o ∷ [])) cause)

  pub queue_passes : first_of (typed_causes t queues d) ≡ None → consumers_fault consumers ds ≡ None → first_of (queue_causes queues consumers d) ≡ None
  queue_passes none cause = consumers_left none ∙ ap (λ (o : Option DefsFault). first_of (o ∷ [])) cause

  pub is_queue : (queue : QueueDef) (read : List ConsumerDef) → read ≡ consumers_of (length consumers) ds
      → defined queue ≡ record { name = name_in d; kind = kind_by t d; limits = limits_of d; consumers = read }
      → defined queue ≡ queue_of (length consumers) d
  is_queue queue read told made = made ∙ rw (told, is, list) refl

-- a step that refuses for want of memory alone
pub reads_from : {A : Type 0} (result : Result A DefsFault) (cause : Option DefsFault) (P Q : A → Type 0) → cause ≡ None → ((x : A) → P x → Q x) → MatchResult result P (λ fault. fault ≡ NoMemory) → Reads result cause Q
reads_from result cause P Q none then made = MatchResult-weaker result made (λ x p. (none, then x p)) (λ fault is. inl is)
