-- the causes of a consumer, step by step
use Rattle.std.proofs.Common.{◌≡◌, ℕ, List, [], ◌∷◌, length, Option, None, Result, Ok, ap, ◌∙◌, inl, inr}
use Rattle.std.specs.Prelude.{nat_le, option_map}
use Rattle.std.proofs.lemmas.Result.{MatchResult-weaker}
use Rattle.serde_json.specs.Data.{Data}
use Rattle.fields_read.specs.Faults.{cause_if, passes_unless, values_fault}
use Rattle.fields_read.specs.Forms.{first_of}
use Rattle.fields_read.specs.declared.faults.FieldFault.{FieldFault}
use Rattle.defs_read.specs.Causes.{consumer_causes, most_consumers, of_field, selector_fault}
use Rattle.defs_read.specs.Steps.{Refuses, Reads, named_causes}
use Rattle.defs_read.specs.Tables.{consumer_fields, later_consumer_fields, required_consumer_fields}
use Rattle.defs_read.specs.declared.faults.DefsFault.{DefsFault}
use Rattle.defs_read.specs.declared.faults.DefsFault.TheVariants.{TooManyConsumers}
use Rattle.defs_read.proofs.Lists.{front_passes, stops, passes}
use Rattle.defs_read.proofs.QueueCauses.{passed}

-- a consumer whose name and further fields have no cause
module _ (names : List (List ℕ)) (d : Data) (none : first_of (named_causes consumer_fields required_consumer_fields names d) ≡ None)
    (success : passes_unless (values_fault later_consumer_fields d) ≡ Ok tt) where
  abbrev too_many : Option DefsFault
  too_many = cause_if (nat_le most_consumers (length names)) TooManyConsumers

  selector_left : first_of (consumer_causes names d) ≡ first_of (selector_fault d ∷ too_many ∷ [])
  selector_left =
      front_passes (named_causes consumer_fields required_consumer_fields names d) (option_map of_field (values_fault later_consumer_fields d) ∷ selector_fault d ∷ too_many ∷ []) none
      ∙ ap (λ (o : Option FieldFault). first_of (option_map of_field o ∷ selector_fault d ∷ too_many ∷ [])) (passed (values_fault later_consumer_fields d) success)

  pub selector_refuses : (fault : DefsFault) → Refuses fault (selector_fault d) → Refuses fault (first_of (consumer_causes names d))
  selector_refuses fault refused = rw selector_left (stops fault (selector_fault d) too_many refused)

  refuses_by : (fault : DefsFault) → first_of (consumer_causes names d) ≡ too_many → Refuses fault too_many → Refuses fault (first_of (consumer_causes names d))
  refuses_by fault left (inl memory) = inl memory
  refuses_by fault left (inr is) = inr (left ∙ is)

  -- what its number says is then all that is left
  pub number_left : {A : Type 0} (n : ℕ) (result : Result A DefsFault) (P Q : A → Type 0) → n ≡ length names → selector_fault d ≡ None → ((x : A) → P x → Q x)
      → Reads result (cause_if (nat_le most_consumers n) TooManyConsumers) P → Reads result (first_of (consumer_causes names d)) Q
  number_left n result P Q is selector then read =
      let left : first_of (consumer_causes names d) ≡ too_many = selector_left ∙ passes (selector_fault d) too_many selector in
      MatchResult-weaker result (rw is at read) (λ x said. (left ∙ said.0, then x said.1)) (λ fault said. refuses_by fault left said)
