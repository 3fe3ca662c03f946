-- a line that was accepted names what is defined
use Rattle.std.proofs.Common.{◌≡◌, ℕ, ◌<◌, Bool, true, false, cond, not, List, [], ◌∷◌, length, Option, Some, None, Ok, Err, refl, sym, ap, ◌∙◌}
use Rattle.std.specs.Prelude.{◌&&◌, ◌||◌, if◌then◌else◌, nat_lt, is_some, option_map, unwrap_or, slice_get}
use Rattle.std.specs.List.{find, position, position_or_len}
use Rattle.std.specs.Str.{bytes_eq}
use Rattle.std.proofs.lemmas.List.Folds.{find_at}
use Rattle.std.proofs.lemmas.List.Quantifiers.{position-Some}
use Rattle.std.proofs.lemmas.Slice.Eq.{bytes_eq-Decides}
use Rattle.serde_json.specs.Data.{Data}
use Rattle.fields_read.specs.Faults.{cause_if, lacks, presence_fault, has_unknown}
use Rattle.fields_read.specs.Fields.{text_at, value_at}
use Rattle.fields_read.specs.Forms.{first_of}
use Rattle.fields_read.specs.Json.{json_of}
use Rattle.fields_read.specs.declared.fields.Field.TheVariants.{Do, Actor, Queue, Consumer, Id}
use Rattle.fields_read.specs.declared.faults.FieldFault.{FieldFault}
use Rattle.fields_read.specs.declared.faults.FieldFault.TheVariants.{UnknownField, MissingField}
use Rattle.defs_read.specs.Causes.{is_object, longest_line}
use Rattle.defs_read.specs.Defined.{Defined, consumers_in}
use Rattle.defs_read.specs.declared.defs.ConsumerDef.{ConsumerDef}
use Rattle.defs_read.proofs.NoCauses.{no_cause}
use Rattle.script_read.specs.Allowed.{HasConsumer, IsDefined}
use Rattle.script_read.specs.Causes.{consumer_named, line_fault, of_field, queue_named, verb_causes, verb_fault, verb_in}
use Rattle.script_read.specs.Reading.{json_says, line_says, unless}
use Rattle.script_read.specs.Tables.{fields_of, required_of}
use Rattle.script_read.specs.Values.{consumer_number, line_by, line_in, queue_number}
use Rattle.script_read.specs.declared.faults.LineFault.{LineFault}
use Rattle.script_read.specs.declared.faults.LineFault.TheVariants as fault
use Rattle.script_read.specs.declared.lines.Line.{Line}
use Rattle.script_read.specs.declared.lines.Line.TheVariants.{Rest, Doing}
use Rattle.script_read.specs.declared.tables.Verb.{Verb}
use Rattle.script_read.specs.declared.tables.Verb.TheVariants as verb

-- what a line names is defined, and a consumer is its actor's
abbrev pub IsDefinedLine : List Defined → Line → Type 0
IsDefinedLine queues Rest = Unit {0}
IsDefinedLine queues (Doing op) = IsDefined queues op.actor op.what

-- ---- the value that a line says, and its verb

-- the value has no cause, and says the line
pub record Says (queues : List Defined) (n : ℕ) (l : Line) : Type 0 where
  pub value : Data
  pub verb : Verb
  pub none : first_of (verb_causes queues value verb) ≡ None
  pub line : l ≡ line_by queues n value verb

unless_ok : {A : Type 0} (cause : Option LineFault) (x y : A) → unless cause x ≡ Ok y → (cause ≡ None) × (x ≡ y)
unless_ok None x y is = (refl, cc)
unless_ok (Some other) x y is = cc

has_value : (queues : List Defined) (n : ℕ) (l : Line) (long : Bool) (o : Option Data) → (if long then Err fault.LineTooLong else json_says (line_fault queues) (line_in queues n) o) ≡ Ok l
    → (d : Data) × ((line_fault queues d ≡ None) × (line_in queues n d ≡ l))
has_value queues n l true o is = absurd (cc)
has_value queues n l false None is = absurd (cc)
has_value queues n l false (Some d) is = (d, unless_ok (line_fault queues d) (line_in queues n d) l is)

has_verb : (queues : List Defined) (d : Data) (w : Option Verb) → verb_fault queues d w ≡ None → (v : Verb) × ((w ≡ Some v) × (first_of (verb_causes queues d v) ≡ None))
has_verb queues d None none = absurd (cc)
has_verb queues d (Some v) none = (v, (refl, none))

verb_none : (queues : List Defined) (d : Data) → line_fault queues d ≡ None → verb_fault queues d (verb_in d) ≡ None
verb_none queues d none = no_cause (cause_if (not (is_object d)) fault.BadValue ∷ cause_if (not (is_some (value_at Do d))) fault.MissingField ∷ verb_fault queues d (verb_in d) ∷ []) 2 none

by_verb : (queues : List Defined) (n : ℕ) (d : Data) (v : Verb) → verb_in d ≡ Some v → line_in queues n d ≡ line_by queues n d v
by_verb queues n d v is = rw is refl

pub says : (queues : List Defined) (n : ℕ) (text : List ℕ) (l : Line) → line_says queues n text ≡ Ok l → Says queues n l
says queues n text l is =
    let value = has_value queues n l (nat_lt longest_line (length text)) (json_of text) is in
    let d : Data = value.0 in
    let v = has_verb queues d (verb_in d) (verb_none queues d value.1.0) in
    record { value = d; verb = v.0; none = v.1.1; line = sym value.1.1 ∙ by_verb queues n d v.0 v.1.0 }

-- ---- what it names

second : (a b c : Bool) → (a || (b || c)) ≡ false → b ≡ false
second true b c none = cc
second false true c none = cc
second false false c none = refl

-- what stands and isn't unknown is found
is_found : (there found : Bool) (cause : LineFault) → not there ≡ false → cause_if (there && not found) cause ≡ None → found ≡ true
is_found false found cause stands known = cc
is_found true false cause stands known = cc
is_found true true cause stands known = refl

position_within : (p : Defined → Bool) (xs : List Defined) (i : ℕ) → position p xs ≡ Some i → i < length xs
position_within p [] i found = cc
position_within p (x ∷ xs) i found = (position-Some p (x ∷ xs) i x found).0

within : (p : Defined → Bool) (xs : List Defined) (o : Option ℕ) → position p xs ≡ o → is_some o ≡ true → unwrap_or o 0 < length xs
within p xs None is there = cc
within p xs (Some i) is there = position_within p xs i is

queue_within : (queues : List Defined) (d : Data) → is_some (queue_named queues d) ≡ true → queue_number queues d < length queues
queue_within queues d there = within (λ q. bytes_eq q.name (unwrap_or (text_at Queue d) [])) queues (queue_named queues d) refl there

find_passes : (p : ConsumerDef → Bool) (xs : List ConsumerDef) (c : ConsumerDef) → find p xs ≡ Some c → p c ≡ true
find_passes p [] c found = cc
find_passes p (x ∷ xs) c found = by_test (p x) refl (find_passes p xs c) found
  where
    by_test : (b : Bool) → p x ≡ b → (find p xs ≡ Some c → p c ≡ true) → cond b (Some x) (find p xs) ≡ Some c → p c ≡ true
    by_test true is later same = let e : x ≡ c = cc in sym (ap p e) ∙ is
    by_test false is later same = later same

both : (a b : Bool) → (a && b) ≡ true → b ≡ true
both true b is = is
both false b is = cc

-- consumers are numbered in order
module _ (queues : List Defined) (numbered : (i : ℕ) (c : ConsumerDef) → slice_get (consumers_in queues) i ≡ Some c → c.number ≡ i) where
  is_own : (d : Data) (o : Option ConsumerDef) → find (λ c. bytes_eq c.name (unwrap_or (text_at Consumer d) []) && bytes_eq c.actor (unwrap_or (text_at Actor d) [])) (consumers_in queues) ≡ o
      → is_some (option_map (λ c. c.number) o) ≡ true → HasConsumer queues (unwrap_or (text_at Actor d) []) (unwrap_or (option_map (λ c. c.number) o) 0)
  is_own d None found there = absurd (cc)
  is_own d (Some c) found there =
      let test : ConsumerDef → Bool = λ c. bytes_eq c.name (unwrap_or (text_at Consumer d) []) && bytes_eq c.actor (unwrap_or (text_at Actor d) []) in
      let at : slice_get (consumers_in queues) (position_or_len test (consumers_in queues)) ≡ Some c = sym (find_at test (consumers_in queues)) ∙ found in
      let here : slice_get (consumers_in queues) c.number ≡ Some c = ap (slice_get (consumers_in queues)) (numbered (position_or_len test (consumers_in queues)) c at) ∙ at in
      let own : c.actor ≡ unwrap_or (text_at Actor d) [] = (bytes_eq-Decides c.actor (unwrap_or (text_at Actor d) [])).0 (both (bytes_eq c.name (unwrap_or (text_at Consumer d) [])) (bytes_eq c.actor (unwrap_or (text_at Actor d) [])) (find_passes test (consumers_in queues) c found)) in
      rw here own

  consumer_there : (d : Data) → is_some (consumer_named queues d) ≡ true → HasConsumer queues (unwrap_or (text_at Actor d) []) (consumer_number queues d)
  consumer_there d there = is_own d (find (λ c. bytes_eq c.name (unwrap_or (text_at Consumer d) []) && bytes_eq c.actor (unwrap_or (text_at Actor d) [])) (consumers_in queues)) refl there

  module _ (d : Data) (v : Verb) (none : first_of (verb_causes queues d v) ≡ None) where
    unmapped : (c : Option FieldFault) → option_map of_field c ≡ None → c ≡ None
    unmapped None e = refl
    unmapped (Some c) e = cc

    stand : lacks (required_of v) d ≡ false
    stand = untested (lacks (required_of v) d) (no_cause (cause_if (has_unknown (Do ∷ fields_of v) d) UnknownField ∷ cause_if (lacks (required_of v) d) MissingField ∷ []) 1 (unmapped (presence_fault (Do ∷ fields_of v) (required_of v) d) (no_cause (verb_causes queues d v) 0 none)))
      where
        untested : (b : Bool) → cause_if b MissingField ≡ None → b ≡ false
        untested true e = cc
        untested false e = refl

    queue_known : not (is_some (value_at Queue d)) ≡ false → queue_number queues d < length queues
    queue_known stands = queue_within queues d (is_found (is_some (value_at Queue d)) (is_some (queue_named queues d)) fault.UnknownQueue stands (no_cause (verb_causes queues d v) 2 none))

    consumer_known : not (is_some (value_at Consumer d)) ≡ false → HasConsumer queues (unwrap_or (text_at Actor d) []) (consumer_number queues d)
    consumer_known stands = consumer_there d (is_found (is_some (value_at Consumer d)) (is_some (consumer_named queues d)) fault.UnknownConsumer stands (no_cause (verb_causes queues d v) 3 none))

  named : (n : ℕ) (d : Data) (v : Verb) → first_of (verb_causes queues d v) ≡ None → IsDefinedLine queues (line_by queues n d v)
  named n d verb.Put none = queue_known d verb.Put none (second (not (is_some (value_at Actor d))) (not (is_some (value_at Queue d))) (not (is_some (value_at Id d)) || false) (stand d verb.Put none))
  named n d verb.Take none = consumer_known d verb.Take none (second (not (is_some (value_at Actor d))) (not (is_some (value_at Consumer d))) false (stand d verb.Take none))
  named n d verb.Close none = consumer_known d verb.Close none (second (not (is_some (value_at Actor d))) (not (is_some (value_at Consumer d))) false (stand d verb.Close none))
  named n d verb.Ack none = queue_known d verb.Ack none (second (not (is_some (value_at Actor d))) (not (is_some (value_at Queue d))) false (stand d verb.Ack none))
  named n d verb.Release none = queue_known d verb.Release none (second (not (is_some (value_at Actor d))) (not (is_some (value_at Queue d))) false (stand d verb.Release none))
  named n d verb.Lock none = queue_known d verb.Lock none (second (not (is_some (value_at Actor d))) (not (is_some (value_at Queue d))) false (stand d verb.Lock none))
  named n d verb.Unlock none = queue_known d verb.Unlock none (second (not (is_some (value_at Actor d))) (not (is_some (value_at Queue d))) false (stand d verb.Unlock none))
  named n d verb.Steal none = queue_known d verb.Steal none (second (not (is_some (value_at Actor d))) (not (is_some (value_at Queue d))) (not (is_some (value_at Id d)) || false) (stand d verb.Steal none))
  named n d verb.Begin none = tt
  named n d verb.Commit none = tt
  named n d verb.Rollback none = tt
  named n d verb.Rest none = tt

  pub defined_line : (n : ℕ) (text : List ℕ) (l : Line) → line_says queues n text ≡ Ok l → IsDefinedLine queues l
  defined_line n text l is = let s = says queues n text l is in rw s.line (named n s.value s.verb s.none)
