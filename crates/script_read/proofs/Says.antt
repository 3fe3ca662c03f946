-- what a text says, where its parts were read one after the other
use Rattle.std.proofs.Common.{◌≡◌, ℕ, List, Bool, true, false, Option, Some, None, Result, Ok, Err, refl, ap}
use Rattle.std.specs.Prelude.{if◌then◌else◌, length, nat_lt}
use Rattle.std.specs.Option.{ok_or}
use Rattle.serde_json.specs.Data.{Data}
use Rattle.fields_read.specs.Json.{json_of}
use Rattle.defs_read.specs.Causes.{longest_line}
use Rattle.defs_read.specs.Defined.{Defined}
use Rattle.message_core.specs.Spelling.{Content}
use Rattle.script_read.specs.Causes.{verb_in}
use Rattle.script_read.specs.Parts.{value_said}
use Rattle.script_read.specs.Reading.{Gives, unless, json_says, text_says}
use Rattle.script_read.specs.Values.{line_by, line_in}
use Rattle.script_read.specs.declared.faults.LineFault.{LineFault}
use Rattle.script_read.specs.declared.faults.LineFault.TheVariants.{LineTooLong, NotJson, BadValue, MissingField, UnknownField, FloatNumber, UnknownQueue, UnknownConsumer, TooLong, NoJournal, DoubleId, TooManyActors, NoMemory}
use Rattle.script_read.specs.declared.lines.What.TheVariants as what
use Rattle.script_read.specs.declared.tables.Verb.{Verb}

-- ---- refusals

-- the first cause is told
pub told : {A : Type 0} (fault : LineFault) (said : Result A LineFault) → said ≡ Err fault → Gives (Err fault) said
told LineTooLong said is = is
told NotJson said is = is
told BadValue said is = is
told MissingField said is = is
told UnknownField said is = is
told FloatNumber said is = is
told UnknownQueue said is = is
told UnknownConsumer said is = is
told TooLong said is = is
told NoJournal said is = is
told DoubleId said is = is
told TooManyActors said is = is
told NoMemory said is = tt

-- a part's first cause is that of the whole
pub passed_on : {A B : Type 0} (fault : LineFault) (part : Result A LineFault) (whole : Result B LineFault) → (part ≡ Err fault → whole ≡ Err fault) → Gives (Err fault) part → Gives (Err fault) whole
passed_on LineTooLong part whole on is = on is
passed_on NotJson part whole on is = on is
passed_on BadValue part whole on is = on is
passed_on MissingField part whole on is = on is
passed_on UnknownField part whole on is = on is
passed_on FloatNumber part whole on is = on is
passed_on UnknownQueue part whole on is = on is
passed_on UnknownConsumer part whole on is = on is
passed_on TooLong part whole on is = on is
passed_on NoJournal part whole on is = on is
passed_on DoubleId part whole on is = on is
passed_on TooManyActors part whole on is = on is
passed_on NoMemory part whole on is = tt

-- an Err of the one is an Err of the other
pub same_refusal : {A B : Type 0} (cause : Option LineFault) (x : A) (y : B) (fault : LineFault) → unless cause x ≡ Err fault → unless cause y ≡ Err fault
same_refusal None x y fault is = cc
same_refusal (Some other) x y fault is = cc

pub same_value : {A B : Type 0} (cause : Option LineFault) (x z : A) (y : B) → unless cause x ≡ Ok z → unless cause y ≡ Ok y
same_value None x z y is = refl
same_value (Some other) x z y is = cc

pub value_is : {A : Type 0} (cause : Option LineFault) (x z : A) → unless cause x ≡ Ok z → x ≡ z
value_is None x z is = cc
value_is (Some other) x z is = cc

-- a put of the message that was said
pub put_said : (cause : Option LineFault) (q : ℕ) (m n : Content) → unless cause m ≡ Ok n → unless cause (Some (what.Put q m)) ≡ Ok (Some (what.Put q n))
put_said None q m n is = ap (λ (m : Content). Ok (Some (what.Put q m))) (value_is None m n is)
put_said (Some other) q m n is = cc

-- ---- texts

text_by : {A : Type 0} (long : Bool) (o : Option Data) (d : Data) (fault : Data → Option LineFault) (value : Data → A) → (if long then Err LineTooLong else ok_or o NotJson) ≡ Ok d → (if long then Err LineTooLong else json_says fault value o) ≡ unless (fault d) (value d)
text_by true o d fault value is = cc
text_by false None d fault value is = cc
text_by false (Some e) d fault value is = let same : e ≡ d = cc in ap (λ (e : Data). unless (fault e) (value e)) same

no_text_by : {A : Type 0} (long : Bool) (o : Option Data) (why : LineFault) (fault : Data → Option LineFault) (value : Data → A) → (if long then Err LineTooLong else ok_or o NotJson) ≡ Err why → (if long then Err LineTooLong else json_says fault value o) ≡ Err why
no_text_by true o why fault value is = cc
no_text_by false None why fault value is = cc
no_text_by false (Some e) why fault value is = cc

pub text_is : {A : Type 0} (text : List ℕ) (d : Data) (fault : Data → Option LineFault) (value : Data → A) → value_said text ≡ Ok d → text_says fault value text ≡ unless (fault d) (value d)
text_is text d fault value is = text_by (nat_lt longest_line (length text)) (json_of text) d fault value is

pub no_text : {A : Type 0} (text : List ℕ) (why : LineFault) (fault : Data → Option LineFault) (value : Data → A) → value_said text ≡ Err why → text_says fault value text ≡ Err why
no_text text why fault value is = no_text_by (nat_lt longest_line (length text)) (json_of text) why fault value is

-- ---- lines

pub line_of_verb : (queues : List Defined) (n : ℕ) (d : Data) (v : Verb) → verb_in d ≡ Some v → line_in queues n d ≡ line_by queues n d v
line_of_verb queues n d v is = rw is refl
