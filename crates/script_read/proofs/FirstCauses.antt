-- the first cause that a line has beside those before it
use Rattle.std.proofs.Common.{◌≡◌, Bool, true, false, not, ◌&&◌, List, [], ◌∷◌, ◌++◌, Option, Some, None, Result, Err, refl}
use Rattle.fields_read.specs.Forms.{first_of}
use Rattle.fields_read.specs.Faults.{cause_if}
use Rattle.script_read.specs.declared.faults.LineFault.{LineFault}
use Rattle.script_read.specs.declared.faults.LineFault.TheVariants.{LineTooLong, NotJson, BadValue, MissingField, UnknownField, FloatNumber, UnknownQueue, UnknownConsumer, TooLong, NoJournal, DoubleId, TooManyActors, NoMemory}
use Rattle.script_read.specs.Reading.{Gives}

-- the first of some causes, and of these and one more

pub first_there : (causes more : List (Option LineFault)) (cause : LineFault) → first_of causes ≡ Some cause → first_of (causes ++ more) ≡ Some cause
first_there [] more cause e = absurd (cc)
first_there (None ∷ causes) more cause e = first_there causes more cause e
first_there (Some c ∷ causes) more cause e = e

pub first_behind : (causes more : List (Option LineFault)) → first_of causes ≡ None → first_of (causes ++ more) ≡ first_of more
first_behind [] more e = refl
first_behind (None ∷ causes) more e = first_behind causes more e
first_behind (Some c ∷ causes) more e = absurd (cc)

-- what a line is answered with that is refused, unless memory runs out
pub gives_cause : {A : Type 0} (cause : LineFault) (said : Result A LineFault) → Gives (Err cause) said → (cause ≡ NoMemory → ⊥) → said ≡ Err cause
gives_cause NoMemory said g other = absurd (other refl)
gives_cause LineTooLong said g other = g
gives_cause NotJson said g other = g
gives_cause BadValue said g other = g
gives_cause MissingField said g other = g
gives_cause UnknownField said g other = g
gives_cause FloatNumber said g other = g
gives_cause UnknownQueue said g other = g
gives_cause UnknownConsumer said g other = g
gives_cause TooLong said g other = g
gives_cause NoJournal said g other = g
gives_cause DoubleId said g other = g
gives_cause TooManyActors said g other = g

-- the two causes of a put

pub double_id : (a b : Bool) → a ≡ false → b ≡ true → ◌≡◌ {A = Option LineFault} (Some DoubleId) (first_of (cause_if a NoJournal ∷ cause_if b DoubleId ∷ []))
double_id true b p q = absurd (cc)
double_id false true p q = refl
double_id false false p q = absurd (cc)

pub no_put_cause : (a b : Bool) → a ≡ false → b ≡ false → ◌≡◌ {A = Option LineFault} None (first_of (cause_if a NoJournal ∷ cause_if b DoubleId ∷ []))
no_put_cause true b p q = absurd (cc)
no_put_cause false true p q = absurd (cc)
no_put_cause false false p q = refl

pub journal_there : (persistent journal : Bool) → journal ≡ true → (persistent && not journal) ≡ false
journal_there true true e = refl
journal_there true false e = absurd (cc)
journal_there false journal e = refl

pub not_persistent : (persistent journal : Bool) → persistent ≡ false → (persistent && not journal) ≡ false
not_persistent true journal e = absurd (cc)
not_persistent false journal e = refl
