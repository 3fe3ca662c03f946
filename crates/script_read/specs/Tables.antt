-- what a line may do, and the fields that it has for that (docs/SCRIPT.md, "Lines")
use Rattle.std.specs.Prelude.{ℕ, List, [], ◌∷◌, Option, Some, None, codes, if◌then◌else◌}
use Rattle.std.specs.Str.{bytes_eq}
use Rattle.fields_read.specs.declared.fields.Field.{Field}
use Rattle.fields_read.specs.declared.fields.Field.TheVariants as field
use Rattle.script_read.specs.declared.tables.Verb.{Verb}
use Rattle.script_read.specs.declared.tables.Verb.TheVariants.{Put, Take, Close, Ack, Release, Lock, Unlock, Steal, Begin, Commit, Rollback, Rest}

-- what the text `do` says
abbrev pub verb_named : List ℕ → Option Verb
verb_named s = if bytes_eq s (codes "put") then Some Put else (if bytes_eq s (codes "take") then Some Take else (if bytes_eq s (codes "close") then Some Close else (if bytes_eq s (codes "ack") then Some Ack else (if bytes_eq s (codes "release") then Some Release else (if bytes_eq s (codes "lock") then Some Lock else (if bytes_eq s (codes "unlock") then Some Unlock else (if bytes_eq s (codes "steal") then Some Steal else (if bytes_eq s (codes "begin") then Some Begin else (if bytes_eq s (codes "commit") then Some Commit else (if bytes_eq s (codes "rollback") then Some Rollback else (if bytes_eq s (codes "rest") then Some Rest else None)))))))))))

-- the fields that a line may have besides `do`, in order
abbrev pub fields_of : Verb → List Field
fields_of Put = field.Actor ∷ field.Queue ∷ field.Id ∷ field.Persistent ∷ field.Priority ∷ field.Headers ∷ field.Body ∷ []
fields_of Take = field.Actor ∷ field.Consumer ∷ []
fields_of Close = field.Actor ∷ field.Consumer ∷ []
fields_of Ack = field.Actor ∷ field.Queue ∷ field.Id ∷ []
fields_of Release = field.Actor ∷ field.Queue ∷ field.Id ∷ []
fields_of Lock = field.Actor ∷ field.Queue ∷ field.Id ∷ []
fields_of Unlock = field.Actor ∷ field.Queue ∷ field.Id ∷ []
fields_of Steal = field.Actor ∷ field.Queue ∷ field.Id ∷ []
fields_of Begin = field.Actor ∷ []
fields_of Commit = field.Actor ∷ []
fields_of Rollback = field.Actor ∷ []
fields_of Rest = []

-- the fields that must stand besides `do`
abbrev pub required_of : Verb → List Field
required_of Put = field.Actor ∷ field.Queue ∷ field.Id ∷ []
required_of Take = field.Actor ∷ field.Consumer ∷ []
required_of Close = field.Actor ∷ field.Consumer ∷ []
required_of Ack = field.Actor ∷ field.Queue ∷ []
required_of Release = field.Actor ∷ field.Queue ∷ []
required_of Lock = field.Actor ∷ field.Queue ∷ []
required_of Unlock = field.Actor ∷ field.Queue ∷ []
required_of Steal = field.Actor ∷ field.Queue ∷ field.Id ∷ []
required_of Begin = field.Actor ∷ []
required_of Commit = field.Actor ∷ []
required_of Rollback = field.Actor ∷ []
required_of Rest = []

-- the fields of a message that stands by itself
abbrev pub message_fields : List Field
message_fields = field.Id ∷ field.Persistent ∷ field.Priority ∷ field.Headers ∷ field.Body ∷ []

-- the one of them that must stand
abbrev pub message_required : List Field
message_required = field.Id ∷ []
