-- the first cause for which a journal's live entries and a script don't go together, and its line
use Rattle.std.specs.Prelude.{ℕ, ◌==◌, ◌&&◌, ◌||◌, if◌then◌else◌, Bool, false, not, nat_le, nat_lt, Option, Some, None, option_map, List, [], ◌∷◌, ◌++◌, length}
use Rattle.std.specs.List.{list_all, list_any}
use Rattle.std.specs.Str.{bytes_eq}
use Rattle.queue_model.specs.Table.{most_entries}
use Rattle.fields_read.specs.Forms.{first_of}
use Rattle.fields_read.specs.Faults.{cause_if}
use Rattle.defs_read.specs.Defined.{Defined}
use Rattle.script_read.specs.declared.lines.Op.{Op}
use Rattle.script_read.specs.declared.lines.What.{What}
use Rattle.script_read.specs.declared.lines.What.TheVariants.{Put}
use Rattle.recover_core.specs.declared.kept.Kept.{Kept}
use Rattle.resume_core.specs.Live.{has_queue, lives_as}
use Rattle.resume_core.specs.Lines.{first_line, passing_line}
use Rattle.resume_core.specs.declared.faults.LiveCause.{LiveCause}
use Rattle.resume_core.specs.declared.faults.LiveCause.TheVariants.{JournalQueue, DoubleLive, TooManyEntries, DoubleId}
use Rattle.resume_core.specs.declared.faults.LiveFault.{LiveFault}

-- two live entries have one queue and one id
abbrev pub is_same : Kept → Kept → Bool
is_same j k = (j.message.id == k.message.id) && bytes_eq j.queue k.queue

-- one of these entries, or of those before it, is the same as one that stands before it
abbrev pub has_double : List Kept → List Kept → Bool
has_double before [] = false
has_double before (k ∷ ks) = list_any (is_same k) before || has_double (before ++ k ∷ []) ks

-- the causes that are told at line 1, in their order: they are of the live entries alone
abbrev pub early_causes : List Defined → List Kept → List (Option LiveCause)
early_causes defs live =
    cause_if (not (list_all (has_queue defs) live)) JournalQueue
    ∷ cause_if (has_double [] live) DoubleLive
    ∷ cause_if (nat_lt most_entries (length live)) TooManyEntries
    ∷ []

abbrev pub early_cause : List Defined → List Kept → Option LiveCause
early_cause defs live = first_of (early_causes defs live)

-- the line puts a message whose queue and id are live
abbrev pub puts_live : List Defined → List Kept → What → Bool
puts_live defs live (Put q m) = list_any (lives_as defs q m.id) live
puts_live defs live w = false

-- the first line that does
abbrev pub doubling_line : List Defined → List Kept → List Op → Option ℕ
doubling_line defs live ops = first_line (λ op. puts_live defs live op.what) ops

-- this cause at this line
abbrev pub fault_at : ℕ → LiveCause → LiveFault
fault_at line cause = record { line = line; cause = cause }

-- the first cause at puts, by the line with which there are too many and the first line that puts what is live: at one
-- line the former comes first
abbrev pub put_fault : Option ℕ → Option ℕ → Option LiveFault
put_fault None None = None
put_fault None (Some n) = Some (fault_at n DoubleId)
put_fault (Some m) None = Some (fault_at m TooManyEntries)
put_fault (Some m) (Some n) = Some (if nat_le m n then fault_at m TooManyEntries else fault_at n DoubleId)

-- the first cause, of these definitions, live entries and lines; none where they go together
abbrev pub fault_of : List Defined → List Kept → List Op → Option LiveFault
fault_of defs live ops = first_of (
    option_map (fault_at 1) (early_cause defs live)
    ∷ put_fault (passing_line (length live) ops) (doubling_line defs live ops)
    ∷ [])
