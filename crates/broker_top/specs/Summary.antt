-- the summary of a run: what is counted over the accounts of its phases (docs/SCRIPT.md, "The command `gen`")
use Rattle.std.specs.Prelude.{ℕ, ◌+◌, ◌<◌, ◌^◌, Bool, true, false, if◌then◌else◌, List, ◌∷◌, ◌++◌, codes, flat_map, length}
use Rattle.std.specs.Fmt.{decimal}
use Rattle.std.specs.List.{count_by, sum_by}
use Rattle.queue_model.specs.declared.rows.Row.{Row}
use Rattle.defs_read.specs.Defined.{Defined}
use Rattle.script_read.specs.declared.lines.Op.{Op}
use Rattle.script_read.specs.declared.lines.What.{What}
use Rattle.script_read.specs.declared.lines.What.TheVariants.{Put}
use Rattle.report_core.specs.declared.answers.Answer.{Answer}
use Rattle.report_core.specs.declared.answers.Answer.TheVariants.{Accepted, Got, Acked}
use Rattle.account_core.specs.Accounts.{Account}
use Rattle.account_core.specs.Phases.{nothing, rows_after}
use Rattle.account_core.specs.Stories.{told}
use Rattle.broker_top.specs.declared.tally.Tally.{Tally}

-- Answers

-- the lines of a phase with their answers, actor for actor, and those of a run
abbrev pub answers_in : Account → List (ℕ × Answer)
answers_in a = flat_map (λ s. told s.ops s.answers) a.stories

abbrev pub all_answers : List Account → List (ℕ × Answer)
all_answers accounts = flat_map answers_in accounts

-- a message was put, was got, was acknowledged
abbrev pub is_ok : Answer → Bool
is_ok (Accepted id flowed dropped) = true
is_ok answer = false

abbrev pub is_got : Answer → Bool
is_got (Got id n) = true
is_got answer = false

abbrev pub is_acked : Answer → Bool
is_acked (Acked id) = true
is_acked answer = false

-- how many of these lines have an answer of this sort
abbrev pub answered : (Answer → Bool) → List (ℕ × Answer) → ℕ
answered sort lines = count_by (λ line. sort line.1) lines

-- the three counts of lines
abbrev pub counted : List (ℕ × Answer) → Tally
counted lines = record { put = answered is_ok lines; got = answered is_got lines; acked = answered is_acked lines }

-- Entries and bytes

-- how many rows stand in these lists
abbrev pub entries_in : List (List Row) → ℕ
entries_in rows = sum_by (λ queue. length queue) rows

-- how many entries are left when a run has ended: those with which a next phase would open
abbrev pub entries_after : List Defined → List Account → ℕ
entries_after defs accounts = entries_in (rows_after (nothing defs) accounts)

-- how many bytes the body has of the message that a line put
abbrev pub bytes_of : What → Answer → ℕ
bytes_of (Put q m) answer = if is_ok answer then length m.body else 0
bytes_of what answer = 0

-- and those of all lines of an actor, of a phase and of a run
abbrev pub bytes_put : List Op → List Answer → ℕ
bytes_put (op ∷ ops) (a ∷ answers) = bytes_of op.what a + bytes_put ops answers
bytes_put ops answers = 0

abbrev pub bytes_in : Account → ℕ
bytes_in a = sum_by (λ s. bytes_put s.ops s.answers) a.stories

abbrev pub all_bytes : List Account → ℕ
all_bytes accounts = sum_by bytes_in accounts

-- The line

-- the line that tells the counts of a script that was made of this number for so many messages
abbrev pub summary_line : ℕ → ℕ → Tally → ℕ → ℕ → List ℕ
summary_line number count t left bytes =
    codes "gen " ++ (decimal number ++ (codes " " ++ (decimal count
    ++ (codes ": put " ++ (decimal t.put ++ (codes " got " ++ (decimal t.got ++ (codes " acked " ++ (decimal t.acked
    ++ (codes " left " ++ (decimal left ++ (codes " bytes " ++ (decimal bytes ++ codes "\n")))))))))))))

-- the summary of the run that had these accounts
abbrev pub summary : List Defined → ℕ → ℕ → List Account → List ℕ
summary defs number count accounts =
    summary_line number count (counted (all_answers accounts)) (entries_after defs accounts) (all_bytes accounts)

-- Sums of counts

abbrev pub nothing_counted : Tally
nothing_counted = record { put = 0; got = 0; acked = 0 }

abbrev pub plus : Tally → Tally → Tally
plus s t = record { put = s.put + t.put; got = s.got + t.got; acked = s.acked + t.acked }

-- each count stays below 2 to the 64, where so many lines are counted more
pub record HasRoom (t : Tally) (many : ℕ) : Type 0 where
  pub put : t.put + many < 2 ^ 64
  pub got : t.got + many < 2 ^ 64
  pub acked : t.acked + many < 2 ^ 64
