-- what holds of live entries and a script that go together
use Rattle.std.specs.Prelude.{◌≡◌, ℕ, ◌+◌, ◌≤◌, true, List, length}
use Rattle.std.specs.List.{count_by, list_all}
use Rattle.queue_model.specs.Table.{most_entries}
use Rattle.defs_read.specs.Defined.{Defined}
use Rattle.script_read.specs.Scripts.{is_put_of}
use Rattle.script_read.specs.declared.lines.Op.{Op}
use Rattle.recover_core.specs.declared.kept.Kept.{Kept}
use Rattle.resume_core.specs.Live.{has_queue, lives_as}
use Rattle.resume_core.specs.Lines.{all_puts}

-- no id is put to a queue twice
abbrev pub PutsOnce : List Op → Type 0
PutsOnce ops = (q id : ℕ) → count_by (λ op. is_put_of q id op.what) ops ≤ 1

-- The lines may go on from these live entries: each is of a queue that is defined; no id is twice in a queue, among the
-- live entries and what is put there; and live entries and puts are no more than a run has room for.
pub record CanResume (defs : List Defined) (live : List Kept) (ops : List Op) : Type 0 where
  pub defined : list_all (has_queue defs) live ≡ true
  pub once : (q id : ℕ) → count_by (lives_as defs q id) live + count_by (λ op. is_put_of q id op.what) ops ≤ 1
  pub few : length live + all_puts ops ≤ most_entries
