-- The same pass, later and later.
use Rattle.std.proofs.Common.{refl, ◌∙◌}
use Rattle.commit_table.specs.declared.pass.CommitPass.{CommitPass}
use Rattle.commit_table.specs.Tables.{Same}

pub same_self : (p : CommitPass) → Same p p
same_self p = record { table = refl; caller = refl; begun = refl; callers = refl; made = refl }

pub same_then : (a b c : CommitPass) → Same a b → Same b c → Same a c
same_then a b c p q = record { table = q.table ∙ p.table; caller = q.caller ∙ p.caller; begun = q.begun ∙ p.begun; callers = q.callers ∙ p.callers; made = q.made ∙ p.made }
