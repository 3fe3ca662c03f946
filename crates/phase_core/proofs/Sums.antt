-- how much the lines of actors put, one actor after the other
use Rattle.std.proofs.Common.{◌≡◌, ℕ, ◌+◌, cond, List, [], ◌∷◌, map, refl, sym, ap, ◌∙◌}
use Rattle.std.specs.Prelude.{Vec}
use Rattle.std.specs.declared.alloc.Global.{Global}
use Rattle.std.specs.List.{sum_by}
use Rattle.std.proofs.lemmas.List.Sums.{sum_by-append, sum_by-cons}
use Rattle.script_read.specs.Allowed.{ops_in}
use Rattle.script_read.specs.declared.lines.Op.{Op}
use Rattle.workers_core.specs.Jobs.{puts_to}
use Rattle.workers_core.specs.Made.{puts_in}

-- what the actors of a phase put to a queue is the sum of what each does
pub all_lines : (q : ℕ) (actors : List (List ℕ × Vec Op Global)) → sum_by (λ a. puts_in q a.1.items) actors ≡ puts_in q (ops_in (map (λ a. (a.0, a.1.items)) actors))
all_lines q [] = refl
all_lines q (actor ∷ actors) =
    sum_by-cons (λ (a : List ℕ × Vec Op Global). puts_in q a.1.items) actor actors
    ∙ ap (λ (n : ℕ). puts_in q actor.1.items + n) (all_lines q actors)
    ∙ sym (sum_by-append (λ (op : Op). cond {A = ℕ} (puts_to q op.what) 1 0) actor.1.items (ops_in (map (λ a. (a.0, a.1.items)) actors)))
