-- what may be run
use Rattle.std.proofs.Common.{◌≡◌, ℕ, Bool, true, false, not, cond, Option, Some, None, List, [], ◌∷◌, filter, map, refl, sym, ap, ◌∙◌}
use Rattle.std.proofs.lemmas.Bool.{cases_eq}
use Rattle.std.specs.List.{list_all}
use Rattle.script_read.specs.Allowed.{all_ops}
use Rattle.script_read.specs.declared.lines.Op.{Op}
use Rattle.broker_top.specs.Built.{is_built_line, is_built_queue}
use Rattle.broker_top.specs.Job.{Script, first_unbuilt}
use Rattle.broker_top.specs.Sooner.{first_line, least, sooner}

abbrev unbuilt : Op → Bool
unbuilt op = not (is_built_line op.what)

-- where a line was found there is one
some_first : (n : ℕ) (o : Option ℕ) → sooner (Some n) o ≡ None → ⊥
some_first n None e = absurd (cc)
some_first n (Some m) e = absurd (cc)

-- where none was found, all are built
none_first : (ops : List Op) → first_line unbuilt ops ≡ None → list_all (λ op. is_built_line op.what) ops ≡ true
none_first [] e = refl
none_first (op ∷ ops) e = by_test (is_built_line op.what) refl (none_first ops) e where
  by_test : (b : Bool) → is_built_line op.what ≡ b → (first_line unbuilt ops ≡ None → list_all (λ (o : Op). is_built_line o.what) ops ≡ true)
      → least (map (λ (o : Op). o.line) (cond (not b) (op ∷ filter unbuilt ops) (filter unbuilt ops))) ≡ None → list_all (λ (o : Op). is_built_line o.what) (op ∷ ops) ≡ true
  by_test true is rest h = rw is (rest h)
  by_test false is rest h = absurd (some_first op.line (first_line unbuilt ops) h)

pub all_built : (n : ℕ) (s : Script) → first_unbuilt n s ≡ None → (list_all is_built_queue s.defs ≡ true) × (list_all (λ op. is_built_line op.what) (all_ops s.phases) ≡ true)
all_built n s e = by_test (list_all is_built_queue s.defs) refl e where
  by_test : (b : Bool) → list_all is_built_queue s.defs ≡ b → cond b (first_line unbuilt (all_ops s.phases)) (Some n) ≡ None → (list_all is_built_queue s.defs ≡ true) × (list_all (λ op. is_built_line op.what) (all_ops s.phases) ≡ true)
  by_test true is h = (is, none_first (all_ops s.phases) h)
  by_test false is h = absurd (cc)
