use Rattle.std.proofs.Common.{◌≡◌, ◌∙◌, ap, sym}
use Rattle.selector_read.specs.Trees.{Tree, tree_of, tree_step, both, either}
use Rattle.selector_read.specs.declared.trees.Expr.TheOpen.{Expr-F}
use Rattle.selector_read.specs.declared.trees.Expr.TheVariants.{rolls-And, rolls-Or}
use Rattle.selector_read.specs.declared.trees.Expr.TheFolds.{fold-roll-Expr}
use Rattle.selector_eval.specs.Evaluation.{value_of}
use Rattle.selector_eval.specs.Values.{truth_in}
use Rattle.selector_eval.proofs.ValueTables.{and_decided, or_decided}
use Rattle.selector_eval.proofs.evaluation.+value_in.Goals as goal

pub returns-in-False : goal.returns-in-False
returns-in-False t c =
    let parts : tree_of c.args.expr.now ≡ both (tree_of c.in-And.left.value) (tree_of c.in-And.right.value) = ap tree_of (c.in-And.is ∙ sym (rolls-And c.in-And.left c.in-And.right)) ∙ fold-roll-Expr Tree tree_step (Expr-F.And c.in-And.left c.in-And.right) in
    rw parts (and_decided (value_of (tree_of c.in-And.left.value) c.args.message.now) (value_of (tree_of c.in-And.right.value) c.args.message.now) c.truth-in-And.result (c.truth-in-And.ensures ∙ ap truth_in (c.value_in-in-And.ensures ∙ ap (λ e. value_of (tree_of e) c.args.message.now) c.deref-in-And.ensures)) c.in-False.is)

pub returns-in-True : goal.returns-in-True
returns-in-True t c =
    let parts : tree_of c.args.expr.now ≡ either (tree_of c.in-Or.left.value) (tree_of c.in-Or.right.value) = ap tree_of (c.in-Or.is ∙ sym (rolls-Or c.in-Or.left c.in-Or.right)) ∙ fold-roll-Expr Tree tree_step (Expr-F.Or c.in-Or.left c.in-Or.right) in
    rw parts (or_decided (value_of (tree_of c.in-Or.left.value) c.args.message.now) (value_of (tree_of c.in-Or.right.value) c.args.message.now) c.truth-in-Or.result (c.truth-in-Or.ensures ∙ ap truth_in (c.value_in-in-Or.ensures ∙ ap (λ e. value_of (tree_of e) c.args.message.now) c.deref-in-Or.ensures)) c.in-True.is)
