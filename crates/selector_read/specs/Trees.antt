-- Selectors as trees, without the boxes of `Expr`.
use Rattle.std.specs.Prelude.{ℕ, ℤ, Bool, List, Option, box_value}
use Rattle.selector_read.specs.declared.trees.MathOp.{MathOp}
use Rattle.selector_tokens.specs.declared.tokens.CompareOp.{CompareOp}
use Rattle.selector_read.specs.declared.trees.Expr.{Expr, fold-Expr}
use Rattle.selector_read.specs.declared.trees.Expr.TheOpen.{Expr-F}

-- one case for each variant of `Expr`; a name, a text and a pattern are lists of bytes, and an escape is a character
pub data Tree : Type 0 where
  int : ℤ → Tree
  text : List ℕ → Tree
  truth : Bool → Tree
  name : List ℕ → Tree
  minus : Tree → Tree
  plus : Tree → Tree
  math : MathOp → Tree → Tree → Tree
  compare : CompareOp → Tree → Tree → Tree
  between : Bool → Tree → Tree → Tree → Tree
  one_of : Bool → List ℕ → List (List ℕ) → Tree
  like : Bool → List ℕ → List ℕ → Option ℕ → Tree
  is_null : Bool → List ℕ → Tree
  negation : Tree → Tree
  both : Tree → Tree → Tree
  either : Tree → Tree → Tree

-- one variant, with each part already seen as its tree
abbrev pub tree_step : Expr-F Tree → Tree
tree_step (Expr-F.Int n) = int n
tree_step (Expr-F.Text s) = text s
tree_step (Expr-F.Bool b) = truth b
tree_step (Expr-F.Name s) = name s
tree_step (Expr-F.Minus e) = minus (box_value e)
tree_step (Expr-F.Plus e) = plus (box_value e)
tree_step (Expr-F.Math op l r) = math op (box_value l) (box_value r)
tree_step (Expr-F.Compare op l r) = compare op (box_value l) (box_value r)
tree_step (Expr-F.Between negated v l h) = between negated (box_value v) (box_value l) (box_value h)
tree_step (Expr-F.OneOf negated n list) = one_of negated n list.items
tree_step (Expr-F.Like negated n p escape) = like negated n p escape
tree_step (Expr-F.IsNull negated n) = is_null negated n
tree_step (Expr-F.Not e) = negation (box_value e)
tree_step (Expr-F.And l r) = both (box_value l) (box_value r)
tree_step (Expr-F.Or l r) = either (box_value l) (box_value r)

-- the code's expression as a tree
abbrev pub tree_of : Expr → Tree
tree_of = fold-Expr Tree tree_step
