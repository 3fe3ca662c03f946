-- A tree as the list of its nodes, each behind its parts: by it a proof tells trees apart.
use Rattle.std.specs.Prelude.{◌≡◌, ℕ, ℤ, pos, Bool, List, [], ◌∷◌, Option, refl}
use Rattle.std.proofs.Common.{ap, ◌∙◌}
use Rattle.std.specs.Coded.{Coded, coded_list, code_by, codes}
use Rattle.selector_read.specs.declared.trees.MathOp.{MathOp}
use Rattle.selector_tokens.specs.declared.tokens.CompareOp.{CompareOp}
use Rattle.selector_read.specs.Trees.{Tree, int, text, truth, name, minus, plus, math, compare, between, one_of, like, is_null, negation, both, either}

-- a tree without parts
data Leaf : Type 0 where
  leaf_int : ℤ → Leaf
  leaf_text : List ℕ → Leaf
  leaf_truth : Bool → Leaf
  leaf_name : List ℕ → Leaf
  leaf_one_of : Bool → List ℕ → List (List ℕ) → Leaf
  leaf_like : Bool → List ℕ → List ℕ → Option ℕ → Leaf
  leaf_null : Bool → List ℕ → Leaf

-- a tree, or a form without its parts
data Node : Type 0 where
  leaf : Leaf → Node
  node_minus : Node
  node_plus : Node
  node_math : MathOp → Node
  node_compare : CompareOp → Node
  node_between : Bool → Node
  node_not : Node
  node_and : Node
  node_or : Node

-- the nodes of a tree, and these behind them
abbrev nodes_before : Tree → List Node → List Node
nodes_before (int n) rest = leaf (leaf_int n) ∷ rest
nodes_before (text s) rest = leaf (leaf_text s) ∷ rest
nodes_before (truth b) rest = leaf (leaf_truth b) ∷ rest
nodes_before (name x) rest = leaf (leaf_name x) ∷ rest
nodes_before (minus a) rest = nodes_before a (node_minus ∷ rest)
nodes_before (plus a) rest = nodes_before a (node_plus ∷ rest)
nodes_before (math op a b) rest = nodes_before a (nodes_before b (node_math op ∷ rest))
nodes_before (compare op a b) rest = nodes_before a (nodes_before b (node_compare op ∷ rest))
nodes_before (between n a b c) rest = nodes_before a (nodes_before b (nodes_before c (node_between n ∷ rest)))
nodes_before (one_of n x list) rest = leaf (leaf_one_of n x list) ∷ rest
nodes_before (like n x p e) rest = leaf (leaf_like n x p e) ∷ rest
nodes_before (is_null n x) rest = leaf (leaf_null n x) ∷ rest
nodes_before (negation a) rest = nodes_before a (node_not ∷ rest)
nodes_before (both a b) rest = nodes_before a (nodes_before b (node_and ∷ rest))
nodes_before (either a b) rest = nodes_before a (nodes_before b (node_or ∷ rest))

-- the tree without parts
abbrev of_leaf : Leaf → Tree
of_leaf (leaf_int n) = int n
of_leaf (leaf_text s) = text s
of_leaf (leaf_truth b) = truth b
of_leaf (leaf_name x) = name x
of_leaf (leaf_one_of n x list) = one_of n x list
of_leaf (leaf_like n x p e) = like n x p e
of_leaf (leaf_null n x) = is_null n x

-- one part, two parts and three parts that become one, the last part first
abbrev one_part : (Tree → Tree) → List Tree → List Tree
one_part f [] = []
one_part f (a ∷ parts) = f a ∷ parts

-- two parts become one
abbrev two_parts : (Tree → Tree → Tree) → List Tree → List Tree
two_parts f [] = []
two_parts f (b ∷ []) = []
two_parts f (b ∷ a ∷ parts) = f a b ∷ parts

-- three parts become one
abbrev three_parts : (Tree → Tree → Tree → Tree) → List Tree → List Tree
three_parts f [] = []
three_parts f (c ∷ []) = []
three_parts f (c ∷ b ∷ []) = []
three_parts f (c ∷ b ∷ a ∷ parts) = f a b c ∷ parts

-- the node takes its parts from the front, and stands there with them
abbrev joined : Node → List Tree → List Tree
joined (leaf l) parts = of_leaf l ∷ parts
joined node_minus parts = one_part minus parts
joined node_plus parts = one_part plus parts
joined (node_math op) parts = two_parts (math op) parts
joined (node_compare op) parts = two_parts (compare op) parts
joined (node_between n) parts = three_parts (between n) parts
joined node_not parts = one_part negation parts
joined node_and parts = two_parts both parts
joined node_or parts = two_parts either parts

-- what the nodes make, one after another
abbrev trees : List Node → List Tree → List Tree
trees [] parts = parts
trees (n ∷ ns) parts = trees ns (joined n parts)

-- the tree that was made last
abbrev first_tree : List Tree → Tree
first_tree [] = int (pos 0)
first_tree (t ∷ ts) = t

again : (t : Tree) (rest : List Node) (parts : List Tree) → trees (nodes_before t rest) parts ≡ trees rest (t ∷ parts)
again (int n) rest parts = refl
again (text s) rest parts = refl
again (truth b) rest parts = refl
again (name x) rest parts = refl
again (minus a) rest parts = again a (node_minus ∷ rest) parts
again (plus a) rest parts = again a (node_plus ∷ rest) parts
again (math op a b) rest parts = again a (nodes_before b (node_math op ∷ rest)) parts ∙ again b (node_math op ∷ rest) (a ∷ parts)
again (compare op a b) rest parts = again a (nodes_before b (node_compare op ∷ rest)) parts ∙ again b (node_compare op ∷ rest) (a ∷ parts)
again (between n a b c) rest parts =
    again a (nodes_before b (nodes_before c (node_between n ∷ rest))) parts ∙ (again b (nodes_before c (node_between n ∷ rest)) (a ∷ parts) ∙ again c (node_between n ∷ rest) (b ∷ a ∷ parts))
again (one_of n x list) rest parts = refl
again (like n x p e) rest parts = refl
again (is_null n x) rest parts = refl
again (negation a) rest parts = again a (node_not ∷ rest) parts
again (both a b) rest parts = again a (nodes_before b (node_and ∷ rest)) parts ∙ again b (node_and ∷ rest) (a ∷ parts)
again (either a b) rest parts = again a (nodes_before b (node_or ∷ rest)) parts ∙ again b (node_or ∷ rest) (a ∷ parts)

node_code : Coded Node
node_code = hlevel codes

pub tree_code : Coded Tree
tree_code = code_by (List Node) (coded_list node_code) (λ t. nodes_before t []) (λ ns. first_tree (trees ns [])) (λ t. ap first_tree (again t [] []))
