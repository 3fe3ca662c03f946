-- The code's forms and their stack, as the forms of Reading.antt.
use Rattle.std.specs.Prelude.{ℕ, Bool, true, false, nat_le, List, [], ◌∷◌, box_value}
use Rattle.std.specs.Coded.{Coded, coded_list, codes}
use Rattle.selector_read.specs.declared.begun.Begun.{Begun as Form}
use Rattle.selector_read.specs.declared.begun.Begun.TheVariants as form
use Rattle.selector_read.specs.Trees.{Tree, tree_of}
use Rattle.selector_read.specs.Codes.{tree_code}
use Rattle.selector_read.specs.Reading.{Begun, or_of, and_of, not_of, compare_of, low_of, high_of, math_of, minus_of, plus_of, paren, level, Held}

-- the code's form as a form
abbrev pub begun_of : Form → Begun
begun_of (form.Or a) = or_of (tree_of (box_value a))
begun_of (form.And a) = and_of (tree_of (box_value a))
begun_of form.Not = not_of
begun_of (form.Compare op a) = compare_of op (tree_of (box_value a))
begun_of (form.Low n a) = low_of n (tree_of (box_value a))
begun_of (form.High n a b) = high_of n (tree_of (box_value a)) (tree_of (box_value b))
begun_of (form.Math op a) = math_of op (tree_of (box_value a))
begun_of form.Minus = minus_of
begun_of form.Plus = plus_of
begun_of form.Paren = paren

-- this expression inside these forms
abbrev pub held : List Begun → Tree → Held
held fs e = record { begun = fs; tree = e }

-- the innermost form is ended by an expression that a token of this level follows
abbrev pub may_take : ℕ → List Begun → Bool
may_take l [] = false
may_take l (f ∷ fs) = nat_le l (level f)

-- the innermost form is a BETWEEN that waits for its lower end
abbrev pub waits_low : List Begun → Bool
waits_low [] = false
waits_low (low_of n a ∷ fs) = true
waits_low (f ∷ fs) = false

-- the innermost form is an open parenthesis
abbrev pub waits_close : List Begun → Bool
waits_close [] = false
waits_close (paren ∷ fs) = true
waits_close (f ∷ fs) = false

begun_code : Coded Begun
begun_code = hlevel (codes, tree_code)

pub forms_code : Coded (List Begun)
forms_code = coded_list begun_code
