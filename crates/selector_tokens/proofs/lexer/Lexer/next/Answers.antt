use Rattle.std.proofs.Common.{◌≡◌, ◌∙◌, ℕ, ◌<◌, ◌≤◌, ◌+◌, length, sym, refl, arith, false, eqb, Bool}
use Rattle.std.proofs.lemmas.Bool.{eqb-false}
use Rattle.std.proofs.lemmas.List.{take_rest, length-drop}
use Rattle.selector_tokens.proofs.Lexed.{at_end, at_fault, at_found, found_within}
use Rattle.selector_tokens.proofs.lexer.Lexer.next.Goals as goal
use Rattle.selector_tokens.proofs.lexer.Lexer.next.Goals.{In-Ok}

pub returns-then-is_empty-clause-next : goal.returns-then-is_empty-clause-next
returns-then-is_empty-clause-next c =
    let lexer = c.skip_space.new.self in
    let none = rw (take_rest lexer.text.now lexer.at) at (sym c.is_empty.ensures ∙ c.if-is_empty.true) in
    (sym c.skip_space.ensures.ahead ∙ rw (← c.skip_space.ensures.text) (at_end lexer.text.now lexer.at lexer.close lexer.within c.skip_space.ensures.passed none), c.skip_space.ensures.ahead)

-- a text that is not empty has a byte
some_left : (n : ℕ) (b : Bool) → b ≡ eqb n 0 → b ≡ false → 0 < n
some_left n b test fails = let ne = eqb-false n 0 (sym test ∙ fails) in omega arith

-- the token lies within the text
within : (c : In-Ok) → (0 < c.in-Ok.field-0.takes) × (c.skip_space.new.self.at + c.in-Ok.field-0.takes ≤ length c.skip_space.new.self.text.now)
within c =
    let lexer = c.skip_space.new.self in
    let some = rw (take_rest lexer.text.now lexer.at) at (some_left _ _ c.is_empty.ensures c.if-is_empty.false) in
    let first = rw (take_rest lexer.text.now lexer.at) at c.in-Ok.ensures in
    found_within lexer.text.now lexer.at lexer.close lexer.within c.skip_space.ensures.passed c.in-Ok.field-0.token c.in-Ok.field-0.takes some first

pub overflow_add-self : goal.overflow_add-self
overflow_add-self c = let w = within c in omega arith

pub invariant_of-self : goal.invariant_of-self
invariant_of-self c = record { within = (within (goal.at.invariant_of-self c).In-Ok).1 }

pub returns-in-Ok-clause-next : goal.returns-in-Ok-clause-next
returns-in-Ok-clause-next c =
    let lexer = c.skip_space.new.self in
    let some = rw (take_rest lexer.text.now lexer.at) at (some_left _ _ c.is_empty.ensures c.if-is_empty.false) in
    let first = rw (take_rest lexer.text.now lexer.at) at c.in-Ok.ensures in
    sym c.skip_space.ensures.ahead ∙ at_found lexer.text.now lexer.at lexer.close lexer.within c.skip_space.ensures.passed c.in-Ok.field-0.token c.in-Ok.field-0.takes some first
    ∙ rw c.is_number-self.ensures refl

pub returns-in-Ok-clause-fewer : goal.returns-in-Ok-clause-fewer
returns-in-Ok-clause-fewer c =
    let lexer = c.skip_space.new.self in
    let w = within (goal.at.returns-in-Ok-clause-fewer c).In-Ok in
    omega (arith, w.0, w.1, c.skip_space.ensures.left, length-drop lexer.at lexer.text.now, length-drop (lexer.at + c.in-Ok.field-0.takes) lexer.text.now)

pub returns-in-Err-Fault-clause-next : goal.returns-in-Err-Fault-clause-next
returns-in-Err-Fault-clause-next c =
    let lexer = c.skip_space.new.self in
    let some = rw (take_rest lexer.text.now lexer.at) at (some_left _ _ c.is_empty.ensures c.if-is_empty.false) in
    let first = rw (c.in-Err-Fault.field-0-is, take_rest lexer.text.now lexer.at) at c.in-Err-Fault.ensures in
    (sym c.skip_space.ensures.ahead ∙ at_fault lexer.text.now lexer.at lexer.close lexer.within c.skip_space.ensures.passed c.in-Err-Fault.kind some first, c.skip_space.ensures.ahead)
