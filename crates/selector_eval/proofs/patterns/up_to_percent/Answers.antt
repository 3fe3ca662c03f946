use Rattle.std.proofs.Common.{◌≡◌, ◌≢◌, true, arith, rules, sym, ◌∙◌}
use Rattle.std.specs.Str.{chars}
use Rattle.selector_eval.specs.declared.patterns.Part.TheVariants.{Any}
use Rattle.selector_eval.specs.Patterns.{stands_for}
use Rattle.selector_eval.proofs.PatternTests.{onwards_more}
use Rattle.selector_eval.proofs.Places.{told_at_percent, told_wrong, told_short, told_end, empty_of_empty, some_of_some_text}
use Rattle.selector_eval.proofs.patterns.up_to_percent.Goals as goal
use Rattle.selector_eval.proofs.patterns.up_to_percent.Goals.{in_default-split_first-via-in-Some-split_first+else-stands_for, in_default-split_first-via-in_default-split_first}

pub returns-then-eq : goal.returns-then-eq
returns-then-eq c =
    let any : c.in-Some.part ≡ Any = search rules in
    told_at_percent c.args.escape c.args.pattern.now c.args.text.now c.loop-part.pattern.now c.loop-part.text.now c.in-Some.behind.now c.after_percent.result c.loop-part.invariant.2 (rw any at c.in-Some.ensures.some) c.after_percent.ensures (omega (arith, c.in-Some.ensures.shorter)) (omega arith)

pub loop-part-preserved : goal.loop-part-preserved
loop-part-preserved c =
    let other : c.in-Some.part ≢ Any = search rules in
    let stands : stands_for c.in-Some.part c.in-Some-split_first.first ≡ true = sym c.stands_for.ensures ∙ c.if-stands_for.true in (
      search rules,
      search rules,
      onwards_more c.args.escape _ _ (chars c.loop-part.pattern.now) (chars c.loop-part.text.now) (chars c.in-Some.behind.now) c.in-Some.part c.in-Some-split_first.first (chars c.in-Some-split_first.rest.now) c.loop-part.invariant.2 c.in-Some.ensures.some other c.in-Some-split_first.ensures.some stands,
      omega (arith, c.in-Some.ensures.shorter),
      omega (arith, c.in-Some-split_first.ensures.shorter),
    )

pub returns-in_default-split_first : goal.returns-in_default-split_first
returns-in_default-split_first c =
    let other : c.in-Some.part ≢ Any = search rules in
    elim c.in_default-split_first.branch [
      | in_default-split_first-via-in-Some-split_first+else-stands_for w ↦ told_wrong c.args.escape _ _ (chars c.loop-part.pattern.now) (chars c.loop-part.text.now) (chars c.in-Some.behind.now) c.in-Some.part w.in-Some-split_first.first (chars w.in-Some-split_first.rest.now) c.loop-part.invariant.2 c.in-Some.ensures.some other w.in-Some-split_first.ensures.some (sym w.stands_for.ensures ∙ w.if-stands_for.false)
      | in_default-split_first-via-in_default-split_first w ↦ told_short c.args.escape _ _ (chars c.loop-part.pattern.now) (chars c.loop-part.text.now) (chars c.in-Some.behind.now) c.in-Some.part c.loop-part.invariant.2 c.in-Some.ensures.some other w.in_default-split_first.ensures.none
    ]

pub returns-then-is_empty : goal.returns-then-is_empty
returns-then-is_empty c = told_end c.args.escape _ _ (chars c.loop-part.pattern.now) (chars c.loop-part.text.now) c.loop-part.invariant.2 c.in_default.ensures.none ∙ empty_of_empty c.loop-part.text.now (sym c.is_empty.ensures ∙ c.if-is_empty.true)

pub returns-else-is_empty : goal.returns-else-is_empty
returns-else-is_empty c = told_end c.args.escape _ _ (chars c.loop-part.pattern.now) (chars c.loop-part.text.now) c.loop-part.invariant.2 c.in_default.ensures.none ∙ some_of_some_text c.loop-part.text.now c.loop-part.invariant.1 (sym c.is_empty.ensures ∙ c.if-is_empty.false)
