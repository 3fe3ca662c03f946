use Rattle.std.proofs.Common.{◌∙◌, ap, sym, refl, add-one}
use Rattle.selector_tokens.specs.Lexing.{string_first}
use Rattle.selector_tokens.proofs.Quotes.{closes, goes_on, never}
use Rattle.selector_tokens.proofs.strings.string_of.Goals as goal

pub returns-then-is_empty : goal.returns-then-is_empty
returns-then-is_empty c =
    ap string_first (never c.loop-plain.says.items c.loop-plain.rest.now c.args.behind.now c.cut_at_quote.result.1.now
    c.loop-plain.invariant.so_far c.cut_at_quote.ensures.quoted (sym c.is_empty.ensures ∙ c.if-is_empty.true))

pub returns-then-not-begins_with : goal.returns-then-not-begins_with
returns-then-not-begins_with c =
    let closed = closes c.loop-plain.says.items c.loop-plain.rest.now c.args.behind.now c.cut_at_quote.result.0.now c.cut_at_quote.result.1.now
    c.loop-plain.invariant.within c.loop-plain.invariant.so_far c.cut_at_quote.ensures.before c.cut_at_quote.ensures.quoted
    (sym c.is_empty.ensures ∙ c.if-is_empty.false) (sym c.begins_with.ensures ∙ c.if-not-begins_with.true) in
    ap string_first closed ∙ rw (c.from_vec.ensures, c.in_ok-extend_from_slice.ensures.items, add-one) refl

pub loop-plain-preserved : goal.loop-plain-preserved
loop-plain-preserved c =
    let more = goes_on c.loop-plain.says.items c.loop-plain.rest.now c.args.behind.now c.cut_at_quote.result.0.now c.cut_at_quote.result.1.now
    c.loop-plain.invariant.within c.loop-plain.invariant.so_far c.cut_at_quote.ensures.before c.cut_at_quote.ensures.quoted
    (sym c.is_empty.ensures ∙ c.if-is_empty.false) (sym c.begins_with.ensures ∙ c.if-not-begins_with.false) in
    record { within = more.0; so_far = rw (c.in_ok-push.ensures.items, c.in_ok-extend_from_slice.ensures.items) more.1 }
