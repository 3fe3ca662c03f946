use Rattle.std.proofs.Common.{◌≡◌, ◌++◌, ◌∷◌, []}
use Rattle.std.proofs.lemmas.Result.{err_from_is_err_and}
use Rattle.message_core.specs.Spelling.{names}
use Rattle.message_core.specs.Reading.{headers_at}
use Rattle.message_core.proofs.HeaderLoop.{goes_on, ends, is_done, names_push}
use Rattle.message_core.proofs.reading.headers_of.Goals as goal

pub returns-in_err-header : goal.returns-in_err-header
returns-in_err-header c =
    let p = err_from_is_err_and c.from_residual.result c.from_residual.ensures.1 in
    rw (p.1, p.2) (ends c.in_err-header.field-0.0 c.loop.headers.items c.args.count c.loop.counter c.loop.rest.now (headers_at c.args.count [] c.args.bytes.now) c.loop-test.true (c.in_err-header.ensures.given (names c.loop.headers.items) c.loop.invariant.holds) c.loop.invariant.so_far)

pub loop-preserved : goal.loop-preserved
loop-preserved c =
    let h = c.in_ok-header.header in
    let pushed : c.push.new.self.items ≡ c.loop.headers.items ++ h ∷ [] = c.in_ok-push.ensures.items in
    record {
      holds = rw (pushed, names_push c.loop.headers.items h) (c.in_ok-header.ensures.holds (names c.loop.headers.items) c.loop.invariant.holds);
      so_far = rw pushed (goes_on c.loop.headers.items c.args.count c.loop.counter c.loop.rest.now h c.in_ok-header.after.now (headers_at c.args.count [] c.args.bytes.now) c.loop-test.true (c.in_ok-header.ensures.given (names c.loop.headers.items) c.loop.invariant.holds) c.loop.invariant.so_far);
    }

pub returns : goal.returns
returns c = is_done c.loop.headers.items c.args.count c.loop.counter c.loop.rest.now (headers_at c.args.count [] c.args.bytes.now) c.loop-test.false c.loop.invariant.so_far
