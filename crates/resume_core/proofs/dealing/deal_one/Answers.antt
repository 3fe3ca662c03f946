use Rattle.std.proofs.Common.{◌≡◌, Some, ap, ◌∙◌, sym, refl, length, List, ℕ, arith}
use Rattle.std.proofs.lemmas.Option.{slice_get_read}
use Rattle.defs_read.specs.Defined.{queues_in}
use Rattle.resume_core.specs.Live.{number_from, number_of}
use Rattle.resume_core.proofs.Deals.{dealt_more, on_ok}
use Rattle.resume_core.proofs.dealing.deal_one.Goals as goal

pub returns-in-Some : goal.returns-in-Some
returns-in-Some c = λ ks dealt.
    let defs = queues_in c.args.defs.now in
    let number : number_of defs c.args.entry ≡ Some c.in-Some.queue = ap (λ (name : List ℕ). number_from 0 name defs) (sym c.as_slice.ensures) ∙ sym c.number_of.ensures.number ∙ c.in-Some.is in
    let low = c.in-Some.ensures.there in
    let many = c.requires.many in
    let here = slice_get_read c.args.lists.now.items (length c.args.lists.now.items) c.in-Some.queue c.index_mut.result.now refl (omega (arith, low, many)) c.index_mut.ensures.value in
    on_ok c.add.result c.add.ensures (λ pushed. dealt_more defs ks c.args.entry c.args.lists.now.items c.in-Some.queue c.index_mut.result.now c.add.new.list number here pushed dealt)
