use Rattle.std.proofs.Common.{◌∙◌}
use Rattle.queue_model.specs.declared.steps.DraftWord.TheVariants.{Mask, Place, Ident, Size, List}
use Rattle.entry_table.specs.Passes.{view}
use Rattle.entry_table.proofs.Laying.{first_word, word_more, all_words, still_drawn}
use Rattle.entry_table.proofs.entries.Entries.write.Goals as goal

pub store_draft-requires-2-clause-draft : goal.store_draft-requires-2-clause-draft
store_draft-requires-2-clause-draft g c =
    still_drawn (view c.args.pass.now) (view c.store_draft.new.pass) c.args.draft.now.row c.store_draft.new.draft.row Mask c.args.slip.now.mask c.requires.draft c.store_draft.ensures.view c.store_draft.ensures.same.0

pub store_draft-requires-3-clause-draft : goal.store_draft-requires-3-clause-draft
store_draft-requires-3-clause-draft g c =
    still_drawn (view c.store_draft.new.pass) (view c.store_draft-2.new.pass) c.store_draft.new.draft.row c.store_draft-2.new.draft.row Place c.args.place (still_drawn (view c.args.pass.now) (view c.store_draft.new.pass) c.args.draft.now.row c.store_draft.new.draft.row Mask c.args.slip.now.mask c.requires.draft c.store_draft.ensures.view c.store_draft.ensures.same.0) c.store_draft-2.ensures.view c.store_draft-2.ensures.same.0

pub store_draft-requires-4-clause-draft : goal.store_draft-requires-4-clause-draft
store_draft-requires-4-clause-draft g c =
    still_drawn (view c.store_draft-2.new.pass) (view c.store_draft-3.new.pass) c.store_draft-2.new.draft.row c.store_draft-3.new.draft.row Ident c.args.slip.now.id (still_drawn (view c.store_draft.new.pass) (view c.store_draft-2.new.pass) c.store_draft.new.draft.row c.store_draft-2.new.draft.row Place c.args.place (still_drawn (view c.args.pass.now) (view c.store_draft.new.pass) c.args.draft.now.row c.store_draft.new.draft.row Mask c.args.slip.now.mask c.requires.draft c.store_draft.ensures.view c.store_draft.ensures.same.0) c.store_draft-2.ensures.view c.store_draft-2.ensures.same.0) c.store_draft-3.ensures.view c.store_draft-3.ensures.same.0

pub store_draft-requires-5-clause-draft : goal.store_draft-requires-5-clause-draft
store_draft-requires-5-clause-draft g c =
    still_drawn (view c.store_draft-3.new.pass) (view c.store_draft-4.new.pass) c.store_draft-3.new.draft.row c.store_draft-4.new.draft.row Size c.args.slip.now.size (still_drawn (view c.store_draft-2.new.pass) (view c.store_draft-3.new.pass) c.store_draft-2.new.draft.row c.store_draft-3.new.draft.row Ident c.args.slip.now.id (still_drawn (view c.store_draft.new.pass) (view c.store_draft-2.new.pass) c.store_draft.new.draft.row c.store_draft-2.new.draft.row Place c.args.place (still_drawn (view c.args.pass.now) (view c.store_draft.new.pass) c.args.draft.now.row c.store_draft.new.draft.row Mask c.args.slip.now.mask c.requires.draft c.store_draft.ensures.view c.store_draft.ensures.same.0) c.store_draft-2.ensures.view c.store_draft-2.ensures.same.0) c.store_draft-3.ensures.view c.store_draft-3.ensures.same.0) c.store_draft-4.ensures.view c.store_draft-4.ensures.same.0

pub returns-clause-wrote : goal.returns-clause-wrote
returns-clause-wrote g c =
    let v = view c.args.pass.now in
    let slip = c.args.slip.now in
    let row = c.args.draft.now.row in
    let d = c.requires.draft in
    let same = c.store_draft.ensures.same.0 in
    let same2 = c.store_draft-2.ensures.same.0 ∙ same in
    let same3 = c.store_draft-3.ensures.same.0 ∙ same2 in
    let same4 = c.store_draft-4.ensures.same.0 ∙ same3 in
    let w1 = first_word v (view c.store_draft.new.pass) row Mask slip.mask d.d d.drawing c.store_draft.ensures.went c.store_draft.ensures.view in
    let w2 = word_more v (view c.store_draft.new.pass) (view c.store_draft-2.new.pass) row c.store_draft.new.draft.row Place c.args.place _ same w1 c.store_draft-2.ensures.went c.store_draft-2.ensures.view in
    let w3 = word_more v (view c.store_draft-2.new.pass) (view c.store_draft-3.new.pass) row c.store_draft-2.new.draft.row Ident slip.id _ same2 w2 c.store_draft-3.ensures.went c.store_draft-3.ensures.view in
    let w4 = word_more v (view c.store_draft-3.new.pass) (view c.store_draft-4.new.pass) row c.store_draft-3.new.draft.row Size slip.size _ same3 w3 c.store_draft-4.ensures.went c.store_draft-4.ensures.view in
    let w5 = word_more v (view c.store_draft-4.new.pass) (view c.store_draft-5.new.pass) row c.store_draft-4.new.draft.row List slip.list _ same4 w4 c.store_draft-5.ensures.went c.store_draft-5.ensures.view in
    all_words v (view c.store_draft-5.new.pass) row c.args.place slip d.d d.drawing w5
