use Rattle.std.proofs.Common.{◌≡◌, ◌∷◌, [], ◌++◌, ◌∙◌, length, ℕ, Option, refl, sym, ap, subst, arith}
use Rattle.std.specs.Prelude.{slice_index}
use Rattle.std.proofs.lemmas.List.{length-map, map-append}
use Rattle.std.proofs.lemmas.Option.{slice_get_read}
use Rattle.defs_read.specs.Defined.{defined}
use Rattle.phase_text.specs.declared.logs.Rest.{Rest}
use Rattle.phase_queues.specs.Left.{Remains, items_of, many_left}
use Rattle.phase_queues.specs.Opened.{HoldRows, TellNothing, rest_names, rows_for}
use Rattle.phase_queues.proofs.Starting.{name_at, one_more_holds, one_more_nothing}
use Rattle.phase_queues.proofs.opening.blank_rests.Goals as goal

pub loop-at-preserved : goal.loop-at-preserved
loop-at-preserved c =
    let at = c.loop-at.at in
    let i = c.loop-at.invariant in
    let rests = c.loop-at.rests.items in
    let rest = c.in_ok-blank_rest.field-0 in
    let low = c.loop-at-test.true in
    let end = c.len-at-end.ensures in
    let defs = c.args.defs.now.queues.ok in
    let long : length rests ≡ at = let a = i.long in let b = c.loop-at.rests.ok in omega (arith, a, b) in
    let items = c.push_reserved.ensures.items in
    let names : rest_names (rests ++ rest ∷ []) ≡ _ =
    map-append (λ (r : Rest). r.name) rests (rest ∷ [])
    ∙ (λ j. i.names j ++ c.in_ok-blank_rest.ensures.name j ∷ [])
    ∙ sym (name_at c.args.defs.now.queues.items at _ (omega (arith, low, end, defs)) c.index.ensures)
    in
    let many = c.requires.left in
    let all = length-map c.args.defs.now.queues.items defined in
    let left = slice_get_read c.args.left.now (length c.args.left.now) at c.index-left-at.result refl (omega (arith, low, end, defs, many, all)) c.index-left-at.is in
    let entries : length c.index-left-at.result.items ≡ c.len-in-loop-at.result = let a = c.len-in-loop-at.ensures in let b = c.index-left-at.result.ok in omega (arith, a, b) in
    let here : many_left (length rests) c.args.left.now ≡ c.len-in-loop-at.result =
    ap (λ (k : ℕ). many_left k c.args.left.now) long ∙ ap (λ (o : Option Remains). length (items_of o)) left ∙ entries
    in
    let rows : rows_for (many_left (length rests) c.args.left.now) (slice_index c.args.puts.now (length rests)) ≡ c.rows_for-rows.result =
    (λ j. rows_for (here j) (slice_index c.args.puts.now (long j))) ∙ sym c.rows_for-rows.ensures
    in
    record {
      names = ap rest_names items ∙ names;
      none = subst TellNothing (sym items) (one_more_nothing rests rest i.none c.in_ok-blank_rest.ensures.none);
      room = subst (HoldRows c.args.left.now c.args.puts.now) (sym items) (one_more_holds c.args.left.now c.args.puts.now rests rest i.room
          (let fits = c.in_ok-blank_rest.ensures.room in omega (arith, rows, fits)));
      long = let a = i.long in let b = c.push_reserved.ensures.len in omega (arith, a, b);
      fits = let a = i.fits in let b = c.push_reserved.ensures.capacity in omega (arith, a, b);
    }
