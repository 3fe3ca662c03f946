-- a draw of a row, over several tries
use Rattle.std.proofs.Common.{◌≡◌, ◌≢◌, ℕ, ◌+◌, ◌-◌, ◌<◌, List, [], ◌∷◌, ◌++◌, length, length-append, refl, sym, ap, ◌∙◌, arith, append_assoc}
use Rattle.std.specs.List.{AllByRecursion}
use Rattle.queue_model.specs.declared.deeds.Deed.{Deed}
use Rattle.queue_model.specs.declared.steps.Step.TheVariants as steps
use Rattle.queue_model.specs.declared.steps.Tried.{Tried}
use Rattle.entry_table.specs.declared.view.View.{View}
use Rattle.entry_table.specs.Views.{entry, blank_drawing}
use Rattle.entry_table.specs.Plays.{Went, looked_view, drew_view, is_draw, DidDraw, Seeks}
use Rattle.entry_table.proofs.Joining.{went_trans}
use Rattle.entry_table.proofs.Keeping.{Same}

all_push : (xs : List Tried) (e : Tried) → AllByRecursion is_draw xs → is_draw e → AllByRecursion is_draw (xs ++ e ∷ [])
all_push [] e all mine = (mine, tt)
all_push (x ∷ xs) e all mine = (all.0, all_push xs e all.1 mine)

one_more : (xs : List Tried) (e : Tried) → length (xs ++ e ∷ []) ≡ length xs + 1
one_more xs e = length-append xs (e ∷ [])

-- what the tries so far leave of the view
abbrev sought : View → View → View
sought v z = record v { reached = z.reached; told = z.told; seen = z.seen; shown = z.shown }

same_looked : (v w : View) (n : ℕ) (seen : List Deed) → w ≡ looked_view v steps.Draw n seen → Same v w
same_looked v w n seen e = record { shape = ap (λ (z : View). z.shape) e; opening = ap (λ (z : View). z.opening) e; callers = ap (λ (z : View). z.callers) e; made = ap (λ (z : View). z.made) e; alone = ap (λ (z : View). z.alone) e; consumers = ap (λ (z : View). z.consumers) e }

-- another drew first
pub seeks_more : (v u w : View) (row n : ℕ) → Seeks v u row → n ≢ row → Went u w [] → w ≡ looked_view u steps.Draw n w.seen → Seeks v w n
seeks_more v u w row n s ne went is =
    let e : Tried = entry steps.Draw n n w.seen in
    let reached : w.reached ≡ n = ap (λ (z : View). z.reached) is in
    let more = went.more in
    let low = s.low in
    let less : row < n = omega (arith, reached, more, low, ne) in
    let few = s.few in
    let shape : u.shape.rows ≡ v.shape.rows = ap (λ (z : View). z.shape.rows) s.view in
    let most = went.most in
    let m : View = looked_view (sought v u) steps.Draw n w.seen in
    let is_m : w ≡ m = is ∙ ap (λ (z : View). looked_view z steps.Draw n w.seen) s.view in
    record {
      on = λ x ds g. s.on x ds (went_trans u w x [] ds (same_looked u w n w.seen is) went g);
      added = s.added ++ e ∷ [];
      shown_is = ap (λ (z : View). z.shown) is ∙ ap (λ (l : List Tried). l ++ e ∷ []) s.shown_is ∙ append_assoc v.shown s.added (e ∷ []);
      draws = all_push s.added e s.draws refl;
      few = omega (arith, one_more s.added e, few, less);
      low = omega (arith, reached);
      high = omega (arith, most, shape);
      view = is_m ∙ ap (sought v) (sym is_m);
    }

-- the row is drawn
pub seeks_end : (v u w : View) (row : ℕ) → Seeks v u row → Went u w [] → w ≡ drew_view u row w.seen → DidDraw v w row
seeks_end v u w row s went is =
    let e : Tried = entry steps.Draw row (row + 1) w.seen in
    let few = s.few in
    let shape : u.shape.rows ≡ v.shape.rows = ap (λ (z : View). z.shape.rows) s.view in
    let most = went.most in
    let reached : w.reached ≡ row + 1 = ap (λ (z : View). z.reached) is in
    let m : View = drew_view (sought v u) row w.seen in
    let is_m : w ≡ m = is ∙ ap (λ (z : View). drew_view z row w.seen) s.view in
    record {
      went = s.on w [] went;
      added = s.added ++ e ∷ [];
      shown_is = ap (λ (z : View). z.shown) is ∙ ap (λ (l : List Tried). l ++ e ∷ []) s.shown_is ∙ append_assoc v.shown s.added (e ∷ []);
      draws = all_push s.added e s.draws refl;
      few = omega (arith, one_more s.added e, few, most, shape, reached);
      low = omega (arith, most, shape, reached);
      view = is_m ∙ ap (λ (z : View). record v { share = v.share - 1; reached = row + 1; drawn = blank_drawing row ∷ v.drawn; told = []; seen = z.seen; shown = z.shown }) (sym is_m);
    }
