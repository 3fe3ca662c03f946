use Rattle.std.proofs.Common.{◌≡◌, ℕ, ◌+◌, ◌-◌, ◌∙◌, refl, sym, ap, arith, subst, suc, Option, None, set, List}
use Rattle.std.specs.Prelude.{slice_index}
use Rattle.std.specs.Slots.{slots_items, slots_len, IsFull}
use lib.ListN.{get_elem?}
use Rattle.atomic_table.specs.declared.owned.Closed.{Closed}
use Rattle.link_core.specs.Stands.{IsDrafted}
use Rattle.queue_model.specs.State.{place_at}
use Rattle.link_core.specs.Layout.{row_link_of, state_of, head_of}
use Rattle.entry_table.specs.Resting.{Walking, Rested}
use Rattle.std.proofs.Common.{Vec, Global}
use Rattle.acts_core.specs.declared.cargoes.RestEntry.{RestEntry}
use Rattle.acts_core.specs.Moments.{IsLoadOf}
use Rattle.entry_table.proofs.Closing.{read, read_in, walk_begins, walk_ends, faces, live_word, gone_word, same_parcel, walking_is}
use Rattle.entry_table.proofs.rest.gather.Goals as goal
use Rattle.entry_table.proofs.rest.gather.Goals.{then-word-ne3, else-word-ne3}

pub rows-init : goal.rows-init
rows-init g c = record {
  words = refl;
  slots = c.requires.slots;
  walking = λ q legible low rested. subst (λ (n : ℕ). Walking g.C.Freight.goods (slots_items c.args.closed.now.words) q c.args.list n c.args.rows c.args.rest.now.items (slots_items c.args.closed.now.slots))
      (read (slots_items c.args.closed.now.words) _ (head_of c.args.rows c.args.list) c.word-link.result c.list_place.ensures c.word-link.ensures)
      (walk_begins g.C.Freight.goods (slots_items c.args.closed.now.words) c.args.rows q c.args.list c.args.rest.now.items (slots_items c.args.closed.now.slots) legible low (subst (λ (k : ℕ). Rested g.C.Freight.goods q k c.args.rest.now.items (slots_items c.args.closed.now.slots)) (let e : c.args.list + 1 ≡ suc c.args.list = omega arith in e) rested));
  room = refl;
}

pub word-link-requires : goal.word-link-requires
word-link-requires g c = let is = c.list_place.ensures in let long = c.requires.words.1 in (omega (arith, is, long), c.requires.words.0)

pub row_place-at-requires : goal.row_place-at-requires
row_place-at-requires g c =
    let r = c.requires.at in let f = faces g.C.Freight.goods (slots_items c.args.closed.now.words) c.args.rows r.0 r.1 c.args.list c.rows.link c.rows.left c.rows.rest.items (slots_items c.rows.closed.slots) (c.rows.invariant.walking r.0 r.1 r.2 r.3) c.rows-test.true in
    let low = f.low in let small = c.requires.small in let n = f.number in omega (arith, low, small, n)

pub word-word-requires : goal.word-word-requires
word-word-requires g c =
    let r = c.requires.at in let f = faces g.C.Freight.goods (slots_items c.args.closed.now.words) c.args.rows r.0 r.1 c.args.list c.rows.link c.rows.left c.rows.rest.items (slots_items c.rows.closed.slots) (c.rows.invariant.walking r.0 r.1 r.2 r.3) c.rows-test.true in
    let low = f.low in let small = c.requires.small in let n = f.number in let long = c.requires.words.1 in let is = c.row_place-at.ensures in let count = ap slots_len c.rows.invariant.words in
    (omega (arith, low, n, long, is, count), subst IsFull (sym c.rows.invariant.words) c.requires.words.0)

pub word-link-requires-in-rows : goal.word-link-requires-in-rows
word-link-requires-in-rows g c =
    let r = c.requires.at in let f = faces g.C.Freight.goods (slots_items c.args.closed.now.words) c.args.rows r.0 r.1 c.args.list c.rows.link c.rows.left c.rows.rest.items (slots_items c.rows.closed.slots) (c.rows.invariant.walking r.0 r.1 r.2 r.3) c.rows-test.true in
    let low = f.low in let n = f.number in let long = c.requires.words.1 in let is = c.row_place-at.ensures in
    elim c.if-word-ne3.branch [
      | then-word-ne3 w ↦ let same = ap (λ (v : Closed (Option g.row.C.Denot) Global). v.words) w.closed-is ∙ w.unload-cargo.ensures.words ∙ c.rows.invariant.words in let count = ap slots_len same in (omega (arith, low, n, long, is, count), subst IsFull (sym same) c.requires.words.0)
      | else-word-ne3 w ↦ let same = ap (λ (v : Closed (Option g.row.C.Denot) Global). v.words) w.closed-is ∙ c.rows.invariant.words in let count = ap slots_len same in (omega (arith, low, n, long, is, count), subst IsFull (sym same) c.requires.words.0)
    ]

pub unload-cargo-requires-clause-there : goal.unload-cargo-requires-clause-there
unload-cargo-requires-clause-there g c =
    let r = c.requires.at in let f = faces g.C.Freight.goods (slots_items c.args.closed.now.words) c.args.rows r.0 r.1 c.args.list c.rows.link c.rows.left c.rows.rest.items (slots_items c.rows.closed.slots) (c.rows.invariant.walking r.0 r.1 r.2 r.3) c.rows-test.true in
    let low = f.low in let small = c.requires.small in let n = f.number in let long = c.requires.words.1 in
    let word = read_in (slots_items c.args.closed.now.words) (slots_items c.rows.closed.words) _ (state_of f.x.number) c.word-word.result (ap slots_items c.rows.invariant.words) (let is = c.row_place-at.ensures in omega (arith, n, is)) c.word-word.ensures in
    let row : c.rows.link - 1 ≡ f.x.number = omega (arith, n) in
    let lives = live_word f.x.state c.word-word.result (sym word ∙ f.word) c.if-word-ne3.true in
    let w = (f.taken lives).0 in (w.0, ap (get_elem? (slots_items c.rows.closed.slots)) row ∙ w.1)

pub resting-requires-clause-words : goal.resting-requires-clause-words
resting-requires-clause-words g c =
    let r = c.requires.at in let f = faces g.C.Freight.goods (slots_items c.args.closed.now.words) c.args.rows r.0 r.1 c.args.list c.rows.link c.rows.left c.rows.rest.items (slots_items c.rows.closed.slots) (c.rows.invariant.walking r.0 r.1 r.2 r.3) c.rows-test.true in
    let low = f.low in let small = c.requires.small in let n = f.number in let long = c.requires.words.1 in
    let same = c.unload-cargo.ensures.words ∙ c.rows.invariant.words in let count = ap slots_len same in (subst IsFull (sym same) c.requires.words.0, omega (arith, low, n, long, count))

pub resting-requires-clause-low : goal.resting-requires-clause-low
resting-requires-clause-low g c =
    let r = c.requires.at in let f = faces g.C.Freight.goods (slots_items c.args.closed.now.words) c.args.rows r.0 r.1 c.args.list c.rows.link c.rows.left c.rows.rest.items (slots_items c.rows.closed.slots) (c.rows.invariant.walking r.0 r.1 r.2 r.3) c.rows-test.true in
    let low = f.low in let small = c.requires.small in let n = f.number in let long = c.requires.words.1 in omega (arith, low, small, n)

pub push_reserved-requires : goal.push_reserved-requires
push_reserved-requires g c =
    let r = c.requires.at in let f = faces g.C.Freight.goods (slots_items c.args.closed.now.words) c.args.rows r.0 r.1 c.args.list c.rows.link c.rows.left c.rows.rest.items (slots_items c.rows.closed.slots) (c.rows.invariant.walking r.0 r.1 r.2 r.3) c.rows-test.true in
    let low = f.low in let small = c.requires.small in let n = f.number in let long = c.requires.words.1 in
    let word = read_in (slots_items c.args.closed.now.words) (slots_items c.rows.closed.words) _ (state_of f.x.number) c.word-word.result (ap slots_items c.rows.invariant.words) (let is = c.row_place-at.ensures in omega (arith, n, is)) c.word-word.ensures in
    let row : c.rows.link - 1 ≡ f.x.number = omega (arith, n) in
    let lives = live_word f.x.state c.word-word.result (sym word ∙ f.word) c.if-word-ne3.true in
    let room = f.room lives in let ok = c.rows.rest.ok in let same = c.rows.invariant.room in let wide = r.4 in omega (arith, room, ok, same, wide)

pub rows-preserved : goal.rows-preserved
rows-preserved g c = elim c.if-word-ne3.branch [
  | then-word-ne3 w ↦
      let same = ap (λ (v : Closed (Option g.row.C.Denot) Global). v.words) w.closed-is ∙ w.unload-cargo.ensures.words ∙ c.rows.invariant.words in record {
        words = same;
        slots = subst (λ (v : Closed (Option g.row.C.Denot) Global). IsFull v.slots) (sym w.closed-is) w.unload-cargo.ensures.full;
        walking = λ q legible low rested.
            let f = faces g.C.Freight.goods (slots_items c.args.closed.now.words) c.args.rows q legible c.args.list c.rows.link c.rows.left c.rows.rest.items (slots_items c.rows.closed.slots) (c.rows.invariant.walking q legible low rested) c.rows-test.true in
            let n = f.number in
            let word = read_in (slots_items c.args.closed.now.words) (slots_items c.rows.closed.words) _ (state_of f.x.number) c.word-word.result (ap slots_items c.rows.invariant.words) (let is = c.row_place-at.ensures in omega (arith, n, is)) c.word-word.ensures in
            let row : c.rows.link - 1 ≡ f.x.number = omega (arith, n) in
            let found : slice_index (slots_items c.args.closed.now.words) (row_link_of f.x.number) ≡ c.word-link-in-rows.result = read_in (slots_items c.args.closed.now.words) (slots_items c.if-word-ne3.closed.words) _ (row_link_of f.x.number) c.word-link-in-rows.result (ap slots_items same) (let is = c.row_place-at.ensures in omega (arith, n, is)) c.word-link-in-rows.ensures in
            let tk = f.taken (live_word f.x.state c.word-word.result (sym word ∙ f.word) w.if-word-ne3.true) in
            let one = same_parcel (slots_items c.rows.closed.slots) f.x.number (c.rows.link - 1) tk.0.0 w.unload-cargo.result (sym row) tk.0.1 w.unload-cargo.ensures.value in
            let is = w.resting.ensures q f.x (record {
              list = f.list;
              drafted = subst (λ (ws : List ℕ). IsDrafted ws (c.rows.link - 1) (place_at q (c.rows.link - 1)) f.x.slip) (ap slots_items (sym (w.unload-cargo.ensures.words ∙ c.rows.invariant.words)))
                  (subst (λ (z : ℕ). IsDrafted (slots_items c.args.closed.now.words) z (place_at q z) f.x.slip) (sym row) (legible.drafted f.x.number f.x f.found));
              state_is = w.state_of.ensures f.x.state (sym word ∙ f.word);
              carries = subst (λ (d : g.row.C.Denot). IsLoadOf f.x (g.C.Freight.goods d)) one tk.0.2;
            }) in
            walking_is g.C.Freight.goods (slots_items c.args.closed.now.words) q c.args.list (c.rows.left - 1) _ _ _ c.if-word-ne3.rest.items _ (slots_items c.if-word-ne3.closed.slots) found
            (sym w.push_reserved.ensures.items ∙ ap (λ (v : Vec (RestEntry g.row.C.Denot) Global). v.items) (sym w.rest-is))
            (ap (λ (k : ℕ). set (slots_items c.rows.closed.slots) k None) (sym row) ∙ sym w.unload-cargo.ensures.others ∙ ap (λ (v : Closed (Option g.row.C.Denot) Global). slots_items v.slots) (sym w.closed-is))
            (tk.1 w.resting.result is);
        room = ap (λ (v : Vec (RestEntry g.row.C.Denot) Global). v.cap) w.rest-is ∙ w.push_reserved.ensures.capacity ∙ c.rows.invariant.room;
      }
  | else-word-ne3 w ↦
      let same = ap (λ (v : Closed (Option g.row.C.Denot) Global). v.words) w.closed-is ∙ c.rows.invariant.words in record {
        words = same;
        slots = subst (λ (v : Closed (Option g.row.C.Denot) Global). IsFull v.slots) (sym w.closed-is) c.rows.invariant.slots;
        walking = λ q legible low rested.
            let f = faces g.C.Freight.goods (slots_items c.args.closed.now.words) c.args.rows q legible c.args.list c.rows.link c.rows.left c.rows.rest.items (slots_items c.rows.closed.slots) (c.rows.invariant.walking q legible low rested) c.rows-test.true in
            let n = f.number in
            let word = read_in (slots_items c.args.closed.now.words) (slots_items c.rows.closed.words) _ (state_of f.x.number) c.word-word.result (ap slots_items c.rows.invariant.words) (let is = c.row_place-at.ensures in omega (arith, n, is)) c.word-word.ensures in
            let found : slice_index (slots_items c.args.closed.now.words) (row_link_of f.x.number) ≡ c.word-link-in-rows.result = read_in (slots_items c.args.closed.now.words) (slots_items c.if-word-ne3.closed.words) _ (row_link_of f.x.number) c.word-link-in-rows.result (ap slots_items same) (let is = c.row_place-at.ensures in omega (arith, n, is)) c.word-link-in-rows.ensures in
            walking_is g.C.Freight.goods (slots_items c.args.closed.now.words) q c.args.list (c.rows.left - 1) _ _ _ c.if-word-ne3.rest.items _ (slots_items c.if-word-ne3.closed.slots) found
            (ap (λ (v : Vec (RestEntry g.row.C.Denot) Global). v.items) (sym w.rest-is)) (ap (λ (v : Closed (Option g.row.C.Denot) Global). slots_items v.slots) (sym w.closed-is))
            (f.gone (gone_word f.x.state c.word-word.result (sym word ∙ f.word) w.if-word-ne3.false));
        room = ap (λ (v : Vec (RestEntry g.row.C.Denot) Global). v.cap) w.rest-is ∙ c.rows.invariant.room;
      }
]

pub returns-clause-rested : goal.returns-clause-rested
returns-clause-rested g c = λ q legible low rested. walk_ends g.C.Freight.goods (slots_items c.args.closed.now.words) q c.args.list c.rows.left c.rows.rest.items (slots_items c.rows.closed.slots) (subst (λ (n : ℕ). Walking g.C.Freight.goods (slots_items c.args.closed.now.words) q c.args.list n c.rows.left c.rows.rest.items (slots_items c.rows.closed.slots)) c.rows-test.false (c.rows.invariant.walking q legible low rested))
