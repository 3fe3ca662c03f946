use Rattle.std.proofs.Common.{◌≡◌, List, ℕ, true, false, not, ap, subst, sym, ◌∙◌, take}
use Rattle.std.specs.List.{list_any}
use Rattle.std.specs.Str.{bytes_eq}
use Rattle.std.proofs.lemmas.Bool.{not-false, not-true}
use Rattle.std.proofs.lemmas.Map.Keys.{IsDistinct-push}
use denote.Ref.{Bor}
use Rattle.message_core.specs.Names.{is_among}
use Rattle.message_core.specs.Spelling.{names}
use Rattle.message_core.proofs.NameSets.{bytes_equiv, distinct_none, double_from, names_more}
use Rattle.message_core.proofs.names.has_double.Goals as goal

pub loop-header-init : goal.loop-header-init
loop-header-init c = record {
  holds = λ q. ap (λ (ks : List (Bor (List ℕ))). list_any (λ k. bytes_eq q k.now) ks) c.new-taken.ensures.empty;
  distinct = distinct_none;
}

pub returns-then-not-branch : goal.returns-then-not-branch
returns-then-not-branch c =
    let ns : List (List ℕ) = names (take c.loop-header.header-index c.args.headers.now) in
    let said : c.in_ok-add_name.field-0 ≡ not (is_among c.as_slice.result.now ns) = c.in_ok-add_name.ensures.added ns c.loop-header.invariant.holds in
    let found : is_among c.as_slice.result.now ns ≡ true = not-false (is_among c.as_slice.result.now ns) (sym said ∙ c.if-not-branch.true) in
    double_from c.args.headers.now c.loop-header.header-index c.header-item.result c.loop-header-test.true c.header-item.is (subst (λ (x : List ℕ). is_among x ns ≡ true) c.as_slice.ensures found)

pub loop-header-preserved : goal.loop-header-preserved
loop-header-preserved c =
    let ns : List (List ℕ) = names (take c.loop-header.header-index c.args.headers.now) in
    let said : c.in_ok-add_name.field-0 ≡ not (is_among c.as_slice.result.now ns) = c.in_ok-add_name.ensures.added ns c.loop-header.invariant.holds in
    let new : is_among c.as_slice.result.now ns ≡ false = not-true (is_among c.as_slice.result.now ns) (sym said ∙ c.if-not-branch.false) in
    let more = names_more c.args.headers.now c.loop-header.header-index c.header-item.result c.loop-header-test.true c.header-item.is in
    record {
      holds = rw (more, ← c.as_slice.ensures) (c.in_ok-add_name.ensures.holds ns c.loop-header.invariant.holds);
      distinct = rw (more, ← c.as_slice.ensures) (IsDistinct-push bytes_equiv ns c.as_slice.result.now c.loop-header.invariant.distinct new);
    }
