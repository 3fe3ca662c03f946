use Rattle.std.proofs.Common.{◌≡◌, ◌∙◌, sym, true, nat_lt, ◌<◌, ℕ, arith}
use Rattle.std.proofs.lemmas.Bool.Decides.{nat_tests}
use Rattle.row_order.proofs.Keys.{by_greater, by_equal, rank_read}
use Rattle.row_order.specs.Order.{ranks}
use Rattle.row_order.proofs.order.is_before.Goals as goal

pub returns-in-Greater : goal.returns-in-Greater
returns-in-Greater g c = (
  (λ no. absurd (cc)),
  (λ x. absurd (by_greater (ranks g.O.Ranking.by_key c.args.slots.now) c.args.a c.args.b _ _ (rank_read g.O.Ranking.by_key c.args.slots.now c.args.a c.index-slots-a.result c.requires.0) (rank_read g.O.Ranking.by_key c.args.slots.now c.args.b c.index-slots-b.result c.requires.1) (sym c.compare.ensures ∙ c.in-Greater.is) x)),
)

tests : (a b : ℕ) → (nat_lt a b ≡ true → a < b) × (a < b → nat_lt a b ≡ true)
tests a b = ((λ e. grind (arith, nat_tests)), (λ l. grind (arith, nat_tests)))

pub returns-in-Equal : goal.returns-in-Equal
returns-in-Equal g c =
    let e = by_equal (ranks g.O.Ranking.by_key c.args.slots.now) c.args.a c.args.b _ _ (rank_read g.O.Ranking.by_key c.args.slots.now c.args.a c.index-slots-a.result c.requires.0) (rank_read g.O.Ranking.by_key c.args.slots.now c.args.b c.index-slots-b.result c.requires.1) (sym c.compare.ensures ∙ c.in-Equal.is) in
    let t = tests c.args.a c.args.b in
    ((λ x. e.1 (t.0 x)), (λ x. t.1 (e.0 x)))
