-- the link of each row leads into what stands behind it
use Rattle.std.proofs.Common.{ℕ, List, [], ◌∷◌, ◌++◌, subst}
use Rattle.std.specs.Prelude.{slice_index}
use Rattle.queue_model.specs.declared.rows.Row.{Row}
use Rattle.queue_model.specs.State.{rows_of}
use Rattle.link_core.specs.Layout.{row_link_of, head_of}
use Rattle.link_core.specs.Laws.{LinksPoint}
use Rattle.link_core.specs.Stands.{Points, Chain}

-- the first link of a chain points
pub chain_points : (words : List ℕ) (w : ℕ) (rows : List Row) → Chain words w rows → Points w rows
chain_points words w [] chain = chain
chain_points words w (x ∷ xs) chain = chain.0

-- and so does the link of each of its rows
pub row_points : (words : List ℕ) (w : ℕ) (front : List Row) (x : Row) (back : List Row) → Chain words w (front ++ x ∷ back) → Points (slice_index words (row_link_of x.number)) back
row_points words w [] x back chain = chain_points words (slice_index words (row_link_of x.number)) back chain.1
row_points words w (y ∷ ys) x back chain = row_points words (slice_index words (row_link_of y.number)) ys x back chain.1

pub links_point : LinksPoint
links_point t q s = (
  λ l lt. chain_points t.words (slice_index t.words (head_of t.rows l)) (rows_of q l) (s.links l lt),
  λ l front x back lt is. row_points t.words (slice_index t.words (head_of t.rows l)) front x back
      (subst (λ (rows : List Row). Chain t.words (slice_index t.words (head_of t.rows l)) rows) is (s.links l lt)),
)
