-- the names of queues by their numbers
use Rattle.std.proofs.Common.{◌≡◌, ℕ, zero, suc, ◌<◌, ◌≤◌, List, [], ◌∷◌, length, map, get_or, refl, sym, ap, arith}
use Rattle.defs_read.specs.Defined.{defined}
use Rattle.defs_read.specs.declared.defs.QueueDef.{QueueDef}
use Rattle.stage_core.specs.Items.{name_at, names_in}

pub name_here : (items : List QueueDef) (q : ℕ) (def : QueueDef) → q < length items → def ≡ get_or items q def → name_at (names_in (map defined items)) q ≡ def.name
name_here [] q def low e = absurd (omega (arith, low))
name_here (x ∷ items) zero def low e = ap (λ (d : QueueDef). d.name) (sym e)
name_here (x ∷ items) (suc q) def low e = name_here items q def (omega (arith, low)) e

pub no_name_past : (items : List QueueDef) (q : ℕ) → length items ≤ q → name_at (names_in (map defined items)) q ≡ []
no_name_past [] q past = refl
no_name_past (x ∷ items) zero past = absurd (omega (arith, past))
no_name_past (x ∷ items) (suc q) past = no_name_past items q (omega (arith, past))
