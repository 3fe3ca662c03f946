-- how what a journal holds goes on with its transactions
use Rattle.std.proofs.Common.{◌≡◌, ℕ, Bool, true, false, cond, not, List, [], ◌∷◌, ◌++◌, append_assoc, filter, refl, sym, ap, ◌∙◌}
use Rattle.std.specs.Prelude.{◌||◌, ◌&&◌, ◌==◌}
use Rattle.std.specs.Str.{bytes_eq}
use Rattle.journal_format.specs.declared.items.Item.{Item}
use Rattle.journal_format.specs.declared.items.Item.TheVariants.{Entered, Gone}
use Rattle.journal_format.specs.Spelling.{Txn}
use Rattle.recover_core.specs.Live.{is_gone, items_of, live_items}
use Rattle.resume_core.specs.Living.{LiveGoesOn, stays_behind}

or_assoc : (a b c : Bool) → ((a || b) || c) ≡ (a || (b || c))
or_assoc true b c = refl
or_assoc false b c = refl

gone_append : (q : List ℕ) (id : ℕ) (xs ys : List Item) → is_gone q id (xs ++ ys) ≡ (is_gone q id xs || is_gone q id ys)
gone_append q id [] ys = refl
gone_append q id (Gone r i ∷ xs) ys =
    ap (λ (b : Bool). (i == id && bytes_eq r q) || b) (gone_append q id xs ys)
    ∙ sym (or_assoc (i == id && bytes_eq r q) (is_gone q id xs) (is_gone q id ys))
gone_append q id (Entered r m ∷ xs) ys = gone_append q id xs ys

-- an entry, by whether it is gone among the items behind it and among those further on
entered_by : (a b : Bool) (e : Item) (keeps : Item → Bool) (xs ys : List Item) → keeps e ≡ not b
    → cond (a || b) (filter keeps xs ++ ys) (e ∷ (filter keeps xs ++ ys)) ≡ filter keeps (cond a xs (e ∷ xs)) ++ ys
entered_by true b e keeps xs ys is = refl
entered_by false true e keeps xs ys is = sym (ap (λ (z : Bool). cond z (e ∷ filter keeps xs) (filter keeps xs) ++ ys) is)
entered_by false false e keeps xs ys is = sym (ap (λ (z : Bool). cond z (e ∷ filter keeps xs) (filter keeps xs) ++ ys) is)

live_append : (xs ys : List Item) → live_items (xs ++ ys) ≡ filter (stays_behind ys) (live_items xs) ++ live_items ys
live_append [] ys = refl
live_append (Gone q i ∷ xs) ys = live_append xs ys
live_append (Entered q m ∷ xs) ys =
    (λ i. cond (gone_append q m.id xs ys i) (live_append xs ys i) (Entered q m ∷ live_append xs ys i))
    ∙ entered_by (is_gone q m.id xs) (is_gone q m.id ys) (Entered q m) (stays_behind ys) (live_items xs) (live_items ys) refl

items_append : (ts us : List Txn) → items_of (ts ++ us) ≡ items_of ts ++ items_of us
items_append [] us = refl
items_append (t ∷ ts) us = ap (λ (l : List Item). t ++ l) (items_append ts us) ∙ sym (append_assoc t (items_of ts) (items_of us))

pub live_law : LiveGoesOn
live_law A B = ap live_items (items_append A B) ∙ live_append (items_of A) (items_of B)
