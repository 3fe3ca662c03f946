-- The entries that are recovered are those that the transactions leave.
use Rattle.std.proofs.Common.{◌≡◌, ℕ, ◌+◌, Bool, true, false, cond, List, [], ◌∷◌, ◌++◌, length, map, refl, sym, ap, ◌∙◌, append_assoc}
use Rattle.std.specs.Prelude.{◌||◌, ◌&&◌, ◌==◌}
use Rattle.std.specs.Str.{bytes_eq}
use Rattle.std.proofs.lemmas.List.{map-append}
use Rattle.journal_format.specs.declared.items.Item.{Item}
use Rattle.journal_format.specs.declared.items.Item.TheVariants.{Entered, Gone}
use Rattle.journal_format.specs.Spelling.{Txn, item_bytes, txn_bytes}
use Rattle.journal_format.specs.Journal.{open_bytes, all_txns}
use Rattle.recover_core.specs.declared.kept.Kept.{Kept}
use Rattle.recover_core.specs.Live.{is_gone, live_items, items_of, live}
use Rattle.recover_core.specs.Places.{Found, WasPut, WasTaken, found, founds_in, founds_of, founds, is_lost, kept}
use Rattle.recover_core.specs.Recovered.{IsRecovered, item_of}

-- what was found, without its places
abbrev forget : Found → Item
forget (WasPut k) = Entered k.queue k.message
forget (WasTaken q i) = Gone q i

forget_found : (at end : ℕ) (i : Item) → forget (found at end i) ≡ i
forget_found at end (Entered q m) = refl
forget_found at end (Gone q i) = refl

lost_is : (q : List ℕ) (i : ℕ) (fs : List Found) → is_lost q i fs ≡ is_gone q i (map forget fs)
lost_is q i [] = refl
lost_is q i (WasPut k ∷ fs) = lost_is q i fs
lost_is q i (WasTaken r j ∷ fs) = ap (λ (b : Bool). (j == i && bytes_eq r q) || b) (lost_is q i fs)

chosen : (b : Bool) (k : Kept) (xs : List Kept) (ys : List Item) → map item_of xs ≡ ys → map item_of (cond b xs (k ∷ xs)) ≡ cond b ys (item_of k ∷ ys)
chosen true k xs ys e = e
chosen false k xs ys e = ap (λ (l : List Item). item_of k ∷ l) e

kept_is : (fs : List Found) → map item_of (kept fs) ≡ live_items (map forget fs)
kept_is [] = refl
kept_is (WasTaken q i ∷ fs) = kept_is fs
kept_is (WasPut k ∷ fs) =
    chosen (is_lost k.queue k.message.id fs) k (kept fs) (live_items (map forget fs)) (kept_is fs)
    ∙ ap (λ (b : Bool). cond b (live_items (map forget fs)) (item_of k ∷ live_items (map forget fs))) (lost_is k.queue k.message.id fs)

in_is : (at place : ℕ) (t : List Item) → map forget (founds_in at place t) ≡ t
in_is at place [] = refl
in_is at place (i ∷ t) = λ j. forget_found at (place + length (item_bytes i)) i j ∷ in_is at (place + length (item_bytes i)) t j

of_is : (at : ℕ) (ts : List Txn) → map forget (founds_of at ts) ≡ items_of ts
of_is at [] = refl
of_is at (t ∷ ts) = map-append forget (founds_in at (at + 4) t) (founds_of (at + length (txn_bytes t)) ts) ∙ (λ i. in_is at (at + 4) t i ++ of_is (at + length (txn_bytes t)) ts i)

items_append : (ts us : List Txn) → items_of (ts ++ us) ≡ items_of ts ++ items_of us
items_append [] us = refl
items_append (t ∷ ts) us = ap (λ (l : List Item). t ++ l) (items_append ts us) ∙ sym (append_assoc t (items_of ts) (items_of us))

all_is : (gate : ℕ) (bs : List (List Txn)) → map forget (founds gate bs) ≡ items_of (all_txns bs)
all_is gate [] = refl
all_is gate (b ∷ bs) = map-append forget (founds_of (gate + 13) b) (founds (gate + length (open_bytes b)) bs) ∙ (λ i. of_is (gate + 13) b i ++ all_is (gate + length (open_bytes b)) bs i) ∙ sym (items_append b (all_txns bs))

pub entries_live : (bytes : List ℕ) (commits : ℕ) (entries : List Kept) (r : IsRecovered bytes commits entries) → map item_of entries ≡ live r.txns
entries_live bytes commits entries r =
    ap (map item_of) r.entries_are ∙ kept_is (founds 16 r.journal.front.batches) ∙ ap live_items (all_is 16 r.journal.front.batches) ∙ ap (λ (ts : List Txn). live_items (items_of ts)) (sym r.journal.front.txns)
