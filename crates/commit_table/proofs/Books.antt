-- Histories with more events at their end.
use Rattle.std.proofs.Common.{◌≡◌, ◌≢◌, ◌+◌, ◌-◌, ◌==◌, ℕ, List, [], ◌∷◌, ◌++◌, length, take, drop, refl, sym, ap, ◌∙◌, arith, length-append, length-drop, take-append-drop, ne_eqb, filter}
use Rattle.std.proofs.lemmas.Bool.{cond-false}
use Rattle.std.specs.Prelude.{Bool, true, false, sum_by}
use Rattle.std.proofs.lemmas.List.Sums.{sum_by-cons}
use Rattle.journal_format.specs.Spelling.{Txn, txn_bytes}
use Rattle.journal_format.specs.declared.events.Event.{Event}
use Rattle.journal_format.specs.declared.events.Event.TheVariants.{Sub, Settle, Lost}
use Rattle.journal_core.specs.History.{Ledger, happens, from}
use Rattle.commit_table.specs.Outcomes.{Book, capped, stored_from, failed_all, noted, noted_all, one_ticket, is_by, failed_after, LegalFrom}

pub book_append : (b : Book) (xs ys : List Event) → noted_all b (xs ++ ys) ≡ noted_all (noted_all b xs) ys
book_append b [] ys = refl
book_append b (x ∷ xs) ys = book_append (noted b x) xs ys

pub failed_append : (f : Bool) (xs ys : List Event) → failed_after f (xs ++ ys) ≡ failed_after (failed_after f xs) ys
failed_append f [] ys = refl
failed_append f (Sub c t ∷ xs) ys = failed_append f xs ys
failed_append f (Settle n true m s r ∷ xs) ys = failed_append false xs ys
failed_append f (Settle n false m s r ∷ xs) ys = failed_append true xs ys
failed_append f (Lost c r ∷ xs) ys = failed_append f xs ys

-- how many wait after events before which so many waited
abbrev pub waits : ℕ → List Event → ℕ
waits n [] = n
waits n (Sub c t ∷ es) = waits (n + 1) es
waits n (Settle k ok m s r ∷ es) = waits (n - k) es
waits n (Lost c r ∷ es) = waits n es

pub legal_append : (n : ℕ) (f : Bool) (xs ys : List Event) → LegalFrom n f xs → LegalFrom (waits n xs) (failed_after f xs) ys → LegalFrom n f (xs ++ ys)
legal_append n f [] ys a b = b
legal_append n f (Sub c t ∷ xs) ys a b = legal_append (n + 1) f xs ys a b
legal_append n f (Settle k true m s r ∷ xs) ys a b = (a.0, a.1, legal_append (n - k) false xs ys a.2 b)
legal_append n f (Settle k false m s r ∷ xs) ys a b = (a.0, a.1, a.2, legal_append (n - k) true xs ys a.3 b)
legal_append n f (Lost c r ∷ xs) ys a b = (a.0, legal_append n f xs ys a.1 b)

pub waits_book : (b : Book) (es : List Event) → waits (length b.waiting) es ≡ length (noted_all b es).waiting
waits_book b [] = refl
waits_book b (Sub c t ∷ es) = ap (λ n. waits n es) (sym (length-append b.waiting (t ∷ []))) ∙ waits_book (noted b (Sub c t)) es
waits_book b (Settle n true m s r ∷ es) = ap (λ k. waits k es) (sym (length-drop n b.waiting)) ∙ waits_book (noted b (Settle n true m s r)) es
waits_book b (Settle n false m s r ∷ es) = ap (λ k. waits k es) (sym (length-drop n b.waiting)) ∙ waits_book (noted b (Settle n false m s r)) es
waits_book b (Lost c r ∷ es) = waits_book b es

stored_length : (at : ℕ) (ts : List Txn) → length (stored_from at ts) ≡ length ts
stored_length at [] = refl
stored_length at (t ∷ ts) = let r = stored_length (capped (at + length (txn_bytes t))) ts in omega (arith, r)

failed_length : (ts : List Txn) → length (failed_all ts) ≡ length ts
failed_length [] = refl
failed_length (t ∷ ts) = let r = failed_length ts in omega (arith, r)

-- each event adds its tickets
one_more : (b : Book) (e : Event) → length (noted b e).outcomes + length (noted b e).waiting ≡ (length b.outcomes + length b.waiting) + one_ticket e
one_more b (Sub c t) = omega (arith, length-append b.waiting (t ∷ []))
one_more b (Settle n true m s r) =
    let all = ap length (take-append-drop n b.waiting) in
    omega (arith, length-append b.outcomes (stored_from (capped (b.gate + 13)) (take n b.waiting)), stored_length (capped (b.gate + 13)) (take n b.waiting), length-append (take n b.waiting) (drop n b.waiting), all)
one_more b (Settle n false m s r) =
    let all = ap length (take-append-drop n b.waiting) in
    omega (arith, length-append b.outcomes (failed_all (take n b.waiting)), failed_length (take n b.waiting), length-append (take n b.waiting) (drop n b.waiting), all)
one_more b (Lost c r) = omega arith

pub tickets_book : (b : Book) (es : List Event) → length (noted_all b es).outcomes + length (noted_all b es).waiting ≡ (length b.outcomes + length b.waiting) + sum_by one_ticket es
tickets_book b [] = omega arith
tickets_book b (e ∷ es) = let r = tickets_book (noted b e) es in let s = one_more b e in omega (arith, sum_by-cons one_ticket e es)

-- both accounts have the same waiting
pub waits_same : (l : Ledger) (b : Book) (es : List Event) → l.waiting ≡ b.waiting → (from l es).waiting ≡ (noted_all b es).waiting
waits_same l b [] same = same
waits_same l b (Sub c t ∷ es) same = waits_same (happens l (Sub c t)) (noted b (Sub c t)) es (ap (λ (ws : List Txn). ws ++ (t ∷ [])) same)
waits_same l b (Settle n true m s r ∷ es) same = waits_same (happens l (Settle n true m s r)) (noted b (Settle n true m s r)) es (ap (drop n) same)
waits_same l b (Settle n false m s r ∷ es) same = waits_same (happens l (Settle n false m s r)) (noted b (Settle n false m s r)) es (ap (drop n) same)
waits_same l b (Lost c r ∷ es) same = waits_same l b es same

-- an event of one caller is of no other
pub other_sub : (k h : ℕ) (t : Txn) (n : ℕ) (ok : Bool) (m s r : ℕ) → k ≢ h → filter (is_by k) (Sub h t ∷ (Settle n ok m s r ∷ [])) ≡ []
other_sub k h t n ok m s r off = cond-false (h == k) (Sub h t ∷ []) [] (ne_eqb h k (λ z. off (sym z)))

pub other_lost : (k h r : ℕ) → k ≢ h → filter (is_by k) (Lost h r ∷ []) ≡ []
other_lost k h r off = cond-false (h == k) (Lost h r ∷ []) [] (ne_eqb h k (λ z. off (sym z)))
