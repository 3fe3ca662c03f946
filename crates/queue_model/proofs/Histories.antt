-- histories one after the other
use Rattle.std.proofs.Common.{◌≡◌, ◌≢◌, ℕ, List, [], ◌∷◌, ◌++◌, refl, eq-eqb, ne_eqb}
use Rattle.std.proofs.lemmas.Bool.{cond-true, cond-false}
use Rattle.std.proofs.lemmas.List.Elements.{filter-append}
use Rattle.queue_model.specs.declared.deeds.Deed.{Deed}
use Rattle.queue_model.specs.declared.queues.Queue.{Queue}
use Rattle.queue_model.specs.Table.{acted}
use Rattle.queue_model.specs.History.{after, Legal, is_by, own}

-- the state after two histories in a row
pub after-append : (q : Queue) (ds es : List Deed) → after q (ds ++ es) ≡ after (after q ds) es
after-append q [] es = refl
after-append q (d ∷ ds) es = after-append (acted q d.caller d.act) ds es

-- two histories in a row are legal if each is where it stands
pub legal-append : (q : Queue) (ds es : List Deed) → Legal q ds → Legal (after q ds) es → Legal q (ds ++ es)
legal-append q [] es front rest = rest
legal-append q (d ∷ ds) es front rest = (front.0, legal-append (acted q d.caller d.act) ds es front.1 rest)

-- the front of a legal history is legal
pub legal_front : (q : Queue) (ds es : List Deed) → Legal q (ds ++ es) → Legal q ds
legal_front q [] es legal = tt
legal_front q (d ∷ ds) es legal = (legal.0, legal_front (acted q d.caller d.act) ds es legal.1)

-- the rest of a legal history is legal where it stands
pub legal_rest : (q : Queue) (ds es : List Deed) → Legal q (ds ++ es) → Legal (after q ds) es
legal_rest q [] es legal = legal
legal_rest q (d ∷ ds) es legal = legal_rest (acted q d.caller d.act) ds es legal.1

-- a caller's deeds of two histories in a row
pub own-append : (h : ℕ) (ds es : List Deed) → own h (ds ++ es) ≡ own h ds ++ own h es
own-append h ds es = filter-append (is_by h) ds es

-- a deed of the caller stands among its own
pub own-cons_mine : (d : Deed) (ds : List Deed) → own d.caller (d ∷ ds) ≡ d ∷ own d.caller ds
own-cons_mine d ds = cond-true (is_by d.caller d) (d ∷ own d.caller ds) (own d.caller ds) (eq-eqb d.caller d.caller refl)

-- another's deed does not
pub own-cons_other : (h : ℕ) (d : Deed) (ds : List Deed) → d.caller ≢ h → own h (d ∷ ds) ≡ own h ds
own-cons_other h d ds other = cond-false (is_by h d) (d ∷ own h ds) (own h ds) (ne_eqb d.caller h other)

-- a deed is its caller's own
pub own-mine : (d : Deed) → own d.caller (d ∷ []) ≡ d ∷ []
own-mine d = own-cons_mine d []

-- and no other's
pub own-other : (h : ℕ) (d : Deed) → d.caller ≢ h → own h (d ∷ []) ≡ []
own-other h d other = own-cons_other h d [] other
