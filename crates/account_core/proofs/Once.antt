-- holders, and dequeues
use Rattle.std.proofs.Common.{◌≡◌, inl, ℕ, List, ◌∷◌, ◌++◌, ⊎_elim}
use Rattle.queue_model.specs.declared.deeds.Act.TheVariants.{Deq}
use Rattle.queue_model.specs.declared.deeds.Deed.{Deed}
use Rattle.queue_model.specs.declared.queues.Queue.{Queue}
use Rattle.queue_model.specs.declared.rows.RowState.{RowState}
use Rattle.queue_model.specs.declared.rows.RowState.TheVariants.{Locked, Dequeued, Deleted}
use Rattle.queue_model.specs.History.{after, Legal, deed}
use Rattle.queue_model.specs.State.{IsIn}
use Rattle.queue_model.specs.Table.{acted}
use Rattle.queue_model.proofs.Histories.{legal_rest, legal_front}
use Rattle.queue_model.proofs.Stable.{gone_stays}
use Rattle.queue_model.proofs.Owns.{own_dequeued}

-- a row is in one state
pub one_state : (q : Queue) (r : ℕ) (s t : RowState) → IsIn q r s → IsIn q r t → s ≡ t
one_state q r s t p u =
    let found = p.1 in
    let again = u.1 in
    let state = p.2 in
    let other = u.2 in
    cc

pub dequeued_once : (o : Queue) (ds es fs : List Deed) (a b r : ℕ) → Legal o (ds ++ (deed a (Deq r) ∷ (es ++ (deed b (Deq r) ∷ fs)))) → ⊥
dequeued_once o ds es fs a b r legal =
    let here = legal_rest o ds (deed a (Deq r) ∷ (es ++ (deed b (Deq r) ∷ fs))) legal in
    let q : Queue = acted (after o ds) a (Deq r) in
    let gone = gone_stays q es r (legal_front q es (deed b (Deq r) ∷ fs) here.1) (inl (own_dequeued (after o ds) a r here.0)) in
    let again = legal_rest q es (deed b (Deq r) ∷ fs) here.1 in
    ⊎_elim
    (λ (d : IsIn (after q es) r Dequeued). let e : Dequeued ≡ Locked b = one_state (after q es) r Dequeued (Locked b) d again.0 in absurd (cc))
    (λ (d : IsIn (after q es) r Deleted). let e : Deleted ≡ Locked b = one_state (after q es) r Deleted (Locked b) d again.0 in absurd (cc))
    gone
