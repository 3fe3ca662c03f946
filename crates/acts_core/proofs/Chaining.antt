-- chains of calls
use Rattle.std.proofs.Common.{◌≡◌, ℕ, List, [], ◌∷◌, ◌++◌, refl, sym, ap, ◌∙◌, append_assoc, append-nil}
use mathlib.Core.List.{IsPrefix}
use Rattle.queue_model.specs.declared.deeds.Act.{Act}
use Rattle.queue_model.specs.declared.deeds.Deed.{Deed}
use Rattle.queue_model.specs.History.{own, deed, deeds_of}
use Rattle.queue_model.proofs.Prefixes.{prefix_self, prefix_trans}
use Rattle.acts_core.specs.Calls.{acts_of}
use Rattle.acts_core.specs.Chains.{Made, Quiet, Chain, acts_in}
use Rattle.acts_core.specs.Meaning.{Meets}
use Rattle.acts_core.specs.Sight.{Plan}

-- Quiet

pub quiet_self : (h : ℕ) (s : List Deed) → Quiet h s s
quiet_self h s = record { grows = prefix_self s; own_acts = refl }

quiet_trans : (h : ℕ) (a b c : List Deed) → Quiet h a b → Quiet h b c → Quiet h a c
quiet_trans h a b c p q = record { grows = prefix_trans a b c p.grows q.grows; own_acts = q.own_acts ∙ p.own_acts }

-- Chains

-- a chain may begin earlier, while its caller is quiet
chain_earlier : (p : Plan) (h : ℕ) (a b : List Deed) (ms : List Made) (c : List Deed) → Quiet h a b → Chain p h b ms c → Chain p h a ms c
chain_earlier p h a b [] c q chain = quiet_trans h a b c q chain
chain_earlier p h a b (m ∷ ms) c q chain = (quiet_trans h a b m.before q chain.0, chain.1, chain.2)

-- and end later
pub chain_later : (p : Plan) (h : ℕ) (a : List Deed) (ms : List Made) (b c : List Deed) → Chain p h a ms b → Quiet h b c → Chain p h a ms c
chain_later p h a [] b c chain q = quiet_trans h a b c chain q
chain_later p h a (m ∷ ms) b c chain q = (chain.0, chain.1, chain_later p h m.later ms b c chain.2 q)

-- two chains in a row
pub chain_append : (p : Plan) (h : ℕ) (a : List Deed) (ms : List Made) (b : List Deed) (ns : List Made) (c : List Deed) → Chain p h a ms b → Chain p h b ns c → Chain p h a (ms ++ ns) c
chain_append p h a [] b ns c first second = chain_earlier p h a b ns c first second
chain_append p h a (m ∷ ms) b ns c first second = (first.0, first.1, chain_append p h m.later ms b ns c first.2 second)

-- one call is a chain
pub chain_one : (p : Plan) (h : ℕ) (m : Made) → Meets p h m.before m.later m.call m.answer → Chain p h m.before (m ∷ []) m.later
chain_one p h m meets = (quiet_self h m.before, meets, quiet_self h m.later)

-- acts as deeds, of two lists in a row
pub deeds_append : (h : ℕ) (xs ys : List Act) → deeds_of h (xs ++ ys) ≡ deeds_of h xs ++ deeds_of h ys
deeds_append h [] ys = refl
deeds_append h (x ∷ xs) ys = ap (λ (ds : List Deed). deed h x ∷ ds) (deeds_append h xs ys)

-- the own acts of a chain are the acts of its calls
pub chain_own : (p : Plan) (h : ℕ) (a : List Deed) (ms : List Made) (b : List Deed) → Chain p h a ms b → own h b ≡ own h a ++ deeds_of h (acts_in p ms)
chain_own p h a [] b chain = chain.own_acts ∙ sym (append-nil (own h a))
chain_own p h a (m ∷ ms) b chain =
    let acts = acts_of p m.call m.answer in
    chain_own p h m.later ms b chain.2
    ∙ ap (λ (ds : List Deed). ds ++ deeds_of h (acts_in p ms)) (chain.1.own_acts ∙ ap (λ (ds : List Deed). ds ++ deeds_of h acts) chain.0.own_acts)
    ∙ append_assoc (own h a) (deeds_of h acts) (deeds_of h (acts_in p ms))
    ∙ ap (λ (ds : List Deed). own h a ++ ds) (sym (deeds_append h acts (acts_in p ms)))

-- a chain leads on
pub chain_grows : (p : Plan) (h : ℕ) (a : List Deed) (ms : List Made) (b : List Deed) → Chain p h a ms b → IsPrefix a b
chain_grows p h a [] b chain = chain.grows
chain_grows p h a (m ∷ ms) b chain = prefix_trans a m.later b (prefix_trans a m.before m.later chain.0.grows chain.1.grows) (chain_grows p h m.later ms b chain.2)

-- A caller's calls are a chain of the whole history, and its own deeds there are their acts, where what it had seen is a beginning and has all its deeds.
pub one_history : (p : Plan) (h : ℕ) (ms : List Made) (seen all : List Deed) → Chain p h [] ms seen → IsPrefix seen all → own h all ≡ own h seen → Chain p h [] ms all × (own h all ≡ deeds_of h (acts_in p ms))
one_history p h ms seen all chain grows mine =
    (chain_later p h [] ms seen all chain (record { grows = grows; own_acts = mine }), mine ∙ chain_own p h [] ms seen chain)
