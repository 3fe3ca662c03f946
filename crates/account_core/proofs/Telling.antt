-- texts of accounts, and what a carry keeps
use Rattle.std.proofs.Common.{◌≡◌, ℕ, List, [], ◌∷◌, ◌++◌, map, refl, ap, ap₂, ◌∙◌}
use Rattle.std.specs.List.{flat_map, AllByRecursion}
use Rattle.queue_model.specs.declared.rows.Row.{Row}
use Rattle.queue_model.specs.declared.rows.RowState.TheVariants.{Available}
use Rattle.defs_read.specs.Defined.{Defined}
use Rattle.script_read.specs.declared.lines.Op.{Op}
use Rattle.report_core.specs.declared.answers.Answer.{Answer}
use Rattle.report_core.specs.declared.answers.Dropped.{Dropped}
use Rattle.report_core.specs.Texts.{queue_lines}
use Rattle.phase_text.specs.Logs.{line_text, log_text, rest_text, phase_text}
use Rattle.phase_text.specs.declared.logs.Log.{Log}
use Rattle.phase_text.specs.declared.logs.Rest.{Rest}
use Rattle.account_core.specs.Accounts.{Account}
use Rattle.account_core.specs.Carry.{carried, handed_on, lasting}
use Rattle.account_core.specs.Laws.{goods}
use Rattle.account_core.specs.Played.{Played, rest_of}
use Rattle.account_core.specs.Stories.{Story, told}
use Rattle.account_core.specs.Texts.{LogsTell, RestsTell, account_text, actor_names, queue_names, queues_text, story_text}

-- Logs

pub log_told : (ops : List Op) (answers : List Answer) (log : List (ℕ × Answer)) → map (λ e. e.0) log ≡ map (λ op. op.line) ops → map (λ e. e.1) log ≡ answers → log ≡ told ops answers
log_told [] answers [] numbers said = refl
log_told [] answers (e ∷ log) numbers said = absurd (cc)
log_told (op ∷ ops) answers [] numbers said = absurd (cc)
log_told (op ∷ ops) [] (e ∷ log) numbers said = absurd (cc)
log_told (op ∷ ops) (a ∷ answers) (e ∷ log) numbers said =
    let number : e.0 ≡ op.line = (cc) in
    let answer : e.1 ≡ a = (cc) in
    let others : map (λ x. x.0) log ≡ map (λ o. o.line) ops = (cc) in
    let more : map (λ x. x.1) log ≡ answers = (cc) in
    ap₂ (λ (x : ℕ × Answer) (xs : List (ℕ × Answer)). x ∷ xs) (ap₂ (λ (n : ℕ) (b : Answer). (n, b)) number answer) (log_told ops answers log others more)

logs_told : (defs : List Defined) (stories : List Story) (logs : List Log) (ss : List Story) → LogsTell logs ss → flat_map (log_text (queue_names defs) (actor_names stories)) logs ≡ flat_map (story_text defs stories) ss
logs_told defs stories [] [] tell = refl
logs_told defs stories [] (s ∷ ss) tell = absurd tell
logs_told defs stories (log ∷ logs) [] tell = absurd tell
logs_told defs stories (log ∷ logs) (s ∷ ss) tell =
    ap₂ (λ (x y : List ℕ). x ++ y)
    (ap₂ (λ (name : List ℕ) (lines : List (ℕ × Answer)). flat_map (line_text (queue_names defs) (actor_names stories) log.drops.items name) lines) tell.0 tell.1
    ∙ ap (λ (drops : List Dropped). flat_map (line_text (queue_names defs) (actor_names stories) drops s.name) (told s.ops s.answers)) tell.2)
    (logs_told defs stories logs ss tell.3)

rests_told : (actors : List (List ℕ)) (rests : List Rest) (defs : List Defined) (queues : List Played) → RestsTell rests defs queues → flat_map (rest_text actors) rests ≡ queues_text actors defs queues
rests_told actors [] [] [] tell = refl
rests_told actors [] [] (p ∷ queues) tell = absurd tell
rests_told actors [] (def ∷ defs) [] tell = absurd tell
rests_told actors [] (def ∷ defs) (p ∷ queues) tell = absurd tell
rests_told actors (rest ∷ rests) [] [] tell = absurd tell
rests_told actors (rest ∷ rests) [] (p ∷ queues) tell = absurd tell
rests_told actors (rest ∷ rests) (def ∷ defs) [] tell = absurd tell
rests_told actors (rest ∷ rests) (def ∷ defs) (p ∷ queues) tell =
    ap₂ (λ (x y : List ℕ). x ++ y)
    (ap₂ (λ name entries. queue_lines actors name entries) tell.0 tell.1)
    (rests_told actors rests defs queues tell.2)

pub account_told : (defs : List Defined) (a : Account) (logs : List Log) (rests : List Rest) → LogsTell logs a.stories → RestsTell rests defs a.queues → phase_text (queue_names defs) (actor_names a.stories) logs rests ≡ account_text defs a
account_told defs a logs rests of_logs of_rests =
    ap₂ (λ (x y : List ℕ). x ++ y) (logs_told defs a.stories logs a.stories of_logs) (rests_told (actor_names a.stories) rests defs a.queues of_rests)

-- Carries

keeps : (xs : List Row) → map goods (map carried xs) ≡ map goods xs
keeps [] = refl
keeps (x ∷ xs) = ap (λ rest. goods x ∷ rest) (keeps xs)

pub carry_keeps : (p : Played) → map goods (handed_on p) ≡ map goods (lasting p.plan.kind (rest_of p))
carry_keeps p = keeps (lasting p.plan.kind (rest_of p))

frees : (xs : List Row) → AllByRecursion (λ x. x.state ≡ Available) (map carried xs)
frees [] = tt
frees (x ∷ xs) = (refl, frees xs)

pub carry_frees : (p : Played) → AllByRecursion (λ x. x.state ≡ Available) (handed_on p)
carry_frees p = frees (lasting p.plan.kind (rest_of p))
