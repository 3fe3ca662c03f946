-- What the reading of the tokens from a state on comes to, token by token.
use Rattle.std.proofs.Common.{◌≡◌, ℕ, ◌<◌, ◌≤◌, List, length, Some, None, Err, refl, sym, ap, ◌∙◌, arith}
use Rattle.std.specs.Prelude.{nat_lt}
use Rattle.std.proofs.lemmas.Bool.{ltb-true, lt-ltb, false_from_ne_true}
use Rattle.selector_tokens.specs.declared.faults.Kind.TheVariants.{TooLong, TooDeep, Unexpected}
use Rattle.selector_tokens.specs.declared.faults.SelectorFault.{SelectorFault}
use Rattle.selector_tokens.specs.declared.faults.SelectorFault.TheVariants.{Bad, NoMemory}
use Rattle.selector_tokens.specs.declared.tokens.Token.{Token}
use Rattle.selector_tokens.specs.declared.lexer.Lexer.{Lexer}
use Rattle.selector_tokens.specs.Lexer.{ahead, IsNext}
use Rattle.selector_tokens.specs.Lexing.{Lexed, lexed, stops, then_lexed}
use Rattle.selector_read.specs.declared.modes.StepFault.{StepFault}
use Rattle.selector_read.specs.declared.modes.StepFault.TheVariants as fault
use Rattle.selector_read.specs.declared.trees.Expr.{Expr}
use Rattle.selector_read.specs.Grammar.{most_nested}
use Rattle.selector_read.specs.Modes.{ReadsAs, Stops, TellsStop}
use Rattle.selector_read.specs.Reading.{Begun, Mode, Step, goes, unexpected, too_deep, open_pattern, state, step, step_in, finished, finished_in, outcome_from, selector_of, start}
use Rattle.selector_read.specs.Selectors.{Outcome, reads, refused, longest_text}
use Rattle.selector_read.specs.Trees.{tree_of}

-- the outcome of what is ahead
abbrev pub outcome_ahead : List Begun → Mode → ℕ → ℕ → Lexed → Outcome
outcome_ahead fs m older last l = outcome_from (state fs m) older last l.tokens l.stop

-- what is left after a step
abbrev after : ℕ → ℕ → ℕ → Lexed → Step → Outcome
after older last at l (goes next) = outcome_from next last at l.tokens l.stop
after older last at l unexpected = refused at Unexpected
after older last at l too_deep = refused at TooDeep
after older last at l open_pattern = refused older Unexpected

first_step : (fs : List Begun) (m : Mode) (older last at : ℕ) (t : Token) (l : Lexed) → outcome_ahead fs m older last (then_lexed at t l) ≡ after older last at l (step_in most_nested fs m t)
unfolding outcome_from step
first_step fs m older last at t l = refl

from_token : (fs gs : List Begun) (m n : Mode) (older last at : ℕ) (t : Token) (l : Lexed) → step_in most_nested fs m t ≡ goes (state gs n)
    → outcome_ahead fs m older last (then_lexed at t l) ≡ outcome_ahead gs n last at l
from_token fs gs m n older last at t l does = first_step fs m older last at t l ∙ ap (after older last at l) does

-- a token takes the reading on
pub token_goes : (old new : Lexed) (fs gs : List Begun) (m n : Mode) (older last at : ℕ) (t : Token) (o : Outcome) → old ≡ then_lexed at t new → step_in most_nested fs m t ≡ goes (state gs n)
    → outcome_ahead fs m older last old ≡ o → outcome_ahead gs n last at new ≡ o
token_goes old new fs gs m n older last at t o first does so_far = sym (from_token fs gs m n older last at t new does) ∙ (ap (outcome_ahead fs m older last) (sym first) ∙ so_far)

-- a token stops it
stopped : (fs : List Begun) (m : Mode) (older last at : ℕ) (t : Token) (l : Lexed) (why : StepFault) (told : SelectorFault) → Stops why (step_in most_nested fs m t) → TellsStop why at older told
    → ReadsAs (Err told) (outcome_ahead fs m older last (then_lexed at t l))
stopped fs m older last at t l fault.Unexpected told does tells = rw tells (first_step fs m older last at t l ∙ ap (after older last at l) does)
stopped fs m older last at t l fault.TooDeep told does tells = rw tells (first_step fs m older last at t l ∙ ap (after older last at l) does)
stopped fs m older last at t l fault.OpenPattern told does tells = rw tells (first_step fs m older last at t l ∙ ap (after older last at l) does)
stopped fs m older last at t l fault.NoMemory told does tells = rw tells tt

pub token_stops : (old new : Lexed) (fs : List Begun) (m : Mode) (older last at : ℕ) (t : Token) (o : Outcome) (why : StepFault) (told : SelectorFault) → old ≡ then_lexed at t new
    → Stops why (step_in most_nested fs m t) → TellsStop why at older told → outcome_ahead fs m older last old ≡ o → ReadsAs (Err told) o
token_stops old new fs m older last at t o why told first does tells so_far = rw (← so_far, first) (stopped fs m older last at t new why told does tells)

-- no token can be read here
pub no_token : (old new : Lexer) (fs : List Begun) (m : Mode) (older last : ℕ) (o : Outcome) (e : SelectorFault) → IsNext old new (Err e) → outcome_ahead fs m older last (ahead old) ≡ o → ReadsAs (Err e) o
unfolding outcome_from
no_token old new fs m older last o (Bad at kind) next so_far = rw (← so_far, next.0) refl
no_token old new fs m older last o NoMemory next so_far = tt

-- the end of the text
pub ends_whole : (old : Lexed) (at : ℕ) (fs : List Begun) (m : Mode) (older last : ℕ) (o : Outcome) (e : Expr) → old ≡ stops at None → finished_in fs m ≡ Some (tree_of e) → outcome_ahead fs m older last old ≡ o → o ≡ reads (tree_of e)
unfolding outcome_from finished
ends_whole old at fs m older last o e end whole so_far = sym so_far ∙ rw (end, whole) refl

pub ends_early : (old : Lexed) (at : ℕ) (fs : List Begun) (m : Mode) (older last : ℕ) (o : Outcome) → old ≡ stops at None → finished_in fs m ≡ None → outcome_ahead fs m older last old ≡ o → o ≡ refused at Unexpected
unfolding outcome_from finished
ends_early old at fs m older last o end early so_far = sym so_far ∙ rw (end, early) refl

-- a text that is too long, and one that is not
pub selector_of-long : (s : List ℕ) → longest_text < length s → selector_of s ≡ refused longest_text TooLong
unfolding selector_of
selector_of-long s long = rw (lt-ltb longest_text (length s) long) refl

pub selector_of-short : (s : List ℕ) → length s ≤ longest_text → selector_of s ≡ outcome_from start 0 0 (lexed s).tokens (lexed s).stop
unfolding selector_of
selector_of-short s short = rw (false_from_ne_true (nat_lt longest_text (length s)) (λ long. let l : longest_text < length s = ltb-true longest_text (length s) long in omega arith)) refl
