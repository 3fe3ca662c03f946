-- What a lexer has still to read, and what its next token leaves.
use Rattle.std.specs.Prelude.{◌≡◌, ℕ, List, drop, length, Result, Ok, Err, Option, Some, None}
use Rattle.selector_tokens.specs.declared.faults.SelectorFault.{SelectorFault}
use Rattle.selector_tokens.specs.declared.faults.SelectorFault.TheVariants.{Bad, NoMemory}
use Rattle.selector_tokens.specs.declared.lexer.Lexer.{Lexer}
use Rattle.selector_tokens.specs.declared.tokens.Placed.{Placed}
use Rattle.selector_tokens.specs.Lexing.{Lexed, lexed_from, stops, then_lexed}

-- the tokens that are still to come, and what stands at their end
abbrev pub ahead : Lexer → Lexed
ahead lexer = lexed_from 0 lexer.close lexer.at (drop lexer.at lexer.text.now)

-- the text that is read
abbrev pub text_of : Lexer → List ℕ
text_of lexer = lexer.text.now

-- how many bytes are still to come
abbrev pub bytes_left : Lexer → ℕ
bytes_left lexer = length (drop lexer.at lexer.text.now)

-- A token is the next one; none comes exactly at the end of a text without a fault; a fault is the one at which the
-- tokens stop. Only a token changes what is still to come. Want of memory may come in place of any.
abbrev pub IsNext : Lexer → Lexer → Result (Option Placed) SelectorFault → Type 0
IsNext old new (Ok (Some p)) = ahead old ≡ then_lexed p.at p.token (ahead new)
IsNext old new (Ok None) = (ahead old ≡ stops (length (text_of old)) None) × (ahead new ≡ ahead old)
IsNext old new (Err (Bad at kind)) = (ahead old ≡ stops at (Some kind)) × (ahead new ≡ ahead old)
IsNext old new (Err NoMemory) = ahead new ≡ ahead old
