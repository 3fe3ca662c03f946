-- What tokens do, one after another, and what is proved of it in Sound.antt, Complete.antt and Outcomes.antt.
use Rattle.std.specs.Prelude.{ℕ, List, [], ◌∷◌}
use Rattle.selector_tokens.specs.declared.tokens.Token.{Token}
use Rattle.selector_read.specs.Reading.{State, Step, goes, unexpected, too_deep, open_pattern, step}

-- what a state does after a step
abbrev pub after_step : (State → Step) → Step → Step
after_step f (goes next) = f next
after_step f unexpected = unexpected
after_step f too_deep = too_deep
after_step f open_pattern = open_pattern

-- the tokens from a state on, up to the first that is at fault, where `most` forms that count may be unfinished
unfoldable pub run : ℕ → State → List Token → Step
run most s [] = goes s
run most s (t ∷ ts) = after_step (λ next. run most next ts) (step most s t)
