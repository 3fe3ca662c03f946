-- what `select` tells: the truth of a selector for each message of an input
use Rattle.std.specs.Prelude.{◌≡◌, ℕ, ◌⊎◌, Option, List, ◌∷◌, ◌++◌, map, flat_map, codes, Ok, Err}
use Rattle.message_core.specs.Spelling.{Content}
use Rattle.outside_io.specs.Told.{Adds}
use Rattle.script_read.specs.Lines.{lines_of, numbered}
use Rattle.script_read.specs.Reading.{message_says}
use Rattle.script_read.specs.declared.faults.LineFault.{LineFault}
use Rattle.selector_tokens.specs.declared.faults.Kind.{Kind}
use Rattle.selector_read.specs.Trees.{Tree}
use Rattle.selector_read.specs.Selectors.{Outcome, IsOutcome, reads, refused}
use Rattle.selector_read.specs.Reading.{selector_of}
use Rattle.selector_eval.specs.Evaluation.{truth_of}
use Rattle.selector_eval.specs.declared.truths.Truth.{Truth}
use Rattle.selector_eval.specs.declared.truths.Truth.TheVariants.{True, False, Unknown}
use Rattle.broker_top.specs.Faults.{line_text, line_cause, selector_text}
use Rattle.broker_top.specs.Input.{IsTooLarge, IsWhole}

-- the text is this selector, or refused for this first fault: as it is read, and by the grammar
pub record IsRead (text : List ℕ) (outcome : Outcome) : Type 0 where
  pub said : selector_of text ≡ outcome
  pub means : IsOutcome text outcome

-- the line that tells a truth
abbrev pub truth_word : Truth → List ℕ
truth_word True = codes "true\n"
truth_word False = codes "false\n"
truth_word Unknown = codes "unknown\n"

-- the line that tells what the selector is of a message
abbrev pub truth_line : Tree → Content → List ℕ
truth_line selector message = truth_word (truth_of selector message)

-- one line for each message, in order
abbrev pub truths : Tree → List Content → List ℕ
truths selector messages = flat_map (truth_line selector) messages

-- each of these lines, of which none is blank, is a message
abbrev pub AreMessages : List (ℕ × List ℕ) → List Content → Type 0
AreMessages lines messages = map (λ line. message_says line.1) lines ≡ map (λ message. Ok message) messages

-- the line of this number is the first that is no message, and this is its first cause
pub record IsFirstRefused (lines : List (ℕ × List ℕ)) (number : ℕ) (cause : LineFault) : Type 0 where
  pub before : List (ℕ × List ℕ)
  pub messages : List Content
  pub passed : AreMessages before messages
  pub line : List ℕ
  pub after : List (ℕ × List ℕ)
  pub cut : lines ≡ before ++ (number, line) ∷ after
  pub fault : message_says line ≡ Err cause

-- the line is a message, and what the selector is of it was told
pub record TellsMessage (selector : Tree) (line : List ℕ) (written written' : Option (List ℕ)) : Type 0 where
  pub message : Content
  pub says : message_says line ≡ Ok message
  pub told : Adds written written' (truth_line selector message)

-- The text is a selector. The input was read to its end, every line of it that is not blank is a message, and what is told is the truth of each.
pub record IsSelected (selector text : List ℕ) (left left' : Option (List ℕ)) : Type 0 where
  pub tree : Tree
  pub is : IsRead selector (reads tree)
  pub input : List ℕ
  pub whole : IsWhole input left left'
  pub messages : List Content
  pub says : AreMessages (numbered 1 (lines_of input)) messages
  pub told : text ≡ truths tree messages

-- The text is no selector, for this fault, which is its first. Nothing was read.
pub record IsSelectorRefused (selector text : List ℕ) (left left' : Option (List ℕ)) : Type 0 where
  pub at : ℕ
  pub kind : Kind
  pub is : IsRead selector (refused at kind)
  pub unread : left' ≡ left
  pub told : text ≡ selector_text at kind

-- The input was read to its end, and a line is refused for this cause, which is the first.
pub record IsMessageRefused (text : List ℕ) (left left' : Option (List ℕ)) : Type 0 where
  pub input : List ℕ
  pub whole : IsWhole input left left'
  pub line : ℕ
  pub cause : LineFault
  pub says : IsFirstRefused (numbered 1 (lines_of input)) line cause
  pub told : text ≡ line_text line (line_cause cause)

-- The text is a selector, and the input is refused: it is too large, or a line is no message.
pub record IsInputRefused (selector text : List ℕ) (left left' : Option (List ℕ)) : Type 0 where
  pub tree : Tree
  pub is : IsRead selector (reads tree)
  pub refused : IsTooLarge text left left' ⊎ IsMessageRefused text left left'
