-- where each word stands in the one list of all words
use Rattle.std.specs.Prelude.{ℕ, ◌+◌, ◌*◌}
use Rattle.queue_model.specs.declared.steps.DraftWord.{DraftWord}
use Rattle.queue_model.specs.declared.steps.DraftWord.TheVariants as drafts
use Rattle.queue_model.specs.declared.steps.Node.{Node}
use Rattle.queue_model.specs.declared.steps.Node.TheVariants as nodes
use Rattle.queue_model.specs.declared.steps.WordName.{WordName}
use Rattle.queue_model.specs.declared.steps.WordName.TheVariants as names
use Rattle.link_core.specs.declared.places.TheConstants.{TOP, CALLERS, DEPTH, ROWS_FROM, ROW_WORDS, STATE_AT, MASK_AT, PLACE_AT, IDENT_AT, SIZE_AT, LIST_AT, LIST_WORDS, TAIL_AT, MARK_AT, COUNT_AT, BELLS_AT}

-- Places of words. Three words of the whole table come first, then the words of each row, and behind the last row the
-- words of each list.

-- the words of a table of so many rows and lists
abbrev pub words_of : ℕ → ℕ → ℕ
words_of rows lists = ROWS_FROM + ROW_WORDS * rows + LIST_WORDS * lists

-- Rows

-- the link of a row
abbrev pub row_link_of : ℕ → ℕ
row_link_of r = ROWS_FROM + ROW_WORDS * r

-- the state word of a row
abbrev pub state_of : ℕ → ℕ
state_of r = ROWS_FROM + ROW_WORDS * r + STATE_AT

-- the mask, place, identity, size or list word of a row
abbrev pub draft_of : ℕ → DraftWord → ℕ
draft_of r drafts.Mask = ROWS_FROM + ROW_WORDS * r + MASK_AT
draft_of r drafts.Place = ROWS_FROM + ROW_WORDS * r + PLACE_AT
draft_of r drafts.Ident = ROWS_FROM + ROW_WORDS * r + IDENT_AT
draft_of r drafts.Size = ROWS_FROM + ROW_WORDS * r + SIZE_AT
draft_of r drafts.List = ROWS_FROM + ROW_WORDS * r + LIST_AT

-- Lists, behind so many rows

-- the link of a list's head
abbrev pub head_of : ℕ → ℕ → ℕ
head_of rows l = ROWS_FROM + ROW_WORDS * rows + LIST_WORDS * l

-- the tail of a list
abbrev pub tail_of : ℕ → ℕ → ℕ
tail_of rows l = ROWS_FROM + ROW_WORDS * rows + LIST_WORDS * l + TAIL_AT

-- the mark of a list
abbrev pub mark_of : ℕ → ℕ → ℕ
mark_of rows l = ROWS_FROM + ROW_WORDS * rows + LIST_WORDS * l + MARK_AT

-- the count of a list
abbrev pub count_of : ℕ → ℕ → ℕ
count_of rows l = ROWS_FROM + ROW_WORDS * rows + LIST_WORDS * l + COUNT_AT

-- the bell of a consumer at a list
abbrev pub bell_of : ℕ → ℕ → ℕ → ℕ
bell_of rows c l = ROWS_FROM + ROW_WORDS * rows + LIST_WORDS * l + BELLS_AT + c

-- Names

-- the link of a head or of a row
abbrev pub link_of : ℕ → Node → ℕ
link_of rows (nodes.Head l) = head_of rows l
link_of rows (nodes.Row r) = row_link_of r

-- the word of a name
abbrev pub place_of_word : ℕ → WordName → ℕ
place_of_word rows names.Top = TOP
place_of_word rows names.Callers = CALLERS
place_of_word rows names.Depth = DEPTH
place_of_word rows (names.Link node) = link_of rows node
place_of_word rows (names.Tail l) = tail_of rows l
place_of_word rows (names.Mark l) = mark_of rows l
place_of_word rows (names.Count l) = count_of rows l
place_of_word rows (names.Bell c l) = bell_of rows c l
place_of_word rows (names.State r) = state_of r
place_of_word rows (names.Draft r w) = draft_of r w
