-- Cited by other crates, where a kind of text is defined, read, spelt or written.
--
-- A kind whose lines are rows, one form at each place: `KindLemmas`. It asks for an `IsKind` and gives `is_spelling`,
-- `read_more`, `read_refused` and `read_whole`.
-- A kind at whose places several forms may stand: `IsPlace` (specs) and `refused_here` of `StageLemmas`; for its laws an
-- `IsSpelling` by hand.
-- Its laws: `one_spelling` and `prefix_free` of `SpellingLemmas`, `one_way` of `OneWayLemmas`.
-- Its reader behind the last line: `whole_text`, `trailed_text` and `refused_text` of `WholeLemmas`.
-- Its writer: `DraftLemmas`.

-- numbers and their digits
pub mod NumberLemmas
-- lines of words and numbers, told from their bytes
pub mod LineLemmas
-- lines of words: what is joined can be told apart
pub mod WordLemmas
-- the numbers on a line, found from left to right
pub mod FormLemmas
-- why one line is refused
pub mod NextLemmas
-- no line has an end in it
pub mod EndLemmas
-- from a refused line to the text that it stands in
pub mod StageLemmas
-- a kind of text whose reading goes row by row
pub mod KindLemmas
-- from the lines of a text to its bytes
pub mod WholeLemmas
-- texts told apart: one spelling, and none behind another
pub mod SpellingLemmas
-- bytes are read as a text in one way
pub mod OneWayLemmas
-- texts written as they are spelt
pub mod DraftLemmas
