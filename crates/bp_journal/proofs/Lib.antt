-- Lemmas on journals: their lines told apart, what is refused, a legal history as a journal, and what is spelt and
-- read.

-- entries and certificates as lines
pub mod StoredLemmas
-- entries, lines and journals can be told apart
pub mod EntryLemmas
-- the lines of a history can be told apart, entry by entry
pub mod BodyLemmas
-- no line of a journal has an end in it
pub mod EndsOfJournals
-- journals can be told apart, and are read in one way
pub mod SpellingLemmas
-- what a refused line says of the text that it stands in
pub mod PlaceLemmas
-- a legal history can be said
pub mod LegalLemmas
-- sums, certificates and displacements of an instance within the limits are small
pub mod SmallLemmas
-- the numbers of a legal history keep to the reader's limits
pub mod WithinLemmas
-- what is written of a legal history is read as this very history
pub mod WrittenLemmas
-- entries and histories as they are spelt
pub mod SpeltLemmas
-- what of a history is written, place by place
pub mod WritingLemmas
-- what the words of a line tell
pub mod ToldLemmas
-- from the words of a line to the entry that it tells
pub mod EntryLineLemmas
-- whole journals, read
pub mod ReadingLemmas
