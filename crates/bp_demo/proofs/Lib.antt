-- Lemmas on demos.

-- bookings on a short history: none is refused, and the counts grow by the reply
pub mod BookingLemmas
-- what is left on a night is small
pub mod ClosingLemmas
-- what the parts of a summary come to
pub mod SummaryLemmas
-- one summary for one house
pub mod Unique
