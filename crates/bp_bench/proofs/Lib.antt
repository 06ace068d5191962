-- Lemmas on the bench's visits to a ledger.

-- rooms that are left, and rooms that were taken, on the nights of a span
pub mod SpanLemmas
