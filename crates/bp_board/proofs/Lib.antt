-- Lemmas on the sums that a board keeps.

-- the price of a span as a difference of two sums that are read
pub mod PriceLemmas
