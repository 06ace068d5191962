-- Lemmas on the linear program, each page after those that it rests on. All but `LimitLemmas` and `Bands` are cited by
-- other crates.

-- sums over the numbers below a bound: term by term, and in the other order
pub mod SumLemmas
-- the sums of prices from a night to the last one
pub mod Suffixes
-- the price of a span is the fall of the potentials over it
pub mod Spans
-- rooms that change by as much on each night of a span
pub mod RoomLemmas
-- sums of prices to the last night, made from the last night on
pub mod PriceLemmas
-- weak duality
pub mod Duality
-- what it says that no limit of an instance is broken
pub mod LimitLemmas
-- a program with fewer rooms is worth no more, and what certificates tell of the difference
pub mod Fewer
-- changes that are made in two goes
pub mod Appending
-- the price of a night lies between what one room more brings and what one room fewer costs
pub mod Bands
-- least prices and displacements are unique
pub mod Unique
-- the first of the numbers from one on that passes a test
pub mod Firsts
-- what it says that no limit of a house is broken
pub mod HouseLemmas
