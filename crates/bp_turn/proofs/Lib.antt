-- Lemmas on the rule: it holds of a new table, and each step keeps it. Each page stands after those that it rests on.
-- Other crates cite `Numbers` and `Prefixes`.

-- functions on numbers that are changed at one place, and lists of callers' numbers
pub mod Numbers
-- prefixes of lists, and the longer of two
pub mod Prefixes
-- the entries of one caller in prefixes of the history
pub mod Entries
-- lists of views of which one is changed, one more is added, or two are changed
pub mod Changed
-- no two seats share a number, a ticket or the turn
pub mod Uniqueness
-- the rule holds of a new table
pub mod Opens
-- a seat draws a ticket
pub mod Draws
-- a seat looks which ticket is served, and has the turn and the value at its own
pub mod Calls
-- a seat at its turn adds its entry to the history
pub mod Logs
-- a seat gives the slot back and ends its turn
pub mod Leaves
-- a seat looks at the length, or notes which number it hands out next
pub mod Looks
-- a new seat gets a number of another, or a seat makes a note of what it has seen
pub mod Splits
-- a seat ends in another, or is told what another has seen
pub mod Joins
