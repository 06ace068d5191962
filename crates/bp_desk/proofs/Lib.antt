-- Lemmas on passes and their calls, each page after those that it rests on.

-- the sums of a board's prices, as they are filled in from the first night on
pub mod Sums
-- what a caller may do by what it has seen it may do later, where it has the same calls of its own
pub mod Growing
-- what answers say: one is a reply exactly where the call was logged, and a group gets a group's
pub mod Answered
-- a call that was made at a turn: what it leaves of the seat, and what it says
pub mod Made
-- the newest vector, as histories grow
pub mod Knowing
-- what a pass keeps: that its caller may act, and the numbers that it may hand out
pub mod Standing
-- the price of a span, from the newest vector that a pass keeps
pub mod Quoting
-- turns that only read, one after another, and an instance that is carried along them
pub mod ReadingOn
-- what a submission keeps of its pass, whatever it is answered
pub mod Submitted
