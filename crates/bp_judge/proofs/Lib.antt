-- Lemmas on judging.

-- first causes, by the rules that come before
pub mod Firsts
-- one judgement
pub mod Laws
-- what goes along a history goes along each longer one
pub mod Along
-- how judging ends
pub mod Ends
-- what a command comes to
pub mod Asking
-- what reading a line that is no vector owes
pub mod Reading
-- a group for which there are rooms finds its units
pub mod Rooms
-- a line that publishes a vector
pub mod Vectors
-- how many searches are counted
pub mod Counting
-- where the last displacement was found
pub mod Quoting
-- what the lines between two positions move
pub mod Moving
