-- What is said of a judge: what it finds, how many searches it makes, and what it carries along a history.

-- the first place of a history that breaks a rule, and the first rule that it breaks
pub mod Judging
-- which lines may want a search, and how many a history makes at most
pub mod Searches
-- the board of a certificate
pub mod Certified
-- an instance that goes along a history
pub mod Courses
-- solvers that go along a history
pub mod Trails
-- a history that is written anew, line by line
pub mod Replays
